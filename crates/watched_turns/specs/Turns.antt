-- The joint machine with what each thread keeps of its own events, and with the checks of its accesses.
use Rattle.std.specs.Prelude.{ℕ, ◌+◌, ◌%◌, List, [], ◌∷◌, map, fold, length, Option, Some, None, option_map}
use Rattle.run_record.specs.declared.event.Event.{Event}
use Rattle.run_record.specs.declared.entry.Label.{Label}
use Rattle.run_record.specs.declared.report.KeptLock.{KeptLock}
use Rattle.run_laws.specs.Moments.{Item, Does}
use Rattle.run_laws.specs.Accesses.{Access, access_of}
use Rattle.turn_orders.specs.Machine.{Outcome, State, Turn, Call}
use Rattle.place_turns.specs.Turns as turns
use Rattle.place_clocks.specs.Places.{Own}
use Rattle.place_clocks.specs.Places as clocks
use Rattle.place_clocks.specs.Turns.{label_after, own_after, value_after}
use Rattle.joint_turns.specs.Joint.{Value, joint_turn}
use Rattle.joint_turns.specs.Joint as joint
use Rattle.watched_turns.specs.Watch.{Watch, first_watch, watch_after, watch_noted, watch_along}
use Rattle.watched_turns.specs.Checking.{Checked, Loads, checks_of, race_in}

-- a thread's own state
pub record Local : Type 0 where
  pub joint : joint.Local
  pub watch : Watch

-- A thread takes a slot, makes an instruction whose checks load these words, or begins an entry without a note or with that
-- of a label that it left.
pub data Act : Type 0 where
  attaches : Act
  steps : Loads → Act
  begins : Act
  leaves : Label → Act

abbrev pub joint_act : Act → joint.Act
joint_act attaches = joint.attaches
joint_act (steps loads) = joint.steps
joint_act begins = joint.begins
joint_act (leaves label) = joint.leaves label

-- A loaded word that races, with its check, and with the stack and the locks that the thread has at its access.
pub record Raced : Type 0 where
  pub check : Checked
  pub word : ℕ
  pub frames : List ℕ
  pub locks : List KeptLock

-- What is told: an item of a history; where that is an access, its checks, and the first loaded word that races by the
-- thread's clock.
pub record Told : Type 0 where
  pub item : Item
  pub checks : List Checked
  pub race : Option Raced

abbrev pub Turned : Type 0
Turned = Outcome Local Value (List Told)

abbrev pub unchecked : Item → Told
unchecked item = record { item = item; checks = []; race = None }

-- the joint turn tells the beginning of an entry
abbrev pub noted_turn : Local → Outcome joint.Local Value (List Item) → Turned
noted_turn l r = record { local = record { joint = r.local; watch = fold watch_noted l.watch r.told }; value = r.value; told = map unchecked r.told }

-- the word with its check, and with what the thread keeps
abbrev pub raced_by : Watch → Checked × ℕ → Raced
raced_by w l = record { check = l.0; word = l.1; frames = w.frames; locks = w.locks }

-- An event of a thread with this label, clock and watch. The turn of its checks is by how many events its trace was told
-- before.
abbrev pub event_told : List ℕ → ℕ → (ℕ → ℕ → ℕ) → Own → Watch → Event → Told
event_told file t loads o w e =
    let checks = checks_of file (length w.trace % 4) o.label (access_of e) loads in
    record { item = Does t e; checks = checks; race = option_map (raced_by w) (race_in o.clock checks) }

-- and those after it, the first of which has that number
abbrev pub events_told : List ℕ → ℕ → ℕ → Loads → ℕ → Own → clocks.Value → Watch → List Event → List Told
events_told file g t loads i o v w [] = []
events_told file g t loads i o v w (e ∷ es) = event_told file t (loads i) o w e ∷ events_told file g t loads (i + 1) (own_after g e o v) (value_after g t e o v) (watch_after g o.label w e) es

-- the joint turn of an instruction with these events
abbrev pub step_turn : List ℕ → ℕ → ℕ → Loads → Local → Value → List Event → Outcome joint.Local Value (List Item) → Turned
step_turn file g t loads l v es r = record {
  local = record { joint = r.local; watch = watch_along g t l.joint.own v.clocks l.watch es };
  value = r.value;
  told = events_told file g t loads 0 l.joint.own v.clocks l.watch es;
}

-- the events of the thread's next instruction
abbrev pub events_of : List ℕ → ℕ → ℕ → joint.Local → Value → List Event
events_of file harts t l v = (turns.bare_turn file harts t turns.steps l.bare v.bare).told

-- The turn of a thread of the file's machine, of whose threads so many may live, where g is the greatest epoch.
abbrev pub watched_turn : List ℕ → ℕ → ℕ → Turn Local Value Act (List Told)
watched_turn file harts g t attaches l v = noted_turn l (joint_turn file harts g t joint.attaches l.joint v)
watched_turn file harts g t (steps loads) l v = step_turn file g t loads l v (events_of file harts t l.joint v) (joint_turn file harts g t joint.steps l.joint v)
watched_turn file harts g t begins l v = noted_turn l (joint_turn file harts g t joint.begins l.joint v)
watched_turn file harts g t (leaves label) l v = noted_turn l (joint_turn file harts g t (joint.leaves label) l.joint v)

-- ---- states

abbrev pub joint_of : State Local Value → State joint.Local Value
joint_of m = record { local = λ t. (m.local t).joint; value = m.value }

abbrev pub joint_call : Call Act → Call joint.Act
joint_call c = record { thread = c.thread; place = c.place; act = joint_act c.act }

-- a joint state with what each thread keeps
abbrev pub with_watches : State joint.Local Value → (ℕ → Watch) → State Local Value
with_watches m watch = record { local = λ t. record { joint = m.local t; watch = watch t }; value = m.value }

-- the first state, of so many slots
abbrev pub first_state : List ℕ → ℕ → State Local Value
first_state file slots = with_watches (joint.first_state file slots) (λ t. first_watch)

-- an era begins: each thread keeps its stack, its locks and its trace
abbrev pub era_after : ℕ → State Local Value → State Local Value
era_after slots m = with_watches (joint.era_after slots (joint_of m)) (λ t. (m.local t).watch)

-- ---- which acts may be made

-- an access is made by a thread with a label
abbrev pub IsLabelled : Option Label → Option Access → Type 0
IsLabelled None (Some a) = ⊥
IsLabelled _ _ = Unit {0}

-- so is each access among the events
abbrev pub AreLabelled : ℕ → Option Label → List Event → Type 0
AreLabelled g label [] = Unit {0}
AreLabelled g label (e ∷ es) = IsLabelled label (access_of e) × AreLabelled g (label_after g label e) es

abbrev pub HasLabels : List ℕ → ℕ → ℕ → joint.Local → Value → ℕ → Act → Type 0
HasLabels file harts g l v t (steps loads) = AreLabelled g l.own.label (events_of file harts t l v)
HasLabels file harts g l v t _ = Unit {0}

-- The act is placed as in the joint machine, and its accesses are made with a label. This is told by what the turn finds.
abbrev pub IsPlaced : List ℕ → ℕ → ℕ → Local → Value → ℕ → ℕ → Act → Type 0
IsPlaced file harts g l v t k a = joint.IsPlaced file l.joint v t k (joint_act a) × HasLabels file harts g l.joint v t a
