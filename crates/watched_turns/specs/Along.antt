-- The watched machine beside the bare machine and a history.
use Rattle.std.specs.Prelude.{◌≡◌, ℕ, suc, List, [], ◌∷◌, map, find, All, Option, option_map}
use Rattle.std.specs.List.{flat_map}
use Rattle.run_record.specs.declared.event.Event.{Event}
use Rattle.run_record.specs.declared.entry.Check.{Check}
use Rattle.run_laws.specs.Moments.{Item, Does, Moment, moment_at, items}
use Rattle.run_laws.specs.Accesses.{access_of}
use Rattle.run_laws.specs.Clocks.{clocks}
use Rattle.run_laws.specs.Stacks.{frames, kept_locks}
use Rattle.run_laws.specs.Window.{trace_before}
use Rattle.run_laws.specs.Checks.{AreChecks, StoresRightly}
use Rattle.run_laws.specs.Candidates.{is_race, loaded_by}
use Rattle.elf_image.specs.File.{granule_of}
use Rattle.bare_machine.specs.World.{World}
use Rattle.turn_orders.specs.Machine.{Call, State, next}
use Rattle.turn_orders.specs.LineUp.{Deed, Stamped}
use Rattle.joint_turns.specs.Joint.{Value}
use Rattle.joint_turns.specs.Along.{IsJoint, world_along}
use Rattle.watched_turns.specs.Watch.{Watch}
use Rattle.watched_turns.specs.Checking.{checked_of}
use Rattle.watched_turns.specs.Turns.{Local, Act, Raced, Told, watched_turn, joint_of, joint_call, IsPlaced}

-- ---- what is told, beside a history

-- the moment at the position has the item and the checks that were told
pub record StandsAt (h : List Moment) (n : ℕ) (x : Told) : Type 0 where
  pub item : items h n ≡ x.item
  pub checks : map checked_of (moment_at h n).checks ≡ x.checks

-- what was told stands in the history from position n on
abbrev pub StandFrom : List Moment → ℕ → List Told → Type 0
StandFrom h n [] = Unit {0}
StandFrom h n (x ∷ xs) = StandsAt h n x × StandFrom h (suc n) xs

-- the first loaded word of the moment at n that thread t's clock finds to race, with its check
abbrev pub race_by_clock : ℕ → List Moment → ℕ → ℕ → Option (Check × ℕ)
race_by_clock g h n t = find (λ (l : Check × ℕ). is_race ((clocks g (items h) n).thread t) l.0.word l.1) (loaded_by (moment_at h n))

-- thread t's loaded word at position n, with its check, and the stack and the locks that the thread has there
abbrev pub raced_at : List Moment → ℕ → ℕ → Check × ℕ → Raced
raced_at h n t l = record { check = checked_of l.0; word = l.1; frames = frames h n t; locks = kept_locks h n t }

-- Thread t's event at n has its checks, each stores by the rule, and the word that races by the clock is told with the
-- thread's stack and locks there.
pub record IsRightEvent
    (file : List ℕ) (g : ℕ) (h : List Moment) (n t : ℕ) (e : Event) (race : Option Raced) : Type 0 where
  pub checks : AreChecks g (granule_of file) h n t (access_of e)
  pub stores : All StoresRightly (moment_at h n).checks
  pub race_is : race ≡ option_map (raced_at h n t) (race_by_clock g h n t)

abbrev pub IsRight : List ℕ → ℕ → List Moment → ℕ → Item → Option Raced → Type 0
IsRight file g h n (Does t e) race = IsRightEvent file g h n t e race
IsRight file g h n _ race = Unit {0}

-- each event that was told, from position n on
abbrev pub AreRight : List ℕ → ℕ → List Moment → ℕ → List Told → Type 0
AreRight file g h n [] = Unit {0}
AreRight file g h n (x ∷ xs) = IsRight file g h n x.item x.race × AreRight file g h (suc n) xs

-- ---- what stands

-- The thread has the stack, the locks and the trace that it has in the history at position n.
pub record HasWatch (g : ℕ) (h : List Moment) (n t : ℕ) (w : Watch) : Type 0 where
  pub frames : w.frames ≡ frames h n t
  pub locks : w.locks ≡ kept_locks h n t
  pub trace : w.trace ≡ trace_before g (items h) n t

-- The state has besides the world's threads, memory, output and end, and the history's labels, clocks and queue.
pub record IsWatched (file : List ℕ) (harts g slots : ℕ) (w : World) (h : List Moment) (n : ℕ) (m : State Local Value) : Type 0 where
  pub joint : IsJoint file harts g slots w (items h) n (joint_of m)
  pub watches : (t : ℕ) → HasWatch g h n t (m.local t).watch

-- ---- calls

-- each call is placed in the state that the calls before it left
abbrev pub ArePlaced : List ℕ → ℕ → ℕ → State Local Value → List (Call Act) → Type 0
ArePlaced file harts g m [] = Unit {0}
ArePlaced file harts g m (c ∷ cs) = IsPlaced file harts g (m.local c.thread) (m.value c.place) c.thread c.place c.act × ArePlaced file harts g (next (watched_turn file harts g) m c) cs

-- all that calls told as one list
abbrev pub all_of : List (List Told) → List Told
all_of told = flat_map (λ (xs : List Told). xs) told

-- the items that each told
abbrev pub items_told : List (List Told) → List (List Item)
items_told told = map (λ (xs : List Told). map (λ (x : Told). x.item) xs) told

-- the bare machine's world after the calls
abbrev pub world_after : List ℕ → World → List (Call Act) → World
world_after file w cs = world_along file w (map joint_call cs)

-- ---- turns of several acts, as they were made

-- a turn of several acts, which draws a stamp
abbrev pub StampedDeed : Type 0
StampedDeed = Deed (Stamped Local) (Stamped Value) (List Act) (Stamped (List (List Told)))

-- each act is placed by what the acts before it left
abbrev pub WerePlaced : List ℕ → ℕ → ℕ → Local → Value → ℕ → ℕ → List Act → Type 0
WerePlaced file harts g l v t k [] = Unit {0}
WerePlaced file harts g l v t k (a ∷ rest) =
    let r = watched_turn file harts g t a l v in
    IsPlaced file harts g l v t k a × WerePlaced file harts g r.local r.value t k rest

-- so is each act of the turn, from what it found on
abbrev pub WasPlaced : List ℕ → ℕ → ℕ → StampedDeed → Type 0
WasPlaced file harts g d = WerePlaced file harts g d.local_found.state d.found.state d.call.thread d.call.place d.call.act

-- what each act of the turns told
abbrev pub told_of : List StampedDeed → List (List Told)
told_of ds = flat_map (λ (d : StampedDeed). d.told.state) ds
