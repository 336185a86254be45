-- One turn of a thread: what it adds to a history, and what it needs.
use Rattle.std.specs.Prelude.{◌≡◌, ◌≢◌, ◌<◌, ◌≤◌, ◌+◌, ℕ, true, List, [], ◌∷◌, ◌++◌, length, All, slice_get, Option, Some, None, option_map, option_to_list}
use Rattle.run_record.specs.declared.event.Event.{Event}
use Rattle.run_record.specs.declared.entry.Entry.{Entry}
use Rattle.run_record.specs.declared.entry.Check.{Check}
use Rattle.run_record.specs.declared.entry.Label.{Label}
use Rattle.run_record.specs.declared.entry.DeskNote.{DeskNote}
use Rattle.run_record.specs.declared.entry.DeskNote.TheVariants.{Nothing, Attach, Leave}
use Rattle.run_record.specs.declared.limits.Limits.{Limits}
use Rattle.run_laws.specs.Moments.{Notes, Moment, entry_moments, moments_in}
use Rattle.run_laws.specs.Checks.{IsGrouped}
use Rattle.run_laws.specs.Faithful.{Bare, IsMade, after, has_needy, object_of, state_after, state_before}
use Rattle.run_laws.specs.Present.{label_now, labels_now, queue_now}
use Rattle.turn_laws.specs.Going.{AreRightFrom, HasSpent}

-- Some instructions of a thread in a round: the label that it takes before them, their events and checks, and
-- the label that they spend, which it leaves.
pub record Turn : Type 0 where
  pub round : ℕ
  pub era : ℕ
  pub tid : ℕ
  pub steps : ℕ
  pub attached : Option Label
  pub events : List Event
  pub checks : List Check
  pub left : Option Label

-- an entry without instructions
abbrev pub note_entry : ℕ → Turn → DeskNote → Entry
note_entry stamp turn note =
    record { round = turn.round; era = turn.era; stamp = stamp; tid = turn.tid; steps = 0; note = note; events = []; checks = [] }

abbrev pub attach_entry : ℕ → Turn → Label → Entry
attach_entry stamp turn l = note_entry stamp turn (Attach l)

abbrev pub leave_entry : ℕ → Turn → Label → Entry
leave_entry stamp turn l = note_entry stamp turn (Leave l)

-- the entry of the instructions
abbrev pub instructions_entry : ℕ → Turn → Entry
instructions_entry stamp turn =
    record { round = turn.round; era = turn.era; stamp = stamp; tid = turn.tid; steps = turn.steps; note = Nothing; events = turn.events; checks = turn.checks }

-- the entry of the label that is taken, if one is, after n entries
abbrev pub attach_entries : ℕ → Turn → List Entry
attach_entries n turn = option_to_list (option_map (attach_entry (n + 1) turn) turn.attached)

-- the entry of the label that is left, if one is, after n entries
abbrev pub leave_entries : ℕ → Turn → List Entry
leave_entries n turn = option_to_list (option_map (leave_entry (n + 1) turn) turn.left)

-- the entries before the instructions of a turn that follows the entries
abbrev pub entries_before : List Entry → Turn → List Entry
entries_before entries turn = entries ++ attach_entries (length entries) turn

-- the entry of its instructions
abbrev pub main_entry : List Entry → Turn → Entry
main_entry entries turn = instructions_entry (length (entries_before entries turn) + 1) turn

-- The entries of a turn after n others: the label that is taken, the instructions, the label that is left.
-- Stamps are numbers from 1.
abbrev pub entries_of : ℕ → Turn → List Entry
entries_of n turn =
    let k = n + length (attach_entries n turn) in
    attach_entries n turn ++ (instructions_entry (k + 1) turn ∷ leave_entries (k + 1) turn)

-- the moments before the instructions of the turn
abbrev pub moments_before : List Entry → Turn → List Moment
moments_before entries turn = moments_in turn.round turn.era (entries_before entries turn)

-- and those up to their end
abbrev pub moments_up_to : List Entry → Turn → List Moment
moments_up_to entries turn = moments_before entries turn ++ entry_moments (length (entries_before entries turn)) (main_entry entries turn)

-- the beginning of entry i of the turn, with that note
abbrev pub note_moment : ℕ → Turn → DeskNote → Moment
note_moment i turn note = record { entry = i; round = turn.round; item = Notes turn.tid note; checks = [] }

-- the moment at which the label is taken, if one is, where that entry is the i-th
abbrev pub attach_moments : ℕ → Turn → List Moment
attach_moments i turn = option_to_list (option_map (λ (l : Label). note_moment i turn (Attach l)) turn.attached)

-- the moment at which the label is left, if one is, where that entry is the i-th
abbrev pub leave_moments : ℕ → Turn → List Moment
leave_moments i turn = option_to_list (option_map (λ (l : Label). note_moment i turn (Leave l)) turn.left)

-- the turn with one more event and its checks
abbrev pub turn_with_event : Turn → Event → List Check → Turn
turn_with_event turn event checks = record turn { events = turn.events ++ event ∷ []; checks = turn.checks ++ checks }

-- from state s on, the entry with its thread's next instruction
abbrev pub with_instruction : {S : Type 0} → Bare S → S → Entry → Entry
with_instruction bare s e = record e { steps = e.steps + 1; events = e.events ++ (bare.step (after bare s e.tid e.steps) e.tid).events }

-- each earlier entry of the thread's instructions in that round ended in one that uses an object
abbrev pub GoesOn : {S : Type 0} → Bare S → List Entry → ℕ → ℕ → Type 0
GoesOn bare entries t round =
    (i : ℕ) (f : Entry) → slice_get entries i ≡ Some f → f.tid ≡ t → f.round ≡ round → 0 < f.steps →
    object_of bare (state_before bare entries i) f ≢ None

-- The thread may take the label: it has none, the label is of the queue's front, one epoch after the slot's
-- last in the present era, and one of the thread's instructions needs a slot.
pub record MayTake {S : Type 0} (limits : Limits) (bare : Bare S) (entries : List Entry) (turn : Turn) (l : Label) : Type 0 where
  pub unlabelled : (labels_now limits.epochs (moments_in turn.round turn.era entries)).slot_of turn.tid ≡ None
  pub rest : List ℕ
  pub front : queue_now limits.epochs limits.slots (moments_in turn.round turn.era entries) ≡ l.sid ∷ rest
  pub new_epoch : l.epoch ≡ (labels_now limits.epochs (moments_in turn.round turn.era entries)).epoch l.sid + 1
  pub present_era : l.era ≡ (labels_now limits.epochs (moments_in turn.round turn.era entries)).era
  pub needed : has_needy bare (state_after bare entries) (main_entry entries turn) ≡ true

-- The turn may follow the entries. Its instructions are the thread's next ones, of which only the last may use
-- an object; the thread's earlier instructions of the round ended in one that does. It takes a label only as
-- it may, and needs one where an instruction does; its checks stand rightly; and it leaves the label that its
-- instructions spent.
pub record IsTurn {S : Type 0} (limits : Limits) (bare : Bare S) (granule_of : ℕ → Option ℕ) (entries : List Entry) (turn : Turn) : Type 0 where
  pub some_steps : 0 < turn.steps
  pub made : IsMade bare (state_after bare entries) (main_entry entries turn)
  pub apart :
      (k : ℕ) → k + 1 < turn.steps → (bare.step (after bare (state_after bare entries) turn.tid k) turn.tid).object ≡ None
  pub goes_on : GoesOn bare entries turn.tid turn.round
  pub rounds_so_far : All (λ (e : Entry). e.round ≤ turn.round) entries
  pub eras_so_far : All (λ (e : Entry). e.era ≤ turn.era) entries
  pub taken : (l : Label) → turn.attached ≡ Some l → MayTake limits bare entries turn l
  pub labelled :
      turn.attached ≡ None → has_needy bare (state_after bare entries) (main_entry entries turn) ≡ true →
      label_now limits.epochs (moments_in turn.round turn.era entries) turn.tid ≢ None
  pub grouped : IsGrouped (main_entry entries turn)
  pub right : AreRightFrom limits.epochs granule_of (moments_up_to entries turn) (length (moments_before entries turn))
  pub spent : HasSpent limits (moments_up_to entries turn) (length (moments_before entries turn)) turn.tid turn.left
