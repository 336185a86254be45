-- The past of a table: all steps of all seats, the newest first, each with the number of its seat.
-- Read from its end it is one order of all steps. What the words, the objects and the logs are follows from it.
use Rattle.std.specs.Prelude.{◌≡◌, ◌≢◌, ℕ, ◌+◌, ◌*◌, ◌<◌, ◌≤◌, ◌==◌, if◌then◌else◌, List, [], ◌∷◌, ◌++◌, length, slice_index, slice_set, Option, None, Some, IsSomeAnd}
use mathlib.Core.Option.{some}
use lib.ListN.{get_elem?}
use Rattle.run_record.specs.declared.limits.Limits.{Limits}
use Rattle.shadow_word.specs.declared.cell.Cell.{Cell}
use Rattle.shadow_word.specs.Cells.{cell_in}
use Rattle.slot_desk.specs.Desks.{DeskContents}
use Rattle.shared_table.specs.declared.object.DeskState.{DeskState}
use Rattle.shared_table.specs.declared.object.Object.{Object}
use Rattle.shared_table.specs.declared.object.Object.TheVariants.{Desk, Stripe}
use Rattle.shared_table.specs.declared.view.Layout.{Layout}
use Rattle.shared_table.specs.declared.view.Item.{Item}
use Rattle.shared_table.specs.declared.view.Item.TheVariants.{Split, Join, Take, Give, Load, Store}
use Rattle.shared_table.specs.Layouts.{objects_of, cells_of, first_of}

abbrev pub Slot : Type 0
Slot = Option Object

abbrev pub Log : Type 0
Log = List Item

abbrev pub Past : Type 0
Past = List (ℕ × Item)

-- the desk was made for these limits
abbrev pub IsDeskOf : Limits → DeskContents → Type 0
IsDeskOf limits d = (d.harts ≡ limits.harts) × (d.greatest ≡ limits.epochs) × (length d.slots ≡ limits.slots)

-- the machine has as many threads as the desk has, at most 1,024
abbrev pub HasThreads : DeskState → Type 0
HasThreads d = (length d.machine.made ≡ d.desk.made) × (d.desk.made ≤ 1024)

-- A stripe has a word for each granule of its number, and synchronisation objects for the slots of the run.
-- The object 64 is a desk for the limits of the run, with as many threads as the machine has made.
abbrev pub IsSound : Layout → ℕ → Object → Type 0
IsSound lay k (Stripe s) = (k < 64) × (length s.value.words ≡ slice_index lay.sizes k) × (s.value.sync.slots ≡ lay.limits.slots)
IsSound lay k (Desk d) = (k ≡ 64) × IsDeskOf lay.limits d.value.desk × HasThreads d.value

abbrev pub IsSoundSlot : Layout → ℕ → Slot → Type 0
IsSoundSlot lay k None = ⊥
IsSoundSlot lay k (Some x) = IsSound lay k x

-- a word that may be stored in a cell: that of a cell whose slot is one of the run
abbrev pub IsCellWord : Layout → ℕ → Type 0
IsCellWord lay w = IsSomeAnd (cell_in w) (λ (cell : Cell). cell.sid < lay.limits.slots)

-- An object after some past: how many turns are finished, the value that the last one left, and who has the open turn
pub record Turns : Type 0 where
  pub done : ℕ
  pub value : Slot
  pub by : Option ℕ

abbrev pub turns_at : ℕ → Slot → Option ℕ → Turns
turns_at n x by = record { done = n; value = x; by = by }

abbrev pub turns_after : ℕ → ℕ → Item → Turns → Turns
turns_after k n (Take j t) st = if j == k then turns_at st.done st.value (Some n) else st
turns_after k n (Give j t found left) st = if j == k then turns_at (st.done + 1) (Some left) None else st
turns_after k n (Split m) st = st
turns_after k n (Join m) st = st
turns_after k n (Load c w) st = st
turns_after k n (Store c w) st = st

abbrev pub turns_of : Layout → ℕ → Past → Turns
turns_of lay k [] = turns_at 0 (first_of lay k) None
turns_of lay k (x ∷ past) = turns_after k x.0 x.1 (turns_of lay k past)

-- the word of an object is odd exactly while a seat has the turn
abbrev pub word_by : ℕ → Option ℕ → ℕ
word_by done None = 2 * done
word_by done (Some n) = 2 * done + 1

abbrev pub word_of : Turns → ℕ
word_of st = word_by st.done st.by

-- the word of a cell is that of the last store
abbrev pub cell_after : ℕ → Item → ℕ → ℕ
cell_after c (Store j w) was = if j == c then w else was
cell_after c (Take j t) was = was
cell_after c (Give j t found left) was = was
cell_after c (Split m) was = was
cell_after c (Join m) was = was
cell_after c (Load j w) was = was

abbrev pub cell_of : ℕ → Past → ℕ
cell_of c [] = 0
cell_of c (x ∷ past) = cell_after c x.1 (cell_of c past)

-- the steps of the seat n, the oldest first
abbrev pub log_of : ℕ → Past → Log
log_of n [] = []
log_of n (x ∷ past) = if x.0 == n then log_of n past ++ x.1 ∷ [] else log_of n past

-- by number, the log of each seat that was joined, and None for each other that was made
abbrev pub logs_after : Past → Item → List (Option Log) → List (Option Log)
logs_after past (Split m) logs = logs ++ None ∷ []
logs_after past (Join m) logs = slice_set logs m (Some (log_of m past))
logs_after past (Take j t) logs = logs
logs_after past (Give j t found left) logs = logs
logs_after past (Load c w) logs = logs
logs_after past (Store c w) logs = logs

abbrev pub logs_of : Past → List (Option Log)
logs_of [] = None ∷ []
logs_of (x ∷ past) = logs_after past x.1 (logs_of past)

-- the seat n was made and not joined yet
abbrev pub IsOut : Past → ℕ → Type 0
IsOut past n = get_elem? (logs_of past) n ≡ some None

-- which step the seat n may make after a past
abbrev pub Allowed : Layout → Past → ℕ → Item → Type 0
Allowed lay past n (Split m) = (n ≡ 0) × (m ≡ length (logs_of past))
Allowed lay past n (Join m) = (n ≡ 0) × (m ≢ 0) × IsOut past m × ((k : ℕ) → (turns_of lay k past).by ≢ Some m)
Allowed lay past n (Take k t) = (k < objects_of lay) × ((turns_of lay k past).by ≡ None) × (t ≡ (turns_of lay k past).done + 1)
Allowed lay past n (Give k t found left) = (k < objects_of lay) × ((turns_of lay k past).by ≡ Some n) × (t ≡ (turns_of lay k past).done + 1) × ((turns_of lay k past).value ≡ Some found) × IsSound lay k left
Allowed lay past n (Load c w) = (c < cells_of lay) × (w ≡ cell_of c past)
Allowed lay past n (Store c w) = (c < cells_of lay) × IsCellWord lay w

-- each step was made by a seat that was out, and was allowed after the steps before it
abbrev pub Lawful : Layout → Past → Type 0
Lawful lay [] = Unit {0}
Lawful lay (x ∷ past) = IsOut past x.0 × Allowed lay past x.0 x.1 × Lawful lay past
