-- The rule of the table.
use Rattle.std.specs.Prelude.{◌≡◌, ℕ, ◌+◌, ◌*◌, ◌<◌, true, [], ◌∷◌, length, slice_index, Option, None, Some}
use mathlib.Core.Option.{Option as Maybe, some, none}
use lib.ListN.{get_elem?}
use Rattle.atomic_table.specs.Table.{State}
use Rattle.shared_table.specs.declared.view.Held.{Held}
use Rattle.shared_table.specs.declared.view.View.{View}
use Rattle.shared_table.specs.declared.view.Layout.{Layout}
use Rattle.shared_table.specs.Layouts.{objects_of, cells_of, first_of}
use Rattle.shared_table.specs.Past.{Slot, IsSoundSlot, Past, Turns, turns_at, turns_of, word_of, cell_of, log_of, logs_of, IsOut, Lawful}

abbrev pub home_by : Slot → Option ℕ → Maybe Slot
home_by x None = some x
home_by x (Some n) = none

abbrev pub home_of : Turns → Maybe Slot
home_of st = home_by st.value st.by

-- the opening seat as it begins
abbrev pub opener : Layout → View
opener lay = record { live = true; number = 0; log = []; held = None; logs = None ∷ []; layout = lay }

-- the seat n has the open turn that it says
abbrev pub HasTurn : Layout → Past → ℕ → Option Held → Type 0
HasTurn lay past n None = Unit {0}
HasTurn lay past n (Some h) = (turns_of lay h.object past ≡ turns_at h.done (Some h.found) (Some n)) × (h.object < objects_of lay) × (2 * h.done + 2 < 18446744073709551616)

abbrev pub HoldsObject : ℕ → Option Held → Type 0
HoldsObject k None = ⊥
HoldsObject k (Some h) = h.object ≡ k

pub record Knows (lay : Layout) (past : Past) (v : View) : Type 0 where
  pub out : IsOut past v.number
  pub log : v.log ≡ log_of v.number past
  pub turn : HasTurn lay past v.number v.held
  pub only : (k : ℕ) → (turns_of lay k past).by ≡ Some v.number → HoldsObject k v.held
  pub logs : v.number ≡ 0 → v.logs ≡ logs_of past
  pub same_layout : v.layout ≡ lay

-- Words and values stand apart, so that threads at two objects don't share a line of the processor's cache: the word of object k is word 8 k, its value is in slot 4 k, and the cells come after the words of the objects.
abbrev pub word_place : ℕ → ℕ
word_place k = 8 * k

abbrev pub slot_place : ℕ → ℕ
slot_place k = 4 * k

abbrev pub cell_place : Layout → ℕ → ℕ
cell_place lay c = 8 * objects_of lay + c

-- There is a lawful past of which all is told: the objects' words and the values at home, the cells' words, and what each live seat knows. Each seat that is out has one live view.
pub record Kept (lay : Layout) (s : State Slot View) : Type 0 where
  pub past : Past
  pub lawful : Lawful lay past
  pub sound : (k : ℕ) → k < objects_of lay → IsSoundSlot lay k (first_of lay k)
  pub wide : length s.words ≡ 8 * objects_of lay + cells_of lay
  pub words : (k : ℕ) → k < objects_of lay → slice_index s.words (word_place k) ≡ word_of (turns_of lay k past)
  pub homes : (k : ℕ) → k < objects_of lay → get_elem? s.homes (slot_place k) ≡ some (home_of (turns_of lay k past))
  pub stores : (c : ℕ) → c < cells_of lay → slice_index s.words (cell_place lay c) ≡ cell_of c past
  pub seats : (j : ℕ) (v : View) → get_elem? s.views j ≡ some v → v.live ≡ true → Knows lay past v
  pub apart : (i j : ℕ) (v w : View) → get_elem? s.views i ≡ some v → get_elem? s.views j ≡ some w → v.live ≡ true → w.live ≡ true → v.number ≡ w.number → i ≡ j
  pub present : (n : ℕ) → IsOut past n → (j : ℕ) × (v : View) × (get_elem? s.views j ≡ some v) × (v.live ≡ true) × (v.number ≡ n)
