-- What each step does to a view, and what it tells.
use Rattle.std.specs.Prelude.{◌≡◌, ◌≢◌, ℕ, ◌+◌, ◌/◌, true, false, [], ◌∷◌, ◌++◌, length, slice_set, Option, None, Some}
use Rattle.atomic_table.specs.Table.{Me, Step}
use Rattle.shared_table.specs.declared.object.Object.{Object}
use Rattle.shared_table.specs.declared.view.Item.{Item}
use Rattle.shared_table.specs.declared.view.Item.TheVariants.{Split, Join, Take, Give, Load, Store}
use Rattle.shared_table.specs.declared.view.Held.{Held}
use Rattle.shared_table.specs.declared.view.View.{View}
use Rattle.shared_table.specs.declared.view.Layout.{Layout}
use Rattle.shared_table.specs.Rule.{word_place, slot_place, cell_place}
use Rattle.shared_table.specs.Past.{Slot, Past, turns_of, log_of, logs_of, Lawful, IsSound, IsCellWord}

abbrev pub Mine : Type 0
Mine = Me Slot View

abbrev pub logged : View → Item → Option Held → View
logged v x held = record { live = v.live; number = v.number; log = v.log ++ x ∷ []; held = held; logs = v.logs; layout = v.layout }

abbrev pub holding : ℕ → ℕ → Object → Held
holding k done y = record { object = k; done = done; found = y }

abbrev pub took : View → ℕ → ℕ → Object → View
took v k done y = logged v (Take k (done + 1)) (Some (holding k done y))

abbrev pub gave : View → Held → Object → View
gave v h y = logged v (Give h.object (h.done + 1) h.found y) None

abbrev pub loaded : View → ℕ → ℕ → View
loaded v c w = logged v (Load c w) v.held

abbrev pub stored : View → ℕ → ℕ → View
stored v c w = logged v (Store c w) v.held

abbrev pub parted : View → View
parted v = record { live = v.live; number = v.number; log = v.log ++ Split (length v.logs) ∷ []; held = v.held; logs = v.logs ++ None ∷ []; layout = v.layout }

abbrev pub new_seat : View → View
new_seat v = record { live = true; number = length v.logs; log = []; held = None; logs = []; layout = v.layout }

abbrev pub joined : View → View → View
joined v w = record { live = v.live; number = v.number; log = v.log ++ Join w.number ∷ []; held = v.held; logs = slice_set v.logs w.number (Some w.log); layout = v.layout }

abbrev pub no_layout : Layout
no_layout = record { firsts = []; sizes = []; granules = 0; limits = record { harts = 0; slots = 0; epochs = 0; steps = 0; quantum = 0; parts = 0; part_words = 0 } }

abbrev pub spent : View
spent = record { live = false; number = 0; log = []; held = None; logs = []; layout = no_layout }

-- what a seat found when it took the object that it holds is what the last turn of that left
abbrev pub FoundLast : Layout → Past → Option Held → Type 0
FoundLast lay past None = Unit {0}
FoundLast lay past (Some h) = (turns_of lay h.object past).value ≡ Some h.found

-- there is a lawful past of which these are the logs, and by it the seat found what it holds
abbrev pub Told : View → Type 0
Told v = (past : Past) × Lawful v.layout past × (v.logs ≡ logs_of past) × (v.log ≡ log_of 0 past) × FoundLast v.layout past v.held

abbrev pub IfOpening : View → Type 0
IfOpening v = v.number ≡ 0 → Told v

-- A try at a free object: where it found the word that it expected, the turn begins, the seat holds the slot with its value, and the opening seat is told all logs.
abbrev pub taken : Step Slot → Mine → ℕ → Mine → Type 0
taken st me r me' =
    (r ≡ st.first → (k : ℕ) → st.word ≡ word_place k → (y : Object) × IsSound me.0.layout k y × (me' ≡ (took me.0 k (st.first / 2) y, (slot_place k, Some y) ∷ me.1)) × IfOpening me'.0)
    × (r ≢ st.first → me' ≡ me)

-- the turn ends, with the value that the seat put into the slot
abbrev pub given : Step Slot → Mine → ℕ → Mine → Type 0
given st me r me' = (h : Held) (slot : ℕ) (y : Object) → me.0.held ≡ Some h → me.1 ≡ (slot, Some y) ∷ [] → me' ≡ (gave me.0 h y, [])

abbrev pub load_told : Step Slot → Mine → ℕ → Mine → Type 0
load_told st me r me' = (c : ℕ) → st.word ≡ cell_place me.0.layout c → (me' ≡ (loaded me.0 c r, me.1)) × (r ≢ 0 → IsCellWord me.0.layout r)

abbrev pub store_told : Step Slot → Mine → ℕ → Mine → Type 0
store_told st me r me' = (c : ℕ) → st.word ≡ cell_place me.0.layout c → me' ≡ (stored me.0 c st.first, me.1)

-- a look that changes nothing and tells the opening seat all logs
abbrev pub learned : Step Slot → Mine → ℕ → Mine → Type 0
learned st me r me' = (me' ≡ me) × IfOpening me.0
