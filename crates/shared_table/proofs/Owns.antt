-- A seat stays one of its table.
use Rattle.std.proofs.Common.{◌≡◌, ℕ, ◌+◌, List, [], ◌∷◌, Option, None, Some, sym, ap, ◌∙◌, subst, arith}
use Rattle.atomic_table.specs.declared.shared.Seat.{Seat}
use Rattle.shared_table.specs.declared.object.Object.{Object}
use Rattle.shared_table.specs.declared.view.Layout.{Layout}
use Rattle.shared_table.specs.declared.view.Item.{Item}
use Rattle.shared_table.specs.declared.view.Held.{Held}
use Rattle.shared_table.specs.declared.view.View.{View}
use Rattle.shared_table.specs.Layouts.{SharedTable, objects_of}
use Rattle.shared_table.specs.Past.{Slot, IsCellWord}
use Rattle.atomic_table.specs.Table.{rest}
use Rattle.shared_table.specs.Rule.{slot_place, cell_place}
use Rattle.shared_table.specs.Steps.{Mine, logged, took, IfOpening}
use Rattle.shared_table.specs.Seats.{IsSeatOf}

-- the table as its fields show it has the layout that its contracts see
pub layouts : (t u : SharedTable) → u ≡ t → u.layout ≡ t.layout
layouts t u same = ap (λ (x : SharedTable). x.layout) same

pub seat_layout : (t u : SharedTable) (seat : Seat Slot View) → u ≡ t → IsSeatOf t seat → seat.me.0.layout ≡ u.layout
seat_layout t u seat same own = own.layout ∙ sym (layouts t u same)

pub cell_spot : (t u : SharedTable) (seat : Seat Slot View) (c : ℕ) → u ≡ t → IsSeatOf t seat → objects_of u.layout ≡ 65 → 520 + c ≡ cell_place seat.me.0.layout c
cell_spot t u seat c same own long = let n : objects_of seat.me.0.layout ≡ 65 = ap objects_of (seat_layout t u seat same own) ∙ long in omega arith

-- a step that keeps the layout leaves the seat at its table
pub stays : (t : SharedTable) (before after : Seat Slot View) → IsSeatOf t before → after.table_id ≡ before.table_id → after.me.0.live ≡ before.me.0.live → after.me.0.layout ≡ before.me.0.layout → IsSeatOf t after
stays t before after own table live layout = record {
  table = table ∙ own.table;
  live = live ∙ own.live;
  layout = layout ∙ own.layout;
}

pub stays_logged : (t : SharedTable) (before after : Seat Slot View) (x : Item) (h : Option Held) (c : List (ℕ × Slot)) → IsSeatOf t before → after.table_id ≡ before.table_id → after.me ≡ (logged before.me.0 x h, c) → IsSeatOf t after
stays_logged t before after x h c own table is = stays t before after own table (ap (λ (m : Mine). m.0.live) is) (ap (λ (m : Mine). m.0.layout) is)

pub word_of_table : (t u : SharedTable) (seat : Seat Slot View) (w : ℕ) → u ≡ t → IsSeatOf t seat → IsCellWord seat.me.0.layout w → IsCellWord t.layout w
word_of_table t u seat w same own ok = subst (λ (l : Layout). IsCellWord l w) own.layout ok

abbrev first_value : List (ℕ × Slot) → Slot
first_value [] = None
first_value (x ∷ xs) = x.1

-- a take, and then the value out of its slot
pub taken_out : (k half : ℕ) (old mid new : Mine) (y : Object) (r : Slot) → old.1 ≡ [] → mid ≡ (took old.0 k half y, (slot_place k, Some y) ∷ old.1) → mid.1 ≡ (slot_place k, r) ∷ rest mid.1 → new ≡ (mid.0, (slot_place k, None) ∷ rest mid.1)
    → (r ≡ Some y) × (new ≡ (took old.0 k half y, (slot_place k, None) ∷ [])) × (new.0 ≡ mid.0)
taken_out k half old mid new y r free took_ found left =
    let out : mid.1 ≡ (slot_place k, Some y) ∷ [] = ap (λ (m : Mine). m.1) took_ ∙ ap (λ (l : List (ℕ × Slot)). (slot_place k, Some y) ∷ l) free in (
      first_is mid.1 k r y found out,
      left ∙ (λ i. ((took_ i).0, (slot_place k, None) ∷ rest (out i))),
      ap (λ (m : Mine). m.0) left,
    )
  where
    first_is : (l : List (ℕ × Slot)) (k : ℕ) (r : Slot) (y : Object) → l ≡ (slot_place k, r) ∷ rest l → l ≡ (slot_place k, Some y) ∷ [] → r ≡ Some y
    first_is l k r y found out = ap first_value (sym found ∙ out)

pub told_after : (v w : View) → w ≡ v → IfOpening v → IfOpening w
told_after v w same told = subst IfOpening (sym same) told
