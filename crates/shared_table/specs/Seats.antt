-- A seat at its table.
use Rattle.std.specs.Prelude.{◌≡◌, ℕ, true, [], ◌∷◌, None, Some}
use Rattle.atomic_table.specs.declared.shared.Seat.{Seat}
use Rattle.shared_table.specs.declared.object.Object.{Object}
use Rattle.shared_table.specs.declared.view.Held.{Held}
use Rattle.shared_table.specs.declared.view.View.{View}
use Rattle.shared_table.specs.Layouts.{SharedTable}
use Rattle.shared_table.specs.Past.{Slot, IsSound}
use Rattle.shared_table.specs.Rule.{slot_place}
use Rattle.shared_table.specs.Steps.{Mine, took, gave, IfOpening}

-- a live seat of this table
pub record IsSeatOf (t : SharedTable) (seat : Seat Slot View) : Type 0 where
  pub table : seat.table_id ≡ t.id
  pub live : seat.me.0.live ≡ true
  pub layout : seat.me.0.layout ≡ t.layout

-- it holds no object
abbrev pub IsFree : Mine → Type 0
IsFree me = (me.0.held ≡ None) × (me.1 ≡ [])

-- the opening seat, which holds nothing
pub record IsOpener (t : SharedTable) (seat : Seat Slot View) : Type 0 where
  pub own : IsSeatOf t seat
  pub free : IsFree seat.me
  pub opening : seat.me.0.number ≡ 0

-- it holds this object, whose value is with the caller
abbrev pub Holds : Mine → ℕ → Type 0
Holds me k = (h : Held) × (me.0.held ≡ Some h) × (h.object ≡ k) × (me.1 ≡ (slot_place k, None) ∷ [])

-- A turn of the object began: the log gets the take, with the number of the turn. The value found is sound. The opening seat is told all logs of joined seats.
pub record Took (k : ℕ) (me : Mine) (y : Object) (me' : Mine) : Type 0 where
  pub done : ℕ
  pub log : me' ≡ (took me.0 k done y, (slot_place k, None) ∷ [])
  pub sound : IsSound me.0.layout k y
  pub told : IfOpening me'.0

-- the turn ended: the log gets the give, with the value that the turn found and the one that it left
abbrev pub Gave : Mine → Object → Mine → Type 0
Gave me y me' = (h : Held) → me.0.held ≡ Some h → me' ≡ (gave me.0 h y, [])
