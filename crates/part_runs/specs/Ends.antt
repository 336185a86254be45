-- What the desk and the traces of threads tell at the end of a round.
use Rattle.std.specs.Prelude.{◌≡◌, ◌≢◌, ℕ, List, []}
use Rattle.run_record.specs.declared.limits.Limits.{Limits}
use Rattle.run_record.specs.declared.report.Side.{Side}
use Rattle.elf_image.specs.File.{granule_address}
use Rattle.run_laws.specs.Moments.{Moment}
use Rattle.trace_parts.specs.Held.{HeldTrace}
use Rattle.slot_desk.specs.Desks.{DeskContents}
use Rattle.report_laws.specs.Awaited.{Awaited, IsToldBy}
use Rattle.detector.specs.Told.{IsOwnedBy, HasOwnerAt, CanBeSought, side_in}
use Rattle.turn_orders.specs.Machine.{State}
use Rattle.turn_orders.specs.LineUp.{Stamped}
use Rattle.shared_table.specs.declared.object.Object.{Object}
use Rattle.woven_turns.specs.Following.{left_after}
use Rattle.placed_detector.specs.Standing.{Hand}
use Rattle.table_deeds.specs.Rounds.{made_in}
use Rattle.hart_parts.specs.Rounds.{PartRound, table_round}
use Rattle.whole_parts.specs.Dues.{state_after_rounds}

-- what threads and the table have when the last of these rounds ends, before an era begins
abbrev pub at_end : State (Stamped Hand) Object → List PartRound → PartRound → State (Stamped Hand) Object
at_end m rs r = let s = state_after_rounds m rs in left_after s (made_in (table_round s r))

abbrev pub trace_of : State (Stamped Hand) Object → ℕ → HeldTrace
trace_of s t = (s.local t).state.watched.trace

-- The access that awaits the round's end can be told, after these moments and with that desk. The desk names the owner of its
-- word's label. Something is in the owner's trace, and the word can be sought there; and the report with the earlier access that
-- the trace tells is told by it.
pub record IsTellable (file : List ℕ) (limits : Limits) (h : List Moment) (s : State (Stamped Hand) Object)
    (d : DeskContents) (one : Awaited) : Type 0 where
  pub owner : HasOwnerAt d one.word
  pub some : (t : ℕ) → IsOwnedBy d one.word t → (trace_of s t).held ≢ []
  pub sought : (t : ℕ) → IsOwnedBy d one.word t → CanBeSought file (trace_of s t) one.granule one.word
  pub tells :
      (t : ℕ) (side : Side) → IsOwnedBy d one.word t → side ≡ side_in file (trace_of s t) one.granule one.word t →
      IsToldBy limits (granule_address file) h one (record { mine = one.mine; previous = side })
