-- The earlier access that the state of a thread tells.
use Rattle.std.specs.Prelude.{◌≡◌, ℕ, List, slice_get, Option, Some}
use Rattle.run_record.specs.declared.report.Side.{Side}
use Rattle.slot_desk.specs.Desks.{DeskContents}
use Rattle.report_laws.specs.Awaited.{Awaited}
use Rattle.detector.specs.Told.{IsOwnedBy, side_in}
use Rattle.hart_turns.specs.declared.slots.ThreadState.{ThreadState}

-- The desk names the thread whose label the word has, and what the trace in the state of that thread tells of the word is that.
pub record TellsSide (file : List ℕ) (states : List (Option ThreadState)) (d : DeskContents) (one : Awaited) (side : Side) : Type 0 where
  pub tid : ℕ
  pub owned : IsOwnedBy d one.word tid
  pub state : ThreadState
  pub there : slice_get states tid ≡ Some (Some state)
  pub side_is : side ≡ side_in file state.watcher.trace one.granule one.word tid
