-- The reports that are told at a round's end, of the accesses that wait for it.
use Rattle.std.specs.Prelude.{◌≡◌, ℕ, Bool, List, fold, slice_get, All, Option, Some}
use Rattle.std.specs.List.{AllZip}
use Rattle.run_record.specs.declared.limits.Limits.{Limits}
use Rattle.run_record.specs.declared.report.Report.{Report}
use Rattle.elf_image.specs.File.{granule_address}
use Rattle.run_laws.specs.Moments.{Moment}
use Rattle.run_laws.specs.Reports.{Kept, kept_after}
use Rattle.trace_parts.specs.Held.{with_spare}
use Rattle.turn_orders.specs.Machine.{State}
use Rattle.turn_orders.specs.LineUp.{Stamped}
use Rattle.slot_desk.specs.Desks.{DeskContents}
use Rattle.report_laws.specs.Awaited.{Awaited, IsToldBy}
use Rattle.shared_table.specs.declared.object.Object.{Object}
use Rattle.placed_detector.specs.Standing.{Hand}
use Rattle.part_runs.specs.Ends.{IsTellable, trace_of}
use Rattle.part_races.specs.Sorting.{Keyed}
use Rattle.hart_turns.specs.declared.slots.ThreadState.{ThreadState}
use Rattle.part_workers.specs.Parts.{keyed_in}
use Rattle.hart_workers.specs.declared.pending.Pending.{Pending}

-- an access that waits, as the laws of races have it
abbrev pub keyed_of_pending : Pending → Keyed
keyed_of_pending p = keyed_in p.tid p.waiting

-- The kept states have the traces that their threads have at the round's end.
abbrev pub HaveTraces : State (Stamped Hand) Object → List (Option ThreadState) → Type 0
HaveTraces ends states =
    (t : ℕ) (x : ThreadState) → slice_get states t ≡ Some (Some x) → with_spare 0 x.watcher.trace ≡ trace_of ends t

-- Each access that waits can be told, after the moments of some history, with the desk and these states of threads.
pub record CanTell (file : List ℕ) (states : List (Option ThreadState)) (d : DeskContents) (awaited : List Awaited) : Type 0 where
  pub limits : Limits
  pub h : List Moment
  pub ends : State (Stamped Hand) Object
  pub traces : HaveTraces ends states
  pub tellable : All (IsTellable file limits h ends d) awaited

-- A report was told of each, in order, and offered by the rules that two stacks may meet. Wherever they can be told, they are told
-- so.
pub record TellsReports (meets : Option (List ℕ) → Option (List ℕ) → Bool) (file : List ℕ) (states : List (Option ThreadState))
    (d : DeskContents) (awaited : List Awaited) (before after : Kept) : Type 0 where
  pub told : List Report
  pub tells :
      (limits : Limits) (h : List Moment) (ends : State (Stamped Hand) Object) → HaveTraces ends states →
      All (IsTellable file limits h ends d) awaited → AllZip (IsToldBy limits (granule_address file) h) awaited told
  pub kept : after ≡ fold (kept_after meets) before told
