use Rattle.std.proofs.Common.{length, map}
use Rattle.run_record.specs.Flat.{flat_entries, IsWhole}
use Rattle.run_record.specs.Order.{entries_in}
use Rattle.run_record.specs.Rest.{rest_entries}
use Rattle.run_record.proofs.MergeRests.{Merges}
use Rattle.run_record.proofs.merged.put_merged.Given as goal

abbrev pub invariant-loop-choice : goal.invariant-loop-choice
invariant-loop-choice l = IsWhole l.flat × Merges l.logs (flat_entries l.initial.flat) (flat_entries l.flat) l.rests.items

-- fewer entries are left
abbrev pub decreases-loop-choice : goal.decreases-loop-choice
decreases-loop-choice l = length (entries_in (map rest_entries l.rests.items))
