use Rattle.std.proofs.Common.{◌-◌, None, leb, arith, rules}
use Rattle.std.proofs.lemmas.List.Sorted.{IsPartitionPoint-from_clause, IsPartitionedBy-leb}
use Rattle.symbol_lines.specs.declared.spans.Step.{Step}
use Rattle.symbol_lines.proofs.Tables.{owner_at_none, owner_at_some}
use Rattle.symbol_lines.proofs.spans.find_owner.Goals as goal

pub returns-then-count-eq0 : goal.returns-then-count-eq0
returns-then-count-eq0 c =
    let xs = c.args.steps.now in
    let p = c.args.place in
    let parted = IsPartitionPoint-from_clause (λ (s : Step). leb s.from p) xs c.partition_point-count.result c.partition_point-count.ensures.partitioned (IsPartitionedBy-leb (λ (s : Step). s.from) xs p c.requires) (λ x r q k. search rules) in
    owner_at_none xs p (λ k d lt. parted.1 k d (omega arith) lt)

pub returns-else-count-eq0 : goal.returns-else-count-eq0
returns-else-count-eq0 c =
    let xs = c.args.steps.now in
    let p = c.args.place in
    let n = c.partition_point-count.result in
    let d : Step = record { from = 0; owner = None } in
    let parted = IsPartitionPoint-from_clause (λ (s : Step). leb s.from p) xs n c.partition_point-count.ensures.partitioned (IsPartitionedBy-leb (λ (s : Step). s.from) xs p c.requires) (λ x r q k. search rules) in
    owner_at_some xs (n - 1) p d (omega arith) (parted.0 (n - 1) d (omega arith) (omega arith)) (λ k e le lt. parted.1 k e (omega arith) lt)
