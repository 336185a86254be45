use Rattle.std.proofs.Common.{◌-◌, leb, arith, rules}
use Rattle.std.proofs.lemmas.List.Sorted.{IsPartitionPoint-from_clause, IsPartitionedBy-leb}
use Rattle.symbol_lines.specs.declared.rows.Row.{Row}
use Rattle.symbol_lines.proofs.Looking.{row_at_none, row_at_some}
use Rattle.symbol_lines.proofs.rows.find_row.Goals as goal

pub returns-then-count-eq0 : goal.returns-then-count-eq0
returns-then-count-eq0 c =
    let xs = c.args.rows.now in
    let p = c.args.place in
    let parted = IsPartitionPoint-from_clause (λ (r : Row). leb r.address p) xs c.partition_point-count.result c.partition_point-count.ensures.partitioned (IsPartitionedBy-leb (λ (r : Row). r.address) xs p c.requires) (λ x r q k. search rules) in
    row_at_none xs p (λ k d lt. parted.1 k d (omega arith) lt)

pub returns-else-count-eq0 : goal.returns-else-count-eq0
returns-else-count-eq0 c =
    let xs = c.args.rows.now in
    let p = c.args.place in
    let n = c.partition_point-count.result in
    let d : Row = record { address = 0; line = 0; file = 0 } in
    let parted = IsPartitionPoint-from_clause (λ (r : Row). leb r.address p) xs n c.partition_point-count.ensures.partitioned (IsPartitionedBy-leb (λ (r : Row). r.address) xs p c.requires) (λ x r q k. search rules) in
    row_at_some xs (n - 1) p d (omega arith) (parted.0 (n - 1) d (omega arith) (omega arith)) (λ k e le lt. parted.1 k e (omega arith) lt)
