use Rattle.std.proofs.Common.{◌-◌, leb, arith, rules}
use Rattle.std.proofs.lemmas.List.Sorted.{IsPartitionPoint-from_clause, IsPartitionedBy-leb}
use Rattle.offline_audit.specs.declared.heard.Step.{Step}
use Rattle.offline_audit.proofs.Entries.{nothing}
use Rattle.offline_audit.proofs.OrderLaws.{none_by, last_by, rising_at}
use Rattle.offline_audit.proofs.order.known_by.Goals as goal

pub returns-then-after-eq0 : goal.returns-then-after-eq0
returns-then-after-eq0 c = λ rising x.
    let xs = c.args.steps.now in
    let n = c.partition_point-after.result in
    let at = c.args.at in
    let parted = IsPartitionPoint-from_clause (λ (s : Step). leb s.at at) xs n c.partition_point-after.ensures.partitioned
    (IsPartitionedBy-leb (λ (s : Step). s.at) xs at (rising_at xs rising)) (λ x r q k. search rules) in
    none_by xs at x (λ k d l m. let f = parted.1 k d (omega arith) m in grind arith)

pub returns-else-after-eq0 : goal.returns-else-after-eq0
returns-else-after-eq0 c = λ rising x.
    let xs = c.args.steps.now in
    let n = c.partition_point-after.result in
    let at = c.args.at in
    let parted = IsPartitionPoint-from_clause (λ (s : Step). leb s.at at) xs n c.partition_point-after.ensures.partitioned
    (IsPartitionedBy-leb (λ (s : Step). s.at) xs at (rising_at xs rising)) (λ x r q k. search rules) in
    let bound = c.partition_point-after.ensures.bound in
    last_by xs at (n - 1) x rising (omega arith)
    (let f = parted.0 (n - 1) nothing (omega arith) (omega arith) in grind arith)
    (λ k l m. let f = parted.1 k nothing (omega arith) m in grind arith)
