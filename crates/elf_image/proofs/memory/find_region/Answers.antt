use Rattle.std.proofs.Common.{false, leb, sym, arith, rules}
use Rattle.std.proofs.lemmas.List.Sorted.{IsPartitionPoint-from_clause, IsPartitionedBy-leb}
use Rattle.elf_image.specs.declared.region.Region.{Region}
use Rattle.elf_image.proofs.Rising.{ends_rise, none_found, not_here}
use Rattle.elf_image.proofs.memory.find_region.Goals as goal
use Rattle.elf_image.proofs.memory.find_region.Goals.{else-index-regions-via-then-index-regions+else-contains, else-index-regions-via-else-index-regions}

pub returns-else-index-regions-clause-none : goal.returns-else-index-regions-clause-none
returns-else-index-regions-clause-none c =
    let rs = c.args.regions.now in
    let a = c.args.address in
    let n = c.partition_point-index.result in
    let none : Region = record { start = 0; end = 0; writable = false; executable = false } in
    let parted = IsPartitionPoint-from_clause (λ (r : Region). leb r.end a) rs n c.partition_point-index.ensures.partitioned
    (IsPartitionedBy-leb (λ (r : Region). r.end) rs a (ends_rise rs 0 c.requires)) (λ x r q k. search rules) in
    none_found rs 0 a n c.requires parted.0 parted.1
    (λ lt d. elim c.else-index-regions.branch [
      | else-index-regions-via-then-index-regions+else-contains w ↦ not_here rs n a d none lt (sym w.if-contains.ensures)
      | else-index-regions-via-else-index-regions w ↦ absurd (omega arith)
    ])
