use Rattle.std.proofs.Common.{ℕ, ◌-◌, ◌≤◌, leb, rules}
use Rattle.std.proofs.lemmas.List.Sorted.{IsPartitionPoint-from_clause, IsPartitionedBy-leb}
use Rattle.elf_image.specs.Regions.{IsHome}
use Rattle.elf_image.proofs.Rising.{firsts_rise, home_found}
use Rattle.elf_image.proofs.memory.home_of.Goals as goal

found : (c : goal.After-partition_point) → (1 ≤ c.partition_point.result) × IsHome c.args.regions.now c.args.granule (c.partition_point.result - 1)
found c =
    let rs = c.args.regions.now in
    let firsts = c.args.firsts.now in
    let g = c.args.granule in
    let n = c.partition_point.result in
    let parted = IsPartitionPoint-from_clause (λ (m : ℕ). leb m g) firsts n c.partition_point.ensures.partitioned
    (IsPartitionedBy-leb (λ (m : ℕ). m) firsts g (firsts_rise rs firsts c.requires.numbered)) (λ x r q k. search rules) in
    home_found rs firsts g n c.requires.numbered c.requires.below c.partition_point.ensures.bound parted.0 parted.1

pub overflow_sub-result : goal.overflow_sub-result
overflow_sub-result c = (found c).0

pub returns : goal.returns
returns c = (found c).1
