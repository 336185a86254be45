use Rattle.std.proofs.Common.{◌≡◌, ℕ, ◌+◌, ◌≤◌, length, get_or, take}
use Rattle.elf_image.specs.Regions.{granule_count}
use Rattle.elf_image.proofs.memory.first_granules.Given as goal

abbrev pub invariant-loop-region : goal.invariant-loop-region
invariant-loop-region l = record {
  count : length l.firsts.items ≡ l.region-index + 1;
  at : (k : ℕ) → k ≤ l.region-index → get_or l.firsts.items k 0 ≡ granule_count (take k l.regions);
  next : l.next ≡ granule_count (take l.region-index l.regions);
}
