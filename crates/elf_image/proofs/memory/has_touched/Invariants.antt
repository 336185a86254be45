use Rattle.std.proofs.Common.{ℕ, ◌+◌, ◌<◌, ◌≤◌, get_or}
use Rattle.elf_image.specs.declared.region.Region.{Region}
use Rattle.elf_image.proofs.memory.has_touched.Given as goal

abbrev pub invariant-loop-index : goal.invariant-loop-index
invariant-loop-index l = (k : ℕ) (d : Region) → k + 1 < l.index → (get_or l.regions k d).end ≤ (get_or l.regions (k + 1) d).start
