use Rattle.std.proofs.Common.{◌≡◌, ◌≤◌, ◌<◌, ◌/◌, ◌*◌, ℕ, None}
use Rattle.elf_image.specs.File.{granule_of}
use Rattle.offline_audit.proofs.races.has_granule.Given as goal

-- no block so far is a granule
abbrev pub invariant-loop-block : goal.invariant-loop-block
invariant-loop-block l = (k : ℕ) → l.low / 8 ≤ k → k < l.block → granule_of l.image (8 * k) ≡ None
