use Rattle.std.proofs.Common.{◌-◌, ◌+◌, ◌*◌, ◌≡◌, length}
use Rattle.guest_code.specs.Decoded.{AreDecoded}
use Rattle.guest_code.proofs.block.decoded_region.Given as goal

abbrev pub invariant-words : goal.invariant-words
invariant-words l = (l.pc ≡ l.start + 4 * length l.instrs.items) × AreDecoded l.image l.start l.instrs.items

abbrev pub decreases-words : goal.decreases-words
decreases-words l = l.end - l.pc
