use Rattle.guest_code.specs.Blocks.{AreBlocks}
use Rattle.guest_code.proofs.code.Code.new.Given as goal

abbrev pub invariant-loop-region : goal.invariant-loop-region
invariant-loop-region l = AreBlocks l.image l.blocks.items
