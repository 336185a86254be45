use Rattle.std.proofs.Common.{arith}
use Rattle.elf_image.proofs.Rising.{touched}
use Rattle.elf_image.proofs.memory.has_touched.Goals as goal

pub returns-then-regions-index-clause-touched : goal.returns-then-regions-index-clause-touched
returns-then-regions-index-clause-touched c =
    touched c.args.regions.now c.loop-index.index _ (omega arith) (omega arith) c.if-regions-index.true
