use Rattle.std.proofs.Common.{arith}
use Rattle.elf_image.proofs.Kept.{number_some, number_none}
use Rattle.elf_image.proofs.image.Image.region_of.Goals as goal

pub overflow_cast-result : goal.overflow_cast-result
overflow_cast-result c = omega (arith, c.in-Some.ensures.few, c.in-Some.ensures.found.in_range)

pub returns-in-Some : goal.returns-in-Some
returns-in-Some c = number_some c.args.self.now c.args.address c.in-Some.index c.in-Some.ensures.ordered c.in-Some.ensures.found

pub returns-in-None : goal.returns-in-None
returns-in-None c = number_none c.args.self.now c.args.address c.in-None.ensures.none
