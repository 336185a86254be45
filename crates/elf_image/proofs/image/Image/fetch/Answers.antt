use Rattle.elf_image.proofs.Kept.{fetch_outside}
use Rattle.elf_image.proofs.image.Image.fetch.Goals as goal

pub returns-in-None : goal.returns-in-None
returns-in-None c = fetch_outside c.args.self.now c.args.pc c.in-None.ensures.ordered c.in-None.ensures.none
