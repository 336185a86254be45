use Rattle.elf_image.proofs.Accepting.{has_header}
use Rattle.elf_image.proofs.image.Image.section.Goals as goal

pub section-requires : goal.section-requires
section-requires c = has_header c.self.inside.bytes.now c.self.invariant.accepted
