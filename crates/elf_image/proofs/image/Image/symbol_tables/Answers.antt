use Rattle.elf_image.proofs.Accepting.{has_header}
use Rattle.elf_image.proofs.image.Image.symbol_tables.Goals as goal

pub symbol_tables-requires : goal.symbol_tables-requires
symbol_tables-requires c = has_header c.self.inside.bytes.now c.self.invariant.accepted
