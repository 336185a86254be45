use Rattle.elf_image.proofs.MemoryLaws.{granule_of-block, one_block}
use Rattle.elf_image.proofs.laws.block_law.Goals as goal

pub returns-clause-same : goal.returns-clause-same
returns-clause-same c file a accepted = granule_of-block file a accepted

pub returns-clause-one : goal.returns-clause-one
returns-clause-one c file a b g accepted first second = one_block file a b g accepted first second
