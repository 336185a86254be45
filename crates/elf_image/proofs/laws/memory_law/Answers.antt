use Rattle.elf_image.proofs.MemoryLaws.{is_some-granule_of, is_mapped-parts, constant_has_no_granule}
use Rattle.elf_image.proofs.laws.memory_law.Goals as goal

pub returns-clause-writable : goal.returns-clause-writable
returns-clause-writable c file a accepted = is_some-granule_of file a accepted

pub returns-clause-parts : goal.returns-clause-parts
returns-clause-parts c file a accepted = is_mapped-parts file a accepted

pub returns-clause-apart : goal.returns-clause-apart
returns-clause-apart c file a w accepted is = constant_has_no_granule file a w accepted is
