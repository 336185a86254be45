use Rattle.elf_image.proofs.MemoryLaws.{regions_rise, stack_is_region, entry_is_code}
use Rattle.elf_image.proofs.laws.regions_law.Goals as goal

pub returns-clause-rise : goal.returns-clause-rise
returns-clause-rise c file accepted = regions_rise file accepted

pub returns-clause-stack : goal.returns-clause-stack
returns-clause-stack c file = stack_is_region file

pub returns-clause-entry : goal.returns-clause-entry
returns-clause-entry c file accepted = entry_is_code file accepted
