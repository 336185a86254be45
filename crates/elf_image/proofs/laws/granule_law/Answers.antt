use Rattle.elf_image.proofs.MemoryLaws.{few_granules, granule_of-address, granule_below, granule_address-of, addresses_rise}
use Rattle.elf_image.proofs.laws.granule_law.Goals as goal

pub returns-clause-few : goal.returns-clause-few
returns-clause-few c file accepted = few_granules file accepted

pub returns-clause-number : goal.returns-clause-number
returns-clause-number c file g accepted lt = granule_of-address file g accepted lt

pub returns-clause-below : goal.returns-clause-below
returns-clause-below c file a g accepted is = granule_below file a g accepted is

pub returns-clause-address : goal.returns-clause-address
returns-clause-address c file a g accepted is = granule_address-of file a g accepted is

pub returns-clause-rise : goal.returns-clause-rise
returns-clause-rise c file g h accepted lt within = addresses_rise file g h accepted lt within
