use Rattle.table_deeds.proofs.Parts.{parts_of_listed}
use Rattle.table_deeds.proofs.parts_law.Goals as goal

pub returns : goal.returns
returns c file limits era cs made listed line each alone = parts_of_listed file limits era cs made line each alone listed
