use Rattle.table_deeds.proofs.First.{first_kept}
use Rattle.table_deeds.proofs.first_law.Goals as goal

pub returns : goal.returns
returns c = first_kept
