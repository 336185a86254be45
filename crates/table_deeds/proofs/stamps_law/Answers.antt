use Rattle.table_deeds.proofs.Stamps.{next_stamps}
use Rattle.table_deeds.proofs.stamps_law.Goals as goal

pub returns : goal.returns
returns c = next_stamps
