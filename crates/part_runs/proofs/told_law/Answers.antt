use Rattle.part_runs.proofs.Ends.{all_tellable}
use Rattle.part_runs.proofs.told_law.Goals as goal

pub returns : goal.returns
returns c = all_tellable
