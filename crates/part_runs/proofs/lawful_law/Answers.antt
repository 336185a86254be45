use Rattle.part_runs.proofs.Sound.{lawful_with_last}
use Rattle.part_runs.proofs.lawful_law.Goals as goal

pub returns : goal.returns
returns c = lawful_with_last
