use Rattle.part_runs.proofs.Sound.{sound}
use Rattle.part_runs.proofs.sound_law.Goals as goal

pub returns : goal.returns
returns c = sound
