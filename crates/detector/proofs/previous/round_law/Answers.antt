use Rattle.detector.proofs.ToldLaws.{dropped}
use Rattle.detector.proofs.previous.round_law.Goals as goal

pub returns : goal.returns
returns c = dropped
