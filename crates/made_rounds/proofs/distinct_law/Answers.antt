use Rattle.made_rounds.proofs.Distinct.{distinct}
use Rattle.made_rounds.proofs.distinct_law.Goals as goal

pub returns : goal.returns
returns c file limits lay first era parts up is apart = distinct file limits lay first up era parts is apart
