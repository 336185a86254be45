use Rattle.offline_audit.proofs.SamePairs.{same_text}
use Rattle.offline_audit.proofs.laws.pair_text_law.Goals as goal

pub returns : goal.returns
returns c = same_text
