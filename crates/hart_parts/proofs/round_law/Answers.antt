use Rattle.hart_parts.proofs.Rounds.{round_is}
use Rattle.hart_parts.proofs.round_law.Goals as goal

pub returns : goal.returns
returns c = round_is
