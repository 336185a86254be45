use Rattle.turn_histories.proofs.Faithful.{faithful}
use Rattle.turn_histories.proofs.faithful_law.Goals as goal

pub returns : goal.returns
returns c file harts g slots rs ess ok rounds of = faithful file harts g slots ok rs ess rounds of
