use Rattle.deed_histories.proofs.Rounds.{follows_rounds}
use Rattle.deed_histories.proofs.rounds_law.Goals as goal

pub returns : goal.returns
returns c file limits cs m w h round era base rs ok s is all = follows_rounds file limits ok rs cs m w h round era base s is all
