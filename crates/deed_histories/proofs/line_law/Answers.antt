use Rattle.deed_histories.proofs.Lines.{follows_deeds}
use Rattle.deed_histories.proofs.line_law.Goals as goal

pub returns : goal.returns
returns c file limits cs m w h ds ok line made s = follows_deeds file limits ok ds cs m w h line made s
