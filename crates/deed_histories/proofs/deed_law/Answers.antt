use Rattle.deed_histories.proofs.Entries.{followed}
use Rattle.deed_histories.proofs.deed_law.Goals as goal

pub returns : goal.returns
returns c file limits cs m w h t k hand held e acts ok s d = followed file limits ok cs m w h s t hand held e k acts d
