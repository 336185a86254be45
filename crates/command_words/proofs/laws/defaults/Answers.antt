use Rattle.std.proofs.Common.{refl}
use Rattle.command_words.proofs.OnLiterals.{words_on_literals}
use Rattle.command_words.proofs.laws.defaults.Goals as goal

pub returns : goal.returns
unfolding words_on_literals
returns c = refl
