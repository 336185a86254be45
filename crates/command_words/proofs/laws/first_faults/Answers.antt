use Rattle.std.proofs.Common.{refl}
use Rattle.command_words.proofs.OnLiterals.{words_on_literals}
use Rattle.command_words.proofs.laws.first_faults.Goals as goal

pub returns : goal.returns
unfolding words_on_literals
returns c = record { command = refl; file = refl; number = refl; plan = refl; slots = refl }
