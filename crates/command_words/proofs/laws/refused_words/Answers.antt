use Rattle.std.proofs.Common.{refl}
use Rattle.command_words.proofs.OnLiterals.{words_on_literals}
use Rattle.command_words.proofs.laws.refused_words.Goals as goal

pub returns : goal.returns
unfolding words_on_literals
returns c = record { none = refl; no_text = refl; unknown = refl; help = refl; short_help = refl; third = refl }
