use Rattle.std.proofs.Common.{◌≡◌, ◌++◌, ◌∷◌, List, [], ℕ, Err, codes, refl}
use Rattle.command_words.specs.Requests.{request_of}
use Rattle.command_words.specs.declared.request.UsageFault.TheVariants as fault
use Rattle.command_words.proofs.EachOption.{each_option}
use Rattle.command_words.proofs.OnLiterals.{words_on_literals}
use Rattle.command_words.proofs.laws.no_option_twice.Goals as goal

abbrev IsRefusedTwice : List ℕ → Type 0
IsRefusedTwice name = (text other : List ℕ) → request_of ((codes "--" ++ name ++ codes "=" ++ text) ∷ codes "gen" ∷ (codes "--" ++ name ++ codes "=" ++ other) ∷ []) ≡ Err fault.Words

pub returns : goal.returns
unfolding words_on_literals
returns c = each_option IsRefusedTwice (λ text other. refl) (λ text other. refl) (λ text other. refl) (λ text other. refl) (λ text other. refl) (λ text other. refl) (λ text other. refl) (λ text other. refl) (λ text other. refl) (λ text other. refl) (λ text other. refl)
