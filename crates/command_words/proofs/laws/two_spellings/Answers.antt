use Rattle.std.proofs.Common.{◌≡◌, ◌≢◌, ◌++◌, ◌∷◌, List, [], ℕ, codes, refl}
use Rattle.command_words.specs.Requests.{request_of}
use Rattle.command_words.proofs.EachOption.{each_option}
use Rattle.command_words.proofs.OnLiterals.{words_on_literals}
use Rattle.command_words.proofs.Spellings.{IsOption, held_after, same_request}
use Rattle.command_words.proofs.laws.two_spellings.Goals as goal

abbrev HasTwoSpellings : List ℕ → Type 0
HasTwoSpellings name = (first : ℕ) (rest : List ℕ) → first ≢ 45
    → request_of (codes "gen" ∷ (codes "--" ++ name ++ codes "=" ++ (first ∷ rest)) ∷ []) ≡ request_of (codes "gen" ∷ (codes "--" ++ name) ∷ (first ∷ rest) ∷ [])

abbrev IsKnown : List ℕ → Type 0
IsKnown name = IsOption name (held_after name)

harts : IsKnown (codes "harts")
unfolding words_on_literals
harts = record { waits = refl; fault = refl; takes = λ first rest. refl; faultless = λ first rest. refl; rows_apart = λ first rest. refl; taken = λ first rest. refl; rows_together = λ first rest. refl }

slots : IsKnown (codes "slots")
unfolding words_on_literals
slots = record { waits = refl; fault = refl; takes = λ first rest. refl; faultless = λ first rest. refl; rows_apart = λ first rest. refl; taken = λ first rest. refl; rows_together = λ first rest. refl }

epochs : IsKnown (codes "epochs")
unfolding words_on_literals
epochs = record { waits = refl; fault = refl; takes = λ first rest. refl; faultless = λ first rest. refl; rows_apart = λ first rest. refl; taken = λ first rest. refl; rows_together = λ first rest. refl }

steps : IsKnown (codes "steps")
unfolding words_on_literals
steps = record { waits = refl; fault = refl; takes = λ first rest. refl; faultless = λ first rest. refl; rows_apart = λ first rest. refl; taken = λ first rest. refl; rows_together = λ first rest. refl }

quantum : IsKnown (codes "quantum")
unfolding words_on_literals
quantum = record { waits = refl; fault = refl; takes = λ first rest. refl; faultless = λ first rest. refl; rows_apart = λ first rest. refl; taken = λ first rest. refl; rows_together = λ first rest. refl }

parts : IsKnown (codes "parts")
unfolding words_on_literals
parts = record { waits = refl; fault = refl; takes = λ first rest. refl; faultless = λ first rest. refl; rows_apart = λ first rest. refl; taken = λ first rest. refl; rows_together = λ first rest. refl }

part_words : IsKnown (codes "part-words")
unfolding words_on_literals
part_words = record { waits = refl; fault = refl; takes = λ first rest. refl; faultless = λ first rest. refl; rows_apart = λ first rest. refl; taken = λ first rest. refl; rows_together = λ first rest. refl }

plan : IsKnown (codes "plan")
unfolding words_on_literals
plan = record { waits = refl; fault = refl; takes = λ first rest. refl; faultless = λ first rest. refl; rows_apart = λ first rest. refl; taken = λ first rest. refl; rows_together = λ first rest. refl }

suppressions : IsKnown (codes "suppressions")
unfolding words_on_literals
suppressions = record { waits = refl; fault = refl; takes = λ first rest. refl; faultless = λ first rest. refl; rows_apart = λ first rest. refl; taken = λ first rest. refl; rows_together = λ first rest. refl }

seed : IsKnown (codes "seed")
unfolding words_on_literals
seed = record { waits = refl; fault = refl; takes = λ first rest. refl; faultless = λ first rest. refl; rows_apart = λ first rest. refl; taken = λ first rest. refl; rows_together = λ first rest. refl }

size : IsKnown (codes "size")
unfolding words_on_literals
size = record { waits = refl; fault = refl; takes = λ first rest. refl; faultless = λ first rest. refl; rows_apart = λ first rest. refl; taken = λ first rest. refl; rows_together = λ first rest. refl }

pub returns : goal.returns
returns c = each_option HasTwoSpellings (same_request _ _ harts) (same_request _ _ slots) (same_request _ _ epochs) (same_request _ _ steps) (same_request _ _ quantum) (same_request _ _ parts) (same_request _ _ part_words) (same_request _ _ plan) (same_request _ _ suppressions) (same_request _ _ seed) (same_request _ _ size)
