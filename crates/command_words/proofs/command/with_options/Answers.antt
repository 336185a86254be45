use Rattle.std.proofs.Common.{ℕ, ◌+◌, ◌<◌, ◌≡◌, ◌∙◌, List, [], ◌∷◌, length, take, get_or, fold, map, refl, ap, sym, Bor}
use Rattle.std.proofs.lemmas.List.Sums.{fold_more}
use Rattle.clap.specs.Simple.{App}
use Rattle.clap.specs.Walk.{Text}
use Rattle.command_words.specs.Command.{with_option}
use Rattle.command_words.proofs.command.with_options.Goals as goal

abbrev with_name : App → Bor Text → App
with_name app name = with_option app name.now

fold-map : (app : App) (names : List (Bor Text)) → fold with_option app (map (λ s. s.now) names) ≡ fold with_name app names
fold-map app [] = refl
fold-map app (name ∷ rest) = fold-map (with_name app name) rest

one_more : (start app next : App) (names : List (Bor Text)) (i : ℕ) (d : Bor Text) → i < length names → next ≡ with_option app (get_or names i d).now
    → app ≡ fold with_option start (map (λ s. s.now) (take i names)) → next ≡ fold with_option start (map (λ s. s.now) (take (i + 1) names))
one_more start app next names i d lt is so_far =
    is ∙ ap (λ a. with_name a (get_or names i d)) (so_far ∙ fold-map start (take i names))
    ∙ sym (fold_more with_name start names i d lt) ∙ sym (fold-map start (take (i + 1) names))

pub loop-name-preserved : goal.loop-name-preserved
loop-name-preserved c = one_more _ _ _ _ _ _ c.loop-name-test.true c.in_ok-command.ensures c.loop-name.invariant
