-- What holds of each option.
use Rattle.std.proofs.Common.{List, ℕ, codes, drop}
use Rattle.std.specs.List.{All}
use Rattle.std.proofs.lemmas.List.Elements.{All-cons, All-nil}
use Rattle.command_words.specs.Command.{option_names}

-- what holds of each name holds of all
pub each_option : (P : List ℕ → Type 0) → P (codes "harts") → P (codes "slots") → P (codes "epochs") → P (codes "steps") → P (codes "quantum") → P (codes "parts") → P (codes "part-words") → P (codes "plan") → P (codes "suppressions") → P (codes "seed") → P (codes "size") → All P option_names
each_option P harts slots epochs steps quantum parts part_words plan suppressions seed size =
    All-cons P (codes "harts") (drop 1 option_names) harts (
    All-cons P (codes "slots") (drop 2 option_names) slots (
    All-cons P (codes "epochs") (drop 3 option_names) epochs (
    All-cons P (codes "steps") (drop 4 option_names) steps (
    All-cons P (codes "quantum") (drop 5 option_names) quantum (
    All-cons P (codes "parts") (drop 6 option_names) parts (
    All-cons P (codes "part-words") (drop 7 option_names) part_words (
    All-cons P (codes "plan") (drop 8 option_names) plan (
    All-cons P (codes "suppressions") (drop 9 option_names) suppressions (
    All-cons P (codes "seed") (drop 10 option_names) seed (
    All-cons P (codes "size") (drop 11 option_names) size (
    All-nil P)))))))))))
