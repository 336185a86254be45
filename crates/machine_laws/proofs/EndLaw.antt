-- How a run has ended, by the machine's count of the living and by their numbers.
use Rattle.std.proofs.Common.{◌≡◌, ℕ, suc, true, false, cond, ne_eqb, Option, Some, None, List, [], ◌∷◌, length, refl, ap, sym, ◌∙◌, arith}
use Rattle.std.specs.Prelude.{find, is_some, nat_eq}
use Rattle.std.specs.Option.{option_or}
use Rattle.std.proofs.lemmas.List.Sums.{length-filter}
use Rattle.run_record.specs.declared.finished.GuestEnd.{GuestEnd}
use Rattle.run_record.specs.declared.finished.GuestEnd.TheVariants.{AllEnded}
use Rattle.run_laws.specs.Numbers.{up_from}
use Rattle.run_laws.specs.Rounds.{end_in, live_in}
use Rattle.bare_machine.specs.World.{World, lives, count_living}
use Rattle.bare_machine.specs.Step.{first_of, end_of}
use Rattle.machine_laws.specs.Machine.{bare_of}
use Rattle.machine_laws.proofs.Lists.{living_is}

ended_none : (xs : List ℕ) → cond (nat_eq (length xs) 0) (Some AllEnded) None ≡ cond (is_some (find (λ (t : ℕ). true) xs)) None (Some AllEnded)
ended_none [] = refl
ended_none (x ∷ xs) = let some : nat_eq (suc (length xs)) 0 ≡ false = ne_eqb (suc (length xs)) 0 (omega arith) in rw some refl

first_or : (one other : Option GuestEnd) → first_of one other ≡ option_or one other
first_or None other = refl
first_or (Some end) other = refl

-- the machine's end is that of the definition of runs
pub end_is : (file : List ℕ) (harts : ℕ) (w : World) → end_of w ≡ end_in (bare_of file harts) w
end_is file harts w =
    let live : List ℕ = live_in (bare_of file harts) w in
    let few : count_living w.threads ≡ length live = sym (living_is w.threads) ∙ sym (length-filter (lives w) (up_from 0 (length w.threads))) in
    ap (λ (n : ℕ). first_of w.ended (cond (nat_eq n 0) (Some AllEnded) None)) few
    ∙ (ap (first_of w.ended) (ended_none live) ∙ first_or w.ended (cond (is_some (find (λ (t : ℕ). true) live)) None (Some AllEnded)))
