-- Threads with themselves and at the desk: one changed, one more, one that arrives.
use Rattle.std.proofs.Common.{◌≡◌, ◌≢◌, ◌<◌, ℕ, suc, Bool, true, false, List, [], ◌∷◌, ◌++◌, length, slice_get, slice_set, Option, Some, None, sym, ap, subst, ◌∙◌, arith}
use Rattle.std.specs.Prelude.{map}
use Rattle.std.specs.Option.{option_map}
use Rattle.std.proofs.lemmas.List.{length-set}
use mathlib.Core.Logic.{dite}
use native.Mathlib.Decide.{ℕ_discrete}
use Rattle.bare_machine.specs.declared.thread.Thread.{Thread}
use Rattle.turn_orders.specs.Machine.{but}
use Rattle.turn_orders.proofs.Functions.{but_each, but_else, but_here}
use Rattle.place_turns.specs.Wholes.{HasThreads}
use Rattle.place_turns.proofs.Lists.{set_same, get_set_same, get_set_other, get_push_below, get_push_alike, length_push, map_set, map_push, get_map}

abbrev lives : Thread → Bool
lives x = x.lives

true_false : (b : Bool) → b ≡ true → b ≡ false → ⊥
true_false b e f = let h : true ≡ false = sym e ∙ f in cc

-- one number has arrived and another not
pub apart : (arrived : ℕ → Bool) (t u : ℕ) → arrived t ≡ true → arrived u ≡ false → u ≢ t
apart arrived t u e f q = true_false (arrived t) e (ap arrived (sym q) ∙ f)

module _ {ts : List Thread} {arrived : ℕ → Bool} {own : ℕ → Option Thread} {made : List Thread} {living : List Bool} (h : HasThreads ts arrived own made living) where
  -- a thread that has arrived is another
  pub set_thread : (t : ℕ) (y : Thread) → arrived t ≡ true → HasThreads (slice_set ts t y) arrived (but own t (Some y)) made (slice_set living t y.lives)
  set_thread t y e = record {
    here = but_each (λ u o. arrived u ≡ true → o ≡ slice_get (slice_set ts t y) u) own t (Some y)
        (λ _. sym (get_set_same ts t y (h.inside t e)))
        (λ u ne a. h.here u a ∙ sym (get_set_other ts t u y ne));
    absent = but_each (λ u o. arrived u ≡ false → o ≡ None) own t (Some y) (λ f. absurd (true_false (arrived t) e f)) (λ u ne f. h.absent u f);
    waiting = λ u f. h.waiting u f ∙ sym (get_set_other ts t u y (apart arrived t u e f));
    inside = λ u a. subst (λ (n : ℕ). u < n) (sym (length-set ts t y)) (h.inside u a);
    count = h.count ∙ sym (length-set ts t y);
    living = ap (λ (bs : List Bool). slice_set bs t y.lives) h.living ∙ sym (map_set lives ts t y);
  }

  -- and lives as before, so that the desk stays
  pub change_thread : (t : ℕ) (x y : Thread) → slice_get ts t ≡ Some x → arrived t ≡ true → y.lives ≡ x.lives → HasThreads (slice_set ts t y) arrived (but own t (Some y)) made living
  change_thread t x y is e same =
      let at : slice_get living t ≡ Some y.lives = ap (λ (bs : List Bool). slice_get bs t) h.living ∙ (get_map lives ts t ∙ (ap (option_map lives) is ∙ ap Some (sym same))) in
      subst (λ (bs : List Bool). HasThreads (slice_set ts t y) arrived (but own t (Some y)) made bs) (set_same living t y.lives at) (set_thread t y e)

  -- one more is made
  pub push_thread : (y : Thread) → y.lives ≡ true → HasThreads (ts ++ y ∷ []) arrived own (made ++ y ∷ []) (living ++ true ∷ [])
  push_thread y live = record {
    here = λ u a. h.here u a ∙ sym (get_push_below ts y u (h.inside u a));
    absent = h.absent;
    waiting = λ u f. get_push_alike made ts y u h.count (h.waiting u f);
    inside = λ u a. let l = h.inside u a in let p = length_push ts y in omega arith;
    count = length_push made y ∙ (ap suc h.count ∙ sym (length_push ts y));
    living = ap (λ (bs : List Bool). bs ++ true ∷ []) h.living ∙ (ap (λ (b : Bool). map lives ts ++ b ∷ []) (sym live) ∙ sym (map_push lives ts y));
  }

  -- one arrives
  pub take_thread : (t : ℕ) (o : Option Thread) → t < length ts → o ≡ slice_get ts t → HasThreads ts (but arrived t true) (but own t o) made living
  take_thread t o l e = record {
    here = λ u. dite (ℕ_discrete u t)
        (λ q a. but_here own t u o q ∙ (e ∙ ap (slice_get ts) (sym q)))
        (λ ne a. but_else own t u o ne ∙ h.here u (sym (but_else arrived t u true ne) ∙ a));
    absent = λ u. dite (ℕ_discrete u t)
        (λ q f. absurd (true_false (but arrived t true u) (but_here arrived t u true q) f))
        (λ ne f. but_else own t u o ne ∙ h.absent u (sym (but_else arrived t u true ne) ∙ f));
    waiting = λ u. dite (ℕ_discrete u t)
        (λ q f. absurd (true_false (but arrived t true u) (but_here arrived t u true q) f))
        (λ ne f. h.waiting u (sym (but_else arrived t u true ne) ∙ f));
    inside = λ u. dite (ℕ_discrete u t)
        (λ q a. subst (λ (v : ℕ). v < length ts) (sym q) l)
        (λ ne a. h.inside u (sym (but_else arrived t u true ne) ∙ a));
    count = h.count;
    living = h.living;
  }
