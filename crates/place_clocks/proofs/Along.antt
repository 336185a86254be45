-- Turns one after another go with the history that they tell.
use Rattle.std.proofs.Common.{◌≡◌, ◌+◌, ℕ, suc, List, [], ◌∷◌, ◌++◌, length, refl, sym, ap, subst, ◌∙◌, arith}
use Rattle.std.specs.Prelude.{fold}
use Rattle.std.specs.List.{flat_map}
use Rattle.run_laws.specs.Moments.{Item, NewEra}
use Rattle.run_laws.specs.Labels.{labels, queue}
use Rattle.run_laws.specs.Clocks.{clocks}
use Rattle.turn_orders.specs.Machine.{Call, State, next, after, outcome, tells}
use Rattle.place_clocks.specs.Places.{Own, Value}
use Rattle.place_clocks.specs.Turns.{Act, clock_turn, era_after}
use Rattle.place_clocks.specs.Holds.{Whole, HasClocks, AllMay, StandFrom, whole_at, whole_next}
use Rattle.place_clocks.proofs.Events.{goes}
use Rattle.place_clocks.proofs.Fresh.{era_holds}

fold_append : {X Y : Type 0} (f : Y → X → Y) (y : Y) (xs zs : List X) → fold f y (xs ++ zs) ≡ fold f (fold f y xs) zs
fold_append f y [] zs = refl
fold_append f y (x ∷ xs) zs = fold_append f (f y x) xs zs

-- all that turns tell
abbrev pub told : {T : Type 0} → List (List T) → List T
told {T} ts = flat_map (λ (t : List T). t) ts

module _ (g slots : ℕ) where
  along : (w : Whole) (m : State Own Value) (cs : List (Call Act)) → HasClocks w m → AllMay g m cs → HasClocks (fold (whole_next g slots) w (told (tells (clock_turn g) m cs))) (after (clock_turn g) m cs)
  along w m [] h may = h
  along w m (c ∷ cs) h may =
      let one : Whole = fold (whole_next g slots) w (outcome (clock_turn g) m c).told in
      let rest = along one (next (clock_turn g) m c) cs (goes g slots w m h c.thread c.place c.act may.0) may.1 in
      subst (λ (x : Whole). HasClocks x (after (clock_turn g) m (c ∷ cs))) (sym (fold_append (whole_next g slots) w (outcome (clock_turn g) m c).told (told (tells (clock_turn g) (next (clock_turn g) m c) cs)))) rest

  next_at : (h : ℕ → Item) (n : ℕ) → whole_at g slots h (suc n) ≡ whole_next g slots (whole_at g slots h n) (h n)
  unfolding labels clocks queue
  next_at h n = refl

  whole_along : (h : ℕ → Item) (n : ℕ) (items : List Item) → StandFrom h n items → fold (whole_next g slots) (whole_at g slots h n) items ≡ whole_at g slots h (n + length items)
  whole_along h n [] stand = (let e : n ≡ n + 0 = omega arith in ap (whole_at g slots h) e)
  whole_along h n (i ∷ items) stand =
      let e : suc n + length items ≡ n + suc (length items) = omega arith in
      ap (λ (x : Whole). fold (whole_next g slots) x items) (ap (whole_next g slots (whole_at g slots h n)) (sym stand.0) ∙ sym (next_at h n)) ∙ (whole_along h (suc n) items stand.1 ∙ ap (whole_at g slots h) e)

  pub turns_hold : (h : ℕ → Item) (n : ℕ) (m : State Own Value) (cs : List (Call Act)) → HasClocks (whole_at g slots h n) m → AllMay g m cs → StandFrom h n (told (tells (clock_turn g) m cs))
      → HasClocks (whole_at g slots h (n + length (told (tells (clock_turn g) m cs)))) (after (clock_turn g) m cs)
  turns_hold h n m cs k may stand = subst (λ (x : Whole). HasClocks x (after (clock_turn g) m cs)) (whole_along h n (told (tells (clock_turn g) m cs)) stand) (along (whole_at g slots h n) m cs k may)

  pub era_follows : (h : ℕ → Item) (n : ℕ) (m : State Own Value) → h n ≡ NewEra → HasClocks (whole_at g slots h n) m → HasClocks (whole_at g slots h (suc n)) (era_after slots m)
  era_follows h n m e k =
      subst (λ (x : Whole). HasClocks x (era_after slots m)) (ap (whole_next g slots (whole_at g slots h n)) (sym e) ∙ sym (next_at h n)) (era_holds g slots (whole_at g slots h n) m k)
