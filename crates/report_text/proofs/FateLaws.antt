-- What is known of pairs of stacks stays right as pairs are added.
use Rattle.std.proofs.Common.{◌≡◌, ℕ, ◌+◌, ◌≤◌, Bool, true, false, cond, eqb, nat_lt, List, [], ◌∷◌, ◌++◌, length, map, position, Option, Some, None, refl, ap, sym, subst, ◌∙◌, arith, inl, inr}
use Rattle.std.specs.Option.{option_map}
use Rattle.std.specs.List.{position_or_len}
use Rattle.std.specs.Map.{lookup}
use Rattle.std.proofs.lemmas.Bool.Decides.{nat_tests}
use Rattle.std.proofs.lemmas.List.Folds.{position_or_len_push}
use Rattle.std.proofs.lemmas.List.Sums.{prefix_len-le-length}
use Rattle.std.proofs.lemmas.List.{length_push, length-map}
use Rattle.run_record.specs.declared.report.Report.{Report}
use Rattle.report_text.specs.declared.stack_pair.StackPair.{StackPair}
use Rattle.report_text.specs.declared.fates.Fate.{Fate}
use Rattle.report_text.specs.declared.fates.Fate.TheVariants.{Met, Told}
use Rattle.report_text.specs.Pairs.{stacks_of, same_stacks, AreSame, same_stacks-true}
use Rattle.report_text.specs.Fates.{IsFate, KnowsFates}
use Rattle.report_text.proofs.OfferLaws.{map-push}

-- ---- what is found once more is appended

placed-some : (n len m at : ℕ) (b : Bool) → m ≡ cond (eqb n len) (len + cond b 0 1) n → cond (nat_lt n len) (Some n) None ≡ Some at → cond (nat_lt m (len + 1)) (Some m) None ≡ Some at
placed-some n len m at b is found = grind (arith, nat_tests)

placed-none : (n len m : ℕ) (b : Bool) → n ≤ len → m ≡ cond (eqb n len) (len + cond b 0 1) n → cond (nat_lt n len) (Some n) None ≡ None → cond (nat_lt m (len + 1)) (Some m) None ≡ cond b (Some len) None
placed-none n len m true le is none = grind (arith, nat_tests)
placed-none n len m false le is none = grind (arith, nat_tests)

module _ {X : Type 0} (test : X → Bool) (xs : List X) (x : X) where
  place_push-some : (at : ℕ) → position test xs ≡ Some at → position test (xs ++ x ∷ []) ≡ Some at
  place_push-some at found =
      let m : ℕ = position_or_len test (xs ++ x ∷ []) in
      ap (λ n. cond (nat_lt m n) (Some m) None) (length_push xs x) ∙ placed-some _ _ m at (test x) (position_or_len_push test xs x) found

  place_push-none : position test xs ≡ None → position test (xs ++ x ∷ []) ≡ cond (test x) (Some (length xs)) None
  place_push-none none =
      let m : ℕ = position_or_len test (xs ++ x ∷ []) in
      ap (λ n. cond (nat_lt m n) (Some m) None) (length_push xs x) ∙ placed-none _ _ m (test x) (prefix_len-le-length _ xs) (position_or_len_push test xs x) none

module _ {K X : Type 0} (test : K → Bool) (k : K) (v : X) where
  some_kept : (b : Bool) (x found : X) (rest next : Option X) → (rest ≡ Some found → next ≡ Some found) → cond b (Some x) rest ≡ Some found → cond b (Some x) next ≡ Some found
  some_kept true x found rest next later is = is
  some_kept false x found rest next later is = later is

  none_kept : (b : Bool) (x : X) (rest next last : Option X) → (rest ≡ None → next ≡ last) → cond b (Some x) rest ≡ None → cond b (Some x) next ≡ last
  none_kept true x rest next last later is = absurd cc
  none_kept false x rest next last later is = later is

  lookup_push-some : (es : List (K × X)) (found : X) → lookup test es ≡ Some found → lookup test (es ++ (k, v) ∷ []) ≡ Some found
  lookup_push-some [] found is = absurd cc
  lookup_push-some (e ∷ es) found is = some_kept (test e.0) e.1 found (lookup test es) (lookup test (es ++ (k, v) ∷ [])) (lookup_push-some es found) is

  lookup_push-none : (es : List (K × X)) → lookup test es ≡ None → lookup test (es ++ (k, v) ∷ []) ≡ cond (test k) (Some v) None
  lookup_push-none [] none = refl
  lookup_push-none (e ∷ es) none = none_kept (test e.0) e.1 (lookup test es) (lookup test (es ++ (k, v) ∷ [])) (cond (test k) (Some v) None) (lookup_push-none es) none

-- ---- what is known of a report's stacks

module _ (rule_of : Option (List ℕ) → Option (List ℕ) → Option ℕ) (reports : List Report) (es : List (StackPair × Fate)) (known : KnowsFates rule_of reports es) (r : Report) (m n : Option (List ℕ)) (mine_is : m ≡ r.mine.stack) (previous_is : n ≡ r.previous.stack) where
  pub fate_of_report : (o : Option Fate) → lookup (same_stacks (record { mine = m; previous = n })) es ≡ o → IsFate (rule_of r.mine.stack r.previous.stack) (position (same_stacks (stacks_of r)) (map stacks_of reports)) o
  fate_of_report o is =
      subst (IsFate (rule_of r.mine.stack r.previous.stack) (position (same_stacks (stacks_of r)) (map stacks_of reports)))
      ((λ i. lookup (same_stacks (record { mine = sym mine_is i; previous = sym previous_is i })) es) ∙ is) (known (stacks_of r))

-- ---- one more pair

module _ (rule_of : Option (List ℕ) → Option (List ℕ) → Option ℕ) (unordered : (mine previous : Option (List ℕ)) → rule_of mine previous ≡ rule_of previous mine) where
  same_rule : (p q : StackPair) → AreSame p q → rule_of q.mine q.previous ≡ rule_of p.mine p.previous
  same_rule p q (inl h) = λ i. rule_of (sym h.0 i) (sym h.1 i)
  same_rule p q (inr h) = (λ i. rule_of (sym h.1 i) (sym h.0 i)) ∙ unordered p.previous p.mine

  module _ (reports : List Report) (es : List (StackPair × Fate)) (known : KnowsFates rule_of reports es) (p : StackPair) (absent : lookup (same_stacks p) es ≡ None) where
    abbrev place_of : StackPair → Option ℕ
    place_of q = position (same_stacks q) (map stacks_of reports)

    -- of the pair nothing was known, so no report has it
    pub none_told : place_of p ≡ None
    none_told = subst (IsFate (rule_of p.mine p.previous) (place_of p)) absent (known p)

    module _ (q : StackPair) where
      abbrev met : Option ℕ
      met = rule_of q.mine q.previous

      rule_here : same_stacks q p ≡ true → met ≡ rule_of p.mine p.previous
      rule_here same = sym (same_rule q p (same_stacks-true q p same))

      kept_fate : (f : Fate) → lookup (same_stacks q) es ≡ Some f → IsFate met (place_of q) (Some f)
      kept_fate f is = subst (IsFate met (place_of q)) is (known q)

      none_here : lookup (same_stacks q) es ≡ None → place_of q ≡ None
      none_here is = subst (IsFate met (place_of q)) is (known q)

    -- they meet a rule
    module _ (rule : ℕ) (meets : rule_of p.mine p.previous ≡ Some rule) where
      new_met : (q : StackPair) (b : Bool) → same_stacks q p ≡ b → place_of q ≡ None → IsFate (met q) (place_of q) (cond b (Some (Met rule)) None)
      new_met q true same none = rule_here q same ∙ meets
      new_met q false same none = none

      by_met : (q : StackPair) (o : Option Fate) → lookup (same_stacks q) es ≡ o → IsFate (met q) (place_of q) (lookup (same_stacks q) (es ++ (p, Met rule) ∷ []))
      by_met q (Some f) is = subst (IsFate (met q) (place_of q)) (sym (lookup_push-some (same_stacks q) p (Met rule) es f is)) (kept_fate q f is)
      by_met q None is =
          subst (IsFate (met q) (place_of q)) (sym (lookup_push-none (same_stacks q) p (Met rule) es is)) (new_met q (same_stacks q p) refl (none_here q is))

      pub knows-met : KnowsFates rule_of reports (es ++ (p, Met rule) ∷ [])
      knows-met q = by_met q (lookup (same_stacks q) es) refl

    -- they meet none, and a report has them
    module _ (r : Report) (number : ℕ) (meets_none : rule_of p.mine p.previous ≡ None) (pair_is : stacks_of r ≡ p) (number_is : number ≡ length reports + 1) where
      abbrev next_place : StackPair → Option ℕ
      next_place q = position (same_stacks q) (map stacks_of reports ++ p ∷ [])

      long : length (map stacks_of reports) ≡ length reports
      long = simp length-map

      same_fate : (q : StackPair) (f : Fate) → IsFate (met q) (place_of q) (Some f) → IsFate (met q) (next_place q) (Some f)
      same_fate q (Met rule) is = is
      same_fate q (Told n) is = (is.0, by (place_of q) refl is.1)
        where
          by : (o : Option ℕ) → place_of q ≡ o → option_map (λ at. at + 1) o ≡ Some n → option_map (λ at. at + 1) (next_place q) ≡ Some n
          by None found e = absurd cc
          by (Some at) found e = ap (option_map (λ a. a + 1)) (place_push-some (same_stacks q) (map stacks_of reports) p at found) ∙ e

      new_told : (q : StackPair) (b : Bool) → same_stacks q p ≡ b → next_place q ≡ cond b (Some (length (map stacks_of reports))) None → IsFate (met q) (next_place q) (cond b (Some (Told number)) None)
      new_told q true same is =
          (rule_here q same ∙ meets_none, ap (option_map (λ a. a + 1)) is ∙ ap (λ n. Some (n + 1)) long ∙ ap Some (sym number_is))
      new_told q false same is = is

      by_told : (q : StackPair) (o : Option Fate) → lookup (same_stacks q) es ≡ o → IsFate (met q) (next_place q) (lookup (same_stacks q) (es ++ (p, Told number) ∷ []))
      by_told q (Some f) is =
          subst (IsFate (met q) (next_place q)) (sym (lookup_push-some (same_stacks q) p (Told number) es f is)) (same_fate q f (kept_fate q f is))
      by_told q None is =
          subst (IsFate (met q) (next_place q)) (sym (lookup_push-none (same_stacks q) p (Told number) es is))
          (new_told q (same_stacks q p) refl (place_push-none (same_stacks q) (map stacks_of reports) p (none_here q is)))

      pub knows-told : KnowsFates rule_of (reports ++ r ∷ []) (es ++ (p, Told number) ∷ [])
      knows-told q =
          let pairs : map stacks_of (reports ++ r ∷ []) ≡ map stacks_of reports ++ p ∷ [] = map-push stacks_of reports r ∙ ap (λ x. map stacks_of reports ++ x ∷ []) pair_is in
          subst (λ (ps : List StackPair). IsFate (met q) (position (same_stacks q) ps) (lookup (same_stacks q) (es ++ (p, Told number) ∷ []))) (sym pairs)
          (by_told q (lookup (same_stacks q) es) refl)
