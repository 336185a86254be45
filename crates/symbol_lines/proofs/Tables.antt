-- Tables of steps: one more step at the end, and two tables made into one.
use Rattle.std.proofs.Common.{◌≡◌, ℕ, suc, ◌+◌, ◌-◌, ◌<◌, ◌≤◌, Bool, true, false, cond, leb, List, [], ◌∷◌, ◌++◌, length, get_or, take, drop, Option, Some, None, Result, Ok, Err, IfOk, refl, sym, ap, ◌∙◌, inl, inr, subst, arith}
use Rattle.std.proofs.lemmas.Bool.{cases_Bool, le-leb, leb-true}
use Rattle.std.proofs.lemmas.Bool.Decides.{nat_tests}
use Rattle.std.proofs.lemmas.List.{take_more, length-append, get_or_default, get_or-drop, length-drop, take_all, take-append-drop}
use Rattle.std.proofs.lemmas.List.Sorted.{IsNonDecreasingBy-push, IsNonDecreasingBy-short}
use Rattle.std.proofs.Math.Seq.{get_or-append_seam}
use Rattle.std.specs.Bool.{OnTrue, OnFalse}
use Rattle.std.specs.List.Sorted.{IsNonDecreasingBy}
use Rattle.symbol_lines.specs.declared.spans.Owner.{Owner}
use Rattle.symbol_lines.specs.declared.spans.Span.{Span}
use Rattle.symbol_lines.specs.declared.spans.Step.{Step}
use Rattle.symbol_lines.specs.Spans.{better, own, owner_among, owner_from, owner_at, IsNext}

owner_from-append : (o : Option Owner) (xs ys : List Step) (p : ℕ) → owner_from o (xs ++ ys) p ≡ owner_from (owner_from o xs p) ys p
owner_from-append o [] ys p = refl
owner_from-append o (x ∷ xs) ys p = owner_from-append (cond (leb x.from p) x.owner o) xs ys p

pub owner_at-push : (xs : List Step) (s : Step) (p : ℕ) → owner_at (xs ++ s ∷ []) p ≡ cond (leb s.from p) s.owner (owner_at xs p)
owner_at-push xs s p = owner_from-append None xs (s ∷ []) p

-- what is known while two tables are made into one: out serves for the steps of first and second so far
pub record Merges (first second out : List Step) (i j place : ℕ) (a b : Option Owner) : Type 0 where
  pub agrees : (p : ℕ) → owner_at out p ≡ better (owner_at (take i first) p) (owner_at (take j second) p)
  pub first_now : (p : ℕ) → place ≤ p → owner_at (take i first) p ≡ a
  pub second_now : (p : ℕ) → place ≤ p → owner_at (take j second) p ≡ b
  pub first_ahead : (k : ℕ) (d : Step) → i ≤ k → k < length first → place ≤ (get_or first k d).from
  pub second_ahead : (k : ℕ) (d : Step) → j ≤ k → k < length second → place ≤ (get_or second k d).from
  pub first_in : i ≤ length first
  pub second_in : j ≤ length second
  pub rising : IsNonDecreasingBy (λ (s : Step). s.from) out
  pub below : (d : Step) → 0 < length out → (get_or out (length out - 1) d).from ≤ place

taken : (xs : List Step) (i : ℕ) (s : Step) (p : ℕ) → i < length xs → s ≡ get_or xs i s → owner_at (take (i + 1) xs) p ≡ cond (leb s.from p) s.owner (owner_at (take i xs) p)
taken xs i s p lt is = ap (λ (ys : List Step). owner_at ys p) (take_more xs i s lt ∙ ap (λ (t : Step). take i xs ++ t ∷ []) (sym is)) ∙ owner_at-push (take i xs) s p

last_is : (out : List Step) (s d : Step) → get_or (out ++ s ∷ []) (length (out ++ s ∷ []) - 1) d ≡ s
last_is out s d =
    let n : length (out ++ s ∷ []) - 1 ≡ length out = omega (arith, length-append out (s ∷ [])) in
    rw n (get_or-append_seam out s [] d)

start_is : (xs : List Step) (i : ℕ) (s d : Step) → i < length xs → s ≡ get_or xs i s → get_or xs i d ≡ s
start_is xs i s d lt is = get_or_default xs i d s lt ∙ sym is

pub first_taken : (first second out : List Step) (i j place : ℕ) (a b : Option Owner) (s : Step) → Merges first second out i j place a b → IsNonDecreasingBy (λ (t : Step). t.from) first → s ≡ get_or first i s → IsNext first i second j
    → Merges first second (out ++ record { from = s.from; owner = better s.owner b } ∷ []) (i + 1) j s.from s.owner b
first_taken first second out i j place a b s m up is next =
    let step : Step = record { from = s.from; owner = better s.owner b } in
    let after : place ≤ s.from = subst (λ (t : Step). place ≤ t.from) (sym is) (m.first_ahead i s (omega arith) next.in_range) in
    record {
      agrees = λ p. owner_at-push out step p ∙ elim (cases_Bool (leb s.from p)) [
        | inl here ↦
            let le = leb-true s.from p here in
            rw (taken first i s p next.in_range is, here, m.second_now p (omega arith)) refl
        | inr not_here ↦ rw (taken first i s p next.in_range is, not_here) (m.agrees p)
      ];
      first_now = λ p le. let here : leb s.from p ≡ true = le-leb s.from p le in rw (taken first i s p next.in_range is, here) refl;
      second_now = λ p le. m.second_now p (omega arith);
      first_ahead = λ k d le lt. subst (λ (t : Step). t.from ≤ (get_or first k d).from) (start_is first i s d next.in_range is) (up i k d (omega arith) lt);
      second_ahead = λ k d le lt. subst (λ (t : Step). t.from ≤ (get_or second k d).from) (start_is first i s d next.in_range is) (next.low k d le lt);
      first_in = omega (arith, next.in_range);
      second_in = m.second_in;
      rising = IsNonDecreasingBy-push (λ (t : Step). t.from) out step m.rising (λ d some. omega (arith, m.below d some, after));
      below = λ d some. rw (last_is out step d) (omega arith);
    }

pub second_taken : (first second out : List Step) (i j place : ℕ) (a b : Option Owner) (s : Step) → Merges first second out i j place a b → IsNonDecreasingBy (λ (t : Step). t.from) second → s ≡ get_or second j s → IsNext second j first i
    → Merges first second (out ++ record { from = s.from; owner = better a s.owner } ∷ []) i (j + 1) s.from a s.owner
second_taken first second out i j place a b s m up is next =
    let step : Step = record { from = s.from; owner = better a s.owner } in
    let after : place ≤ s.from = subst (λ (t : Step). place ≤ t.from) (sym is) (m.second_ahead j s (omega arith) next.in_range) in
    record {
      agrees = λ p. owner_at-push out step p ∙ elim (cases_Bool (leb s.from p)) [
        | inl here ↦
            let le = leb-true s.from p here in
            rw (taken second j s p next.in_range is, here, m.first_now p (omega arith)) refl
        | inr not_here ↦ rw (taken second j s p next.in_range is, not_here) (m.agrees p)
      ];
      first_now = λ p le. m.first_now p (omega arith);
      second_now = λ p le. let here : leb s.from p ≡ true = le-leb s.from p le in rw (taken second j s p next.in_range is, here) refl;
      first_ahead = λ k d le lt. subst (λ (t : Step). t.from ≤ (get_or first k d).from) (start_is second j s d next.in_range is) (next.low k d le lt);
      second_ahead = λ k d le lt. subst (λ (t : Step). t.from ≤ (get_or second k d).from) (start_is second j s d next.in_range is) (up j k d (omega arith) lt);
      first_in = m.first_in;
      second_in = omega (arith, next.in_range);
      rising = IsNonDecreasingBy-push (λ (t : Step). t.from) out step m.rising (λ d some. omega (arith, m.below d some, after));
      below = λ d some. rw (last_is out step d) (omega arith);
    }

pub none_merged : (first second : List Step) → Merges first second [] 0 0 0 None None
none_merged first second = record {
  agrees = λ p. refl;
  first_now = λ p le. refl;
  second_now = λ p le. refl;
  first_ahead = λ k d le lt. omega arith;
  second_ahead = λ k d le lt. omega arith;
  first_in = omega arith;
  second_in = omega arith;
  rising = IsNonDecreasingBy-short (λ (s : Step). s.from) [] (omega arith);
  below = λ d some. absurd (omega arith);
}

pub all_merged : (first second out : List Step) (i j place : ℕ) (a b : Option Owner) → Merges first second out i j place a b → length first ≤ i → length second ≤ j → (p : ℕ) → owner_at out p ≡ better (owner_at first p) (owner_at second p)
all_merged first second out i j place a b m le le' p =
    let all_first : take i first ≡ first = take_all i first le in
    let all_second : take j second ≡ second = take_all j second le' in
    m.agrees p ∙ rw (all_first, all_second) refl

-- the owner among ranges, in two parts
better_none : (a : Option Owner) → a ≡ better a None
better_none None = refl
better_none (Some a) = refl

better_assoc : (a b c : Option Owner) → better a (better b c) ≡ better (better a b) c
better_assoc None b c = refl
better_assoc (Some a) None c = refl
better_assoc (Some a) (Some b) None = better_none (better (Some a) (Some b))
better_assoc (Some a) (Some b) (Some c) = grind (arith, nat_tests)

pub owner_among-append : (xs ys : List Span) (p : ℕ) → owner_among (xs ++ ys) p ≡ better (owner_among xs p) (owner_among ys p)
owner_among-append [] ys p = refl
owner_among-append (x ∷ xs) ys p = ap (better (own x p)) (owner_among-append xs ys p) ∙ better_assoc (own x p) (owner_among xs p) (owner_among ys p)

pub owner_among-parts : (xs : List Span) (k p : ℕ) → owner_among xs p ≡ better (owner_among (take k xs) p) (owner_among (drop k xs) p)
owner_among-parts xs k p = ap (λ (ys : List Span). owner_among ys p) (sym (take-append-drop k xs)) ∙ owner_among-append (take k xs) (drop k xs) p

pub owner_of_one : (xs : List Span) (d : Span) (p : ℕ) → length xs ≡ 1 → owner_among xs p ≡ own (get_or xs 0 d) p
owner_of_one [] d p one = absurd (omega arith)
owner_of_one (x ∷ []) d p one = sym (better_none (own x p))
owner_of_one (x ∷ y ∷ ys) d p one = absurd (omega arith)

-- the choice of the next step
pub if_true : (b : Bool) (P : Type 0) → (b ≡ true → P) → OnTrue b P
if_true true P h = h refl
if_true false P h = tt

pub if_false : (b : Bool) (P : Type 0) → (b ≡ false → P) → OnFalse b P
if_false true P h = tt
if_false false P h = h refl

pub is_next : (first second : List Step) (i j : ℕ) (d : Step) → IsNonDecreasingBy (λ (s : Step). s.from) second → i < length first → (get_or first i d).from ≤ (get_or second j d).from → IsNext first i second j
is_next first second i j d up lt le = record {
  in_range = lt;
  low = λ k e after within.
      let later : (get_or second j d).from ≤ (get_or second k d).from = up j k d after within in
      let same : get_or first i e ≡ get_or first i d = get_or_default first i e d lt in
      let same' : get_or second k e ≡ get_or second k d = get_or_default second k e d within in
      rw (same, same') (omega arith);
}

-- a place is found behind the steps at or below it
owner_from_above : (o : Option Owner) (xs : List Step) (p : ℕ) → ((k : ℕ) (d : Step) → k < length xs → leb (get_or xs k d).from p ≡ false) → owner_from o xs p ≡ o
owner_from_above o [] p above = refl
owner_from_above o (x ∷ xs) p above =
    let here : leb x.from p ≡ false = above 0 x (omega arith) in
    rw here (owner_from_above o xs p (λ k d lt. above (suc k) d (omega arith)))

owner_at_front : (xs : List Step) (n p : ℕ) → n ≤ length xs → ((k : ℕ) (d : Step) → n ≤ k → k < length xs → leb (get_or xs k d).from p ≡ false) → owner_at xs p ≡ owner_at (take n xs) p
owner_at_front xs n p le above =
    ap (λ (ys : List Step). owner_at ys p) (sym (take-append-drop n xs))
    ∙ owner_from-append None (take n xs) (drop n xs) p
    ∙ owner_from_above (owner_at (take n xs) p) (drop n xs) p (λ k d lt. rw get_or-drop (above (n + k) d (omega arith) (omega (arith, length-drop n xs))))

pub owner_at_none : (xs : List Step) (p : ℕ) → ((k : ℕ) (d : Step) → k < length xs → leb (get_or xs k d).from p ≡ false) → None ≡ owner_at xs p
owner_at_none xs p above = sym (owner_from_above None xs p above)

pub owner_at_some : (xs : List Step) (m p : ℕ) (d : Step) → m < length xs → leb (get_or xs m d).from p ≡ true → ((k : ℕ) (e : Step) → m + 1 ≤ k → k < length xs → leb (get_or xs k e).from p ≡ false) → (get_or xs m d).owner ≡ owner_at xs p
owner_at_some xs m p d within here above =
    let front : owner_at (take (m + 1) xs) p ≡ (get_or xs m d).owner = ap (λ (ys : List Step). owner_at ys p) (take_more xs m d within) ∙ owner_at-push (take m xs) (get_or xs m d) p ∙ rw here refl in
    sym (owner_at_front xs (m + 1) p (omega arith) above ∙ front)

pub IfOk_then : {T E : Type 0} (r : Result T E) {P Q : T → Type 0} → IfOk r P → ((v : T) → P v → Q v) → IfOk r Q
IfOk_then (Ok v) h f = f v h
IfOk_then (Err e) h f = tt
