-- Pairs of stacks.
use Rattle.std.specs.Prelude.{◌≡◌, ℕ, ◌+◌, ◌^◌, ◌%◌, ◌==◌, ◌&&◌, ◌||◌, Bool, true, List, [], ◌∷◌, fold, Option, Some, None, refl}
use Rattle.std.specs.Hash as fed
use Rattle.std.specs.Hash.FoldHasher as folding
use Rattle.std.specs.Cmp.{IsEquivalence, equiv, both_ways}
use Rattle.std.proofs.Common.{◌⊎◌, inl, inr, eqb-true, eq-eqb, ap, sym, subst, ◌∙◌, add_comm}
use Rattle.std.proofs.lemmas.Bool.{and_parts, and_from, or_cases, or_left, or_right}
use Rattle.run_record.specs.declared.report.Report.{Report}
use Rattle.run_laws.specs.Reports.{same_places, same_stack}
use Rattle.report_text.specs.declared.stack_pair.StackPair.{StackPair}

-- the stacks of a report
abbrev pub stacks_of : Report → StackPair
stacks_of r = record { mine = r.mine.stack; previous = r.previous.stack }

-- the same two stacks, in either order
abbrev pub same_stacks : StackPair → StackPair → Bool
same_stacks p q = (same_stack p.mine q.mine && same_stack p.previous q.previous) || (same_stack p.mine q.previous && same_stack p.previous q.mine)

-- a stack's hash, and 0 for a lost one
abbrev pub stack_hash : Option (List ℕ) → ℕ
stack_hash None = 0
stack_hash (Some places) = folding.finish (fold folding.write folding.initial (fed.slice fed.u64 places))

-- what a pair gives to a hasher: the sum of its hashes
abbrev pub pair_writes : StackPair → fed.HashWrites
pair_writes p = fed.u64 ((stack_hash p.mine + stack_hash p.previous) % 2 ^ 64)

-- the test decides whether two stacks are the same
pub same_places-refl : (ps : List ℕ) → same_places ps ps ≡ true
same_places-refl [] = refl
same_places-refl (p ∷ ps) = and_from (p == p) (same_places ps ps) (eq-eqb p p refl) (same_places-refl ps)

pub same_places-true : (ps qs : List ℕ) → same_places ps qs ≡ true → ps ≡ qs
same_places-true [] [] e = refl
same_places-true [] (q ∷ qs) e = cc
same_places-true (p ∷ ps) [] e = cc
same_places-true (p ∷ ps) (q ∷ qs) e =
    let both = and_parts (p == q) (same_places ps qs) e in
    let head = eqb-true p q both.0 in
    let tail = same_places-true ps qs both.1 in
    λ i. head i ∷ tail i

pub same_stack-refl : (s : Option (List ℕ)) → same_stack s s ≡ true
same_stack-refl None = refl
same_stack-refl (Some ps) = same_places-refl ps

pub same_stack-true : (s t : Option (List ℕ)) → same_stack s t ≡ true → s ≡ t
same_stack-true None None e = refl
same_stack-true None (Some q) e = cc
same_stack-true (Some p) None e = cc
same_stack-true (Some p) (Some q) e = ap Some (same_places-true p q e)

-- The two pairs have the same stacks, in either order.
abbrev pub AreSame : StackPair → StackPair → Type 0
AreSame p q = ((p.mine ≡ q.mine) × (p.previous ≡ q.previous)) ⊎ ((p.mine ≡ q.previous) × (p.previous ≡ q.mine))

-- the test decides it
both_same : (s t u v : Option (List ℕ)) → (same_stack s t && same_stack u v) ≡ true → (s ≡ t) × (u ≡ v)
both_same s t u v e =
    let both = and_parts (same_stack s t) (same_stack u v) e in
    (same_stack-true s t both.0, same_stack-true u v both.1)

pub same_stacks-true : (p q : StackPair) → same_stacks p q ≡ true → AreSame p q
same_stacks-true p q e =
    elim (or_cases (same_stack p.mine q.mine && same_stack p.previous q.previous) (same_stack p.mine q.previous && same_stack p.previous q.mine) e) [
      | inl straight ↦ inl (both_same p.mine q.mine p.previous q.previous straight)
      | inr crossed ↦ inr (both_same p.mine q.previous p.previous q.mine crossed)
    ]

from_same : (s t : Option (List ℕ)) → s ≡ t → same_stack s t ≡ true
from_same s t e = subst (λ u. same_stack s u ≡ true) e (same_stack-refl s)

both_from : (s t u v : Option (List ℕ)) → s ≡ t → u ≡ v → (same_stack s t && same_stack u v) ≡ true
both_from s t u v e f = and_from (same_stack s t) (same_stack u v) (from_same s t e) (from_same u v f)

pub same_stacks_from : (p q : StackPair) → AreSame p q → same_stacks p q ≡ true
same_stacks_from p q (inl h) = or_left (same_stack p.mine q.mine && same_stack p.previous q.previous) (same_stack p.mine q.previous && same_stack p.previous q.mine) (both_from p.mine q.mine p.previous q.previous h.0 h.1)
same_stacks_from p q (inr h) = or_right (same_stack p.mine q.mine && same_stack p.previous q.previous) (same_stack p.mine q.previous && same_stack p.previous q.mine) (both_from p.mine q.previous p.previous q.mine h.0 h.1)

turned : (p q : StackPair) → AreSame p q → AreSame q p
turned p q (inl h) = inl (sym h.0, sym h.1)
turned p q (inr h) = inr (sym h.1, sym h.0)

joined : (p q r : StackPair) → AreSame p q → AreSame q r → AreSame p r
joined p q r (inl h) (inl k) = inl (h.0 ∙ k.0, h.1 ∙ k.1)
joined p q r (inl h) (inr k) = inr (h.0 ∙ k.0, h.1 ∙ k.1)
joined p q r (inr h) (inl k) = inr (h.0 ∙ k.1, h.1 ∙ k.0)
joined p q r (inr h) (inr k) = inl (h.0 ∙ k.1, h.1 ∙ k.0)

turned_test : (p q : StackPair) → same_stacks p q ≡ true → same_stacks q p ≡ true
turned_test p q e = same_stacks_from q p (turned p q (same_stacks-true p q e))

-- it is an equivalence
pub same_stacks_equiv : IsEquivalence same_stacks
same_stacks_equiv = equiv
    (record {
      symm = λ p q. both_ways (same_stacks p q) (same_stacks q p) (turned_test p q) (turned_test q p);
      trans = λ p q r e f. same_stacks_from p r (joined p q r (same_stacks-true p q e) (same_stacks-true q r f));
    })
    (λ p. same_stacks_from p p (inl (refl, refl)))

-- equal pairs give the same
pub pair_writes-same : (p q : StackPair) → same_stacks p q ≡ true → pair_writes p ≡ pair_writes q
pair_writes-same p q e =
    elim (same_stacks-true p q e) [
      | inl h ↦ (λ i. fed.u64 ((stack_hash (h.0 i) + stack_hash (h.1 i)) % 2 ^ 64))
      | inr h ↦ (λ i. fed.u64 ((stack_hash (h.0 i) + stack_hash (h.1 i)) % 2 ^ 64)) ∙ ap (λ n. fed.u64 (n % 2 ^ 64)) (add_comm (stack_hash q.previous) (stack_hash q.mine))
    ]
