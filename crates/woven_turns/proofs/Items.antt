-- The items of a seat's log as steps of a past.
use Rattle.std.proofs.Common.{◌≡◌, ℕ, zero, suc, ◌<◌, ◌≤◌, List, [], ◌∷◌, ◌++◌, length, ◌⊎◌, inl, inr, refl, sym, ap, ◌∙◌, arith, length-append}
use mathlib.Core.Logic.{dite}
use mathlib.Core.Option.{some, some-injective, some-ne-none}
use native.Mathlib.Decide.{ℕ_discrete}
use lib.ListN.{get_elem?}
use Rattle.atomic_table.proofs.Lists.{at_longer, at_last}
use Rattle.shared_table.specs.declared.view.Item.{Item}
use Rattle.shared_table.specs.Past.{Log, Past, log_of}
use Rattle.shared_table.proofs.Pasts.{if_here, if_else, log_else}
use Rattle.woven_turns.specs.Steps.{Stands}
use Rattle.woven_turns.proofs.Standing.{Suffix, stands_len, tail_suffix, two}

-- what stands in a longer list stood in the shorter one, or is the new last element
at_more : {X : Type 0} (l : List X) (x y : X) (j : ℕ) → get_elem? (l ++ x ∷ []) j ≡ some y → (get_elem? l j ≡ some y) ⊎ ((j ≡ length l) × (x ≡ y))
at_more [] x y zero e = inr (refl, some-injective x y e)
at_more [] x y (suc j) e = absurd (some-ne-none y (sym e))
at_more (z ∷ l) x y zero e = inl e
at_more (z ∷ l) x y (suc j) e = elim (at_more l x y j e) [ inl q ↦ inl q | inr q ↦ inr (ap suc q.0, q.1) ]

abbrev StepOf : Past → ℕ → ℕ → Item → Type 0
StepOf past n j x = (e : Past) × Stands past e (n, x) × (length (log_of n e) ≡ j)

-- each item of a log stands in the past
pub item_stands : (past : Past) (n j : ℕ) (x : Item) → get_elem? (log_of n past) j ≡ some x → (e : Past) × Stands past e (n, x) × (length (log_of n e) ≡ j)
item_stands [] n j x i = absurd (some-ne-none x (sym i))
item_stands ((m, y) ∷ past) n j x i = dite (ℕ_discrete m n)
    (λ q. step q (item_stands past n j x) (at_more (log_of n past) y x j (ap (λ (z : Log). get_elem? z j) (sym (if_here m n (log_of n past ++ y ∷ []) (log_of n past) q)) ∙ i)))
    (λ o. let r = item_stands past n j x (ap (λ (z : Log). get_elem? z j) (sym (log_else past m n y o)) ∙ i) in (r.0, inr r.1, r.2))
  where
    step : m ≡ n → (get_elem? (log_of n past) j ≡ some x → StepOf past n j x) → ((get_elem? (log_of n past) j ≡ some x) ⊎ ((j ≡ length (log_of n past)) × (y ≡ x))) → StepOf ((m, y) ∷ past) n j x
    step q rest (inl a) = let r = rest a in (r.0, inr r.1, r.2)
    step q rest (inr a) = (past, inl ((λ k. (q k, a.1 k)), refl), sym a.0)

-- and each step of a seat in its log, at the place that its earlier steps leave
pub item_in_log : (past e : Past) (n : ℕ) (x : Item) → Stands past e (n, x) → get_elem? (log_of n past) (length (log_of n e)) ≡ some x
item_in_log [] e n x s = absurd s
item_in_log ((m, y) ∷ past) e n x (inl a) =
    let q : m ≡ n = ap (λ (z : ℕ × Item). z.0) a.0 in
    let r : y ≡ x = ap (λ (z : ℕ × Item). z.1) a.0 in
    let l : length (log_of n past) ≡ length (log_of n e) = ap (λ (z : Past). length (log_of n z)) a.1 in
    ap (λ (z : Log). get_elem? z (length (log_of n e))) (if_here m n (log_of n past ++ y ∷ []) (log_of n past) q) ∙ (at_last (log_of n past) y (length (log_of n e)) l ∙ ap some r)
item_in_log ((m, y) ∷ past) e n x (inr s) = dite (ℕ_discrete m n)
    (λ q. ap (λ (z : Log). get_elem? z (length (log_of n e))) (if_here m n (log_of n past ++ y ∷ []) (log_of n past) q) ∙ at_longer (log_of n past) (y ∷ []) (length (log_of n e)) x (item_in_log past e n x s))
    (λ o. ap (λ (z : Log). get_elem? z (length (log_of n e))) (log_else past m n y o) ∙ item_in_log past e n x s)

log_len : (n : ℕ) (x : ℕ × Item) (past : Past) → length (log_of n past) ≤ length (log_of n (x ∷ past))
log_len n x past = dite (ℕ_discrete x.0 n)
    (λ e. let q = ap length (if_here x.0 n (log_of n past ++ x.1 ∷ []) (log_of n past) e) in omega (arith, length-append (log_of n past) (x.1 ∷ [])))
    (λ o. let q = ap length (if_else x.0 n (log_of n past ++ x.1 ∷ []) (log_of n past) o) in omega arith)

pub log_grows : (n : ℕ) (s past : Past) → Suffix s past → length (log_of n s) ≤ length (log_of n past)
log_grows n s [] e = let q = ap (λ (z : Past). length (log_of n z)) e in omega arith
log_grows n s (x ∷ past) (inl e) = let q = ap (λ (z : Past). length (log_of n z)) e in omega arith
log_grows n s (x ∷ past) (inr i) = let q = log_grows n s past i in let r = log_len n x past in omega arith

-- the items of a seat stand in the past in the order of its log
pub seat_order : (past e1 e2 : Past) (n : ℕ) (x y : Item) → Stands past e1 (n, x) → Stands past e2 (n, y) → length (log_of n e1) < length (log_of n e2) → length e1 < length e2
seat_order past e1 e2 n x y a b lt = elim (two past e1 e2 (n, x) (n, y) a b) [
  | inl s ↦ stands_len e2 e1 (n, x) s
  | inr c ↦ elim c [
    | inl s ↦ absurd (let g = log_grows n e2 e1 (tail_suffix e1 e2 (n, y) s) in omega arith)
    | inr q ↦ absurd (let g = ap (λ (z : Past). length (log_of n z)) q.1 in omega arith)
  ]
]
