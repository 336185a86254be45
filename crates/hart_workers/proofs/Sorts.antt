-- Why a stable sort by stamp and thread sorts the accesses that wait.
use Rattle.std.proofs.Common.{◌≡◌, ◌<◌, ◌≤◌, ℕ, zero, suc, Bool, true, false, cond, ◌==◌, ◌&&◌, Ordering, List, [], ◌∷◌, map, filter, length, get_or, None, refl, sym, ap, ◌∙◌, ◌⊎◌, inl, inr, arith, suc-le-suc, zero-le}
use Rattle.std.specs.Ordering.{nat_cmp, is_lt, ordering_then}
use Rattle.std.specs.List.Sorted.{IsSortedByKey, IsStableByKey, ties}
use Rattle.std.proofs.lemmas.Bool.{cases_order}
use Rattle.std.proofs.lemmas.Bool.Decides.{nat_tests}
use Rattle.std.proofs.lemmas.Cmp.{nat_cmp_total, on_total, then_total}
use Rattle.std.proofs.lemmas.List.Sorted.{ranks_by, sorted_far}
use Rattle.turn_orders.specs.Lists.{Each, InOrder}
use Rattle.part_races.specs.Sorting.{Keyed, IsNotLater, has_key, AreSorted}
use Rattle.hart_workers.specs.declared.pending.Pending.{Pending}
use Rattle.hart_workers.specs.Tells.{keyed_of_pending}

abbrev pub key_of : Pending → ℕ × ℕ
key_of p = (p.waiting.stamp, p.tid)

-- how the keys compare
abbrev pub compare_keys : (ℕ × ℕ) → (ℕ × ℕ) → Ordering
compare_keys x y = ordering_then (nat_cmp x.0 y.0) (nat_cmp x.1 y.1)

abbrev pub is_before : Pending → Pending → Bool
is_before p q = is_lt (compare_keys (key_of p) (key_of q))

-- ---- in order

not_later : (s t u v : ℕ) → is_lt (ordering_then (nat_cmp u s) (nat_cmp v t)) ≡ false → (s < u) ⊎ ((s ≡ u) × (t ≤ v))
not_later s t u v sorted =
    elim (cases_order s u) [
      | inl e ↦ elim (cases_order t v) [
        | inl f ↦ inr (e, omega arith)
        | inr h ↦ elim h [ inl l ↦ inr (e, omega arith) | inr g ↦ absurd (grind (arith, nat_tests)) ]
      ]
      | inr h ↦ elim h [ inl l ↦ inl l | inr g ↦ absurd (grind (arith, nat_tests)) ]
    ]

each_at : (y : Pending) (ys : List Pending) → ((j : ℕ) → j < length ys → is_before (get_or ys j y) y ≡ false) →
    Each (IsNotLater (keyed_of_pending y)) (map keyed_of_pending ys)
each_at y [] h = tt
each_at y (z ∷ zs) h = (not_later _ _ _ _ (h zero (suc-le-suc zero-le)), each_at y zs (λ j lt. h (suc j) (suc-le-suc lt)))

in_order : (ys : List Pending) → ((i j : ℕ) (d : Pending) → i ≤ j → j < length ys → is_before (get_or ys j d) (get_or ys i d) ≡ false) →
    InOrder IsNotLater (map keyed_of_pending ys)
in_order [] h = tt
in_order (y ∷ ys) h = (
  each_at y ys (λ j lt. h zero (suc j) y zero-le (suc-le-suc lt)),
  in_order ys (λ i j d le lt. h (suc i) (suc j) d (suc-le-suc le) (suc-le-suc lt)),
)

-- ---- stable

-- some access of that stamp and thread
abbrev one_at : ℕ → ℕ → Pending
one_at stamp thread = record {
  tid = thread;
  waiting = record {
    stamp = stamp;
    candidate = record {
      mine = record { tid = 0; read = false; atomic = false; addr = 0; size = 0; stack = None; locks = [] };
      granule = 0;
      word = 0;
    };
  };
}

ties_same : (s t u v : ℕ) → ties (λ (x y : ℕ × ℕ). is_lt (compare_keys x y)) (s, t) (u, v) ≡ ((u == s) && (v == t))
ties_same s t u v = grind (arith, nat_tests)

kept_both : (p : Pending) (b c : Bool) (ks : List Keyed) (ps : List Pending) → c ≡ b → ks ≡ map keyed_of_pending ps →
    cond b (keyed_of_pending p ∷ ks) ks ≡ map keyed_of_pending (cond c (p ∷ ps) ps)
kept_both p true true ks ps same rest = ap (λ (l : List Keyed). keyed_of_pending p ∷ l) rest
kept_both p false false ks ps same rest = rest
kept_both p true false ks ps same rest = absurd (cc)
kept_both p false true ks ps same rest = absurd (cc)

filter_keys : (s t : ℕ) (ps : List Pending) → filter (has_key s t) (map keyed_of_pending ps) ≡ map keyed_of_pending (filter (ties is_before (one_at s t)) ps)
filter_keys s t [] = refl
filter_keys s t (p ∷ ps) =
    kept_both p ((p.waiting.stamp == s) && (p.tid == t)) (ties is_before (one_at s t) p) _ _ (ties_same s t p.waiting.stamp p.tid) (filter_keys s t ps)

pub AreSorted-from_sort : (xs ys : List Pending) → IsSortedByKey key_of compare_keys ys → IsStableByKey key_of compare_keys xs ys →
    AreSorted (map keyed_of_pending xs) (map keyed_of_pending ys)
AreSorted-from_sort xs ys ascends stable =
    let order = ranks_by (then_total (on_total (λ (x : ℕ × ℕ). x.0) nat_cmp_total) (on_total (λ (x : ℕ × ℕ). x.1) nat_cmp_total)) key_of in
    record {
      order = in_order ys (λ i j d le lt. sorted_far _ order ys ascends i j d le lt);
      stable = λ stamp thread.
          filter_keys stamp thread ys ∙ (ap (map keyed_of_pending) (stable (one_at stamp thread)) ∙ sym (filter_keys stamp thread xs));
    }
