use Rattle.std.proofs.Common.{◌≡◌, ◌<◌, ◌⊎◌, inl, inr, ℕ, List, [], ◌∷◌, ◌++◌, refl, arith}
use Rattle.std.specs.Prelude.{All, AllPairs}
use Rattle.std.proofs.lemmas.List.Elements.{All-cons, All-nil}
use Rattle.std.proofs.lemmas.List.Kept.{AllPairs-cons}
use Rattle.run_record.specs.declared.entry.Entry.{Entry}
use Rattle.run_record.specs.Order.{entries_in, AreDistinct, AreOrdered}
use Rattle.run_record.proofs.logs.tests.logs.Goals as goal

abbrev IsAt : Entry → ℕ → ℕ → Type 0
IsAt e stamp tid = (e.stamp ≡ stamp) × (e.tid ≡ tid)

Differ : Entry → Entry → Type 0
Differ d e = ((d.stamp ≡ e.stamp) × (d.tid ≡ e.tid)) → ⊥

distinct : (a b c d : Entry) → IsAt a 2 2 → IsAt b 1 0 → IsAt c 3 0 → IsAt d 2 1 → AreDistinct (a ∷ b ∷ c ∷ d ∷ [])
unfolding Differ
distinct a b c d at_a at_b at_c at_d =
    let with_a : All (Differ a) (b ∷ c ∷ d ∷ []) = All-cons (Differ a) b (c ∷ d ∷ []) (λ h. omega arith)
    (All-cons (Differ a) c (d ∷ []) (λ h. omega arith) (All-cons (Differ a) d [] (λ h. omega arith) (All-nil (Differ a)))) in
    let with_b : All (Differ b) (c ∷ d ∷ []) = All-cons (Differ b) c (d ∷ []) (λ h. omega arith)
    (All-cons (Differ b) d [] (λ h. omega arith) (All-nil (Differ b))) in
    let with_c : All (Differ c) (d ∷ []) = All-cons (Differ c) d [] (λ h. omega arith) (All-nil (Differ c)) in
    let last : AllPairs Differ (d ∷ []) = λ i j e p q. absurd (omega arith) in
    AllPairs-cons Differ a (b ∷ c ∷ d ∷ []) with_a (AllPairs-cons Differ b (c ∷ d ∷ []) with_b (AllPairs-cons Differ c (d ∷ []) with_c last))

Stands : Entry → Entry → Type 0
Stands d e = (d.stamp < e.stamp) ⊎ ((d.stamp ≡ e.stamp) × (d.tid < e.tid))

one : (a : Entry) → AreOrdered (a ∷ [])
one a = λ i j d less within. absurd (omega (arith, less, within))

two : (b c : Entry) → b.stamp < c.stamp → AreOrdered (b ∷ c ∷ [])
unfolding Stands
two b c less =
    let later : All (Stands b) (c ∷ []) = All-cons (Stands b) c [] (inl less) (All-nil (Stands b)) in
    AllPairs-cons Stands b (c ∷ []) later (one c)

-- the entries that were put into three logs
distinct_logs :
    (logs : List (List Entry)) (m n o f g s t : List Entry) (a b c d : Entry) → m ≡ [] → n ≡ m ++ b ∷ [] → o ≡ n ++ c ∷ [] → f ≡ [] → g ≡ f ++ d ∷ [] →
    s ≡ [] → t ≡ s ++ a ∷ [] → logs ≡ t ∷ o ∷ g ∷ [] →
    IsAt a 2 2 → IsAt b 1 0 → IsAt c 3 0 → IsAt d 2 1 → AreDistinct (entries_in logs)
distinct_logs logs m n o f g s t a b c d m_is n_is o_is f_is g_is s_is t_is logs_are at_a at_b at_c at_d =
    rw (logs_are, o_is, n_is, m_is, g_is, f_is, t_is, s_is) (distinct a b c d at_a at_b at_c at_d)

ordered_logs :
    (logs : List (List Entry)) (m n o f g s t : List Entry) (a b c d : Entry) → m ≡ [] → n ≡ m ++ b ∷ [] → o ≡ n ++ c ∷ [] → f ≡ [] → g ≡ f ++ d ∷ [] →
    s ≡ [] → t ≡ s ++ a ∷ [] → logs ≡ t ∷ o ∷ g ∷ [] → IsAt b 1 0 → IsAt c 3 0 → All AreOrdered logs
ordered_logs logs m n o f g s t a b c d m_is n_is o_is f_is g_is s_is t_is logs_are at_b at_c =
    rw (logs_are, o_is, n_is, m_is, g_is, f_is, t_is, s_is)
    (All-cons AreOrdered (a ∷ []) ((b ∷ c ∷ []) ∷ (d ∷ []) ∷ []) (one a)
    (All-cons AreOrdered (b ∷ c ∷ []) ((d ∷ []) ∷ []) (two b c (omega arith)) (All-cons AreOrdered (d ∷ []) [] (one d) (All-nil AreOrdered))))

pub returns-clause-distinct : goal.returns-clause-distinct
returns-clause-distinct c =
    distinct_logs _ _ _ _ _ _ _ _ _ _ _ _ c.new-main.ensures c.in_ok-put.ensures c.in_ok-put-2.ensures c.new-first.ensures c.in_ok-put-3.ensures c.new-second.ensures c.in_ok-put-4.ensures c.in_ok-vec.ensures.items
    (refl, refl) (refl, refl) (refl, refl) (refl, refl)

pub returns-clause-ordered : goal.returns-clause-ordered
returns-clause-ordered c =
    ordered_logs _ _ _ _ _ _ _ _ _ _ _ _ c.new-main.ensures c.in_ok-put.ensures c.in_ok-put-2.ensures c.new-first.ensures c.in_ok-put-3.ensures c.new-second.ensures c.in_ok-put-4.ensures c.in_ok-vec.ensures.items
    (refl, refl) (refl, refl)
