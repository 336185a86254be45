-- An entry stays grouped with one more event and its checks.
use Rattle.std.proofs.Common.{◌≡◌, ℕ, zero, suc, ◌+◌, ◌<◌, ◌≤◌, ◌==◌, Bool, true, false, List, [], ◌∷◌, ◌++◌, length, length-append, refl, sym, ap, ap₂, ◌∙◌, arith, eq-eqb, ne_eqb}
use Rattle.std.specs.Prelude.{All, cond, flat_map}
use Rattle.std.proofs.lemmas.List.{append-nil}
use Rattle.std.proofs.lemmas.List.Elements.{All-head, All-tail, All-append}
use Rattle.std.proofs.lemmas.Grind.{flat_map-append}
use Rattle.run_record.specs.declared.event.Event.{Event}
use Rattle.run_record.specs.declared.entry.Entry.{Entry}
use Rattle.run_record.specs.declared.entry.Check.{Check}
use Rattle.run_laws.specs.Numbers.{up_from}
use Rattle.run_laws.specs.Moments.{checks_at}
use Rattle.run_laws.specs.Checks.{IsGrouped}
use Rattle.turn_laws.specs.Going.{with_event, AreOfEvents}

pub up_from-push : (k n : ℕ) → up_from k (suc n) ≡ up_from k n ++ (k + n) ∷ []
up_from-push k zero = let z : k ≡ k + 0 = omega arith in ap (λ x. x ∷ []) z
up_from-push k (suc n) = let z : suc k + n ≡ k + suc n = omega arith in ap (λ (xs : List ℕ). k ∷ xs) (up_from-push (suc k) n ∙ ap (λ x. up_from (suc k) n ++ x ∷ []) z)

flat_map-same : (f f2 : ℕ → List Check) (k n : ℕ) → ((i : ℕ) → k ≤ i → i < k + n → f i ≡ f2 i) → flat_map f (up_from k n) ≡ flat_map f2 (up_from k n)
flat_map-same f f2 k zero s = refl
flat_map-same f f2 k (suc n) s = ap₂ (λ (xs ys : List Check). xs ++ ys) (s k (omega arith) (omega arith)) (flat_map-same f f2 (suc k) n (λ i a b. s i (omega arith) (omega arith)))

checks_at-other : (k : ℕ) (cs : List Check) → All (λ (c : Check). c.event ≡ k → ⊥) cs → checks_at k cs ≡ []
checks_at-other k [] a = refl
checks_at-other k (c ∷ cs) a = rw (ne_eqb c.event k (All-head (λ (c : Check). c.event ≡ k → ⊥) c cs a), checks_at-other k cs (All-tail (λ (c : Check). c.event ≡ k → ⊥) c cs a)) refl

checks_at-same : (k : ℕ) (cs : List Check) → All (λ (c : Check). c.event ≡ k) cs → checks_at k cs ≡ cs
checks_at-same k [] a = refl
checks_at-same k (c ∷ cs) a = rw (eq-eqb c.event k (All-head (λ (c : Check). c.event ≡ k) c cs a)) (ap (λ (ds : List Check). c ∷ ds) (checks_at-same k cs (All-tail (λ (c : Check). c.event ≡ k) c cs a)))

checks_at-append : (k : ℕ) (cs ds : List Check) → checks_at k (cs ++ ds) ≡ checks_at k cs ++ checks_at k ds
checks_at-append k [] ds = refl
checks_at-append k (c ∷ cs) ds = go (c.event == k) (checks_at-append k cs ds)
  where
    go : (b : Bool) → checks_at k (cs ++ ds) ≡ checks_at k cs ++ checks_at k ds → cond b (c ∷ checks_at k (cs ++ ds)) (checks_at k (cs ++ ds)) ≡ cond b (c ∷ checks_at k cs) (checks_at k cs) ++ checks_at k ds
    go true e = ap (λ (xs : List Check). c ∷ xs) e
    go false e = e

pub grouped-push : (e : Entry) (event : Event) (checks : List Check) → IsGrouped e → AreOfEvents e → All (λ (c : Check). c.event ≡ length e.events) checks → IsGrouped (with_event e event checks)
grouped-push e event checks grouped old new =
    ap₂ (λ (xs ys : List Check). xs ++ ys) (grouped ∙ flat_map-same (λ i. checks_at i e.checks) at 0 n (λ i a b. sym (old_at i b))) (sym last_at)
    ∙ (ap (λ (xs : List Check). flat_map at (up_from 0 n) ++ xs) (sym (append-nil (at n)))
    ∙ (sym (flat_map-append at (up_from 0 n) (n ∷ []))
    ∙ ap (flat_map at) (sym (up_from-push 0 n ∙ ap (λ x. up_from 0 n ++ x ∷ []) none) ∙ ap (up_from 0) long)))
  where
    n : ℕ
    n = length e.events

    at : ℕ → List Check
    at i = checks_at i (e.checks ++ checks)

    none : 0 + n ≡ n
    none = omega arith

    long : suc n ≡ length (e.events ++ event ∷ [])
    long = omega (arith, length-append e.events (event ∷ []))

    old_at : (i : ℕ) → i < 0 + n → at i ≡ checks_at i e.checks
    old_at i b =
        checks_at-append i e.checks checks
        ∙ (ap (λ (xs : List Check). checks_at i e.checks ++ xs) (checks_at-other i checks (λ j d l q. let z = new j d l in omega arith)) ∙ append-nil (checks_at i e.checks))

    last_at : at n ≡ checks
    last_at =
        checks_at-append n e.checks checks
        ∙ (ap (λ (xs : List Check). xs ++ checks_at n checks) (checks_at-other n e.checks (λ j d l q. let z = old j d l in omega arith)) ∙ checks_at-same n checks new)

pub of_events-push : (e : Entry) (event : Event) (checks : List Check) → AreOfEvents e → All (λ (c : Check). c.event ≡ length e.events) checks → AreOfEvents (with_event e event checks)
of_events-push e event checks old new =
    All-append (λ (c : Check). c.event < length (e.events ++ event ∷ [])) e.checks checks
    (λ j d l. let z = old j d l in omega (arith, length-append e.events (event ∷ [])))
    (λ j d l. let z = new j d l in omega (arith, length-append e.events (event ∷ [])))
