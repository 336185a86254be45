-- The checks of an entry by the events that they name.
use Rattle.std.proofs.Common.{◌≡◌, ◌≢◌, ℕ, suc, ◌+◌, ◌<◌, ◌==◌, Bool, true, false, cond, List, [], ◌∷◌, ◌++◌, length, append_assoc, append-nil, refl, ap, ap₂, sym, subst, ◌∙◌, arith, eq-eqb, ne_eqb}
use Rattle.std.specs.Prelude.{map}
use Rattle.std.specs.List.{flat_map, enumerate_from}
use Rattle.run_record.specs.declared.event.Event.{Event}
use Rattle.run_record.specs.declared.entry.Check.{Check}
use Rattle.run_record.specs.declared.entry.Entry.{Entry}
use Rattle.run_laws.specs.Moments.{Does, checks_at, event_moment}
use Rattle.run_laws.specs.Numbers.{up_from}
use Rattle.run_laws.specs.Checks.{IsGrouped}
use Rattle.turn_orders.specs.Lists.{Each}
use Rattle.placed_detector.specs.Instructions.{AreHeard}
use Rattle.deed_histories.specs.Deeds.{AreNumbered}

abbrev pub flat : List (List Check) → List Check
flat css = flat_map (λ (cs : List Check). cs) css

at_append : (n : ℕ) (xs ys : List Check) → checks_at n (xs ++ ys) ≡ checks_at n xs ++ checks_at n ys
at_append n [] ys = refl
at_append n (x ∷ xs) ys = go (x.event == n) (at_append n xs ys)
  where
    go : (b : Bool) → checks_at n (xs ++ ys) ≡ checks_at n xs ++ checks_at n ys → cond b (x ∷ checks_at n (xs ++ ys)) (checks_at n (xs ++ ys)) ≡ cond b
        (x ∷ checks_at n xs) (checks_at n xs) ++ checks_at n ys
    go true rest = ap (λ (zs : List Check). x ∷ zs) rest
    go false rest = rest

-- checks of one event
at_all : (n : ℕ) (cs : List Check) → Each (λ (c : Check). c.event ≡ n) cs → checks_at n cs ≡ cs
at_all n [] all = refl
at_all n (c ∷ cs) all =
    ap (λ (b : Bool). cond b (c ∷ checks_at n cs) (checks_at n cs)) (eq-eqb c.event n all.0) ∙ ap (λ (zs : List Check). c ∷ zs) (at_all n cs all.1)

at_none : (n m : ℕ) (cs : List Check) → m ≢ n → Each (λ (c : Check). c.event ≡ m) cs → checks_at n cs ≡ []
at_none n m [] ne all = refl
at_none n m (c ∷ cs) ne all =
    ap (λ (b : Bool). cond b (c ∷ checks_at n cs) (checks_at n cs)) (ne_eqb c.event n (λ q. ne (sym all.0 ∙ q))) ∙ at_none n m cs ne all.1

-- those that come later
at_later : (n m : ℕ) (css : List (List Check)) → n < m → AreNumbered m css → checks_at n (flat css) ≡ []
at_later n m [] l all = refl
at_later n m (cs ∷ css) l all = at_append n cs (flat css) ∙ (ap (λ (zs : List Check). zs ++ checks_at n (flat css))
    (at_none n m cs (λ q. absurd (omega arith)) all.0) ∙ at_later n (m + 1) css (omega arith) all.1)

-- The checks of the n-th event, where those before it are of earlier events.
at_number : (n : ℕ) (before : List Check) (cs : List Check) (css : List (List Check)) → checks_at n before ≡ [] → AreNumbered n (cs ∷ css) → checks_at n
    (before ++ flat (cs ∷ css)) ≡ cs
at_number n before cs css none all =
    at_append n before (cs ++ flat css)
    ∙ (ap (λ (zs : List Check). zs ++ checks_at n (cs ++ flat css)) none
    ∙ (at_append n cs (flat css)
    ∙ (ap₂ (λ (a b : List Check). a ++ b) (at_all n cs all.0) (at_later n (n + 1) css (omega arith) all.1) ∙ append-nil cs)))

-- what comes before stays before the next event
before_next : (n : ℕ) (before cs : List Check) → ((j : ℕ) → n < j + 1 → checks_at j before ≡ []) → Each (λ (c : Check). c.event ≡ n) cs → (j : ℕ) →
    n + 1 < j + 1 → checks_at j (before ++ cs) ≡ []
before_next n before cs none all j l = at_append j before cs ∙ ap₂ (λ (a b : List Check). a ++ b) (none j (omega arith))
    (at_none j n cs (λ q. absurd (omega arith)) all)

module _ (e : Entry) (t : ℕ) (thread : e.tid ≡ t) where
  -- the moments of the events from the n-th on
  heard_from : (n : ℕ) (before : List Check) (es : List Event) (css : List (List Check)) → length es ≡ length css → e.checks ≡ before ++ flat css →
      ((j : ℕ) → n < j + 1 → checks_at j before ≡ []) → AreNumbered n css →
      AreHeard t (map (event_moment 0 e) (enumerate_from n es)) es css
  heard_from n before [] [] long is none all = tt
  heard_from n before [] (cs ∷ css) long is none all = absurd (cc)
  heard_from n before (v ∷ es) [] long is none all = absurd (cc)
  heard_from n before (v ∷ es) (cs ∷ css) long is none all = (
    record { item = ap (λ (u : ℕ). Does u v) thread; checks_are = ap (checks_at n) is ∙ at_number n before cs css (none n (omega arith)) all },
    heard_from (n + 1) (before ++ cs) es css (let q = long in omega arith) (is ∙ sym (append_assoc before cs (flat css)))
        (before_next n before cs none all.0) all.1,
  )

  pub entry_heard : (es : List Event) (css : List (List Check)) → length es ≡ length css → e.checks ≡ flat css → AreNumbered 0 css → AreHeard t
      (map (event_moment 0 e) (enumerate_from 0 es)) es css
  entry_heard es css long is all = heard_from 0 [] es css long is (λ j l. refl) all

  grouped_from : (n : ℕ) (before : List Check) (css : List (List Check)) → e.checks ≡ before ++ flat css → ((j : ℕ) → n < j + 1 → checks_at j before ≡ []) →
      AreNumbered n css → flat_map (λ (i : ℕ). checks_at i e.checks) (up_from n (length css)) ≡ flat css
  grouped_from n before [] is none all = refl
  grouped_from n before (cs ∷ css) is none all =
      let q : n + 1 ≡ suc n = omega arith in
      ap₂ (λ (a b : List Check). a ++ b) (ap (checks_at n) is ∙ at_number n before cs css (none n (omega arith)) all)
      (subst (λ (j : ℕ). flat_map (λ (i : ℕ). checks_at i e.checks) (up_from j (length css)) ≡ flat css) q
      (grouped_from (n + 1) (before ++ cs) css (is ∙ sym (append_assoc before cs (flat css))) (before_next n before cs none all.0) all.1))

  pub entry_grouped : (css : List (List Check)) → length e.events ≡ length css → e.checks ≡ flat css → AreNumbered 0 css → IsGrouped e
  entry_grouped css long is all = is ∙ sym (ap (λ (n : ℕ). flat_map (λ (i : ℕ). checks_at i e.checks) (up_from 0 n)) long ∙ grouped_from 0 [] css is
      (λ j l. refl) all)
