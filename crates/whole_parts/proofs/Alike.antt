-- The moments of entries, as they are added to a history, and those of the same entries in rounds.
use Rattle.std.proofs.Common.{◌≡◌, ◌≤◌, ℕ, ◌+◌, ◌-◌, Bool, true, false, cond, List, [], ◌∷◌, ◌++◌, length, refl, sym, ap, ap₂, subst, ◌∙◌, arith}
use Rattle.std.specs.Prelude.{map, replicate}
use Rattle.std.specs.List.{enumerate_from}
use Rattle.std.proofs.lemmas.List.{append_assoc, append-nil}
use Rattle.std.proofs.lemmas.List.Sums.{fold-append}
use Rattle.run_record.specs.declared.event.Event.{Event}
use Rattle.run_record.specs.declared.entry.Entry.{Entry}
use Rattle.run_laws.specs.Moments.{Moment, moments, moments_in, entry_moments, event_moment, last_era}
use Rattle.run_laws.proofs.MomentsLaw.{moments-push}
use Rattle.turn_orders.specs.Lists.{Each}
use Rattle.turn_laws.specs.Going.{AreAlike, era_moment}
use Rattle.turn_laws.proofs.AlikeLaw.{alike-rounds, one_more_era}
use Rattle.turn_histories.specs.Rounds.{IsIn}
use Rattle.turn_histories.proofs.Rounds.{an_era, eras_in, moments_of}

alike_then : (h k l : List Moment) → AreAlike h k → AreAlike k l → AreAlike h l
alike_then [] [] [] a b = tt
alike_then [] [] (z ∷ l) a b = absurd b
alike_then [] (y ∷ k) l a b = absurd a
alike_then (x ∷ h) [] l a b = absurd a
alike_then (x ∷ h) (y ∷ k) [] a b = absurd b
alike_then (x ∷ h) (y ∷ k) (z ∷ l) a b = ((a.0.0 ∙ b.0.0, a.0.1 ∙ b.0.1), alike_then h k l a.1 b.1)

alike_both : (h k x y : List Moment) → AreAlike h k → AreAlike x y → AreAlike (h ++ x) (k ++ y)
alike_both [] [] x y a b = b
alike_both [] (m ∷ k) x y a b = absurd a
alike_both (n ∷ h) [] x y a b = absurd a
alike_both (n ∷ h) (m ∷ k) x y a b = (a.0, alike_both h k x y a.1 b)

-- an entry has the same moments whatever its number is
numbered_alike : (k : ℕ) (e : Entry) (n : ℕ) (es : List Event) →
    AreAlike (map (event_moment 0 e) (enumerate_from n es)) (map (event_moment k e) (enumerate_from n es))
numbered_alike k e n [] = tt
numbered_alike k e n (x ∷ es) = ((refl, refl), numbered_alike k e (n + 1) es)

entry_alike : (k : ℕ) (e : Entry) → AreAlike (entry_moments 0 e) (entry_moments k e)
entry_alike k e = ((refl, refl), numbered_alike k e 0 e.events)

last_pushed : (done : List Entry) (e : Entry) → last_era (done ++ e ∷ []) ≡ e.era
last_pushed done e = fold-append (λ (era : ℕ) (e : Entry). e.era) 0 done (e ∷ [])

-- one more entry of the round
entry_more : (round era : ℕ) (done : List Entry) (e : Entry) → IsIn round era e →
    moments_in round era (done ++ e ∷ []) ≡ moments_in round era done ++ entry_moments (length done) e
entry_more round era done e in_ =
    let none : era - last_era (done ++ e ∷ []) ≡ 0 = (let q = last_pushed done e in let r = in_.era in omega (arith, q, r)) in
    ap (λ (n : ℕ). moments (done ++ e ∷ []) ++ replicate n (era_moment (length (done ++ e ∷ [])) round)) none
    ∙ (append-nil (moments (done ++ e ∷ []))
    ∙ (moments-push done e
    ∙ ap₂ (λ (r a : ℕ). moments_in r a done ++ entry_moments (length done) e) in_.round in_.era))

-- entries of a round add their moments
pub entries_more : (round era : ℕ) (done es : List Entry) (pre : List Moment) → Each (IsIn round era) es → AreAlike pre (moments_in round era done) →
    AreAlike (pre ++ moments_of es) (moments_in round era (done ++ es))
entries_more round era done [] pre inside a =
    subst (λ (x : List Moment). AreAlike x (moments_in round era (done ++ []))) (sym (append-nil pre))
    (subst (λ (x : List Entry). AreAlike pre (moments_in round era x)) (sym (append-nil done)) a)
entries_more round era done (e ∷ es) pre inside a =
    let one = subst (AreAlike (pre ++ entry_moments 0 e)) (sym (entry_more round era done e inside.0))
    (alike_both pre (moments_in round era done) (entry_moments 0 e) (entry_moments (length done) e) a (entry_alike (length done) e)) in
    subst (λ (x : List Moment). AreAlike x (moments_in round era (done ++ e ∷ es))) (append_assoc pre (entry_moments 0 e) (moments_of es))
    (subst (λ (x : List Entry). AreAlike ((pre ++ entry_moments 0 e) ++ moments_of es) (moments_in round era x)) (append_assoc done (e ∷ []) es)
    (entries_more round era (done ++ e ∷ []) es (pre ++ entry_moments 0 e) inside.1 one))

-- the last entry's era is no later than the round's
pub last_below : (round era : ℕ) (done es : List Entry) → Each (IsIn round era) es → last_era done ≤ era → last_era (done ++ es) ≤ era
last_below round era done [] inside l = (let q = ap last_era (append-nil done) in omega (arith, q, l))
last_below round era done (e ∷ es) inside l =
    let here : last_era (done ++ e ∷ []) ≤ era = (let q = last_pushed done e in let r = inside.0.era in omega (arith, q, r)) in
    let rest = last_below round era (done ++ e ∷ []) es inside.1 here in
    let q = ap last_era (append_assoc done (e ∷ []) es) in
    omega (arith, q, rest)

-- the next round begins, and an era, where the round ends one
pub eras_more : (round era : ℕ) (done : List Entry) (ends : Bool) (pre : List Moment) → last_era done ≤ era → AreAlike pre (moments_in round era done) →
    AreAlike (pre ++ eras_in ends) (moments_in (round + 1) (cond ends (era + 1) era) done)
eras_more round era done false pre l a =
    subst (λ (x : List Moment). AreAlike x (moments_in (round + 1) era done)) (sym (append-nil pre))
    (alike_then pre (moments_in round era done) (moments_in (round + 1) era done) a (alike-rounds round (round + 1) era done))
eras_more round era done true pre l a =
    subst (AreAlike (pre ++ an_era ∷ [])) (sym (one_more_era (round + 1) era done l))
    (alike_both pre (moments_in (round + 1) era done) (an_era ∷ []) (era_moment (length done) (round + 1) ∷ [])
    (alike_then pre (moments_in round era done) (moments_in (round + 1) era done) a (alike-rounds round (round + 1) era done)) ((refl, refl), tt))
