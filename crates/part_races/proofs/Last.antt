-- The last of several rounds, and the moments of their entries before it and with it.
use Rattle.std.proofs.Common.{◌≡◌, ◌≤◌, ◌+◌, ◌-◌, ℕ, zero, suc, Bool, true, false, cond, List, [], ◌∷◌, ◌++◌, length, length-append, append_assoc, append-nil, refl, sym, ap, subst, ◌∙◌, arith}
use Rattle.std.specs.Prelude.{map, replicate, fold}
use Rattle.std.specs.List.{AllZip}
use Rattle.std.proofs.Math.Seq.{get_or-append_right}
use Rattle.std.proofs.lemmas.List.Sums.{fold-append}
use Rattle.std.proofs.lemmas.Slice.Zip.{AllZip-long}
use Rattle.run_record.specs.declared.entry.Entry.{Entry}
use Rattle.run_laws.specs.Moments.{Past, NewEra, Moment, moment_at, moments, moments_in, era_moments, last_era}
use Rattle.report_laws.specs.Awaited.{Awaited}
use Rattle.turn_orders.specs.Lists.{Each}
use Rattle.turn_laws.specs.Going.{AreAlike}
use Rattle.turn_laws.proofs.AlikeLaw.{alike-rounds}
use Rattle.watched_turns.specs.Rounds.{WatchedRound, round_told, round_end, position_after}
use Rattle.turn_histories.specs.Entries.{IsTold}
use Rattle.turn_histories.specs.Rounds.{IsIn, IsRoundOf, AreRoundsOf, all_entries}
use Rattle.turn_histories.proofs.Rounds.{eras_in, moments_of, rounds_moments, all_told, era_length}
use Rattle.turn_histories.proofs.Alike.{last_round, final_era, rounds_alike}
use Rattle.hart_parts.specs.Rounds.{PartRound}
use Rattle.part_races.specs.Rounds.{era_after}
use Rattle.part_races.proofs.Rounds.{TellsAs}

-- ---- the last round

module _ (file : List ℕ) (harts g : ℕ) where
  pub record Split (round era : ℕ) (rounds : List WatchedRound) (ess : List (List Entry)) (es : List Entry) : Type 0 where
    pub early : List WatchedRound
    pub last : WatchedRound
    pub whole : rounds ≡ early ++ last ∷ []
    pub told : AreRoundsOf file harts g round era early ess
    pub told_last : IsRoundOf file harts g (last_round round early) (final_era era early) last es
    pub moments_are : rounds_moments rounds (ess ++ es ∷ []) ≡ rounds_moments early ess ++ (moments_of es ++ (eras_in last.ends ++ []))

  pub split : (ess : List (List Entry)) (es : List Entry) (rounds : List WatchedRound) (round era : ℕ) →
      AreRoundsOf file harts g round era rounds (ess ++ es ∷ []) → Split round era rounds ess es
  split [] es [] round era of = absurd of
  split [] es (r ∷ []) round era of = record { early = []; last = r; whole = refl; told = tt; told_last = of.0; moments_are = refl }
  split [] es (r ∷ (q ∷ rs)) round era of = absurd of.1
  split (fs ∷ ess) es [] round era of = absurd of
  split (fs ∷ ess) es (r ∷ rs) round era of =
      let rest = split ess es rs (round + 1) (cond r.ends (era + 1) era) of.1 in
      let a = rounds_moments rest.early ess in
      let b = moments_of es ++ (eras_in rest.last.ends ++ []) in
      record {
        early = r ∷ rest.early;
        last = rest.last;
        whole = ap (λ (xs : List WatchedRound). r ∷ xs) rest.whole;
        told = (of.0, rest.told);
        told_last = rest.told_last;
        moments_are =
            ap (λ (xs : List Moment). moments_of fs ++ (eras_in r.ends ++ xs)) rest.moments_are
            ∙ (ap (λ (xs : List Moment). moments_of fs ++ xs) (sym (append_assoc (eras_in r.ends) a b))
            ∙ sym (append_assoc (moments_of fs) (eras_in r.ends ++ a) b));
      }

  -- how many moments the rounds have
  pub as_many : (p round era : ℕ) (rs : List WatchedRound) (ess : List (List Entry)) → AreRoundsOf file harts g round era rs ess →
      position_after p rs ≡ p + length (rounds_moments rs ess)
  as_many p round era [] [] of = omega arith
  as_many p round era [] (es ∷ ess) of = absurd of
  as_many p round era (r ∷ rs) [] of = absurd of
  as_many p round era (r ∷ rs) (es ∷ ess) of =
      let rest = as_many (round_end p r) (round + 1) (cond r.ends (era + 1) era) rs ess of.1 in
      let told = AllZip-long IsTold (moments_of es) (round_told r) (all_told file harts g r.listed es of.0.entries) in
      omega (
        arith,
        rest,
        told,
        era_length file harts g r.ends,
        length-append (moments_of es) (eras_in r.ends ++ rounds_moments rs ess),
        length-append (eras_in r.ends) (rounds_moments rs ess),
      )

pub last_tells : (early : List WatchedRound) (last : WatchedRound) (wss : List (List Awaited)) (ws : List Awaited) →
    AllZip TellsAs (early ++ last ∷ []) (wss ++ ws ∷ []) → TellsAs last ws
last_tells [] last [] ws z = z.0
last_tells [] last (v ∷ []) ws z = absurd z.1
last_tells [] last (v ∷ (u ∷ wss)) ws z = absurd z.1
last_tells (x ∷ []) last [] ws z = absurd z.1
last_tells (x ∷ (y ∷ early)) last [] ws z = absurd z.1
last_tells (x ∷ early) last (v ∷ wss) ws z = last_tells early last wss ws z.1

-- ---- the era of the last round

-- the era after all of these but the last
abbrev eras : ℕ → List Bool → ℕ
eras era [] = era
eras era (b ∷ []) = era
eras era (b ∷ (c ∷ bs)) = eras (cond b (era + 1) era) (c ∷ bs)

watched_eras : (era : ℕ) (early : List WatchedRound) (last : WatchedRound) →
    eras era (map (λ (r : WatchedRound). r.ends) (early ++ last ∷ [])) ≡ final_era era early
watched_eras era [] last = refl
watched_eras era (x ∷ []) last = refl
watched_eras era (x ∷ (y ∷ early)) last = watched_eras (cond x.ends (era + 1) era) (y ∷ early) last

part_eras : (era : ℕ) (before : List PartRound) (r : PartRound) →
    eras era (map (λ (p : PartRound). p.ends) (before ++ r ∷ [])) ≡ era_after era before
part_eras era [] r = refl
part_eras era (x ∷ []) r = refl
part_eras era (x ∷ (y ∷ before)) r = part_eras (cond x.ends (era + 1) era) (y ∷ before) r

pub same_era : (era : ℕ) (early : List WatchedRound) (last : WatchedRound) (before : List PartRound) (r : PartRound) →
    map (λ (r : WatchedRound). r.ends) (early ++ last ∷ []) ≡ map (λ (p : PartRound). p.ends) (before ++ r ∷ []) →
    final_era era early ≡ era_after era before
same_era era early last before r e = sym (watched_eras era early last) ∙ (ap (eras era) e ∙ part_eras era before r)

-- ---- moments

pub alike_then : (h k l : List Moment) → AreAlike h k → AreAlike k l → AreAlike h l
alike_then [] [] [] a b = tt
alike_then [] [] (z ∷ l) a b = absurd b
alike_then [] (y ∷ k) l a b = absurd a
alike_then (x ∷ h) [] l a b = absurd a
alike_then (x ∷ h) (y ∷ k) [] a b = absurd b
alike_then (x ∷ h) (y ∷ k) (z ∷ l) a b = ((a.0.0 ∙ b.0.0, a.0.1 ∙ b.0.1), alike_then h k l a.1 b.1)

-- the moments of a round's entries behind those before it
pub round_alike : (file : List ℕ) (harts g round era other : ℕ) (done : List Entry) (pre : List Moment) (r : WatchedRound) (es : List Entry) →
    IsRoundOf file harts g round era r es → last_era done ≤ era → AreAlike pre (moments_in round era done) →
    AreAlike (pre ++ moments_of es) (moments_in other era (done ++ es))
round_alike file harts g round era other done pre r es of l a =
    let still : WatchedRound = record { made = r.made; listed = r.listed; base = r.base; ends = false } in
    let same : IsRoundOf file harts g round era still es = record { entries = of.entries; inside = of.inside; parts = of.parts } in
    let both = rounds_alike file harts g round era done pre (still ∷ []) (es ∷ []) (same, tt) l a in
    alike_then (pre ++ moments_of es) (moments_in (round + 1) era (done ++ es)) (moments_in other era (done ++ es))
    (subst (λ (xs : List Entry). AreAlike (pre ++ moments_of es) (moments_in (round + 1) era (done ++ xs))) (append-nil es)
    (subst (λ (xs : List Moment). AreAlike (pre ++ xs) (moments_in (round + 1) era (done ++ (es ++ [])))) (append-nil (moments_of es)) both))
    (alike-rounds (round + 1) other era (done ++ es))

-- no entry is of a later era than that of its round
entries_below : (round era n : ℕ) (es : List Entry) → Each (IsIn round era) es → n ≤ era → fold (λ (k : ℕ) (d : Entry). d.era) n es ≤ era
entries_below round era n [] inside l = l
entries_below round era n (e ∷ es) inside l =
    let q = inside.0.era in
    entries_below round era e.era es inside.1 (omega (arith, q))

era_grows : (ends : Bool) (era : ℕ) → era ≤ cond ends (era + 1) era
era_grows true era = omega arith
era_grows false era = omega arith

pub eras_below : (file : List ℕ) (harts g round era : ℕ) (done : List Entry) (rs : List WatchedRound) (ess : List (List Entry)) →
    AreRoundsOf file harts g round era rs ess → last_era done ≤ era → last_era (done ++ all_entries ess) ≤ final_era era rs
eras_below file harts g round era done [] [] of l = let q = ap last_era (append-nil done) in omega (arith, q, l)
eras_below file harts g round era done [] (es ∷ ess) of l = absurd of
eras_below file harts g round era done (r ∷ rs) [] of l = absurd of
eras_below file harts g round era done (r ∷ rs) (es ∷ ess) of l =
    let same : last_era (done ++ es) ≡ fold (λ (k : ℕ) (d : Entry). d.era) (last_era done) es =
    fold-append (λ (k : ℕ) (d : Entry). d.era) 0 done es in
    let here = entries_below round era (last_era done) es of.0.inside l in
    let grows = era_grows r.ends era in
    subst (λ (xs : List Entry). last_era xs ≤ final_era (cond r.ends (era + 1) era) rs) (append_assoc done es (all_entries ess))
    (eras_below file harts g (round + 1) (cond r.ends (era + 1) era) (done ++ es) rs ess of.1 (omega (arith, same, here, grows)))

-- the beginnings of eras have no checks
eras_quiet : (n : ℕ) (m : Moment) → m.checks ≡ [] → (i : ℕ) → (moment_at (replicate n m) i).checks ≡ []
eras_quiet zero m q i = refl
eras_quiet (suc n) m q zero = q
eras_quiet (suc n) m q (suc i) = eras_quiet n m q i

pub no_checks : (round era : ℕ) (entries : List Entry) (i : ℕ) → length (moments entries) ≤ i → (moment_at (moments_in round era entries) i).checks ≡ []
no_checks round era entries i l =
    ap (λ (m : Moment). m.checks) (get_or-append_right (moments entries) (era_moments (last_era entries) (length entries) round era) i
    (record { entry = 0; round = 0; item = Past; checks = [] }) l)
    ∙ eras_quiet (era - last_era entries) (record { entry = length entries; round = round; item = NewEra; checks = [] }) refl
    (i - length (moments entries))

-- where a round has entries, no era begins behind them
last_of : (round era : ℕ) (es : List Entry) → Each (IsIn round era) es → fold (λ (n : ℕ) (e : Entry). e.era) era es ≡ era
last_of round era [] inside = refl
last_of round era (e ∷ es) inside =
    ap (λ (n : ℕ). fold (λ (k : ℕ) (d : Entry). d.era) n es) inside.0.era ∙ last_of round era es inside.1

pub no_era : (round era other : ℕ) (done es : List Entry) → Each (IsIn round era) es → (es ≡ [] → ⊥) → moments_in other era (done ++ es) ≡ moments (done ++ es)
no_era round era other done [] inside some = absurd (some refl)
no_era round era other done (e ∷ es) inside some =
    let last : last_era (done ++ e ∷ es) ≡ era = fold-append (λ (n : ℕ) (d : Entry). d.era) 0 done (e ∷ es)
    ∙ (ap (λ (n : ℕ). fold (λ (k : ℕ) (d : Entry). d.era) n es) inside.0.era ∙ last_of round era es inside.1) in
    let none : era - last_era (done ++ e ∷ es) ≡ 0 = omega (arith, last) in
    ap (λ (n : ℕ). moments (done ++ e ∷ es) ++ replicate n (record { entry = length (done ++ e ∷ es); round = other; item = NewEra; checks = [] })) none
    ∙ append-nil (moments (done ++ e ∷ es))
