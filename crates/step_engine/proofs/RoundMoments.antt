-- The moments of the entries of one round.
use Rattle.std.proofs.Common.{◌≡◌, ℕ, ◌+◌, ◌-◌, List, [], ◌∷◌, ◌++◌, append_assoc, length, refl, sym, ap, subst, ◌∙◌, arith, zero-add, map}
use Rattle.std.specs.Prelude.{All, replicate}
use Rattle.std.specs.List.{enumerate_from}
use Rattle.std.proofs.lemmas.List.{append-nil}
use Rattle.std.proofs.lemmas.List.Elements.{All-nil, All-cons, All-head, All-tail, All-append}
use Rattle.std.proofs.lemmas.List.Sums.{fold-append}
use Rattle.run_record.specs.declared.event.Event.{Event}
use Rattle.run_record.specs.declared.entry.Entry.{Entry}
use Rattle.run_laws.specs.Moments.{Notes, NewEra, Moment, moments, moments_from, moments_in, last_era, era_moments, entry_moments, event_moment}
use Rattle.run_laws.proofs.MomentsLaw.{era_after, moments_from-append}
use Rattle.race_core.specs.History.{era_now}
use Rattle.thread_events.proofs.Longer.{era_stays}

-- the moment begins no era
abbrev pub IsInEra : Moment → Type 0
IsInEra m = m.item ≡ NewEra → ⊥

events_in_era : (i : ℕ) (e : Entry) (n : ℕ) (es : List Event) → All IsInEra (map (event_moment i e) (enumerate_from n es))
events_in_era i e n [] = All-nil IsInEra
events_in_era i e n (x ∷ es) = All-cons IsInEra (event_moment i e (n, x)) (map (event_moment i e) (enumerate_from (n + 1) es)) (λ q. cc) (events_in_era i e (n + 1) es)

pub entry_in_era : (i : ℕ) (e : Entry) → All IsInEra (entry_moments i e)
entry_in_era i e = All-cons IsInEra (record { entry = i; round = e.round; item = Notes e.tid e.note; checks = [] }) (map (event_moment i e) (enumerate_from 0 e.events)) (λ q. cc) (events_in_era i e 0 e.events)

-- entries of one era begin none
pub part_in_era : (era i : ℕ) (es : List Entry) → All (λ (e : Entry). e.era ≡ era) es → All IsInEra (moments_from era i es)
part_in_era era i [] a = All-nil IsInEra
part_in_era era i (e ∷ es) a =
    let q = All-head (λ (e : Entry). e.era ≡ era) e es a in
    let z : 0 ≡ e.era - era = omega arith in
    let rest = subst (λ (r : ℕ). All IsInEra (moments_from r (i + 1) es)) (sym q) (part_in_era era (i + 1) es (All-tail (λ (e : Entry). e.era ≡ era) e es a)) in
    All-append IsInEra (era_moments era i e.round e.era) (entry_moments i e ++ moments_from e.era (i + 1) es)
    (subst (λ (n : ℕ). All IsInEra (replicate n (record { entry = i; round = e.round; item = NewEra; checks = [] }))) z (All-nil IsInEra))
    (All-append IsInEra (entry_moments i e) (moments_from e.era (i + 1) es) (entry_in_era i e) rest)

-- so the era stays
pub era_kept : (g : ℕ) (xs ys : List Moment) → All IsInEra ys → era_now g (xs ++ ys) ≡ era_now g xs
era_kept g xs [] a = ap (era_now g) (append-nil xs)
era_kept g xs (y ∷ ys) a =
    ap (era_now g) (sym (append_assoc xs (y ∷ []) ys)) ∙ (era_kept g (xs ++ y ∷ []) ys (All-tail IsInEra y ys a) ∙ era_stays g xs y (All-head IsInEra y ys a))

last_after : (era : ℕ) (es : List Entry) → All (λ (e : Entry). e.era ≡ era) es → era_after era es ≡ era
last_after era [] a = refl
last_after era (e ∷ es) a = ap (λ (r : ℕ). era_after r es) (All-head (λ (e : Entry). e.era ≡ era) e es a) ∙ last_after era es (All-tail (λ (e : Entry). e.era ≡ era) e es a)

module _ (round era : ℕ) (entries : List Entry) (e : Entry) (es : List Entry) (now : All (λ (e : Entry). (e.round ≡ round) × (e.era ≡ era)) (e ∷ es)) where
  first : (e.round ≡ round) × (e.era ≡ era)
  first = All-head (λ (e : Entry). (e.round ≡ round) × (e.era ≡ era)) e es now

  of_era : All (λ (e : Entry). e.era ≡ era) (e ∷ es)
  of_era = λ i d l. (now i d l).1

  -- the moments of the round, but for the eras that begin before
  abbrev pub rest : List Moment
  rest = entry_moments (length entries) e ++ moments_from era (length entries + 1) es

  pub cut : moments (entries ++ e ∷ es) ≡ moments_in round era entries ++ rest
  cut =
      moments_from-append 0 0 entries (e ∷ es)
      ∙ (ap (λ (i : ℕ). moments entries ++ moments_from (last_era entries) i (e ∷ es)) (zero-add (length entries))
      ∙ (ap (λ (r : ℕ). moments entries ++ (era_moments (last_era entries) (length entries) r e.era ++ (entry_moments (length entries) e ++ moments_from e.era (length entries + 1) es))) first.0
      ∙ (ap (λ (x : ℕ). moments entries ++ (era_moments (last_era entries) (length entries) round x ++ (entry_moments (length entries) e ++ moments_from x (length entries + 1) es))) first.1
      ∙ sym (append_assoc (moments entries) (era_moments (last_era entries) (length entries) round era) rest))))

  pub rest_in_era : All IsInEra rest
  rest_in_era = All-append IsInEra (entry_moments (length entries) e) (moments_from era (length entries + 1) es) (entry_in_era (length entries) e) (part_in_era era (length entries + 1) es (All-tail (λ (e : Entry). e.era ≡ era) e es of_era))

  pub last_is : last_era (entries ++ e ∷ es) ≡ era
  last_is =
      fold-append (λ (r : ℕ) (e : Entry). e.era) 0 entries (e ∷ es)
      ∙ (ap (λ (r : ℕ). era_after r es) first.1 ∙ last_after era es (All-tail (λ (e : Entry). e.era ≡ era) e es of_era))

  -- before the round's next entry no era begins
  pub no_era_since : (other : ℕ) → moments_in other era (entries ++ e ∷ es) ≡ moments (entries ++ e ∷ es)
  no_era_since other =
      let xs = entries ++ e ∷ es in
      let z : era - last_era xs ≡ 0 = (let q = last_is in omega arith) in
      ap (λ (n : ℕ). moments xs ++ replicate n (record { entry = length xs; round = other; item = NewEra; checks = [] })) z ∙ append-nil (moments xs)
