-- The accesses that await a round's end have owners, and can be sought in their traces.
use Rattle.std.proofs.Common.{◌≡◌, ℕ, suc, ◌+◌, ◌-◌, ◌<◌, ◌≤◌, inl, inr, Bool, Option, Some, None, List, [], ◌∷◌, ◌++◌, append_assoc, length, length-append, zero-add, refl, sym, ap, subst, ◌∙◌, arith}
use Rattle.std.specs.Prelude.{All, map, replicate}
use Rattle.std.specs.List.{enumerate_from}
use Rattle.std.proofs.lemmas.Bool.{cases_lt}
use Rattle.std.proofs.lemmas.List.{append-nil}
use Rattle.std.proofs.Math.ListN.{get_or-append}
use Rattle.std.proofs.Math.Seq.{get_or-append_right}
use Rattle.std.proofs.lemmas.List.Elements.{All-nil, All-cons, All-head, All-tail, All-append, All-replicate}
use Rattle.run_record.specs.declared.event.Event.{Event}
use Rattle.run_record.specs.declared.entry.Entry.{Entry}
use Rattle.run_record.specs.declared.entry.Check.{Check}
use Rattle.run_record.specs.declared.limits.Limits.{Limits}
use Rattle.elf_image.specs.File.{granule_of, granule_address}
use Rattle.run_laws.specs.Moments.{Notes, NewEra, Past as NoItem, Moment, moment_at, moments, moments_from, moments_in, last_era, era_moments, entry_moments, event_moment}
use Rattle.run_laws.specs.Faithful.{needs_slot}
use Rattle.run_laws.specs.Present.{labels_now}
use Rattle.run_laws.specs.Reports.{told_side}
use Rattle.run_laws.proofs.MomentsLaw.{moments_from-append}
use Rattle.machine_laws.specs.Machine.{bare_of}
use Rattle.race_core.specs.History.{era_now}
use Rattle.thread_events.proofs.Longer.{era_stays}
use Rattle.report_laws.specs.Sound.{IsSound, first_race}
use Rattle.report_laws.specs.Awaited.{Awaited, Collects, Begin, Unchecked, Ordered, Unordered, HasOwner, IsRestorable}
use Rattle.report_laws.proofs.NextRound.{round_owners, round_restorable}
use Rattle.turn_orders.specs.Machine.{State}
use Rattle.turn_orders.specs.LineUp.{Stamped}
use Rattle.shared_table.specs.declared.object.Object.{Object}
use Rattle.shared_table.specs.declared.view.Layout.{Layout}
use Rattle.shared_table.specs.Past.{Past}
use Rattle.placed_detector.specs.Standing.{Hand}
use Rattle.hart_parts.specs.Rounds.{PartRound}
use Rattle.part_runs.specs.Runs.{entries_of_rounds, AreRounds}
use Rattle.part_runs.specs.Told.{AwaitRoundEnd}
use Rattle.part_runs.proofs.Sound.{addresses}
use Rattle.part_runs.proofs.Firsts.{inside_last, sound_so_far}
use Rattle.part_runs.proofs.Found.{same_era, later_moments, cut_same}

-- ---- the moments of a round

-- the moment begins no era
abbrev IsInEra : Moment → Type 0
IsInEra m = m.item ≡ NewEra → ⊥

events_in_era : (i : ℕ) (e : Entry) (n : ℕ) (es : List Event) → All IsInEra (map (event_moment i e) (enumerate_from n es))
events_in_era i e n [] = All-nil IsInEra
events_in_era i e n (x ∷ es) =
    All-cons IsInEra (event_moment i e (n, x)) (map (event_moment i e) (enumerate_from (n + 1) es)) (λ q. cc) (events_in_era i e (n + 1) es)

entry_in_era : (i : ℕ) (e : Entry) → All IsInEra (entry_moments i e)
entry_in_era i e =
    All-cons IsInEra (record { entry = i; round = e.round; item = Notes e.tid e.note; checks = [] }) (map (event_moment i e) (enumerate_from 0 e.events))
    (λ q. cc) (events_in_era i e 0 e.events)

-- entries of one era begin none
part_in_era : (era i : ℕ) (es : List Entry) → All (λ (e : Entry). e.era ≡ era) es → All IsInEra (moments_from era i es)
part_in_era era i [] a = All-nil IsInEra
part_in_era era i (e ∷ es) a =
    let q = All-head (λ (e : Entry). e.era ≡ era) e es a in
    let z : 0 ≡ e.era - era = omega arith in
    let rest = subst (λ (r : ℕ). All IsInEra (moments_from r (i + 1) es)) (sym q) (part_in_era era (i + 1) es (All-tail (λ (e : Entry). e.era ≡ era) e es a)) in
    All-append IsInEra (era_moments era i e.round e.era) (entry_moments i e ++ moments_from e.era (i + 1) es)
    (subst (λ (n : ℕ). All IsInEra (replicate n (record { entry = i; round = e.round; item = NewEra; checks = [] }))) z (All-nil IsInEra))
    (All-append IsInEra (entry_moments i e) (moments_from e.era (i + 1) es) (entry_in_era i e) rest)

-- so the era stays
era_kept : (g : ℕ) (xs ys : List Moment) → All IsInEra ys → era_now g (xs ++ ys) ≡ era_now g xs
era_kept g xs [] a = ap (era_now g) (append-nil xs)
era_kept g xs (y ∷ ys) a =
    ap (era_now g) (sym (append_assoc xs (y ∷ []) ys)) ∙ (era_kept g (xs ++ y ∷ []) ys (All-tail IsInEra y ys a) ∙ era_stays g xs y (All-head IsInEra y ys a))

module _ (round era : ℕ) (entries : List Entry) (e : Entry) (es : List Entry) (now : All (λ (e : Entry). (e.round ≡ round) × (e.era ≡ era)) (e ∷ es)) where
  first : (e.round ≡ round) × (e.era ≡ era)
  first = All-head (λ (e : Entry). (e.round ≡ round) × (e.era ≡ era)) e es now

  of_era : All (λ (e : Entry). e.era ≡ era) (e ∷ es)
  of_era = λ i d l. (now i d l).1

  -- the moments of the round, but for the eras that begin before
  abbrev pub in_round : List Moment
  in_round = entry_moments (length entries) e ++ moments_from era (length entries + 1) es

  pub cut : moments (entries ++ e ∷ es) ≡ moments_in round era entries ++ in_round
  cut =
      moments_from-append 0 0 entries (e ∷ es)
      ∙ (ap (λ (i : ℕ). moments entries ++ moments_from (last_era entries) i (e ∷ es)) (zero-add (length entries))
      ∙ (ap (λ (r : ℕ). moments entries ++ (era_moments (last_era entries) (length entries) r e.era
      ++ (entry_moments (length entries) e ++ moments_from e.era (length entries + 1) es))) first.0
      ∙ (ap (λ (x : ℕ). moments entries ++ (era_moments (last_era entries) (length entries) round x
      ++ (entry_moments (length entries) e ++ moments_from x (length entries + 1) es))) first.1
      ∙ sym (append_assoc (moments entries) (era_moments (last_era entries) (length entries) round era) in_round))))

  in_one_era : All IsInEra in_round
  in_one_era = All-append IsInEra (entry_moments (length entries) e) (moments_from era (length entries + 1) es) (entry_in_era (length entries) e)
      (part_in_era era (length entries + 1) es (All-tail (λ (e : Entry). e.era ≡ era) e es of_era))

  era_same : (g : ℕ) → (labels_now g (moments_in round era entries)).era ≡ (labels_now g (moments (entries ++ e ∷ es))).era
  era_same g = sym (ap (era_now g) cut ∙ era_kept g (moments_in round era entries) in_round in_one_era)

-- ---- where nothing is checked

-- the beginnings of eras have no checks
pub eras_unchecked : (round era : ℕ) (entries : List Entry) (rest : List Moment) (k : ℕ) → length (moments entries) ≤ k →
    k < length (moments_in round era entries) → (moment_at (moments_in round era entries ++ rest) k).checks ≡ []
eras_unchecked round era entries rest k l m =
    let none : Moment = record { entry = 0; round = 0; item = NoItem; checks = [] } in
    let eras = era_moments (last_era entries) (length entries) round era in
    let long = length-append (moments entries) eras in
    ap (λ (x : Moment). x.checks) (get_or-append (moments_in round era entries) rest none k m ∙ get_or-append_right (moments entries) eras k none l)
    ∙ All-replicate (λ (x : Moment). x.checks ≡ []) (era - last_era entries)
    (record { entry = length entries; round = round; item = NewEra; checks = [] }) refl (k - length (moments entries)) none (omega arith)

-- no race is found where there is no check
none_found : (g : ℕ) (h : List Moment) (n t : ℕ) (l : Check × ℕ) → (moment_at h n).checks ≡ [] → first_race g h n t ≡ Some l → ⊥
none_found g h n t l none some = let z : first_race g h n t ≡ None = rw none refl in cc

-- nothing is collected there
pub none_collected : (g : ℕ) (h : List Moment) (from n : ℕ) (ws : List Awaited) → Collects g h from n ws →
    ((k : ℕ) → from ≤ k → k < n → (moment_at h k).checks ≡ []) → (ws ≡ []) × (from ≤ n)
none_collected g h from _ _ Begin quiet = (refl, omega arith)
none_collected g h from _ _ (Unchecked {n = n} {waiting = ws} c none) quiet =
    let b = none_collected g h from n ws c (λ k l m. quiet k l (omega (arith, l, m))) in
    (b.0, let q = b.1 in omega (arith, q))
none_collected g h from _ _ (Ordered {n = n} {waiting = ws} t a c made none) quiet =
    let b = none_collected g h from n ws c (λ k l m. quiet k l (omega (arith, l, m))) in
    (b.0, let q = b.1 in omega (arith, q))
none_collected g h from _ _ (Unordered {n = n} {waiting = ws} check word t a c made some) quiet =
    let b = none_collected g h from n ws c (λ k l m. quiet k l (omega (arith, l, m))) in
    absurd (none_found g h n t (check, word) (quiet n b.1 (omega arith)) some)

module _ (g : ℕ) (h : List Moment) (from start : ℕ) (quiet : (k : ℕ) → from ≤ k → k < start → (moment_at h k).checks ≡ []) where
  -- up to where checks begin nothing is collected
  at_start : (n : ℕ) (ws : List Awaited) → n ≡ start → Collects g h from n ws → Collects g h start n ws
  at_start n ws same c =
      let none = (none_collected g h from n ws c (λ k l m. quiet k l (omega (arith, m, same)))).0 in
      subst (Collects g h start n) (sym none) (subst (λ (k : ℕ). Collects g h start k []) (sym same) Begin)

  -- so what is collected is so from there on
  collected_later : (n : ℕ) (ws : List Awaited) → Collects g h from n ws → from ≤ start → start ≤ n → Collects g h start n ws
  collected_later _ _ Begin l m = at_start from [] (omega (arith, l, m)) Begin
  collected_later _ _ (Unchecked {n = n} {waiting = ws} c none) l m = elim (cases_lt n start) [
    | inl less ↦ (at_start (suc n) ws (omega (arith, less, m)) (Unchecked c none))
    | inr more ↦ (Unchecked (collected_later n ws c l more) none)
  ]
  collected_later _ _ (Ordered {n = n} {waiting = ws} t a c made none) l m = elim (cases_lt n start) [
    | inl less ↦ (at_start (suc n) ws (omega (arith, less, m)) (Ordered t a c made none))
    | inr more ↦ (Ordered t a (collected_later n ws c l more) made none)
  ]
  collected_later _ _ (Unordered {n = n} {waiting = ws} check word t a c made some) l m = elim (cases_lt n start) [
    | inl less ↦ (at_start (suc n) (ws ++ record { mine = told_side h n t a; granule = check.granule; word = word } ∷ []) (omega (arith, less, m))
        (Unordered check word t a c made some))
    | inr more ↦ (Unordered check word t a (collected_later n ws c l more) made some)
  ]

-- ---- owners

owners_of : (limits : Limits) (granule_of : ℕ → Option ℕ) (needs : ℕ → Bool) (before part : List Entry) (round era : ℕ) →
    IsSound limits granule_of needs (before ++ part) → All (λ (e : Entry). (e.round ≡ round) × (e.era ≡ era)) part →
    (awaited : List Awaited) → AwaitRoundEnd limits before part awaited → All (HasOwner limits.epochs (moments (before ++ part))) awaited
owners_of limits granule_of needs before [] round era sound now awaited c =
    let g = limits.epochs in
    let h = moments (before ++ []) in
    let long : length h ≡ length (moments before) = ap (λ (es : List Entry). length (moments es)) (append-nil before) in
    let none = (none_collected g h (length (moments before)) (length h) awaited c (λ k l m. absurd (omega (arith, l, m, long)))).0 in
    subst (All (HasOwner g h)) (sym none) (All-nil (HasOwner g h))
owners_of limits granule_of needs before (e ∷ es) round era sound now awaited c =
    let g = limits.epochs in
    let h = moments (before ++ e ∷ es) in
    let rest = in_round round era before e es now in
    let there = cut round era before e es now in
    let first = moments_in round era before in
    let eras = length-append (moments before) (era_moments (last_era before) (length before) round era) in
    let long = ap length there in
    let more = length-append first rest in
    let quiet : (k : ℕ) → length (moments before) ≤ k → k < length first → (moment_at h k).checks ≡ [] =
    λ k l m. ap (λ (x : List Moment). (moment_at x k).checks) there ∙ eras_unchecked round era before rest k l m in
    round_owners limits granule_of needs before (e ∷ es) round era rest sound there (era_same round era before e es now g) awaited
    (collected_later g h (length (moments before)) (length first) quiet (length h) awaited c (omega (arith, eras)) (omega (arith, long, more)))

module _ (file : List ℕ) (limits : Limits) (lay : Layout) (past : Past) (m : State (Stamped Hand) Object) (rs : List PartRound) (r : PartRound)
    (all : AreRounds file limits lay past m (rs ++ r ∷ [])) (awaited : List Awaited)
    (awaits : AwaitRoundEnd limits (entries_of_rounds rs) r.entries awaited) where
  abbrev before : List Entry
  before = entries_of_rounds rs

  -- each access that awaits the round's end has an owner
  pub owned : All (HasOwner limits.epochs (moments (before ++ r.entries))) awaited
  owned =
      let inside = inside_last file limits lay rs r [] 0 0 0 m all.parts in
      owners_of limits (granule_of file) (needs_slot (bare_of file limits.harts) (before ++ r.entries)) before r.entries (0 + length rs) inside.0
      (sound_so_far file limits lay past m rs r [] all) inside.1 awaited awaits

  -- and can be sought
  pub sought : All (IsRestorable limits (granule_of file) (granule_address file) (moments (before ++ r.entries))) awaited
  sought =
      round_restorable limits (granule_of file) (needs_slot (bare_of file limits.harts) (before ++ r.entries)) before r.entries 0 (last_era before)
      (later_moments before r.entries) (sound_so_far file limits lay past m rs r [] all) (cut_same 0 before r.entries) (granule_address file)
      (addresses file all.accepted) awaited (rw (same_era 0 before) awaits)
