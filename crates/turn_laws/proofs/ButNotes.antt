-- A history grows by one entry and stays lawful, but for its notes.
use Rattle.std.proofs.Common.{◌≡◌, ◌≢◌, ℕ, ◌-◌, ◌<◌, ◌≤◌, true, Option, None, List, [], ◌∷◌, ◌++◌, length, length-append, refl, sym, ap, subst, ◌∙◌, arith, ◌⊎◌, inl, inr}
use Rattle.std.specs.Prelude.{All, AllPairs, Contains}
use Rattle.std.proofs.Math.ListN.{get_or-append}
use Rattle.std.proofs.lemmas.Bool.{cases_lt, cases_eq}
use Rattle.std.proofs.lemmas.List.{get_or_push}
use Rattle.std.proofs.lemmas.List.Elements.{All-nil, All-cons, All-append}
use Rattle.std.proofs.lemmas.Option.{slice_get_within}
use Rattle.run_record.specs.declared.event.Event.{Event}
use Rattle.run_record.specs.declared.entry.Check.{Check}
use Rattle.run_record.specs.declared.entry.Entry.{Entry}
use Rattle.run_record.specs.declared.limits.Limits.{Limits}
use Rattle.run_laws.specs.Moments.{Does, Notes, IsBy, Moment, moment_at, items, moments, moments_in, last_era, era_moments, entry_moments, RoundsNeverFall, ErasNeverFall}
use Rattle.run_laws.specs.Labels.{label_of}
use Rattle.run_laws.specs.Accesses.{access_of}
use Rattle.run_laws.specs.Checks.{AreChecks, AreAllChecks, AllStoreRightly, IsGrouped}
use Rattle.run_laws.specs.Loads.{AllLoadLast}
use Rattle.run_laws.specs.Faithful.{Bare, state_after, has_needy, needs_slot, OneByOne, IsFaithful}
use Rattle.run_laws.specs.Rounds.{NeedsLabel}
use Rattle.run_laws.specs.Present.{label_now}
use Rattle.run_laws.proofs.EraLaw.{era_of_entry}
use Rattle.run_laws.proofs.MomentsLaw.{moments-push}
use Rattle.run_laws.proofs.PresentLaw.{cell_stay}
use Rattle.turn_laws.specs.Going.{AreRightFrom}
use Rattle.turn_laws.proofs.Carry.{at_stay, label_stay, checks_stay}
use Rattle.turn_laws.proofs.Shape.{IsQuiet, quiet_news, entry_or_past, at_right}
use Rattle.turn_laws.proofs.Growth.{MayFollow, faithful-push, needs_stay, needs_last}

-- pairs of a list that one more element follows
pairs-push : (R : Entry → Entry → Type 0) (xs : List Entry) (x : Entry) → AllPairs R xs → All (λ (e : Entry). R e x) xs → AllPairs R (xs ++ x ∷ [])
pairs-push R xs x p a i j d l m = elim (cases_lt j (length xs)) [
  | inl k ↦
      let y = get_or-append xs (x ∷ []) d i (omega arith) in
      let z = get_or-append xs (x ∷ []) d j k in
      rw (y, z) (p i j d l k)
  | inr k ↦
      let e : j ≡ length xs = omega (arith, length-append xs (x ∷ [])) in
      let y = get_or-append xs (x ∷ []) d i (omega arith) in
      let z = get_or_push xs x d j (sym e) in
      rw (y, z) (a i d (omega arith))
]

-- lawful so far, but for the notes
pub record IsLawfulButNotes {S : Type 0} (limits : Limits) (bare : Bare S) (granule_of : ℕ → Option ℕ) (entries : List Entry) : Type 0 where
  pub faithful : IsFaithful OneByOne bare entries
  pub labelled : NeedsLabel limits (needs_slot bare entries) (moments entries)
  pub checks : AreAllChecks limits.epochs granule_of entries (moments entries)
  pub stores : AllStoreRightly (moments entries)
  pub loads : AllLoadLast (moments entries)
  pub rounds : RoundsNeverFall entries
  pub eras : ErasNeverFall entries

-- no moment has the number of an entry to come
pub old_entry : (entries : List Entry) → ErasNeverFall entries → (n t : ℕ) → IsBy t (items (moments entries) n) → (moment_at (moments entries) n).entry < length entries
old_entry entries p n t b =
    let o = era_of_entry 0 entries p n t b in
    let l = slice_get_within entries o.index o.entry o.stands in
    let z = o.number in
    omega arith

module _ {S : Type 0} (limits : Limits) (bare : Bare S) (granule_of : ℕ → Option ℕ) (xs : List Entry) (x : Entry) (old : IsLawfulButNotes limits bare granule_of xs) (follows : MayFollow bare xs x)
    (needs : has_needy bare (state_after bare xs) x ≡ true → label_now limits.epochs (moments_in x.round x.era xs) x.tid ≢ None) (grouped : IsGrouped x)
    (right : AreRightFrom limits.epochs granule_of (moments_in x.round x.era xs ++ entry_moments (length xs) x) (length (moments_in x.round x.era xs)))
    (rounds : All (λ (e : Entry). e.round ≤ x.round) xs) (eras : All (λ (e : Entry). e.era ≤ x.era) xs) where
  abbrev h : List Moment
  h = moments_in x.round x.era xs

  abbrev main : List Moment
  main = entry_moments (length xs) x

  -- a position of the moments that go on: an old one, or quiet, or one of the entry
  place : (n : ℕ) → ((n < length (moments xs)) × (moment_at (h ++ main) n ≡ moment_at (moments xs) n)) ⊎ (IsQuiet (moment_at (h ++ main) n) ⊎ (length h ≤ n))
  place n = elim (cases_lt n (length (moments xs))) [
    | inl l ↦
        let m : n < length h = omega (arith, length-append (moments xs) (era_moments (last_era xs) (length xs) x.round x.era)) in
        inl (l, at_stay h main n m ∙ at_stay (moments xs) (era_moments (last_era xs) (length xs) x.round x.era) n l)
    | inr l ↦ elim (cases_lt n (length h)) [
      | inl m ↦ inr (inl (subst IsQuiet (sym (at_stay h main n m)) (quiet_news (moments xs) (last_era xs) (length xs) x.round x.era n l)))
      | inr m ↦ inr (inr m)
    ]
  ]

  labelled : NeedsLabel limits (needs_slot bare (xs ++ x ∷ [])) (h ++ main)
  labelled n t note q s = elim (place n) [
    | inl o ↦
        let i : items (moments xs) n ≡ Notes t note = sym (ap (λ (m : Moment). m.item) o.1) ∙ q in
        let e = old_entry xs old.eras n t (subst (IsBy t) (sym i) refl) in
        let a : needs_slot bare xs (moment_at (moments xs) n).entry ≡ true = sym (needs_stay bare xs (x ∷ []) (moment_at (moments xs) n).entry e) ∙ (ap (λ (m : Moment). needs_slot bare (xs ++ x ∷ []) m.entry) (sym o.1) ∙ s) in
        let k : n < length (moments xs) = o.0 in
        λ z. old.labelled n t note i a (sym (label_old n t (omega arith)) ∙ z)
    | inr (inl quiet) ↦ absurd (quiet.no_note t note q)
    | inr (inr l) ↦ elim (cases_eq n (length h)) [
      | inl z ↦ at_start z
      | inr d ↦ elim (entry_or_past (length xs) x (n - length h) (omega arith)) [
        | inl e ↦ absurd (let y = sym (ap (λ (m : Moment). m.item) (at_right h main n l ∙ e)) ∙ q in cc)
        | inr e ↦ absurd (let y = sym (ap (λ (m : Moment). m.item) (at_right h main n l) ∙ e.made) ∙ q in cc)
      ]
    ]
  ]
    where
      label_old : (n t : ℕ) → n ≤ length (moments xs) → label_of limits.epochs (items (h ++ main)) n t ≡ label_of limits.epochs (items (moments xs)) n t
      label_old n t l =
          label_stay limits.epochs h main n t (omega (arith, length-append (moments xs) (era_moments (last_era xs) (length xs) x.round x.era)))
          ∙ label_stay limits.epochs (moments xs) (era_moments (last_era xs) (length xs) x.round x.era) n t l

      at_start : n ≡ length h → label_of limits.epochs (items (h ++ main)) n t ≢ None
      at_start z =
          let l : length h ≤ n = omega arith in
          let here : n - length h ≡ 0 = omega arith in
          let first : moment_at (h ++ main) n ≡ record { entry = length xs; round = x.round; item = Notes x.tid x.note; checks = [] } = at_right h main n l ∙ ap (moment_at main) here in
          let thread : x.tid ≡ t = (let y = sym (ap (λ (m : Moment). m.item) first) ∙ q in cc) in
          let needy : has_needy bare (state_after bare xs) x ≡ true = sym (needs_last bare xs x []) ∙ (ap (λ (m : Moment). needs_slot bare (xs ++ x ∷ []) m.entry) (sym first) ∙ s) in
          λ none. needs needy (ap (label_now limits.epochs h) thread ∙ (sym (label_stay limits.epochs h main (length h) t (omega arith)) ∙ (ap (λ k. label_of limits.epochs (items (h ++ main)) k t) (sym z) ∙ none)))

  of_events : (n t : ℕ) (e : Event) → items (h ++ main) n ≡ Does t e → AreChecks limits.epochs granule_of (h ++ main) n t (access_of e)
  of_events n t e q = elim (place n) [
    | inl o ↦
        let i : items (moments xs) n ≡ Does t e = sym (ap (λ (m : Moment). m.item) o.1) ∙ q in
        let k : n < length (moments xs) = o.0 in
        checks_stay limits.epochs granule_of h main n t (access_of e) (omega (arith, length-append (moments xs) (era_moments (last_era xs) (length xs) x.round x.era)))
        (checks_stay limits.epochs granule_of (moments xs) (era_moments (last_era xs) (length xs) x.round x.era) n t (access_of e) k (old.checks.of_events n t e i))
    | inr (inl quiet) ↦ absurd (quiet.no_event t e q)
    | inr (inr l) ↦ right.checks n t e l q
  ]

  -- a check stands at an old position or at one of the entry
  check_place : (n : ℕ) (c : Check) → Contains (moment_at (h ++ main) n).checks c → ((n < length (moments xs)) × Contains (moment_at (moments xs) n).checks c) ⊎ (length h ≤ n)
  check_place n c b = elim (place n) [
    | inl o ↦ inl (o.0, subst (λ (m : Moment). Contains m.checks c) o.1 b)
    | inr (inl quiet) ↦ absurd (let y = b.1 in let z = ap length quiet.no_checks in omega arith)
    | inr (inr l) ↦ inr l
  ]

  stores : AllStoreRightly (h ++ main)
  stores n c b = elim (check_place n c b) [ inl o ↦ old.stores n c o.1 | inr l ↦ right.stores n c l b ]

  loads : AllLoadLast (h ++ main)
  loads n c b cell word q = elim (check_place n c b) [
    | inl o ↦
        let k : n < length (moments xs) = o.0 in
        old.loads n c o.1 cell word q
        ∙ sym (cell_stay h main c.granule cell n (omega (arith, length-append (moments xs) (era_moments (last_era xs) (length xs) x.round x.era)))
        ∙ cell_stay (moments xs) (era_moments (last_era xs) (length xs) x.round x.era) c.granule cell n (omega arith))
    | inr l ↦ right.loads n c l b cell word q
  ]

  pub but_notes-push : IsLawfulButNotes limits bare granule_of (xs ++ x ∷ [])
  but_notes-push =
      let m = sym (moments-push xs x) in
      record {
        faithful = faithful-push bare xs x old.faithful follows;
        labelled = subst (NeedsLabel limits (needs_slot bare (xs ++ x ∷ []))) m labelled;
        checks = record {
          of_events = subst (λ (h : List Moment). (n t : ℕ) (e : Event) → items h n ≡ Does t e → AreChecks limits.epochs granule_of h n t (access_of e)) m of_events;
          grouped = All-append IsGrouped xs (x ∷ []) old.checks.grouped (All-cons IsGrouped x [] grouped (All-nil IsGrouped));
        };
        stores = subst AllStoreRightly m stores;
        loads = subst AllLoadLast m loads;
        rounds = pairs-push (λ (d e : Entry). d.round ≤ e.round) xs x old.rounds rounds;
        eras = pairs-push (λ (d e : Entry). d.era ≤ e.era) xs x old.eras eras;
      }
