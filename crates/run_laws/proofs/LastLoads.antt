-- Loads of the last stores are loads that the rule allows.
use Rattle.std.proofs.Common.{◌≡◌, ◌≢◌, ℕ, ◌+◌, ◌-◌, ◌/◌, ◌<◌, ◌==◌, ◌&&◌, ◌⊎◌, Option, Some, None, List, [], length, sym, ap, subst, inl, inr, ◌∙◌, arith, eqb-true}
use Rattle.std.specs.Prelude.{Contains}
use Rattle.std.proofs.lemmas.Bool.{cases_lt, and_parts}
use Rattle.std.proofs.Math.ListN.{get_or-eq_default}
use Rattle.run_record.specs.declared.event.Event.{Event}
use Rattle.run_record.specs.declared.entry.Entry.{Entry}
use Rattle.run_record.specs.declared.entry.Check.{Check}
use Rattle.run_record.specs.declared.entry.Label.{Label}
use Rattle.run_laws.specs.Moments.{Past, Moment, moment_at, items, moments, RoundsNeverFall}
use Rattle.run_laws.specs.Numbers.{up_from}
use Rattle.run_laws.specs.Accesses.{Access, access_of, end_of}
use Rattle.run_laws.specs.Words.{word_of}
use Rattle.run_laws.specs.Checks.{ChecksPart, AreChecks, AreAllChecks, AllStoreRightly}
use Rattle.run_laws.specs.Loads.{IsEarlier, Stored, FindsEmpty, FindsWord, AllLoadRightly, AllLoadLast, cell_before}
use Rattle.run_laws.proofs.SlotInvariant.{before-lt}
use Rattle.run_laws.proofs.MomentsLaw.{checks_of_event}
use Rattle.run_laws.proofs.LabelLaw.{found_in}
use Rattle.run_laws.proofs.FindLaw.{has_own_word, stores_own}
use Rattle.run_laws.proofs.LastStore.{LastStore, NoStore, StoredAt, last_store}
use Rattle.run_laws.proofs.RoundOrder.{round_rises}

some_word : (m : ℕ) (l : Label) (r a : Rattle.std.specs.Prelude.Bool) → m ≢ 0 → word_of m l r a ≢ 0
some_word m l r a d e = d (omega arith)

pub not_none : (h : List Moment) (a : ℕ) (c : Check) → Contains (moment_at h a).checks c → (moment_at h a).checks ≡ [] → ⊥
not_none h a c k e = let z = subst (λ (cs : List Check). Contains cs c) e k in let l = z.1 in omega arith

-- positions with checks are those of the history
pub within : (h : List Moment) (a : ℕ) (c : Check) → Contains (moment_at h a).checks c → a < length h
within h a c k = elim (cases_lt a (length h)) [
  | inl l ↦ l
  | inr l ↦ absurd (not_none h a c k (ap (λ (m : Moment). m.checks) (get_or-eq_default h (record { entry = 0; round = 0; item = Past; checks = [] }) l)))
]

module _ (g : ℕ) (granule_of : ℕ → Option ℕ) (entries : List Entry) (checks : AreAllChecks g granule_of entries (moments entries)) (stores : AllStoreRightly (moments entries)) (rise : RoundsNeverFall entries) where
  abbrev h : List Moment
  h = moments entries

  -- no check's word is empty
  own_word : (x : ℕ) (c : Check) → Contains (moment_at h x).checks c → c.word ≢ 0
  own_word x c k = let made = checks_of_event entries x (not_none h x c k) in from made.0 made.1 (access_of made.1) (checks.of_events x made.0 made.1 made.2)
    where
      from : (t : ℕ) (e : Event) (o : Option Access) → AreChecks g granule_of (moments entries) x t o → c.word ≢ 0
      from t e None none = absurd (not_none (moments entries) x c k none)
      from t e (Some a) zip =
          let has = has_own_word (moment_at (moments entries) x) c k in
          let f = found_in granule_of a (ChecksPart g (moments entries) x t a) (λ (d : Check). (d.granule == c.granule) && (d.word == c.word)) (up_from (a.addr / 8) ((end_of a + 7) / 8 - a.addr / 8)) (moment_at (moments entries) x).checks zip has in
          let same : f.check.word ≡ c.word = eqb-true f.check.word c.word (and_parts (f.check.granule == c.granule) (f.check.word == c.word) f.passes).1 in
          λ e. some_word f.part.mask f.goes.label a.read a.atomic f.of_block.some (sym f.goes.word ∙ (same ∙ e))

  stored_word : (x granule cell w : ℕ) → Stored h x granule cell w → w ≢ 0
  stored_word x granule cell w s e = own_word x s.check s.among (stores_own s.check cell w (stores x s.check s.among) s.stored ∙ e)

  earlier-lt : (x y : ℕ) → x < length h → IsEarlier g h x y → x < y
  earlier-lt x y l (inr b) = before-lt g (items h) b
  earlier-lt x y l (inl r) = elim (cases_lt x y) [
    | inl m ↦ m
    | inr m ↦ absurd (let z = round_rises entries rise y x m l in omega arith)
  ]

  of_store : (x granule cell w : ℕ) → Stored h x granule cell w → x < length h
  of_store x granule cell w s = within h x s.check s.among

  may_load : (a granule cell word : ℕ) → a < length h → word ≡ cell_before h granule cell a → ((word ≡ 0) × FindsEmpty g h a granule cell) ⊎ ((word ≢ 0) × FindsWord g h a granule cell word)
  may_load a granule cell word l e = go (last_store h granule cell a)
    where
      go : LastStore (moments entries) granule cell a → ((word ≡ 0) × FindsEmpty g (moments entries) a granule cell) ⊎ ((word ≢ 0) × FindsWord g (moments entries) a granule cell word)
      go (NoStore z none) = inl (e ∙ z, λ x w s early. none x w (earlier-lt x a (of_store x granule cell w s) early) s)
      go (StoredAt x m s none) =
          let found = subst (λ w. Stored (moments entries) x granule cell w) (sym e) s in
          inr (
            stored_word x granule cell word found,
            record {
              source = x;
              stored = found;
              another = λ q. let z : x < x = subst (λ y. x < y) (sym q) m in omega arith;
              not_later = λ early. let z = earlier-lt a x l early in omega arith;
              not_overwritten = λ y w t later early. none y w (earlier-lt x y (of_store x granule cell word found) later) (earlier-lt y a (of_store y granule cell w t) early) t;
            },
          )

  pub last_loads : AllLoadLast h → AllLoadRightly g h
  last_loads last a c k cell word e = may_load a c.granule cell word (within h a c k) (last a c k cell word e)
