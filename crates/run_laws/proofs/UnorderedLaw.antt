-- The two accesses of a report: neither happens before the other, and their threads differ.
use Rattle.std.proofs.Common.{◌≡◌, ◌≢◌, ℕ, ◌<◌, ◌≤◌, ◌⊎◌, Bool, true, false, Option, Some, List, [], ◌==◌, ◌&&◌, length, refl, arith, sym, ap, subst, inl, inr, ◌∙◌}
use Rattle.std.specs.List.{position_or_len}
use Rattle.std.proofs.lemmas.Bool.{cases_order, cases_lt, lt-ltb}
use Rattle.std.proofs.lemmas.List.Sums.{fails_before_first}
use Rattle.std.proofs.Math.ListN.{get_or-eq_default}
use Rattle.std.proofs.lemmas.List.Quantifiers.{position-Some}
use Rattle.run_record.specs.declared.event.Event.{Event}
use Rattle.run_record.specs.declared.entry.Entry.{Entry}
use Rattle.run_record.specs.declared.entry.Check.{Check}
use Rattle.run_record.specs.declared.limits.Limits.{Limits}
use Rattle.run_laws.specs.Moments.{Does, Past, Moment, moment_at, items, moments, RoundsNeverFall}
use Rattle.run_laws.specs.Labels.{labels}
use Rattle.run_laws.specs.HappensBefore.{HappensBefore, Program}
use Rattle.run_laws.specs.SlotOrder.{SlotBefore, Plain, One, Then}
use Rattle.run_laws.specs.DeskNotes.{AreNotes}
use Rattle.run_laws.specs.Words.{opposes, sid, era}
use Rattle.run_laws.specs.Checks.{AreAllChecks, AllStoreRightly}
use Rattle.run_laws.specs.Loads.{IsEarlier, FindsEmpty, FindsWord, AllLoadRightly}
use Rattle.run_laws.specs.Candidates.{has_word, IsCandidate, HasLabel, TellLabels}
use Rattle.run_laws.specs.Reports.{first_with}
use Rattle.run_laws.proofs.SlotLaw.{slot_before, same_slot_ordered}
use Rattle.run_laws.proofs.LabelLaw.{tell_labels, no_any}
use Rattle.run_laws.proofs.RoundOrder.{round_rises}
use Rattle.run_laws.proofs.CandidateLaw.{opposes_parts}
use Rattle.run_laws.proofs.FindLaw.{has_own_word, stores_own, not_empty, loaded_from}

-- an access that stored the word, and isn't later than a
record Source (g : ℕ) (h : List Moment) (a granule w : ℕ) : Type 0 where
  at : ℕ
  has : has_word granule w (moment_at h at) ≡ true
  not_later : IsEarlier g h a at → ⊥

does_thread : (t u : ℕ) (v w : Event) → Does t v ≡ Does u w → t ≡ u
does_thread t u v w e = cc

-- a position with the word is one of the history
has_within : (h : List Moment) (x granule w : ℕ) → has_word granule w (moment_at h x) ≡ true → x < length h
has_within h x granule w e = elim (cases_lt x (length h)) [
  | inl l ↦ l
  | inr l ↦ absurd (no_any (λ (c : Check). (c.granule == granule) && (c.word == w)) (moment_at h x).checks e (ap (λ (m : Moment). m.checks) (get_or-eq_default h (record { entry = 0; round = 0; item = Past; checks = [] }) l)))
]

-- where a position has the word there is a first one
first_with-Some : (h : List Moment) (granule w n : ℕ) → has_word granule w (moment_at h n) ≡ true → (y : ℕ) × (first_with h granule w ≡ Some y)
first_with-Some h granule w n e = elim (cases_lt (position_or_len (has_word granule w) h) (length h)) [
  | inl l ↦ (position_or_len (has_word granule w) h, let t = lt-ltb (position_or_len (has_word granule w) h) (length h) l in rw t refl)
  | inr l ↦
      let m = has_within h n granule w e in
      absurd (let z = sym (fails_before_first (has_word granule w) h n (record { entry = 0; round = 0; item = Past; checks = [] }) (omega arith)) ∙ e in cc)
]

module _ (limits : Limits) (granule_of : ℕ → Option ℕ) (needs_slot : ℕ → Bool) (entries : List Entry) (few : limits.slots ≤ 255) (some : 1 ≤ limits.epochs) (most : limits.epochs ≤ 16383) (notes : AreNotes limits needs_slot (moments entries)) (checks : AreAllChecks limits.epochs granule_of entries (moments entries)) (stores : AllStoreRightly (moments entries)) (loads : AllLoadRightly limits.epochs (moments entries)) (a : ℕ) (c : Check) (w : ℕ) (candidate : IsCandidate limits.epochs (moments entries) a c w) where
  abbrev h : List Moment
  h = moments entries

  abbrev g : ℕ
  g = limits.epochs

  tell : TellLabels g h
  tell = tell_labels limits granule_of needs_slot entries few some most notes checks

  parts : (era w ≡ era c.word) × (sid w ≡ sid c.word → ⊥)
  parts = opposes_parts c.word w candidate.races.opposed

  source : Source g h a c.granule w
  source = let f = loaded_from (moment_at h a).checks candidate.index c w candidate.loaded in from f.cell (loads a c f.among f.cell w f.loaded)
    where
      from : (cell : ℕ) → ((w ≡ 0) × FindsEmpty limits.epochs (moments entries) a c.granule cell) ⊎ ((w ≢ 0) × FindsWord limits.epochs (moments entries) a c.granule cell w) → Source limits.epochs (moments entries) a c.granule w
      from cell (inl e) = absurd (not_empty c.word (subst (λ z. opposes c.word z ≡ true) e.0 candidate.races.opposed))
      from cell (inr (d, b)) =
          let s = b.stored in
          let own : s.check.word ≡ w = stores_own s.check cell w (stores b.source s.check s.among) s.stored in
          record {
            at = b.source;
            has = subst (λ z. has_word z w (moment_at (moments entries) b.source) ≡ true) s.on_granule (subst (λ z. has_word s.check.granule z (moment_at (moments entries) b.source) ≡ true) own (has_own_word (moment_at (moments entries) b.source) s.check s.among));
            not_later = b.not_later;
          }

  -- there is a first access with the word
  pub some_first : (y : ℕ) × (first_with h c.granule w ≡ Some y)
  some_first = first_with-Some h c.granule w source.at source.has

  module _ (x : ℕ) (first : first_with (moments entries) c.granule w ≡ Some x) where
    first_has : has_word c.granule w (moment_at h x) ≡ true
    first_has = (position-Some (has_word c.granule w) h x (record { entry = 0; round = 0; item = Past; checks = [] }) first).1

    none_before : (k : ℕ) → k < x → has_word c.granule w (moment_at h k) ≡ false
    none_before = (position-Some (has_word c.granule w) h x (record { entry = 0; round = 0; item = Past; checks = [] }) first).2

    not_before : SlotBefore g (items h) x a → ⊥
    not_before o = candidate.races.unordered x first_has o

    not_after : SlotBefore g (items h) a x → ⊥
    not_after o =
        elim (cases_order x source.at) [
          | inl e ↦ source.not_later (inr (subst (SlotBefore g (items h) a) e o))
          | inr (inl l) ↦
              let p = tell x c.granule w first_has in
              let q = tell source.at c.granule w source.has in
              source.not_later (inr (Then o (same_slot_ordered g (items h) x source.at p.tid q.tid (sid w) p.event q.event l p.made q.made p.slot q.slot (p.era_is ∙ sym q.era_is))))
          | inr (inr l) ↦ absurd (let z = sym (none_before source.at l) ∙ source.has in cc)
        ]

    threads_differ : (t u : ℕ) (e f : Event) → items h a ≡ Does t e → items h x ≡ Does u f → t ≢ u
    threads_differ t u e f p q s =
        let q' : items h x ≡ Does t f = q ∙ ap (λ z. Does z f) (sym s) in
        elim (cases_order a x) [
          | inl z ↦ same z
          | inr (inl l) ↦ not_after (One (Plain (Program t e f l p q')))
          | inr (inr l) ↦ not_before (One (Plain (Program t f e l q' p)))
        ]
      where
        same : a ≡ x → ⊥
        same z =
            let f = loaded_from (moment_at (moments entries) a).checks candidate.index c w candidate.loaded in
            let own = tell_labels limits granule_of needs_slot entries few some most notes checks a c.granule c.word (has_own_word (moment_at (moments entries) a) c f.among) in
            let other : HasLabel limits.epochs (moments entries) a w = subst (λ y. HasLabel limits.epochs (moments entries) y w) (sym z) (tell_labels limits granule_of needs_slot entries few some most notes checks x c.granule w first_has) in
            let t : own.tid ≡ other.tid = does_thread own.tid other.tid own.event other.event (sym own.made ∙ other.made) in
            let s = subst (λ y. (labels limits.epochs (items (moments entries)) a).slot_of y ≡ Some (sid c.word)) t own.slot in
            let r = sym other.slot ∙ s in
            parts.1 (cc)

    pub unordered : (HappensBefore (items h) x a → ⊥) × (HappensBefore (items h) a x → ⊥) × ((t u : ℕ) (e f : Event) → items h a ≡ Does t e → items h x ≡ Does u f → t ≢ u)
    unordered = (λ b. not_before (slot_before g (items h) b), λ b. not_after (slot_before g (items h) b), threads_differ)

    -- where rounds never fall, a isn't earlier than that first access, by its round either
    pub not_earlier : RoundsNeverFall entries → IsEarlier g h a x → ⊥
    not_earlier rise (inr o) = not_after o
    not_earlier rise (inl r) =
        elim (cases_order x source.at) [
          | inl e ↦ source.not_later (inl (subst (λ y. (moment_at h a).round < (moment_at h y).round) e r))
          | inr (inl l) ↦ source.not_later (inl (let z = round_rises entries rise x source.at (omega arith) (has_within h source.at c.granule w source.has) in omega arith))
          | inr (inr l) ↦ absurd (let z = sym (none_before source.at l) ∙ source.has in cc)
        ]
