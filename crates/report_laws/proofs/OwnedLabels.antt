-- Whose the label of a candidate's word is.
use Rattle.std.proofs.Common.{◌≡◌, ◌≢◌, ℕ, ◌+◌, ◌-◌, ◌*◌, ◌/◌, ◌<◌, ◌≤◌, ◌==◌, ◌&&◌, not, Bool, true, false, Option, Some, List, [], length, refl, sym, ap, subst, inl, inr, ◌∙◌, arith, eqb-true, eq-eqb, ne_eqb}
use Rattle.std.proofs.lemmas.Bool.{cases_eq, cases_lt, and_parts, and_from}
use Rattle.std.proofs.lemmas.List.Quantifiers.{position-Some}
use Rattle.std.proofs.Math.ListN.{get_or-eq_default}
use Rattle.run_record.specs.declared.event.Event.{Event}
use Rattle.run_record.specs.declared.entry.DeskNote.TheVariants.{Attach}
use Rattle.run_record.specs.declared.entry.Entry.{Entry}
use Rattle.run_record.specs.declared.entry.Check.{Check}
use Rattle.run_record.specs.declared.entry.Label.{Label}
use Rattle.run_record.specs.declared.limits.Limits.{Limits}
use Rattle.run_laws.specs.Moments.{Does, Notes, Past, Moment, moment_at, items, moments}
use Rattle.run_laws.specs.Numbers.{up_from}
use Rattle.run_laws.specs.Labels.{labels, label_of}
use Rattle.run_laws.specs.Accesses.{Access, access_of, end_of, mask_in}
use Rattle.run_laws.specs.Words.{word_of, mask, sid, epoch, era, is_read, is_atomic, label_in}
use Rattle.run_laws.specs.Checks.{ChecksPart, AreChecks}
use Rattle.run_laws.specs.Candidates.{has_word, TellLabels, IsCandidate}
use Rattle.run_laws.specs.Reports.{first_with}
use Rattle.run_laws.proofs.OwnerLaw.{later_owner}
use Rattle.run_laws.proofs.QueueLaw.{attaches, slots_within}
use Rattle.run_laws.proofs.EpochRange.{labels_fit}
use Rattle.run_laws.proofs.WordLaw.{mask-word_of, sid-word_of, epoch-word_of, era-word_of, is_read-word_of, is_atomic-word_of}
use Rattle.run_laws.proofs.LabelLaw.{found_in, label_parts, takes_front, no_any, tell_labels}
use Rattle.run_laws.proofs.CandidateLaw.{opposes_parts}
use Rattle.run_laws.proofs.FindLaw.{has_own_word, loaded_from}
use Rattle.run_laws.proofs.UnorderedLaw.{some_first}
use Rattle.trace_parts.specs.Sought.{leaves_word}
use Rattle.report_laws.specs.Sound.{IsSound}
use Rattle.report_laws.specs.Owners.{IsLabelOf}
use Rattle.report_laws.proofs.TakenLabels.{Takes, same_label, attached_takes}

-- a label is one thread's
pub one_thread : (g : ℕ) (h : List Moment) (u v : ℕ) (l : Label) → IsLabelOf g h u l → IsLabelOf g h v l → u ≡ v
one_thread g h u v l p q = elim (cases_eq u v) [
  | inl e ↦ e
  | inr d ↦ absurd (elim (cases_lt p.position q.position) [
    | inl y ↦ differ u v p q (omega arith) d
    | inr y ↦ differ v u q p y (λ e. d (sym e))
  ])
]
  where
    differ : (u v : ℕ) (p : IsLabelOf g h u l) (q : IsLabelOf g h v l) → p.position ≤ q.position → (u ≡ v → ⊥) → ⊥
    differ u v p q le d =
        let a = p.under in
        let b = q.under in
        let m = later_owner g (items h) p.position q.position u v l.sid a.event le a.made a.slot b.slot (a.era ∙ sym b.era) d in
        let ea = a.epoch in
        let eb = b.epoch in
        absurd (omega arith)

pub has_within : (h : List Moment) (x granule w : ℕ) → has_word granule w (moment_at h x) ≡ true → x < length h
has_within h x granule w e = elim (cases_lt x (length h)) [
  | inl l ↦ l
  | inr l ↦ absurd (no_any (λ (c : Check). (c.granule == granule) && (c.word == w)) (moment_at h x).checks e (ap (λ (m : Moment). m.checks) (get_or-eq_default h (record { entry = 0; round = 0; item = Past; checks = [] }) l)))
]

pub first_has : (h : List Moment) (granule w x : ℕ) → first_with h granule w ≡ Some x → (has_word granule w (moment_at h x) ≡ true) × ((k : ℕ) → k < x → has_word granule w (moment_at h k) ≡ false)
first_has h granule w x e = let p = position-Some (has_word granule w) h x (record { entry = 0; round = 0; item = Past; checks = [] }) e in (p.1, p.2)

-- an access with a word on a granule, as it left the word in a block
pub record LeftIn (g : ℕ) (granule_of : ℕ → Option ℕ) (h : List Moment) (x t : ℕ) (a : Access) (granule w : ℕ) : Type 0 where
  pub block : ℕ
  pub granule_is : granule_of (8 * block) ≡ Some granule
  pub labelled : label_of g (items h) x t ≡ Some (label_in w)
  pub leaves : leaves_word (label_in w) (8 * block) w a ≡ true
  pub bytes : mask w ≢ 0
  pub read_is : is_read w ≡ a.read
  pub atomic_is : is_atomic w ≡ a.atomic

module _ (limits : Limits) (granule_of : ℕ → Option ℕ) (needs_slot : ℕ → Bool) (entries : List Entry) (sound : IsSound limits granule_of needs_slot entries) where
  abbrev h : List Moment
  h = moments entries

  abbrev g : ℕ
  g = limits.epochs

  pub tell : TellLabels g h
  tell = tell_labels limits granule_of needs_slot entries sound.few_slots sound.some_epochs sound.few_epochs sound.notes sound.checks

  -- each attachment gives its label
  pub attached : (u n : ℕ) (l : Label) → items h n ≡ Notes u (Attach l) → Takes g (items h) n u l
  attached u n l note =
      let r = sound.notes.attached n u l note in
      attached_takes g (items h) n u l note (attaches g limits.slots (items h) (takes_front limits needs_slot h sound.notes) n u l note) r.new_epoch r.present_era

  pub label_of_word : (x granule w : ℕ) → has_word granule w (moment_at h x) ≡ true → (u : ℕ) × IsLabelOf g h u (label_in w)
  label_of_word x granule w has =
      let l = tell x granule w has in
      (l.tid, record { position = x; within = has_within h x granule w has; under = record { event = l.event; made = l.made; slot = l.slot; epoch = l.epoch_is; era = l.era_is } })

  -- and it is that of the access's thread
  pub label_of_maker : (x u granule w : ℕ) (e : Event) → has_word granule w (moment_at h x) ≡ true → items h x ≡ Does u e → IsLabelOf g h u (label_in w)
  label_of_maker x u granule w e has made =
      let l = tell x granule w has in
      let same : l.tid ≡ u = same_thread l.tid u l.event e (sym l.made ∙ made) in
      subst (λ v. IsLabelOf g h v (label_in w)) same (record { position = x; within = has_within h x granule w has; under = record { event = l.event; made = l.made; slot = l.slot; epoch = l.epoch_is; era = l.era_is } })
    where
      same_thread : (t v : ℕ) (e f : Event) → Does t e ≡ Does v f → t ≡ v
      same_thread t v e f q = cc

  pub left_in : (x t : ℕ) (e : Event) (a : Access) → items h x ≡ Does t e → access_of e ≡ Some a → (granule w : ℕ) → has_word granule w (moment_at h x) ≡ true → LeftIn g granule_of h x t a granule w
  left_in x t e a made is granule w has =
      let zip = subst (AreChecks g granule_of h x t) is (sound.checks.of_events x t e made) in
      let f = found_in granule_of a (ChecksPart g h x t a) (λ (c : Check). (c.granule == granule) && (c.word == w)) (up_from (a.addr / 8) ((end_of a + 7) / 8 - a.addr / 8)) (moment_at h x).checks zip has in
      let same = and_parts (f.check.granule == granule) (f.check.word == w) f.passes in
      let word : f.check.word ≡ w = eqb-true f.check.word w same.1 in
      let on : f.check.granule ≡ granule = eqb-true f.check.granule granule same.0 in
      let p = label_parts g (items h) x t f.goes.label f.goes.labelled in
      let slot : f.goes.label.sid < limits.slots = slots_within g limits.slots (items h) (takes_front limits needs_slot h sound.notes) x t f.goes.label.sid p.0 in
      let fit = (labels_fit g (items h) x sound.some_epochs).most f.goes.label.sid in
      let few = sound.few_slots in
      let small : f.goes.label.sid < 256 = omega arith in
      let p1 = p.1 in
      let most = sound.few_epochs in
      let short : f.goes.label.epoch < 16384 = omega arith in
      let told : word_of f.part.mask f.goes.label a.read a.atomic ≡ w = sym f.goes.word ∙ word in
      let s : sid w ≡ f.goes.label.sid = subst (λ y. sid y ≡ f.goes.label.sid) told (sid-word_of f.part.mask f.goes.label a.read a.atomic f.small small) in
      let r : epoch w ≡ f.goes.label.epoch = subst (λ y. epoch y ≡ f.goes.label.epoch) told (epoch-word_of f.part.mask f.goes.label a.read a.atomic f.small small short) in
      let i : era w ≡ f.goes.label.era = subst (λ y. era y ≡ f.goes.label.era) told (era-word_of f.part.mask f.goes.label a.read a.atomic f.small small short) in
      let label : f.goes.label ≡ label_in w = same_label f.goes.label (label_in w) (sym s) (sym r) (sym i) in
      let same_mask : f.part.mask ≡ mask_in a f.block = f.of_block.mask_is in
      let some : mask_in a f.block ≢ 0 = (λ z. f.of_block.some (same_mask ∙ z)) in
      let left : word_of (mask_in a f.block) (label_in w) a.read a.atomic ≡ w = subst (λ m. word_of m (label_in w) a.read a.atomic ≡ w) same_mask (subst (λ (x : Label). word_of f.part.mask x a.read a.atomic ≡ w) label told) in
      record {
        block = f.block;
        granule_is = f.of_block.granule_is ∙ ap Some (sym f.goes.granule ∙ on);
        labelled = f.goes.labelled ∙ ap Some label;
        leaves = and_from (not (mask_in a f.block == 0)) (word_of (mask_in a f.block) (label_in w) a.read a.atomic == w) (some_mask (mask_in a f.block) some) (eq-eqb (word_of (mask_in a f.block) (label_in w) a.read a.atomic) w left);
        bytes = λ z. f.of_block.some (sym (subst (λ y. mask y ≡ f.part.mask) told (mask-word_of f.part.mask f.goes.label a.read a.atomic f.small)) ∙ z);
        read_is = subst (λ y. is_read y ≡ a.read) told (is_read-word_of f.part.mask f.goes.label a.read a.atomic f.small small short);
        atomic_is = subst (λ y. is_atomic y ≡ a.atomic) told (is_atomic-word_of f.part.mask f.goes.label a.read a.atomic f.small small short);
      }
    where
      some_mask : (m : ℕ) → m ≢ 0 → not (m == 0) ≡ true
      some_mask m d = rw (ne_eqb m 0 d) refl

  module _ (n : ℕ) (c : Check) (w : ℕ) (candidate : IsCandidate limits.epochs (moments entries) n c w) where
    first : (x : ℕ) × (first_with h c.granule w ≡ Some x)
    first = some_first limits granule_of needs_slot entries sound.few_slots sound.some_epochs sound.few_epochs sound.notes sound.checks sound.stores sound.loads n c w candidate

    some_has : has_word c.granule w (moment_at h first.0) ≡ true
    some_has = (first_has h c.granule w first.0 first.1).0

    pub owner : (u : ℕ) × IsLabelOf g h u (label_in w)
    owner = label_of_word first.0 c.granule w some_has

    pub slot : sid w < limits.slots
    slot = let l = tell first.0 c.granule w some_has in slots_within g limits.slots (items h) (takes_front limits needs_slot h sound.notes) first.0 l.tid (sid w) l.slot

    pub own_era : era w ≡ (labels g (items h) n).era
    own_era =
        let l = loaded_from (moment_at h n).checks candidate.index c w candidate.loaded in
        (opposes_parts c.word w candidate.races.opposed).0 ∙ sym (tell n c.granule c.word (has_own_word (moment_at h n) c l.among)).era_is
