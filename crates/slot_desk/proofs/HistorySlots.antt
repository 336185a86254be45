-- How the slots of a desk go with the labels of a history.
use Rattle.std.proofs.Common.{◌≡◌, ◌<◌, ◌≤◌, ◌+◌, ◌==◌, ◌⊎◌, ℕ, Bool, true, false, cond, if◌then◌else◌, not, ◌&&◌, nat_lt, Some, None, List, ◌∷◌, length, get_or, set, replicate, refl, sym, ap, subst, ◌∙◌, inl, inr, arith, ne_eqb}
use Rattle.std.proofs.Math.ListN.{length-set, length-replicate, get_or-eq_default}
use Rattle.std.proofs.lemmas.Bool.{cases_eq, cases_lt, cases_Bool, ltb-false}
use Rattle.std.proofs.lemmas.List.{get_or-set_same, get_or-set_other, get_or-replicate}
use Rattle.run_record.specs.declared.event.Event.{Event}
use Rattle.run_record.specs.declared.event.Event.TheVariants.{End}
use Rattle.run_laws.specs.Numbers.{up_from}
use Rattle.run_laws.specs.Labels.{Labels, holds, is_end, raises, raised, event_labels, attach_labels, new_era}
use Rattle.run_laws.proofs.SlotSteps.{holds-some, slot_here, slot_other, slot_kept, slot_end, raised_other, attach_slot_here, attach_slot_other, attach_free_taken, attach_free_other, attach_epoch_here, attach_epoch_other}
use Rattle.slot_desk.specs.declared.slot.Attachment.{Attachment}
use Rattle.slot_desk.specs.Desks.{SlotContents, is_free, no_slot, fresh_slot, held_from}
use Rattle.slot_desk.specs.Steps.{attachment, attached_slot, spent_slot, ended_slot}
use Rattle.slot_desk.specs.History.{HasLabel, AreSlots, slot_at}
use Rattle.slot_desk.proofs.DeskLists.{times, at_each_set, times-up_from, times-cons_same, times-cons_other}
use Rattle.slot_desk.proofs.Holders.{held_of-some}
use Rattle.slot_desk.proofs.KeptLaws.{IsGivenBack}

free_stays : (g : ℕ) (l : Labels) (t : ℕ) (w : Event) (s : ℕ) → is_end w ≡ false → (event_labels g l t w).free s ≡ l.free s
free_stays g l t w s e = rw e (elim (holds (l.slot_of t) s) as (λ b. (if b && false then nat_lt (l.epoch s) g else l.free s) ≡ l.free s) [ true ↦ refl | false ↦ refl ])

has_label : (g : ℕ) (l : Labels) (t : ℕ) (w : Event) (u s : ℕ) → is_end w ≡ false → HasLabel g l u s → HasLabel g (event_labels g l t w) u s
has_label g l t w u s quiet (inl e) =
    elim (cases_eq u t) [
      | inr d ↦ inl (slot_other g l t w u d ∙ e)
      | inl q ↦ subst (λ x. HasLabel g (event_labels g l t w) x s) (sym q) (mine (subst (λ x. l.slot_of x ≡ Some s) q e) (cases_Bool (raises w == 0)) (cases_Bool (nat_lt (l.epoch s) g)))
    ]
  where
    mine : l.slot_of t ≡ Some s → (((raises w == 0) ≡ true) ⊎ ((raises w == 0) ≡ false)) → ((nat_lt (l.epoch s) g ≡ true) ⊎ (nat_lt (l.epoch s) g ≡ false)) → HasLabel g (event_labels g l t w) t s
    mine f (inl z) b = inl (slot_here g l t w ∙ rw (f, quiet, z) refl)
    mine f (inr z) (inl b) = inl (slot_here g l t w ∙ rw (f, quiet, z, b) refl)
    mine f (inr z) (inr b) = inr (slot_here g l t w ∙ rw (f, quiet, z, b) refl, (let m = ltb-false (l.epoch s) g b in omega arith))
has_label g l t w u s quiet (inr e) =
    elim (cases_eq u t) [
      | inr d ↦ inr (slot_other g l t w u d ∙ e.0, (let m = e.1 in omega arith))
      | inl q ↦ let f = subst (λ x. l.slot_of x ≡ None) q e.0 in inr (subst (λ x. (event_labels g l t w).slot_of x ≡ None) (sym q) (slot_here g l t w ∙ rw f refl), (let m = e.1 in omega arith))
    ]

-- an event that is no End
pub quiet_slots : (g n : ℕ) (l : Labels) (queue : List ℕ) (slots : List SlotContents) (t : ℕ) (w : Event) → is_end w ≡ false → AreSlots g n l queue slots → AreSlots g n (event_labels g l t w) queue slots
quiet_slots g n l queue slots t w quiet b =
    record {
      all_slots = b.all_slots;
      queued = b.queued;
      holds = λ u s e. b.holds u s (slot_kept g l t w u s e);
      owned = λ s a o. let p = b.owned s a o in (free_stays g l t w s quiet ∙ p.0, (let m = p.1 in omega arith), has_label g l t w a.tid s quiet p.2);
      one_slot = b.one_slot;
      free = λ s f. (free_stays g l t w s quiet ∙ (b.free s f).0, (let z = raised_other g l t w s (λ e. unlabelled s f e) in let m = (b.free s f).1 in omega arith));
    }
  where
    unlabelled : (s : ℕ) → is_free (slot_at slots s) ≡ true → l.slot_of t ≡ Some s → ⊥
    unlabelled s f e = let o = (b.holds t s e).1 in let z = rw o at f in cc

-- the front of the queue is free, and stands nowhere else in it
pub front_is_free : (queue rest : List ℕ) (slots : List SlotContents) (s : ℕ) → ((r : ℕ) → times r queue ≡ (if is_free (slot_at slots r) then 1 else 0)) → queue ≡ s ∷ rest → (is_free (slot_at slots s) ≡ true) × (times s rest ≡ 0) × (s < length slots)
front_is_free queue rest slots s queued q = (free, alone, within)
  where
    counts : 1 + times s rest ≡ cond (is_free (slot_at slots s)) 1 0
    counts = sym (times-cons_same s rest) ∙ (ap (times s) (sym q) ∙ queued s)

    free : is_free (slot_at slots s) ≡ true
    free = elim (cases_Bool (is_free (slot_at slots s))) [ inl e ↦ e | inr e ↦ absurd (let z = rw e at counts in omega arith) ]

    alone : times s rest ≡ 0
    alone = let z = rw free at counts in omega arith

    within : s < length slots
    within = elim (cases_lt s (length slots)) [ inl m ↦ m | inr m ↦ absurd (let z = rw (get_or-eq_default slots no_slot {n = s} m) at free in cc) ]

-- a free slot has no owner
free_unowned : (s : SlotContents) (a : Attachment) → is_free s ≡ true → s.owner ≡ Some a → ⊥
free_unowned s a f o = let z = rw o at f in cc

owned_unfree : (s : SlotContents) (a : Attachment) → s.owner ≡ Some a → is_free s ≡ false
owned_unfree s a o = rw o refl

-- a thread that owns no slot takes the front
pub attach_slots :
    (g n : ℕ) (l : Labels) (queue rest : List ℕ) (slots : List SlotContents) (t s : ℕ) → AreSlots g n l queue slots → queue ≡ s ∷ rest → ((r : ℕ) (a : Attachment) → (slot_at slots r).owner ≡ Some a → a.tid ≡ t → ⊥) →
    AreSlots g n (attach_labels l t s) rest (set slots s (attached_slot t (slot_at slots s)))
attach_slots g n l queue rest slots t s b q none =
    record {
      all_slots = length-set slots s (attached_slot t (slot_at slots s)) ∙ b.all_slots;
      queued = at_each_set (λ r x. times r rest ≡ (if is_free x then 1 else 0)) slots s (attached_slot t (slot_at slots s)) no_slot front.2 front.1 (λ r d. sym (times-cons_other r s rest (λ z. d (sym z))) ∙ (ap (times r) (sym q) ∙ b.queued r));
      holds = holding;
      owned = at_each_set (λ r x. (a : Attachment) → x.owner ≡ Some a → ((attach_labels l t s).free r ≡ false) × (a.epoch ≤ (attach_labels l t s).epoch r) × HasLabel g (attach_labels l t s) a.tid r) slots s (attached_slot t (slot_at slots s)) no_slot front.2 here there;
      one_slot = one;
      free = at_each_set (λ r x. is_free x ≡ true → ((attach_labels l t s).free r ≡ true) × ((attach_labels l t s).epoch r ≡ x.last)) slots s (attached_slot t (slot_at slots s)) no_slot front.2 (λ e. absurd (cc)) (λ r d e. (attach_free_other l t s r d ∙ (b.free r e).0, attach_epoch_other l t s r d ∙ (b.free r e).1));
    }
  where
    front : (is_free (slot_at slots s) ≡ true) × (times s rest ≡ 0) × (s < length slots)
    front = front_is_free queue rest slots s b.queued q

    now : get_or (set slots s (attached_slot t (slot_at slots s))) s no_slot ≡ attached_slot t (slot_at slots s)
    now = get_or-set_same slots s (attached_slot t (slot_at slots s)) no_slot front.2

    other : (r : ℕ) → (r ≡ s → ⊥) → get_or (set slots s (attached_slot t (slot_at slots s))) r no_slot ≡ slot_at slots r
    other r d = get_or-set_other slots s r (attached_slot t (slot_at slots s)) no_slot d

    holding : (u r : ℕ) → (attach_labels l t s).slot_of u ≡ Some r → (a : Attachment) × ((slot_at (set slots s (attached_slot t (slot_at slots s))) r).owner ≡ Some a) × (a.tid ≡ u)
    holding u r e =
        elim (cases_eq u t) [
          | inl z ↦
              let y = sym (attach_slot_here l t s) ∙ subst (λ x. (attach_labels l t s).slot_of x ≡ Some r) z e in
              let same : s ≡ r = cc in
              (attachment t (slot_at slots s), subst (λ x. (slot_at (set slots s (attached_slot t (slot_at slots s))) x).owner ≡ Some (attachment t (slot_at slots s))) same (ap (λ (x : SlotContents). x.owner) now), sym z)
          | inr d ↦
              let p = b.holds u r (sym (attach_slot_other l t s u d) ∙ e) in
              let apart : r ≡ s → ⊥ = (λ z. free_unowned (slot_at slots s) p.0 front.0 (subst (λ x. (slot_at slots x).owner ≡ Some p.0) z p.1)) in
              (p.0, ap (λ (x : SlotContents). x.owner) (other r apart) ∙ p.1, p.2)
        ]

    here : (a : Attachment) → Some (attachment t (slot_at slots s)) ≡ Some a → ((attach_labels l t s).free s ≡ false) × (a.epoch ≤ (attach_labels l t s).epoch s) × HasLabel g (attach_labels l t s) a.tid s
    here a o =
        let z : attachment t (slot_at slots s) ≡ a = cc in
        let m = ap (λ (x : Attachment). x.epoch) z in
        let f = (b.free s front.0).1 in
        let h = attach_epoch_here l t s in
        (attach_free_taken l t s, omega arith, inl (subst (λ x. (attach_labels l t s).slot_of x ≡ Some s) (ap (λ (x : Attachment). x.tid) z) (attach_slot_here l t s)))

    there : (r : ℕ) → (r ≡ s → ⊥) → (a : Attachment) → (slot_at slots r).owner ≡ Some a → ((attach_labels l t s).free r ≡ false) × (a.epoch ≤ (attach_labels l t s).epoch r) × HasLabel g (attach_labels l t s) a.tid r
    there r d a o =
        let p = b.owned r a o in
        let apart : a.tid ≡ t → ⊥ = none r a o in
        let e = attach_epoch_other l t s r d in
        let m = p.1 in
        (attach_free_other l t s r d ∙ p.0, omega arith, keeps p.2)
      where
        keeps : HasLabel g l a.tid r → HasLabel g (attach_labels l t s) a.tid r
        keeps (inl f) = inl (attach_slot_other l t s a.tid (none r a o) ∙ f)
        keeps (inr f) = inr (attach_slot_other l t s a.tid (none r a o) ∙ f.0, (let e = attach_epoch_other l t s r d in let m = f.1 in omega arith))

    one : (r v : ℕ) (a c : Attachment) → (slot_at (set slots s (attached_slot t (slot_at slots s))) r).owner ≡ Some a → (slot_at (set slots s (attached_slot t (slot_at slots s))) v).owner ≡ Some c → a.tid ≡ c.tid → r ≡ v
    one r v a c o p e =
        elim (cases_eq r s) [
          | inl x ↦ elim (cases_eq v s) [
            | inl y ↦ x ∙ sym y
            | inr y ↦
                let f = sym (ap (λ (z : SlotContents). z.owner) now) ∙ subst (λ z. (slot_at (set slots s (attached_slot t (slot_at slots s))) z).owner ≡ Some a) x o in
                let z : attachment t (slot_at slots s) ≡ a = cc in
                absurd (none v c (sym (ap (λ (z : SlotContents). z.owner) (other v y)) ∙ p) (sym e ∙ sym (ap (λ (z : Attachment). z.tid) z)))
          ]
          | inr x ↦ elim (cases_eq v s) [
            | inl y ↦
                let f = sym (ap (λ (z : SlotContents). z.owner) now) ∙ subst (λ z. (slot_at (set slots s (attached_slot t (slot_at slots s))) z).owner ≡ Some c) y p in
                let z : attachment t (slot_at slots s) ≡ c = cc in
                absurd (none r a (sym (ap (λ (z : SlotContents). z.owner) (other r x)) ∙ o) (e ∙ sym (ap (λ (z : Attachment). z.tid) z)))
            | inr y ↦ b.one_slot r v a c (sym (ap (λ (z : SlotContents). z.owner) (other r x)) ∙ o) (sym (ap (λ (z : SlotContents). z.owner) (other v y)) ∙ p) e
          ]
        ]

-- a slot loses its owner: by the Leave of one that has lost its label
pub detach_slots :
    (g n : ℕ) (l : Labels) (queue : List ℕ) (slots : List SlotContents) (t s since : ℕ) → AreSlots g n l queue slots → held_from 0 t slots ≡ Some (s, since) → l.slot_of t ≡ None →
    AreSlots g n l queue (set slots s (spent_slot (slot_at slots s)))
detach_slots g n l queue slots t s since b held lost =
    record {
      all_slots = length-set slots s (spent_slot (slot_at slots s)) ∙ b.all_slots;
      queued = at_each_set (λ r x. times r queue ≡ (if is_free x then 1 else 0)) slots s (spent_slot (slot_at slots s)) no_slot h.0 (b.queued s ∙ rw (owned_unfree (slot_at slots s) h.1.0 h.1.1) refl) (λ r d. b.queued r);
      holds = λ u r e. let p = b.holds u r e in (p.0, ap (λ (x : SlotContents). x.owner) (other r (apart u r e)) ∙ p.1, p.2);
      owned = at_each_set (λ r x. (a : Attachment) → x.owner ≡ Some a → (l.free r ≡ false) × (a.epoch ≤ l.epoch r) × HasLabel g l a.tid r) slots s (spent_slot (slot_at slots s)) no_slot h.0 (λ a o. absurd (cc)) (λ r d. b.owned r);
      one_slot = λ r v a c o p e. b.one_slot r v a c (before r a o) (before v c p) e;
      free = at_each_set (λ r x. is_free x ≡ true → (l.free r ≡ true) × (l.epoch r ≡ x.last)) slots s (spent_slot (slot_at slots s)) no_slot h.0 (λ e. absurd (cc)) (λ r d. b.free r);
    }
  where
    h : (s < length slots) × ((a : Attachment) × ((get_or slots s no_slot).owner ≡ Some a) × (a.tid ≡ t) × (a.epoch ≡ since))
    h = held_of-some slots t s since held

    other : (r : ℕ) → (r ≡ s → ⊥) → get_or (set slots s (spent_slot (slot_at slots s))) r no_slot ≡ slot_at slots r
    other r d = get_or-set_other slots s r (spent_slot (slot_at slots s)) no_slot d

    apart : (u r : ℕ) → l.slot_of u ≡ Some r → r ≡ s → ⊥
    apart u r e q =
        let p = b.holds u r e in
        let o = sym h.1.1 ∙ subst (λ x. (slot_at slots x).owner ≡ Some p.0) q p.1 in
        let z : h.1.0 ≡ p.0 = cc in
        let same : u ≡ t = sym p.2 ∙ (ap (λ (x : Attachment). x.tid) (sym z) ∙ h.1.2) in
        let f = sym lost ∙ subst (λ x. l.slot_of x ≡ Some r) same e in
        cc

    before : (r : ℕ) (a : Attachment) → (slot_at (set slots s (spent_slot (slot_at slots s))) r).owner ≡ Some a → (slot_at slots r).owner ≡ Some a
    before = at_each_set (λ r x. (a : Attachment) → x.owner ≡ Some a → (slot_at slots r).owner ≡ Some a) slots s (spent_slot (slot_at slots s)) no_slot h.0 (λ a o. absurd (cc)) (λ r d a o. o)

raised_end : (g : ℕ) (l : Labels) (t s : ℕ) → raised g l t End s ≡ 0
raised_end g l t s = elim (holds (l.slot_of t) s && nat_lt (l.epoch s) g) as (λ b. ◌≡◌ {A = ℕ} (if b then 0 else 0) 0) [ true ↦ refl | false ↦ refl ]

-- the End of the slot's owner
pub end_slots :
    (g n : ℕ) (l : Labels) (queue rest : List ℕ) (slots : List SlotContents) (t s : ℕ) (is_last : Bool) (clock : List ℕ) → AreSlots g n l queue slots → l.slot_of t ≡ Some s → s < length slots →
    nat_lt (l.epoch s) g ≡ not is_last → IsGivenBack g (l.epoch s) s is_last queue rest →
    AreSlots g n (event_labels g l t End) rest (set slots s (ended_slot (l.epoch s) is_last clock (slot_at slots s)))
end_slots g n l queue rest slots t s is_last clock b e within room back =
    record {
      all_slots = length-set slots s new ∙ b.all_slots;
      queued = at_each_set (λ r x. times r rest ≡ (if is_free x then 1 else 0)) slots s new no_slot within back.here (λ r d. back.others r d ∙ b.queued r);
      holds = λ u r f. let p = b.holds u r (slot_kept g l t End u r f) in (p.0, ap (λ (x : SlotContents). x.owner) (other r (apart u r f)) ∙ p.1, p.2);
      owned = at_each_set (λ r x. (a : Attachment) → x.owner ≡ Some a → ((event_labels g l t End).free r ≡ false) × (a.epoch ≤ (event_labels g l t End).epoch r) × HasLabel g (event_labels g l t End) a.tid r) slots s new no_slot within (λ a o. absurd (cc)) there;
      one_slot = λ r v a c o p q. b.one_slot r v a c (before r a o) (before v c p) q;
      free = at_each_set (λ r x. is_free x ≡ true → ((event_labels g l t End).free r ≡ true) × ((event_labels g l t End).epoch r ≡ x.last)) slots s new no_slot within (λ f. (rw (holds-some (l.slot_of t) s e, room) f, (let z = raised_end g l t s in omega arith))) (λ r d f. (free_other r d ∙ (b.free r f).0, (let z = raised_end g l t r in let m = (b.free r f).1 in omega arith)));
    }
  where
    new : SlotContents
    new = ended_slot (l.epoch s) is_last clock (slot_at slots s)

    owner : (a : Attachment) × ((slot_at slots s).owner ≡ Some a) × (a.tid ≡ t)
    owner = b.holds t s e

    other : (r : ℕ) → (r ≡ s → ⊥) → get_or (set slots s (ended_slot (l.epoch s) is_last clock (slot_at slots s))) r no_slot ≡ slot_at slots r
    other r d = get_or-set_other slots s r (ended_slot (l.epoch s) is_last clock (slot_at slots s)) no_slot d

    free_other : (r : ℕ) → (r ≡ s → ⊥) → (event_labels g l t End).free r ≡ l.free r
    free_other r d = let z : (s == r) ≡ false = ne_eqb s r (λ q. d (sym q)) in rw (e, z) refl

    apart : (u r : ℕ) → (event_labels g l t End).slot_of u ≡ Some r → r ≡ s → ⊥
    apart u r f q =
        let p = b.holds u r (slot_kept g l t End u r f) in
        let o = sym owner.1 ∙ subst (λ x. (slot_at slots x).owner ≡ Some p.0) q p.1 in
        let z : owner.0 ≡ p.0 = cc in
        let same : u ≡ t = sym p.2 ∙ (ap (λ (x : Attachment). x.tid) (sym z) ∙ owner.2) in
        slot_end g l t End r refl (subst (λ x. (event_labels g l t End).slot_of x ≡ Some r) same f)

    there : (r : ℕ) → (r ≡ s → ⊥) → (a : Attachment) → (slot_at slots r).owner ≡ Some a → ((event_labels g l t End).free r ≡ false) × (a.epoch ≤ (event_labels g l t End).epoch r) × HasLabel g (event_labels g l t End) a.tid r
    there r d a o =
        let p = b.owned r a o in
        let m = p.1 in
        (free_other r d ∙ p.0, omega arith, keeps p.2)
      where
        away : a.tid ≡ t → ⊥
        away q = d (b.one_slot r s a owner.0 o owner.1 (q ∙ sym owner.2))

        keeps : HasLabel g l a.tid r → HasLabel g (event_labels g l t End) a.tid r
        keeps (inl f) = inl (slot_other g l t End a.tid away ∙ f)
        keeps (inr f) = inr (slot_other g l t End a.tid away ∙ f.0, (let m = f.1 in omega arith))

    before : (r : ℕ) (a : Attachment) → (slot_at (set slots s (ended_slot (l.epoch s) is_last clock (slot_at slots s))) r).owner ≡ Some a → (slot_at slots r).owner ≡ Some a
    before = at_each_set (λ r x. (a : Attachment) → x.owner ≡ Some a → (slot_at slots r).owner ≡ Some a) slots s (ended_slot (l.epoch s) is_last clock (slot_at slots s)) no_slot within (λ a o. absurd (cc)) (λ r d a o. o)

-- an era begins
pub fresh_slots_are : (g n era : ℕ) → AreSlots g n (new_era era) (up_from 0 n) (replicate n (fresh_slot n))
fresh_slots_are g n era =
    record {
      all_slots = length-replicate n (fresh_slot n);
      queued = λ s. elim (cases_lt s n) [ inl m ↦ rw (inside s m) ((times-up_from s 0 n).1 (omega arith) (omega arith)) | inr m ↦ rw (outside s m) ((times-up_from s 0 n).2 (omega arith)) ];
      holds = λ t s e. absurd (cc);
      owned = λ s a o. absurd (unowned s a o);
      one_slot = λ r s a c o p e. absurd (unowned r a o);
      free = λ s f. (refl, elim (cases_lt s n) [ inl m ↦ rw (inside s m) refl | inr m ↦ rw (outside s m) refl ]);
    }
  where
    inside : (s : ℕ) → s < n → get_or (replicate n (fresh_slot n)) s no_slot ≡ fresh_slot n
    inside s m = get_or-replicate n s (fresh_slot n) no_slot m

    outside : (s : ℕ) → n ≤ s → get_or (replicate n (fresh_slot n)) s no_slot ≡ no_slot
    outside s m = get_or-eq_default (replicate n (fresh_slot n)) no_slot {n = s} (rw length-replicate m)

    unowned : (s : ℕ) (a : Attachment) → (slot_at (replicate n (fresh_slot n)) s).owner ≡ Some a → ⊥
    unowned s a o = elim (cases_lt s n) [ inl m ↦ let z = rw (inside s m) at o in cc | inr m ↦ let z = rw (outside s m) at o in cc ]
