-- How the journals of a desk go with its history.
use Rattle.std.proofs.Common.{◌≡◌, ◌<◌, ◌≤◌, ◌+◌, ℕ, zero, suc, leb, if◌then◌else◌, Option, Some, None, List, [], ◌∷◌, ◌++◌, length, set, replicate, refl, sym, ap, subst, ◌∙◌, inl, inr, arith}
use Rattle.std.proofs.Math.ListN.{get_or-eq_default, length-replicate}
use Rattle.std.proofs.lemmas.Bool.{cases_eq, cases_lt, le-leb, lt-leb}
use Rattle.std.proofs.lemmas.List.{get_or-replicate}
use Rattle.run_record.specs.declared.event.Event.{Event}
use Rattle.run_laws.specs.Moments.{Item, Does}
use Rattle.run_laws.specs.Labels.{labels}
use Rattle.run_laws.proofs.SlotInvariant.{era_mono}
use Rattle.run_laws.proofs.SlotLaw.{same_slot_epochs}
use Rattle.slot_desk.specs.declared.slot.Attachment.{Attachment}
use Rattle.slot_desk.specs.Desks.{SlotContents, no_slot, fresh_slot, later_of, owner_at}
use Rattle.slot_desk.specs.Steps.{attachment, attached_slot}
use Rattle.slot_desk.specs.History.{AreSlots, AreJournals, slot_at}
use Rattle.slot_desk.proofs.DeskLists.{at_each_set}

later_of-later_of : (a b c : Option ℕ) → later_of a (later_of b c) ≡ later_of (later_of a b) c
later_of-later_of a b None = refl
later_of-later_of a b (Some x) = refl

later_of-none : (a : Option ℕ) → later_of None a ≡ a
later_of-none None = refl
later_of-none (Some x) = refl

owner_at-push : (xs : List Attachment) (a : Attachment) (epoch : ℕ) → owner_at (xs ++ a ∷ []) epoch ≡ later_of (owner_at xs epoch) (if leb a.epoch epoch then Some a.tid else None)
owner_at-push [] a epoch = sym (later_of-none (if leb a.epoch epoch then Some a.tid else None))
owner_at-push (x ∷ xs) a epoch = rw (owner_at-push xs a epoch) (later_of-later_of (if leb x.epoch epoch then Some x.tid else None) (owner_at xs epoch) (if leb a.epoch epoch then Some a.tid else None))

-- an attachment is the owner from its first epoch on, and before it nothing changes
owner_at-push_from : (xs : List Attachment) (a : Attachment) (epoch : ℕ) → a.epoch ≤ epoch → owner_at (xs ++ a ∷ []) epoch ≡ Some a.tid
owner_at-push_from xs a epoch l = owner_at-push xs a epoch ∙ rw (le-leb a.epoch epoch l) refl

owner_at-push_before : (xs : List Attachment) (a : Attachment) (epoch : ℕ) → epoch < a.epoch → owner_at (xs ++ a ∷ []) epoch ≡ owner_at xs epoch
owner_at-push_before xs a epoch l = owner_at-push xs a epoch ∙ rw (lt-leb a.epoch epoch l) refl

-- where the item is of the same era and no attachment
pub journals_same :
    (g n : ℕ) (h : ℕ → Item) (i : ℕ) (queue : List ℕ) (slots later : List SlotContents) → AreSlots g n (labels g h i) queue slots → AreJournals g h i slots →
    ((s : ℕ) → (slot_at later s).journal ≡ (slot_at slots s).journal) → ((s : ℕ) (a : Attachment) → (slot_at later s).owner ≡ Some a → (slot_at slots s).owner ≡ Some a) → (labels g h (suc i)).era ≡ (labels g h i).era →
    AreJournals g h (suc i) later
journals_same g n h i queue slots later b k same owner era =
    record {
      last = λ s a o. let p = k.last s a (owner s a o) in (p.0, same s ∙ p.1);
      named = λ j t s w l e u r. rw (same s) (elim (cases_eq j i) [
        | inr d ↦ k.named j t s w (omega arith) e u (r ∙ era)
        | inl q ↦ subst (λ x. owner_at (slot_at slots s).journal ((labels g h x).epoch s) ≡ Some t) (sym q) (now t s (subst (λ x. (labels g h x).slot_of t ≡ Some s) q u))
      ]);
    }
  where
    now : (t s : ℕ) → (labels g h i).slot_of t ≡ Some s → owner_at (slot_at slots s).journal ((labels g h i).epoch s) ≡ Some t
    now t s u =
        let p = b.holds t s u in
        let o = b.owned s p.0 p.1 in
        let m = k.last s p.0 p.1 in
        rw m.1 (owner_at-push_from m.0 p.0 ((labels g h i).epoch s) o.1 ∙ ap Some p.2)

-- an attachment
pub journals_attach :
    (g n : ℕ) (h : ℕ → Item) (i : ℕ) (slots : List SlotContents) (t s : ℕ) → AreJournals g h i slots → s < length slots → (labels g h i).epoch s ≡ (slot_at slots s).last → ((u : ℕ) (w : Event) → h i ≡ Does u w → ⊥) → (labels g h (suc i)).era ≡ (labels g h i).era →
    AreJournals g h (suc i) (set slots s (attached_slot t (slot_at slots s)))
journals_attach g n h i slots t s k within epoch no_event era =
    record {
      last = at_each_set (λ r (x : SlotContents). (a : Attachment) → x.owner ≡ Some a → (earlier : List Attachment) × (x.journal ≡ earlier ++ a ∷ [])) slots s (attached_slot t (slot_at slots s)) no_slot within
          (λ a o. let z : attachment t (slot_at slots s) ≡ a = cc in ((slot_at slots s).journal, ap (λ (x : Attachment). (slot_at slots s).journal ++ x ∷ []) z))
          (λ r d. k.last r);
      named = λ j u r w l e f q. let before = past j u w l e in at_each_set (λ r (x : SlotContents). (labels g h j).slot_of u ≡ Some r → owner_at x.journal ((labels g h j).epoch r) ≡ Some u) slots s (attached_slot t (slot_at slots s)) no_slot within
          (λ f. (let m = same_slot_epochs g h j i u s w before e f (q ∙ era) in owner_at-push_before (slot_at slots s).journal (attachment t (slot_at slots s)) ((labels g h j).epoch s) (omega arith)) ∙ k.named j u s w before e f (q ∙ era))
          (λ r d f. k.named j u r w before e f (q ∙ era)) r f;
    }
  where
    past : (j u : ℕ) (w : Event) → j < suc i → h j ≡ Does u w → j < i
    past j u w l e = elim (cases_eq j i) [ inl q ↦ absurd (no_event u w (subst (λ x. h x ≡ Does u w) q e)) | inr d ↦ omega arith ]

-- an era begins
pub journals_fresh : (g n : ℕ) (h : ℕ → Item) (i : ℕ) → (labels g h (suc i)).era ≡ (labels g h i).era + 1 → AreJournals g h (suc i) (replicate n (fresh_slot n))
journals_fresh g n h i era =
    record {
      last = λ s a o. absurd (unowned s a o);
      named = λ j t s w l e u r. absurd (let m = era_mono g h j i (omega arith) in omega arith);
    }
  where
    unowned : (s : ℕ) (a : Attachment) → (slot_at (replicate n (fresh_slot n)) s).owner ≡ Some a → ⊥
    unowned s a o = elim (cases_lt s n) [ inl m ↦ let z = rw (get_or-replicate n s (fresh_slot n) no_slot m) at o in cc | inr m ↦ let z = rw (get_or-eq_default (replicate n (fresh_slot n)) no_slot {n = s} (long m)) at o in cc ]
      where
        long : n ≤ s → length (replicate n (fresh_slot n)) ≤ s
        long m = rw length-replicate m

pub journals_first : (g n : ℕ) (h : ℕ → Item) → AreJournals g h zero (replicate n (fresh_slot n))
journals_first g n h =
    record {
      last = λ s a o. absurd (elim (cases_lt s n) [ inl m ↦ let z = rw (get_or-replicate n s (fresh_slot n) no_slot m) at o in cc | inr m ↦ let z = rw (get_or-eq_default (replicate n (fresh_slot n)) no_slot {n = s} (rw length-replicate m)) at o in cc ]);
      named = λ j t s w l. absurd (omega arith);
    }
