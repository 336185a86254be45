-- What a thread's own events and attachments do to its label.
use Rattle.std.proofs.Common.{◌≡◌, ℕ, suc, ◌+◌, ◌<◌, true, Option, Some, None, refl, sym, ap, subst, inr, ◌∙◌, arith}
use Rattle.std.specs.Prelude.{option_map}
use Rattle.run_record.specs.declared.event.Event.{Event}
use Rattle.run_record.specs.declared.entry.DeskNote.TheVariants.{Attach}
use Rattle.run_record.specs.declared.entry.Label.{Label}
use Rattle.run_laws.specs.Moments.{Item, Does, Notes}
use Rattle.run_laws.specs.Labels.{Labels, raises, raised, can_attach, attach_labels, event_labels, next_labels, labels, label_of}
use Rattle.run_laws.proofs.SlotSteps.{raised_stays, slot_kept, attach_slot_here, attach_epoch_here}
use Rattle.run_laws.proofs.SlotInvariant.{labels-next}
use Rattle.run_laws.proofs.LabelLaw.{label_parts}

-- a thread that holds a slot has its label
pub label_from : (g : ℕ) (h : ℕ → Item) (n u s : ℕ) → (labels g h n).slot_of u ≡ Some s → label_of g h n u ≡ Some (record { sid = s; epoch = (labels g h n).epoch s; era = (labels g h n).era })
label_from g h n u s e = ap (option_map (λ (s : ℕ). record { sid = s; epoch = (labels g h n).epoch s; era = (labels g h n).era })) e

pub same_label : (l m : Label) → l.sid ≡ m.sid → l.epoch ≡ m.epoch → l.era ≡ m.era → l ≡ m
same_label l m a b c = let e : record { sid = l.sid; epoch = l.epoch; era = l.era } ≡ record { sid = m.sid; epoch = m.epoch; era = m.era } = rw (a, b, c) refl in e

-- After the item at position n thread u has the label, which nobody had before.
pub record Takes (g : ℕ) (h : ℕ → Item) (n u : ℕ) (l : Label) : Type 0 where
  pub era_before : (labels g h n).era ≡ l.era
  pub era_after : (labels g h (suc n)).era ≡ l.era
  pub epoch_before : (labels g h n).epoch l.sid < l.epoch
  pub epoch_after : (labels g h (suc n)).epoch l.sid ≡ l.epoch
  pub has : label_of g h (suc n) u ≡ Some l

module _ (g : ℕ) (h : ℕ → Item) (n u : ℕ) (e : Event) (made : h n ≡ Does u e) where
  after : labels g h (suc n) ≡ event_labels g (labels g h n) u e
  after = labels-next g h n ∙ ap (next_labels g (labels g h n)) made

  held_before : (s : ℕ) → (labels g h (suc n)).slot_of u ≡ Some s → (labels g h n).slot_of u ≡ Some s
  held_before s e' = slot_kept g (labels g h n) u e u s (ap (λ (l : Labels). l.slot_of u) (sym after) ∙ e')

  pub raised_takes : (l : Label) → raises e ≡ 1 → label_of g h (suc n) u ≡ Some l → Takes g h n u l
  raised_takes l one is =
      let p = label_parts g h (suc n) u l is in
      let r : raised g (labels g h n) u e l.sid ≡ 1 = raised_stays g (labels g h n) u e l.sid (inr one) (ap (λ (l : Labels). l.slot_of u) (sym after) ∙ p.0) in
      let up : (labels g h (suc n)).epoch l.sid ≡ (labels g h n).epoch l.sid + raised g (labels g h n) u e l.sid = ap (λ (x : Labels). x.epoch l.sid) after in
      let era : (labels g h (suc n)).era ≡ (labels g h n).era = ap (λ (x : Labels). x.era) after in
      let p1 = p.1 in
      record { era_before = sym era ∙ p.2; era_after = p.2; epoch_before = omega arith; epoch_after = p.1; has = is }

  pub label_kept : (l : Label) → raises e ≡ 0 → label_of g h (suc n) u ≡ Some l → label_of g h n u ≡ Some l
  label_kept l none is =
      let p = label_parts g h (suc n) u l is in
      let up : (labels g h (suc n)).epoch l.sid ≡ (labels g h n).epoch l.sid + raised g (labels g h n) u e l.sid = ap (λ (x : Labels). x.epoch l.sid) after in
      let r : raised g (labels g h n) u e l.sid ≡ 0 = not_raised l.sid in
      let era : (labels g h (suc n)).era ≡ (labels g h n).era = ap (λ (x : Labels). x.era) after in
      let p1 = p.1 in
      let same : (labels g h n).epoch l.sid ≡ l.epoch = omega arith in
      label_from g h n u l.sid (held_before l.sid p.0) ∙ ap Some (same_label (record { sid = l.sid; epoch = (labels g h n).epoch l.sid; era = (labels g h n).era }) l refl same (sym era ∙ p.2))
    where
      either : (b : Rattle.std.proofs.Common.Bool) → Rattle.std.proofs.Common.cond b (raises e) 0 ≡ 0
      either Rattle.std.proofs.Common.true = none
      either Rattle.std.proofs.Common.false = refl

      not_raised : (s : ℕ) → raised g (labels g h n) u e s ≡ 0
      not_raised s = either (Rattle.std.proofs.Common.◌&&◌ (Rattle.run_laws.specs.Labels.holds ((labels g h n).slot_of u) s) (Rattle.std.proofs.Common.nat_lt ((labels g h n).epoch s) g))

pub attached_takes : (g : ℕ) (h : ℕ → Item) (n u : ℕ) (l : Label) → h n ≡ Notes u (Attach l) → can_attach (labels g h n) u l.sid ≡ true → l.epoch ≡ (labels g h n).epoch l.sid + 1 → l.era ≡ (labels g h n).era → Takes g h n u l
attached_takes g h n u l note can epoch era =
    let after : labels g h (suc n) ≡ attach_labels (labels g h n) u l.sid = labels-next g h n ∙ ap (next_labels g (labels g h n)) note ∙ rw can refl in
    let slot : (labels g h (suc n)).slot_of u ≡ Some l.sid = ap (λ (x : Labels). x.slot_of u) after ∙ attach_slot_here (labels g h n) u l.sid in
    let up : (labels g h (suc n)).epoch l.sid ≡ (labels g h n).epoch l.sid + 1 = ap (λ (x : Labels). x.epoch l.sid) after ∙ attach_epoch_here (labels g h n) u l.sid in
    let now : (labels g h (suc n)).era ≡ (labels g h n).era = ap (λ (x : Labels). x.era) after in
    record {
      era_before = sym era;
      era_after = now ∙ sym era;
      epoch_before = omega arith;
      epoch_after = up ∙ sym epoch;
      has = label_from g h (suc n) u l.sid slot ∙ ap Some (same_label (record { sid = l.sid; epoch = (labels g h (suc n)).epoch l.sid; era = (labels g h (suc n)).era }) l refl (up ∙ sym epoch) (now ∙ sym era));
    }
