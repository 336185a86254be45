-- Each epoch is at most the greatest.
use Rattle.std.proofs.Common.{◌≡◌, ℕ, zero, suc, ◌<◌, ◌≤◌, ◌⊎◌, Bool, true, false, nat_lt, Some, is_none, refl, sym, ap, subst, inl, inr, ◌∙◌, arith}
use Rattle.std.proofs.lemmas.Bool.{cases_eq, cases_Bool, and_parts, ltb-true}
use Rattle.run_record.specs.declared.event.Event.{Event}
use Rattle.run_record.specs.declared.event.Event.TheVariants.{Create, Release}
use Rattle.run_record.specs.declared.entry.DeskNote.TheVariants.{Nothing, Attach, Leave}
use Rattle.run_laws.specs.Moments.{Item, Does, Notes, NewEra, Past}
use Rattle.run_laws.specs.Labels.{Labels, holds, is_end, raises, raised, can_attach, attach_labels, next_labels, labels, event_labels}
use Rattle.run_laws.proofs.SlotSteps.{holds_cases, attach_epoch_here, attach_epoch_other, attach_free, free_cases, raised_other, is_end-true, holds-some}
use Rattle.run_laws.proofs.SlotLaw.{not_free_at}

-- and a free slot has room for one more epoch
pub record Fits (g : ℕ) (l : Labels) : Type 0 where
  pub most : (s : ℕ) → l.epoch s ≤ g
  pub room : (s : ℕ) → l.free s ≡ true → l.epoch s < g

raises_le : (w : Event) → raises w ≤ 1
raises_le (Create c) = omega arith
raises_le (Release a p r) = omega arith
raises_le _ = omega arith

raised_cases : (g : ℕ) (l : Labels) (t : ℕ) (w : Event) (s : ℕ) → (raised g l t w s ≡ 0) ⊎ ((raised g l t w s ≤ 1) × (l.epoch s < g) × (l.slot_of t ≡ Some s))
raised_cases g l t w s =
    elim (holds_cases (l.slot_of t) s) [
      | inr e ↦ inl (raised_other g l t w s e.0)
      | inl e ↦ go (nat_lt (l.epoch s) g) refl e.1 e.0
    ]
  where
    go : (b : Bool) → nat_lt (l.epoch s) g ≡ b → holds (l.slot_of t) s ≡ true → l.slot_of t ≡ Some s → (raised g l t w s ≡ 0) ⊎ ((raised g l t w s ≤ 1) × (l.epoch s < g) × (l.slot_of t ≡ Some s))
    go true e f q = inr (rw (f, e) (raises_le w), ltb-true (l.epoch s) g e, q)
    go false e f q = inl (rw (f, e) refl)

fits_does : (g : ℕ) (l : Labels) (t : ℕ) (w : Event) → ((s : ℕ) → l.slot_of t ≡ Some s → l.free s ≡ false) → Fits g l → Fits g (event_labels g l t w)
fits_does g l t w owned f =
    record {
      most = λ s. elim (raised_cases g l t w s) [ inl e ↦ let m = f.most s in omega arith | inr e ↦ let m = e.0 in let r = e.1 in omega arith ];
      room = λ s e. elim (free_cases g l t w s e) [ inl a ↦ free s a.0 | inr a ↦ ended s a.0 (cases_Bool (nat_lt (l.epoch s) g)) a.1 e ];
    }
  where
    free : (s : ℕ) → l.free s ≡ true → (event_labels g l t w).epoch s < g
    free s a =
        elim (raised_cases g l t w s) [
          | inl e ↦ let m = f.room s a in omega arith
          | inr e ↦ absurd (let z = sym (owned s e.2) ∙ a in cc)
        ]

    ended : (s : ℕ) → is_end w ≡ true → ((nat_lt (l.epoch s) g ≡ true) ⊎ (nat_lt (l.epoch s) g ≡ false)) → l.slot_of t ≡ Some s → (event_labels g l t w).free s ≡ true → (event_labels g l t w).epoch s < g
    ended s a (inl b) q e =
        let z : raises w ≡ 0 = ap raises (is_end-true w a) in
        let r : raised g l t w s ≡ 0 = rw (holds-some (l.slot_of t) s q, b, z) refl in
        let m = ltb-true (l.epoch s) g b in
        omega arith
    ended s a (inr b) q e = absurd (let z = rw (holds-some (l.slot_of t) s q, a, b) at e in cc)

fits_attach : (g : ℕ) (l : Labels) (t r : ℕ) → l.free r ≡ true → Fits g l → Fits g (attach_labels l t r)
fits_attach g l t r free f =
    record {
      most = λ s. elim (cases_eq s r) [
        | inl q ↦ subst (λ x. (attach_labels l t r).epoch x ≤ g) (sym q) (let e = attach_epoch_here l t r in let m = f.room r free in omega arith)
        | inr d ↦ let e = attach_epoch_other l t r s d in let m = f.most s in omega arith
      ];
      room = λ s e. let a = attach_free l t r s e in let e' = attach_epoch_other l t r s a.0 in let m = f.room s a.1 in omega arith;
    }

fits_next : (g : ℕ) (l : Labels) (it : Item) → 1 ≤ g → ((t s : ℕ) → l.slot_of t ≡ Some s → l.free s ≡ false) → Fits g l → Fits g (next_labels g l it)
fits_next g l (Does t w) p owned f = fits_does g l t w (owned t) f
fits_next g l (Notes t (Attach r)) p owned f =
    elim (cases_Bool (can_attach l t r.sid)) [
      | inl c ↦ rw c (fits_attach g l t r.sid (and_parts (is_none (l.slot_of t)) (l.free r.sid) c).1 f)
      | inr c ↦ rw c f
    ]
fits_next g l NewEra p owned f = record { most = λ s. omega arith; room = λ s e. omega arith }
fits_next g l (Notes z Nothing) p owned f = f
fits_next g l (Notes z (Leave b)) p owned f = f
fits_next g l Past p owned f = f

pub labels_fit : (g : ℕ) (h : ℕ → Item) (n : ℕ) → 1 ≤ g → Fits g (labels g h n)
unfolding labels
labels_fit g h zero p = record { most = λ s. omega arith; room = λ s e. omega arith }
labels_fit g h (suc n) p = fits_next g (labels g h n) (h n) p (not_free_at g h n) (labels_fit g h n p)
