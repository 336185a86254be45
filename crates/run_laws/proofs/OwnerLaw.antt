-- A label tells its thread.
use Rattle.std.proofs.Common.{◌≡◌, ℕ, zero, suc, ◌+◌, ◌<◌, ◌≤◌, ◌⊎◌, true, false, Some, if◌then◌else◌, refl, sym, ap, subst, inl, inr, ◌∙◌, arith}
use Rattle.std.proofs.lemmas.Bool.{cases_eq, cases_Bool}
use Rattle.run_record.specs.declared.event.Event.{Event}
use Rattle.run_record.specs.declared.entry.DeskNote.TheVariants.{Nothing, Attach, Leave}
use Rattle.run_laws.specs.Moments.{Item, Does, Notes, NewEra, Past}
use Rattle.run_laws.specs.Labels.{Labels, can_attach, attach_labels, next_labels, labels}
use Rattle.run_laws.proofs.SlotSteps.{slot_kept, attach_slot_other, attach_slot_here, attach_epoch_here, attach_epoch_grows}
use Rattle.run_laws.proofs.SlotInvariant.{era_mono}
use Rattle.run_laws.proofs.SlotLaw.{one_owner_at, same_slot_epochs}

-- a thread that holds slot s after an item held it before, or took it there in a new epoch
slot_from : (g : ℕ) (l : Labels) (it : Item) (u s : ℕ) → (next_labels g l it).slot_of u ≡ Some s → (l.slot_of u ≡ Some s) ⊎ ((next_labels g l it).epoch s ≡ l.epoch s + 1)
slot_from g l (Does t w) u s e = inl (slot_kept g l t w u s e)
slot_from g l (Notes t (Attach r)) u s e = elim (cases_Bool (can_attach l t r.sid)) [
  | inl c ↦ rw c (took (cases_eq u t) (rw c at e))
  | inr c ↦ rw c (inl (rw c at e))
]
  where
    took : ((u ≡ t) ⊎ (u ≡ t → ⊥)) → (attach_labels l t r.sid).slot_of u ≡ Some s → (l.slot_of u ≡ Some s) ⊎ ((attach_labels l t r.sid).epoch s ≡ l.epoch s + 1)
    took (inr d) f = inl (sym (attach_slot_other l t r.sid u d) ∙ f)
    took (inl q) f =
        let z : r.sid ≡ s = (let y = sym (attach_slot_here l t r.sid) ∙ subst (λ x. (attach_labels l t r.sid).slot_of x ≡ Some s) q f in cc) in
        inr (subst (λ x. (attach_labels l t r.sid).epoch x ≡ l.epoch x + 1) z (attach_epoch_here l t r.sid))
slot_from g l NewEra u s e = absurd (cc)
slot_from g l (Notes z Nothing) u s e = inl e
slot_from g l (Notes z (Leave b)) u s e = inl e
slot_from g l Past u s e = inl e

-- within an era epochs never fall
epoch_grows : (g : ℕ) (l : Labels) (it : Item) (s : ℕ) → l.era ≡ (next_labels g l it).era → l.epoch s ≤ (next_labels g l it).epoch s
epoch_grows g l (Does t w) s e = omega arith
epoch_grows g l (Notes t (Attach r)) s e = elim (can_attach l t r.sid) as (λ b. l.epoch s ≤ (if b then attach_labels l t r.sid else l).epoch s) [ true ↦ attach_epoch_grows l t r.sid s | false ↦ omega arith ]
epoch_grows g l NewEra s e = absurd (omega arith)
epoch_grows g l (Notes z Nothing) s e = omega arith
epoch_grows g l (Notes z (Leave b)) s e = omega arith
epoch_grows g l Past s e = omega arith

labels-next : (g : ℕ) (h : ℕ → Item) (n : ℕ) → labels g h (suc n) ≡ next_labels g (labels g h n) (h n)
unfolding labels
labels-next g h n = refl

-- After an event under slot s, each other thread that holds s in the same era holds it in a later epoch.
pub later_owner :
    (g : ℕ) (h : ℕ → Item) (i j t u s : ℕ) (v : Event) →
    i ≤ j → h i ≡ Does t v → (labels g h i).slot_of t ≡ Some s → (labels g h j).slot_of u ≡ Some s → (labels g h i).era ≡ (labels g h j).era → (t ≡ u → ⊥) →
    (labels g h i).epoch s < (labels g h j).epoch s
later_owner g h i zero t u s v l e p q r d = let z : i ≡ 0 = omega arith in absurd (d (one_owner_at g h 0 t u s (subst (λ x. (labels g h x).slot_of t ≡ Some s) z p) q))
later_owner g h i (suc n) t u s v l e p q r d =
    elim (cases_eq i (suc n)) [
      | inl z ↦ absurd (d (one_owner_at g h (suc n) t u s (subst (λ x. (labels g h x).slot_of t ≡ Some s) z p) q))
      | inr c ↦
          let early : i ≤ n = omega arith in
          let a = era_mono g h i n early in
          let b = era_mono g h n (suc n) (omega arith) in
          let same : (labels g h i).era ≡ (labels g h n).era = omega arith in
          elim (slot_from g (labels g h n) (h n) u s (ap (λ (x : Labels). x.slot_of u) (sym (labels-next g h n)) ∙ q)) [
            | inl f ↦
                let k = later_owner g h i n t u s v early e p f same d in
                let m : (labels g h n).epoch s ≤ (labels g h (suc n)).epoch s = subst (λ (x : Labels). (labels g h n).epoch s ≤ x.epoch s) (sym (labels-next g h n)) (epoch_grows g (labels g h n) (h n) s (sym same ∙ (r ∙ ap (λ (x : Labels). x.era) (labels-next g h n)))) in
                omega arith
            | inr f ↦
                let k : (labels g h i).epoch s ≤ (labels g h n).epoch s = upto n early same in
                let m : (labels g h (suc n)).epoch s ≡ (labels g h n).epoch s + 1 = ap (λ (x : Labels). x.epoch s) (labels-next g h n) ∙ f in
                omega arith
          ]
    ]
  where
    upto : (n : ℕ) → i ≤ n → (labels g h i).era ≡ (labels g h n).era → (labels g h i).epoch s ≤ (labels g h n).epoch s
    upto n l same = elim (cases_eq i n) [
      | inl z ↦ subst (λ x. (labels g h i).epoch s ≤ (labels g h x).epoch s) z (omega arith)
      | inr c ↦ same_slot_epochs g h i n t s v (omega arith) e p same
    ]
