-- A thread's trace has a label at most once.
use Rattle.std.proofs.Common.{◌≡◌, ℕ, zero, suc, ◌+◌, ◌≤◌, ◌==◌, ◌&&◌, ◌⊎◌, if◌then◌else◌, Bool, true, false, cond, Option, Some, None, List, [], ◌∷◌, refl, sym, ap, subst, inl, inr, ◌∙◌, arith, eqb-true, eq-eqb, ne_eqb}
use Rattle.std.specs.Prelude.{count_by}
use Rattle.std.proofs.lemmas.Bool.{cases_eq, cases_lt, and_parts}
use Rattle.std.proofs.lemmas.List.Sums.{sum_by-append}
use Rattle.run_record.specs.declared.event.Event.{Event}
use Rattle.run_record.specs.declared.event.Event.TheVariants.{Create, Release, Access, Enter, Leave, Lock, Unlock}
use Rattle.run_record.specs.declared.entry.DeskNote.TheVariants as notes
use Rattle.run_record.specs.declared.entry.Label.{Label}
use Rattle.run_laws.specs.Moments.{Item, Does, Notes, NewEra, Past, Moment, items}
use Rattle.run_laws.specs.Labels.{Labels, raises, can_attach, attach_labels, next_labels, labels, label_of}
use Rattle.run_laws.specs.Window.{TraceEvent, Labelled, is_label, traced_by, trace_before}
use Rattle.run_laws.proofs.SlotSteps.{attach_epoch_grows}
use Rattle.run_laws.proofs.SlotInvariant.{labels-next, era_next}
use Rattle.report_laws.proofs.TakenLabels.{Takes, same_label, raised_takes}
use Rattle.report_laws.proofs.StandingLaw.{traced_own}

-- within an era epochs never fall
epoch_grows : (g : ℕ) (l : Labels) (it : Item) (s : ℕ) → l.era ≡ (next_labels g l it).era → l.epoch s ≤ (next_labels g l it).epoch s
epoch_grows g l (Does t w) s e = omega arith
epoch_grows g l (Notes t (notes.Attach r)) s e = elim (can_attach l t r.sid) as (λ b. l.epoch s ≤ (if b then attach_labels l t r.sid else l).epoch s) [ true ↦ attach_epoch_grows l t r.sid s | false ↦ omega arith ]
epoch_grows g l NewEra s e = absurd (omega arith)
epoch_grows g l (Notes z notes.Nothing) s e = omega arith
epoch_grows g l (Notes z (notes.Leave b)) s e = omega arith
epoch_grows g l Past s e = omega arith

epochs_grow : (g : ℕ) (h : ℕ → Item) (n s : ℕ) → (labels g h n).era ≡ (labels g h (suc n)).era → (labels g h n).epoch s ≤ (labels g h (suc n)).epoch s
epochs_grow g h n s e = subst (λ (x : Labels). (labels g h n).epoch s ≤ x.epoch s) (sym (labels-next g h n)) (epoch_grows g (labels g h n) (h n) s (e ∙ ap (λ (x : Labels). x.era) (labels-next g h n)))

pub label_is : (l m : Label) → is_label l (Labelled m) ≡ true → m ≡ l
label_is l m e =
    let p = and_parts ((m.sid == l.sid) && (m.epoch == l.epoch)) (m.era == l.era) e in
    let q = and_parts (m.sid == l.sid) (m.epoch == l.epoch) p.0 in
    same_label m l (eqb-true m.sid l.sid q.0) (eqb-true m.epoch l.epoch q.1) (eqb-true m.era l.era p.1)

one_label : (l m : Label) → (count_by (is_label l) (Labelled m ∷ []) ≡ 0) ⊎ ((count_by (is_label l) (Labelled m ∷ []) ≡ 1) × (m ≡ l))
one_label l m = go (is_label l (Labelled m)) refl
  where
    go : (b : Bool) → is_label l (Labelled m) ≡ b → (0 + cond b 1 0 ≡ 0) ⊎ ((0 + cond b 1 0 ≡ 1) × (m ≡ l))
    go true e = inr (refl, label_is l m e)
    go false e = inl refl

-- an event takes a label at most once, and then it is the one that it raises to
own_label : (l : Label) (e : Event) (o : Option Label) → (count_by (is_label l) (traced_own e o) ≡ 0) ⊎ ((count_by (is_label l) (traced_own e o) ≡ 1) × (raises e ≡ 1) × (o ≡ Some l))
own_label l (Create c) None = inl refl
own_label l (Create c) (Some m) = elim (one_label l m) [ inl z ↦ inl z | inr z ↦ inr (z.0, refl, ap Some z.1) ]
own_label l (Release a p r) None = inl refl
own_label l (Release a p r) (Some m) = elim (one_label l m) [ inl z ↦ inl z | inr z ↦ inr (z.0, refl, ap Some z.1) ]
own_label l (Access p a z r m) o = inl refl
own_label l (Enter f) o = inl refl
own_label l Leave o = inl refl
own_label l (Lock a r) o = inl refl
own_label l (Unlock a r) o = inl refl
own_label l _ o = inl refl

module _ (g : ℕ) (h : List Moment) (u : ℕ) (l : Label) (attached : (n : ℕ) (m : Label) → items h n ≡ Notes u (notes.Attach m) → Takes g (items h) n u m) where
  abbrev Counted : ℕ → List TraceEvent → Type 0
  Counted n es = (count_by (is_label l) es ≡ 0) ⊎ ((count_by (is_label l) es ≡ 1) × Takes g (items h) n u l)

  counted : (n : ℕ) (it : Item) → items h n ≡ it → Counted n (traced_by g (items h) n u it)
  counted n (Does v e) is = elim (cases_eq v u) [
    | inr d ↦ rw (ne_eqb v u d) (inl refl)
    | inl q ↦
        let made : items h n ≡ Does u e = is ∙ ap (λ x. Does x e) q in
        rw (eq-eqb v u q) (elim (own_label l e (label_of g (items h) (suc n) u)) [
          | inl z ↦ inl z
          | inr z ↦ inr (z.0, raised_takes g (items h) n u e made l z.1 z.2)
        ])
  ]
  counted n (Notes v (notes.Attach m)) is = elim (cases_eq v u) [
    | inr d ↦ rw (ne_eqb v u d) (inl refl)
    | inl q ↦
        rw (eq-eqb v u q) (elim (one_label l m) [
          | inl z ↦ inl z
          | inr z ↦ inr (z.0, subst (Takes g (items h) n u) z.1 (attached n m (is ∙ ap (λ x. Notes x (notes.Attach m)) q)))
        ])
  ]
  counted n (Notes v (notes.Leave m)) is = inl refl
  counted n (Notes v notes.Nothing) is = inl refl
  counted n NewEra is = inl refl
  counted n Past is = inl refl

  abbrev count : ℕ → ℕ
  count n = count_by (is_label l) (trace_before g (items h) n u)

  -- the label comes at most once, and from then on its slot has its epoch in its era
  record Once (n : ℕ) : Type 0 where
    few : count n ≤ 1
    era : 1 ≤ count n → l.era ≤ (labels g (items h) n).era
    epoch : 1 ≤ count n → (labels g (items h) n).era ≡ l.era → l.epoch ≤ (labels g (items h) n).epoch l.sid

  next : (n : ℕ) → Counted n (traced_by g (items h) n u (items h n)) → Once n → Once (suc n)
  next n c o = go c (sum_by-append (λ (x : TraceEvent). cond (is_label l x) 1 0) (trace_before g (items h) n u) (traced_by g (items h) n u (items h n)))
    where
      go : Counted n (traced_by g (items h) n u (items h n)) → count (suc n) ≡ count n + count_by (is_label l) (traced_by g (items h) n u (items h n)) → Once (suc n)
      go (inl z) sum =
          let same : count (suc n) ≡ count n = omega arith in
          let f = o.few in
          let grows = era_next g (items h) n in
          record {
            few = omega arith;
            era = λ some. let r = o.era (omega arith) in omega arith;
            epoch = λ some now.
                let r = o.era (omega arith) in
                let was : (labels g (items h) n).era ≡ l.era = omega arith in
                let k = o.epoch (omega arith) was in
                let m = epochs_grow g (items h) n l.sid (was ∙ sym now) in
                omega arith;
          }
      go (inr (one, t)) sum =
          let eb = t.era_before in
          let ea = t.era_after in
          let pb = t.epoch_before in
          let pa = t.epoch_after in
          let none : count n ≡ 0 = elim (cases_lt (count n) 1) [
            | inl s ↦ omega arith
            | inr s ↦ absurd (let k = o.epoch s eb in omega arith)
          ] in
          record { few = omega arith; era = λ some. omega arith; epoch = λ some now. omega arith }

  once_at : (n : ℕ) → Once n
  once_at zero = record { few = omega arith; era = λ some. absurd (let z : 1 ≤ 0 = some in omega arith); epoch = λ some. absurd (let z : 1 ≤ 0 = some in omega arith) }
  once_at (suc n) = next n (counted n (items h n) refl) (once_at n)

  pub once : (n : ℕ) → count_by (is_label l) (trace_before g (items h) n u) ≤ 1
  once n = (once_at n).few
