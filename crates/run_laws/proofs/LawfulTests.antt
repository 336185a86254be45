-- Tests that compute: whether a history that is written out is lawful.
use Rattle.std.proofs.Common.{◌≡◌, ℕ, zero, suc, ◌+◌, ◌-◌, ◌<◌, ◌==◌, ◌&&◌, ◌||◌, not, Bool, true, false, Option, Some, None, is_none, List, [], ◌∷◌, length, drop, refl, sym, ap, subst, ◌∙◌, arith, eqb-true, eq-eqb, get_or, inl, inr}
use Rattle.std.specs.Prelude.{option_map, position}
use Rattle.std.specs.List.{list_any, list_all}
use Rattle.std.proofs.lemmas.Bool.{cases_Bool, cases_lt, and_parts}
use Rattle.std.proofs.lemmas.List.{get_or-drop}
use Rattle.std.proofs.lemmas.List.Quantifiers.{position-Some}
use Rattle.run_record.specs.declared.event.Event.{Event}
use Rattle.run_record.specs.declared.entry.DeskNote.{DeskNote}
use Rattle.run_record.specs.declared.entry.DeskNote.TheVariants.{Nothing, Attach, Leave}
use Rattle.run_record.specs.declared.entry.Label.{Label}
use Rattle.run_record.specs.declared.limits.Limits.{Limits}
use Rattle.run_laws.specs.Numbers.{up_from}
use Rattle.run_laws.specs.Moments.{Item, Does, Notes, NewEra, Past, Moment, moment_at, items}
use Rattle.run_laws.specs.Labels.{labels, label_of, queue, raises}
use Rattle.run_laws.specs.DeskNotes.{IsNextEntry, IsRightAttach, Spends, AreNotes}
use Rattle.std.proofs.Math.ListN.{get_or-eq_default}
use Rattle.run_laws.proofs.SlotSteps.{is_none-true}
use Rattle.run_laws.proofs.ConflictLaw.{all_up}

-- notes
abbrev pub is_note_by : ℕ → Item → Bool
is_note_by t (Notes u note) = u == t
is_note_by t (Does u e) = false
is_note_by t NewEra = false
is_note_by t Past = false

-- where the thread's next entry after position n begins
abbrev pub next_note : List Moment → ℕ → ℕ → Option ℕ
next_note h n t = option_map (λ (i : ℕ). suc n + i) (position (λ (m : Moment). is_note_by t m.item) (drop (suc n) h))

abbrev pub same_label : Label → Label → Bool
same_label l m = (l.sid == m.sid) && (l.epoch == m.epoch) && (l.era == m.era)

abbrev pub is_front : List ℕ → ℕ → Bool
is_front [] s = false
is_front (r ∷ rs) s = r == s

abbrev pub attaches_rightly : Limits → (ℕ → Bool) → List Moment → ℕ → ℕ → Label → Bool
attaches_rightly limits needs h n t l =
    let k = labels limits.epochs (items h) n in
    is_none (k.slot_of t) && is_front (queue limits.epochs limits.slots (items h) n) l.sid && (l.epoch == k.epoch l.sid + 1) && (l.era == k.era)
    && elim (next_note h n t) [ Some m ↦ ((moment_at h m).round == (moment_at h n).round) && needs (moment_at h m).entry | None ↦ false ]

-- the thread's entry that begins at m leaves that label
abbrev pub is_leave : Item → ℕ → Label → Bool
is_leave (Notes u (Leave k)) t l = (u == t) && same_label k l
is_leave _ t l = false

-- the event at n spends thread t's slot, whose label was l
abbrev pub is_spending : Limits → List Moment → ℕ → ℕ → Event → Label → Bool
is_spending limits h n t e l = (raises e == 1) && elim (label_of limits.epochs (items h) n t) [ Some k ↦ same_label k l && (k.epoch == limits.epochs) | None ↦ false ]

abbrev pub leaves_next : List Moment → ℕ → ℕ → Label → Bool
leaves_next h n t l = elim (next_note h n t) [ Some m ↦ is_leave (moment_at h m).item t l && ((moment_at h m).round == (moment_at h n).round) | None ↦ false ]

abbrev pub spends_rightly : Limits → List Moment → ℕ → ℕ → Event → Bool
spends_rightly limits h n t e =
    not (raises e == 1) || elim (label_of limits.epochs (items h) n t) [ Some l ↦ not (l.epoch == limits.epochs) || leaves_next h n t l | None ↦ true ]

abbrev pub spent_at : Limits → List Moment → ℕ → ℕ → Label → ℕ → Item → Bool
spent_at limits h m t l n (Does u e) = (u == t) && is_spending limits h n t e l && elim (next_note h n t) [ Some k ↦ k == m | None ↦ false ] && ((moment_at h m).round == (moment_at h n).round)
spent_at limits h m t l n (Notes u note) = false
spent_at limits h m t l n NewEra = false
spent_at limits h m t l n Past = false

abbrev pub note_test : Limits → (ℕ → Bool) → List Moment → ℕ → Item → Bool
note_test limits needs h n (Does t e) = spends_rightly limits h n t e
note_test limits needs h n (Notes t (Attach l)) = attaches_rightly limits needs h n t l
note_test limits needs h n (Notes t (Leave l)) = list_any (λ (k : ℕ). spent_at limits h n t l k (items h k)) (up_from 0 n)
note_test limits needs h n (Notes t Nothing) = true
note_test limits needs h n NewEra = true
note_test limits needs h n Past = true

abbrev pub notes_test : Limits → (ℕ → Bool) → List Moment → Bool
notes_test limits needs h = list_all (λ (n : ℕ). note_test limits needs h n (items h n)) (up_from 0 (length h))

-- what these tests say
does_inj : (t u : ℕ) (v w : Event) → Does t v ≡ Does u w → (t ≡ u) × (v ≡ w)
does_inj t u v w e = (cc, cc)

notes_inj : (t u : ℕ) (v w : DeskNote) → Notes t v ≡ Notes u w → (t ≡ u) × (v ≡ w)
notes_inj t u v w e = (cc, cc)

is_note_by-true : (t : ℕ) (it : Item) → is_note_by t it ≡ true → (note : DeskNote) × (it ≡ Notes t note)
is_note_by-true t (Notes u note) e = (note, ap (λ v. Notes v note) (eqb-true u t e))
is_note_by-true t (Does u v) e = absurd (cc)
is_note_by-true t NewEra e = absurd (cc)
is_note_by-true t Past e = absurd (cc)

is_note_by-notes : (t : ℕ) (it : Item) (note : DeskNote) → it ≡ Notes t note → is_note_by t it ≡ true
is_note_by-notes t it note e = rw e (eq-eqb t t refl)

same_parts : {s r : ℕ} {e f : ℕ} {a b : ℕ} → s ≡ r → e ≡ f → a ≡ b → ◌≡◌ {A = Label} (record { sid = s; epoch = e; era = a }) (record { sid = r; epoch = f; era = b })
same_parts x y z = rw (x, y, z) refl

same_label-true : (l m : Label) → same_label l m ≡ true → l ≡ m
same_label-true l m e =
    let p = and_parts ((l.sid == m.sid) && (l.epoch == m.epoch)) (l.era == m.era) e in
    let q = and_parts (l.sid == m.sid) (l.epoch == m.epoch) p.0 in
    same_parts (eqb-true l.sid m.sid q.0) (eqb-true l.epoch m.epoch q.1) (eqb-true l.era m.era p.1)

is_front-true : (q : List ℕ) (s : ℕ) → is_front q s ≡ true → (rest : List ℕ) × (q ≡ s ∷ rest)
is_front-true [] s e = absurd (cc)
is_front-true (r ∷ rs) s e = (rs, ap (λ x. x ∷ rs) (eqb-true r s e))

past : Moment
past = record { entry = 0; round = 0; item = Past; checks = [] }

-- the next entry of a thread is found
record NextNote (h : List Moment) (n t m : ℕ) : Type 0 where
  later : n < m
  note : DeskNote
  begins : items h m ≡ Notes t note
  none : (k : ℕ) (other : DeskNote) → n < k → k < m → items h k ≡ Notes t other → ⊥

next_note-Some : (h : List Moment) (n t m : ℕ) → next_note h n t ≡ Some m → NextNote h n t m
unfolding past
next_note-Some h n t m e = go (position (λ (m : Moment). is_note_by t m.item) (drop (suc n) h)) refl e
  where
    go : (o : Option ℕ) → position (λ (m : Moment). is_note_by t m.item) (drop (suc n) h) ≡ o → option_map (λ (i : ℕ). suc n + i) o ≡ Some m → NextNote h n t m
    go None q f = absurd (cc)
    go (Some i) q f =
        let z : suc n + i ≡ m = cc in
        let p = position-Some (λ (m : Moment). is_note_by t m.item) (drop (suc n) h) i past q in
        let here = is_note_by-true t (get_or (drop (suc n) h) i past).item p.1 in
        record {
          later = omega arith;
          note = here.0;
          begins = ap (items h) (sym z) ∙ (ap (λ (m : Moment). m.item) (sym (get_or-drop (suc n) h i past)) ∙ here.1);
          none = λ k other l r f.
              let w : suc n + (k - suc n) ≡ k = omega arith in
              let y = p.2 (k - suc n) (omega arith) in
              let x : items h (suc n + (k - suc n)) ≡ Notes t other = ap (items h) w ∙ f in
              let v = ap (λ (m : Moment). is_note_by t m.item) (sym (get_or-drop (suc n) h (k - suc n) past)) in
              absurd (let u = sym (is_note_by-notes t (items h (suc n + (k - suc n))) other x) ∙ (v ∙ y) in cc);
        }

next_entry : (h : List Moment) (n t m : ℕ) (note : DeskNote) → NextNote h n t m → items h m ≡ Notes t note → (moment_at h m).round ≡ (moment_at h n).round → IsNextEntry h n t m note
next_entry h n t m note f b r = record { later = f.later; begins = b; next = f.none; same_round = r }

attaches-true : (limits : Limits) (needs : ℕ → Bool) (h : List Moment) (n t : ℕ) (l : Label) → attaches_rightly limits needs h n t l ≡ true → IsRightAttach limits needs h n t l
attaches-true limits needs h n t l e = go (next_note h n t) refl p4.1
  where
    p4 : ((is_none ((labels limits.epochs (items h) n).slot_of t) && is_front (queue limits.epochs limits.slots (items h) n) l.sid && (l.epoch == (labels limits.epochs (items h) n).epoch l.sid + 1) && (l.era == (labels limits.epochs (items h) n).era)) ≡ true) × (elim (next_note h n t) [ Some m ↦ ((moment_at h m).round == (moment_at h n).round) && needs (moment_at h m).entry | None ↦ false ] ≡ true)
    p4 = and_parts (is_none ((labels limits.epochs (items h) n).slot_of t) && is_front (queue limits.epochs limits.slots (items h) n) l.sid && (l.epoch == (labels limits.epochs (items h) n).epoch l.sid + 1) && (l.era == (labels limits.epochs (items h) n).era)) (elim (next_note h n t) [ Some m ↦ ((moment_at h m).round == (moment_at h n).round) && needs (moment_at h m).entry | None ↦ false ]) e

    go : (o : Option ℕ) → next_note h n t ≡ o → elim o [ Some m ↦ ((moment_at h m).round == (moment_at h n).round) && needs (moment_at h m).entry | None ↦ false ] ≡ true → IsRightAttach limits needs h n t l
    go None q f = absurd (cc)
    go (Some m) q f =
        let p3 = and_parts (is_none ((labels limits.epochs (items h) n).slot_of t) && is_front (queue limits.epochs limits.slots (items h) n) l.sid && (l.epoch == (labels limits.epochs (items h) n).epoch l.sid + 1)) (l.era == (labels limits.epochs (items h) n).era) p4.0 in
        let p2 = and_parts (is_none ((labels limits.epochs (items h) n).slot_of t) && is_front (queue limits.epochs limits.slots (items h) n) l.sid) (l.epoch == (labels limits.epochs (items h) n).epoch l.sid + 1) p3.0 in
        let p1 = and_parts (is_none ((labels limits.epochs (items h) n).slot_of t)) (is_front (queue limits.epochs limits.slots (items h) n) l.sid) p2.0 in
        let front = is_front-true (queue limits.epochs limits.slots (items h) n) l.sid p1.1 in
        let next = next_note-Some h n t m q in
        let r = and_parts ((moment_at h m).round == (moment_at h n).round) (needs (moment_at h m).entry) f in
        record {
          unlabelled = is_none-true ((labels limits.epochs (items h) n).slot_of t) p1.0;
          rest = front.0;
          front = front.1;
          new_epoch = eqb-true l.epoch ((labels limits.epochs (items h) n).epoch l.sid + 1) p2.1;
          present_era = eqb-true l.era (labels limits.epochs (items h) n).era p3.1;
          next = m;
          note = next.note;
          next_entry = next_entry h n t m next.note next next.begins (eqb-true (moment_at h m).round (moment_at h n).round r.0);
          needed = r.1;
        }

is_leave-true : (it : Item) (t : ℕ) (l : Label) → is_leave it t l ≡ true → it ≡ Notes t (Leave l)
is_leave-true (Notes u (Leave k)) t l e =
    let p = and_parts (u == t) (same_label k l) e in
    rw (eqb-true u t p.0, same_label-true k l p.1) refl
is_leave-true (Notes u Nothing) t l e = absurd (cc)
is_leave-true (Notes u (Attach k)) t l e = absurd (cc)
is_leave-true (Does u v) t l e = absurd (cc)
is_leave-true NewEra t l e = absurd (cc)
is_leave-true Past t l e = absurd (cc)

leaves_next-true : (h : List Moment) (n t : ℕ) (l : Label) → leaves_next h n t l ≡ true → (m : ℕ) × IsNextEntry h n t m (Leave l)
leaves_next-true h n t l e = go (next_note h n t) refl e
  where
    go : (o : Option ℕ) → next_note h n t ≡ o → elim o [ Some m ↦ is_leave (moment_at h m).item t l && ((moment_at h m).round == (moment_at h n).round) | None ↦ false ] ≡ true → (m : ℕ) × IsNextEntry h n t m (Leave l)
    go None q f = absurd (cc)
    go (Some m) q f =
        let p = and_parts (is_leave (moment_at h m).item t l) ((moment_at h m).round == (moment_at h n).round) f in
        (m, next_entry h n t m (Leave l) (next_note-Some h n t m q) (is_leave-true (moment_at h m).item t l p.0) (eqb-true (moment_at h m).round (moment_at h n).round p.1))

spends_rightly-true : (limits : Limits) (h : List Moment) (n t : ℕ) (e : Event) (l : Label) → spends_rightly limits h n t e ≡ true → raises e ≡ 1 → label_of limits.epochs (items h) n t ≡ Some l → l.epoch ≡ limits.epochs → (m : ℕ) × IsNextEntry h n t m (Leave l)
spends_rightly-true limits h n t e l test raising label greatest =
    let a : (elim (label_of limits.epochs (items h) n t) [ Some l ↦ not (l.epoch == limits.epochs) || leaves_next h n t l | None ↦ true ]) ≡ true = raised (raises e == 1) (eq-eqb (raises e) 1 raising) test in
    let b : (not (l.epoch == limits.epochs) || leaves_next h n t l) ≡ true = subst (λ o. elim o [ Some l ↦ not (l.epoch == limits.epochs) || leaves_next h n t l | None ↦ true ] ≡ true) label a in
    leaves_next-true h n t l (raised (l.epoch == limits.epochs) (eq-eqb l.epoch limits.epochs greatest) b)
  where
    raised : (b : Bool) {c : Bool} → b ≡ true → (not b || c) ≡ true → c ≡ true
    raised true q f = f
    raised false q f = absurd (cc)

pub any_up : (p : ℕ → Bool) (k n : ℕ) → list_any p (up_from k n) ≡ true → (i : ℕ) × (p i ≡ true)
any_up p k zero e = absurd (cc)
any_up p k (suc n) e = elim (cases_Bool (p k)) [
  | inl q ↦ (k, q)
  | inr q ↦ any_up p (suc k) n (rw q at e)
]

spent_at-true : (limits : Limits) (h : List Moment) (m t : ℕ) (l : Label) (n : ℕ) (it : Item) → items h n ≡ it → items h m ≡ Notes t (Leave l) → spent_at limits h m t l n it ≡ true → Spends limits h n t l × IsNextEntry h n t m (Leave l)
spent_at-true limits h m t l n (Does u e) made leaves test =
    let spending = is_spending limits h n t e l in
    let next : Bool = elim (next_note h n t) [ Some k ↦ k == m | None ↦ false ] in
    let p3 = and_parts ((u == t) && spending && next) ((moment_at h m).round == (moment_at h n).round) test in
    let p2 = and_parts ((u == t) && spending) next p3.0 in
    let p1 = and_parts (u == t) spending p2.0 in
    let thread : u ≡ t = eqb-true u t p1.0 in
    let r = and_parts (raises e == 1) (elim (label_of limits.epochs (items h) n t) [ Some k ↦ same_label k l && (k.epoch == limits.epochs) | None ↦ false ]) p1.1 in
    let label = of_label (label_of limits.epochs (items h) n t) refl r.1 in (
      record { event = e; made = made ∙ ap (λ v. Does v e) thread; raising = eqb-true (raises e) 1 r.0; label = label.0; greatest = label.1 },
      next_entry h n t m (Leave l) (next_note-Some h n t m (of_next (next_note h n t) refl p2.1)) leaves (eqb-true (moment_at h m).round (moment_at h n).round p3.1),
    )
  where
    of_label : (o : Option Label) → label_of limits.epochs (items h) n t ≡ o → elim o [ Some k ↦ same_label k l && (k.epoch == limits.epochs) | None ↦ false ] ≡ true → (label_of limits.epochs (items h) n t ≡ Some l) × (l.epoch ≡ limits.epochs)
    of_label None q f = absurd (cc)
    of_label (Some k) q f =
        let p = and_parts (same_label k l) (k.epoch == limits.epochs) f in
        let z : k ≡ l = same_label-true k l p.0 in
        (q ∙ ap Some z, subst (λ (x : Label). x.epoch ≡ limits.epochs) z (eqb-true k.epoch limits.epochs p.1))

    of_next : (o : Option ℕ) → next_note h n t ≡ o → elim o [ Some k ↦ k == m | None ↦ false ] ≡ true → next_note h n t ≡ Some m
    of_next None q f = absurd (cc)
    of_next (Some k) q f = q ∙ ap Some (eqb-true k m f)
spent_at-true limits h m t l n (Notes u note) made leaves test = absurd (cc)
spent_at-true limits h m t l n NewEra made leaves test = absurd (cc)
spent_at-true limits h m t l n Past made leaves test = absurd (cc)

-- a position where something happens is one of the history
pub within : (h : List Moment) (n : ℕ) (it : Item) → items h n ≡ it → (it ≡ Past → ⊥) → n < length h
unfolding past
within h n it e d = elim (cases_lt n (length h)) [
  | inl l ↦ l
  | inr l ↦ absurd (d (sym e ∙ ap (λ (m : Moment). m.item) (get_or-eq_default h past l)))
]

pub notes-true : (limits : Limits) (needs : ℕ → Bool) (h : List Moment) → notes_test limits needs h ≡ true → AreNotes limits needs h
notes-true limits needs h test = record {
  attached = λ n t l e. attaches-true limits needs h n t l (at n (Notes t (Attach l)) e (λ z. cc));
  left = λ n t l s. spends_rightly-true limits h n t s.event l (at n (Does t s.event) s.made (λ z. cc)) s.raising s.label s.greatest;
  left_only = λ m t l e.
      let k = any_up (λ (k : ℕ). spent_at limits h m t l k (items h k)) 0 m (at m (Notes t (Leave l)) e (λ z. cc)) in
      let p = spent_at-true limits h m t l k.0 (items h k.0) refl e k.1 in
      (k.0, p.0, p.1);
}
  where
    at : (n : ℕ) (it : Item) → items h n ≡ it → (it ≡ Past → ⊥) → note_test limits needs h n it ≡ true
    at n it e d =
        subst (λ it. note_test limits needs h n it ≡ true) e
        (all_up (λ (n : ℕ). note_test limits needs h n (items h n)) 0 (length h) test n (omega arith) (let l = within h n it e d in omega arith))
