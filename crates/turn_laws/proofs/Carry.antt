-- What was told of a position of some moments stays so when more follow, and what is told there then was so before.
use Rattle.std.proofs.Common.{◌≡◌, ℕ, ◌<◌, ◌≤◌, Bool, true, Option, Some, None, List, [], ◌∷◌, ◌++◌, length, refl, sym, ap, subst, ◌∙◌, arith, inl, inr}
use Rattle.std.specs.List.{AllZip}
use Rattle.std.proofs.Math.ListN.{get_or-append, get_or-eq_default}
use Rattle.std.proofs.lemmas.Bool.{cases_lt}
use Rattle.run_record.specs.declared.event.Event.{Event}
use Rattle.run_record.specs.declared.entry.DeskNote.{DeskNote}
use Rattle.run_record.specs.declared.entry.Check.{Check}
use Rattle.run_record.specs.declared.entry.Label.{Label}
use Rattle.run_record.specs.declared.limits.Limits.{Limits}
use Rattle.run_laws.specs.Moments.{Does, Notes, Past, Moment, moment_at, items}
use Rattle.run_laws.specs.Labels.{label_of}
use Rattle.run_laws.specs.DeskNotes.{IsNextEntry, IsRightAttach, Spends}
use Rattle.run_laws.specs.Accesses.{Access, parts_of}
use Rattle.run_laws.specs.Checks.{ChecksPart, AreChecks}
use Rattle.run_laws.proofs.PresentLaw.{labels_stay, queue_stay, trace_stay}

abbrev pub past : Moment
past = record { entry = 0; round = 0; item = Past; checks = [] }

pub at_stay : (xs ys : List Moment) (n : ℕ) → n < length xs → moment_at (xs ++ ys) n ≡ moment_at xs n
at_stay xs ys n l = get_or-append xs ys past n l

pub at_end : (xs : List Moment) (n : ℕ) → length xs ≤ n → moment_at xs n ≡ past
at_end xs n l = get_or-eq_default xs past l

pub items_stay : (xs ys : List Moment) (n : ℕ) → n < length xs → items (xs ++ ys) n ≡ items xs n
items_stay xs ys n l = ap (λ (m : Moment). m.item) (at_stay xs ys n l)

-- where a thread makes an event or an entry begins there is a moment
pub does_inside : (xs : List Moment) (n t : ℕ) (e : Event) → items xs n ≡ Does t e → n < length xs
does_inside xs n t e i = elim (cases_lt n (length xs)) [ inl l ↦ l | inr l ↦ absurd (let z = ap (λ (m : Moment). m.item) (at_end xs n l) in cc) ]

pub notes_inside : (xs : List Moment) (n t : ℕ) (note : DeskNote) → items xs n ≡ Notes t note → n < length xs
notes_inside xs n t note i = elim (cases_lt n (length xs)) [ inl l ↦ l | inr l ↦ absurd (let z = ap (λ (m : Moment). m.item) (at_end xs n l) in cc) ]

pub label_stay : (g : ℕ) (xs ys : List Moment) (n t : ℕ) → n ≤ length xs → label_of g (items (xs ++ ys)) n t ≡ label_of g (items xs) n t
label_stay g xs ys n t l = rw (labels_stay g xs ys n l) refl

pub weaken : {A B : Type 0} (R Q : A → B → Type 0) (xs : List A) (ys : List B) → ((x : A) (y : B) → R x y → Q x y) → AllZip R xs ys → AllZip Q xs ys
weaken R Q [] [] f a = a
weaken R Q [] (y ∷ ys) f a = a
weaken R Q (x ∷ xs) [] f a = a
weaken R Q (x ∷ xs) (y ∷ ys) f a = (f x y a.0, weaken R Q xs ys f a.1)

pub checks_stay : (g : ℕ) (granule_of : ℕ → Option ℕ) (xs ys : List Moment) (n t : ℕ) (a : Option Access) → n < length xs → AreChecks g granule_of xs n t a → AreChecks g granule_of (xs ++ ys) n t a
checks_stay g granule_of xs ys n t None l c = ap (λ (m : Moment). m.checks) (at_stay xs ys n l) ∙ c
checks_stay g granule_of xs ys n t (Some a) l c =
    subst (λ (cs : List Check). AllZip (ChecksPart g (xs ++ ys) n t a) (parts_of granule_of a) cs) (sym (ap (λ (m : Moment). m.checks) (at_stay xs ys n l)))
    (weaken (ChecksPart g xs n t a) (ChecksPart g (xs ++ ys) n t a) (parts_of granule_of a) (moment_at xs n).checks
    (λ part check p. record {
      label = p.label;
      labelled = label_stay g xs ys n t (omega arith) ∙ p.labelled;
      granule = p.granule;
      word = p.word;
      turn = rw (trace_stay g xs ys n t (omega arith)) p.turn;
      four = p.four;
    }) c)

pub spends_stay : (limits : Limits) (xs ys : List Moment) (n t : ℕ) (l : Label) → Spends limits xs n t l → Spends limits (xs ++ ys) n t l
spends_stay limits xs ys n t l s =
    let i = does_inside xs n t s.event s.made in
    record { event = s.event; made = items_stay xs ys n i ∙ s.made; raising = s.raising; label = label_stay limits.epochs xs ys n t (omega arith) ∙ s.label; greatest = s.greatest }

pub spends_before : (limits : Limits) (xs ys : List Moment) (n t : ℕ) (l : Label) → n < length xs → Spends limits (xs ++ ys) n t l → Spends limits xs n t l
spends_before limits xs ys n t l i s =
    record { event = s.event; made = sym (items_stay xs ys n i) ∙ s.made; raising = s.raising; label = sym (label_stay limits.epochs xs ys n t (omega arith)) ∙ s.label; greatest = s.greatest }

pub next_stay : (xs ys : List Moment) (n t m : ℕ) (note : DeskNote) → IsNextEntry xs n t m note → IsNextEntry (xs ++ ys) n t m note
next_stay xs ys n t m note e =
    let l = notes_inside xs m t note e.begins in
    let late = e.later in
    record {
      later = e.later;
      begins = items_stay xs ys m l ∙ e.begins;
      next = λ k other a b q. e.next k other a b (sym (items_stay xs ys k (omega arith)) ∙ q);
      same_round = ap (λ (m : Moment). m.round) (at_stay xs ys m l) ∙ (e.same_round ∙ sym (ap (λ (m : Moment). m.round) (at_stay xs ys n (omega arith))));
    }

pub attach_stays : (limits : Limits) (needed more : ℕ → Bool) (xs ys : List Moment) (n t : ℕ) (l : Label) → ((i : ℕ) → needed i ≡ true → more i ≡ true) → n < length xs → IsRightAttach limits needed xs n t l → IsRightAttach limits more (xs ++ ys) n t l
attach_stays limits needed more xs ys n t l grows i a =
    let s = labels_stay limits.epochs xs ys n (omega arith) in
    let m = notes_inside xs a.next t a.note a.next_entry.begins in
    record {
      unlabelled = rw s a.unlabelled;
      rest = a.rest;
      front = queue_stay limits.epochs limits.slots xs ys n (omega arith) ∙ a.front;
      new_epoch = rw s a.new_epoch;
      present_era = rw s a.present_era;
      next = a.next;
      note = a.note;
      next_entry = next_stay xs ys n t a.next a.note a.next_entry;
      needed = grows (moment_at (xs ++ ys) a.next).entry (ap (λ (m : Moment). needed m.entry) (at_stay xs ys a.next m) ∙ a.needed);
    }
