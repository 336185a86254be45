-- The notes of a history stand rightly where they do so entry by entry.
use Rattle.std.proofs.Common.{◌≡◌, ◌≢◌, ◌<◌, ◌+◌, ◌==◌, ℕ, suc, Bool, true, false, cond, Option, Some, None, List, [], ◌∷◌, ◌++◌, length, length-append, append_assoc, refl, sym, ap, subst, ◌∙◌, arith, eq-eqb}
use Rattle.std.specs.Prelude.{option_map, nat_lt, ◌&&◌, ◌||◌}
use Rattle.run_record.specs.declared.event.Event.{Event}
use Rattle.run_record.specs.declared.entry.DeskNote.{DeskNote}
use Rattle.run_record.specs.declared.entry.DeskNote.TheVariants.{Nothing, Attach, Leave}
use Rattle.run_record.specs.declared.entry.Label.{Label}
use Rattle.run_record.specs.declared.entry.Entry.{Entry}
use Rattle.run_record.specs.declared.limits.Limits.{Limits}
use Rattle.run_laws.specs.Moments.{Item, Does, Notes, Moment, moment_at, items, moments, entry_moments}
use Rattle.run_laws.specs.Labels.{Labels, raises, is_end, holds, raised, slot_after, next_labels, labels, label_of, queue}
use Rattle.run_laws.specs.DeskNotes.{IsNextEntry, IsRightAttach, Spends, AreNotes}
use Rattle.run_laws.specs.Rounds.{NeedsLabel}
use Rattle.run_laws.specs.Present.{labels_now, label_now, queue_now}
use Rattle.run_laws.proofs.PresentLaw.{labels_stay, queue_stay}
use Rattle.turn_orders.specs.Lists.{Each}
use Rattle.turn_orders.proofs.Members.{each_parts}
use Rattle.part_notes.proofs.Spots.{before, later, parted, entry_long, beginning, making, begins_there, makes_there, next_entry, whole_again}

-- ---- one entry

-- an event that neither raises its thread's epoch nor ends it
abbrev pub IsCalm : Event → Type 0
IsCalm e = (raises e ≡ 0) × (is_end e ≡ false)

-- the entry's last event raises the epoch of its thread's label, which is the greatest
pub record SpendsLabel (limits : Limits) (done : List Entry) (e : Entry) (l : Label) : Type 0 where
  pub first : List Event
  pub event : Event
  pub events : e.events ≡ first ++ event ∷ []
  pub raising : raises event ≡ 1
  pub label : label_now limits.epochs (before done e) e.tid ≡ Some l
  pub greatest : l.epoch ≡ limits.epochs

-- the thread's next entry among those that follow, which is of the same round
pub record NextOf (e : Entry) (rest : List Entry) : Type 0 where
  pub mid : List Entry
  pub entry : Entry
  pub tail : List Entry
  pub whole : rest ≡ mid ++ entry ∷ tail
  pub others : Each (λ (x : Entry). x.tid ≢ e.tid) mid
  pub thread : entry.tid ≡ e.tid
  pub round : entry.round ≡ e.round

-- and the thread's entry before it
pub record LastOf (done : List Entry) (e : Entry) : Type 0 where
  pub front : List Entry
  pub entry : Entry
  pub mid : List Entry
  pub whole : done ≡ front ++ entry ∷ mid
  pub others : Each (λ (x : Entry). x.tid ≢ entry.tid) mid
  pub thread : e.tid ≡ entry.tid
  pub round : e.round ≡ entry.round

-- it takes the queue's front
pub record Takes (limits : Limits) (done : List Entry) (e : Entry) (l : Label) : Type 0 where
  pub unlabelled : (labels_now limits.epochs (before done e)).slot_of e.tid ≡ None
  pub rest : List ℕ
  pub front : queue_now limits.epochs limits.slots (before done e) ≡ l.sid ∷ rest
  pub new_epoch : l.epoch ≡ (labels_now limits.epochs (before done e)).epoch l.sid + 1
  pub present_era : l.era ≡ (labels_now limits.epochs (before done e)).era

-- What is told of an entry, behind these and before those.
pub record IsNoted (limits : Limits) (needs : ℕ → Bool) (done : List Entry) (e : Entry) (rest : List Entry) : Type 0 where
  pub labelled : needs (length done) ≡ true → label_now limits.epochs (before done e) e.tid ≢ None
  pub takes : (l : Label) → e.note ≡ Attach l → Takes limits done e l
  pub needed : (l : Label) → e.note ≡ Attach l → (n : NextOf e rest) × (needs (length (done ++ e ∷ n.mid)) ≡ true)
  pub left : (l : Label) → SpendsLabel limits done e l → (n : NextOf e rest) × (n.entry.note ≡ Leave l)
  pub left_only : (l : Label) → e.note ≡ Leave l → (n : LastOf done e) × SpendsLabel limits n.front n.entry l
  pub calm : (first others : List Event) (event : Event) → e.events ≡ first ++ event ∷ others → Each IsCalm first
  pub quiet : (l : Label) → e.note ≡ Attach l → e.events ≡ []

-- ---- labels within an entry

calm_slot : (g : ℕ) (epoch : ℕ → ℕ) (o : Option ℕ) (e : Event) → IsCalm e → slot_after g epoch o e ≡ o
calm_slot g epoch None e c = refl
calm_slot g epoch (Some s) e c =
    ap (λ (b : Bool). cond b None (cond ((raises e == 0) || nat_lt (epoch s) g) (Some s) None)) c.1
    ∙ ap (λ (n : ℕ). cond ((n == 0) || nat_lt (epoch s) g) (Some s) None) c.0

calm_raised : (g : ℕ) (l : Labels) (t : ℕ) (e : Event) (s : ℕ) → IsCalm e → raised g l t e s ≡ 0
calm_raised g l t e s c = go (holds (l.slot_of t) s && nat_lt (l.epoch s) g)
  where
    go : (b : Bool) → cond b (raises e) 0 ≡ 0
    go true = c.0
    go false = refl

abbrev label_is : ℕ → ℕ → ℕ → Label
label_is s n era = record { sid = s; epoch = n; era = era }

abbrev slot_label : Labels → ℕ → Label
slot_label l s = label_is s (l.epoch s) l.era

abbrev risen : ℕ → Labels → ℕ → Event → ℕ → Label
risen g l t e s = label_is s (l.epoch s + raised g l t e s) l.era

abbrev label_with : Labels → ℕ → Option Label
label_with l t = option_map (slot_label l) (l.slot_of t)

calm_step : (g : ℕ) (l : Labels) (t : ℕ) (e : Event) → IsCalm e → label_with (next_labels g l (Does t e)) t ≡ label_with l t
calm_step g l t e c =
    ap (λ (b : Bool). option_map {U = Label} (risen g l t e) (cond b (slot_after g l.epoch (l.slot_of t) e) (l.slot_of t))) (eq-eqb t t refl)
    ∙ (ap (option_map {U = Label} (risen g l t e)) (calm_slot g l.epoch (l.slot_of t) e c) ∙ go (l.slot_of t))
  where
    go : (o : Option ℕ) → option_map {U = Label} (risen g l t e) o ≡ option_map {U = Label} (slot_label l) o
    go None = refl
    go (Some s) =
        let z : l.epoch s + raised g l t e s ≡ l.epoch s = (let q = calm_raised g l t e s c in omega (arith, q)) in
        ap (λ (n : ℕ). Some (label_is s n l.era)) z

note_step : (g : ℕ) (l : Labels) (t : ℕ) (note : DeskNote) → ((m : Label) → note ≡ Attach m → ⊥) → next_labels g l (Notes t note) ≡ l
note_step g l t Nothing none = refl
note_step g l t (Leave m) none = refl
note_step g l t (Attach m) none = absurd (none m refl)

labels_next : (g : ℕ) (h : ℕ → Item) (n : ℕ) (it : Item) → h n ≡ it → labels g h (suc n) ≡ next_labels g (labels g h n) it
unfolding labels
labels_next g h n it e = ap (next_labels g (labels g h n)) e

module _ (limits : Limits) (done : List Entry) (e : Entry) (rest : List Entry) where
  abbrev h : List Moment
  h = moments (done ++ e ∷ rest)

  abbrev start : ℕ
  start = length (before done e)

  pub labels_there : labels limits.epochs (items h) start ≡ labels_now limits.epochs (before done e)
  labels_there =
      ap (λ (k : List Moment). labels limits.epochs (items k) start) (parted done e rest)
      ∙ labels_stay limits.epochs (before done e) (entry_moments (length done) e ++ later done e rest) start (omega arith)

  pub label_there : label_of limits.epochs (items h) start e.tid ≡ label_now limits.epochs (before done e) e.tid
  label_there = ap (λ (l : Labels). label_with l e.tid) labels_there

  queue_there : queue limits.epochs limits.slots (items h) start ≡ queue_now limits.epochs limits.slots (before done e)
  queue_there =
      ap (λ (k : List Moment). queue limits.epochs limits.slots (items k) start) (parted done e rest)
      ∙ queue_stay limits.epochs limits.slots (before done e) (entry_moments (length done) e ++ later done e rest) start (omega arith)

  note_at : items h start ≡ Notes e.tid e.note
  note_at = ap (λ (m : Moment). m.item) (begins_there done e rest)

  after_note : ((m : Label) → e.note ≡ Attach m → ⊥) → labels limits.epochs (items h) (suc start) ≡ labels limits.epochs (items h) start
  after_note none =
      labels_next limits.epochs (items h) start (Notes e.tid e.note) note_at
      ∙ note_step limits.epochs (labels limits.epochs (items h) start) e.tid e.note none

  -- the thread has that label again after so many events
  abbrev Keeps : ℕ → Type 0
  Keeps k = label_of limits.epochs (items h) (start + suc k) e.tid ≡ label_now limits.epochs (before done e) e.tid

  none_yet : ((m : Label) → e.note ≡ Attach m → ⊥) → Keeps 0
  none_yet none =
      let z : start + 1 ≡ suc start = omega arith in
      ap (λ (n : ℕ). label_of limits.epochs (items h) n e.tid) z ∙ (ap (λ (l : Labels). label_with l e.tid) (after_note none) ∙ label_there)

  one_more : (past : List Event) (x : Event) (next : List Event) → e.events ≡ past ++ x ∷ next → IsCalm x → Keeps (length past) → Keeps (suc (length past))
  one_more past x next whole calm keeps =
      let n = start + suc (length past) in
      let z : start + suc (suc (length past)) ≡ suc n = omega arith in
      let here : items h n ≡ Does e.tid x = makes_there done e rest past x next whole in
      ap (λ (k : ℕ). label_of limits.epochs (items h) k e.tid) z
      ∙ (ap (λ (l : Labels). label_with l e.tid) (labels_next limits.epochs (items h) n (Does e.tid x) here)
      ∙ (calm_step limits.epochs (labels limits.epochs (items h) n) e.tid x calm ∙ keeps))

  walk : (past next others : List Event) → e.events ≡ past ++ (next ++ others) → Each IsCalm next → Keeps (length past) → Keeps (length past + length next)
  walk past [] others whole calm keeps = let z : length past ≡ length past + 0 = omega arith in subst Keeps z keeps
  walk past (x ∷ next) others whole calm keeps =
      let long : suc (length past) ≡ length (past ++ x ∷ []) = (let q = length-append past (x ∷ []) in omega (arith, q)) in
      let z : length (past ++ x ∷ []) + length next ≡ length past + suc (length next) = omega (arith, long) in
      subst Keeps z
      (walk (past ++ x ∷ []) next others (whole ∙ sym (append_assoc past (x ∷ []) (next ++ others))) calm.1
      (subst Keeps long (one_more past x (next ++ others) whole calm.0 keeps)))

  -- calm events leave their thread's label
  pub after_calm : (first others : List Event) → e.events ≡ first ++ others → Each IsCalm first → ((m : Label) → e.note ≡ Attach m → ⊥) → Keeps (length first)
  after_calm first others whole calm none =
      let z : 0 + length first ≡ length first = omega arith in
      subst Keeps z (walk [] first others whole calm (none_yet none))

-- ---- all entries

module _ (limits : Limits) (needs : ℕ → Bool) (all : List Entry)
    (noted : (done : List Entry) (e : Entry) (rest : List Entry) → all ≡ done ++ e ∷ rest → IsNoted limits needs done e rest) where
  abbrev hs : List Moment
  hs = moments all

  pub needs_label : NeedsLabel limits needs hs
  needs_label n t note is needed none =
      let b = beginning all n t note is in
      let i = noted b.done b.entry b.rest b.whole in
      let at : moment_at hs n ≡ moment_at (moments (b.done ++ b.entry ∷ b.rest)) (length (before b.done b.entry)) =
      ap (λ (xs : List Entry). moment_at (moments xs) n) b.whole ∙ ap (moment_at (moments (b.done ++ b.entry ∷ b.rest))) b.at in
      let number : (moment_at hs n).entry ≡ length b.done = ap (λ (m : Moment). m.entry) (at ∙ begins_there b.done b.entry b.rest) in
      let label : label_of limits.epochs (items hs) n t ≡ label_now limits.epochs (before b.done b.entry) b.entry.tid =
      ap (λ (u : ℕ). label_of limits.epochs (items hs) n u) (sym b.thread)
      ∙ (ap (λ (xs : List Entry). label_of limits.epochs (items (moments xs)) n b.entry.tid) b.whole
      ∙ (ap (λ (k : ℕ). label_of limits.epochs (items (moments (b.done ++ b.entry ∷ b.rest))) k b.entry.tid) b.at
      ∙ label_there limits b.done b.entry b.rest)) in
      i.labelled (ap needs (sym number) ∙ needed) (sym label ∙ none)

  -- the next entry of the thread, from a moment of this one on
  next_of : (done : List Entry) (e : Entry) (rest : List Entry) → all ≡ done ++ e ∷ rest → (n : NextOf e rest) → (k : ℕ) →
      k < length (entry_moments (length done) e) →
      IsNextEntry hs (length (before done e) + k) e.tid (length (before (done ++ e ∷ n.mid) n.entry)) n.entry.note
  next_of done e rest whole n k inside =
      let same : done ++ e ∷ (n.mid ++ n.entry ∷ n.tail) ≡ all =
      ap (λ (xs : List Entry). done ++ e ∷ xs) (sym n.whole) ∙ sym whole in
      subst (λ (xs : List Entry). IsNextEntry (moments xs) (length (before done e) + k) e.tid (length (before (done ++ e ∷ n.mid) n.entry)) n.entry.note) same
      (next_entry done e n.mid n.entry n.tail k inside n.others n.thread n.round)

  -- the number of the next entry
  next_number : (done : List Entry) (e : Entry) (rest : List Entry) → all ≡ done ++ e ∷ rest → (n : NextOf e rest) →
      (moment_at hs (length (before (done ++ e ∷ n.mid) n.entry))).entry ≡ length (done ++ e ∷ n.mid)
  next_number done e rest whole n =
      let same : all ≡ (done ++ e ∷ n.mid) ++ n.entry ∷ n.tail =
      whole ∙ (ap (λ (xs : List Entry). done ++ e ∷ xs) n.whole ∙ whole_again done e n.mid n.entry n.tail) in
      ap (λ (xs : List Entry). (moment_at (moments xs) (length (before (done ++ e ∷ n.mid) n.entry))).entry) same
      ∙ ap (λ (m : Moment). m.entry) (begins_there (done ++ e ∷ n.mid) n.entry n.tail)

  attach_right : (done : List Entry) (e : Entry) (rest : List Entry) → all ≡ done ++ e ∷ rest → (l : Label) → e.note ≡ Attach l →
      IsRightAttach limits needs hs (length (before done e)) e.tid l
  attach_right done e rest whole l is =
      let i = noted done e rest whole in
      let t = i.takes l is in
      let n = i.needed l is in
      let p = length (before done e) in
      let labels_are : labels limits.epochs (items hs) p ≡ labels_now limits.epochs (before done e) =
      ap (λ (xs : List Entry). labels limits.epochs (items (moments xs)) p) whole ∙ labels_there limits done e rest in
      let queue_is : queue limits.epochs limits.slots (items hs) p ≡ queue_now limits.epochs limits.slots (before done e) =
      ap (λ (xs : List Entry). queue limits.epochs limits.slots (items (moments xs)) p) whole ∙ queue_there limits done e rest in
      let long = entry_long (length done) e in
      let z : p + 0 ≡ p = omega arith in
      record {
        unlabelled = ap (λ (x : Labels). x.slot_of e.tid) labels_are ∙ t.unlabelled;
        rest = t.rest;
        front = queue_is ∙ t.front;
        new_epoch = t.new_epoch ∙ ap (λ (x : Labels). x.epoch l.sid + 1) (sym labels_are);
        present_era = t.present_era ∙ ap (λ (x : Labels). x.era) (sym labels_are);
        next = length (before (done ++ e ∷ n.0.mid) n.0.entry);
        note = n.0.entry.note;
        next_entry =
            subst (λ (m : ℕ). IsNextEntry hs m e.tid (length (before (done ++ e ∷ n.0.mid) n.0.entry)) n.0.entry.note) z
            (next_of done e rest whole n.0 0 (omega (arith, long)));
        needed = ap needs (next_number done e rest whole n.0) ∙ n.1;
      }

  attached : (n t : ℕ) (l : Label) → items hs n ≡ Notes t (Attach l) → IsRightAttach limits needs hs n t l
  attached n t l is =
      let b = beginning all n t (Attach l) is in
      subst (λ (u : ℕ). IsRightAttach limits needs hs n u l) b.thread
      (subst (λ (m : ℕ). IsRightAttach limits needs hs m b.entry.tid l) (sym b.at) (attach_right b.done b.entry b.rest b.whole l b.note_is))

  -- an entry with an event took no label
  no_attach : (done : List Entry) (e : Entry) (rest : List Entry) → all ≡ done ++ e ∷ rest → (first others : List Event) (event : Event) →
      e.events ≡ first ++ event ∷ others → (m : Label) → e.note ≡ Attach m → ⊥
  no_attach done e rest whole first others event events m is =
      let none = ap (λ (xs : List Event). length xs) (sym events ∙ (noted done e rest whole).quiet m is) in
      omega (arith, none, length-append first (event ∷ others))

  -- before an event of the entry its thread has the label that it began with
  label_at : (done : List Entry) (e : Entry) (rest : List Entry) → all ≡ done ++ e ∷ rest → (first others : List Event) (event : Event) →
      e.events ≡ first ++ event ∷ others →
      label_of limits.epochs (items hs) (length (before done e) + suc (length first)) e.tid ≡ label_now limits.epochs (before done e) e.tid
  label_at done e rest whole first others event events =
      ap (λ (xs : List Entry). label_of limits.epochs (items (moments xs)) (length (before done e) + suc (length first)) e.tid) whole
      ∙ after_calm limits done e rest first (event ∷ others) events ((noted done e rest whole).calm first others event events)
      (no_attach done e rest whole first others event events)

  -- an event that raises the epoch is the last of its entry
  none_after : (done : List Entry) (e : Entry) (rest : List Entry) → all ≡ done ++ e ∷ rest → (first others : List Event) (event : Event) →
      e.events ≡ first ++ event ∷ others → raises event ≡ 1 → others ≡ []
  none_after done e rest whole first [] event events raising = refl
  none_after done e rest whole first (x ∷ others) event events raising =
      let again = events ∙ sym (append_assoc first (event ∷ []) (x ∷ others)) in
      let calm = (noted done e rest whole).calm (first ++ event ∷ []) others x again in
      let here = (each_parts IsCalm first (event ∷ []) calm).1.0.0 in
      absurd (omega (arith, here, raising))

  left : (n t : ℕ) (l : Label) → Spends limits hs n t l → (m : ℕ) × IsNextEntry hs n t m (Leave l)
  left n t l s =
      let b = making all n t s.event s.made in
      let i = noted b.done b.entry b.rest b.whole in
      let last = none_after b.done b.entry b.rest b.whole b.first b.others s.event b.events s.raising in
      let long = entry_long (length b.done) b.entry in
      let more = ap (λ (xs : List Event). length xs) b.events in
      let sum = length-append b.first (s.event ∷ b.others) in
      let label : label_now limits.epochs (before b.done b.entry) b.entry.tid ≡ Some l =
      sym (label_at b.done b.entry b.rest b.whole b.first b.others s.event b.events)
      ∙ (ap (λ (k : ℕ). label_of limits.epochs (items hs) k b.entry.tid) (sym b.at)
      ∙ (ap (λ (u : ℕ). label_of limits.epochs (items hs) n u) b.thread ∙ s.label)) in
      let spends : SpendsLabel limits b.done b.entry l = record {
        first = b.first;
        event = s.event;
        events = b.events ∙ ap (λ (xs : List Event). b.first ++ s.event ∷ xs) last;
        raising = s.raising;
        label = label;
        greatest = s.greatest;
      } in
      let x = i.left l spends in
      let m = length (before (b.done ++ b.entry ∷ x.0.mid) x.0.entry) in (
        m,
        subst (λ (u : ℕ). IsNextEntry hs n u m (Leave l)) b.thread
            (subst (λ (k : ℕ). IsNextEntry hs k b.entry.tid m (Leave l)) (sym b.at)
            (subst (λ (note : DeskNote). IsNextEntry hs (length (before b.done b.entry) + suc (length b.first)) b.entry.tid m note) x.1
            (next_of b.done b.entry b.rest b.whole x.0 (suc (length b.first)) (omega (arith, long, more, sum))))),
      )

  -- an entry that spends its thread's label does so at its last event
  spends_at : (done : List Entry) (e : Entry) (rest : List Entry) → all ≡ done ++ e ∷ rest → (l : Label) → (s : SpendsLabel limits done e l) →
      Spends limits hs (length (before done e) + suc (length s.first)) e.tid l
  spends_at done e rest whole l s = record {
    event = s.event;
    made = ap (λ (xs : List Entry). items (moments xs) (length (before done e) + suc (length s.first))) whole
        ∙ makes_there done e rest s.first s.event [] s.events;
    raising = s.raising;
    label = label_at done e rest whole s.first [] s.event s.events ∙ s.label;
    greatest = s.greatest;
  }

  -- an entry before spent the label
  abbrev Left : ℕ → ℕ → Label → Type 0
  Left m t l = (n : ℕ) × Spends limits hs n t l × IsNextEntry hs n t m (Leave l)

  left_here : (done : List Entry) (e : Entry) (rest : List Entry) → all ≡ done ++ e ∷ rest → (l : Label) → e.note ≡ Leave l →
      Left (length (before done e)) e.tid l
  left_here done e rest whole l is =
      let x = (noted done e rest whole).left_only l is in
      let p = x.0 in
      let s = x.1 in
      let before_whole : all ≡ p.front ++ p.entry ∷ (p.mid ++ e ∷ rest) =
      whole ∙ (ap (λ (xs : List Entry). xs ++ e ∷ rest) p.whole ∙ append_assoc p.front (p.entry ∷ p.mid) (e ∷ rest)) in
      let n : NextOf p.entry (p.mid ++ e ∷ rest) =
      record { mid = p.mid; entry = e; tail = rest; whole = refl; others = p.others; thread = p.thread; round = p.round } in
      let long = entry_long (length p.front) p.entry in
      let more = ap (λ (xs : List Event). length xs) s.events in
      let sum = length-append s.first (s.event ∷ []) in
      let k = length (before p.front p.entry) + suc (length s.first) in
      let next = next_of p.front p.entry (p.mid ++ e ∷ rest) before_whole n (suc (length s.first)) (omega (arith, long, more, sum)) in (
        k,
        subst (λ (u : ℕ). Spends limits hs k u l) (sym p.thread) (spends_at p.front p.entry (p.mid ++ e ∷ rest) before_whole l s),
        subst (λ (u : ℕ). IsNextEntry hs k u (length (before done e)) (Leave l)) (sym p.thread)
            (subst (λ (xs : List Entry). IsNextEntry hs k p.entry.tid (length (before xs e)) (Leave l)) (sym p.whole)
            (subst (λ (note : DeskNote). IsNextEntry hs k p.entry.tid (length (before (p.front ++ p.entry ∷ p.mid) e)) note) is next)),
      )

  left_only : (m t : ℕ) (l : Label) → items hs m ≡ Notes t (Leave l) → (n : ℕ) × Spends limits hs n t l × IsNextEntry hs n t m (Leave l)
  left_only m t l is =
      let b = beginning all m t (Leave l) is in
      subst (λ (u : ℕ). Left m u l) b.thread (subst (λ (k : ℕ). Left k b.entry.tid l) (sym b.at) (left_here b.done b.entry b.rest b.whole l b.note_is))

  pub notes_stand : AreNotes limits needs hs
  notes_stand = record { attached = attached; left = left; left_only = left_only }
