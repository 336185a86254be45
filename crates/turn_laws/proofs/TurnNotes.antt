-- The notes of a turn stand rightly.
use Rattle.std.proofs.Common.{◌≡◌, ◌≢◌, ℕ, ◌+◌, ◌-◌, ◌<◌, ◌≤◌, if◌then◌else◌, Bool, true, Option, Some, None, List, [], ◌∷◌, ◌++◌, append_assoc, length, length-append, refl, sym, ap, subst, ◌∙◌, arith, inl, inr}
use Rattle.std.specs.Prelude.{option_map, option_to_list}
use Rattle.std.proofs.lemmas.Bool.{cases_lt, cases_eq}
use Rattle.run_record.specs.declared.event.Event.{Event}
use Rattle.run_record.specs.declared.entry.DeskNote.{DeskNote}
use Rattle.run_record.specs.declared.entry.DeskNote.TheVariants.{Nothing, Attach, Leave}
use Rattle.run_record.specs.declared.entry.Label.{Label}
use Rattle.run_record.specs.declared.entry.Entry.{Entry}
use Rattle.run_record.specs.declared.limits.Limits.{Limits}
use Rattle.run_laws.specs.Moments.{Does, Notes, Moment, moment_at, items, entry_moments}
use Rattle.run_laws.specs.Labels.{Labels, can_attach, attach_labels, next_labels, labels, queue}
use Rattle.run_laws.specs.DeskNotes.{TakesFront, IsNextEntry, IsRightAttach, Spends, AreNotes}
use Rattle.run_laws.specs.Present.{labels_now, label_now, queue_now}
use Rattle.run_laws.proofs.PresentLaw.{labels_stay, labels_now-push, queue_stay}
use Rattle.run_laws.proofs.QueueLaw.{attaches}
use Rattle.run_laws.proofs.SlotSteps.{attach_slot_here}
use Rattle.turn_laws.specs.Going.{HasSpent}
use Rattle.turn_laws.specs.Turns.{Turn, note_moment}
use Rattle.turn_laws.proofs.Carry.{at_stay, at_end, items_stay, notes_inside, does_inside, spends_stay, spends_before, next_stay, attach_stays}
use Rattle.turn_laws.proofs.Shape.{IsQuiet, quiet_past, entry_or_past, at_right, at_one}

abbrev pub taken_moments : ℕ → Turn → Option Label → List Moment
taken_moments i turn o = option_to_list (option_map (λ (l : Label). note_moment i turn (Attach l)) o)

abbrev pub left_moments : ℕ → Turn → Option Label → List Moment
left_moments i turn o = option_to_list (option_map (λ (l : Label). note_moment i turn (Leave l)) o)

-- the thread may take the label next
pub record TakesNow (limits : Limits) (h : List Moment) (t : ℕ) (l : Label) : Type 0 where
  pub unlabelled : (labels_now limits.epochs h).slot_of t ≡ None
  pub rest : List ℕ
  pub front : queue_now limits.epochs limits.slots h ≡ l.sid ∷ rest
  pub new_epoch : l.epoch ≡ (labels_now limits.epochs h).epoch l.sid + 1
  pub present_era : l.era ≡ (labels_now limits.epochs h).era

-- What stands at a position after the old moments: p moments and then a label that is taken, q moments and then
-- the instructions, s moments and then a label that is left.
data Where (turn : Turn) (old p q s : ℕ) (h : List Moment) (n : ℕ) : Type 0 where
  Old : n < old → Where turn old p q s h n
  Quiet : IsQuiet (moment_at h n) → Where turn old p q s h n
  Attaching : (l : Label) → turn.attached ≡ Some l → n ≡ p → items h n ≡ Notes turn.tid (Attach l) → (moment_at h n).round ≡ turn.round → Where turn old p q s h n
  Beginning : n ≡ q → items h n ≡ Notes turn.tid Nothing → (moment_at h n).round ≡ turn.round → Where turn old p q s h n
  Acting : (e : Event) → q < n → n < s → items h n ≡ Does turn.tid e → (moment_at h n).round ≡ turn.round → Where turn old p q s h n
  Leaving : (l : Label) → turn.left ≡ Some l → n ≡ s → items h n ≡ Notes turn.tid (Leave l) → (moment_at h n).round ≡ turn.round → Where turn old p q s h n

module _ (turn : Turn) (old news : List Moment) (i j k : ℕ) (main_entry : Entry) (quiet : (n : ℕ) → length old ≤ n → IsQuiet (moment_at (old ++ news) n))
    (same_thread : main_entry.tid ≡ turn.tid) (same_round : main_entry.round ≡ turn.round) (unnoted : main_entry.note ≡ Nothing) where
  abbrev h : List Moment
  h = old ++ news

  abbrev h1 : List Moment
  h1 = h ++ taken_moments i turn turn.attached

  abbrev h2 : List Moment
  h2 = h1 ++ entry_moments j main_entry

  abbrev whole : List Moment
  whole = h2 ++ left_moments k turn turn.left

  long1 : length h1 ≡ length h + length (taken_moments i turn turn.attached)
  long1 = length-append h (taken_moments i turn turn.attached)

  long2 : length h2 ≡ length h1 + length (entry_moments j main_entry)
  long2 = length-append h1 (entry_moments j main_entry)

  at2 : (n : ℕ) → n < length h2 → moment_at whole n ≡ moment_at h2 n
  at2 n l = at_stay h2 (left_moments k turn turn.left) n l

  at1 : (n : ℕ) → n < length h1 → moment_at whole n ≡ moment_at h1 n
  at1 n l = let m : n < length h2 = omega (arith, long2) in at2 n m ∙ at_stay h1 (entry_moments j main_entry) n l

  at0 : (n : ℕ) → n < length h → moment_at whole n ≡ moment_at h n
  at0 n l = let m : n < length h1 = omega (arith, long1) in at1 n m ∙ at_stay h (taken_moments i turn turn.attached) n l

  where_is : (n : ℕ) → Where turn (length old) (length h) (length h1) (length h2) whole n
  where_is n = elim (cases_lt n (length old)) [
    | inl l ↦ Old l
    | inr l ↦ elim (cases_lt n (length h)) [
      | inl m ↦ Quiet (subst IsQuiet (sym (at0 n m)) (quiet n l))
      | inr m ↦ elim (cases_lt n (length h1)) [
        | inl a ↦ attaching m a
        | inr a ↦ elim (cases_lt n (length h2)) [
          | inl b ↦ acting a b
          | inr b ↦ elim (cases_lt n (length whole)) [
            | inl c ↦ leaving b c
            | inr c ↦ Quiet (subst IsQuiet (sym (at_end whole n c)) quiet_past)
          ]
        ]
      ]
    ]
  ]
    where
      attaching : length h ≤ n → n < length h1 → Where turn (length old) (length h) (length h1) (length h2) whole n
      attaching m a =
          let o = at_one h (λ (l : Label). note_moment i turn (Attach l)) turn.attached n m a in
          let e : moment_at whole n ≡ note_moment i turn (Attach o.0) = at1 n a ∙ o.3 in
          Attaching o.0 o.1 o.2 (ap (λ (m : Moment). m.item) e) (ap (λ (m : Moment). m.round) e)

      acting : length h1 ≤ n → n < length h2 → Where turn (length old) (length h) (length h1) (length h2) whole n
      acting a b = elim (cases_eq n (length h1)) [
        | inl z ↦
            let here : n - length h1 ≡ 0 = omega arith in
            let e = at2 n b ∙ (at_right h1 (entry_moments j main_entry) n a ∙ ap (moment_at (entry_moments j main_entry)) here) in
            Beginning z (ap (λ (m : Moment). m.item) e ∙ (ap (λ t. Notes t main_entry.note) same_thread ∙ ap (Notes turn.tid) unnoted)) (ap (λ (m : Moment). m.round) e ∙ same_round)
        | inr d ↦
            let at = at2 n b ∙ at_right h1 (entry_moments j main_entry) n a in
            elim (entry_or_past j main_entry (n - length h1) (omega arith)) [
              | inl e ↦ Quiet (subst IsQuiet (sym (at ∙ e)) quiet_past)
              | inr e ↦ Acting e.event (omega arith) b (ap (λ (m : Moment). m.item) at ∙ (e.made ∙ ap (λ t. Does t e.event) same_thread)) (ap (λ (m : Moment). m.round) at ∙ (e.in_round ∙ same_round))
            ]
      ]

      leaving : length h2 ≤ n → n < length whole → Where turn (length old) (length h) (length h1) (length h2) whole n
      leaving b c =
          let o = at_one h2 (λ (l : Label). note_moment k turn (Leave l)) turn.left n b c in
          Leaving o.0 o.1 o.2 (ap (λ (m : Moment). m.item) o.3) (ap (λ (m : Moment). m.round) o.3)

  module _ (limits : Limits) (needed more : ℕ → Bool) (grows : (i : ℕ) → needed i ≡ true → more i ≡ true) (notes : AreNotes limits needed old)
      (taken : (l : Label) → turn.attached ≡ Some l → TakesNow limits h turn.tid l × (more j ≡ true))
      (spent : HasSpent limits h2 (length h1) turn.tid turn.left) where
    -- what follows the old moments
    abbrev later : List Moment
    later = news ++ (taken_moments i turn turn.attached ++ (entry_moments j main_entry ++ left_moments k turn turn.left))

    whole_is : whole ≡ old ++ later
    whole_is = simp append_assoc

    at_old : (n : ℕ) → n < length old → moment_at whole n ≡ moment_at old n
    at_old n l = ap (λ (ms : List Moment). moment_at ms n) whole_is ∙ at_stay old later n l

    old_short : length old ≤ length h
    old_short = omega (arith, length-append old news)

    main_long : length h1 < length h2
    main_long = omega (arith, long2)

    begin_at : moment_at whole (length h1) ≡ record { entry = j; round = main_entry.round; item = Notes main_entry.tid main_entry.note; checks = [] }
    begin_at =
        let here : length h1 - length h1 ≡ 0 = omega arith in
        at2 (length h1) main_long ∙ (at_right h1 (entry_moments j main_entry) (length h1) (omega arith) ∙ ap (moment_at (entry_moments j main_entry)) here)

    at_attach : (l : Label) → turn.attached ≡ Some l → IsRightAttach limits more whole (length h) turn.tid l
    at_attach l a =
        let now = (taken l a).0 in
        let one : length (taken_moments i turn turn.attached) ≡ 1 = ap (λ o. length (taken_moments i turn o)) a in
        let next : length h1 ≡ length h + 1 = omega (arith, long1) in
        let s = labels_at in
        record {
          unlabelled = rw s now.unlabelled;
          rest = now.rest;
          front = queue_at ∙ now.front;
          new_epoch = rw s now.new_epoch;
          present_era = rw s now.present_era;
          next = length h1;
          note = Nothing;
          next_entry = record {
            later = omega arith;
            begins = ap (λ (m : Moment). m.item) begin_at ∙ (ap (λ t. Notes t main_entry.note) same_thread ∙ ap (Notes turn.tid) unnoted);
            next = λ x other b c q. absurd (omega arith);
            same_round = ap (λ (m : Moment). m.round) begin_at ∙ (same_round ∙ sym (attach_round l a));
          };
          needed = ap (λ (m : Moment). more m.entry) begin_at ∙ (taken l a).1;
        }
      where
        labels_at : labels limits.epochs (items whole) (length h) ≡ labels_now limits.epochs h
        labels_at =
            labels_stay limits.epochs h2 (left_moments k turn turn.left) (length h) (omega (arith, long1, long2))
            ∙ (labels_stay limits.epochs h1 (entry_moments j main_entry) (length h) (omega (arith, long1))
            ∙ labels_stay limits.epochs h (taken_moments i turn turn.attached) (length h) (omega arith))

        queue_at : queue limits.epochs limits.slots (items whole) (length h) ≡ queue_now limits.epochs limits.slots h
        queue_at =
            queue_stay limits.epochs limits.slots h2 (left_moments k turn turn.left) (length h) (omega (arith, long1, long2))
            ∙ (queue_stay limits.epochs limits.slots h1 (entry_moments j main_entry) (length h) (omega (arith, long1))
            ∙ queue_stay limits.epochs limits.slots h (taken_moments i turn turn.attached) (length h) (omega arith))

        attach_round : (l : Label) → turn.attached ≡ Some l → (moment_at whole (length h)).round ≡ turn.round
        attach_round l a =
            let one : length (taken_moments i turn turn.attached) ≡ 1 = ap (λ o. length (taken_moments i turn o)) a in
            let m : length h < length h1 = omega (arith, long1) in
            let o = at_one h (λ (l : Label). note_moment i turn (Attach l)) turn.attached (length h) (omega arith) m in
            ap (λ (m : Moment). m.round) (at1 (length h) m ∙ o.3)

    attached : (n t : ℕ) (l : Label) → items whole n ≡ Notes t (Attach l) → IsRightAttach limits more whole n t l
    attached n t l q = go (where_is n)
      where
        go : Where turn (length old) (length h) (length h1) (length h2) whole n → IsRightAttach limits more whole n t l
        go (Old o) =
            let i : items old n ≡ Notes t (Attach l) = sym (ap (λ (m : Moment). m.item) (at_old n o)) ∙ q in
            subst (λ (ms : List Moment). IsRightAttach limits more ms n t l) (sym whole_is) (attach_stays limits needed more old later n t l grows o (notes.attached n t l i))
        go (Quiet x) = absurd (x.no_note t (Attach l) q)
        go (Attaching m a z b r) =
            let y = sym b ∙ q in
            let thread : turn.tid ≡ t = cc in
            let label : m ≡ l = cc in
            subst (λ x. IsRightAttach limits more whole x t l) (sym z)
            (subst (λ x. IsRightAttach limits more whole (length h) x l) thread
            (subst (λ (x : Label). IsRightAttach limits more whole (length h) turn.tid x) label (at_attach m a)))
        go (Beginning z b r) = absurd (let y = sym b ∙ q in cc)
        go (Acting e a b c r) = absurd (let y = sym c ∙ q in cc)
        go (Leaving m a z b r) = absurd (let y = sym b ∙ q in cc)

    -- an event of the instructions is of the turn's round
    acting_round : (n t : ℕ) (e : Event) → length h1 ≤ n → items whole n ≡ Does t e → (moment_at whole n).round ≡ turn.round
    acting_round n t e l q = go (where_is n)
      where
        go : Where turn (length old) (length h) (length h1) (length h2) whole n → (moment_at whole n).round ≡ turn.round
        go (Old o) = absurd (omega (arith, old_short, long1))
        go (Quiet x) = absurd (x.no_event t e q)
        go (Attaching m a z b r) = r
        go (Beginning z b r) = r
        go (Acting f a b c r) = r
        go (Leaving m a z b r) = r

    -- the next entry after one of the instructions' events tells the label that is left
    leave_next : (n t : ℕ) (e : Event) (l : Label) → turn.left ≡ Some l → length h1 ≤ n → n < length h2 → items whole n ≡ Does t e → IsNextEntry whole n turn.tid (length h2) (Leave l)
    leave_next n t e l a low high q = record {
      later = high;
      begins = ap (λ (m : Moment). m.item) end_at;
      next = none;
      same_round = ap (λ (m : Moment). m.round) end_at ∙ sym (acting_round n t e low q);
    }
      where
        end_at : moment_at whole (length h2) ≡ note_moment k turn (Leave l)
        end_at =
            let here : length h2 - length h2 ≡ 0 = omega arith in
            at_right h2 (left_moments k turn turn.left) (length h2) (omega arith)
            ∙ (ap (moment_at (left_moments k turn turn.left)) here ∙ ap (λ o. moment_at (left_moments k turn o) 0) a)

        none : (m : ℕ) (other : DeskNote) → n < m → m < length h2 → items whole m ≡ Notes turn.tid other → ⊥
        none m other b c w = go (where_is m)
          where
            go : Where turn (length old) (length h) (length h1) (length h2) whole m → ⊥
            go (Old o) = omega (arith, old_short, long1)
            go (Quiet x) = x.no_note turn.tid other w
            go (Attaching y d z f r) = omega (arith, long1)
            go (Beginning z f r) = omega arith
            go (Acting f d z y r) = let u = sym y ∙ w in cc
            go (Leaving y d z f r) = omega arith

    left : (n t : ℕ) (l : Label) → Spends limits whole n t l → (m : ℕ) × IsNextEntry whole n t m (Leave l)
    left n t l s = go (where_is n)
      where
        go : Where turn (length old) (length h) (length h1) (length h2) whole n → (m : ℕ) × IsNextEntry whole n t m (Leave l)
        go (Old o) =
            let was = notes.left n t l (spends_before limits old later n t l o (subst (λ (ms : List Moment). Spends limits ms n t l) whole_is s)) in
            (was.0, subst (λ (ms : List Moment). IsNextEntry ms n t was.0 (Leave l)) (sym whole_is) (next_stay old later n t was.0 (Leave l) was.1))
        go (Quiet x) = absurd (x.no_event t s.event s.made)
        go (Attaching m a z b r) = absurd (let y = sym b ∙ s.made in cc)
        go (Beginning z b r) = absurd (let y = sym b ∙ s.made in cc)
        go (Acting e a b c r) =
            let was = spent.only n t l (omega arith) (spends_before limits h2 (left_moments k turn turn.left) n t l b s) in
            (length h2, subst (λ x. IsNextEntry whole n x (length h2) (Leave l)) (sym was.0) (leave_next n t s.event l was.1 (omega arith) b s.made))
        go (Leaving m a z b r) = absurd (let y = sym b ∙ s.made in cc)

    -- an event before spent the label
    LeftAt : ℕ → ℕ → Label → Type 0
    LeftAt m t l = (n : ℕ) × Spends limits whole n t l × IsNextEntry whole n t m (Leave l)

    left_here : (l : Label) → turn.left ≡ Some l → LeftAt (length h2) turn.tid l
    unfolding LeftAt
    left_here l a =
        let was = spent.there l a in
        let s = spends_stay limits h2 (left_moments k turn turn.left) was.0 turn.tid l was.2 in
        let high = does_inside h2 was.0 turn.tid was.2.event was.2.made in
        (was.0, s, leave_next was.0 turn.tid s.event l a was.1 high s.made)

    left_only : (m t : ℕ) (l : Label) → items whole m ≡ Notes t (Leave l) → (n : ℕ) × Spends limits whole n t l × IsNextEntry whole n t m (Leave l)
    unfolding LeftAt
    left_only m t l q = go (where_is m)
      where
        go : Where turn (length old) (length h) (length h1) (length h2) whole m → (n : ℕ) × Spends limits whole n t l × IsNextEntry whole n t m (Leave l)
        go (Old o) =
            let i : items old m ≡ Notes t (Leave l) = sym (ap (λ (m : Moment). m.item) (at_old m o)) ∙ q in
            let was = notes.left_only m t l i in (
              was.0,
              subst (λ (ms : List Moment). Spends limits ms was.0 t l) (sym whole_is) (spends_stay limits old later was.0 t l was.1),
              subst (λ (ms : List Moment). IsNextEntry ms was.0 t m (Leave l)) (sym whole_is) (next_stay old later was.0 t m (Leave l) was.2),
            )
        go (Quiet x) = absurd (x.no_note t (Leave l) q)
        go (Attaching o a z b r) = absurd (let y = sym b ∙ q in cc)
        go (Beginning z b r) = absurd (let y = sym b ∙ q in cc)
        go (Acting e a b c r) = absurd (let y = sym c ∙ q in cc)
        go (Leaving o a z b r) =
            let y = sym b ∙ q in
            let thread : turn.tid ≡ t = cc in
            let label : o ≡ l = cc in
            subst (λ x. LeftAt x t l) (sym z) (subst (λ x. LeftAt (length h2) x l) thread (subst (LeftAt (length h2) turn.tid) label (left_here o a)))

    pub notes_stand : AreNotes limits more whole
    notes_stand = record { attached = attached; left = left; left_only = left_only }

-- with the label that it takes the thread has one
module _ (limits : Limits) (needed : ℕ → Bool) (old news : List Moment) (quiet : (n : ℕ) → length old ≤ n → IsQuiet (moment_at (old ++ news) n)) (notes : AreNotes limits needed old) (a : Moment) (t : ℕ) (l : Label)
    (taking : a.item ≡ Notes t (Attach l)) (now : TakesNow limits (old ++ news) t l) where
  takes_front : TakesFront limits.epochs limits.slots (items ((old ++ news) ++ a ∷ []))
  takes_front n u m q = elim (cases_lt n (length old)) [
    | inl o ↦
        let i : n < length (old ++ news) = omega (arith, length-append old news) in
        let was = notes.attached n u m (sym (items_stay (old ++ news) (a ∷ []) n i ∙ items_stay old news n o) ∙ q) in
        let s = labels_stay limits.epochs (old ++ news) (a ∷ []) n (omega arith) ∙ labels_stay limits.epochs old news n (omega arith) in
        let r = queue_stay limits.epochs limits.slots (old ++ news) (a ∷ []) n (omega arith) ∙ queue_stay limits.epochs limits.slots old news n (omega arith) in
        (rw s was.unlabelled, (was.rest, r ∙ was.front))
    | inr o ↦ elim (cases_lt n (length (old ++ news))) [
      | inl i ↦ absurd ((quiet n o).no_note u (Attach m) (sym (items_stay (old ++ news) (a ∷ []) n i) ∙ q))
      | inr i ↦
          let k = notes_inside ((old ++ news) ++ a ∷ []) n u (Attach m) q in
          let z : n ≡ length (old ++ news) = omega (arith, length-append (old ++ news) (a ∷ [])) in
          let here : n - length (old ++ news) ≡ 0 = omega arith in
          let it = ap (λ (m : Moment). m.item) (at_right (old ++ news) (a ∷ []) n i ∙ ap (moment_at (a ∷ [])) here) ∙ taking in
          let y = sym it ∙ q in
          let thread : t ≡ u = cc in
          let label : l ≡ m = cc in
          let s = ap (labels limits.epochs (items ((old ++ news) ++ a ∷ []))) z ∙ labels_stay limits.epochs (old ++ news) (a ∷ []) (length (old ++ news)) (omega arith) in
          let r = ap (queue limits.epochs limits.slots (items ((old ++ news) ++ a ∷ []))) z ∙ queue_stay limits.epochs limits.slots (old ++ news) (a ∷ []) (length (old ++ news)) (omega arith) in
          (ap (λ (x : Labels). x.slot_of u) s ∙ (ap (labels_now limits.epochs (old ++ news)).slot_of (sym thread) ∙ now.unlabelled), (now.rest, r ∙ (now.front ∙ ap (λ (x : Label). x.sid ∷ now.rest) label)))
    ]
  ]

  attaches_now : can_attach (labels_now limits.epochs (old ++ news)) t l.sid ≡ true
  attaches_now =
      let last = (items_last ∙ taking) in
      sym (ap (λ (x : Labels). can_attach x t l.sid) (labels_stay limits.epochs (old ++ news) (a ∷ []) (length (old ++ news)) (omega arith)))
      ∙ attaches limits.epochs limits.slots (items ((old ++ news) ++ a ∷ [])) takes_front (length (old ++ news)) t l last
    where
      items_last : items ((old ++ news) ++ a ∷ []) (length (old ++ news)) ≡ a.item
      items_last =
          let here : length (old ++ news) - length (old ++ news) ≡ 0 = omega arith in
          ap (λ (m : Moment). m.item) (at_right (old ++ news) (a ∷ []) (length (old ++ news)) (omega arith) ∙ ap (moment_at (a ∷ [])) here)

  pub labelled_then : label_now limits.epochs ((old ++ news) ++ a ∷ []) t ≢ None
  labelled_then none = absurd (let y = sym slot ∙ lost ((labels_now limits.epochs ((old ++ news) ++ a ∷ [])).slot_of t) refl in cc)
    where
      slot : (labels_now limits.epochs ((old ++ news) ++ a ∷ [])).slot_of t ≡ Some l.sid
      slot =
          ap (λ (x : Labels). x.slot_of t) (labels_now-push limits.epochs (old ++ news) a ∙ (ap (next_labels limits.epochs (labels_now limits.epochs (old ++ news))) taking ∙ ap (λ b. if b then attach_labels (labels_now limits.epochs (old ++ news)) t l.sid else labels_now limits.epochs (old ++ news)) attaches_now))
          ∙ attach_slot_here (labels_now limits.epochs (old ++ news)) t l.sid

      lost : (o : Option ℕ) → (labels_now limits.epochs ((old ++ news) ++ a ∷ [])).slot_of t ≡ o → (labels_now limits.epochs ((old ++ news) ++ a ∷ [])).slot_of t ≡ None
      lost None q = q
      lost (Some s) q = absurd (let y = sym none ∙ ap (option_map (λ (s : ℕ). record { sid = s; epoch = (labels_now limits.epochs ((old ++ news) ++ a ∷ [])).epoch s; era = (labels_now limits.epochs ((old ++ news) ++ a ∷ [])).era })) q in cc)
