-- Where the thread's epoch rises or its label is lost, and where it ends.
use Rattle.std.proofs.Common.{◌≡◌, ◌≢◌, ℕ, ◌+◌, ◌<◌, ◌≤◌, ◌⊎◌, inl, inr, ◌==◌, ◌&&◌, ◌||◌, Bool, true, false, cond, Option, Some, None, List, [], ◌∷◌, ◌++◌, length, refl, ap, ap₂, sym, subst, ◌∙◌, arith, eqb-true, eq-eqb, ne_eqb}
use Rattle.std.specs.Prelude.{slice_index, slice_set, nat_lt, is_some}
use Rattle.std.proofs.lemmas.Bool.{lt-ltb, le-ltb, cases_lt}
use Rattle.run_record.specs.declared.event.Event.{Event}
use Rattle.run_record.specs.declared.event.Event.TheVariants as events
use Rattle.run_record.specs.declared.entry.Label.{Label}
use Rattle.run_record.specs.declared.limits.Limits.{Limits}
use Rattle.run_laws.specs.Moments.{Does, Moment, items}
use Rattle.run_laws.specs.Labels.{Labels, labels, raises, is_end}
use Rattle.run_laws.specs.Clocks.{Clocks, clocks}
use Rattle.run_laws.specs.Present.{labels_now, label_now, clocks_now, queue_now}
use Rattle.run_laws.proofs.LabelLaw.{label_parts}
use Rattle.slot_desk.specs.declared.answers.Created.TheVariants.{Thread, Full}
use Rattle.slot_desk.specs.declared.slot.Attachment.{Attachment}
use Rattle.slot_desk.specs.Desks.{SlotContents, DeskContents, thread_of, slot_of, no_slot}
use Rattle.slot_desk.specs.Steps as desks
use Rattle.slot_desk.specs.History.{IsDeskAt, Tells}
use Rattle.slot_desk.proofs.HistoryLaw.{at_create, at_end}
use Rattle.slot_desk.proofs.HistorySteps.{labelled_holds}
use Rattle.slot_desk.proofs.DeskLists.{at_each_set}
use Rattle.race_core.specs.Watched.{Watched, noted, unlabelled, next_label, next_epoch, raised}
use Rattle.race_core.specs.History.{IsWatcherAt, era_now}
use Rattle.race_core.proofs.EventLaws.{rises, spent, ends}
use Rattle.race_core.proofs.OwnLaws.{known_at}
use Rattle.thread_events.specs.Standing.{Kept, AreSettled, Stands}
use Rattle.thread_events.specs.Heard.{IsGoing, raised_or_lost, raised_or_lost_to, lost_label, lost_label_to, leaving_after}
use Rattle.thread_events.proofs.Longer.{labels_before, clocks_before}
use Rattle.thread_events.proofs.Events.{its_label, its_clock, at_item, labels_event, desk_there, tells_now}

-- the thread's clock has the epoch of its label at the label's slot
pub own_entry : (limits : Limits) (h : List Moment) (t : ℕ) (w : Watched) (label : Label) → IsWatcherAt limits h t w → w.era ≡ era_now limits.epochs h → w.label ≡ Some label → slice_index w.clock label.sid ≡ label.epoch
own_entry limits h t w label at present is =
    let p = label_parts limits.epochs (items h) (length h) t label (sym (at.label present) ∙ is) in
    at.clock present label.sid ∙ (known_at limits.epochs (items h) (length h)).own t label.sid p.0 ∙ p.1

module _ (limits : Limits) (keeper : ℕ → ℕ) (leaving : ℕ → Bool) (h : List Moment) (m : Moment) (x : Kept) (t : ℕ) (e : Event) (s : Stands limits keeper leaving h x) (going : IsGoing limits h (x.watchers t)) (made : m.item ≡ Does t e) where
  abbrev w : Watched
  w = x.watchers t

  abbrev later : List Moment
  later = h ++ m ∷ []

  pub its_slot : ((labels_now limits.epochs h).slot_of t ≡ Some going.label.sid) × ((labels_now limits.epochs h).epoch going.label.sid ≡ going.label.epoch) × ((labels_now limits.epochs h).era ≡ going.label.era)
  its_slot = label_parts limits.epochs (items h) (length h) t going.label (sym (its_label limits keeper leaving h m x t e s going made) ∙ going.labelled)

  other_slot : (u : ℕ) → u ≢ t → (labels_now limits.epochs later).slot_of u ≡ (labels_now limits.epochs h).slot_of u
  other_slot u other = ap (λ (l : Labels). l.slot_of u) (labels_event limits keeper leaving h m x t e s made) ∙ rw (ne_eqb u t other) refl

  tells_there : Tells limits.slots w.clock ((clocks limits.epochs (items later) (length h)).thread t)
  tells_there r l = ap (λ (k : Clocks). k.thread t r) (clocks_before limits.epochs h m) ∙ tells_now limits keeper leaving h m x t e s going made r l

  -- ---- an event that raises

  module _ (raising : raises e ≡ 1) where
    next_is : next_label w.greatest w.label ≡ cond (nat_lt going.label.epoch limits.epochs) (Some (next_epoch going.label)) None
    next_is = ap₂ next_label (s.watchers t).greatest going.labelled

    -- either the epoch rises, or the label is lost
    pub either_way :
        ((going.label.epoch < limits.epochs) × (raised_or_lost w ≡ raised w) × (lost_label w ≡ None))
        ⊎ ((going.label.epoch ≡ limits.epochs) × (raised_or_lost w ≡ unlabelled w) × (lost_label w ≡ Some going.label))
    either_way = elim (cases_lt going.label.epoch limits.epochs) [
      | inl below ↦
          let n : next_label w.greatest w.label ≡ Some (next_epoch going.label) = next_is ∙ rw (lt-ltb going.label.epoch limits.epochs below) refl in
          inl (below, ap (raised_or_lost_to w) n, ap (λ (o : Option Label). lost_label_to o w.label) n)
      | inr over ↦
          let most = ((s.watchers t).epoch going.label going.labelled).1 in
          let same : going.label.epoch ≡ limits.epochs = omega arith in
          let n : next_label w.greatest w.label ≡ None = next_is ∙ rw (le-ltb going.label.epoch limits.epochs over) refl in
          inr (same, ap (raised_or_lost_to w) n, ap (λ (o : Option Label). lost_label_to o w.label) n ∙ going.labelled)
    ]

    -- the watcher is the thread's after it
    pub raising_watcher : noted w e ≡ w → IsWatcherAt limits later t (raised_or_lost w)
    raising_watcher same = elim either_way [
      | inl up ↦ subst (IsWatcherAt limits later t) (ap raised same ∙ sym up.1) (rises limits h m t w (s.watchers t) e going.label made raising going.present going.labelled up.0)
      | inr lost ↦ subst (IsWatcherAt limits later t) (ap unlabelled same ∙ sym lost.1) (spent limits h m t w (s.watchers t) e going.label made raising going.present going.labelled (let z = lost.0 in omega arith))
    ]

    not_end : is_end e ≡ false
    not_end = go e raising
      where
        go : (f : Event) → raises f ≡ 1 → is_end f ≡ false
        go events.End q = absurd (cc)
        go _ q = refl

    kept_slot : going.label.epoch < limits.epochs → (labels_now limits.epochs later).slot_of t ≡ Some going.label.sid
    kept_slot below =
        ap (λ (l : Labels). l.slot_of t) (labels_event limits keeper leaving h m x t e s made)
        ∙ rw (eq-eqb t t refl, its_slot.0, not_end, ne_eqb (raises e) 0 (λ q. let z = raising in omega arith), its_slot.1, lt-ltb going.label.epoch limits.epochs below) refl

    -- the thread that lost its label is to leave
    pub settled_raising : (desk : DeskContents) → ((sid : ℕ) → (slot_of desk sid).owner ≡ (slot_of x.desk sid).owner) → AreSettled (leaving_after leaving t e w) (labels_now limits.epochs later) desk
    settled_raising desk same sid a owner = elim (s.settled sid a (sym (same sid) ∙ owner)) [
      | inl leaves ↦ inl (rw leaves refl)
      | inr held ↦ go (a.tid == t) refl held
    ]
      where
        or_true : (b : Bool) → b || true ≡ true
        or_true true = refl
        or_true false = refl

        go : (b : Bool) → a.tid == t ≡ b → (labels_now limits.epochs h).slot_of a.tid ≡ Some sid → (leaving_after leaving t e w a.tid ≡ true) ⊎ ((labels_now limits.epochs later).slot_of a.tid ≡ Some sid)
        go false q held = inr (other_slot a.tid (λ is. differ (eq-eqb a.tid t is) q) ∙ held)
          where
            differ : a.tid == t ≡ true → a.tid == t ≡ false → ⊥
            differ y z = cc
        go true q held = elim either_way [
          | inl up ↦ inr (subst (λ (u : ℕ). (labels_now limits.epochs later).slot_of u ≡ Some sid) (sym (eqb-true a.tid t q)) (kept_slot up.0 ∙ (sym its_slot.0 ∙ subst (λ (u : ℕ). (labels_now limits.epochs h).slot_of u ≡ Some sid) (eqb-true a.tid t q) held)))
          | inr lost ↦ inl (rw (q, eq-eqb (raises e) 1 raising, lost.2) (or_true (leaving a.tid)))
        ]

  -- ---- a Create

  -- a desk that creates isn't full, and names the next thread
  record Creates (d : DeskContents) (child : ℕ) : Type 0 where
    room : desks.is_full d ≡ false
    next : child ≡ d.made

  creates : (d : DeskContents) (child : ℕ) → desks.created d ≡ Thread child → Creates d child
  creates d child q = go (desks.is_full d) refl q
    where
      go : (b : Bool) → desks.is_full d ≡ b → cond b Full (Thread d.made) ≡ Thread child → Creates d child
      go true p z = absurd (cc)
      go false p z = record { room = p; next = cc }

  pub created_desk : (child : ℕ) → e ≡ events.Create child → desks.created x.desk ≡ Thread child → IsDeskAt limits.epochs limits.slots (items later) (Rattle.std.proofs.Common.suc (length h)) (desks.after_create x.desk w.clock)
  created_desk child e_is created =
      let c = creates x.desk child created in
      let at : items later (length h) ≡ Does t (events.Create x.desk.made) = at_item limits keeper leaving h m x t e s made ∙ (ap (Does t) e_is ∙ ap (λ (n : ℕ). Does t (events.Create n)) c.next) in
      at_create limits.epochs limits.slots (items later) (length h) x.desk t w.clock (desk_there limits keeper leaving h m x t e s made) at (created ∙ ap Thread c.next) (s.watchers t).slots tells_there

  pub created_owners : (sid : ℕ) → (slot_of (desks.after_create x.desk w.clock) sid).owner ≡ (slot_of x.desk sid).owner
  created_owners sid = go (desks.is_full x.desk)
    where
      go : (b : Bool) → (slot_of (cond b x.desk (record x.desk { made = x.desk.made + 1; threads = slice_set x.desk.threads x.desk.made (record { lives = true; told = Some w.clock }) })) sid).owner ≡ (slot_of x.desk sid).owner
      go true = refl
      go false = refl

  -- ---- an End

  module _ (ending : e ≡ events.End) (alive : (thread_of x.desk t).lives ≡ true) where
    held : (going.label.sid < limits.slots) × ((since : ℕ) × (Rattle.slot_desk.specs.Desks.held_of x.desk t ≡ Some (going.label.sid, since)) × (since ≤ (labels_now limits.epochs h).epoch going.label.sid))
    held = labelled_holds limits.epochs limits.slots (labels_now limits.epochs h) (clocks_now limits.epochs h) (queue_now limits.epochs limits.slots h) x.desk t going.label.sid s.desk.desk its_slot.0

    pub ended_desk : IsDeskAt limits.epochs limits.slots (items later) (Rattle.std.proofs.Common.suc (length h)) (desks.after_end x.desk t w.clock)
    ended_desk =
        let l = labels_before limits.epochs h m in
        let own = own_entry limits h t w going.label (s.watchers t) going.present going.labelled in
        let most = ((s.watchers t).epoch going.label going.labelled).1 in
        let holds : (labels limits.epochs (items later) (length h)).slot_of t ≡ Some going.label.sid = ap (λ (y : Labels). y.slot_of t) l ∙ its_slot.0 in
        let there : (labels limits.epochs (items later) (length h)).epoch going.label.sid ≡ going.label.epoch = ap (λ (y : Labels). y.epoch going.label.sid) l ∙ its_slot.1 in
        let epoch : slice_index w.clock going.label.sid ≡ (labels limits.epochs (items later) (length h)).epoch going.label.sid = own ∙ sym there in
        let below : (labels limits.epochs (items later) (length h)).epoch going.label.sid ≤ limits.epochs = omega arith in
        at_end limits.epochs limits.slots (items later) (length h) x.desk t going.label.sid w.clock (desk_there limits keeper leaving h m x t e s made) (at_item limits keeper leaving h m x t e s made ∙ ap (Does t) ending) alive holds epoch below (s.watchers t).slots tells_there

    pub ended_watcher : IsWatcherAt limits later t (unlabelled w)
    ended_watcher = ends limits h m t w (s.watchers t) (made ∙ ap (Does t) ending)

    after_is : desks.after_end x.desk t w.clock ≡ desks.ended x.desk t going.label.sid (slice_index w.clock going.label.sid) w.clock
    after_is = rw held.1.1 refl

    others : (sid : ℕ) (a : Attachment) → sid ≢ going.label.sid → (slot_of x.desk sid).owner ≡ Some a → (leaving a.tid ≡ true) ⊎ ((labels_now limits.epochs later).slot_of a.tid ≡ Some sid)
    others sid a other owner = elim (s.settled sid a owner) [
      | inl gone ↦ inl gone
      | inr had ↦ inr (other_slot a.tid (λ is. other (same (sym had ∙ (ap (labels_now limits.epochs h).slot_of is ∙ its_slot.0)))) ∙ had)
    ]
      where
        same : Some sid ≡ Some going.label.sid → sid ≡ going.label.sid
        same q = cc

    pub settled_ended : AreSettled leaving (labels_now limits.epochs later) (desks.after_end x.desk t w.clock)
    settled_ended = subst (λ (d : DeskContents). AreSettled leaving (labels_now limits.epochs later) d) (sym after_is)
        (at_each_set (λ (sid : ℕ) (y : SlotContents). (a : Attachment) → y.owner ≡ Some a → (leaving a.tid ≡ true) ⊎ ((labels_now limits.epochs later).slot_of a.tid ≡ Some sid)) x.desk.slots going.label.sid _ no_slot (let z = s.desk.desk.slots.all_slots in let y = held.0 in omega arith)
        (λ a q. absurd (cc)) (λ sid other a q. others sid a other q))
