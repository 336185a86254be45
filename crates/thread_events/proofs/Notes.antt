-- After the note of a slot that is taken or left, and where an era begins, all stands.
use Rattle.std.proofs.Common.{◌≡◌, ◌≢◌, ℕ, zero, suc, ◌+◌, ◌<◌, ◌≤◌, ◌⊎◌, inl, inr, ◌==◌, Bool, true, false, cond, Option, Some, None, List, [], ◌∷◌, ◌++◌, length, get_or, refl, ap, ap₂, sym, subst, ◌∙◌, arith, ne_eqb}
use Rattle.std.specs.Prelude.{slice_set, option_map, replicate}
use Rattle.std.proofs.Math.ListN.{length-set}
use Rattle.run_record.specs.declared.entry.DeskNote.{DeskNote}
use Rattle.run_record.specs.declared.entry.DeskNote.TheVariants.{Nothing, Attach, Leave}
use Rattle.run_record.specs.declared.entry.Label.{Label}
use Rattle.run_record.specs.declared.limits.Limits.{Limits}
use Rattle.run_laws.specs.Moments.{Notes, NewEra, Moment, items, IsBy}
use Rattle.run_laws.specs.Labels.{Labels, labels, next_labels, can_attach, attach_labels}
use Rattle.run_laws.specs.Clocks.{Clocks, clocks, next_clocks}
use Rattle.run_laws.specs.Present.{labels_now, label_now, clocks_now}
use Rattle.run_laws.proofs.PresentLaw.{clocks_now-push, labels_now-push}
use Rattle.vector_clock.specs.Clocks.{joined}
use Rattle.vector_clock.proofs.ClockLaws.{length-joined}
use Rattle.slot_desk.specs.declared.slot.Attachment.{Attachment}
use Rattle.slot_desk.specs.declared.answers.Attached.TheVariants.{Slot}
use Rattle.slot_desk.specs.Desks.{SlotContents, DeskContents, held_of, slot_of, no_slot, fresh_slot}
use Rattle.slot_desk.specs.Steps as desks
use Rattle.slot_desk.specs.History.{IsDeskAt, Tells}
use Rattle.slot_desk.proofs.HistoryLaw.{at_attach, label_attached, clock_attached, at_leave, at_nothing, at_era}
use Rattle.slot_desk.proofs.Holders.{held_from-none, held_of-some}
use Rattle.slot_desk.proofs.DeskLists.{at_each_set}
use Rattle.sync_slab.specs.Objects.{SyncObjects}
use Rattle.sync_slab.specs.Channels.{KeepsChannels}
use Rattle.sync_slab.proofs.ChannelLaws.{keeps-note, keeps-new_era}
use Rattle.race_core.specs.Watched.{Watched, labelled, with_clock}
use Rattle.race_core.specs.History.{IsWatcherAt, AttachesWithin, era_now}
use Rattle.race_core.proofs.StillLaws.{nothing, leave}
use Rattle.race_core.proofs.EventLaws.{attaches, begins}
use Rattle.race_core.proofs.BeyondLaws.{within_push}
use Rattle.turn_orders.specs.Machine.{but}
use Rattle.turn_orders.proofs.Functions.{but_same}
use Rattle.thread_events.specs.Standing.{Kept, is_kept_at, AreSettled, Stands}
use Rattle.thread_events.specs.Heard.{Attaches, kept_attached, Holds, kept_left, leaving_without, kept_in_era}
use Rattle.thread_events.proofs.Longer.{desk_before, desk_now, labels_before, clocks_before, item-seam, length-push, era_stays, no_era}
use Rattle.thread_events.proofs.Threads.{thread_stands}
use Rattle.thread_events.proofs.Events.{whole_clock}

-- a thread without a label has no slot
none_is : {X : Type 0} (f : ℕ → X) (o : Option ℕ) → option_map f o ≡ None → o ≡ None
none_is f None q = refl
none_is f (Some r) q = absurd (cc)

pub slotless : (g : ℕ) (h : List Moment) (t : ℕ) → label_now g h t ≡ None → (labels_now g h).slot_of t ≡ None
slotless g h t none = none_is (λ (r : ℕ). label_at r) ((labels_now g h).slot_of t) none
  where
    label_at : ℕ → Label
    label_at r = record { sid = r; epoch = (labels_now g h).epoch r; era = (labels_now g h).era }

label_is : (ls : Labels) (t : ℕ) (l : Label) → ls.slot_of t ≡ Some l.sid → ls.epoch l.sid ≡ l.epoch → ls.era ≡ l.era → option_map {U = Label} (λ (r : ℕ). record { sid = r; epoch = ls.epoch r; era = ls.era }) (ls.slot_of t) ≡ Some l
label_is ls t l slot epoch era = rw slot (ap₂ (λ (x y : ℕ). Some (given x y)) epoch era)
  where
    given : ℕ → ℕ → Label
    given x y = record { sid = l.sid; epoch = x; era = y }

long_attached : (n : ℕ) (desk : DeskContents) (clock rest : List ℕ) (sid : ℕ) → desk.queue ≡ sid ∷ rest → length (slot_of desk sid).left ≡ n → length clock ≡ n → length (desks.clock_after_attach desk clock) ≡ n
long_attached n desk clock rest sid front left long =
    rw front (length-set (joined clock (slot_of desk sid).left) sid ((slot_of desk sid).last + 1) ∙ (length-joined clock (slot_of desk sid).left (long ∙ sym left) ∙ long))

attached_epoch : (desk : DeskContents) (sid epoch : ℕ) (rest : List ℕ) → desk.queue ≡ sid ∷ rest → desks.attached desk ≡ Slot sid epoch → (slot_of desk sid).last + 1 ≡ epoch
attached_epoch desk sid epoch rest front is = let q = rw front at is in cc

module _ (limits : Limits) (keeper : ℕ → ℕ) (leaving : ℕ → Bool) (h : List Moment) (m : Moment) (x : Kept) (t : ℕ) (s : Stands limits keeper leaving h x) where
  abbrev w : Watched
  w = x.watchers t

  abbrev later : List Moment
  later = h ++ m ∷ []

  -- ---- a note

  module _ (note : DeskNote) (made : m.item ≡ Notes t note) where
    by_note : IsBy t m.item
    by_note = subst (IsBy t) (sym made) refl

    at_note : items later (length h) ≡ Notes t note
    at_note = item-seam h m ∙ made

    keeps_note : (k : ℕ) → KeepsChannels (is_kept_at keeper k) (era_now limits.epochs h) (clocks_now limits.epochs later) (x.objects k)
    keeps_note k = subst (λ (c : Clocks). KeepsChannels (is_kept_at keeper k) (era_now limits.epochs h) c (x.objects k)) (sym (clocks_now-push limits.epochs h m ∙ ap (next_clocks limits.epochs (labels_now limits.epochs h) (clocks_now limits.epochs h)) made))
        (keeps-note limits.epochs (labels_now limits.epochs h) (is_kept_at keeper k) (era_now limits.epochs h) t note (clocks_now limits.epochs h) (x.objects k) (s.objects k))

    labels_note : labels_now limits.epochs later ≡ next_labels limits.epochs (labels_now limits.epochs h) (Notes t note)
    labels_note = labels_now-push limits.epochs h m ∙ ap (next_labels limits.epochs (labels_now limits.epochs h)) made

    desk_there : IsDeskAt limits.epochs limits.slots (items later) (length h) x.desk
    desk_there = desk_before limits.epochs limits.slots h m x.desk s.desk

  -- an entry of thread t begins, without a note
  pub nothing_stands : m.item ≡ Notes t Nothing → Stands limits keeper leaving later x
  nothing_stands made =
      subst (λ (ws : ℕ → Watched). Stands limits keeper leaving later (record x { watchers = ws })) (but_same x.watchers t)
      (thread_stands limits keeper leaving leaving h m x t x.desk x.objects w s (by_note Nothing made) (subst (AttachesWithin limits.slots) (sym made) tt)
      (at_nothing limits.epochs limits.slots (items later) (length h) x.desk t (desk_there Nothing made) (at_note Nothing made)) (keeps_note Nothing made) s.object_slots (nothing limits h m t w (s.watchers t) made)
      (subst (λ (l : Labels). AreSettled leaving l x.desk) (sym (labels_note Nothing made)) s.settled))

  -- thread t leaves the slot that it spent
  module _ (l : Label) (made : m.item ≡ Notes t (Leave l)) (holds : Holds x.desk t l) (no_slot_now : (labels_now limits.epochs h).slot_of t ≡ None) where
    left_is : desks.after_detach x.desk t ≡ record x.desk { slots = slice_set x.desk.slots l.sid (desks.spent_slot (slot_of x.desk l.sid)) }
    left_is = rw holds.held refl

    settled_left : l.sid < length x.desk.slots → (b : Attachment) → (slot_of x.desk l.sid).owner ≡ Some b → b.tid ≡ t →
        AreSettled (leaving_without leaving t) (labels_now limits.epochs h) (record x.desk { slots = slice_set x.desk.slots l.sid (desks.spent_slot (slot_of x.desk l.sid)) })
    settled_left within b owner is = at_each_set (λ (sid : ℕ) (y : SlotContents). (a : Attachment) → y.owner ≡ Some a → (leaving_without leaving t a.tid ≡ true) ⊎ ((labels_now limits.epochs h).slot_of a.tid ≡ Some sid)) x.desk.slots l.sid (desks.spent_slot (slot_of x.desk l.sid)) no_slot within (λ a q. absurd (cc))
        (λ sid other a q. elim (s.settled sid a q) [
          | inl leaves ↦ inl (rw (ne_eqb a.tid t (λ mine. other (s.desk.desk.slots.one_slot sid l.sid a b q owner (mine ∙ sym is)))) leaves)
          | inr held ↦ inr held
        ])

    pub left_stands : Stands limits keeper (leaving_without leaving t) later (kept_left x t)
    left_stands =
        let some = held_of-some x.desk.slots t l.sid holds.since holds.held in
        subst (λ (ws : ℕ → Watched). Stands limits keeper (leaving_without leaving t) later (record { desk = desks.after_detach x.desk t; objects = x.objects; watchers = ws })) (but_same x.watchers t)
        (thread_stands limits keeper leaving (leaving_without leaving t) h m x t (desks.after_detach x.desk t) x.objects w s (by_note (Leave l) made) (subst (AttachesWithin limits.slots) (sym made) tt)
        (at_leave limits.epochs limits.slots (items later) (length h) x.desk t l (desk_there (Leave l) made) (at_note (Leave l) made) (ap (λ (y : Labels). y.slot_of t) (labels_before limits.epochs h m) ∙ no_slot_now))
        (keeps_note (Leave l) made) s.object_slots (leave limits h m t w l (s.watchers t) made)
        (subst (λ (d : DeskContents). AreSettled (leaving_without leaving t) (labels_now limits.epochs later) d) (sym left_is)
        (subst (λ (y : Labels). AreSettled (leaving_without leaving t) y (record x.desk { slots = slice_set x.desk.slots l.sid (desks.spent_slot (slot_of x.desk l.sid)) })) (sym (labels_note (Leave l) made)) (settled_left some.0 some.1.0 some.1.1 some.1.2))))

  -- thread t takes the slot at the queue's front
  module _ (l : Label) (made : m.item ≡ Notes t (Attach l)) (a : Attaches limits x.desk w t l) (present : w.era ≡ era_now limits.epochs h) where
    abbrev i : ℕ
    i = length h

    abbrev h' : ℕ → Rattle.run_laws.specs.Moments.Item
    h' = items later

    abbrev clock : List ℕ
    clock = desks.clock_after_attach x.desk w.clock

    there : IsDeskAt limits.epochs limits.slots h' i x.desk
    there = desk_there (Attach l) made

    at : h' i ≡ Notes t (Attach l)
    at = at_note (Attach l) made

    unslotted : (labels_now limits.epochs h).slot_of t ≡ None
    unslotted = slotless limits.epochs h t (sym ((s.watchers t).label present) ∙ a.unlabelled)

    slot_label : ((labels limits.epochs h' (suc i)).slot_of t ≡ Some l.sid) × (desks.attached x.desk ≡ Slot l.sid ((labels limits.epochs h' (suc i)).epoch l.sid))
    slot_label = label_attached limits.epochs limits.slots h' i x.desk t l a.rest there at a.unheld a.front

    tells : Tells limits.slots w.clock ((clocks limits.epochs h' i).thread t)
    tells r b = ap (λ (k : Clocks). k.thread t r) (clocks_before limits.epochs h m) ∙ sym ((s.watchers t).clock present r)

    long : length clock ≡ limits.slots
    long = long_attached limits.slots x.desk w.clock a.rest l.sid a.front (s.desk.desk.left.long l.sid a.few_slots) (s.watchers t).slots

    fits : AttachesWithin limits.slots m.item
    fits = subst (AttachesWithin limits.slots) (sym made) a.few_slots

    known : Rattle.race_core.specs.History.IsClock clock ((clocks_now limits.epochs later).thread t)
    known = whole_clock limits.slots clock ((clocks_now limits.epochs later).thread t) long
        (λ r b. ap (λ (n : ℕ). (clocks limits.epochs h' n).thread t r) (length-push h m) ∙ clock_attached limits.epochs limits.slots h' i x.desk t l a.rest w.clock there at a.unheld a.front (s.watchers t).slots tells r b)
        ((within_push limits.epochs limits.slots h m s.within fits).thread t)

    slot : (labels_now limits.epochs later).slot_of t ≡ Some l.sid
    slot = subst (λ (n : ℕ). (labels limits.epochs h' n).slot_of t ≡ Some l.sid) (sym (length-push h m)) slot_label.0

    new_epoch : (labels_now limits.epochs later).epoch l.sid ≡ l.epoch
    new_epoch = ap (λ (n : ℕ). (labels limits.epochs h' n).epoch l.sid) (length-push h m) ∙ (sym (attached_epoch x.desk l.sid _ a.rest a.front slot_label.1) ∙ sym a.epoch)

    its : label_now limits.epochs later t ≡ Some l
    its = label_is (labels_now limits.epochs later) t l slot new_epoch (era_stays limits.epochs h m (no_era t m.item (by_note (Attach l) made)) ∙ (sym present ∙ sym a.era))

    stays : (u : ℕ) → (u ≡ t → ⊥) → (labels_now limits.epochs later).slot_of u ≡ (labels_now limits.epochs h).slot_of u
    stays u other = ap (λ (y : Labels). y.slot_of u) (labels_note (Attach l) made) ∙ go (can_attach (labels_now limits.epochs h) t l.sid)
      where
        go : (b : Bool) → (cond b (attach_labels (labels_now limits.epochs h) t l.sid) (labels_now limits.epochs h)).slot_of u ≡ (labels_now limits.epochs h).slot_of u
        go true = rw (ne_eqb u t other) refl
        go false = refl

    some_is : (b : Attachment) → Some (desks.attachment t (slot_of x.desk l.sid)) ≡ Some b → desks.attachment t (slot_of x.desk l.sid) ≡ b
    some_is b q = cc

    settled_attached : AreSettled leaving (labels_now limits.epochs later) (record x.desk { slots = slice_set x.desk.slots l.sid (desks.attached_slot t (slot_of x.desk l.sid)); queue = a.rest })
    settled_attached = at_each_set (λ (sid : ℕ) (y : SlotContents). (b : Attachment) → y.owner ≡ Some b → (leaving b.tid ≡ true) ⊎ ((labels_now limits.epochs later).slot_of b.tid ≡ Some sid)) x.desk.slots l.sid (desks.attached_slot t (slot_of x.desk l.sid)) no_slot
        (let z = s.desk.desk.slots.all_slots in let y = a.few_slots in omega arith)
        (λ b q. inr (subst (λ (u : ℕ). (labels_now limits.epochs later).slot_of u ≡ Some l.sid) (ap (λ (y : Attachment). y.tid) (some_is b q)) slot))
        (λ sid other b q. elim (s.settled sid b q) [ inl leaves ↦ inl leaves | inr held ↦ inr (stays b.tid (λ is. not_it sid (sym held ∙ ap (labels_now limits.epochs h).slot_of is)) ∙ held) ])
      where
        not_it : (sid : ℕ) → Some sid ≡ (labels_now limits.epochs h).slot_of t → ⊥
        not_it sid q = let z = q ∙ unslotted in cc

    pub attached_stands : Stands limits keeper leaving later (kept_attached x t l)
    attached_stands =
        thread_stands limits keeper leaving leaving h m x t (desks.after_attach x.desk t) x.objects (labelled (with_clock w clock) l) s (by_note (Attach l) made) fits
        (at_attach limits.epochs limits.slots h' i x.desk t l a.rest there at a.unheld a.front) (keeps_note (Attach l) made) s.object_slots
        (attaches limits h m t w (s.watchers t) l clock made present its a.few_slots (let e = a.epoch in omega arith) a.few_epochs long known)
        (rw a.front settled_attached)

-- an era begins
pub era_stands : (limits : Limits) (keeper : ℕ → ℕ) (leaving : ℕ → Bool) (h : List Moment) (m : Moment) (x : Kept) → Stands limits keeper leaving h x → m.item ≡ NewEra → Stands limits keeper (λ t. false) (h ++ m ∷ []) (kept_in_era x)
era_stands limits keeper leaving h m x s made =
    let at : items (h ++ m ∷ []) (length h) ≡ NewEra = item-seam h m ∙ made in
    let clocks_are = clocks_now-push limits.epochs h m ∙ ap (next_clocks limits.epochs (labels_now limits.epochs h) (clocks_now limits.epochs h)) made in
    let era_is : era_now limits.epochs (h ++ m ∷ []) ≡ era_now limits.epochs h + 1 = ap (λ (l : Labels). l.era) (labels_now-push limits.epochs h m ∙ ap (next_labels limits.epochs (labels_now limits.epochs h)) made) in
    record {
      desk = desk_now limits.epochs limits.slots h m (desks.after_reset x.desk) (at_era limits.epochs limits.slots (items (h ++ m ∷ [])) (length h) x.desk (desk_before limits.epochs limits.slots h m x.desk s.desk) at);
      objects = λ k. subst (λ (e : ℕ). KeepsChannels (is_kept_at keeper k) e (clocks_now limits.epochs (h ++ m ∷ [])) (x.objects k)) (sym era_is)
          (subst (λ (c : Clocks). KeepsChannels (is_kept_at keeper k) (era_now limits.epochs h + 1) c (x.objects k)) (sym clocks_are)
          (keeps-new_era limits.epochs (labels_now limits.epochs h) (is_kept_at keeper k) (era_now limits.epochs h) (clocks_now limits.epochs h) (x.objects k) (s.objects k)));
      object_slots = s.object_slots;
      watchers = λ t. begins limits h m t (x.watchers t) (s.watchers t) made;
      settled = λ sid a owner. absurd (none_owned (length x.desk.slots) sid a owner);
      within = within_push limits.epochs limits.slots h m s.within (subst (AttachesWithin limits.slots) (sym made) tt);
    }
  where
    none_owned : (n sid : ℕ) (a : Attachment) → (get_or (replicate n (fresh_slot (length x.desk.slots))) sid no_slot).owner ≡ Some a → ⊥
    none_owned zero sid a q = cc
    none_owned (suc n) zero a q = cc
    none_owned (suc n) (suc sid) a q = none_owned n sid a q
