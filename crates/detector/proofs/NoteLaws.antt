-- The detector after the beginning of an entry, and where an era begins.
use Rattle.std.proofs.Common.{◌≡◌, ◌<◌, ◌≤◌, ◌+◌, ◌⊎◌, inl, inr, ℕ, Bool, true, false, Option, Some, None, List, [], ◌∷◌, ◌++◌, length, refl, ap, sym, subst, ◌∙◌, eqb-true}
use Rattle.std.specs.Prelude.{map, option_map, ◌==◌}
use Rattle.std.proofs.Math.ListN.{length-set}
use Rattle.run_record.specs.declared.entry.DeskNote.TheVariants.{Nothing, Attach, Leave}
use Rattle.run_record.specs.declared.entry.Label.{Label}
use Rattle.run_record.specs.declared.limits.Limits.{Limits}
use Rattle.run_record.specs.declared.event.Event.TheVariants as events
use Rattle.run_laws.specs.Moments.{Does, Notes, NewEra, Moment, IsBy}
use Rattle.run_laws.specs.Labels.{Labels, next_labels}
use Rattle.run_laws.specs.Present.{labels_now, label_now, clocks_now}
use Rattle.run_laws.proofs.PresentLaw.{labels_now-push}
use Rattle.slot_desk.specs.declared.slot.Attachment.{Attachment}
use Rattle.slot_desk.specs.Desks.{DeskContents, held_of, slot_of}
use Rattle.slot_desk.specs.Steps as desks
use Rattle.slot_desk.proofs.Holders.{held_from-none}
use Rattle.sync_slab.proofs.ChannelLaws.{keeps-reserved}
use Rattle.sync_slab.specs.Channels.{everywhere}
use Rattle.race_core.specs.Watched.{Watched, in_era, with_events}
use Rattle.race_core.specs.History.{IsWatcherAt, era_now}
use Rattle.report_laws.proofs.CollectedLaw.{push_unchecked}
use Rattle.thread_events.specs.Standing as laws
use Rattle.thread_events.specs.Standing.{Kept}
use Rattle.thread_events.specs.Heard.{kept_attached, kept_left, kept_in_era, leaving_without}
use Rattle.thread_events.proofs.Longer.{era_stays, no_era}
use Rattle.thread_events.proofs.All.{put_stands}
use Rattle.thread_events.proofs.Notes.{slotless, nothing_stands, left_stands, attached_stands, era_stands}
use Rattle.detector.specs.Detected.{Detected, watcher_of, after_leave, after_take, after_era, after_resume, Room, after_room, IsLeaving, IsResting}
use Rattle.detector.specs.Stands.{Stands, is_leaving, awaited}
use Rattle.detector.proofs.Laws.{enter_watcher, room_watcher}
use Rattle.detector.proofs.Standing.{shadow_stays}
use Rattle.detector.proofs.Placed.{one_place, kept_of, to_kept, from_kept, watcher_but, watcher-set}

module _ (granules : ℕ) (limits : Limits) (from : ℕ) (h : List Moment) (m : Moment) (d : Detected) (t : ℕ) (leaving : Option ℕ) (s : Stands granules limits from leaving h d) (none : m.checks ≡ []) where
  -- shadow, candidates and era stay
  noted :
      (after : Detected) (leaves : Option ℕ) (test : ℕ → Bool) (x : Kept) → laws.Stands limits one_place test (h ++ m ∷ []) x → IsBy t m.item → after.limits ≡ d.limits → after.era ≡ d.era → x.desk ≡ after.desk → x.objects 0 ≡ after.objects →
      ((u : ℕ) → x.watchers u ≡ watcher_of after u) → ((u : ℕ) → test u ≡ true → is_leaving leaves u ≡ true) → length after.watchers ≡ after.desk.made → after.shadow ≡ d.shadow → after.waiting ≡ d.waiting →
      Stands granules limits from leaves (h ++ m ∷ []) after
  noted after leaves test x stands by limits_are era desk objects watchers leaving_is as_many shadow waiting =
      from_kept granules limits from leaves test (h ++ m ∷ []) x after stands (limits_are ∙ s.limits_are) (era ∙ (s.era ∙ sym (era_stays limits.epochs h m (no_era t m.item by)))) desk objects watchers leaving_is as_many
      (rw shadow (shadow_stays granules limits.slots h m d.shadow none s.shadow)) (rw waiting (push_unchecked limits.epochs h from (map awaited d.waiting) m s.waiting none))

-- an entry of thread t begins, without a note
pub stands_nothing : (granules : ℕ) (limits : Limits) (from : ℕ) (h : List Moment) (m : Moment) (d : Detected) (t : ℕ) (leaving : Option ℕ) → Stands granules limits from leaving h d → m.item ≡ Notes t Nothing → m.checks ≡ [] → Stands granules limits from leaving (h ++ m ∷ []) d
stands_nothing granules limits from h m d t leaving s made none =
    noted granules limits from h m d t leaving s none d leaving (is_leaving leaving) (kept_of d) (nothing_stands limits one_place (is_leaving leaving) h m (kept_of d) t (to_kept granules limits from leaving h d s) made)
    (subst (IsBy t) (sym made) refl) refl refl refl refl (λ u. refl) (λ u q. q) s.as_many refl refl

-- thread t puts bytes on the output, with a slot or without one
pub stands_put : (granules : ℕ) (limits : Limits) (from : ℕ) (leaving : Option ℕ) (h : List Moment) (m : Moment) (d : Detected) (t value count : ℕ) → Stands granules limits from leaving h d → m.item ≡ Does t (events.Put value count) → m.checks ≡ [] → Stands granules limits from leaving (h ++ m ∷ []) d
stands_put granules limits from leaving h m d t value count s made none =
    noted granules limits from h m d t leaving s none d leaving (is_leaving leaving) (kept_of d) (put_stands limits one_place (is_leaving leaving) h m (kept_of d) t value count (to_kept granules limits from leaving h d s) made)
    (subst (IsBy t) (sym made) refl) refl refl refl refl (λ u. refl) (λ u q. q) s.as_many refl refl

-- thread t leaves the slot that it spent
pub stands_leave : (granules : ℕ) (limits : Limits) (from : ℕ) (h : List Moment) (m : Moment) (d : Detected) (t : ℕ) (l : Label) → Stands granules limits from (Some t) h d → m.item ≡ Notes t (Leave l) → m.checks ≡ [] → IsLeaving d t l → (labels_now limits.epochs h).slot_of t ≡ None → Stands granules limits from None (h ++ m ∷ []) (after_leave d t)
stands_leave granules limits from h m d t l s made none leaves lost =
    noted granules limits from h m d t (Some t) s none (after_leave d t) None (leaving_without (is_leaving (Some t)) t) (kept_left (kept_of d) t)
    (left_stands limits one_place (is_leaving (Some t)) h m (kept_of d) t (to_kept granules limits from (Some t) h d s) l made (record { since = leaves.since; held = leaves.held }) lost)
    (subst (IsBy t) (sym made) refl) refl refl refl refl (λ u. refl) (λ u q. go (u == t) q) (s.as_many ∙ made_stays (held_of d.desk t)) refl refl
  where
    go : (b : Bool) → Rattle.std.proofs.Common.cond b false b ≡ true → false ≡ true
    go true q = q
    go false q = q

    made_stays : (o : Option (ℕ × ℕ)) → d.desk.made ≡ (Rattle.std.specs.Option.option_map_or (λ (x : ℕ × ℕ). record d.desk { slots = Rattle.std.specs.Prelude.slice_set d.desk.slots x.0 (desks.spent_slot (slot_of d.desk x.0)) }) o d.desk).made
    made_stays None = refl
    made_stays (Some x) = refl

-- a thread without a label owns no slot
pub unheld : (granules : ℕ) (limits : Limits) (from : ℕ) (h : List Moment) (d : Detected) (t : ℕ) → Stands granules limits from None h d → IsResting d t → held_of d.desk t ≡ None
unheld granules limits from h d t s rests = held_from-none 0 t d.desk.slots (λ sid a owner is. elim (s.settled sid a owner) [
  | inl gone ↦ absurd (cc)
  | inr held ↦ differ a sid is held
])
  where
    differ : (a : Attachment) (sid : ℕ) → a.tid ≡ t → (labels_now limits.epochs h).slot_of a.tid ≡ Some sid → ⊥
    differ a sid is held = let q = sym (slotless limits.epochs h t (sym ((s.watchers t).label (rests.era ∙ s.era)) ∙ rests.unlabelled)) ∙ (ap (labels_now limits.epochs h).slot_of (sym is) ∙ held) in cc

-- thread t takes the slot at the queue's front
pub stands_take : (granules : ℕ) (limits : Limits) (from : ℕ) (h : List Moment) (m : Moment) (d : Detected) (t : ℕ) (l : Label) (rest : List ℕ) → Stands granules limits from None h d → m.item ≡ Notes t (Attach l) → m.checks ≡ [] → IsResting d t →
    d.desk.queue ≡ l.sid ∷ rest → l.epoch ≡ (slot_of d.desk l.sid).last + 1 → l.era ≡ d.era → l.sid < limits.slots → l.epoch ≤ limits.epochs → Stands granules limits from None (h ++ m ∷ []) (after_take d t l)
stands_take granules limits from h m d t l rest s made none rests front epoch era within few =
    noted granules limits from h m d t None s none (after_take d t l) None (is_leaving None) (kept_attached (kept_of d) t l)
    (attached_stands limits one_place (is_leaving None) h m (kept_of d) t (to_kept granules limits from None h d s) l made
    (record { rest = rest; front = front; epoch = epoch; era = era ∙ sym rests.era; unlabelled = rests.unlabelled; unheld = unheld granules limits from h d t s rests; few_slots = within; few_epochs = few }) (rests.era ∙ s.era))
    (subst (IsBy t) (sym made) refl) refl refl refl refl (watcher_but d t _ rests.watched) (λ u q. q) (length-set d.watchers t _ ∙ (s.as_many ∙ made_stays d.desk.queue)) refl refl
  where
    made_stays : (queue : List ℕ) → d.desk.made ≡ (desks.after_attach_from d.desk t queue).made
    made_stays [] = refl
    made_stays (x ∷ xs) = refl

-- an era begins
pub stands_era : (granules : ℕ) (limits : Limits) (from : ℕ) (h : List Moment) (m : Moment) (d : Detected) → Stands granules limits from None h d → m.item ≡ NewEra → m.checks ≡ [] → Stands granules limits from None (h ++ m ∷ []) (after_era d)
stands_era granules limits from h m d s made none =
    from_kept granules limits from None (λ t. false) (h ++ m ∷ []) (kept_in_era (kept_of d)) (after_era d) (era_stands limits one_place (is_leaving None) h m (kept_of d) (to_kept granules limits from None h d s) made)
    s.limits_are (ap (λ (n : ℕ). n + 1) s.era ∙ sym (ap (λ (l : Labels). l.era) (labels_now-push limits.epochs h m ∙ ap (next_labels limits.epochs (labels_now limits.epochs h)) made)))
    refl refl (λ u. refl) (λ u q. q) s.as_many (shadow_stays granules limits.slots h m d.shadow none s.shadow) (push_unchecked limits.epochs h from (map awaited d.waiting) m s.waiting none)

-- thread t goes on in the present era
pub stands_resume : (granules : ℕ) (limits : Limits) (from : ℕ) (leaving : Option ℕ) (h : List Moment) (d : Detected) (t : ℕ) → Stands granules limits from leaving h d → t < length d.watchers → Stands granules limits from leaving h (after_resume d t)
stands_resume granules limits from leaving h d t s l = record {
  limits_are = s.limits_are;
  era = s.era;
  desk = s.desk;
  objects = s.objects;
  object_slots = s.object_slots;
  watchers = λ u. elim (watcher-set d t u (in_era (watcher_of d t) d.era) l) [
    | inl same ↦ subst (λ (x : Watched). IsWatcherAt limits h u x) (sym same.1) (subst (λ (v : ℕ). IsWatcherAt limits h v (in_era (watcher_of d t) d.era)) (sym same.0) (subst (λ (era : ℕ). IsWatcherAt limits h t (in_era (watcher_of d t) era)) (sym s.era) (enter_watcher limits h t (watcher_of d t) (s.watchers t))))
    | inr other ↦ subst (λ (x : Watched). IsWatcherAt limits h u x) (sym other.1) (s.watchers u)
  ];
  settled = s.settled;
  as_many = length-set d.watchers t (in_era (watcher_of d t) d.era) ∙ s.as_many;
  within = s.within;
  shadow = s.shadow;
  waiting = s.waiting;
}

-- room changes nothing that a history tells of
pub stands_room : (granules : ℕ) (limits : Limits) (from : ℕ) (leaving : Option ℕ) (h : List Moment) (d : Detected) (t : ℕ) (room : Room) → Stands granules limits from leaving h d → t < length d.watchers → Stands granules limits from leaving h (after_room d t room)
stands_room granules limits from leaving h d t room s l = record {
  limits_are = s.limits_are;
  era = s.era;
  desk = s.desk;
  objects = keeps-reserved everywhere d.era (clocks_now limits.epochs h) d.objects room.objects s.objects;
  object_slots = s.object_slots;
  watchers = λ u. elim (watcher-set d t u (with_events room.events (watcher_of d t)) l) [
    | inl same ↦ subst (λ (x : Watched). IsWatcherAt limits h u x) (sym same.1) (subst (λ (v : ℕ). IsWatcherAt limits h v (with_events room.events (watcher_of d t))) (sym same.0) (room_watcher limits h t room.events (watcher_of d t) (s.watchers t)))
    | inr other ↦ subst (λ (x : Watched). IsWatcherAt limits h u x) (sym other.1) (s.watchers u)
  ];
  settled = s.settled;
  as_many = length-set d.watchers t (with_events room.events (watcher_of d t)) ∙ s.as_many;
  within = s.within;
  shadow = s.shadow;
  waiting = s.waiting;
}
