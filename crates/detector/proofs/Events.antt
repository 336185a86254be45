-- The detector after each event that has no check.
use Rattle.std.proofs.Common.{◌≡◌, ℕ, zero, suc, ◌+◌, ◌<◌, ◌⊎◌, ◌==◌, Bool, true, false, cond, Option, Some, None, List, [], ◌∷◌, ◌++◌, length, get_or, length-append, inl, inr, refl, ap, sym, subst, ◌∙◌, arith, eq-eqb, eqb-true, ne_eqb}
use Rattle.std.specs.Prelude.{map, slice_set, slice_index}
use Rattle.std.proofs.Math.ListN.{length-set}
use Rattle.std.proofs.lemmas.List.{get_or-set_same}
use Rattle.run_record.specs.declared.event.Event.{Event}
use Rattle.run_record.specs.declared.event.Event.TheVariants as events
use Rattle.run_record.specs.declared.entry.Label.{Label}
use Rattle.run_record.specs.declared.limits.Limits.{Limits}
use Rattle.run_laws.specs.Moments.{Does, Moment, IsBy}
use Rattle.run_laws.specs.Labels.{raises}
use Rattle.run_laws.specs.Present.{labels_now, label_now, clocks_now, queue_now}
use Rattle.slot_desk.specs.declared.answers.Created.TheVariants.{Thread, Full}
use Rattle.slot_desk.specs.Desks.{DeskContents, thread_of, held_of, held_from}
use Rattle.slot_desk.specs.Steps as desks
use Rattle.slot_desk.proofs.HistorySteps.{labelled_holds}
use Rattle.sync_slab.specs.Objects.{SyncObjects}
use Rattle.race_core.specs.Watched.{Watched, new_watched, unlabelled, next_label}
use Rattle.turn_laws.specs.Going.{spent_by}
use Rattle.turn_orders.specs.Machine.{but}
use Rattle.report_laws.proofs.CollectedLaw.{push_unchecked}
use Rattle.thread_events.specs.Heard.{IsGranted, ObjectsAfter, raised_or_lost, raised_or_lost_to, lost_label, lost_label_to, watcher_after}
use Rattle.thread_events.proofs.Longer.{era_stays, no_era}
use Rattle.thread_events.proofs.Raises.{own_entry, either_way, its_slot}
use Rattle.hart_events.specs.Events.{lost_after}
use Rattle.detector.specs.Detected.{Detected, watcher_of, with_watcher, after_event, IsGoing, IsLeaving}
use Rattle.detector.specs.Hears.{CanHear}
use Rattle.detector.specs.Stands.{Stands, is_leaving, awaited}
use Rattle.detector.proofs.Standing.{shadow_stays}
use Rattle.detector.proofs.Placed.{one_place, kept_of, to_kept, watcher_but, leaves_by, going_on, stands_event}

-- ---- lists of watchers

-- one more element, where it is what stands for the missing ones
get_or-snoc : (f : ℕ → Watched) (k : ℕ) (xs : List Watched) (u : ℕ) → get_or (xs ++ f (k + length xs) ∷ []) u (f (k + u)) ≡ get_or xs u (f (k + u))
get_or-snoc f k [] zero = refl
get_or-snoc f k [] (suc u) = refl
get_or-snoc f k (x ∷ xs) zero = refl
get_or-snoc f k (x ∷ xs) (suc u) =
    let p : k + suc (length xs) ≡ suc k + length xs = omega arith in
    let q : k + suc u ≡ suc k + u = omega arith in
    rw (p, q) (get_or-snoc f (suc k) xs u)

get_or-new : (limits : Limits) (child : ℕ) (xs : List Watched) (u : ℕ) → child ≡ length xs → get_or (xs ++ new_watched child limits ∷ []) u (new_watched u limits) ≡ get_or xs u (new_watched u limits)
get_or-new limits child xs u same =
    let p : child ≡ 0 + length xs = omega arith in
    let q : u ≡ 0 + u = omega arith in
    let e = get_or-snoc (λ (t : ℕ). new_watched t limits) 0 xs u in
    ap (λ (c : ℕ). get_or (xs ++ new_watched c limits ∷ []) u (new_watched u limits)) p ∙ (ap (λ (v : ℕ). get_or (xs ++ new_watched (0 + length xs) limits ∷ []) u (new_watched v limits)) q ∙ (e ∙ ap (λ (v : ℕ). get_or xs u (new_watched v limits)) (sym q)))

set_clock : (d : Detected) (t : ℕ) (w : Watched) → t < length d.watchers → w.clock ≡ (watcher_of d t).clock → (watcher_of (with_watcher d t w) t).clock ≡ (watcher_of d t).clock
set_clock d t w l same = ap (λ (x : Watched). x.clock) (get_or-set_same d.watchers t w (new_watched t d.limits) l) ∙ same

raised_clock : (w : Watched) (l : Label) → lost_label w ≡ Some l → (raised_or_lost w).clock ≡ w.clock
raised_clock w l lost = go (next_label w.greatest w.label) lost
  where
    go : (o : Option Label) → lost_label_to o w.label ≡ Some l → (raised_or_lost_to w o).clock ≡ w.clock
    go None q = refl
    go (Some x) q = absurd (cc)

-- an event that raises no epoch spends no label
pub spent_none : (g : ℕ) (o : Option Label) (e : Event) → raises e == 1 ≡ false → None ≡ spent_by g o e
spent_none g None e q = refl
spent_none g (Some l) e q = rw q refl

-- a desk that creates isn't full, and names the next thread
record Creates (d : DeskContents) (child : ℕ) : Type 0 where
  room : desks.is_full d ≡ false
  next : child ≡ d.made

creates : (d : DeskContents) (child : ℕ) → desks.created d ≡ Thread child → Creates d child
creates d child made = go (desks.is_full d) refl made
  where
    go : (b : Bool) → desks.is_full d ≡ b → cond b Full (Thread d.made) ≡ Thread child → Creates d child
    go true q e = absurd (cc)
    go false q e = record { room = q; next = cc }

module _ (granules : ℕ) (limits : Limits) (from : ℕ) (h : List Moment) (m : Moment) (d : Detected) (t : ℕ) (s : Stands granules limits from None h d) (going : IsGoing d t) (none : m.checks ≡ []) where
  abbrev w : Watched
  w = watcher_of d t

  abbrev later : List Moment
  later = h ++ m ∷ []

  as_many_set : (x : Watched) → length (slice_set d.watchers t x) ≡ d.desk.made
  as_many_set x = length-set d.watchers t x ∙ s.as_many

  -- a thread that is created has the next number
  pub next_child : (child : ℕ) (x : Watched) → desks.created d.desk ≡ Thread child → child ≡ length (slice_set d.watchers t x)
  next_child child x created = (creates d.desk child created).next ∙ sym (as_many_set x)

  -- what the event asks is granted
  granted : (e : Event) → CanHear d t e → IsGranted d.desk t e
  granted (events.Create child) can = can.0
  granted (events.Join of) can = can
  granted events.End can = going.alive
  granted _ can = tt

  -- there are as many watchers as threads that were made
  as_many : (e : Event) (set : SyncObjects) → CanHear d t e → length (after_event d t e set).watchers ≡ (after_event d t e set).desk.made
  as_many (events.Create child) set can =
      let c = creates d.desk child can.0 in
      length-append (slice_set d.watchers t (raised_or_lost w)) (new_watched child d.limits ∷ []) ∙ (let a = as_many_set (raised_or_lost w) in let b : (desks.after_create d.desk w.clock).made ≡ d.desk.made + 1 = rw c.room refl in omega arith)
  as_many events.End set can = as_many_set _ ∙ made_stays (held_of d.desk t)
    where
      made_stays : (o : Option (ℕ × ℕ)) → d.desk.made ≡ (Rattle.std.specs.Option.option_map_or (λ (x : ℕ × ℕ). desks.ended d.desk t x.0 (slice_index w.clock x.0) w.clock) o d.desk).made
      made_stays None = refl
      made_stays (Some x) = refl
  as_many _ set can = as_many_set _

  watchers_are : (e : Event) (set : SyncObjects) → CanHear d t e → (u : ℕ) → but (watcher_of d) t (watcher_after (thread_of d.desk t).told d.objects d.desk e w) u ≡ watcher_of (after_event d t e set) u
  watchers_are (events.Create child) set can u =
      watcher_but d t (raised_or_lost w) going.watched u ∙ sym (get_or-new d.limits child (slice_set d.watchers t (raised_or_lost w)) u (next_child child (raised_or_lost w) can.0))
  watchers_are _ set can u = watcher_but d t _ going.watched u

  -- shadow, candidates and era stay
  pub stands_after : (e : Event) (set : SyncObjects) → m.item ≡ Does t e → CanHear d t e → ObjectsAfter w.era w.clock e d.objects set → Stands granules limits from (leaves_by t e w) later (after_event d t e set)
  stands_after e set made can changed =
      stands_event granules limits from h m d (after_event d t e set) t s going e made (granted e can) changed refl
      (s.era ∙ sym (era_stays limits.epochs h m (no_era t m.item (subst (IsBy t) (sym made) refl)))) refl (watchers_are e set can) (as_many e set can)
      (shadow_stays granules limits.slots h m d.shadow none s.shadow) (push_unchecked limits.epochs h from (map awaited d.waiting) m s.waiting none)

  -- ---- the label that is lost

  module _ (e : Event) (made : m.item ≡ Does t e) (raising : raises e ≡ 1) where
    two_ways :
        ((going.label.epoch < limits.epochs) × (raised_or_lost w ≡ Rattle.race_core.specs.Watched.raised w) × (lost_label w ≡ None))
        ⊎ ((going.label.epoch ≡ limits.epochs) × (raised_or_lost w ≡ unlabelled w) × (lost_label w ≡ Some going.label))
    two_ways = either_way limits one_place (is_leaving None) h m (kept_of d) t e (to_kept granules limits from None h d s) (going_on granules limits from h m d d t s going) made raising

    label_is : w.label ≡ label_now limits.epochs h t
    label_is = (s.watchers t).label (going.era ∙ s.era)

    -- what is told to be lost is what the history says is spent
    spent_raised : lost_label w ≡ spent_by limits.epochs (label_now limits.epochs h t) e
    spent_raised = sym (ap (λ (o : Option Label). spent_by limits.epochs o e) (sym label_is ∙ going.labelled) ∙ elim two_ways [
      | inl up ↦ rw (eq-eqb (raises e) 1 raising, ne_eqb going.label.epoch limits.epochs (λ q. let z = up.0 in omega arith), up.2) refl
      | inr lost ↦ rw (eq-eqb (raises e) 1 raising, eq-eqb going.label.epoch limits.epochs lost.0, lost.2) refl
    ])

    -- what the desk has of it, and its clock's own entry
    is_leaving_now : (desk : DeskContents) (after : Detected) (l : Label) → lost_label w ≡ Some l → after.desk ≡ desk → desk.slots ≡ d.desk.slots → desk.greatest ≡ d.desk.greatest → (thread_of desk t).lives ≡ true → t < length after.watchers → (watcher_of after t).clock ≡ w.clock → IsLeaving after t l
    is_leaving_now desk after l lost desk_is slots greatest alive watched clock =
        let slot = its_slot limits one_place (is_leaving None) h m (kept_of d) t e (to_kept granules limits from None h d s) (going_on granules limits from h m d d t s going) made in
        let held = labelled_holds limits.epochs limits.slots (labels_now limits.epochs h) (clocks_now limits.epochs h) (queue_now limits.epochs limits.slots h) d.desk t going.label.sid s.desk.desk slot.0 in
        let own = own_entry limits h t w going.label (s.watchers t) (going.era ∙ s.era) going.labelled in
        let is : going.label ≡ l = elim two_ways [ inl up ↦ absurd (differ (sym up.2 ∙ lost)) | inr gone ↦ some_is (sym gone.2 ∙ lost) ] in
        let at : going.label.epoch ≡ limits.epochs = elim two_ways [ inl up ↦ absurd (differ (sym up.2 ∙ lost)) | inr gone ↦ gone.0 ] in
        subst (IsLeaving after t) is (record {
          watched = watched;
          alive = rw desk_is alive;
          since = held.1.0;
          held = ap (λ (x : DeskContents). held_from 0 t x.slots) desk_is ∙ (ap (held_from 0 t) slots ∙ held.1.1);
          greatest = ap (λ (c : List ℕ). slice_index c going.label.sid) clock ∙ (own ∙ (at ∙ (sym s.desk.desk.greatest ∙ (sym greatest ∙ ap (λ (x : DeskContents). x.greatest) (sym desk_is)))));
        })
      where
        differ : None ≡ Some l → ⊥
        differ q = cc

        some_is : Some going.label ≡ Some l → going.label ≡ l
        some_is q = cc

  pub spent_is : (e : Event) → m.item ≡ Does t e → lost_after e w ≡ spent_by limits.epochs (label_now limits.epochs h t) e
  spent_is e made = go (raises e == 1) refl
    where
      go : (b : Bool) → raises e == 1 ≡ b → cond b (lost_label w) None ≡ spent_by limits.epochs (label_now limits.epochs h t) e
      go true q = spent_raised e made (eqb-true (raises e) 1 q)
      go false q = spent_none limits.epochs (label_now limits.epochs h t) e q

  pub leaves_after : (e : Event) (set : SyncObjects) (l : Label) → m.item ≡ Does t e → CanHear d t e → lost_after e w ≡ Some l → IsLeaving (after_event d t e set) t l
  leaves_after (events.Release addr part replaces) set l made can lost =
      let y = raised_or_lost w in
      is_leaving_now (events.Release addr part replaces) made refl d.desk (after_event d t (events.Release addr part replaces) set) l lost refl refl refl going.alive
      (let a = length-set d.watchers t y in let b = going.watched in omega arith) (set_clock d t y going.watched (raised_clock w l lost))
  leaves_after (events.Create child) set l made can lost =
      let c = creates d.desk child can.0 in
      let y = raised_or_lost w in
      let long = length-set d.watchers t y in
      is_leaving_now (events.Create child) made refl (desks.after_create d.desk w.clock) (after_event d t (events.Create child) set) l lost refl (rw c.room refl) (rw c.room refl) can.1
      (let a = length-append (slice_set d.watchers t y) (new_watched child d.limits ∷ []) in let b = going.watched in omega arith)
      (ap (λ (x : Watched). x.clock) (get_or-new d.limits child (slice_set d.watchers t y) t (next_child child y can.0)) ∙ set_clock d t y going.watched (raised_clock w l lost))
  leaves_after _ set l made can lost = absurd (cc)
