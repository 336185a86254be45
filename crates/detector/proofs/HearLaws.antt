-- Each event as it is heard.
use Rattle.std.proofs.Common.{◌≡◌, ℕ, ◌<◌, ◌≤◌, ◌^◌, ◌-◌, ◌==◌, Option, Some, None, List, [], ◌∷◌, ◌++◌, length, get_or, append-nil, refl, ap, sym, subst, ◌∙◌, arith}
use Rattle.std.specs.Prelude.{map, IsSomeAnd, slice_set, slice_index}
use Rattle.std.proofs.lemmas.List.Elements.{All-nil}
use Rattle.run_record.specs.declared.event.Event.{Event}
use Rattle.run_record.specs.declared.event.Event.TheVariants as events
use Rattle.run_record.specs.declared.entry.Check.{Check}
use Rattle.run_record.specs.declared.entry.Label.{Label}
use Rattle.elf_image.specs.File.{granule_of, granules_of}
use Rattle.run_laws.specs.Moments.{Does, Moment, items}
use Rattle.run_laws.specs.Accesses.{Access, access_of}
use Rattle.run_laws.specs.Labels.{raises}
use Rattle.sync_slab.specs.Objects.{SyncObjects}
use Rattle.std.proofs.lemmas.List.{set-get_or}
use Rattle.run_laws.specs.Checks.{StoresRightly}
use Rattle.run_laws.specs.Present.{labels_now, label_now, clocks_now, queue_now}
use Rattle.run_laws.proofs.LabelLaw.{label_parts}
use Rattle.slot_desk.specs.Desks.{held_of}
use Rattle.slot_desk.proofs.HistorySteps.{labelled_holds}
use Rattle.race_core.specs.Walk.{planned, pair_of}
use Rattle.run_laws.specs.Accesses.{parts_of}
use Rattle.race_core.specs.declared.watcher.Candidate.{Candidate}
use Rattle.race_core.specs.Watched.{Watched, AreWatcherLimits, new_watched}
use Rattle.turn_laws.specs.Going.{AreRightNow, LoadsNow}
use Rattle.report_laws.specs.Sound.{first_race_in}
use Rattle.hart_events.specs.declared.checks.Raced.{Raced}
use Rattle.hart_events.specs.Events.{MayRaise, MayEnd, IsAlone, lost_after}
use Rattle.slot_desk.proofs.DeskLists.{read_at}
use Rattle.detector.specs.Detected.{Detected, watcher_of, with_watcher, watched_after, after_event, after_note, IsGoing}
use Rattle.hart_events.specs.Checks.{raced_of, waits_on}
use Rattle.detector.specs.Checking.{Checking, IsStanding, ChecksAll}
use Rattle.detector.specs.Stands.{Stands}
use Rattle.slot_desk.specs.Desks.{DeskContents, thread_of}
use Rattle.run_record.specs.declared.limits.Limits.{Limits}
use Rattle.detector.specs.Hears.{Hears, CanHear}
use Rattle.thread_events.proofs.Raises.{own_entry}
use Rattle.thread_events.specs.Heard.{ObjectsAfter, watcher_after, desk_after}
use Rattle.detector.proofs.Events.{spent_none, stands_after, spent_is, leaves_after}
use Rattle.detector.proofs.AccessLaws.{event_of, waits_for, after_access, stands_access, right_after}

-- ---- what the calls need

pub record Needs (d : Detected) (t : ℕ) : Type 0 where
  pub desk_slots : length (watcher_of d t).clock ≡ length d.desk.slots
  pub object_slots : length (watcher_of d t).clock ≡ d.objects.slots
  pub ranges : AreWatcherLimits d.limits
  pub label : IsSomeAnd (watcher_of d t).label (λ (l : Label). l.sid < length (watcher_of d t).clock)
  pub epoch : IsSomeAnd (held_of d.desk t) (λ (h : ℕ × ℕ). (h.1 ≤ slice_index (watcher_of d t).clock h.0) × (slice_index (watcher_of d t).clock h.0 ≤ d.desk.greatest))

pub needs : (granules : ℕ) (d : Detected) (t : ℕ) → IsStanding granules d → IsGoing d t → Needs d t
needs granules d t st going =
    let s = st.stands in
    let w = s.watchers t in
    let g = d.limits.epochs in
    let present = going.era ∙ s.era in
    let slot = label_parts g (items st.history) (length st.history) t going.label (sym (w.label present) ∙ going.labelled) in
    let held = labelled_holds g d.limits.slots (labels_now g st.history) (clocks_now g st.history) (queue_now g d.limits.slots st.history) d.desk t going.label.sid s.desk.desk slot.0 in
    let own = own_entry d.limits st.history t (watcher_of d t) going.label w present going.labelled in
    let most = (w.epoch going.label going.labelled).1 in
    record {
      desk_slots = w.slots ∙ sym s.desk.desk.slots.all_slots;
      object_slots = w.slots ∙ sym s.object_slots;
      ranges = w.in_range;
      label = rw going.labelled (let z = w.slot going.label going.labelled in let y = w.slots in omega arith);
      epoch = rw held.1.1 (let a = held.1.2 in let b = slot.1 in (omega arith, let c = s.desk.desk.greatest in omega arith));
    }

pub may_raise : (granules : ℕ) (d : Detected) (t : ℕ) → IsStanding granules d → IsGoing d t → 0 < (watcher_of d t).trace.spare → (watcher_of d t).trace.count < 2 ^ 64 - 1 → MayRaise (watcher_of d t)
may_raise granules d t st going spare count = record { label = (needs granules d t st going).label; spare = spare; count = count }

-- ---- an access

access_is : (e : Event) (a : Access) → access_of e ≡ Some a → e ≡ event_of a
access_is (events.Access place addr size read atomic) a q = cc
access_is _ a q = absurd (cc)

waits_same : (w : Watched) (a : Access) (o : Option (Check × ℕ)) (waiting : List Candidate) → waits_for w a o waiting ≡ waits_on w a (raced_of o) waiting
waits_same w a None waiting = refl
waits_same w a (Some l) waiting = refl

-- the access of an event, whose parts are all checked
pub hears_access :
    (file : List ℕ) (old mid waited new : Detected) (t place : ℕ) (e : Event) (before after : List Check) (raced : Option Raced) → IsGoing old t → ChecksAll file old mid t place e before after raced →
    ((a : Access) → access_of e ≡ Some a → waited ≡ record mid { waiting = waits_on (watcher_of mid t) a raced mid.waiting }) → new ≡ after_note waited t e → Hears file old.limits old new t place e before after None
hears_access file old mid waited new t place e before after raced going all waited_is new_is =
    let a = all.access in
    let e_is = access_is e a all.is_access in
    let done_is : all.done ≡ planned file a = sym (append-nil all.done) ∙ sym all.parts in
    let found = first_race_in (slice_index (watcher_of old t).clock) all.added in
    let after_is : new ≡ after_access old t a mid.shadow found =
    new_is ∙ (ap (λ (d : Detected). after_note d t e) (waited_is a all.is_access)
    ∙ (ap (λ (d : Detected). after_note (record d { waiting = waits_on (watcher_of d t) a raced d.waiting }) t e) all.rest
    ∙ (ap (λ (r : Option Raced). after_note (record (record old { shadow = mid.shadow }) { waiting = waits_on (watcher_of old t) a r old.waiting }) t e) all.raced_is
    ∙ (ap (λ (ws : List Candidate). after_note (record (record old { shadow = mid.shadow }) { waiting = ws }) t e) (sym (waits_same (watcher_of old t) a found old.waiting))
    ∙ ap (λ (x : Event). after_note (record (record old { shadow = mid.shadow }) { waiting = waits_for (watcher_of old t) a found old.waiting }) t x) e_is)))) in
    let checked : (from : ℕ) (h : List Moment) (checks : List Check) → checks ≡ all.added → Stands (granules_of file) old.limits from None h old → Checking (granules_of file) old.limits h t a (map pair_of (parts_of (granule_of file) a)) checks mid.shadow =
    λ from h checks same s. subst (λ (done : List (ℕ × ℕ)). Checking (granules_of file) old.limits h t a done checks mid.shadow) done_is (subst (λ (cs : List Check). Checking (granules_of file) old.limits h t a all.done cs mid.shadow) (sym same) (all.checking from None h s)) in
    record {
      added = all.added;
      checks_are = all.checks_are;
      of_event = all.of_event;
      right = λ from h s.
          let m : Moment = record { entry = 0; round = 0; item = Does t (event_of a); checks = all.added } in
          subst (λ (x : Event). AreRightNow old.limits.epochs (granule_of file) h t x all.added) (sym e_is) (right_after (granules_of file) old.limits from h m old t a mid.shadow s going refl (granule_of file) (checked from h all.added refl s));
      stands = λ from h m s made none.
          subst (Stands (granules_of file) old.limits from None (h ++ m ∷ [])) (sym after_is)
          (stands_access (granules_of file) old.limits from h m old t a mid.shadow s going (made ∙ ap (Does t) e_is) (granule_of file) (checked from h m.checks none s) found (ap (first_race_in (slice_index (watcher_of old t).clock)) none) going.watched);
      spent_is = λ from h s. spent_none old.limits.epochs (label_now old.limits.epochs h t) e (ap (λ (x : Event). raises x == 1) e_is);
      desk = ap (λ (d : Detected). d.desk) after_is ∙ ap (λ (x : Event). desk_after old.desk t (watcher_of old t).clock x) (sym e_is);
      leaves = λ from h l s q. absurd (cc);
    }

-- what waits leaves the watchers as they were
pub kept_watchers : (file : List ℕ) (old mid waited : Detected) (t place : ℕ) (e : Event) (before after : List Check) (raced : Option Raced) → ChecksAll file old mid t place e before after raced →
    ((a : Access) → access_of e ≡ Some a → waited ≡ record mid { waiting = waits_on (watcher_of mid t) a raced mid.waiting }) → (waited.watchers ≡ old.watchers) × (watcher_of waited t ≡ watcher_of old t)
kept_watchers file old mid waited t place e before after raced all waited_is = (
  ap (λ (d : Detected). d.watchers) (waited_is all.access all.is_access) ∙ ap (λ (d : Detected). d.watchers) all.rest,
  ap (λ (d : Detected). watcher_of d t) (waited_is all.access all.is_access) ∙ ap (λ (d : Detected). watcher_of d t) all.rest,
)

-- ---- the other events

-- the watcher that a call was lent
lent : (old inside : Detected) (t : ℕ) (y : Watched) → inside ≡ old → t < length old.watchers → y ≡ get_or inside.watchers t y → y ≡ watcher_of old t
lent old inside t y at watched here =
    read_at inside.watchers t y (new_watched t inside.limits) (subst (λ (d : Detected). t < length d.watchers) (sym at) watched) here ∙ ap (λ (d : Detected). watcher_of d t) at

pub may_end : (granules : ℕ) (old inside : Detected) (t : ℕ) (y : Watched) → IsStanding granules old → IsGoing old t → inside ≡ old → y ≡ get_or inside.watchers t y → MayEnd inside.desk t y.clock events.End
may_end granules old inside t y st going at here =
    subst (λ (w : Watched). MayEnd inside.desk t w.clock events.End) (sym (lent old inside t y at going.watched here))
    (subst (λ (d : Detected). MayEnd d.desk t (watcher_of old t).clock events.End) (sym at) (needs granules old t st going).epoch)

-- what a call makes of the watcher that it was lent, and of the desk
abbrev pub gone_on : Detected → ℕ → Event → SyncObjects → DeskContents → Watched → Detected
gone_on d t e set desk x = record d { desk = desk; objects = set; watchers = watched_after d.limits e (slice_set d.watchers t x) }

pub after_call :
    (old inside : Detected) (t : ℕ) (y x : Watched) (f : Event) (desk : DeskContents) (set : SyncObjects) → inside ≡ old → t < length old.watchers → y ≡ get_or inside.watchers t y →
    x ≡ watcher_after (thread_of inside.desk t).told inside.objects inside.desk f y → desk ≡ desk_after inside.desk t y.clock f → gone_on inside t f set desk x ≡ after_event old t f set
after_call old inside t y x f desk set at watched here x_is desk_is =
    let after : Watched → Watched = watcher_after (thread_of inside.desk t).told inside.objects inside.desk f in
    let same : y ≡ watcher_of inside t = lent old inside t y at watched here ∙ ap (λ (d : Detected). watcher_of d t) (sym at) in
    ap (gone_on inside t f set desk) x_is
    ∙ (ap (λ (z : DeskContents). gone_on inside t f set z (after y)) desk_is
    ∙ (ap (λ (z : Watched). gone_on inside t f set (desk_after inside.desk t z.clock f) (after z)) same
    ∙ ap (λ (d : Detected). after_event d t f set) at))

-- an event that its thread hears alone leaves objects, desk and label
record IsHeardAlone (e : Event) : Type 0 where
  objects : (era : ℕ) (clock : List ℕ) (set : SyncObjects) → ObjectsAfter era clock e set set
  desk : (d : DeskContents) (t : ℕ) (clock : List ℕ) → d ≡ desk_after d t clock e
  still : (limits : Limits) (ws : List Watched) → ws ≡ watched_after limits e ws
  unspent : (w : Watched) → None ≡ lost_after e w

heard_alone : (e : Event) → IsAlone e → IsHeardAlone e
heard_alone (events.Enter frame) is = record { objects = λ era clock set. refl; desk = λ d t clock. refl; still = λ limits ws. refl; unspent = λ w. refl }
heard_alone events.Leave is = record { objects = λ era clock set. refl; desk = λ d t clock. refl; still = λ limits ws. refl; unspent = λ w. refl }
heard_alone (events.Lock addr read) is = record { objects = λ era clock set. refl; desk = λ d t clock. refl; still = λ limits ws. refl; unspent = λ w. refl }
heard_alone (events.Unlock addr read) is = record { objects = λ era clock set. refl; desk = λ d t clock. refl; still = λ limits ws. refl; unspent = λ w. refl }
heard_alone (events.Access place addr size read atomic) is = record { objects = λ era clock set. refl; desk = λ d t clock. refl; still = λ limits ws. refl; unspent = λ w. refl }
heard_alone (events.Put value count) is = record { objects = λ era clock set. refl; desk = λ d t clock. refl; still = λ limits ws. refl; unspent = λ w. refl }
heard_alone _ is = absurd is

module _ (file : List ℕ) (old : Detected) (t place : ℕ) (e : Event) (checks : List Check) (going : IsGoing old t) (can : CanHear old t e) where
  abbrev w : Watched
  w = watcher_of old t

  -- an event without checks, which leaves these objects
  hears : (set : SyncObjects) → access_of e ≡ None → ObjectsAfter w.era w.clock e old.objects set → Hears file old.limits old (after_event old t e set) t place e checks checks (lost_after e w)
  hears set alone changed = record {
    added = [];
    checks_are = sym (append-nil checks);
    of_event = All-nil (λ (c : Check). c.event ≡ place);
    right = λ from h s. record { of_access = rw alone refl; stores = All-nil StoresRightly; loads = All-nil (LoadsNow h) };
    stands = λ from h m s made none. stands_after (granules_of file) old.limits from h m old t s going none e set made can changed;
    spent_is = λ from h s. spent_is (granules_of file) old.limits from h (made h) old t s going refl e refl;
    desk = refl;
    leaves = λ from h l s q. leaves_after (granules_of file) old.limits from h (made h) old t s going refl e set l refl can q;
  }
    where
      made : List Moment → Moment
      made h = record { entry = 0; round = 0; item = Does t e; checks = [] }

  -- the same by the name of the event that a call had
  pub hears_event :
      (new : Detected) (f : Event) (set : SyncObjects) (spent : Option Label) → e ≡ f → access_of f ≡ None → ObjectsAfter w.era w.clock f old.objects set → new ≡ after_event old t f set → spent ≡ lost_after f w →
      Hears file old.limits old new t place e checks checks spent
  hears_event new f set spent e_is alone changed new_is is =
      let after : new ≡ after_event old t e set = new_is ∙ ap (λ (x : Event). after_event old t x set) (sym e_is) in
      let lost : spent ≡ lost_after e w = is ∙ ap (λ (x : Event). lost_after x w) (sym e_is) in
      subst (λ (n : Detected). Hears file old.limits old n t place e checks checks spent) (sym after)
      (subst (λ (o : Option Label). Hears file old.limits old (after_event old t e set) t place e checks checks o) (sym lost)
      (hears set (ap access_of e_is ∙ alone) (subst (λ (x : Event). ObjectsAfter w.era w.clock x old.objects set) (sym e_is) changed)))

  -- by a call that was lent the watcher y and left x
  pub hears_call :
      (inside : Detected) (y x : Watched) (f : Event) (desk : DeskContents) (set : SyncObjects) (spent : Option Label) → inside ≡ old → y ≡ get_or inside.watchers t y → e ≡ f → access_of f ≡ None →
      x ≡ watcher_after (thread_of inside.desk t).told inside.objects inside.desk f y → desk ≡ desk_after inside.desk t y.clock f → ObjectsAfter y.era y.clock f inside.objects set → spent ≡ lost_after f y →
      Hears file old.limits old (gone_on inside t f set desk x) t place e checks checks spent
  hears_call inside y x f desk set spent at here e_is alone x_is desk_is changed is =
      let same = lent old inside t y at going.watched here in
      hears_event (gone_on inside t f set desk x) f set spent e_is alone
      (subst (λ (d : Detected). ObjectsAfter w.era w.clock f d.objects set) at (subst (λ (z : Watched). ObjectsAfter z.era z.clock f inside.objects set) same changed))
      (after_call old inside t y x f desk set at going.watched here x_is desk_is) (is ∙ ap (lost_after f) same)

  -- an event that leaves its thread's watcher as it was
  pub hears_still :
      (inside : Detected) (f : Event) (set : SyncObjects) → inside ≡ old → e ≡ f → access_of f ≡ None → ObjectsAfter w.era w.clock f inside.objects set → record (with_watcher old t w) { objects = set } ≡ after_event old t f set → None ≡ lost_after f w →
      Hears file old.limits old (record inside { objects = set }) t place e checks checks None
  hears_still inside f set at e_is alone changed still unspent =
      hears_event (record inside { objects = set }) f set None e_is alone (subst (λ (d : Detected). ObjectsAfter w.era w.clock f d.objects set) at changed)
      (ap (λ (d : Detected). record d { objects = set }) at ∙ (ap (λ (ws : List Watched). record old { watchers = ws; objects = set }) (sym (set-get_or old.watchers t (new_watched t old.limits))) ∙ still)) unspent

  -- an event that its thread hears alone
  pub hears_alone : (inside : Detected) (y x : Watched) → inside ≡ old → y ≡ get_or inside.watchers t y → IsAlone e → access_of e ≡ None →
      x ≡ watcher_after (thread_of inside.desk t).told inside.objects inside.desk e y → Hears file old.limits old (record inside { watchers = slice_set inside.watchers t x }) t place e checks checks None
  hears_alone inside y x at here is alone x_is =
      let heard = heard_alone e is in
      subst (λ (ws : List Watched). Hears file old.limits old (record inside { watchers = ws }) t place e checks checks None) (sym (heard.still inside.limits (slice_set inside.watchers t x)))
      (hears_call inside y x e inside.desk inside.objects None at here refl alone x_is (heard.desk inside.desk t y.clock) (heard.objects y.era y.clock inside.objects) (heard.unspent y))
