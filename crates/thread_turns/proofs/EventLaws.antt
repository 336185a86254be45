-- One event of a turn.
use Rattle.std.proofs.Common.{◌≡◌, ◌≢◌, ℕ, zero, suc, ◌+◌, ◌*◌, ◌<◌, ◌≤◌, ◌^◌, ◌-◌, ◌⊎◌, ◌||◌, inl, inr, ◌==◌, Bool, true, false, Option, Some, None, List, [], ◌∷◌, ◌++◌, length, length-append, append_assoc, append-nil, refl, ap, sym, subst, ◌∙◌, arith, eqb-true, eq-eqb, ne_eqb}
use Rattle.std.specs.Prelude.{option_map, option_to_list, fold, if◌then◌else◌}
use Rattle.std.specs.List.{list_any, enumerate_from}
use Rattle.std.proofs.lemmas.Bool.{cases_eq, cases_lt, le-ltb}
use Rattle.std.proofs.Math.ListN.{length-set, length-map}
use Rattle.std.proofs.Common.{get_or}
use Rattle.std.proofs.lemmas.List.Sums.{fold-append}
use Rattle.run_record.specs.declared.event.Event.{Event}
use Rattle.run_record.specs.declared.event.Event.TheVariants as events
use Rattle.run_record.specs.declared.entry.Check.{Check}
use Rattle.run_record.specs.declared.entry.Label.{Label}
use Rattle.run_record.specs.declared.limits.Limits.{Limits}
use Rattle.elf_image.specs.File.{granule_of, granules_of}
use Rattle.run_record.specs.declared.entry.DeskNote.TheVariants.{Nothing, Attach, Leave}
use Rattle.run_laws.specs.Moments.{Item, Does, Notes, NewEra, Past, Moment, items}
use Rattle.run_laws.specs.Moments.{entry_moments, event_moment}
use Rattle.run_laws.specs.Window.{TraceEvent, Traced, Labelled, is_traced}
use Rattle.run_laws.specs.Labels.{Labels, raises, slot_after, next_labels, label_of}
use Rattle.run_laws.specs.Present.{labels_now, label_now, frames_now, clocks_now, queue_now}
use Rattle.run_laws.proofs.PresentLaw.{labels_now-push}
use Rattle.slot_desk.specs.Desks.{thread_of, held_of}
use Rattle.slot_desk.proofs.HistorySteps.{labelled_holds}
use Rattle.race_core.specs.Watched.{new_watched, with_events}
use Rattle.race_core.proofs.FrameLaws.{frames_none, frames_event}
use Rattle.turn_laws.specs.Going.{AreRightFrom, HasSpent, AreOfEvents, spent_by}
use Rattle.turn_laws.specs.Turns.{moments_before, entries_before}
use Rattle.turn_laws.proofs.StepsLaw.{event_is}
use Rattle.turn_laws.proofs.PushLaw.{right-event, spent-event}
use Rattle.turn_laws.proofs.GroupedLaw.{grouped-push, of_events-push}
use Rattle.machine_laws.specs.Threads.{Threads, threads_after, AreThreads}
use Rattle.machine_laws.specs.Events.{AreAllowed, IsAllowed, is_last}
use Rattle.machine_laws.specs.Agrees.{Agrees}
use Rattle.machine_laws.proofs.ThreadLaw.{made_of, one_kept, depth_own, depth_other}
use Rattle.machine_laws.proofs.DeskLaw.{create_answer, create_after, end_after, join_done, stays}
use Rattle.detector.specs.Detected.{Detected, watcher_of, Room, after_room, IsGoing}
use Rattle.detector.specs.Checking.{IsStanding}
use Rattle.thread_events.specs.Heard.{desk_after}
use Rattle.detector.specs.Hears.{CanHear, Hears}
use Rattle.detector.specs.Stands.{Stands}
use Rattle.race_core.specs.History.{era_now}
use Rattle.thread_events.proofs.Longer.{era_stays}
use Rattle.detector.proofs.NoteLaws.{stands_room}
use Rattle.thread_turns.specs.declared.part.Part.{Part}
use Rattle.thread_turns.specs.Going.{Setting, turn_of, so_far, entry_of, HasSlot, Hearing}
use Rattle.thread_turns.specs.Turned.{MayHear, Heard, HearsAll, CanHearAll}

-- ---- threads that go on

-- a thread that holds a slot goes on in the present era
pub going_of : (granules : ℕ) (limits : Limits) (from : ℕ) (leaving : Option ℕ) (h : List Moment) (d : Detected) (t sid : ℕ) → Stands granules limits from leaving h d → t < length d.watchers → (thread_of d.desk t).lives ≡ true → (labels_now limits.epochs h).slot_of t ≡ Some sid → IsGoing d t
going_of granules limits from leaving h d t sid s watched alive slot =
    let l : Label = record { sid = sid; epoch = (labels_now limits.epochs h).epoch sid; era = (labels_now limits.epochs h).era } in
    let label : label_now limits.epochs h t ≡ Some l = ap (option_map (λ (r : ℕ). record { sid = r; epoch = (labels_now limits.epochs h).epoch r; era = (labels_now limits.epochs h).era })) slot in
    let present : (watcher_of d t).era ≡ (labels_now limits.epochs h).era = era_is (s.watchers t).era (s.watchers t).no_label label in
    record { watched = watched; alive = alive; era = present ∙ sym s.era; label = l; labelled = (s.watchers t).label present ∙ label }
  where
    era_is : {x y : ℕ} {o : Option Label} {l : Label} → x ≤ y → (x < y → o ≡ None) → o ≡ Some l → x ≡ y
    era_is {x} {y} most none some = elim (cases_lt x y) [
      | inl less ↦ absurd (let q = sym (none less) ∙ some in cc)
      | inr more ↦ omega arith
    ]

-- a trace has at most two events a moment
few_traced : (g : ℕ) (h : ℕ → Item) (n t : ℕ) (item : Item) → length (Rattle.run_laws.specs.Window.traced_by g h n t item) ≤ 2
few_traced g h n t (Does u e) = go (u == t) (is_traced e) (raises e == 1) (label_of g h (suc n) t)
  where
    go : (a b c : Bool) (o : Option Label) → length (if a then (if b then Traced e ∷ [] else []) ++ (if c then option_to_list (option_map Labelled o) else []) else []) ≤ 2
    go false b c o = omega arith
    go true false false o = omega arith
    go true true false o = omega arith
    go true false true None = omega arith
    go true false true (Some l) = omega arith
    go true true true None = omega arith
    go true true true (Some l) = omega arith
few_traced g h n t (Notes u (Attach l)) = go (u == t)
  where
    go : (a : Bool) → length (if a then Labelled l ∷ [] else []) ≤ 2
    go true = omega arith
    go false = omega arith
few_traced g h n t (Notes u Nothing) = omega arith
few_traced g h n t (Notes u (Leave l)) = omega arith
few_traced g h n t NewEra = omega arith
few_traced g h n t Past = omega arith

pub few_in_trace : (g : ℕ) (h : ℕ → Item) (n t : ℕ) → length (Rattle.run_laws.specs.Window.trace_before g h n t) ≤ 2 * n
few_in_trace g h zero t = omega arith
few_in_trace g h (suc n) t = omega (arith, few_in_trace g h n t, few_traced g h n t (h n), length-append (Rattle.run_laws.specs.Window.trace_before g h n t) (Rattle.run_laws.specs.Window.traced_by g h n t (h n)))

-- the slot that a thread holds after an event that doesn't end its epoch
slot_stays : (g : ℕ) (h : List Moment) (m : Moment) (t sid : ℕ) (e : Event) → m.item ≡ Does t e → is_last e ≡ false → (labels_now g h).slot_of t ≡ Some sid → (labels_now g (h ++ m ∷ [])).slot_of t ≡ Some sid
slot_stays g h m t sid e made last slot =
    ap (λ (l : Labels). l.slot_of t) (labels_now-push g h m ∙ ap (λ (i : Item). next_labels g (labels_now g h) i) made)
    ∙ (rw (eq-eqb t t refl) refl ∙ (ap (λ (o : Option ℕ). slot_after g (labels_now g h).epoch o e) slot ∙ kept e last))
  where
    kept : (e : Event) → is_last e ≡ false → slot_after g (labels_now g h).epoch (Some sid) e ≡ Some sid
    kept (events.Create child) q = absurd (cc)
    kept (events.Release addr part replaces) q = absurd (cc)
    kept events.End q = absurd (cc)
    kept events.Begin q = refl
    kept (events.Join of) q = refl
    kept (events.Enter frame) q = refl
    kept events.Leave q = refl
    kept (events.Lock addr read) q = refl
    kept (events.Unlock addr read) q = refl
    kept (events.Acquire addr part) q = refl
    kept (events.Destroy addr) q = refl
    kept (events.Clear addr) q = refl
    kept (events.Access place addr size read atomic) q = refl
    kept (events.Put value count) q = refl

-- an event that isn't a last one spends nothing
spends_none : (g : ℕ) (o : Option Label) (e : Event) → is_last e ≡ false → spent_by g o e ≡ None
spends_none g None e q = refl
spends_none g (Some l) (events.Create child) q = absurd (cc)
spends_none g (Some l) (events.Release addr part replaces) q = absurd (cc)
spends_none g (Some l) _ q = refl

abbrev label_at : ℕ → List Moment → ℕ → Label
label_at g h r = record { sid = r; epoch = (labels_now g h).epoch r; era = (labels_now g h).era }

-- what an event spends is lost
lost : (g : ℕ) (h : List Moment) (m : Moment) (t sid : ℕ) (e : Event) (l : Label) → m.item ≡ Does t e → (labels_now g h).slot_of t ≡ Some sid → spent_by g (label_now g h t) e ≡ Some l → (labels_now g (h ++ m ∷ [])).slot_of t ≡ None
lost g h m t sid e l made slot spent =
    ap (λ (l : Labels). l.slot_of t) (labels_now-push g h m ∙ ap (λ (i : Item). next_labels g (labels_now g h) i) made)
    ∙ (rw (eq-eqb t t refl) refl ∙ (ap (λ (o : Option ℕ). slot_after g (labels_now g h).epoch o e) slot ∙ go e ((labels_now g h).epoch sid == g) refl (sym (ap (λ (o : Option ℕ). spent_by g (option_map (label_at g h) o) e) slot) ∙ spent)))
  where
    go : (e : Event) (b : Bool) → ((labels_now g h).epoch sid == g) ≡ b → spent_by g (Some (label_at g h sid)) e ≡ Some l → slot_after g (labels_now g h).epoch (Some sid) e ≡ None
    go (events.Create child) true q r = rw (le-ltb ((labels_now g h).epoch sid) g (let z = eqb-true ((labels_now g h).epoch sid) g q in omega arith)) refl
    go (events.Create child) false q r = absurd (let z = rw q at r in cc)
    go (events.Release addr part replaces) true q r = rw (le-ltb ((labels_now g h).epoch sid) g (let z = eqb-true ((labels_now g h).epoch sid) g q in omega arith)) refl
    go (events.Release addr part replaces) false q r = absurd (let z = rw q at r in cc)
    go _ b q r = absurd (cc)

made_grows : (t : ℕ) (threads : Threads) (e : Event) → threads.made ≤ (threads_after t threads e).made
made_grows t threads (events.Create child) = omega arith
made_grows t threads _ = omega arith

-- ---- the event

module _ (s : Setting) (threads : Threads) (e : Event) (rest : List Event) (p : Part) (d : Detected) (may : MayHear s threads (e ∷ rest) p d) where
  abbrev t : ℕ
  t = s.tid

  abbrev h : List Moment
  h = so_far s p

  abbrev g : ℕ
  g = s.limits.epochs

  abbrev granules : ℕ
  granules = granules_of s.file

  pub slot : HasSlot s p
  slot = elim may.slot [
    | inl none ↦ absurd (cc)
    | inr has ↦ has
  ]

  pub standing : Stands granules s.limits s.from None h d
  standing = subst (λ (o : Option Label). Stands granules s.limits s.from (option_map (λ (l : Label). t) o) h d) slot.unspent may.hearing.stands

  allowed : IsAllowed s.limits.harts threads t e rest
  allowed = may.allowed.0

  alive : (thread_of d.desk t).lives ≡ true
  alive = may.hearing.agrees.lives_are t ∙ allowed.alive

  pub roomy : (spare : Room) → Stands granules s.limits s.from None h (after_room d t spare)
  roomy spare = stands_room granules s.limits s.from None h d t spare standing may.hearing.watched

  long : (spare : Room) → length (after_room d t spare).watchers ≡ length d.watchers
  long spare = length-set d.watchers t (with_events spare.events (watcher_of d t))

  pub going : (spare : Room) → IsGoing (after_room d t spare) t
  going spare = going_of granules s.limits s.from None h (after_room d t spare) t slot.sid (roomy spare) (let x = long spare in let y = may.hearing.watched in omega arith) alive slot.slot

  pub its_count : (spare : Room) → (watcher_of (after_room d t spare) t).trace.count < 2 ^ 64 - 1
  its_count spare = let a = ((roomy spare).watchers t).trace.counted in let b = few_in_trace g (items h) (length h) t in let c = may.room in omega arith

  pub can_hear : (spare : Room) → CanHear (after_room d t spare) t e
  can_hear spare = go e allowed
    where
      clock : List ℕ
      clock = (watcher_of (after_room d t spare) t).clock

      depth : length (watcher_of (after_room d t spare) t).frames ≡ threads.depth t
      depth = ap length ((roomy spare).watchers t).frames ∙ may.hearing.depths t

      go : (f : Event) → IsAllowed s.limits.harts threads t f rest → CanHear (after_room d t spare) t f
      go (events.Create child) a =
          let answer = create_answer s.limits.harts threads d.desk child may.hearing.agrees a.may in
          let after = create_after s.limits.harts threads d.desk t child rest clock may.hearing.agrees a in
          (answer.1, after.lives_are t ∙ lives (t == child) a.alive)
        where
          lives : (b : Bool) → threads.lives t ≡ true → (if b then true else threads.lives t) ≡ true
          lives true q = refl
          lives false q = q
      go (events.Join of) a = join_done s.limits.harts threads d.desk of may.hearing.agrees a.may
      go (events.Enter frame) a = let x = a.may in omega (arith, depth)
      go (events.Access place addr size read atomic) a = a.may.few
      go events.Begin a = tt
      go events.End a = tt
      go events.Leave a = tt
      go (events.Lock addr read) a = tt
      go (events.Unlock addr read) a = tt
      go (events.Acquire addr part) a = tt
      go (events.Release addr part replaces) a = tt
      go (events.Destroy addr) a = tt
      go (events.Clear addr) a = tt
      go (events.Put value count) a = tt

  pub limits_are : d.limits ≡ s.limits
  limits_are = standing.limits_are

  module _ (spare : Room) (d' : Detected) (after : List Check) (spent : Option Label) (heard : Hears s.file s.limits (after_room d t spare) d' t (length p.events) e p.checks after spent) where
    abbrev q : Part
    q = record p { events = p.events ++ e ∷ []; checks = after; spent = spent }

    abbrev m : Moment
    m = record { entry = length (entries_before s.entries (turn_of s p)); round = s.round; item = Does t e; checks = heard.added }

    later : so_far s q ≡ h ++ m ∷ []
    later =
        ap (λ (cs : List Check). so_far s (record p { events = p.events ++ e ∷ []; checks = cs; spent = spent })) heard.checks_are
        ∙ event_is s.entries (turn_of s p) e heard.added may.hearing.of_events heard.of_event

    before_same : length (moments_before s.entries (turn_of s q)) ≡ length (moments_before s.entries (turn_of s p))
    before_same = refl

    late : length (moments_before s.entries (turn_of s p)) ≤ length h
    late = omega (arith, length-append (moments_before s.entries (turn_of s p)) (entry_moments (length (entries_before s.entries (turn_of s p))) (entry_of s p)))

    spent_is : spent ≡ spent_by g (label_now g h t) e
    spent_is = heard.spent_is s.from h (roomy spare)

    label_lost : (l : Label) → spent ≡ Some l → (labels_now g (h ++ m ∷ [])).slot_of t ≡ None
    label_lost l is = lost g h m t slot.sid e l refl slot.slot (sym spent_is ∙ is)

    agrees : Agrees s.limits.harts (threads_after t threads e) d'.desk
    agrees = subst (Agrees s.limits.harts (threads_after t threads e)) (sym heard.desk) (go e allowed)
      where
        clock : List ℕ
        clock = (watcher_of (after_room d t spare) t).clock

        held : held_of d.desk t ≢ None
        held none = let x = labelled_holds g s.limits.slots (labels_now g h) (clocks_now g h) (queue_now g s.limits.slots h) d.desk t slot.sid standing.desk.desk slot.slot in let y = sym none ∙ x.1.1 in cc

        go : (f : Event) → IsAllowed s.limits.harts threads t f rest → Agrees s.limits.harts (threads_after t threads f) (desk_after d.desk t clock f)
        go (events.Create child) a = create_after s.limits.harts threads d.desk t child rest clock may.hearing.agrees a
        go events.End a = end_after s.limits.harts threads d.desk t rest clock may.hearing.agrees a held
        go (events.Join of) a = stays s.limits.harts threads d.desk t (events.Join of) rest may.hearing.agrees a (λ x. cc) (λ n x. cc)
        go (events.Enter frame) a = stays s.limits.harts threads d.desk t (events.Enter frame) rest may.hearing.agrees a (λ x. cc) (λ n x. cc)
        go (events.Access place addr size read atomic) a = stays s.limits.harts threads d.desk t (events.Access place addr size read atomic) rest may.hearing.agrees a (λ x. cc) (λ n x. cc)
        go events.Begin a = stays s.limits.harts threads d.desk t events.Begin rest may.hearing.agrees a (λ x. cc) (λ n x. cc)
        go events.Leave a = stays s.limits.harts threads d.desk t events.Leave rest may.hearing.agrees a (λ x. cc) (λ n x. cc)
        go (events.Lock addr read) a = stays s.limits.harts threads d.desk t (events.Lock addr read) rest may.hearing.agrees a (λ x. cc) (λ n x. cc)
        go (events.Unlock addr read) a = stays s.limits.harts threads d.desk t (events.Unlock addr read) rest may.hearing.agrees a (λ x. cc) (λ n x. cc)
        go (events.Acquire addr part) a = stays s.limits.harts threads d.desk t (events.Acquire addr part) rest may.hearing.agrees a (λ x. cc) (λ n x. cc)
        go (events.Release addr part replaces) a = stays s.limits.harts threads d.desk t (events.Release addr part replaces) rest may.hearing.agrees a (λ x. cc) (λ n x. cc)
        go (events.Destroy addr) a = stays s.limits.harts threads d.desk t (events.Destroy addr) rest may.hearing.agrees a (λ x. cc) (λ n x. cc)
        go (events.Clear addr) a = stays s.limits.harts threads d.desk t (events.Clear addr) rest may.hearing.agrees a (λ x. cc) (λ n x. cc)
        go (events.Put value count) a = stays s.limits.harts threads d.desk t (events.Put value count) rest may.hearing.agrees a (λ x. cc) (λ n x. cc)

    depths : (u : ℕ) → length (frames_now (h ++ m ∷ []) u) ≡ (threads_after t threads e).depth u
    depths u = elim (cases_eq t u) [
      | inl is ↦ subst (λ (v : ℕ). length (frames_now (h ++ m ∷ []) v) ≡ (threads_after t threads e).depth v) is (ap length (frames_event h m t e refl) ∙ depth_own t threads e (frames_now h t) (may.hearing.depths t))
      | inr other ↦ ap length (frames_none h m u (rw (ne_eqb t u other) refl)) ∙ (may.hearing.depths u ∙ sym (depth_other t u threads e (λ is. other (sym is))))
    ]

    stands : Stands granules s.limits s.from (option_map (λ (l : Label). t) spent) (so_far s q) d'
    stands = subst (λ (ms : List Moment). Stands granules s.limits s.from (option_map (λ (l : Label). t) spent) ms d') (sym later) (heard.stands s.from h m (roomy spare) refl refl)

    pub hearing_after : Hearing s (threads_after t threads e) q d'
    hearing_after = record {
      stands = stands;
      era = stands.era ∙ (ap (era_now g) later ∙ (era_stays g h m (λ x. cc) ∙ (sym standing.era ∙ may.hearing.era)));
      watched = let x = made_of threads t may.are_threads allowed.alive in let w = made_grows t threads e in let y = stands.as_many in let z = agrees.made_are in omega arith;
      agrees = agrees;
      depths = λ u. ap (λ (ms : List Moment). length (frames_now ms u)) later ∙ depths u;
      right = subst (λ (ms : List Moment). AreRightFrom g (granule_of s.file) ms (length (moments_before s.entries (turn_of s p)))) (sym later) (right-event g (granule_of s.file) h (length (moments_before s.entries (turn_of s p))) t e m may.hearing.right late refl (heard.right s.from h (roomy spare)));
      spent = subst (λ (ms : List Moment). HasSpent s.limits ms (length (moments_before s.entries (turn_of s p))) t spent) (sym later) (subst (HasSpent s.limits (h ++ m ∷ []) (length (moments_before s.entries (turn_of s p))) t) (sym spent_is) (spent-event s.limits h (length (moments_before s.entries (turn_of s p))) t e m (subst (HasSpent s.limits h (length (moments_before s.entries (turn_of s p))) t) slot.unspent may.hearing.spent) late refl));
      grouped = subst (λ (cs : List Check). Rattle.run_laws.specs.Checks.IsGrouped (entry_of s (record p { events = p.events ++ e ∷ []; checks = cs; spent = spent }))) (sym heard.checks_are) (grouped-push (entry_of s p) e heard.added may.hearing.grouped may.hearing.of_events heard.of_event);
      of_events = subst (λ (cs : List Check). AreOfEvents (entry_of s (record p { events = p.events ++ e ∷ []; checks = cs; spent = spent }))) (sym heard.checks_are) (of_events-push (entry_of s p) e heard.added may.hearing.of_events heard.of_event);
      leaves = λ l is. record { leaving = heard.leaves s.from h l (roomy spare) is; lost = ap (λ (ms : List Moment). (labels_now g ms).slot_of t) later ∙ label_lost l is };
    }

    pub slot_after_it : is_last e ≡ false → HasSlot s q
    slot_after_it last = record {
      sid = slot.sid;
      slot = ap (λ (ms : List Moment). (labels_now g ms).slot_of t) later ∙ slot_stays g h m t slot.sid e refl last slot.slot;
      unspent = spent_is ∙ spends_none g (label_now g h t) e last;
      had = slot.had;
    }

    pub longer : length (so_far s q) ≡ length h + 1
    longer = ap length later ∙ length-append h (m ∷ [])

-- ---- all events of an instruction

-- The first k events are heard, and the others can be.
pub record Partway (file : List ℕ) (tid k : ℕ) (events : List Event) (p q : Part) (old new : Detected) : Type 0 where
  pub done : List Event
  pub rest : List Event
  pub split : events ≡ done ++ rest
  pub count : length done ≡ k
  pub so_far_is : (s : Setting) (threads : Threads) → s.file ≡ file → s.tid ≡ tid → MayHear s threads events p old → Heard s threads done p q new × MayHear s (fold (threads_after s.tid) threads done) rest q new

pub partway_start : (file : List ℕ) (tid : ℕ) (events : List Event) (p : Part) (d : Detected) → Partway file tid 0 events p p d d
partway_start file tid events p d = record {
  done = [];
  rest = events;
  split = refl;
  count = refl;
  so_far_is = λ s threads f t may. (record { hearing = may.hearing; slot = λ none has. has; added = sym (append-nil p.events); attached = refl; steps = refl; used = refl; grown = omega arith }, may);
}

pub partway_end : (file : List ℕ) (tid k : ℕ) (events : List Event) (p q : Part) (old new : Detected) → Partway file tid k events p q old new → length events ≤ k → HearsAll file tid events p q old new
partway_end file tid k events p q old new w all s threads f t may =
    let none : w.rest ≡ [] = empty w.rest (omega (arith, w.count, ap length w.split, length-append w.done w.rest)) in
    subst (λ (es : List Event). Heard s threads es p q new) (sym (w.split ∙ (ap (λ (es : List Event). w.done ++ es) none ∙ append-nil w.done))) (w.so_far_is s threads f t may).0
  where
    empty : (es : List Event) → length es ≡ 0 → es ≡ []
    empty [] z = refl
    empty (e ∷ es) z = absurd (omega arith)

-- the event that comes next
pub record NextEvent (file : List ℕ) (tid k : ℕ) (events : List Event) (e : Event) (p q : Part) (old new : Detected) : Type 0 where
  pub done : List Event
  pub rest : List Event
  pub split : events ≡ done ++ e ∷ rest
  pub count : length done ≡ k
  pub so_far_is : (s : Setting) (threads : Threads) → s.file ≡ file → s.tid ≡ tid → MayHear s threads events p old → Heard s threads done p q new × MayHear s (fold (threads_after s.tid) threads done) (e ∷ rest) q new

pub next_event : (file : List ℕ) (tid k : ℕ) (events : List Event) (x : Event) (p q : Part) (old new : Detected) → Partway file tid k events p q old new → k < length events → NextEvent file tid k events (get_or events k x) p q old new
next_event file tid k events x p q old new w within = go w.rest w.split w.so_far_is
  where
    seam : (xs : List Event) (y : Event) (ys : List Event) → get_or (xs ++ y ∷ ys) (length xs) x ≡ y
    seam [] y ys = refl
    seam (z ∷ xs) y ys = seam xs y ys

    go : (rest : List Event) → events ≡ w.done ++ rest → ((s : Setting) (threads : Threads) → s.file ≡ file → s.tid ≡ tid → MayHear s threads events p old → Heard s threads w.done p q new × MayHear s (fold (threads_after s.tid) threads w.done) rest q new) → NextEvent file tid k events (get_or events k x) p q old new
    go [] split is = absurd (omega (arith, w.count, ap length split, length-append w.done []))
    go (f ∷ rest) split is =
        let same : f ≡ get_or events k x = sym (ap (λ (es : List Event). get_or es k x) split ∙ (ap (λ (n : ℕ). get_or (w.done ++ f ∷ rest) n x) (sym w.count) ∙ seam w.done f rest)) in
        subst (λ (y : Event). NextEvent file tid k events y p q old new) same (record { done = w.done; rest = rest; split = split; count = w.count; so_far_is = is })

-- what the detector asks for before it hears the event
pub record Asks (file : List ℕ) (tid : ℕ) (e : Event) (q : Part) (d : Detected) : Type 0 where
  pub going : IsGoing d tid
  pub stands : IsStanding (granules_of file) d
  pub can : CanHear d tid e
  pub count : (watcher_of d tid).trace.count < 2 ^ 64 - 1
  pub place : length q.events < 2 ^ 32

few_events : (s : Setting) (r : Part) → length r.events ≤ length (so_far s r)
few_events s r = omega (arith, length-append (moments_before s.entries (turn_of s r)) (entry_moments (length (entries_before s.entries (turn_of s r))) (entry_of s r)), length-map (enumerate_from 0 r.events) (event_moment (length (entries_before s.entries (turn_of s r))) (entry_of s r)), long 0 r.events)
  where
    long : (n : ℕ) (es : List Event) → length (enumerate_from n es) ≡ length es
    long n [] = refl
    long n (e ∷ es) = ap suc (long (n + 1) es)

pub asks : (file : List ℕ) (tid k : ℕ) (events : List Event) (e : Event) (p q : Part) (old mid new : Detected) (spare : Room) → CanHearAll file tid events p old → NextEvent file tid k events e p q old mid → new ≡ after_room mid tid spare → Asks file tid e q new
asks file tid k events e p q old mid new spare can w is =
    let s = can.setting in
    let threads = fold (threads_after s.tid) can.threads w.done in
    let may = (w.so_far_is s can.threads can.file_is can.tid_is can.may).1 in
    subst (Asks file tid e q) (sym is)
    (subst (λ (x : List ℕ). Asks x tid e q (after_room mid tid spare)) can.file_is
    (subst (λ (u : ℕ). Asks s.file u e q (after_room mid u spare)) can.tid_is
    (record {
      going = going s threads e w.rest q mid may spare;
      stands = record { from = s.from; leaving = None; history = so_far s q; stands = subst (λ (l : Limits). Stands (granules_of s.file) l s.from None (so_far s q) (after_room mid s.tid spare)) (sym (limits_are s threads e w.rest q mid may)) (roomy s threads e w.rest q mid may spare) };
      can = can_hear s threads e w.rest q mid may spare;
      count = its_count s threads e w.rest q mid may spare;
      place = let x = may.room in let y = few_events s q in omega arith;
    })))

-- one more is heard
pub partway_more :
    (file : List ℕ) (tid k : ℕ) (events : List Event) (e : Event) (p q : Part) (old mid new : Detected) (spare : Room) (after : List Check) (spent : Option Label) → NextEvent file tid k events e p q old mid →
    Hears file (after_room mid tid spare).limits (after_room mid tid spare) new tid (length q.events) e q.checks after spent →
    Partway file tid (k + 1) events p (record q { events = q.events ++ e ∷ []; checks = after; spent = spent }) old new
partway_more file tid k events e p q old mid new spare after spent w hears = record {
  done = w.done ++ e ∷ [];
  rest = w.rest;
  split = w.split ∙ sym (append_assoc w.done (e ∷ []) w.rest);
  count = omega (arith, w.count, length-append w.done (e ∷ []));
  so_far_is = λ s threads f t may.
      let was = w.so_far_is s threads f t may in
      let mid_threads = fold (threads_after s.tid) threads w.done in
      let here : Hears s.file s.limits (after_room mid s.tid spare) new s.tid (length q.events) e q.checks after spent =
      subst (λ (l : Limits). Hears s.file l (after_room mid s.tid spare) new s.tid (length q.events) e q.checks after spent) (limits_are s mid_threads e w.rest q mid was.1)
      (subst (λ (u : ℕ). Hears s.file (after_room mid u spare).limits (after_room mid u spare) new u (length q.events) e q.checks after spent) (sym t)
      (subst (λ (x : List ℕ). Hears x (after_room mid tid spare).limits (after_room mid tid spare) new tid (length q.events) e q.checks after spent) (sym f) hears)) in
      let hearing = hearing_after s mid_threads e w.rest q mid was.1 spare new after spent here in
      let longer_is = longer s mid_threads e w.rest q mid was.1 spare new after spent here in
      let folded : fold (threads_after s.tid) threads (w.done ++ e ∷ []) ≡ threads_after s.tid mid_threads e = fold-append (threads_after s.tid) threads w.done (e ∷ []) in (
        record {
          hearing = subst (λ (x : Threads). Hearing s x (record q { events = q.events ++ e ∷ []; checks = after; spent = spent }) new) (sym folded) hearing;
          slot = λ none has. slot_after_it s mid_threads e w.rest q mid was.1 spare new after spent here (last_of w.done e none);
          added = ap (λ (es : List Event). es ++ e ∷ []) was.0.added ∙ append_assoc p.events w.done (e ∷ []);
          attached = was.0.attached;
          steps = was.0.steps;
          used = was.0.used;
          grown = omega (arith, longer_is, was.0.grown, length-append w.done (e ∷ []));
        },
        record {
          limits_are = may.limits_are;
          hearing = subst (λ (x : Threads). Hearing s x (record q { events = q.events ++ e ∷ []; checks = after; spent = spent }) new) (sym folded) hearing;
          are_threads = subst (AreThreads s.limits.harts) (sym folded) (one_kept s.limits.harts mid_threads s.tid e w.rest was.1.are_threads was.1.allowed.0);
          allowed = subst (λ (x : Threads). AreAllowed s.limits.harts x s.tid w.rest) (sym folded) was.1.allowed.1;
          slot = more s w.rest (is_last e) refl was.1.allowed.0 (λ last. slot_after_it s mid_threads e w.rest q mid was.1 spare new after spent here last);
          room = omega (arith, was.1.room, longer_is);
        },
      );
}
  where
    last_of : (done : List Event) (e : Event) → list_any is_last (done ++ e ∷ []) ≡ false → is_last e ≡ false
    last_of [] e none = go (is_last e) none
      where
        go : (b : Bool) → (b || false) ≡ false → b ≡ false
        go true z = absurd (cc)
        go false z = refl
    last_of (x ∷ xs) e none = last_of xs e (go (is_last x) none)
      where
        go : (b : Bool) → (b || list_any is_last (xs ++ e ∷ [])) ≡ false → list_any is_last (xs ++ e ∷ []) ≡ false
        go true z = absurd (cc)
        go false z = z

    more : {threads : Threads} (s : Setting) (rest : List Event) (b : Bool) → is_last e ≡ b → IsAllowed s.limits.harts threads s.tid e rest → (is_last e ≡ false → HasSlot s (record q { events = q.events ++ e ∷ []; checks = after; spent = spent })) →
        (rest ≡ []) ⊎ HasSlot s (record q { events = q.events ++ e ∷ []; checks = after; spent = spent })
    more s rest true z a has = inl (a.last z)
    more s rest false z a has = inr (has z)

pub partway_next :
    (file : List ℕ) (tid k place : ℕ) (events noted : List Event) (e : Event) (p q : Part) (old mid roomy new : Detected) (spare : Room) (after : List Check) (spent : Option Label) → NextEvent file tid k events e p q old mid →
    roomy ≡ after_room mid tid spare → place ≡ length q.events → noted ≡ q.events ++ e ∷ [] → Hears file roomy.limits roomy new tid place e q.checks after spent →
    Partway file tid (k + 1) events p (record q { events = noted; checks = after; spent = spent }) old new
partway_next file tid k place events noted e p q old mid roomy new spare after spent w is at same hears =
    subst (λ (es : List Event). Partway file tid (k + 1) events p (record q { events = es; checks = after; spent = spent }) old new) (sym same)
    (partway_more file tid k events e p q old mid new spare after spent w
    (subst (λ (n : ℕ). Hears file (after_room mid tid spare).limits (after_room mid tid spare) new tid n e q.checks after spent) at
    (subst (λ (d : Detected). Hears file d.limits d new tid place e q.checks after spent) is hears)))
