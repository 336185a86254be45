-- A label for a thread whose next instruction needs a slot.
use Rattle.std.proofs.Common.{◌≡◌, ℕ, ◌+◌, ◌<◌, ◌^◌, ◌-◌, ◌||◌, inl, inr, Bool, true, false, cond, Option, Some, None, List, [], ◌∷◌, ◌++◌, length, length-append, refl, ap, sym, subst, ◌∙◌, arith, is_none}
use Rattle.std.specs.Prelude.{option_map, is_some, IfSome, IfNone}
use Rattle.std.proofs.lemmas.Bool.{and_parts}
use Rattle.std.proofs.lemmas.List.{get_or-set_same}
use Rattle.std.proofs.Math.ListN.{length-set}
use Rattle.run_record.specs.declared.entry.Label.{Label}
use Rattle.run_record.specs.declared.limits.Limits.{Limits}
use Rattle.run_record.specs.declared.entry.DeskNote.TheVariants.{Nothing, Attach}
use Rattle.elf_image.specs.File.{granule_of, granules_of}
use Rattle.run_laws.specs.Moments.{Moment, items}
use Rattle.run_laws.specs.Labels.{Labels, attach_labels}
use Rattle.run_laws.specs.Present.{labels_now, frames_now, clocks_now, queue_now}
use Rattle.run_laws.proofs.PresentLaw.{labels_now-push}
use Rattle.run_laws.proofs.SlotSteps.{attach_slot_here}
use Rattle.run_laws.proofs.EpochRange.{labels_fit}
use Rattle.slot_desk.specs.Desks.{thread_of, held_of, slot_of}
use Rattle.slot_desk.proofs.HistorySteps.{Attaches, attaches, unlabelled}
use Rattle.race_core.specs.Watched.{Watched, new_watched, with_events, with_clock, labelled}
use Rattle.race_core.proofs.FrameLaws.{frames_none}
use Rattle.hart_events.specs.Events.{FrontIsFree}
use Rattle.bare_machine.specs.World.{World}
use Rattle.bare_machine.specs.Preview.{needs_slot}
use Rattle.turn_laws.specs.Going.{AreRightFrom, HasSpent}
use Rattle.turn_laws.specs.Turns.{moments_before, entries_before, note_moment}
use Rattle.turn_laws.proofs.StepsLaw.{begin_is, before_with, before_without, needs_next}
use Rattle.turn_laws.proofs.PushLaw.{right-none, right-quiet, spent-none, spent-quiet}
use Rattle.machine_laws.specs.Threads.{threads_in}
use Rattle.machine_laws.proofs.DeskLaw.{attach_after}
use Rattle.detector.specs.Detected.{Detected, watcher_of, Room, after_room, after_take, IsResting, Takes}
use Rattle.detector.specs.Stands.{Stands}
use Rattle.detector.proofs.NoteLaws.{stands_room, stands_take, stands_nothing, unheld}
use Rattle.slot_desk.specs.Steps as desks
use Rattle.thread_turns.specs.declared.part.Part.{Part}
use Rattle.thread_turns.specs.declared.watched.WatchedMachine.{WatchedMachine}
use Rattle.thread_turns.specs.Going.{Setting, bare, begun, world, turn_of, first, so_far, entry_of, is_needy, CanTake, Hearing, HasSlot, IsQuiet, Running, IsGoingOn}
use Rattle.thread_turns.specs.Turned.{IsTurnOf, CanGo, IsStopped}
use Rattle.thread_turns.proofs.EventLaws.{going_of, few_in_trace}

-- whether the thread can go on, when it has taken a label where it had to
pub record Readies (s : Setting) (goes : Bool) (p q : Part) (old new : WatchedMachine) : Type 0 where
  pub machine : new.machine ≡ old.machine
  pub steps : q.steps ≡ p.steps
  pub used : q.used ≡ p.used
  pub goes_on : goes ≡ true → IsGoingOn s 1 q new × CanGo s q new
  pub stops : goes ≡ false → IsGoingOn s 0 q new × IsStopped s q new

abbrev pub ReadiesAll : List ℕ → ℕ → Bool → Part → Part → WatchedMachine → WatchedMachine → Type 0
ReadiesAll file tid goes p q old new = (s : Setting) → s.file ≡ file → s.tid ≡ tid → IsGoingOn s 0 p old → Readies s goes p q old new

-- what the detector asks for before a thread takes a label
pub record AsksAttach (tid : ℕ) (d : Detected) : Type 0 where
  pub unheld : held_of d.desk tid ≡ None
  pub front : FrontIsFree (watcher_of d tid).greatest d.desk
  pub era : (watcher_of d tid).era ≡ d.era
  pub greatest : (watcher_of d tid).greatest ≡ d.limits.epochs
  pub count : (watcher_of d tid).trace.count < 2 ^ 64 - 1

module _ (s : Setting) (p : Part) (w : WatchedMachine) (on : IsGoingOn s 0 p w) (unused : p.used ≡ false) where
  abbrev t : ℕ
  t = s.tid

  abbrev h : List Moment
  h = first s

  abbrev g : ℕ
  g = s.limits.epochs

  abbrev d : Detected
  d = w.detector

  abbrev granules : ℕ
  granules = granules_of s.file

  alive_there : (thread_of d.desk t).lives ≡ true
  alive_there = on.hearing.agrees.lives_are t ∙ on.alive unused

  -- a thread without a label did nothing so far
  pub quiet_of : (watcher_of d t).label ≡ None → IsQuiet s p d
  quiet_of none = elim (on.phase unused) [
    | inl has ↦ absurd (let going = going_of granules s.limits s.from (option_map (λ (l : Label). t) p.spent) (so_far s p) d t has.sid on.hearing.stands on.hearing.watched alive_there has.slot in let q = sym none ∙ going.labelled in cc)
    | inr quiet ↦ quiet
  ]

  needy_next : is_needy s (p.steps + 1) ≡ (is_needy s p.steps || needs_slot s.file (world s p.steps) t)
  needy_next = needs_next (bare s) (begun s) (entry_of s p)

  still_needy : is_needy s p.steps ≡ true → is_needy s (p.steps + 1) ≡ true
  still_needy is = needy_next ∙ ap (λ (b : Bool). b || needs_slot s.file (world s p.steps) t) is

  needy_now : is_needy s (p.steps + 0) ≡ true → is_needy s p.steps ≡ true
  needy_now is = let z : p.steps ≡ p.steps + 0 = omega arith in ap (is_needy s) z ∙ is

  pub goes : IsGoingOn s 1 p w
  goes = record {
    limits_are = on.limits_are;
    running = on.running;
    hearing = on.hearing;
    taken = λ l is. let was = on.taken l is in (was.0, still_needy (needy_now was.1));
    labelled = on.labelled;
    phase = on.phase;
    alive = on.alive;
    grown = on.grown;
  }

  pub goes_as_it_is : CanGo s p w → Readies s true p p w w
  goes_as_it_is can = record { machine = refl; steps = refl; used = refl; goes_on = λ is. (goes, can); stops = λ is. absurd cc }

  module _ (none : (watcher_of d t).label ≡ None) (spare : Room) where
    abbrev r : Detected
    r = after_room d t spare

    quiet : IsQuiet s p d
    quiet = quiet_of none

    roomy : Stands granules s.limits s.from None h r
    roomy = stands_room granules s.limits s.from None h d t spare quiet.stands on.hearing.watched

    its : watcher_of r t ≡ with_events spare.events (watcher_of d t)
    its = get_or-set_same d.watchers t (with_events spare.events (watcher_of d t)) (new_watched t d.limits) on.hearing.watched

    long : t < length r.watchers
    long = let z = length-set d.watchers t (with_events spare.events (watcher_of d t)) in let y = on.hearing.watched in omega arith

    resting : IsResting r t
    resting = record { watched = long; alive = alive_there; era = ap (λ (x : Watched). x.era) its ∙ quiet.era; unlabelled = ap (λ (x : Watched). x.label) its ∙ quiet.label }

    unheld_now : held_of r.desk t ≡ None
    unheld_now = unheld granules s.limits s.from h r t roomy resting

    front_there : (sid : ℕ) (rest : List ℕ) → r.desk.queue ≡ sid ∷ rest → Attaches g s.limits.slots (labels_now g h) (clocks_now g h) r.desk t sid
    front_there sid rest q = attaches g s.limits.slots (labels_now g h) (clocks_now g h) (queue_now g s.limits.slots h) rest r.desk t sid roomy.desk.desk unheld_now (sym roomy.desk.desk.same_queue ∙ q)

    below : (sid : ℕ) (rest : List ℕ) → r.desk.queue ≡ sid ∷ rest → (slot_of r.desk sid).last < g
    below sid rest q =
        let a = front_there sid rest q in
        let free = and_parts (is_none ((labels_now g h).slot_of t)) ((labels_now g h).free sid) a.can in
        let most = on.limits_are.some_epochs in
        let fits = (labels_fit g (items h) (length h) (omega arith)).room sid free.1 in
        let same = a.epoch in
        omega arith

    pub asks : length h < 2 ^ 32 → AsksAttach t r
    asks few = record {
      unheld = unheld_now;
      front = λ sid rest q. (
        (let a = (front_there sid rest q).within in let b = on.limits_are.few_slots in omega arith),
        (let a = below sid rest q in let b = (roomy.watchers t).greatest in omega arith),
      );
      era = resting.era;
      greatest = (roomy.watchers t).greatest ∙ ap (λ (l : Limits). l.epochs) (sym roomy.limits_are);
      count = let a = (roomy.watchers t).trace.counted in let b = few_in_trace g (items h) (length h) t in omega arith;
    }

    -- no slot is free
    module _ (needs : needs_slot s.file w.machine t ≡ true) where
      quiet_still : IsQuiet s p r
      quiet_still = record {
        events = quiet.events;
        checks = quiet.checks;
        attached = quiet.attached;
        unspent = quiet.unspent;
        needless = quiet.needless;
        era = resting.era;
        label = resting.unlabelled;
        stands = roomy;
      }

      heard_still : Hearing s (threads_in w.machine) p r
      heard_still = record {
        stands = stands_room granules s.limits s.from (option_map (λ (l : Label). t) p.spent) (so_far s p) d t spare on.hearing.stands on.hearing.watched;
        era = on.hearing.era;
        watched = long;
        agrees = on.hearing.agrees;
        depths = on.hearing.depths;
        right = on.hearing.right;
        spent = on.hearing.spent;
        grouped = on.hearing.grouped;
        of_events = on.hearing.of_events;
        leaves = λ l is. absurd (let q = sym quiet.unspent ∙ is in cc);
      }

      on_still : IsGoingOn s 0 p (record { machine = w.machine; detector = r })
      on_still = record {
        limits_are = on.limits_are;
        running = on.running;
        hearing = heard_still;
        taken = on.taken;
        labelled = on.labelled;
        phase = λ is. inr quiet_still;
        alive = on.alive;
        grown = on.grown;
      }

      pub stops_there : r.desk.queue ≡ [] → Readies s false p (record p { attached = None }) w (record { machine = w.machine; detector = r })
      stops_there empty =
          subst (λ (o : Option Label). Readies s false p (record p { attached = o }) w (record { machine = w.machine; detector = r })) quiet.attached
          (record { machine = refl; steps = refl; used = refl; goes_on = λ is. absurd cc; stops = λ is. (on_still, record { quiet = quiet_still; needy = needs; empty = empty }) })

      -- the front of the queue is taken
      module _ (l : Label) (rest : List ℕ) (front : r.desk.queue ≡ l.sid ∷ rest) (epoch : l.epoch ≡ (slot_of r.desk l.sid).last + 1) (era : l.era ≡ r.era) where
        abbrev q : Part
        q = record p { attached = Some l }

        abbrev n : Detected
        n = after_take r t l

        abbrev before : List Moment
        before = moments_before s.entries (turn_of s q)

        abbrev m : Moment
        m = note_moment (length s.entries) (turn_of s q) (Attach l)

        abbrev b : Moment
        b = note_moment (length (entries_before s.entries (turn_of s q))) (turn_of s q) Nothing

        there : Attaches g s.limits.slots (labels_now g h) (clocks_now g h) r.desk t l.sid
        there = front_there l.sid rest front

        before_is : before ≡ h ++ m ∷ []
        before_is = before_with s.entries (turn_of s q) l refl

        begins : so_far s q ≡ before ++ b ∷ []
        begins = begin_is s.entries (turn_of s q) quiet.events

        later : so_far s q ≡ (h ++ m ∷ []) ++ b ∷ []
        later = begins ∙ ap (λ (ms : List Moment). ms ++ b ∷ []) before_is

        abbrev old : Moment
        old = note_moment (length (entries_before s.entries (turn_of s p))) (turn_of s p) Nothing

        was : so_far s p ≡ h ++ old ∷ []
        was = begin_is s.entries (turn_of s p) quiet.events ∙ ap (λ (ms : List Moment). ms ++ old ∷ []) (before_without s.entries (turn_of s p) quiet.attached)

        long_after : t < length n.watchers
        long_after = let z = length-set r.watchers t (labelled (with_clock (watcher_of r t) (desks.clock_after_attach r.desk (watcher_of r t).clock)) l) in let y = long in omega arith

        stands_taken : Stands granules s.limits s.from None (h ++ m ∷ []) n
        stands_taken = stands_take granules s.limits s.from h m r t l rest roomy refl refl resting front epoch era there.within (let a = below l.sid rest front in omega arith)

        stands_begun : Stands granules s.limits s.from None ((h ++ m ∷ []) ++ b ∷ []) n
        stands_begun = stands_nothing granules s.limits s.from (h ++ m ∷ []) b n t None stands_taken refl refl

        heard : Hearing s (threads_in w.machine) q n
        heard = record {
          stands = subst (λ (o : Option Label). Stands granules s.limits s.from (option_map (λ (l : Label). t) o) (so_far s q) n) (sym quiet.unspent) (subst (λ (ms : List Moment). Stands granules s.limits s.from None ms n) (sym later) stands_begun);
          era = on.hearing.era;
          watched = long_after;
          agrees = attach_after s.limits.harts (threads_in w.machine) r.desk t on.hearing.agrees;
          depths = λ u. ap (λ (ms : List Moment). length (frames_now ms u)) later ∙ (ap length (frames_none (h ++ m ∷ []) b u refl ∙ (frames_none h m u refl ∙ sym (frames_none h old u refl))) ∙ (ap (λ (ms : List Moment). length (frames_now ms u)) (sym was) ∙ on.hearing.depths u));
          right = subst (λ (ms : List Moment). AreRightFrom g (granule_of s.file) ms (length before)) (sym begins) (right-quiet g (granule_of s.file) before (length before) b (right-none g (granule_of s.file) before) (omega arith) (λ u e x. cc) refl);
          spent = subst (λ (ms : List Moment). HasSpent s.limits ms (length before) t p.spent) (sym begins) (subst (HasSpent s.limits (before ++ b ∷ []) (length before) t) (sym quiet.unspent) (spent-quiet s.limits before (length before) t b None (spent-none s.limits before t) (λ u e x. cc)));
          grouped = on.hearing.grouped;
          of_events = on.hearing.of_events;
          leaves = λ x is. absurd (let y = sym quiet.unspent ∙ is in cc);
        }

        can_take : CanTake s l
        can_take = record {
          unlabelled = unlabelled g s.limits.slots (labels_now g h) (clocks_now g h) (queue_now g s.limits.slots h) r.desk t roomy.desk.desk unheld_now;
          rest = rest;
          front = sym roomy.desk.desk.same_queue ∙ front;
          new_epoch = epoch ∙ ap (λ (x : ℕ). x + 1) (sym there.epoch);
          present_era = era ∙ roomy.era;
        }

        has : HasSlot s q
        has = record {
          sid = l.sid;
          slot = ap (λ (x : Labels). x.slot_of t) (ap (labels_now g) later ∙ (labels_now-push g (h ++ m ∷ []) b ∙ (labels_now-push g h m ∙ ap (λ (x : Bool). cond x (attach_labels (labels_now g h) t l.sid) (labels_now g h)) there.can))) ∙ attach_slot_here (labels_now g h) t l.sid;
          unspent = quiet.unspent;
          had = λ none. absurd cc;
        }

        needy : is_needy s (p.steps + 1) ≡ true
        needy = needy_next ∙ (ap (λ (x : Bool). x || needs_slot s.file (world s p.steps) t) quiet.needless ∙ (ap (λ (x : World). needs_slot s.file x t) (sym on.running.machine) ∙ needs))

        running : Running s q w.machine
        running = record {
          made = record { alive = on.running.made.alive; events_are = on.running.made.events_are };
          machine = on.running.machine;
          memory = on.running.memory;
          harts = on.running.harts;
          apart = on.running.apart;
          unused = on.running.unused;
          used = on.running.used;
        }

        on_taken : IsGoingOn s 1 q (record { machine = w.machine; detector = n })
        on_taken = record {
          limits_are = on.limits_are;
          running = running;
          hearing = heard;
          taken = λ x is. (subst (CanTake s) (same x is) can_take, needy);
          labelled = λ is. absurd cc;
          phase = λ is. inl has;
          alive = on.alive;
          grown = omega (arith, ap length later, length-append (h ++ m ∷ []) (b ∷ []), length-append h (m ∷ []));
        }
          where
            same : (x : Label) → Some l ≡ Some x → l ≡ x
            same x is = cc

        pub takes_it : Readies s true p q w (record { machine = w.machine; detector = n })
        takes_it = record { machine = refl; steps = refl; used = refl; goes_on = λ is. (on_taken, inl has); stops = λ is. absurd cc }

-- ---- as the calls tell it

none_of : (o : Option Label) → is_some o ≡ false → o ≡ None
none_of None is = refl
none_of (Some l) is = absurd cc

pub asks_of : (file : List ℕ) (tid : ℕ) (p : Part) (w : WatchedMachine) (o : Option Label) (new : Detected) (spare : Room) → p.used ≡ false → IsTurnOf file tid p w → o ≡ (watcher_of w.detector tid).label → is_some o ≡ false → new ≡ after_room w.detector tid spare → AsksAttach tid new
asks_of file tid p w o new spare unused turn is none at =
    let s = turn.setting in
    let unlabelled : (watcher_of w.detector s.tid).label ≡ None = ap (λ (u : ℕ). (watcher_of w.detector u).label) turn.tid_is ∙ (sym is ∙ none_of o none) in
    let few : length (first s) < 2 ^ 32 = (let x = turn.room in omega arith) in
    subst (AsksAttach tid) (sym at) (subst (λ (u : ℕ). AsksAttach u (after_room w.detector u spare)) turn.tid_is (asks s p w turn.going_on unused unlabelled spare few))

pub readies_of :
    (file : List ℕ) (tid : ℕ) (p : Part) (w : WatchedMachine) (o : Option Label) (roomy new : Detected) (spare : Room) (taken : Option Label) (can : Bool) → p.used ≡ false → o ≡ (watcher_of w.detector tid).label → is_some o ≡ false → needs_slot file w.machine tid ≡ true →
    roomy ≡ after_room w.detector tid spare → IfNone taken ((roomy.desk.queue ≡ []) × (new ≡ roomy)) → IfSome taken (Takes roomy new tid) → can ≡ is_some taken →
    ReadiesAll file tid can p (record p { attached = taken }) w (record { machine = w.machine; detector = new })
readies_of file tid p w o roomy new spare taken can unused is none needs at if_none if_some can_is s f t on =
    subst (λ (b : Bool). Readies s b p (record p { attached = taken }) w (record { machine = w.machine; detector = new })) (sym can_is) (go taken if_none if_some)
  where
    unlabelled : (watcher_of w.detector s.tid).label ≡ None
    unlabelled = ap (λ (u : ℕ). (watcher_of w.detector u).label) t ∙ (sym is ∙ none_of o none)

    needy : needs_slot s.file w.machine s.tid ≡ true
    needy = ap (λ (x : List ℕ). needs_slot x w.machine s.tid) f ∙ (ap (needs_slot file w.machine) t ∙ needs)

    room : roomy ≡ after_room w.detector s.tid spare
    room = at ∙ ap (λ (u : ℕ). after_room w.detector u spare) (sym t)

    go : (o : Option Label) → IfNone o ((roomy.desk.queue ≡ []) × (new ≡ roomy)) → IfSome o (Takes roomy new tid) → Readies s (is_some o) p (record p { attached = o }) w (record { machine = w.machine; detector = new })
    go None empty tt =
        subst (λ (x : Detected). Readies s false p (record p { attached = None }) w (record { machine = w.machine; detector = x })) (sym (empty.1 ∙ room))
        (stops_there s p w on unused unlabelled spare needy (ap (λ (x : Detected). x.desk.queue) (sym room) ∙ empty.0))
    go (Some l) tt takes =
        let it : Takes (after_room w.detector s.tid spare) new s.tid l = subst (λ (x : Detected). Takes x new s.tid l) room (subst (λ (u : ℕ). Takes roomy new u l) (sym t) takes) in
        subst (λ (x : Detected). Readies s true p (record p { attached = Some l }) w (record { machine = w.machine; detector = x })) (sym it.after)
        (takes_it s p w on unused unlabelled spare needy l it.rest it.front it.epoch it.era)
