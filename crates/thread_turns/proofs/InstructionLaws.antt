-- One instruction of a turn.
use Rattle.std.proofs.Common.{◌≡◌, ◌≢◌, ℕ, suc, ◌+◌, ◌*◌, ◌<◌, ◌^◌, ◌-◌, ◌⊎◌, ◌||◌, inl, inr, Bool, true, false, Option, Some, None, List, [], ◌∷◌, ◌++◌, length, length-append, append_assoc, refl, ap, ap₂, sym, subst, ◌∙◌, arith}
use Rattle.std.specs.Prelude.{All, option_map, fold, map, is_some}
use Rattle.std.specs.List.{list_any, list_all, enumerate_from}
use Rattle.std.proofs.lemmas.Bool.{cases_eq}
use Rattle.std.proofs.lemmas.List.{length-map}
use Rattle.run_record.specs.declared.event.Event.{Event}
use Rattle.run_record.specs.declared.event.Event.TheVariants as events
use Rattle.run_record.specs.declared.entry.Label.{Label}
use Rattle.run_record.specs.declared.entry.Entry.{Entry}
use Rattle.elf_image.specs.File.{granule_of, granules_of}
use Rattle.run_record.specs.declared.entry.DeskNote.TheVariants.{Nothing}
use Rattle.run_laws.specs.Moments.{Notes, Moment, event_moment}
use Rattle.run_laws.specs.Faithful.{IsMade, after}
use Rattle.run_laws.specs.Labels.{is_end}
use Rattle.run_laws.specs.Present.{label_now, frames_now}
use Rattle.bare_machine.specs.World.{World, lives, HasMemory}
use Rattle.bare_machine.specs.Step.{Step, step}
use Rattle.bare_machine.specs.Preview.{needs_slot}
use Rattle.bare_machine.specs.declared.machine.Stepped.{Stepped}
use Rattle.bare_machine.specs.declared.machine.Stepped.TheVariants.{Made}
use Rattle.bare_machine.specs.Plain.{Steps, MakesStep}
use Rattle.turn_laws.specs.Still.{OnlyPuts}
use Rattle.turn_laws.specs.Turns.{moments_before, entries_before}
use Rattle.turn_laws.proofs.StepsLaw.{made_next, needs_next, state_next}
use Rattle.turn_laws.proofs.StillLaw.{puts-right, puts-spent, puts-grouped, puts-of_events, turn_still, frames-still}
use Rattle.machine_laws.specs.Threads.{Threads, threads_in, threads_after, AreThreads}
use Rattle.machine_laws.specs.Events.{AreAllowed, is_last, is_local, is_put}
use Rattle.machine_laws.specs.Steps.{IsStep}
use Rattle.machine_laws.specs.Agrees.{Agrees}
use Rattle.machine_laws.proofs.StepLaw.{step_is}
use Rattle.machine_laws.proofs.NeedLaw.{needs_is}
use Rattle.machine_laws.proofs.ThreadLaw.{own}
use Rattle.detector.specs.Detected.{Detected, watcher_of}
use Rattle.detector.specs.Stands.{Stands}
use Rattle.thread_turns.specs.declared.part.Part.{Part}
use Rattle.thread_turns.specs.declared.watched.WatchedMachine.{WatchedMachine}
use Rattle.thread_turns.specs.Going.{Setting, bare, begun, world, turn_of, first, so_far, entry_of, is_needy, HasSlot, IsQuiet, Hearing, Running, IsGoingOn}
use Rattle.thread_turns.specs.Turned.{MayHear, CanHearAll, Heard, HearsAll, CanGo, IsNext, TriesNext}
use Rattle.thread_turns.proofs.EventLaws.{going_of}
use Rattle.thread_turns.proofs.PutLaws.{stands_puts}

-- the thread can make its next instruction
pub record IsReady (file : List ℕ) (tid : ℕ) (p : Part) (w : WatchedMachine) : Type 0 where
  pub next : IsNext file tid p w
  pub can : CanGo next.setting p w

abbrev pub MakesNext : List ℕ → ℕ → Part → Part → WatchedMachine → WatchedMachine → Type 0
MakesNext file tid p q old new =
    (s : Setting) → s.file ≡ file → s.tid ≡ tid → IsGoingOn s 1 p old → CanGo s p old → length (first s) + 8 * (p.steps + 1) < 2 ^ 32 →
    IsGoingOn s 0 q new × (q.steps ≡ p.steps + 1)

-- the part after one more instruction
abbrev pub stepped : Part → ℕ → Bool → Part
stepped p n used = record p { steps = n; used = used }

-- what was heard doesn't depend on the number of instructions
pub hearing_stepped : (s : Setting) (threads : Threads) (p : Part) (d : Detected) (n : ℕ) (used : Bool) → Hearing s threads p d → Hearing s threads (stepped p n used) d
hearing_stepped s threads p d n used h = record {
  stands = h.stands;
  era = h.era;
  watched = h.watched;
  agrees = h.agrees;
  depths = h.depths;
  right = h.right;
  spent = h.spent;
  grouped = h.grouped;
  of_events = h.of_events;
  leaves = λ l q. let x = h.leaves l q in record { leaving = x.leaving; lost = x.lost };
}

pub slot_stepped : (s : Setting) (p : Part) (n : ℕ) (used : Bool) → HasSlot s p → HasSlot s (stepped p n used)
slot_stepped s p n used h = record { sid = h.sid; slot = h.slot; unspent = h.unspent; had = h.had }

-- with instructions that don't need a slot the thread has only put bytes
local_put : (es : List Event) → list_all is_local es ≡ true → list_all is_put es ≡ true → es ≡ []
local_put [] a b = refl
local_put (events.Put value count ∷ es) a b = absurd (cc)
local_put (_ ∷ es) a b = absurd (cc)

local_not_last : (es : List Event) → list_all is_local es ≡ true → list_any is_last es ≡ false
local_not_last [] a = refl
local_not_last (events.Begin ∷ es) a = local_not_last es a
local_not_last (events.Enter frame ∷ es) a = local_not_last es a
local_not_last (events.Leave ∷ es) a = local_not_last es a
local_not_last (events.Access place addr size read atomic ∷ es) a = local_not_last es a
local_not_last (_ ∷ es) a = absurd (cc)

local_no_end : (es : List Event) → list_all is_local es ≡ true → list_any is_end es ≡ false
local_no_end [] a = refl
local_no_end (events.Begin ∷ es) a = local_no_end es a
local_no_end (events.Enter frame ∷ es) a = local_no_end es a
local_no_end (events.Leave ∷ es) a = local_no_end es a
local_no_end (events.Access place addr size read atomic ∷ es) a = local_no_end es a
local_no_end (_ ∷ es) a = absurd (cc)

puts_stay : (t : ℕ) (threads : Threads) (es : List Event) → list_all is_put es ≡ true → fold (threads_after t) threads es ≡ threads
puts_stay t threads [] a = refl
puts_stay t threads (events.Put value count ∷ es) a = puts_stay t threads es a
puts_stay t threads (_ ∷ es) a = absurd (cc)

all_puts : (es : List Event) → list_all is_put es ≡ true → All (λ (e : Event). Rattle.turn_laws.specs.Still.is_put e ≡ true) es
all_puts [] a = Rattle.std.proofs.lemmas.List.Elements.All-nil (λ (e : Event). Rattle.turn_laws.specs.Still.is_put e ≡ true)
all_puts (events.Put value count ∷ es) a = Rattle.std.proofs.lemmas.List.Elements.All-cons (λ (e : Event). Rattle.turn_laws.specs.Still.is_put e ≡ true) (events.Put value count) es refl (all_puts es a)
all_puts (_ ∷ es) a = absurd (cc)

same_puts : (es : List Event) → list_all is_put es ≡ true → list_all Rattle.turn_laws.specs.Still.is_put es ≡ true
same_puts [] a = refl
same_puts (events.Put value count ∷ es) a = same_puts es a
same_puts (_ ∷ es) a = absurd (cc)

module _ (s : Setting) (p : Part) (v : WatchedMachine) (going : IsGoingOn s 1 p v) (unused : p.used ≡ false) (room : length (first s) + 8 * (p.steps + 1) < 2 ^ 32) where
  abbrev st : Step
  st = step s.file v.machine s.tid

  abbrev threads : Threads
  threads = threads_in v.machine

  alive : lives v.machine s.tid ≡ true
  alive = going.alive unused

  are_threads : AreThreads v.machine.harts threads
  are_threads = subst (λ (n : ℕ). AreThreads n threads) (sym going.running.harts) going.hearing.agrees.are_threads

  pub is : IsStep v.machine.harts threads v.machine.ended s.tid st
  is = step_is s.file v.machine s.tid alive are_threads

  pub may_hear : HasSlot s p → MayHear s threads st.events p v.detector
  may_hear has = record {
    limits_are = going.limits_are;
    hearing = going.hearing;
    are_threads = going.hearing.agrees.are_threads;
    allowed = subst (λ (n : ℕ). AreAllowed n threads s.tid st.events) going.running.harts is.allowed;
    slot = inr has;
    room = let a = going.grown in let b = is.few in omega arith;
  }

  -- whether the thread has a label tells which case it is
  pub labelled : (CanGo s p v) → is_some (watcher_of v.detector s.tid).label ≡ true → HasSlot s p
  labelled can some = elim can [
    | inl has ↦ has
    | inr quiet ↦ absurd (let z = rw quiet.0.label at some in cc)
  ]

  pub unlabelled : (CanGo s p v) → is_some (watcher_of v.detector s.tid).label ≡ false → IsQuiet s p v.detector × (needs_slot s.file v.machine s.tid ≡ false)
  unlabelled can none = elim can [
    | inl has ↦ absurd (let z = rw (going_of (granules_of s.file) s.limits s.from (option_map (λ (l : Label). s.tid) p.spent) (so_far s p) v.detector s.tid has.sid going.hearing.stands going.hearing.watched (going.hearing.agrees.lives_are s.tid ∙ alive) has.slot).labelled at none in cc)
    | inr quiet ↦ quiet
  ]

  -- ---- the machine after the instruction

  machine_next : st.world ≡ world s (p.steps + 1)
  machine_next = ap (λ (w : World). (step s.file w s.tid).world) going.running.machine ∙ sym (state_next (bare s) (begun s) s.tid p.steps)

  module _ (q : Part) (used : Bool) (events_are : q.events ≡ p.events ++ st.events) (steps_are : q.steps ≡ p.steps + 1) (used_is : q.used ≡ is_some st.object) (memory : HasMemory s.file st.world) where
    object_at : (k : ℕ) → k ≡ p.steps → ((bare s).step (world s k) s.tid).object ≡ st.object
    object_at k at = ap (λ (n : ℕ). ((bare s).step (world s n) s.tid).object) at ∙ ap (λ (w : World). (step s.file w s.tid).object) (sym going.running.machine)

    pub running_next : Running s q st.world
    running_next = record {
      made =
          let next = made_next (bare s) (begun s) (entry_of s p) going.running.made (ap (λ (w : World). lives w s.tid) (sym going.running.machine) ∙ alive) in
          record {
            alive = λ k l. next.alive k (let z = steps_are in omega arith);
            events_are = events_are ∙ (ap (λ (w : World). p.events ++ (step s.file w s.tid).events) going.running.machine ∙ (next.events_are ∙ ap (Rattle.run_laws.specs.Faithful.events_made (bare s) (begun s) s.tid) (sym steps_are)));
          };
      machine = machine_next ∙ ap (world s) (sym steps_are);
      memory = memory;
      harts = is.harts_stay ∙ going.running.harts;
      apart = λ k l. going.running.unused unused k (let z = steps_are in omega arith);
      unused = λ not_used k l. elim (cases_eq k p.steps) [
        | inl at ↦ object_at k at ∙ none_of st.object (sym used_is ∙ not_used)
        | inr other ↦ going.running.unused unused k (let z = steps_are in omega arith)
      ];
      used = λ is_used. (omega (arith, steps_are), λ none. some_of st.object (sym used_is ∙ is_used) (sym (object_at (q.steps - 1) (let z = steps_are in omega arith)) ∙ none));
    }
      where
        none_of : (o : Option ℕ) → is_some o ≡ false → o ≡ None
        none_of None z = refl
        none_of (Some x) z = absurd (cc)

        some_of : (o : Option ℕ) → is_some o ≡ true → o ≡ None → ⊥
        some_of None z n = absurd (cc)
        some_of (Some x) z n = absurd (cc)

    alive_after : list_any is_end st.events ≡ false → lives st.world s.tid ≡ true
    alive_after no_end = own s.file v.machine s.tid alive are_threads ∙ rw no_end refl

    needy_next : is_needy s q.steps ≡ (is_needy s p.steps || needs_slot s.file v.machine s.tid)
    needy_next = ap (is_needy s) steps_are ∙ (needs_next (bare s) (begun s) (entry_of s p) ∙ ap (λ (w : World). is_needy s p.steps || needs_slot s.file w s.tid) (sym going.running.machine))

    no_object : q.used ≡ false → list_all is_local st.events ≡ true
    no_object not_used = is.without_object (none_of st.object (sym used_is ∙ not_used))
      where
        none_of : (o : Option ℕ) → is_some o ≡ false → o ≡ None
        none_of None z = refl
        none_of (Some x) z = absurd (cc)

    -- what both cases have in common
    pub next_is :
        (d : Detected) → Hearing s (threads_in st.world) q d → q.attached ≡ p.attached → length (so_far s q) ≡ length (so_far s p) + length st.events →
        (q.attached ≡ None → is_needy s q.steps ≡ true → label_now s.limits.epochs (first s) s.tid ≢ None) →
        (q.used ≡ false → HasSlot s q ⊎ IsQuiet s q d) → IsGoingOn s 0 q (record { machine = st.world; detector = d })
    next_is d hearing attached longer needed phase = record {
      limits_are = going.limits_are;
      running = running_next;
      hearing = hearing;
      taken = λ l took. let t = going.taken l (sym attached ∙ took) in (t.0, ap (is_needy s) (let z = steps_are in omega arith) ∙ t.1);
      labelled = needed;
      phase = phase;
      alive = λ not_used. alive_after (local_no_end st.events (no_object not_used));
      grown = let a = going.grown in let b = is.few in let c = longer in let e = steps_are in omega arith;
    }

    -- the thread has a slot
    pub next_labelled : (r : Part) (d : Detected) → HasSlot s p → Heard s threads st.events p r d → q ≡ stepped r q.steps q.used → IsGoingOn s 0 q (record { machine = st.world; detector = d })
    next_labelled r d has heard q_is = next_is d
        (subst (λ (x : Part). Hearing s (threads_in st.world) x d) (sym q_is) (hearing_stepped s (threads_in st.world) r d q.steps q.used (subst (λ (x : Threads). Hearing s x r d) (sym is.threads_are) heard.hearing)))
        (ap (λ (x : Part). x.attached) q_is ∙ heard.attached) (ap (λ (x : Part). length (so_far s x)) q_is ∙ heard.grown)
        (λ none needy. has.had (sym heard.attached ∙ (sym (ap (λ (x : Part). x.attached) q_is) ∙ none)))
        (λ not_used. inl (subst (HasSlot s) (sym q_is) (slot_stepped s r q.steps q.used (heard.slot (local_not_last st.events (no_object not_used)) has))))

    -- the thread has none, and needs none
    pub next_quiet : IsQuiet s p v.detector → needs_slot s.file v.machine s.tid ≡ false → q ≡ record p { events = q.events; steps = q.steps; used = q.used } → IsGoingOn s 0 q (record { machine = st.world; detector = v.detector })
    next_quiet quiet needless q_is = next_is v.detector
        (record {
          stands = subst (λ (o : Option Label). Stands (granules_of s.file) s.limits s.from (option_map (λ (l : Label). s.tid) o) (so_far s q) v.detector) (sym q_spent)
              (subst (λ (ms : List Moment). Stands (granules_of s.file) s.limits s.from None ms v.detector) (sym later)
              (stands_puts (granules_of s.file) s.limits s.from None (so_far s p) v.detector (length (entries_before s.entries (turn_of s p))) (entry_of s q) 0 st.events (subst (λ (o : Option Label). Stands (granules_of s.file) s.limits s.from (option_map (λ (l : Label). s.tid) o) (so_far s p) v.detector) quiet.unspent going.hearing.stands) q_checks (same_puts st.events puts)));
          era = going.hearing.era;
          watched = going.hearing.watched;
          agrees = subst (λ (x : Threads). Agrees s.limits.harts x v.detector.desk) (sym threads_same) going.hearing.agrees;
          depths = λ u. ap length (turn_still (λ (ms : List Moment). frames_now ms u) (λ h m still. frames-still h m u still) s.entries (turn_of s q) only ∙ (ap (λ (x : Part). frames_now (moments_before s.entries (turn_of s x)) u) q_is ∙ sym (turn_still (λ (ms : List Moment). frames_now ms u) (λ h m still. frames-still h m u still) s.entries (turn_of s p) only_p))) ∙ (going.hearing.depths u ∙ ap (λ (x : Threads). x.depth u) (sym threads_same));
          right = puts-right s.limits.epochs (granule_of s.file) s.entries (turn_of s q) only;
          spent = subst (Rattle.turn_laws.specs.Going.HasSpent s.limits (so_far s q) (length (moments_before s.entries (turn_of s q))) s.tid) (sym q_spent) (puts-spent s.limits s.entries (turn_of s q) s.tid only);
          grouped = puts-grouped s.entries (turn_of s q) only;
          of_events = puts-of_events s.entries (turn_of s q) only;
          leaves = λ l some. absurd (let z = sym q_spent ∙ some in cc);
        })
        (ap (λ (x : Part). x.attached) q_is)
        (ap length later ∙ (length-append (so_far s p) (map (event_moment (length (entries_before s.entries (turn_of s p))) (entry_of s q)) (enumerate_from 0 st.events)) ∙ ap (λ (n : ℕ). length (so_far s p) + n) (length-map (enumerate_from 0 st.events) (event_moment (length (entries_before s.entries (turn_of s p))) (entry_of s q)) ∙ long 0 st.events)))
        (λ none needy. absurd (let z : true ≡ false = sym needy ∙ (needy_next ∙ rw (quiet.needless, needless) refl) in cc))
        (λ not_used. inr (
        let nothing = local_put st.events (no_object not_used) puts in
        record {
          events = events_are ∙ rw (quiet.events, nothing) refl;
          checks = q_checks;
          attached = ap (λ (x : Part). x.attached) q_is ∙ quiet.attached;
          unspent = q_spent;
          needless = needy_next ∙ rw (quiet.needless, needless) refl;
          era = quiet.era;
          label = quiet.label;
          stands = quiet.stands;
        }))
      where
        puts : list_all is_put st.events ≡ true
        puts = needs_is s.file v.machine s.tid needless

        q_spent : q.spent ≡ None
        q_spent = ap (λ (x : Part). x.spent) q_is ∙ quiet.unspent

        q_checks : q.checks ≡ []
        q_checks = ap (λ (x : Part). x.checks) q_is ∙ quiet.checks

        q_events : q.events ≡ st.events
        q_events = events_are ∙ ap (λ (es : List Event). es ++ st.events) quiet.events

        threads_same : threads_in st.world ≡ threads
        threads_same = is.threads_are ∙ puts_stay s.tid threads st.events puts

        only : OnlyPuts (turn_of s q)
        only = record { events = subst (All (λ (e : Event). Rattle.turn_laws.specs.Still.is_put e ≡ true)) (sym q_events) (all_puts st.events puts); checks = q_checks }

        only_p : OnlyPuts (turn_of s p)
        only_p = record { events = subst (All (λ (e : Event). Rattle.turn_laws.specs.Still.is_put e ≡ true)) (sym quiet.events) (Rattle.std.proofs.lemmas.List.Elements.All-nil (λ (e : Event). Rattle.turn_laws.specs.Still.is_put e ≡ true)); checks = quiet.checks }

        long : (n : ℕ) (es : List Event) → length (enumerate_from n es) ≡ length es
        long n [] = refl
        long n (e ∷ es) = ap suc (long (n + 1) es)

        before : List Moment
        before = moments_before s.entries (turn_of s p)

        number : ℕ
        number = length (entries_before s.entries (turn_of s p))

        note : Moment
        note = record { entry = number; round = s.round; item = Notes s.tid Nothing; checks = [] }

        whole : Part
        whole = record p { events = q.events; steps = q.steps; used = q.used }

        after_note : Entry → List Event → List Moment
        after_note e es = map (event_moment number e) (enumerate_from 0 es)

        later : so_far s q ≡ so_far s p ++ map (event_moment (length (entries_before s.entries (turn_of s p))) (entry_of s q)) (enumerate_from 0 st.events)
        later =
            ap (so_far s) q_is
            ∙ (ap (λ (es : List Event). before ++ (note ∷ after_note (entry_of s whole) es)) q_events
            ∙ (ap (λ (e : Entry). before ++ (note ∷ after_note e st.events)) (ap (entry_of s) (sym q_is))
            ∙ (sym (append_assoc before (note ∷ []) (after_note (entry_of s q) st.events))
            ∙ ap (λ (ms : List Moment). ms ++ after_note (entry_of s q) st.events) (sym (ap (λ (es : List Event). before ++ (note ∷ after_note (entry_of s p) es)) quiet.events)))))

-- ---- the calls

pub can_hear_all : (file : List ℕ) (tid : ℕ) (es : List Event) (p : Part) (v : WatchedMachine) → IsReady file tid p v → p.used ≡ false → es ≡ (step file v.machine tid).events → is_some (watcher_of v.detector tid).label ≡ true → CanHearAll file tid es p v.detector
can_hear_all file tid es p v ready unused same some =
    let n = ready.next in
    let s = n.setting in
    let has = labelled s p v n.going_on unused n.room ready.can (ap (λ (u : ℕ). is_some (watcher_of v.detector u).label) n.tid_is ∙ some) in
    record {
      setting = s;
      file_is = n.file_is;
      tid_is = n.tid_is;
      threads = threads_in v.machine;
      may = subst (λ (x : List Event). MayHear s (threads_in v.machine) x p v.detector) (ap₂ (λ (f : List ℕ) (u : ℕ). (step f v.machine u).events) n.file_is n.tid_is ∙ sym same) (may_hear s p v n.going_on unused n.room has);
    }

-- a step's parts
pub record StepsTo (file : List ℕ) (v : WatchedMachine) (tid : ℕ) (w : World) (es : List Event) (object : Option ℕ) : Type 0 where
  pub world : w ≡ (step file v.machine tid).world
  pub events : es ≡ (step file v.machine tid).events
  pub object_is : object ≡ (step file v.machine tid).object
  pub memory : HasMemory file w

at_setting : (s : Setting) (file : List ℕ) (v : WatchedMachine) (tid : ℕ) (w : World) (es : List Event) (object : Option ℕ) → s.file ≡ file → s.tid ≡ tid → StepsTo file v tid w es object → StepsTo s.file v s.tid w es object
at_setting s file v tid w es object f t steps = subst (λ (x : List ℕ). StepsTo x v s.tid w es object) (sym f) (subst (λ (u : ℕ). StepsTo file v u w es object) (sym t) steps)

pub makes_labelled : (file : List ℕ) (tid : ℕ) (p r q : Part) (v : WatchedMachine) (w : World) (es : List Event) (object : Option ℕ) (d : Detected) → p.used ≡ false → StepsTo file v tid w es object → is_some (watcher_of v.detector tid).label ≡ true →
    HearsAll file tid es p r v.detector d → q ≡ record r { steps = r.steps + 1; used = is_some object } → MakesNext file tid p q v (record { machine = w; detector = d })
makes_labelled file tid p r q v w es object d unused steps some hears q_is s f t going can room =
    let at = at_setting s file v tid w es object f t steps in
    let has = labelled s p v going unused room can (ap (λ (u : ℕ). is_some (watcher_of v.detector u).label) t ∙ some) in
    let heard = subst (λ (x : List Event). Heard s (threads_in v.machine) x p r d) at.events (hears s (threads_in v.machine) f t (subst (λ (x : List Event). MayHear s (threads_in v.machine) x p v.detector) (sym at.events) (may_hear s p v going unused room has))) in
    let more : q.steps ≡ p.steps + 1 = ap (λ (x : Part). x.steps) q_is ∙ ap (λ (n : ℕ). n + 1) heard.steps in (
      subst (λ (x : World). IsGoingOn s 0 q (record { machine = x; detector = d })) (sym at.world)
          (next_labelled s p v going unused room q q.used (ap (λ (x : Part). x.events) q_is ∙ heard.added) more (ap (λ (x : Part). x.used) q_is ∙ ap is_some at.object_is) (subst (HasMemory s.file) at.world at.memory) r d has heard
          (q_is ∙ ap₂ (stepped r) (ap (λ (x : Part). x.steps) (sym q_is)) (ap (λ (x : Part). x.used) (sym q_is)))),
      more,
    )

pub makes_quiet : (file : List ℕ) (tid : ℕ) (p q : Part) (v : WatchedMachine) (w : World) (es : List Event) (object : Option ℕ) → p.used ≡ false → StepsTo file v tid w es object → is_some (watcher_of v.detector tid).label ≡ false →
    q ≡ record p { events = p.events ++ es; steps = p.steps + 1; used = is_some object } → MakesNext file tid p q v (record { machine = w; detector = v.detector })
makes_quiet file tid p q v w es object unused steps none q_is s f t going can room =
    let at = at_setting s file v tid w es object f t steps in
    let quiet = unlabelled s p v going unused room can (ap (λ (u : ℕ). is_some (watcher_of v.detector u).label) t ∙ none) in
    let more : q.steps ≡ p.steps + 1 = ap (λ (x : Part). x.steps) q_is in
    let added : q.events ≡ p.events ++ es = ap (λ (x : Part). x.events) q_is in (
      subst (λ (x : World). IsGoingOn s 0 q (record { machine = x; detector = v.detector })) (sym at.world)
          (next_quiet s p v going unused room q q.used (added ∙ ap (λ (x : List Event). p.events ++ x) at.events) more (ap (λ (x : Part). x.used) q_is ∙ ap is_some at.object_is) (subst (HasMemory s.file) at.world at.memory) quiet.0 quiet.1
          (subst (λ (x : Part). q ≡ record p { events = x.events; steps = x.steps; used = x.used }) (sym q_is) q_is)),
      more,
    )

-- ---- a try

-- a thread that has a label, or needs none, can make its instruction
pub can_of : (s : Setting) (file : List ℕ) (tid : ℕ) (p : Part) (v : WatchedMachine) (some : Bool) → s.file ≡ file → s.tid ≡ tid → IsGoingOn s 1 p v → p.used ≡ false → some ≡ is_some (watcher_of v.detector tid).label → (some ≡ false → needs_slot file v.machine tid ≡ false) → CanGo s p v
can_of s file tid p v some f t going unused is needless = elim (going.phase unused) [
  | inl has ↦ inl has
  | inr quiet ↦ inr (
    quiet,
    ap (λ (x : List ℕ). needs_slot x v.machine s.tid) f ∙ (ap (needs_slot file v.machine) t ∙ needless (is ∙ (ap (λ (u : ℕ). is_some (watcher_of v.detector u).label) (sym t) ∙ ap is_some quiet.label))),
  )
]

pub ready_of : (file : List ℕ) (tid : ℕ) (p : Part) (v : WatchedMachine) (some : Bool) → IsNext file tid p v → p.used ≡ false → some ≡ is_some (watcher_of v.detector tid).label → (some ≡ false → needs_slot file v.machine tid ≡ false) → IsReady file tid p v
ready_of file tid p v some n unused is needless = record { next = n; can = can_of n.setting file tid p v some n.file_is n.tid_is n.going_on unused is needless }

pub tries_of : (file : List ℕ) (tid : ℕ) (p q : Part) (v w : WatchedMachine) (some : Bool) → p.used ≡ false → some ≡ is_some (watcher_of v.detector tid).label → (some ≡ false → needs_slot file v.machine tid ≡ false) → MakesNext file tid p q v w → TriesNext file tid true p q v w
tries_of file tid p q v w some unused is needless makes s f t going room = makes s f t going (can_of s file tid p v some f t going unused is needless) room

-- what the machine's call tells of the image
pub step_made : (file code : List ℕ) (tid : ℕ) (some : Bool) (old new : World) (es : List Event) (stepped : Stepped) (object : Option ℕ) → code ≡ file → stepped ≡ Made object → Steps code tid some old stepped new es → MakesStep file tid some old new es object
step_made file code tid some old new es stepped object same is steps = subst (λ (x : Stepped). Steps file tid some old x new es) is (subst (λ (f : List ℕ). Steps f tid some old stepped new es) same steps)
