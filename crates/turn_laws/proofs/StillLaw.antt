-- What stands stays at still moments.
use Rattle.std.proofs.Common.{◌≡◌, ℕ, ◌+◌, ◌<◌, ◌≤◌, max, ◌==◌, if◌then◌else◌, Bool, true, false, ◌&&◌, Option, Some, None, List, [], ◌∷◌, ◌++◌, append_assoc, length, length-append, map, refl, sym, ap, subst, ◌∙◌, arith, eqb-true}
use Rattle.std.specs.Prelude.{All, fold, flat_map, nat_lt}
use Rattle.std.specs.List.{enumerate_from, cons_option}
use Rattle.std.proofs.lemmas.List.{append-nil}
use Rattle.std.proofs.lemmas.List.Elements.{All-nil, All-cons, All-head, All-tail}
use Rattle.run_record.specs.declared.event.Event.{Event}
use Rattle.run_record.specs.declared.event.Event.TheVariants as events
use Rattle.run_record.specs.declared.entry.DeskNote.TheVariants.{Nothing, Attach, Leave}
use Rattle.run_record.specs.declared.entry.Entry.{Entry}
use Rattle.run_record.specs.declared.entry.Check.{Check}
use Rattle.run_record.specs.declared.entry.Label.{Label}
use Rattle.run_record.specs.declared.report.KeptLock.{KeptLock}
use Rattle.run_record.specs.declared.limits.Limits.{Limits}
use Rattle.run_laws.specs.Moments.{Item, Does, Notes, NewEra, Past, Moment, event_moment, entry_moments, checks_at, items}
use Rattle.run_laws.specs.Labels.{Labels, holds, slot_after, event_labels, next_labels, next_queue}
use Rattle.run_laws.specs.Clocks.{Clocks, Spot, Of, Left, Channel, Given, Ended, event_clocks, next_clocks}
use Rattle.run_laws.specs.Window.{TraceEvent, traced_by}
use Rattle.run_laws.specs.Stacks.{event_by, frames_after, locks_after}
use Rattle.run_laws.specs.Loads.{cell_after}
use Rattle.run_laws.specs.Present.{labels_now, queue_now, clocks_now, trace_now, frames_now, locks_now, cell_now}
use Rattle.run_laws.proofs.PresentLaw.{labels_now-push, clocks_now-push, queue_now-push, trace_now-push, frames_now-push, locks_now-push, cell_now-push}
use Rattle.run_laws.specs.Numbers.{up_from}
use Rattle.run_laws.specs.Labels.{raises}
use Rattle.run_laws.specs.Accesses.{Access, access_of}
use Rattle.run_laws.specs.Checks.{StoresRightly, IsGrouped}
use Rattle.turn_laws.specs.Going.{AreRightFrom, HasSpent, AreChecksNow, LoadsNow, AreOfEvents}
use Rattle.turn_laws.proofs.PushLaw.{right-none, right-push, spent-none, spent_stays}
use Rattle.turn_laws.specs.Turns.{Turn, main_entry, entries_before, moments_before, moments_up_to}
use Rattle.turn_laws.specs.Still.{is_put, is_still, IsStill, OnlyPuts}

labels_put : (g : ℕ) (l : Labels) (t v c : ℕ) → event_labels g l t (events.Put v c) ≡ l
labels_put g l t v c = λ i. record { era = l.era; slot_of = λ u. slot u i; free = λ s. freed s i; epoch = λ s. raised s i }
  where
    after : (o : Option ℕ) → slot_after g l.epoch o (events.Put v c) ≡ o
    after None = refl
    after (Some s) = refl

    slot : (u : ℕ) → (event_labels g l t (events.Put v c)).slot_of u ≡ l.slot_of u
    slot u = here (u == t) refl
      where
        here : (b : Bool) → (u == t) ≡ b → (if b then slot_after g l.epoch (l.slot_of t) (events.Put v c) else l.slot_of u) ≡ l.slot_of u
        here true q = after (l.slot_of t) ∙ ap l.slot_of (sym (eqb-true u t q))
        here false q = refl

    freed : (s : ℕ) → (event_labels g l t (events.Put v c)).free s ≡ l.free s
    freed s = here (holds (l.slot_of t) s)
      where
        here : (b : Bool) → (if b && false then nat_lt (l.epoch s) g else l.free s) ≡ l.free s
        here true = refl
        here false = refl

    raised : (s : ℕ) → (event_labels g l t (events.Put v c)).epoch s ≡ l.epoch s
    raised s = here (holds (l.slot_of t) s && nat_lt (l.epoch s) g)
      where
        here : (b : Bool) → l.epoch s + (if b then 0 else 0) ≡ l.epoch s
        here true = omega arith
        here false = omega arith

-- which items are still
data Still : Item → Type 0 where
  Puts : (t v c : ℕ) → Still (Does t (events.Put v c))
  Begins : (t : ℕ) → Still (Notes t Nothing)
  Leaves : (t : ℕ) (l : Label) → Still (Notes t (Leave l))
  Ends : Still Past

still : (it : Item) → is_still it ≡ true → Still it
still (Does t (events.Put v c)) s = Puts t v c
still (Notes t Nothing) s = Begins t
still (Notes t (Attach a)) s = absurd cc
still (Notes t (Leave a)) s = Leaves t a
still NewEra s = absurd cc
still Past s = Ends
still (Does t e) s = absurd cc

labels_next : (g : ℕ) (l : Labels) {it : Item} → Still it → next_labels g l it ≡ l
labels_next g l (Puts t v c) = labels_put g l t v c
labels_next g l (Begins t) = refl
labels_next g l (Leaves t a) = refl
labels_next g l Ends = refl

pub labels-still : (g : ℕ) (h : List Moment) (m : Moment) → IsStill m → labels_now g (h ++ m ∷ []) ≡ labels_now g h
labels-still g h m s = labels_now-push g h m ∙ labels_next g (labels_now g h) (still m.item s.item)

clocks_put : (g : ℕ) (l : Labels) (k : Clocks) (t v c : ℕ) → event_clocks g l k t (events.Put v c) ≡ k
clocks_put g l k t v c = λ i. record { thread = λ u s. of_thread u s i; spot = λ y s. of_spot y s i }
  where
    of_thread : (u s : ℕ) → (event_clocks g l k t (events.Put v c)).thread u s ≡ k.thread u s
    of_thread u s = here (u == t) refl (holds (l.slot_of t) s && nat_lt (l.epoch s) g)
      where
        here : (b : Bool) → (u == t) ≡ b → (r : Bool) → (if b then max (k.thread t s) 0 + (if r then 0 else 0) else k.thread u s) ≡ k.thread u s
        here true q true = ap (λ x. max (k.thread x s) 0 + 0) (sym (eqb-true u t q)) ∙ (let z : max (k.thread u s) 0 + 0 ≡ k.thread u s = omega arith in z)
        here true q false = ap (λ x. max (k.thread x s) 0 + 0) (sym (eqb-true u t q)) ∙ (let z : max (k.thread u s) 0 + 0 ≡ k.thread u s = omega arith in z)
        here false q r = refl

    of_spot : (y : Spot) (s : ℕ) → (event_clocks g l k t (events.Put v c)).spot y s ≡ k.spot y s
    of_spot (Of (Channel a p)) s = omega arith
    of_spot (Of (Given child)) s = omega arith
    of_spot (Of (Ended tid)) s = omega arith
    of_spot (Left slot) s = omega arith

clocks_next : (g : ℕ) (l : Labels) (k : Clocks) {it : Item} → Still it → next_clocks g l k it ≡ k
clocks_next g l k (Puts t v c) = clocks_put g l k t v c
clocks_next g l k (Begins t) = refl
clocks_next g l k (Leaves t a) = refl
clocks_next g l k Ends = refl

pub clocks-still : (g : ℕ) (h : List Moment) (m : Moment) → IsStill m → clocks_now g (h ++ m ∷ []) ≡ clocks_now g h
clocks-still g h m s = clocks_now-push g h m ∙ clocks_next g (labels_now g h) (clocks_now g h) (still m.item s.item)

queue_next : (g slots : ℕ) (l : Labels) (q : List ℕ) {it : Item} → Still it → next_queue g slots l it q ≡ q
queue_next g slots l q (Puts t v c) = refl
queue_next g slots l q (Begins t) = refl
queue_next g slots l q (Leaves t a) = refl
queue_next g slots l q Ends = refl

pub queue-still : (g slots : ℕ) (h : List Moment) (m : Moment) → IsStill m → queue_now g slots (h ++ m ∷ []) ≡ queue_now g slots h
queue-still g slots h m s = queue_now-push g slots h m ∙ queue_next g slots (labels_now g h) (queue_now g slots h) (still m.item s.item)

trace_next : (g : ℕ) (h : ℕ → Item) (n t : ℕ) {it : Item} → Still it → traced_by g h n t it ≡ []
trace_next g h n t (Puts u v c) = same (u == t) []
  where
    same : (b : Bool) (es : List TraceEvent) → (if b then es else es) ≡ es
    same true es = refl
    same false es = refl
trace_next g h n t (Begins u) = refl
trace_next g h n t (Leaves u a) = refl
trace_next g h n t Ends = refl

pub trace-still : (g : ℕ) (h : List Moment) (m : Moment) (t : ℕ) → IsStill m → trace_now g (h ++ m ∷ []) t ≡ trace_now g h t
trace-still g h m t s =
    trace_now-push g h m t
    ∙ (ap (λ (es : List TraceEvent). trace_now g h t ++ es) (trace_next g (items (h ++ m ∷ [])) (length h) t (still m.item s.item)) ∙ append-nil (trace_now g h t))

frames_next : (t : ℕ) (frames : List ℕ) {it : Item} → Still it → fold frames_after frames (cons_option (event_by t it) []) ≡ frames
frames_next t frames (Puts u v c) = elim (u == t) as (λ b. fold frames_after frames (cons_option (if b then Some (events.Put v c) else None) []) ≡ frames) [ true ↦ refl | false ↦ refl ]
frames_next t frames (Begins u) = refl
frames_next t frames (Leaves u a) = refl
frames_next t frames Ends = refl

pub frames-still : (h : List Moment) (m : Moment) (t : ℕ) → IsStill m → frames_now (h ++ m ∷ []) t ≡ frames_now h t
frames-still h m t s = frames_now-push h m t ∙ frames_next t (frames_now h t) (still m.item s.item)

locks_next : (t : ℕ) (locks : List KeptLock) {it : Item} → Still it → fold locks_after locks (cons_option (event_by t it) []) ≡ locks
locks_next t locks (Puts u v c) = elim (u == t) as (λ b. fold locks_after locks (cons_option (if b then Some (events.Put v c) else None) []) ≡ locks) [ true ↦ refl | false ↦ refl ]
locks_next t locks (Begins u) = refl
locks_next t locks (Leaves u a) = refl
locks_next t locks Ends = refl

pub locks-still : (h : List Moment) (m : Moment) (t : ℕ) → IsStill m → locks_now (h ++ m ∷ []) t ≡ locks_now h t
locks-still h m t s = locks_now-push h m t ∙ locks_next t (locks_now h t) (still m.item s.item)

pub cell-still : (h : List Moment) (m : Moment) (granule cell : ℕ) → IsStill m → cell_now (h ++ m ∷ []) granule cell ≡ cell_now h granule cell
cell-still h m granule cell s = cell_now-push h m granule cell ∙ ap (λ (cs : List Check). fold (cell_after granule cell) (cell_now h granule cell) (cs ++ [])) s.checks

-- what still moments keep one at a time they keep together
pub all_still : {X : Type 0} (F : List Moment → X) → ((h : List Moment) (m : Moment) → IsStill m → F (h ++ m ∷ []) ≡ F h) → (h ms : List Moment) → All IsStill ms → F (h ++ ms) ≡ F h
all_still F keeps h [] a = ap F (append-nil h)
all_still F keeps h (m ∷ ms) a =
    ap F (sym (append_assoc h (m ∷ []) ms))
    ∙ (all_still F keeps (h ++ m ∷ []) ms (All-tail IsStill m ms a) ∙ keeps h m (All-head IsStill m ms a))

-- the moments of an entry that only puts bytes
still_events : (i : ℕ) (e : Entry) (n : ℕ) (es : List Event) → e.checks ≡ [] → All (λ (e : Event). is_put e ≡ true) es → All IsStill (map (event_moment i e) (enumerate_from n es))
still_events i e n [] none a = All-nil IsStill
still_events i e n (x ∷ es) none a =
    All-cons IsStill (event_moment i e (n, x)) (map (event_moment i e) (enumerate_from (n + 1) es))
    (record { item = All-head (λ (e : Event). is_put e ≡ true) x es a; checks = ap (checks_at n) none })
    (still_events i e (n + 1) es none (All-tail (λ (e : Event). is_put e ≡ true) x es a))

pub still_entry : (i : ℕ) (entries : List Entry) (turn : Turn) → OnlyPuts turn → All IsStill (entry_moments i (main_entry entries turn))
still_entry i entries turn only =
    All-cons IsStill (record { entry = i; round = turn.round; item = Notes turn.tid Nothing; checks = [] }) (map (event_moment i (main_entry entries turn)) (enumerate_from 0 turn.events))
    (record { item = refl; checks = refl }) (still_events i (main_entry entries turn) 0 turn.events only.checks only.events)

pub turn_still : {X : Type 0} (F : List Moment → X) → ((h : List Moment) (m : Moment) → IsStill m → F (h ++ m ∷ []) ≡ F h) → (entries : List Entry) (turn : Turn) → OnlyPuts turn → F (moments_up_to entries turn) ≡ F (moments_before entries turn)
turn_still F keeps entries turn only =
    all_still F keeps (moments_before entries turn) (entry_moments (length (entries_before entries turn)) (main_entry entries turn)) (still_entry (length (entries_before entries turn)) entries turn only)

-- bytes that are put are no access and raise no epoch
put_event : (e : Event) → is_put e ≡ true → (access_of e ≡ None) × (raises e ≡ 0)
put_event (events.Put v c) p = (refl, refl)
put_event e p = absurd cc

put_of : (m : Moment) (t : ℕ) (e : Event) → IsStill m → m.item ≡ Does t e → is_put e ≡ true
put_of m t e s q = ap is_still (sym q) ∙ s.item

right_still : (g : ℕ) (granule_of : ℕ → Option ℕ) (h : List Moment) (from : ℕ) (m : Moment) → AreRightFrom g granule_of h from → from ≤ length h → IsStill m → AreRightFrom g granule_of (h ++ m ∷ []) from
right_still g granule_of h from m right late s =
    right-push g granule_of h from m right late
    (λ t e q. subst (λ (a : Option Access). AreChecksNow g granule_of h t a m.checks) (sym (put_event e (put_of m t e s q)).0) s.checks)
    (subst (All StoresRightly) (sym s.checks) (All-nil StoresRightly)) (subst (All (LoadsNow h)) (sym s.checks) (All-nil (LoadsNow h)))

right_stills : (g : ℕ) (granule_of : ℕ → Option ℕ) (h ms : List Moment) (from : ℕ) → AreRightFrom g granule_of h from → from ≤ length h → All IsStill ms → AreRightFrom g granule_of (h ++ ms) from
right_stills g granule_of h [] from right late a = subst (λ (ms : List Moment). AreRightFrom g granule_of ms from) (sym (append-nil h)) right
right_stills g granule_of h (m ∷ ms) from right late a =
    subst (λ (ms : List Moment). AreRightFrom g granule_of ms from) (append_assoc h (m ∷ []) ms)
    (right_stills g granule_of (h ++ m ∷ []) ms from (right_still g granule_of h from m right late (All-head IsStill m ms a)) (omega (arith, length-append h (m ∷ []))) (All-tail IsStill m ms a))

spent_still : (limits : Limits) (h : List Moment) (from t : ℕ) (m : Moment) (spent : Option Label) → HasSpent limits h from t spent → IsStill m → HasSpent limits (h ++ m ∷ []) from t spent
spent_still limits h from t m spent had s =
    spent_stays limits h from t m spent had (λ u l e q raised label. absurd (let z = (put_event e (put_of m u e s q)).1 in omega arith))

spent_stills : (limits : Limits) (h ms : List Moment) (from t : ℕ) (spent : Option Label) → HasSpent limits h from t spent → All IsStill ms → HasSpent limits (h ++ ms) from t spent
spent_stills limits h [] from t spent had a = subst (λ (ms : List Moment). HasSpent limits ms from t spent) (sym (append-nil h)) had
spent_stills limits h (m ∷ ms) from t spent had a =
    subst (λ (ms : List Moment). HasSpent limits ms from t spent) (append_assoc h (m ∷ []) ms)
    (spent_stills limits (h ++ m ∷ []) ms from t spent (spent_still limits h from t m spent had (All-head IsStill m ms a)) (All-tail IsStill m ms a))

pub puts-right : (g : ℕ) (granule_of : ℕ → Option ℕ) (entries : List Entry) (turn : Turn) → OnlyPuts turn → AreRightFrom g granule_of (moments_up_to entries turn) (length (moments_before entries turn))
puts-right g granule_of entries turn only =
    right_stills g granule_of (moments_before entries turn) (entry_moments (length (entries_before entries turn)) (main_entry entries turn)) (length (moments_before entries turn))
    (right-none g granule_of (moments_before entries turn)) (omega arith) (still_entry (length (entries_before entries turn)) entries turn only)

pub puts-spent : (limits : Limits) (entries : List Entry) (turn : Turn) (t : ℕ) → OnlyPuts turn → HasSpent limits (moments_up_to entries turn) (length (moments_before entries turn)) t None
puts-spent limits entries turn t only =
    spent_stills limits (moments_before entries turn) (entry_moments (length (entries_before entries turn)) (main_entry entries turn)) (length (moments_before entries turn)) t None
    (spent-none limits (moments_before entries turn) t) (still_entry (length (entries_before entries turn)) entries turn only)

pub puts-grouped : (entries : List Entry) (turn : Turn) → OnlyPuts turn → IsGrouped (main_entry entries turn)
puts-grouped entries turn only = subst (λ (cs : List Check). cs ≡ flat_map (λ (i : ℕ). checks_at i cs) (up_from 0 (length turn.events))) (sym only.checks) (sym (nothing (up_from 0 (length turn.events))))
  where
    nothing : (is : List ℕ) → flat_map (λ (i : ℕ). checks_at i []) is ≡ []
    nothing [] = refl
    nothing (i ∷ is) = nothing is

pub puts-of_events : (entries : List Entry) (turn : Turn) → OnlyPuts turn → AreOfEvents (main_entry entries turn)
puts-of_events entries turn only =
    subst (All (λ (c : Check). c.event < length turn.events)) (sym only.checks) (All-nil (λ (c : Check). c.event < length turn.events))
