-- One worker's part of a round: the deeds of its thread, one after another, and the log of its seat.
use Rattle.std.specs.Prelude.{◌≡◌, ◌≢◌, ◌<◌, ◌≤◌, ◌⊎◌, ◌*◌, ◌+◌, ℕ, zero, suc, true, false, List, [], ◌∷◌, ◌++◌, take, sum_by, Option, None, Some}
use Rattle.std.specs.List.{AllZip, flat_map}
use Rattle.run_record.specs.declared.limits.Limits.{Limits}
use Rattle.run_record.specs.declared.event.Event.{Event}
use Rattle.run_record.specs.declared.entry.Check.{Check}
use Rattle.run_record.specs.declared.entry.Entry.{Entry}
use Rattle.run_record.specs.declared.entry.Label.{Label}
use Rattle.run_record.specs.declared.entry.DeskNote.TheVariants.{Attach, Leave}
use Rattle.run_laws.specs.Labels.{raises}
use Rattle.bare_machine.specs.Step.{desk}
use Rattle.bare_machine.specs.Preview.{thread_needs}
use Rattle.bare_machine.specs.declared.thread.Thread.{Thread}
use Rattle.turn_orders.specs.Lists.{Each}
use Rattle.turn_orders.specs.LineUp.{Stamped, with_stamp, LocalsFollow, last_local}
use Rattle.place_turns.specs.Places as machine
use Rattle.place_turns.specs.Turns as turns
use Rattle.machine_laws.specs.Events.{is_local}
use Rattle.shared_table.specs.declared.object.Object.{Object}
use Rattle.shared_table.specs.declared.object.Object.TheVariants.{Stripe, Desk}
use Rattle.shared_table.specs.declared.view.Item.TheVariants.{Take, Give, Load, Store}
use Rattle.shared_table.specs.Past.{Log}
use Rattle.placed_detector.specs.Standing.{Hand}
use Rattle.watched_turns.specs.Turns.{Act}
use Rattle.deed_histories.specs.Lines.{entries_of, IsHandDeed}
use Rattle.table_deeds.specs.Objects.{ObjectDeed, hand_deed, hand_deeds, slots_in, last_in, held_in}

-- ---- a part

-- What a thread made last in a round, and without an object: what it left, the entry that tells it, and the acts.
pub record Rest : Type 0 where
  pub left : Hand
  pub entry : Entry
  pub acts : List Act

-- A turn of the desk that found no slot, and left it as it was: the turn's number and the desk.
pub record Try : Type 0 where
  pub number : ℕ
  pub found : Object

-- A part of a round: its thread, and how many instructions this was given; what the thread had before it; its deeds at objects, one
-- after another; what it made behind them without an object, if anything; the last turn of the desk, if it found no slot; and the
-- log of the seat.
pub record Part : Type 0 where
  pub thread : ℕ
  pub given : ℕ
  pub before : Stamped Hand
  pub deeds : List ObjectDeed
  pub rest : Option Rest
  pub tried : Option Try
  pub log : Log

-- what the thread has after its deeds at objects, and after all of them
abbrev pub at_last_object : Part → Stamped Hand
at_last_object p = last_local p.before p.deeds

abbrev pub left_with_rest : Stamped Hand → Option Rest → Stamped Hand
left_with_rest found None = found
left_with_rest found (Some r) = with_stamp r.left (found.last + 1)

abbrev pub left_in : Part → Stamped Hand
left_in p = left_with_rest (at_last_object p) p.rest

-- the entries of a part
abbrev pub rest_entries : Option Rest → List Entry
rest_entries None = []
rest_entries (Some r) = r.entry ∷ []

abbrev pub part_entries : List ℕ → Limits → Part → List Entry
part_entries file limits p = entries_of (hand_deeds file limits p.deeds) ++ rest_entries p.rest

-- ---- the deed without an object

-- an object of a place of one thread: a stripe that nobody else sees
abbrev pub IsPrivate : Limits → Object → Type 0
IsPrivate limits (Stripe s) = (s.value.sync.slots ≡ limits.slots) × (s.value.sync.objects ≡ [])
IsPrivate limits (Desk d) = ⊥

-- the same object with another stamp
abbrev pub restamped : Object → ℕ → Object
restamped (Stripe s) n = Stripe (record s { value = record s.value { last = n } })
restamped (Desk d) n = Desk (record d { value = record d.value { last = n } })

-- the deed at the thread's own place behind the desk, where that has this object
abbrev pub rest_deed : ℕ → Stamped Hand → Object → Rest → ObjectDeed
rest_deed t found x r =
    record {
      call = record { thread = t; place = desk + 1 + t; act = record {} };
      local_found = found;
      local_left = with_stamp r.left (found.last + 1);
      found = x;
      left = restamped x (found.last + 1);
      told = record { entry = r.entry; acts = r.acts };
    }

abbrev pub rest_deeds : ℕ → Stamped Hand → Object → Option Rest → List ObjectDeed
rest_deeds t found x None = []
rest_deeds t found x (Some r) = rest_deed t found x r ∷ []

-- all deeds of a part, where the thread's own place has this object
abbrev pub deeds_in : Object → Part → List ObjectDeed
deeds_in x p = p.deeds ++ rest_deeds p.thread (at_last_object p) x p.rest

-- Whatever stripe is at that place, so long as its stamp isn't greater than the thread's, it is a deed of that era.
abbrev pub IsRest : List ℕ → Limits → ℕ → ℕ → Stamped Hand → Option Rest → Type 0
IsRest file limits era t found None = Unit {0}
IsRest file limits era t found (Some r) =
    (x : Object) → IsPrivate limits x → last_in x ≤ found.last →
    IsHandDeed file limits era (hand_deed file limits (rest_deed t found x r))

-- ---- the log

-- the steps at the four cells of a granule, from that number on, which loaded these words
abbrev pub loads_from : ℕ → List ℕ → Log
loads_from n [] = []
loads_from n (w ∷ ws) = Load n w ∷ loads_from (n + 1) ws

abbrev pub store_at : ℕ → Option (ℕ × ℕ) → Log
store_at granule None = []
store_at granule (Some s) = Store (4 * granule + s.0) s.1 ∷ []

-- the steps of a check at its granule's cells: four loads, and a store where it stored
abbrev pub touches_of : Check → Log
touches_of c = loads_from (4 * c.granule) c.cells ++ store_at c.granule c.stored

abbrev pub all_touches : List Check → Log
all_touches cs = flat_map touches_of cs

-- The steps of a deed at an object: those at cells that belong to instructions before the last; then its turn of the object,
-- within which are those of the last instruction. The instructions before the last have the first events of the entry, and each of
-- these is local to its thread.
pub record IsStretch (d : ObjectDeed) (items : Log) : Type 0 where
  pub first : ℕ
  pub early : List Check
  pub late : List Check
  pub number : ℕ
  pub checks : d.told.entry.checks ≡ early ++ late
  pub early_events : Each (λ (c : Check). c.event < first) early
  pub late_events : Each (λ (c : Check). first ≤ c.event) late
  pub local_events : Each (λ (e : Event). is_local e ≡ true) (take first d.told.entry.events)
  pub items_are :
      items ≡ all_touches early ++ Take d.call.place number ∷ (all_touches late ++ Give d.call.place number d.found d.left ∷ [])

abbrev pub rest_touches : Option Rest → Log
rest_touches None = []
rest_touches (Some r) = all_touches r.entry.checks

abbrev pub try_items : Option Try → Log
try_items None = []
try_items (Some x) = Take desk x.number ∷ Give desk x.number x.found x.found ∷ []

-- The log of a part: a stretch for each deed at an object; then the steps at cells of what was made without an object, each event of
-- which is local; and the turn of the desk that found no slot.
pub record IsLogOf (p : Part) : Type 0 where
  pub stretches : List Log
  pub each : AllZip IsStretch p.deeds stretches
  pub whole : p.log ≡ flat_map (λ (items : Log). items) stretches ++ (rest_touches p.rest ++ try_items p.tried)
  pub rest_local : (r : Rest) → p.rest ≡ Some r → Each (λ (e : Event). is_local e ≡ true) r.entry.events

-- ---- notes

-- the thread's own state after its first n instructions from there on, at a place of this value
abbrev pub after_steps : List ℕ → ℕ → ℕ → machine.Local → machine.Value → ℕ → machine.Local
after_steps file harts t l v zero = l
after_steps file harts t l v (suc n) = (turns.bare_turn file harts t turns.steps (after_steps file harts t l v n) v).local

-- the deed has an instruction that only a thread with a slot makes
pub record IsNeedy (file : List ℕ) (limits : Limits) (d : ObjectDeed) : Type 0 where
  pub step : ℕ
  pub within : step < d.told.entry.steps
  pub needs :
      thread_needs file d.call.thread
      (after_steps file limits.harts d.call.thread d.local_found.state.bare (held_in file limits d.call.place d.found).state.bare step).thread
      ≡ true

-- its last event raises the epoch of its thread's label, which is the greatest, so that the thread loses the label
pub record SpendsIn (limits : Limits) (d : ObjectDeed) (l : Label) : Type 0 where
  pub before : List Event
  pub event : Event
  pub last : d.told.entry.events ≡ before ++ event ∷ []
  pub raising : raises event ≡ 1
  pub label : d.local_found.state.watched.label ≡ Some l
  pub greatest : l.epoch ≡ limits.epochs

-- the first of the deeds, if there is one
abbrev pub IfNext : List ObjectDeed → (ObjectDeed → Type 0) → Type 0
IfNext [] P = ⊥
IfNext (d ∷ ds) P = P d

-- What comes next in a part: behind an attachment a deed that needs the slot; behind a deed that spent its slot the leave of it;
-- and a leave comes only there. A deed that needs a slot has a label.
pub record IsFollowedBy (file : List ℕ) (limits : Limits) (d : ObjectDeed) (next : List ObjectDeed) : Type 0 where
  pub needed : (l : Label) → d.told.entry.note ≡ Attach l → IfNext next (IsNeedy file limits)
  pub left : (l : Label) → SpendsIn limits d l → IfNext next (λ (e : ObjectDeed). e.told.entry.note ≡ Leave l)
  pub left_only :
      (e : ObjectDeed) (rest : List ObjectDeed) (l : Label) → next ≡ e ∷ rest → e.told.entry.note ≡ Leave l → SpendsIn limits d l
  pub labelled : IsNeedy file limits d → d.local_found.state.watched.label ≢ None

abbrev pub AreNoted : List ℕ → Limits → List ObjectDeed → Type 0
AreNoted file limits [] = Unit {0}
AreNoted file limits (d ∷ ds) = IsFollowedBy file limits d ds × AreNoted file limits ds

-- a part doesn't begin with a leave
abbrev pub BeginsUnspent : List ObjectDeed → Type 0
BeginsUnspent [] = Unit {0}
BeginsUnspent (d ∷ ds) = (l : Label) → d.told.entry.note ≡ Leave l → ⊥

-- ---- how many instructions

abbrev pub steps_made : List ℕ → Limits → Part → ℕ
steps_made file limits p = sum_by (λ (e : Entry). e.steps) (part_entries file limits p)

-- the thread has arrived and ended
abbrev pub HasEnded : Option Thread → Type 0
HasEnded None = ⊥
HasEnded (Some x) = x.lives ≡ false

-- its next instruction is one that only a thread with a slot makes, as the first one is
abbrev pub WantsSlot : List ℕ → ℕ → Option Thread → Type 0
WantsSlot file t None = Unit {0}
WantsSlot file t (Some x) = (x.lives ≡ true) × (thread_needs file t (Some x) ≡ true)

-- The thread was starved: it has no label where its next instruction wants one, and its last turn of the desk found no free slot.
pub record IsStarved (file : List ℕ) (limits : Limits) (p : Part) : Type 0 where
  pub unlabelled : (left_in p).state.watched.label ≡ None
  pub wants : WantsSlot file p.thread (left_in p).state.bare.thread
  pub try_ : Try
  pub tried : p.tried ≡ Some try_
  pub none_free : (slots_in limits try_.found).queue ≡ []

-- It makes as many instructions as it was given, and fewer only where it ended or was starved. It tries in vain only then.
pub record MakesGiven (file : List ℕ) (limits : Limits) (p : Part) : Type 0 where
  pub no_more : steps_made file limits p ≤ p.given
  pub fewer : steps_made file limits p < p.given → HasEnded (left_in p).state.bare.thread ⊎ IsStarved file limits p
  pub tried_only : (x : Try) → p.tried ≡ Some x → (steps_made file limits p < p.given) × IsStarved file limits p

-- ---- all of it

-- What a worker says of its part of a round, in that era: its deeds are its thread's and follow one another from what the thread had,
-- and the log, the notes and the number of instructions are as they should be. What the thread was given it has begun with.
pub record IsPart (file : List ℕ) (limits : Limits) (era : ℕ) (p : Part) : Type 0 where
  pub mine : Each (λ (d : ObjectDeed). d.call.thread ≡ p.thread) p.deeds
  pub at_objects : Each (λ (d : ObjectDeed). d.call.place ≤ desk) p.deeds
  pub deeds : Each (λ (d : ObjectDeed). IsHandDeed file limits era (hand_deed file limits d)) p.deeds
  pub follow : LocalsFollow p.before p.deeds
  pub rest_is : IsRest file limits era p.thread (at_last_object p) p.rest
  pub log_is : IsLogOf p
  pub unspent : (x : Object) → BeginsUnspent (deeds_in x p)
  pub notes : (x : Object) → IsPrivate limits x → AreNoted file limits (deeds_in x p)
  pub given : MakesGiven file limits p
  pub begun : (left_in p).state.given ≡ None
