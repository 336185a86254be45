-- What an event makes of its thread's watcher and of what is kept at its place, and how a thread takes and leaves a slot.
use Rattle.std.specs.Prelude.{◌≡◌, ℕ, ◌+◌, ◌<◌, ◌≤◌, ◌==◌, ◌&&◌, ◌||◌, Bool, true, false, if◌then◌else◌, is_some, List, ◌∷◌, length, Option, Some, None}
use Rattle.run_record.specs.declared.entry.Label.{Label}
use Rattle.run_record.specs.declared.event.Event.{Event}
use Rattle.run_record.specs.declared.event.Event.TheVariants as events
use Rattle.run_record.specs.declared.event.Part.{Part}
use Rattle.run_record.specs.declared.event.Part.TheVariants.{Main}
use Rattle.run_record.specs.declared.limits.Limits.{Limits}
use Rattle.run_laws.specs.Moments.{Moment}
use Rattle.run_laws.specs.Clocks.{Given, Of}
use Rattle.run_laws.specs.Labels.{raises}
use Rattle.run_laws.specs.Present.{clocks_now}
use Rattle.vector_clock.specs.Clocks.{joined}
use Rattle.slot_desk.specs.declared.answers.Created.TheVariants.{Thread}
use Rattle.slot_desk.specs.declared.answers.Joined.TheVariants.{Done}
use Rattle.slot_desk.specs.Desks.{DeskContents, thread_of, held_of, slot_of}
use Rattle.slot_desk.specs.Steps as desks
use Rattle.slot_desk.specs.History.{epoch_told}
use Rattle.sync_slab.specs.Objects.{SyncObject, SyncObjects, AreObjects, clock_in, Puts, Ends, Removes}
use Rattle.race_core.specs.Watched.{Watched, with_clock, unlabelled, labelled, raised, next_label, noted}
use Rattle.race_core.specs.History.{era_now}
use Rattle.turn_orders.specs.Machine.{but}
use Rattle.thread_events.specs.Standing.{Kept}

-- ---- labels that rise or are lost

-- the epoch of the thread's label rises; where it was the greatest, the label is lost
abbrev pub raised_or_lost_to : Watched → Option Label → Watched
raised_or_lost_to w None = unlabelled w
raised_or_lost_to w (Some l) = raised w

abbrev pub raised_or_lost : Watched → Watched
raised_or_lost w = raised_or_lost_to w (next_label w.greatest w.label)

-- the label that is lost where the epoch can't rise
abbrev pub lost_label_to : Option Label → Option Label → Option Label
lost_label_to None label = label
lost_label_to (Some next) label = None

abbrev pub lost_label : Watched → Option Label
lost_label w = lost_label_to (next_label w.greatest w.label) w.label

-- ---- an event

-- The thread's watcher after an event at a place that keeps these objects, or at this desk, where its creator's clock is
-- `given`, if that was told in this era.
abbrev pub watcher_after : Option (List ℕ) → SyncObjects → DeskContents → Event → Watched → Watched
watcher_after given set desk events.Begin w = with_clock w (desks.joined_told w.clock given)
watcher_after given set desk (events.Join of) w = with_clock w (desks.clock_after_join desk of w.clock)
watcher_after given set desk (events.Acquire addr part) w = with_clock w (joined w.clock (clock_in set w.era addr part))
watcher_after given set desk (events.Release addr part replaces) w = raised_or_lost w
watcher_after given set desk (events.Create child) w = raised_or_lost w
watcher_after given set desk events.End w = unlabelled w
watcher_after given set desk e w = noted w e

-- the desk after an event of thread t, whose clock was that
abbrev pub desk_after : DeskContents → ℕ → List ℕ → Event → DeskContents
desk_after d t clock (events.Create child) = desks.after_create d clock
desk_after d t clock events.End = desks.after_end d t clock
desk_after d t clock e = d

-- what a thread with this clock releases to an object
abbrev pub released : SyncObjects → ℕ → List ℕ → ℕ → Part → Bool → SyncObject
released set era clock addr part replaces =
    record { addr = addr; part = part; era = era; clock = if replaces then clock else joined (clock_in set era addr part) clock }

-- the objects of a place after an event there, in that era
abbrev pub ObjectsAfter : ℕ → List ℕ → Event → SyncObjects → SyncObjects → Type 0
ObjectsAfter era clock (events.Release addr part replaces) old new = Puts old new (released old era clock addr part replaces) × AreObjects new
ObjectsAfter era clock (events.Destroy addr) old new = Ends old new addr × AreObjects new
ObjectsAfter era clock (events.Clear addr) old new = Removes old new addr Main × AreObjects new
ObjectsAfter era clock e old new = new ≡ old

-- an event of a channel is at the place that keeps its address
abbrev pub IsAtKeeper : (ℕ → ℕ) → ℕ → Event → Type 0
IsAtKeeper keeper k (events.Acquire addr part) = k ≡ keeper addr
IsAtKeeper keeper k (events.Release addr part replaces) = k ≡ keeper addr
IsAtKeeper keeper k (events.Destroy addr) = k ≡ keeper addr
IsAtKeeper keeper k (events.Clear addr) = k ≡ keeper addr
IsAtKeeper keeper k e = Unit {0}

-- What an event asks of the desk: a thread is created that may live, and one is joined that has ended; who ends has lived.
abbrev pub IsGranted : DeskContents → ℕ → Event → Type 0
IsGranted d t (events.Create child) = desks.created d ≡ Thread child
IsGranted d t (events.Join of) = desks.join_answer d of ≡ Done
IsGranted d t events.End = (thread_of d t).lives ≡ true
IsGranted d t e = Unit {0}

-- all that is kept after an event of thread t at place k, which leaves these objects there
abbrev pub kept_after : Kept → ℕ → ℕ → Option (List ℕ) → Event → SyncObjects → Kept
kept_after x k t given e set = record {
  desk = desk_after x.desk t (x.watchers t).clock e;
  objects = but x.objects k set;
  watchers = but x.watchers t (watcher_after given (x.objects k) x.desk e (x.watchers t));
}

-- who is to leave a slot after the event: as before, and thread t where its label is lost
abbrev pub leaving_after : (ℕ → Bool) → ℕ → Event → Watched → ℕ → Bool
leaving_after leaving t e w u = leaving u || ((u == t) && ((raises e == 1) && is_some (lost_label w)))

-- ---- what a thread may do

-- the thread has a label of the history's era
pub record IsGoing (limits : Limits) (h : List Moment) (w : Watched) : Type 0 where
  pub present : w.era ≡ era_now limits.epochs h
  pub label : Label
  pub labelled : w.label ≡ Some label

-- the clock, if any, is what the thread's creator left for it in this era
pub record IsGiven (limits : Limits) (h : List Moment) (t : ℕ) (given : Option (List ℕ)) : Type 0 where
  pub long : (clock : List ℕ) → given ≡ Some clock → length clock ≡ limits.slots
  pub known : (r : ℕ) → r < limits.slots → (clocks_now limits.epochs h).spot (Of (Given t)) r ≡ epoch_told given r

abbrev pub IfBegin : Event → Type 0 → Type 0
IfBegin events.Begin P = P
IfBegin e P = Unit {0}

-- ---- slots

-- thread t takes the slot at the queue's front, and gets the label
abbrev pub kept_attached : Kept → ℕ → Label → Kept
kept_attached x t label =
    let w = x.watchers t in
    record x {
      desk = desks.after_attach x.desk t;
      watchers = but x.watchers t (labelled (with_clock w (desks.clock_after_attach x.desk w.clock)) label);
    }

-- The label is that of the slot at the queue's front, one epoch after the slot's last, in the thread's own era; and the thread
-- holds no slot.
pub record Attaches (limits : Limits) (d : DeskContents) (w : Watched) (t : ℕ) (label : Label) : Type 0 where
  pub rest : List ℕ
  pub front : d.queue ≡ label.sid ∷ rest
  pub epoch : label.epoch ≡ (slot_of d label.sid).last + 1
  pub era : label.era ≡ w.era
  pub unlabelled : w.label ≡ None
  pub unheld : held_of d t ≡ None
  pub few_slots : label.sid < limits.slots
  pub few_epochs : label.epoch ≤ limits.epochs

-- thread t leaves its slot
abbrev pub kept_left : Kept → ℕ → Kept
kept_left x t = record x { desk = desks.after_detach x.desk t }

-- the desk has it that thread t holds that slot
pub record Holds (d : DeskContents) (t : ℕ) (label : Label) : Type 0 where
  pub since : ℕ
  pub held : held_of d t ≡ Some (label.sid, since)

-- who is to leave a slot once thread t has left its own
abbrev pub leaving_without : (ℕ → Bool) → ℕ → ℕ → Bool
leaving_without leaving t u = if u == t then false else leaving u

-- an era begins
abbrev pub kept_in_era : Kept → Kept
kept_in_era x = record x { desk = desks.after_reset x.desk }
