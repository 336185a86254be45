-- How a part of a round grows: instructions are gathered, and become a deed with the turn of an object. With each entry stand those of
-- its accesses that await the round's end.
use Rattle.std.specs.Prelude.{◌≡◌, ◌≢◌, ◌<◌, ◌≤◌, ◌+◌, ◌⊎◌, ◌==◌, if◌then◌else◌, max, ℕ, zero, suc, true, false, List, [], ◌∷◌, ◌++◌, length, sum_by, Option, None, Some}
use Rattle.std.specs.List.{AllZip, flat_map}
use Rattle.run_record.specs.declared.limits.Limits.{Limits}
use Rattle.run_record.specs.declared.event.Event.{Event}
use Rattle.run_record.specs.declared.entry.Check.{Check}
use Rattle.run_record.specs.declared.entry.Entry.{Entry}
use Rattle.run_record.specs.declared.entry.Label.{Label}
use Rattle.run_record.specs.declared.entry.DeskNote.TheVariants.{Nothing, Attach, Leave}
use Rattle.bare_machine.specs.Step.{desk}
use Rattle.bare_machine.specs.Preview.{thread_needs}
use Rattle.turn_orders.specs.Lists.{Each}
use Rattle.turn_orders.specs.LineUp.{Stamped, with_stamp, LocalsFollow, last_local}
use Rattle.machine_laws.specs.Events.{is_local}
use Rattle.run_laws.specs.Labels.{raises}
use Rattle.report_laws.specs.Awaited.{Awaited}
use Rattle.race_core.specs.Watched.{Watched}
use Rattle.thread_events.specs.Heard.{lost_label}
use Rattle.place_turns.specs.Places.{Local, Value}
use Rattle.place_turns.specs.Turns.{steps, bare_turn}
use Rattle.turn_histories.specs.Entries.{IsAlive, next_object}
use Rattle.shared_table.specs.declared.object.Object.{Object}
use Rattle.shared_table.specs.declared.view.Item.TheVariants.{Take, Give}
use Rattle.shared_table.specs.Past.{Log}
use Rattle.placed_detector.specs.Standing.{Hand, Held}
use Rattle.placed_detector.specs.Instructions.{MakesInstruction}
use Rattle.deed_histories.specs.Deeds.{Made, all_events, all_checks, AreNumbered}
use Rattle.deed_histories.specs.Lines.{entries_of, IsHandDeed}
use Rattle.table_deeds.specs.Objects.{slots_in, ObjectDeed, hand_deed, hand_deeds, held_in, last_in}
use Rattle.hart_parts.specs.Parts.{Try, HasEnded, WantsSlot, IsStretch, all_touches, after_steps, IsNeedy, SpendsIn}
use Rattle.part_races.specs.Awaits.{AwaitsGathered}
use Rattle.part_races.specs.Rounds.{Tagged, entries_tagged, TellsAwaited}

-- ---- instructions that were gathered

-- the checks of all events, where each event has its own
abbrev pub checks_in : List (List Check) → List Check
checks_in css = flat_map (λ (cs : List Check). cs) css

-- how many instructions a thread has made since its last deed, their events, the checks of these, and the accesses that await
pub record Gathered : Type 0 where
  pub steps : ℕ
  pub events : List Event
  pub checks : List Check
  pub awaits : List Awaited

abbrev pub nothing_gathered : Gathered
nothing_gathered = record { steps = 0; events = []; checks = []; awaits = [] }

-- An instruction of thread t that uses no object, whatever place it is at and whatever this has.
pub record MakesLocal (file : List ℕ) (harts era t : ℕ) (x : Made) (found left : Hand) : Type 0 where
  pub instruction : (k : ℕ) (held : Held) → MakesInstruction file harts era t k x.loads x.events x.checks found left held held
  pub alive : IsAlive found.bare
  pub without_object : next_object file t found.bare.thread ≡ None
  pub local_events : Each (λ (e : Event). is_local e ≡ true) x.events

-- such instructions, one after another
abbrev pub AreLocal : List ℕ → ℕ → ℕ → ℕ → List Made → Hand → Hand → Type 0
AreLocal file harts era t [] found left = found ≡ left
AreLocal file harts era t (x ∷ xs) found left =
    (hand : Hand) × MakesLocal file harts era t x found hand × AreLocal file harts era t xs hand left

-- the thread gathered these, from its last deed on
pub record IsGathered (file : List ℕ) (harts era t : ℕ) (found now : Hand) (g : Gathered) : Type 0 where
  pub made : List Made
  pub local : AreLocal file harts era t made found now
  pub steps : g.steps ≡ length made
  pub events : g.events ≡ all_events made
  pub checks : g.checks ≡ checks_in (all_checks made)
  pub numbered : AreNumbered 0 (all_checks made)
  pub awaits : AwaitsGathered file harts era t made found now g.awaits

-- one more instruction, with these events and the checks of each, and these accesses that await
abbrev pub gathered_with : Gathered → List Event → List (List Check) → List Awaited → Gathered
gathered_with g es css later =
    record { steps = g.steps + 1; events = g.events ++ es; checks = g.checks ++ checks_in css; awaits = g.awaits ++ later }

-- An instruction without an object, without events and without need of a slot, from one own state of the thread to another.
pub record IsPlain (file : List ℕ) (harts t : ℕ) (found left : Local) : Type 0 where
  pub alive : IsAlive found
  pub without_object : next_object file t found.thread ≡ None
  pub without_need : thread_needs file t found.thread ≡ false
  pub turned : (v : Value) → bare_turn file harts t steps found v ≡ record { local = left; value = v; told = [] }

-- so many of these, one after another
abbrev pub ArePlain : List ℕ → ℕ → ℕ → ℕ → Local → Local → Type 0
ArePlain file harts t zero found left = found ≡ left
ArePlain file harts t (suc n) found left = (next : Local) × ArePlain file harts t n found next × IsPlain file harts t next left

-- the thread with that own state, and all else as it was
abbrev pub with_bare : Hand → Local → Hand
with_bare l bare = record { bare = bare; watched = l.watched; given = l.given }

-- so many more, without events
abbrev pub gathered_more : Gathered → ℕ → Gathered
gathered_more g n = record { steps = g.steps + n; events = g.events; checks = g.checks; awaits = g.awaits }

-- ---- what is owed

-- What a part still owes: nothing; an instruction that needs the slot which was taken; or the leave of a slot that was spent.
pub data Owing : Type 0 where
  nothing : Owing
  needy : Owing
  leave_of : Label → Owing

-- the deed is one that may come where that is owed
abbrev pub Meets : List ℕ → Limits → Owing → ObjectDeed → Type 0
Meets file limits nothing d = (l : Label) → d.told.entry.note ≡ Leave l → ⊥
Meets file limits needy d = IsNeedy file limits d
Meets file limits (leave_of l) d = d.told.entry.note ≡ Leave l

-- and this is owed after it
abbrev pub Owes : Limits → ObjectDeed → Owing → Type 0
Owes limits d nothing = ((l : Label) → d.told.entry.note ≡ Attach l → ⊥) × ((l : Label) → SpendsIn limits d l → ⊥)
Owes limits d needy = (l : Label) × (d.told.entry.note ≡ Attach l)
Owes limits d (leave_of l) = SpendsIn limits d l

-- deeds one after another, where the first is owed and the last owes that
abbrev pub ArePaid : List ℕ → Limits → Owing → List ObjectDeed → Owing → Type 0
ArePaid file limits owed [] owing = owed ≡ owing
ArePaid file limits owed (d ∷ ds) owing =
    (next : Owing) × Meets file limits owed d × Owes limits d next
    × (IsNeedy file limits d → d.local_found.state.watched.label ≢ None)
    × ArePaid file limits next ds owing

-- what is owed after an instruction of the thread in that state, before its events
abbrev pub IsPaidBy : List ℕ → ℕ → Hand → Owing → Owing → Type 0
IsPaidBy file t now needy owing =
    ((owing ≡ needy) × (thread_needs file t now.bare.thread ≢ true)) ⊎ ((owing ≡ nothing) × (thread_needs file t now.bare.thread ≡ true))
IsPaidBy file t now owed owing = owing ≡ owed

-- ---- needs among what was gathered

-- one of the gathered instructions needs a slot
pub record NeedsWithin (file : List ℕ) (harts t : ℕ) (found : Hand) (g : Gathered) : Type 0 where
  pub step : ℕ
  pub within : step < g.steps
  pub needs : (v : Value) → thread_needs file t (after_steps file harts t found.bare v step).thread ≡ true

-- what is owed where the deeds owe the first and these instructions were gathered since
abbrev pub IsOwedWith : List ℕ → ℕ → ℕ → Hand → Gathered → Owing → Owing → Type 0
IsOwedWith file harts t found g nothing owed = owed ≡ nothing
IsOwedWith file harts t found g needy owed = (owed ≡ needy) ⊎ ((owed ≡ nothing) × NeedsWithin file harts t found g)
IsOwedWith file harts t found g (leave_of l) owed = (owed ≡ leave_of l) × (g.steps ≡ 0)

-- what the last of an instruction's events leaves to be owed, where the thread's watcher was that before it: the leave
-- of its slot, where the event raises the greatest epoch
pub record SpendsBy (limits : Limits) (w : Watched) (es : List Event) (l : Label) : Type 0 where
  pub before : List Event
  pub event : Event
  pub last : es ≡ before ++ event ∷ []
  pub raising : raises event ≡ 1
  pub label : w.label ≡ Some l
  pub greatest : l.epoch ≡ limits.epochs

abbrev pub IsOwedBy : Limits → Watched → List Event → Owing → Type 0
IsOwedBy limits w es nothing = (l : Label) → SpendsBy limits w es l → ⊥
IsOwedBy limits w es needy = ⊥
IsOwedBy limits w es (leave_of l) = SpendsBy limits w es l

-- the label that the event spends, where the thread's watcher was that before it
abbrev pub spent_by : Event → Watched → Option Label
spent_by e w = if raises e == 1 then lost_label w else None

-- and what is owed then
abbrev pub owing_of : Option Label → Owing
owing_of None = nothing
owing_of (Some l) = leave_of l

-- ---- a part so far

-- What stands of a part of thread t in that era, which began with `before`, has left this log of its seat and has told these entries,
-- each with the accesses of it that await: its deeds lead to `found`, with that last stamp, and what was gathered since leads to
-- `now`. `owed` is what the deeds and the gathered instructions still owe.
pub record SoFar (file : List ℕ) (limits : Limits) (era t : ℕ) (before : Stamped Hand) (log : Log) (told : List Tagged)
    (found now : Hand) (last : ℕ) (g : Gathered) (owed : Owing) : Type 0 where
  pub deeds : List ObjectDeed
  pub stretches : List Log
  pub mine : Each (λ (d : ObjectDeed). d.call.thread ≡ t) deeds
  pub at_objects : Each (λ (d : ObjectDeed). d.call.place ≤ desk) deeds
  pub each : Each (λ (d : ObjectDeed). IsHandDeed file limits era (hand_deed file limits d)) deeds
  pub follow : LocalsFollow before deeds
  pub found_is : last_local before deeds ≡ with_stamp found last
  pub along : AllZip IsStretch deeds stretches
  pub log_is : log ≡ flat_map (λ (items : Log). items) stretches ++ all_touches g.checks
  pub entries_are : entries_tagged told ≡ entries_of (hand_deeds file limits deeds)
  pub awaited : AllZip (TellsAwaited file limits era) (hand_deeds file limits deeds) told
  pub gathered : IsGathered file limits.harts era t found now g
  -- what the deeds owe, before what was gathered
  pub owing : Owing
  pub paid : ArePaid file limits nothing deeds owing
  pub owed_with : IsOwedWith file limits.harts t found g owing owed
  pub labelled : NeedsWithin file limits.harts t found g → found.watched.label ≢ None

-- ---- steps

-- the object has this value at place k
abbrev pub place_in : List ℕ → Limits → ℕ → Object → Held
place_in file limits k x = (held_in file limits k x).state

-- A turn of the object k with that number, in which the seat made these steps at cells, and which drew that stamp.
pub record IsTurn (k : ℕ) (old new : Log) (number : ℕ) (touches : Log) (found left : Object) (last stamp : ℕ) : Type 0 where
  pub log : new ≡ old ++ Take k number ∷ (touches ++ Give k number found left ∷ [])
  pub stamp_is : stamp ≡ max last (last_in found) + 1
  pub left_there : last_in left ≡ stamp

-- The entry of what was gathered and of one more instruction with these events and the checks of each, which drew that stamp.
pub record IsEntryWith (t : ℕ) (g : Gathered) (es : List Event) (css : List (List Check)) (stamp : ℕ) (e : Entry) : Type 0 where
  pub thread : e.tid ≡ t
  pub steps : e.steps ≡ g.steps + 1
  pub note : e.note ≡ Nothing
  pub events : e.events ≡ g.events ++ es
  pub checks : e.checks ≡ g.checks ++ checks_in css
  pub stamp_is : e.stamp ≡ stamp

-- and the entry of what was gathered alone
pub record IsEntryOf (t : ℕ) (g : Gathered) (stamp : ℕ) (e : Entry) : Type 0 where
  pub thread : e.tid ≡ t
  pub steps : e.steps ≡ g.steps
  pub note : e.note ≡ Nothing
  pub events : e.events ≡ g.events
  pub checks : e.checks ≡ g.checks
  pub stamp_is : e.stamp ≡ stamp

-- A part whose thread took a slot: its deeds lead to what the thread had with the slot before the instructions that were gathered,
-- and one of the instructions to come needs it.
pub record HasAttached (file : List ℕ) (limits : Limits) (era t : ℕ) (before : Stamped Hand) (log : Log) (told : List Tagged)
    (now : Hand) (last : ℕ) (g : Gathered) : Type 0 where
  pub found : Hand
  pub so_far : SoFar file limits era t before log told found now last g needy

-- ---- the end of a part

-- how many instructions a part has made so far
abbrev pub made_so_far : List Tagged → Gathered → ℕ
made_so_far told g = sum_by (λ (e : Entry). e.steps) (entries_tagged told) + g.steps

-- The thread is starved: it has no label where its next instruction wants one, and its last turn of the desk found no free slot.
pub record Starves (file : List ℕ) (limits : Limits) (t : ℕ) (now : Hand) (tried : Option Try) : Type 0 where
  pub unlabelled : now.watched.label ≡ None
  pub wants : WantsSlot file t now.bare.thread
  pub try_ : Try
  pub tried_is : tried ≡ Some try_
  pub none_free : (slots_in limits try_.found).queue ≡ []

-- It stops after as many instructions as it was given, and after fewer only where it ended or is starved. It tries in vain only then.
pub record Stops (file : List ℕ) (limits : Limits) (t given made : ℕ) (now : Hand) (tried : Option Try) : Type 0 where
  pub no_more : made ≤ given
  pub fewer : made < given → HasEnded now.bare.thread ⊎ Starves file limits t now tried
  pub tried_only : (x : Try) → tried ≡ Some x → (made < given) × Starves file limits t now tried

-- what was gathered last gets an entry of its own, if it is anything
abbrev pub IsLastOf : ℕ → Gathered → ℕ → Option Entry → Type 0
IsLastOf t g last None = g.steps ≡ 0
IsLastOf t g last (Some e) = (g.steps ≢ 0) × IsEntryOf t g (last + 1) e

-- with that entry behind what was told, and those of its accesses that await
abbrev pub with_last : List Tagged → List Awaited → Option Entry → List Tagged
with_last told awaits None = told
with_last told awaits (Some e) = told ++ record { entry = e; awaited = awaits } ∷ []

abbrev pub stamp_with : ℕ → Option Entry → ℕ
stamp_with last None = last
stamp_with last (Some e) = last + 1
