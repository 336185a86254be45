-- Instructions of a worker's thread, as the laws of parts have them.
use Rattle.std.specs.Prelude.{◌≡◌, ◌≤◌, ◌+◌, ◌∷◌, ◌++◌, ℕ, List, [], map, length, Option, Some, None}
use Rattle.run_record.specs.declared.entry.Check.{Check}
use Rattle.run_record.specs.declared.entry.Entry.{Entry}
use Rattle.run_record.specs.declared.entry.Label.{Label}
use Rattle.run_record.specs.declared.event.Event.{Event}
use Rattle.run_record.specs.declared.limits.Limits.{Limits}
use Rattle.bare_machine.specs.declared.request.Request.{Request}
use Rattle.bare_machine.specs.Step.{desk}
use Rattle.bare_machine.specs.Locals.{MakesLocals}
use Rattle.race_core.specs.Watched.{Watched}
use Rattle.report_laws.specs.Awaited.{Awaited}
use Rattle.shared_table.specs.declared.object.Object.{Object}
use Rattle.shared_table.specs.Past.{Log}
use Rattle.shared_table.specs.Steps.{Mine}
use Rattle.turn_histories.specs.Entries.{next_object}
use Rattle.turn_histories.specs.Rounds.{IsIn}
use Rattle.deed_histories.specs.Deeds.{AreNumbered}
use Rattle.hart_steps.specs.declared.hart.Hart.{Hart}
use Rattle.hart_steps.specs.Asked.{Asks}
use Rattle.hart_parts.specs.Parts.{all_touches}
use Rattle.part_races.specs.Awaits.{AwaitsInstruction}
use Rattle.part_races.specs.Sorting.{keyed_of}
use Rattle.part_growth.specs.Growth.{checks_in, nothing_gathered, place_in, IsTurn, IsEntryWith}
use Rattle.hart_turns.specs.Instructions.{given_after_all, AreGivenAs, SpendsLast}
use Rattle.hart_turns.specs.Makes.{hand_at, made_of, MakesAlone}
use Rattle.part_workers.specs.declared.part.Post.{Post}
use Rattle.part_workers.specs.declared.part.PartSoFar.{PartSoFar}
use Rattle.part_workers.specs.Begin.{BeginsFirst}
use Rattle.part_workers.specs.Parts.{gathered_in, keyed_in}

-- ---- without an object

-- So many instructions that touch registers alone were made and gathered.
pub record GathersPlain (file : List ℕ) (old new : Hart) (before after : PartSoFar) (n : ℕ) : Type 0 where
  pub made : MakesLocals file old.thread n new.thread
  pub reserved : new.reserved ≡ old.reserved
  pub told : after ≡ record before { steps = before.steps + n }

-- An instruction without an object was made and gathered. It spent that label.
pub record GathersAlone (file : List ℕ) (limits : Limits) (t : ℕ) (clock : List ℕ) (r : Request) (asked left : Hart) (w w' : Watched)
    (before after : PartSoFar) (old new : Mine) (spent : Option Label) : Type 0 where
  pub events : List Event
  pub made : MakesAlone file limits t clock (length before.events) r asked left w w' events before.found.checks after.found.checks
      before.found.waiting.items after.found.waiting.items old new spent
  pub begins : BeginsFirst asked.thread.began events
  pub steps : after.steps ≡ before.steps + 1
  pub events_are : after.events ≡ before.events ++ events
  pub last : after.last ≡ before.last
  pub entries : after.entries ≡ before.entries
  pub waiting : after.waiting.items ≡ before.waiting.items

-- ---- at an object

-- The entry with that stamp tells what was gathered and one more instruction, and its accesses that await wait with it.
pub record TellsWith (post : Post) (events : List Event) (added : List (List Check)) (awaits : List Awaited)
    (before after : PartSoFar) : Type 0 where
  pub entry : Entry
  pub entry_is : IsEntryWith post.tid (gathered_in before) events added after.last entry
  pub inside : IsIn post.round post.era entry
  pub entries : after.entries ≡ before.entries ++ entry ∷ []
  pub waiting : map (keyed_in post.tid) after.waiting.items ≡ map (keyed_in post.tid) before.waiting.items
      ++ keyed_of (record { entry = entry; awaited = (gathered_in before).awaits ++ awaits })
  pub gathered : gathered_in after ≡ nothing_gathered

-- A turn of object k, in which the thread made the instruction that it asked for. One entry tells what was gathered and this.
pub record MakesAtObject (file : List ℕ) (limits : Limits) (post : Post) (k : ℕ) (clock : List ℕ) (r : Request) (asked left : Hart)
    (w w' : Watched) (before after : PartSoFar) (log log' : Log) (spent : Option Label) : Type 0 where
  pub found_object : Object
  pub left_object : Object
  pub number : ℕ
  pub events : List Event
  pub added : List (List Check)
  pub awaits : List Awaited
  pub turn : IsTurn k log log' number (all_touches (checks_in added)) found_object left_object before.last after.last
  pub makes :
      (h : Hart) → Asks file post.tid h asked r → (given : Option (Option (List ℕ))) → AreGivenAs limits.slots given clock events →
      AwaitsInstruction file limits.harts w.era post.tid k (made_of events added) (hand_at h w given)
      (hand_at left w' (given_after_all given events)) (place_in file limits k found_object) (place_in file limits k left_object) awaits
  pub object : (h : Hart) → Asks file post.tid h asked r → next_object file post.tid (Some h.thread) ≡ Some k
  pub numbered : AreNumbered (length before.events) added
  pub era : (given : Option (Option (List ℕ))) → AreGivenAs limits.slots given clock events → w'.era ≡ w.era
  pub spends : (given : Option (Option (List ℕ))) → AreGivenAs limits.slots given clock events → SpendsLast w events spent
  pub begins : BeginsFirst asked.thread.began events
  pub tells : TellsWith post events added awaits before after

-- An instruction was made and spent that label: without an object, which spends none, or in a turn of its object.
pub data Serves (file : List ℕ) (limits : Limits) (post : Post) (clock : List ℕ) (r : Request) (asked left : Hart) (w w' : Watched)
    (before after : PartSoFar) (old new : Mine) : Option Label → Type 0 where
  Alone : GathersAlone file limits post.tid clock r asked left w w' before after old new None →
      Serves file limits post clock r asked left w w' before after old new None
  AtObject : (k : ℕ) (spent : Option Label) → k ≤ desk → MakesAtObject file limits post k clock r asked left w w' before after old.0.log new.0.log spent →
      Serves file limits post clock r asked left w w' before after old new spent
