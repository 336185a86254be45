-- What a worker says of one instruction: which events its thread heard, one after another, and with which checks.
use Rattle.std.specs.Prelude.{◌≡◌, ℕ, ◌+◌, ◌%◌, List, [], ◌∷◌, length, Option, Some, None}
use Rattle.std.specs.List.{AllZip}
use Rattle.run_record.specs.declared.event.Event.{Event}
use Rattle.run_record.specs.declared.event.Event.TheVariants as events
use Rattle.run_record.specs.declared.entry.Check.{Check}
use Rattle.run_record.specs.declared.entry.Label.{Label}
use Rattle.elf_image.specs.File.{granule_of}
use Rattle.run_laws.specs.Moments.{Does, Moment}
use Rattle.run_laws.specs.Accesses.{Access, Part, parts_of, access_of}
use Rattle.run_laws.specs.Words.{word_of}
use Rattle.run_laws.specs.Checks.{StoresRightly}
use Rattle.bare_machine.specs.Memory.{stripe}
use Rattle.bare_machine.specs.Step.{desk}
use Rattle.turn_orders.specs.Lists.{Each}
use Rattle.place_turns.specs.Wholes.{IsAtPlace}
use Rattle.place_turns.specs.Turns as turns
use Rattle.watched_turns.specs.Checking.{Loads}
use Rattle.watched_turns.specs.Right.{AreLoaded}
use Rattle.slot_desk.specs.Desks.{DeskContents}
use Rattle.sync_slab.specs.Objects.{SyncObjects}
use Rattle.race_core.specs.Watched.{Watched}
use Rattle.thread_events.specs.Heard.{watcher_after, desk_after, ObjectsAfter, IsAtKeeper, IsGranted}
use Rattle.placed_detector.specs.Standing.{Hand, Held}

-- ---- one event

-- what an event reads and changes, but for the bare machine: the thread's watcher and what it was given, and the objects and
-- the slots of its place
pub record Beside : Type 0 where
  pub watched : Watched
  pub given : Option (Option (List ℕ))
  pub sync : SyncObjects
  pub desk : DeskContents

abbrev pub beside : Hand → Held → Beside
beside l v = record { watched = l.watched; given = l.given; sync = v.sync; desk = v.desk }

-- a thread is created, ends or is joined at the desk
abbrev pub IsAtDesk : ℕ → Event → Type 0
IsAtDesk k (events.Create child) = k ≡ desk
IsAtDesk k events.End = k ≡ desk
IsAtDesk k (events.Join of) = k ≡ desk
IsAtDesk k e = Unit {0}

-- a thread begins with what it was given
abbrev pub HasGiven : Event → Option (Option (List ℕ)) → Type 0
HasGiven events.Begin given = (told : Option (List ℕ)) × (given ≡ Some told)
HasGiven e given = Unit {0}

abbrev pub told_in : Option (Option (List ℕ)) → Option (List ℕ)
told_in None = None
told_in (Some told) = told

abbrev pub given_after : Event → Option (Option (List ℕ)) → Option (Option (List ℕ))
given_after events.Begin given = None
given_after e given = given

-- only a thread with a label makes the event, unless it puts bytes on the output
abbrev pub HasLabel : Event → Option Label → Type 0
HasLabel (events.Put value count) label = Unit {0}
HasLabel e label = (l : Label) × (label ≡ Some l)

-- the event of thread t at place k is heard
pub record HearsEvent (k t : ℕ) (e : Event) (old new : Beside) : Type 0 where
  pub label : HasLabel e old.watched.label
  pub keeper : IsAtKeeper stripe k e
  pub at_desk : IsAtDesk k e
  pub granted : IsGranted old.desk t e
  pub has_given : HasGiven e old.given
  pub watched : new.watched ≡ watcher_after (told_in old.given) old.sync old.desk e old.watched
  pub given : new.given ≡ given_after e old.given
  pub objects : ObjectsAfter old.watched.era old.watched.clock e old.sync new.sync
  pub desk_is : new.desk ≡ desk_after old.desk t old.watched.clock e

-- ---- its checks

-- the check of a part of an access, by the thread's label and the count of its trace, with whatever four words it loaded
pub record ChecksPart (w : Watched) (label : Label) (a : Access) (part : Part) (c : Check) : Type 0 where
  pub granule : c.granule ≡ part.granule
  pub word : c.word ≡ word_of part.mask label a.read a.atomic
  pub turn : c.turn ≡ w.trace.count % 4
  pub four : length c.cells ≡ 4

-- one for each part, where the event is an access, and else none
abbrev pub ChecksAccess : List ℕ → Watched → Option Access → List Check → Type 0
ChecksAccess file w (Some a) checks = (l : Label) × (w.label ≡ Some l) × AllZip (ChecksPart w l a)
    (parts_of (granule_of file) a) checks
ChecksAccess file w None checks = checks ≡ []

-- ---- all events of an instruction

-- The events are heard one after another, each with its checks, which store by the rule and loaded these words. The first of
-- them has the number i in its instruction.
abbrev pub HearsEvents : List ℕ → ℕ → ℕ → Loads → ℕ → List Event → List (List Check) → Beside → Beside → Type 0
HearsEvents file k t loads i [] [] old new = old ≡ new
HearsEvents file k t loads i (e ∷ es) (checks ∷ rest) old new =
    (next : Beside) × HearsEvent k t e old next × ChecksAccess file old.watched (access_of e) checks
    × Each StoresRightly checks × AreLoaded (loads i) 0 checks
    × HearsEvents file k t loads (i + 1) es rest next new
HearsEvents file k t loads i _ _ old new = ⊥

-- the moments of the events
pub record IsHeard (t : ℕ) (m : Moment) (e : Event) (checks : List Check) : Type 0 where
  pub item : m.item ≡ Does t e
  pub checks_are : m.checks ≡ checks

abbrev pub AreHeard : ℕ → List Moment → List Event → List (List Check) → Type 0
AreHeard t [] [] [] = Unit {0}
AreHeard t (m ∷ ms) (e ∷ es) (checks ∷ rest) = IsHeard t m e checks × AreHeard t ms es rest
AreHeard t _ _ _ = ⊥

-- One instruction of thread t at place k, in that era. The bare machine's turn tells these events, and they are heard.
pub record MakesInstruction (file : List ℕ) (harts era t k : ℕ) (loads : Loads) (es : List Event)
    (checks : List (List Check)) (found left : Hand) (place_found place_left : Held) : Type 0 where
  pub present : found.watched.era ≡ era
  pub at : IsAtPlace file found.bare t k
  pub stepped : turns.bare_turn file harts t turns.steps found.bare place_found.bare ≡ record
      { local = left.bare; value = place_left.bare; told = es }
  pub heard : HearsEvents file k t loads 0 es checks (beside found place_found) (beside left place_left)
