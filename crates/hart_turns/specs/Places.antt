-- An event of a thread at a place: at an object of the table, or at none.
use Rattle.std.specs.Prelude.{◌≡◌, ◌≤◌, ℕ, List, ◌++◌, length, map, replicate, Option, Some, None}
use Rattle.run_record.specs.declared.entry.Check.{Check}
use Rattle.run_record.specs.declared.entry.Label.{Label}
use Rattle.run_record.specs.declared.event.Event.{Event}
use Rattle.run_record.specs.declared.event.Event.TheVariants as events
use Rattle.run_record.specs.declared.limits.Limits.{Limits}
use Rattle.run_laws.specs.Accesses.{access_of}
use Rattle.run_laws.specs.Checks.{StoresRightly}
use Rattle.turn_orders.specs.Lists.{Each}
use Rattle.slot_desk.specs.Desks.{DeskContents}
use Rattle.slot_desk.specs.Steps.{joined_told}
use Rattle.sync_slab.specs.Objects.{SyncObjects}
use Rattle.race_core.specs.Watched.{Watched}
use Rattle.race_core.specs.declared.watcher.Candidate.{Candidate}
use Rattle.detector.specs.Stands.{awaited}
use Rattle.shared_table.specs.declared.object.DeskState.{DeskState}
use Rattle.shared_table.specs.declared.object.Object.{Object}
use Rattle.shared_table.specs.declared.object.Object.TheVariants.{Stripe, Desk}
use Rattle.shared_table.specs.Past.{IsDeskOf}
use Rattle.shared_table.specs.Steps.{Mine}
use Rattle.placed_detector.specs.Instructions.{Beside, HearsEvent, ChecksAccess, given_after}
use Rattle.hart_events.specs.Events.{lost_after}
use Rattle.hart_parts.specs.Parts.{all_touches}
use Rattle.part_races.specs.Awaits.{awaits_at}
use Rattle.table_deeds.specs.Objects.{sync_in, slots_in}
use Rattle.hart_turns.specs.Checks.{with_items}
use Rattle.hart_turns.specs.Hearing.{at_rest}

-- ---- places

-- the machine has made each thread that the desk's slots have heard of, and at most 1,024
abbrev pub HasAllMade : DeskState → Type 0
HasAllMade d = (d.desk.made ≤ length d.machine.made) × (length d.machine.made ≤ 1024)

-- what an object that was taken has while events are heard there, with those limits: a stripe objects of so many slots, and the
-- desk is one for the limits, whose machine has made its threads
abbrev pub IsPlace : Limits → ℕ → Option Object → Type 0
IsPlace limits k None = Unit {0}
IsPlace limits k (Some (Stripe s)) = s.value.sync.slots ≡ limits.slots
IsPlace limits k (Some (Desk d)) = (k ≡ 64) × IsDeskOf limits d.value.desk × HasAllMade d.value

-- what events read and change there; at no object, whatever a place may have
abbrev pub sync_at : Limits → SyncObjects → Option Object → SyncObjects
sync_at limits other None = other
sync_at limits other (Some x) = sync_in limits x

abbrev pub slots_at : Limits → DeskContents → Option Object → DeskContents
slots_at limits other None = other
slots_at limits other (Some x) = slots_in limits x

-- what an event of a thread finds beside the bare machine, where its watcher is w and that was given to it
abbrev pub beside_at : Limits → SyncObjects → DeskContents → Option Object → Watched → Option (Option (List ℕ)) → Beside
beside_at limits sync desk place w given = record { watched = at_rest w; given = given; sync = sync_at limits sync place; desk = slots_at limits desk place }

-- the object has the same part of the bare machine, and the same stamp
abbrev pub SameBare : Option Object → Option Object → Type 0
SameBare None None = Unit {0}
SameBare (Some (Stripe s)) (Some (Stripe r)) = (r.value.words ≡ s.value.words) × (r.value.reserved ≡ s.value.reserved) × (r.value.last ≡ s.value.last)
SameBare (Some (Desk d)) (Some (Desk e)) = (e.value.machine ≡ d.value.machine) × (e.value.last ≡ d.value.last)
SameBare _ _ = ⊥

-- ---- one event

-- Where a thread begins, the clock has what was given to it, as an empty clock of so many slots took that in.
abbrev pub IsGivenAs : ℕ → Option (Option (List ℕ)) → List ℕ → Event → Type 0
IsGivenAs slots given clock events.Begin = (told : Option (List ℕ)) × (given ≡ Some told) × (clock ≡ joined_told (replicate slots 0) told)
IsGivenAs slots given clock e = Unit {0}

-- The event of thread t at place k, which is the one of that place in its entry: it was heard, and checked. Where it is an access that
-- loaded a word which races, it waits for the end of the round.
pub record HearsOne (file : List ℕ) (limits : Limits) (k t : ℕ) (clock : List ℕ) (e : Event) (at : ℕ) (w w' : Watched) (place place' : Option Object)
    (before after : List Check) (waited waiting : List Candidate) (old new : Mine) (spent : Option Label) : Type 0 where
  pub added : List Check
  pub found : List Candidate
  pub checks_are : after ≡ before ++ added
  pub waiting_is : waiting ≡ waited ++ found
  pub of_access : ChecksAccess file w (access_of e) added
  pub stores : Each StoresRightly added
  pub of_event : Each (λ (c : Check). c.event ≡ at) added
  pub steps : new ≡ with_items (all_touches added) old
  pub awaits : map awaited found ≡ awaits_at w (access_of e) added
  pub heard :
      (sync : SyncObjects) (desk : DeskContents) (given : Option (Option (List ℕ))) → IsGivenAs limits.slots given clock e →
      HearsEvent k t e (beside_at limits sync desk place w given) (beside_at limits sync desk place' w' (given_after e given))
  pub spent_is : spent ≡ lost_after e w
  pub bare : SameBare place place'
