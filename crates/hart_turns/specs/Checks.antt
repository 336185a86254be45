-- The checks of an access at the cells of the table, and what they find.
use Rattle.std.specs.List.{AllZip}
use Rattle.race_core.specs.Walk.{planned}
use Rattle.std.specs.Prelude.{◌≡◌, ◌<◌, ◌%◌, ℕ, IsSomeAnd, List, ◌++◌, length, position, slice_index, option_map, Option, Some}
use Rattle.run_record.specs.declared.entry.Check.{Check}
use Rattle.run_record.specs.declared.entry.Label.{Label}
use Rattle.run_record.specs.declared.event.Event.{Event}
use Rattle.run_record.specs.declared.limits.Limits.{Limits}
use Rattle.run_laws.specs.Accesses.{Access, access_of}
use Rattle.run_laws.specs.Candidates.{is_race}
use Rattle.run_laws.specs.Checks.{StoresRightly}
use Rattle.turn_orders.specs.Lists.{Each}
use Rattle.race_core.specs.Watched.{Watched}
use Rattle.race_core.specs.declared.watcher.Candidate.{Candidate}
use Rattle.report_laws.specs.Sound.{first_race_in}
use Rattle.hart_events.specs.declared.checks.Raced.{Raced}
use Rattle.hart_events.specs.Checks.{raced_of, waits_on}
use Rattle.shared_table.specs.Past.{Log}
use Rattle.shared_table.specs.Steps.{Mine}
use Rattle.placed_detector.specs.Instructions.{ChecksAccess, ChecksPart}
use Rattle.hart_parts.specs.Parts.{all_touches}

-- the seat made these steps, and holds what it held
abbrev pub with_items : Log → Mine → Mine
with_items items me = (record me.0 { log = me.0.log ++ items }, me.1)

-- the seat made some steps, and holds what it held
pub record MadeSteps (old new : Mine) : Type 0 where
  pub items : Log
  pub steps : new ≡ with_items items old

-- what a watcher needs to have for checks at a table with these limits: a label of one of its slots, and a clock of as many
pub record CanCheck (limits : Limits) (w : Watched) : Type 0 where
  pub slots : length w.clock ≡ limits.slots
  pub label : IsSomeAnd w.label (λ (l : Label). l.sid < limits.slots)

-- the check of one part of an access, with whatever four words it loaded
pub record IsCheckOn (w : Watched) (e : Event) (place turn granule mask : ℕ) (c : Check) : Type 0 where
  pub event : c.event ≡ place
  pub part : (a : Access) (l : Label) → access_of e ≡ Some a → w.label ≡ Some l → turn ≡ w.trace.count % 4 →
      ChecksPart w l a (record { granule = granule; mask = mask }) c
  pub stores : StoresRightly c

-- the first word that the check loaded which races by the clock, with its granule
abbrev pub raced_in : (ℕ → ℕ) → Check → Option Raced
raced_in clock c = option_map (λ (i : ℕ). record { granule = c.granule; word = slice_index c.cells i }) (position (is_race clock c.word) c.cells)

-- All parts of the event's access were checked. The event is the one of that place in its entry. Its checks were appended, the seat made
-- their steps at the cells, and `raced` is the first word that they loaded which races by the watcher's clock.
pub record ChecksAll (file : List ℕ) (w : Watched) (e : Event) (place : ℕ) (before after : List Check) (old new : Mine)
    (raced : Option Raced) : Type 0 where
  pub added : List Check
  pub checks_are : after ≡ before ++ added
  pub of_access : ChecksAccess file w (access_of e) added
  pub stores : Each StoresRightly added
  pub of_event : Each (λ (c : Check). c.event ≡ place) added
  pub steps : new ≡ with_items (all_touches added) old
  pub raced_is : raced ≡ raced_of (first_race_in (slice_index w.clock) added)

-- The event's access was checked, and where a loaded word races it waits for the end of the round.
pub record Checks (file : List ℕ) (w : Watched) (e : Event) (place : ℕ) (before after : List Check) (waited waiting : List Candidate)
    (old new : Mine) : Type 0 where
  pub raced : Option Raced
  pub checks : ChecksAll file w e place before after old new raced
  pub waits : (a : Access) → access_of e ≡ Some a → waiting ≡ waits_on w a raced waited

-- Some parts of the event's access were checked, with the first word that races, and these are left.
pub record Half (file : List ℕ) (w : Watched) (e : Event) (place : ℕ) (before after : List Check) (old new : Mine) (left : List (ℕ × ℕ))
    (raced : Option Raced) : Type 0 where
  pub added : List Check
  pub done : List (ℕ × ℕ)
  pub parts : (a : Access) → access_of e ≡ Some a → planned file a ≡ done ++ left
  pub checks_are : after ≡ before ++ added
  pub of_parts : (a : Access) (l : Label) → access_of e ≡ Some a → w.label ≡ Some l →
      AllZip (λ (p : ℕ × ℕ) (c : Check). ChecksPart w l a (record { granule = p.0; mask = p.1 }) c) done added
  pub stores : Each StoresRightly added
  pub of_event : Each (λ (c : Check). c.event ≡ place) added
  pub steps : new ≡ with_items (all_touches added) old
  pub raced_is : raced ≡ raced_of (first_race_in (slice_index w.clock) added)
