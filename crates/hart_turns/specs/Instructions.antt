-- The events of an instruction, one after another at one place.
use Rattle.std.specs.Prelude.{◌≡◌, ℕ, zero, suc, false, List, [], ◌∷◌, ◌++◌, flat_map, map, get_or, Option, None}
use Rattle.run_record.specs.declared.entry.Check.{Check}
use Rattle.run_record.specs.declared.entry.Label.{Label}
use Rattle.run_record.specs.declared.event.Event.{Event}
use Rattle.run_record.specs.declared.limits.Limits.{Limits}
use Rattle.run_laws.specs.Labels.{raises, is_end}
use Rattle.turn_orders.specs.Lists.{Each}
use Rattle.slot_desk.specs.Desks.{DeskContents}
use Rattle.sync_slab.specs.Objects.{SyncObjects}
use Rattle.race_core.specs.Watched.{Watched}
use Rattle.race_core.specs.declared.watcher.Candidate.{Candidate}
use Rattle.detector.specs.Stands.{awaited}
use Rattle.watched_turns.specs.Checking.{Loads}
use Rattle.shared_table.specs.declared.object.Object.{Object}
use Rattle.shared_table.specs.Steps.{Mine}
use Rattle.placed_detector.specs.Instructions.{HearsEvents, given_after}
use Rattle.deed_histories.specs.Deeds.{AreNumbered}
use Rattle.hart_events.specs.Events.{lost_after}
use Rattle.hart_parts.specs.Parts.{all_touches}
use Rattle.part_races.specs.Awaits.{AwaitsEvents}
use Rattle.hart_turns.specs.Checks.{with_items}
use Rattle.hart_turns.specs.Places.{beside_at, IsGivenAs, SameBare}

-- ---- what checks loaded

-- the words that the checks of one event loaded, by the number of the check and of the cell
abbrev pub words_of : List Check → ℕ → ℕ → ℕ
words_of [] p n = 0
words_of (c ∷ cs) zero n = get_or c.cells n 0
words_of (c ∷ cs) (suc p) n = words_of cs p n

-- and those of all events, each with its own
abbrev pub loads_of : List (List Check) → Loads
loads_of [] i p n = 0
loads_of (cs ∷ css) zero p n = words_of cs p n
loads_of (cs ∷ css) (suc i) p n = loads_of css i p n

-- ---- what was given

-- what is still given after these events
abbrev pub given_after_all : Option (Option (List ℕ)) → List Event → Option (Option (List ℕ))
given_after_all given [] = given
given_after_all given (e ∷ es) = given_after_all (given_after e given) es

-- Where the thread begins among these events, the clock has what was given to it.
abbrev pub AreGivenAs : ℕ → Option (Option (List ℕ)) → List ℕ → List Event → Type 0
AreGivenAs slots given clock [] = Unit {0}
AreGivenAs slots given clock (e ∷ es) = IsGivenAs slots given clock e × AreGivenAs slots (given_after e given) clock es

-- ---- what was spent

-- the event raises no epoch and ends no thread
pub record KeepsLabel (e : Event) : Type 0 where
  pub raises_none : raises e ≡ 0
  pub goes_on : is_end e ≡ false

-- The label that the events spent: the one that their last event loses, where the thread kept until then the label with which it began.
pub record SpendsLast (w : Watched) (es : List Event) (spent : Option Label) : Type 0 where
  pub none : es ≡ [] → spent ≡ None
  pub last : (before : List Event) (e : Event) → es ≡ before ++ e ∷ [] → Each KeepsLabel before → spent ≡ lost_after e w

-- ---- all events

-- The events of thread t at place k, of which the first is the one of that place in its entry: they were heard one after another, each
-- with its own checks, and the accesses among them that loaded a word which races wait for the end of the round.
pub record HearsAll (file : List ℕ) (limits : Limits) (k t : ℕ) (clock : List ℕ) (es : List Event) (base : ℕ) (w w' : Watched) (place place' : Option Object)
    (before after : List Check) (waited waiting : List Candidate) (old new : Mine) (spent : Option Label) : Type 0 where
  pub added : List (List Check)
  pub found : List Candidate
  pub checks_are : after ≡ before ++ flat_map (λ (cs : List Check). cs) added
  pub waiting_is : waiting ≡ waited ++ found
  pub numbered : AreNumbered base added
  pub steps : new ≡ with_items (all_touches (flat_map (λ (cs : List Check). cs) added)) old
  pub heard :
      (sync : SyncObjects) (desk : DeskContents) (given : Option (Option (List ℕ))) → AreGivenAs limits.slots given clock es →
      HearsEvents file k t (loads_of added) 0 es added (beside_at limits sync desk place w given)
      (beside_at limits sync desk place' w' (given_after_all given es))
  pub awaits :
      (sync : SyncObjects) (desk : DeskContents) (given : Option (Option (List ℕ))) → AreGivenAs limits.slots given clock es →
      AwaitsEvents k t es added (beside_at limits sync desk place w given) (beside_at limits sync desk place' w' (given_after_all given es))
      (map awaited found)
  pub era : (given : Option (Option (List ℕ))) → AreGivenAs limits.slots given clock es → w'.era ≡ w.era
  pub spends : (given : Option (Option (List ℕ))) → AreGivenAs limits.slots given clock es → SpendsLast w es spent
  pub bare : SameBare place place'
