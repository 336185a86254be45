-- What is known of a run from the rounds that were made.
use Rattle.std.specs.Prelude.{◌≡◌, ℕ, List, [], ◌∷◌, ◌++◌, length, map, Ok, Some}
use Rattle.std.specs.List.{AllZip, flat_map}
use Rattle.run_record.specs.declared.entry.Entry.{Entry}
use Rattle.run_record.specs.declared.finished.LastState.{LastState}
use Rattle.run_record.specs.declared.limits.Limits.{Limits}
use Rattle.elf_image.specs.File.{image_of}
use Rattle.bare_machine.specs.Step.{desk}
use Rattle.turn_orders.specs.Machine.{State}
use Rattle.turn_orders.specs.LineUp.{Stamped}
use Rattle.shared_table.specs.declared.object.DeskState.{DeskState}
use Rattle.shared_table.specs.declared.object.Object.{Object}
use Rattle.shared_table.specs.declared.view.Layout.{Layout}
use Rattle.shared_table.specs.Layouts.{first_of, IsLaidOut}
use Rattle.shared_table.specs.Past.{Past, turns_of, log_of, logs_of, Lawful}
use Rattle.placed_detector.specs.Standing.{Hand}
use Rattle.hart_parts.specs.Rounds.{PartRound}
use Rattle.whole_parts.specs.Dues.{HasDesk, AreDueRounds, IsEnd, state_after_rounds, remaining_after, era_of_last}
use Rattle.part_races.specs.Rounds.{Tagged, TellsRaces, era_after}
use Rattle.part_races.specs.Sorting.{Keyed, all_keyed, AreSorted}
use Rattle.part_runs.specs.Next.{next_base}
use Rattle.part_runs.specs.Runs.{AreRoundLimits, AreRounds}
use Rattle.part_runs.specs.Told.{RoundReports, IsToldRound}
use Rattle.made_rounds.specs.Made.{MadeRound, Stand, first_stand, after_parts, stand_after, stand_of, IsMade, AreMade}
use Rattle.made_rounds.specs.Logs.{HaveRoundLogs}

-- A table is laid out for an accepted executable and for limits in their ranges, and `first` is its desk as it begins.
pub record IsSetUp (file : List ℕ) (limits : Limits) (lay : Layout) (first : Object) : Type 0 where
  pub limits_are : AreRoundLimits limits
  pub accepted : image_of file ≡ Ok file
  pub laid_out : IsLaidOut file limits lay
  pub first_desk : first_of lay desk ≡ Some first

-- Rounds were made over a table that was set up, and this is a lawful past of it, whichever one was told.
pub record HaveBeenMade (file : List ℕ) (limits : Limits) (lay : Layout) (past : Past) (first : Object) (xs : List MadeRound) : Type 0 where
  pub set_up : IsSetUp file limits lay first
  pub made : AreMade file limits (first_stand limits first) xs
  pub lawful : Lawful lay past

-- what the next round begins with
abbrev pub stand_behind : Limits → Object → List MadeRound → Stand
stand_behind limits first xs = stand_of (first_stand limits first) xs

-- Behind these rounds one more has been made, and then the opening seat has taken the desk, and found it with that state.
pub record IsAtRoundEnd (file : List ℕ) (limits : Limits) (lay : Layout) (past : Past) (first : Object) (xs : List MadeRound)
    (x : MadeRound) (d : DeskState) : Type 0 where
  pub before : HaveBeenMade file limits lay past first xs
  pub round : IsMade file limits (stand_behind limits first xs) x
  pub logs : HaveRoundLogs (logs_of past) (log_of 0 past) (first_stand limits first) xs x (Some x.turn)
  pub found : (turns_of lay desk past).value ≡ Some x.found
  pub at_desk : HasDesk x.found d

-- what threads have at the end of the round, before an era begins, beside the desk
abbrev pub at_round_end : Stand → MadeRound → State (Stamped Hand) Object
at_round_end s x = record { local = after_parts x.parts s.locals; value = λ k. x.found }

-- The past has rounds of parts, with the entries of those that were made; each was due; and what comes after them is as the stand has
-- it.
pub record HaveRounds (file : List ℕ) (limits : Limits) (lay : Layout) (past : Past) (xs : List MadeRound) (s : Stand) : Type 0 where
  pub begins : State (Stamped Hand) Object
  pub rounds : List PartRound
  pub are : AreRounds file limits lay past begins rounds
  pub dues : AreDueRounds limits limits.steps begins rounds
  pub entries : map (λ (r : PartRound). r.entries) rounds ≡ map (λ (x : MadeRound). x.entries) xs
  pub locals : (t : ℕ) → (state_after_rounds begins rounds).local t ≡ s.locals t
  pub desk_is : (state_after_rounds begins rounds).value desk ≡ s.desk
  pub count : length rounds ≡ s.round
  pub era_is : era_after 0 rounds ≡ s.era
  pub last_era : era_of_last 0 0 rounds ≡ s.last_era
  pub base : next_base 0 begins rounds ≡ s.base
  pub remaining : remaining_after limits.steps rounds ≡ s.remaining

-- The workers of a round told its races, and sorted by the stamps and threads of their entries they are these.
pub record TellsRound (file : List ℕ) (limits : Limits) (era : ℕ) (x : MadeRound) (keys : List Keyed) : Type 0 where
  pub told : List (List Tagged)
  pub of_parts : AllZip (TellsRaces file limits era) x.parts told
  pub sorted : AreSorted (all_keyed (flat_map (λ (ts : List Tagged). ts) told)) keys

-- so it is of each round
abbrev pub TellAll : List ℕ → Limits → Stand → List MadeRound → List (List Keyed) → Type 0
TellAll file limits s [] [] = Unit {0}
TellAll file limits s (x ∷ xs) (keys ∷ later) = TellsRound file limits s.era x keys × TellAll file limits (stand_after s x) xs later
TellAll file limits s _ _ = ⊥

-- at each round's end these reports were told, where these entries were made before
abbrev pub AreToldMade : List ℕ → Limits → List Entry → List MadeRound → List RoundReports → Type 0
AreToldMade file limits before [] [] = Unit {0}
AreToldMade file limits before (x ∷ xs) (t ∷ ts) =
    IsToldRound file limits before x.entries t × AreToldMade file limits (before ++ x.entries) xs ts
AreToldMade file limits before _ _ = ⊥

-- There the run is over, with that desk and that last state.
pub record IsOverAt (limits : Limits) (s : Stand) (closed : DeskState) (last : LastState) : Type 0 where
  pub at_desk : HasDesk s.desk closed
  pub end_is : IsEnd limits s.remaining closed last.end
  pub threads_are : last.threads ≡ length closed.machine.made
  pub rounds_are : last.rounds ≡ s.round
  pub era_is : last.era ≡ s.last_era
