-- All that a worker tells of its part of a round.
use Rattle.std.specs.Prelude.{◌≡◌, ℕ, Bool, List, is_some}
use Rattle.run_record.specs.declared.limits.Limits.{Limits}
use Rattle.turn_orders.specs.LineUp.{Stamped}
use Rattle.shared_table.specs.Past.{Log}
use Rattle.placed_detector.specs.Standing.{Hand}
use Rattle.hart_parts.specs.Parts.{Part, left_in, part_entries, IsPart}
use Rattle.part_races.specs.Rounds.{Tagged, entries_tagged, TellsRaces}

-- Thread t made a part of a round in that era, which began so and was given so many instructions. It left this log of its seat, these
-- entries with the accesses of each that await the round's end, and that. It was starved or not, as it is told.
pub record TellsPart (file : List ℕ) (limits : Limits) (era t given : ℕ) (before : Stamped Hand) (log : Log) (told : List Tagged)
    (starved : Bool) (left : Stamped Hand) : Type 0 where
  pub part : Part
  pub is_part : IsPart file limits era part
  pub thread : part.thread ≡ t
  pub before_is : part.before ≡ before
  pub given_is : part.given ≡ given
  pub log_is : part.log ≡ log
  pub left_is : left_in part ≡ left
  pub entries_are : part_entries file limits part ≡ entries_tagged told
  pub tried_is : is_some part.tried ≡ starved
  pub races : TellsRaces file limits era part told
