-- A worker's thread makes its share of a round's instructions.
use Rattle.std.specs.Prelude.{◌≡◌, ◌+◌, ◌++◌, ℕ, Bool, List, is_some, Option, None}
use Rattle.run_record.specs.declared.limits.Limits.{Limits}
use Rattle.turn_orders.specs.LineUp.{Stamped}
use Rattle.shared_table.specs.Past.{Log}
use Rattle.placed_detector.specs.Standing.{Hand}
use Rattle.hart_parts.specs.Parts.{Try, try_items}
use Rattle.part_growth.specs.Growth.{nothing, Stops}
use Rattle.hart_turns.specs.declared.slots.ThreadState.{ThreadState}
use Rattle.hart_turns.specs.Slots.{hand_of}
use Rattle.part_workers.specs.declared.part.Post.{Post}
use Rattle.part_workers.specs.declared.part.PartSoFar.{PartSoFar}
use Rattle.part_workers.specs.Standing.{Stands, IsOfPart, steps_in}

-- What stands of a part stands so with so many instructions more that were gathered, whatever is in the log.
abbrev pub GoesAlong : List ℕ → ThreadState → ThreadState → PartSoFar → PartSoFar → ℕ → Type 0
GoesAlong file old new p q n =
    (limits : Limits) (post : Post) (before : Stamped Hand) (log : Log) → IsOfPart limits post old →
    Stands file limits post before log (hand_of old None) p nothing →
    Stands file limits post before log (hand_of new None) q nothing × IsOfPart limits post new × (steps_in q ≡ steps_in p + n)

-- The thread is midway in its part, which began so and was given so many instructions, and so many of these are left.
pub record IsMidway (file : List ℕ) (limits : Limits) (post : Post) (given : ℕ) (before : Stamped Hand) (log : Log) (s : ThreadState)
    (p : PartSoFar) (left : ℕ) : Type 0 where
  pub stands : Stands file limits post before log (hand_of s None) p nothing
  pub of_part : IsOfPart limits post s
  pub count : steps_in p + left ≡ given

-- The thread has made what it makes of its part, and was starved or not. The last turn of the desk, if it found no free slot, is at the log's end.
pub record HasStopped (file : List ℕ) (limits : Limits) (post : Post) (given : ℕ) (before : Stamped Hand) (log : Log) (s : ThreadState)
    (p : PartSoFar) (starved : Bool) : Type 0 where
  pub made : Log
  pub tried : Option Try
  pub log_is : log ≡ made ++ try_items tried
  pub stands : Stands file limits post before made (hand_of s None) p nothing
  pub of_part : IsOfPart limits post s
  pub stops : Stops file limits post.tid given (steps_in p) (hand_of s None) tried
  pub starved_is : is_some tried ≡ starved
