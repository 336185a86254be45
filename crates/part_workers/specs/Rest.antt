-- The end of a worker's part.
use Rattle.std.specs.Prelude.{◌≡◌, ◌++◌, ◌∷◌, ℕ, List, [], map, is_some, Option, Some, None}
use Rattle.run_record.specs.declared.entry.Entry.{Entry}
use Rattle.run_record.specs.declared.limits.Limits.{Limits}
use Rattle.turn_orders.specs.LineUp.{Stamped, with_stamp}
use Rattle.turn_histories.specs.Rounds.{IsIn}
use Rattle.report_laws.specs.Awaited.{Awaited}
use Rattle.shared_table.specs.Past.{Log}
use Rattle.placed_detector.specs.Standing.{Hand}
use Rattle.hart_parts.specs.Parts.{Try}
use Rattle.part_races.specs.Rounds.{Tagged}
use Rattle.part_races.specs.Sorting.{Keyed, keyed_of}
use Rattle.part_races.specs.Telling.{TellsPart}
use Rattle.part_growth.specs.Growth.{IsLastOf, stamp_with}
use Rattle.part_workers.specs.declared.part.Post.{Post}
use Rattle.part_workers.specs.declared.part.PartSoFar.{PartSoFar}
use Rattle.part_workers.specs.Parts.{gathered_in, keyed_in, KeepsTold}

-- with the last entry, if there is one
abbrev pub with_entry : List Entry → Option Entry → List Entry
with_entry entries None = entries
with_entry entries (Some e) = entries ++ e ∷ []

-- what awaits of it
abbrev pub keyed_with : Option Entry → List Awaited → List Keyed
keyed_with None awaits = []
keyed_with (Some e) awaits = keyed_of (record { entry = e; awaited = awaits })

-- the last entry is of that round and era
abbrev pub IsInside : Post → Option Entry → Type 0
IsInside post None = Unit {0}
IsInside post (Some e) = IsIn post.round post.era e

-- What was gathered last was told in an entry of its own, if it was anything.
pub record TellsRest (post : Post) (before after : PartSoFar) : Type 0 where
  pub entry : Option Entry
  pub is_last : IsLastOf post.tid (gathered_in before) before.last entry
  pub inside : IsInside post entry
  pub last : after.last ≡ stamp_with before.last entry
  pub entries : after.entries ≡ with_entry before.entries entry
  pub waiting : map (keyed_in post.tid) after.waiting.items ≡ map (keyed_in post.tid) before.waiting.items ++ keyed_with entry (gathered_in before).awaits

-- The worker has made its thread's part: it tells all of it, and keeps the entries and what awaits.
pub record HasMade (file : List ℕ) (limits : Limits) (post : Post) (given : ℕ) (before : Stamped Hand) (log : Log) (tried : Option Try)
    (now : Hand) (after : PartSoFar) : Type 0 where
  pub told : List Tagged
  pub part : TellsPart file limits post.era post.tid given before log told (is_some tried) (with_stamp now after.last)
  pub keeps : KeepsTold post told after
