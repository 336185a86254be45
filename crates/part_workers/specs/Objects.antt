-- Objects that were taken, and what a turn of one tells.
use Rattle.std.specs.Prelude.{◌≡◌, ◌⊎◌, ℕ, Bool, List, Result, Ok, Option, Some, None}
use Rattle.run_record.specs.declared.entry.Label.{Label}
use Rattle.run_record.specs.declared.event.Event.{Event}
use Rattle.run_record.specs.declared.no_memory.NoMemory.{NoMemory}
use Rattle.shared_table.specs.declared.object.Object.{Object}
use Rattle.shared_table.specs.Steps.{Mine}
use Rattle.shared_table.specs.Seats.{Gave}
use Rattle.table_deeds.specs.Objects.{last_in}
use Rattle.hart_parts.specs.Parts.{restamped}
use Rattle.hart_turns.specs.declared.hear.Hearing.{Hearing}
use Rattle.hart_turns.specs.declared.hear.Hearing.TheVariants.{Heard}
use Rattle.part_workers.specs.declared.part.Post.{Post}
use Rattle.part_workers.specs.declared.part.PartSoFar.{PartSoFar}
use Rattle.part_workers.specs.Begin.{BeginsFirst}
use Rattle.part_workers.specs.Parts.{TellsGathered, gathered_also}
use Rattle.part_workers.specs.Turns.{stamp_after}

-- the last stamp of the object, if there is one
abbrev pub last_at : Option Object → ℕ
last_at None = 0
last_at (Some x) = last_in x

-- the object with that stamp
abbrev pub stamped : Option Object → ℕ → Option Object
stamped None n = None
stamped (Some x) n = Some (restamped x n)

-- the object is as it was, but for its stamp
abbrev pub IsStamped : Option Object → Option Object → Type 0
IsStamped old new = (new ≡ old) ⊎ ((n : ℕ) × (new ≡ stamped old n))

-- what was taken was given back
abbrev pub GaveBack : Mine → Option Object → Mine → Type 0
GaveBack me None me' = ⊥
GaveBack me (Some x) me' = Gave me x me'

-- The instruction was heard, and is told with what was gathered. The object gets the entry's stamp.
pub record TellsTurn (post : Post) (hearing : Result Hearing NoMemory) (spent : Option Label) (began : Bool) (events : List Event)
    (place place' : Option Object) (before after : PartSoFar) : Type 0 where
  pub heard : hearing ≡ Ok (Heard spent)
  pub begins : BeginsFirst began events
  pub told : TellsGathered post (stamp_after before (last_at place)) (gathered_also before events) after
  pub place_is : place' ≡ stamped place (stamp_after before (last_at place))
