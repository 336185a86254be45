-- Whole runs of the bare machine.
use Rattle.std.specs.Prelude.{ℕ, zero, suc, List, [], ◌++◌}
use Rattle.run_record.specs.declared.event.Event.{Event}
use Rattle.bare_machine.specs.World.{World}
use Rattle.bare_machine.specs.Step.{step}

-- the world after n steps of one thread, and their events
unfoldable pub after : List ℕ → World → ℕ → ℕ → World
after file w tid zero = w
after file w tid (suc n) = (step file (after file w tid n) tid).world

unfoldable pub events_in : List ℕ → World → ℕ → ℕ → List Event
events_in file w tid zero = []
events_in file w tid (suc n) = events_in file w tid n ++ (step file (after file w tid n) tid).events
