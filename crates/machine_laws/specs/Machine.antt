-- The bare machine in the form that histories are told of.
use Rattle.std.specs.Prelude.{ℕ, List, length}
use Rattle.bare_machine.specs.World.{World, start, lives}
use Rattle.bare_machine.specs.Step.{Step, step}
use Rattle.bare_machine.specs.Preview as previews
use Rattle.run_laws.specs.Faithful.{Bare, Stepped}

abbrev pub stepped : Step → Stepped World
stepped s = record { state = s.world; events = s.events; object = s.object }

-- an executable file's machine, of which so many threads may live at once
abbrev pub bare_of : List ℕ → ℕ → Bare World
bare_of file harts =
    record {
      start = start file harts;
      step = λ w t. stepped (step file w t);
      lives = lives;
      threads = λ w. length w.threads;
      needs_slot = previews.needs_slot file;
      output = λ w. w.output;
      ended = λ w. w.ended;
    }
