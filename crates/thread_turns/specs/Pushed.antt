-- The turn that is appended to a history.
use Rattle.std.specs.Prelude.{ℕ}
use Rattle.turn_laws.specs.Turns.{Turn}
use Rattle.thread_turns.specs.declared.part.Part.{Part}

-- the turn of the thread in that round and era
abbrev pub made_turn : ℕ → ℕ → ℕ → Part → Turn
made_turn round era tid p =
    record { round = round; era = era; tid = tid; steps = p.steps; attached = p.attached; events = p.events; checks = p.checks; left = p.spent }
