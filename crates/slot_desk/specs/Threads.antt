-- A thread in memory.
use Rattle.std.specs.Prelude.{ℕ, ◌==◌, if◌then◌else◌, false, Some, None, replicate}
use Rattle.slot_desk.specs.Desks.{ThreadContents}
use Rattle.slot_desk.specs.declared.thread.ThreadState.{ThreadState}

-- what is seen of it in that era
abbrev pub shown : ℕ → ThreadState → ThreadContents
shown era t = record { lives = t.lives; told = (if t.told_in == era then Some t.told else None) }

-- one that was not made
abbrev pub blank_thread : ℕ → ThreadState
blank_thread slots = record { lives = false; slot = 0; told = replicate slots 0; told_in = 0 }

-- it was told nothing
abbrev pub untold : ThreadState → ThreadState
untold t = record t { told_in = 0 }
