-- A thread's own state, and what a turn of it leaves.
use Rattle.std.specs.Prelude.{◌≡◌, ℕ, zero, suc, List, [], Some, None}
use Rattle.run_record.specs.declared.event.Event.{Event}
use Rattle.place_turns.specs.Places.{Local, Value}
use Rattle.place_turns.specs.Turns.{Turned, steps, bare_turn}
use Rattle.hart_steps.specs.declared.hart.Hart.{Hart}

-- the own state of a thread that has arrived
abbrev pub local_of : Hart → Local
local_of h = record { thread = Some h.thread; reserved = h.reserved }

-- and of one that hasn't
abbrev pub absent : Local
absent = record { thread = None; reserved = None }

-- the turn in which the thread makes its next instruction, at a place of this value
abbrev pub turn : List ℕ → ℕ → ℕ → Hart → Value → Turned
turn file harts t h v = bare_turn file harts t steps (local_of h) v

-- what a turn leaves
abbrev pub leaves : Hart → Value → List Event → Turned
leaves h v es = record { local = local_of h; value = v; told = es }

-- from one state of the thread to another by so many turns that leave this value and tell nothing
pub data AreLocalTurns (file : List ℕ) (harts t : ℕ) (v : Value) (first : Hart) : ℕ → Hart → Type 0 where
  NoTurn : AreLocalTurns file harts t v first zero first
  OneMore : (n : ℕ) (old new : Hart) → AreLocalTurns file harts t v first n old → turn file harts t old v ≡ leaves new v [] → AreLocalTurns file harts t v first (suc n) new
