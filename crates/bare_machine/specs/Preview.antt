-- Whether a thread's next instruction needs a slot, and whether it uses an object.
use Rattle.std.specs.Prelude.{ℕ, ◌||◌, not, Bool, false, List, slice_get, Option, Some, None, is_some}
use Rattle.bare_machine.specs.declared.thread.Thread.{Thread}
use Rattle.bare_machine.specs.Requests.{request, needs}
use Rattle.bare_machine.specs.World.{World}
use Rattle.bare_machine.specs.Step.{step}

-- a thread's first instruction needs one
abbrev pub thread_needs : List ℕ → ℕ → Option Thread → Bool
thread_needs file tid None = false
thread_needs file tid (Some t) = not t.began || needs (request file tid t)

abbrev pub needs_slot : List ℕ → World → ℕ → Bool
needs_slot file w tid = thread_needs file tid (slice_get w.threads tid)

abbrev pub uses_object : List ℕ → World → ℕ → Bool
uses_object file w tid = is_some (step file w tid).object
