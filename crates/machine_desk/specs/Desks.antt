-- How the machine's desk begins, and when no more threads can be made.
use Rattle.std.specs.Prelude.{ℕ, ◌==◌, ◌||◌, nat_le, Bool, List, [], ◌∷◌, length, None}
use Rattle.bare_machine.specs.declared.thread.Thread.{Thread}
use Rattle.bare_machine.specs.World.{new_thread}
use Rattle.machine_desk.specs.declared.MachineDesk.{MachineDesk}

-- the main thread, which begins at that pc, and nothing that was put
abbrev pub first_desk : ℕ → MachineDesk
first_desk pc = record { made = new_thread pc 0 0x80000000 ∷ []; output = []; ended = None }

-- as many threads live as may, or as many were made as can be
abbrev pub is_full : ℕ → ℕ → List Thread → Bool
is_full harts living made = nat_le harts living || (length made == 1024)
