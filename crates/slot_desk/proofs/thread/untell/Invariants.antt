use Rattle.std.proofs.Common.{◌≡◌, ◌++◌, take, drop, map}
use Rattle.slot_desk.specs.Threads.{untold}
use Rattle.slot_desk.proofs.thread.untell.Given as goal

-- the threads before `tid` were told nothing, and the others are as they were
abbrev pub invariant-loop-tid : goal.invariant-loop-tid
invariant-loop-tid l = l.threads.items ≡ map untold (take l.tid l.fn.threads.items) ++ drop l.tid l.fn.threads.items
