use Rattle.std.proofs.Common.{◌≡◌, replicate}
use Rattle.slot_desk.specs.Threads.{blank_thread}
use Rattle.slot_desk.proofs.thread.blank_threads.Given as goal

abbrev pub invariant-loop-tid : goal.invariant-loop-tid
invariant-loop-tid l = l.threads.items ≡ replicate l._tid (blank_thread l.slots)
