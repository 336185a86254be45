use Rattle.hart_workers.specs.Closing.{AreLivingBelow}
use Rattle.hart_workers.proofs.reading.living_threads.Given as goal

abbrev pub invariant-loop-thread : goal.invariant-loop-thread
invariant-loop-thread l = AreLivingBelow l.desk l.thread l.live.items
