use Rattle.std.proofs.Common.{◌≡◌, ◌++◌, length}
use Rattle.std.specs.Vec.Iter.{into_iter_items, into_iter_len}
use Rattle.hart_workers.specs.Crews.{TakesBack}
use Rattle.hart_workers.proofs.crew.Crew.take_back.Given as goal

abbrev pub invariant-loop-worker : goal.invariant-loop-worker
invariant-loop-worker g l =
    TakesBack l.fn.self.states.items l.self.states.items l.yielded l.fn.logs.items l.logs.items l.fn.pending l.pending l.starved
    × (l.yielded ++ into_iter_items l.worker-iterator ≡ into_iter_items l.initial.worker-iterator)
    × (into_iter_len l.worker-iterator ≡ length (into_iter_items l.worker-iterator))
