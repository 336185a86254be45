use Rattle.thread_turns.proofs.PartLaws.{PartlyAll, left}
use Rattle.thread_turns.proofs.watched.WatchedMachine.run_part.Given as goal

abbrev pub invariant-steps : goal.invariant-steps
invariant-steps l = PartlyAll l.image l.tid l.most l.stopped l.initial.part l.part l.initial.self l.self

abbrev pub decreases-steps : goal.decreases-steps
decreases-steps l = left l.most l.part.steps l.stopped
