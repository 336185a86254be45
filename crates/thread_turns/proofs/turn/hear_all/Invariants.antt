use Rattle.thread_turns.proofs.EventLaws.{Partway}
use Rattle.thread_turns.proofs.turn.hear_all.Given as goal

abbrev pub invariant-loop-event : goal.invariant-loop-event
invariant-loop-event l = Partway l.image l.tid l.event-index l.events l.initial.part l.part l.initial.detector l.detector
