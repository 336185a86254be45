use Rattle.std.proofs.Common.{All, take}
use Rattle.part_workers.specs.Begin.{IsLater}
use Rattle.part_workers.proofs.begin.none_begins.Given as goal

abbrev pub invariant-loop-event : goal.invariant-loop-event
invariant-loop-event l = All IsLater (take l.event-index l.events)
