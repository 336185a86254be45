use Rattle.std.proofs.Common.{◌≡◌, ◌++◌, take}
use Rattle.entry_calls.proofs.events.CallEvents.append.Given as goal

abbrev pub invariant-loop-event : goal.invariant-loop-event
invariant-loop-event l = l.self ≡ l.fn.self ++ take l.event-index l.event-items
