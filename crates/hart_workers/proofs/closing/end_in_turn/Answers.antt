use Rattle.std.proofs.Common.{◌∙◌}
use Rattle.shared_table.proofs.Turns.{gave_free}
use Rattle.hart_workers.proofs.closing.end_in_turn.Goals as goal

pub end_at-reading-requires-clause-tellable : goal.end_at-reading-requires-clause-tellable
end_at-reading-requires-clause-tellable g c = c.requires.tellable c.take-object.result c.take-object.new.seat.me c.take-object.ensures.took

pub returns-clause-opener : goal.returns-clause-opener
returns-clause-opener g c =
    let end = gave_free 64 c.args.seat.now.me c.take-object.result c.end_at-reading.new.object c.take-object.new.seat.me c.give.new.seat.me
    c.take-object.ensures.took c.give.ensures.gave in
    record { own = c.give.ensures.own; free = end.0; opening = end.1 ∙ c.requires.opener.opening }
