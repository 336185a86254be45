use Rattle.turn_orders.proofs.Many.{many_after, many_tells}
use Rattle.turn_orders.proofs.many_law.Goals as goal

pub returns-clause-after : goal.returns-clause-after
returns-clause-after g c turn m cs = many_after turn m cs

pub returns-clause-told : goal.returns-clause-told
returns-clause-told g c turn m cs = many_tells turn m cs
