use Rattle.turn_orders.proofs.Plain.{stamped_draws, plain_after, plain_tells}
use Rattle.turn_orders.proofs.plain_law.Goals as goal

pub returns-clause-draws : goal.returns-clause-draws
returns-clause-draws g c turn = stamped_draws turn

pub returns-clause-after : goal.returns-clause-after
returns-clause-after g c turn m cs = plain_after turn m cs

pub returns-clause-told : goal.returns-clause-told
returns-clause-told g c turn m cs = plain_tells turn m cs
