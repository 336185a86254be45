use Rattle.part_growth.proofs.Slots.{attach_grows, leave_grows}
use Rattle.part_growth.proofs.slot_law.Goals as goal

pub returns-clause-taken : goal.returns-clause-taken
returns-clause-taken c = attach_grows

pub returns-clause-left : goal.returns-clause-left
returns-clause-left c = leave_grows
