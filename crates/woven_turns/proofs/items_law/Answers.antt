use Rattle.woven_turns.proofs.Items.{item_stands, item_in_log, seat_order}
use Rattle.woven_turns.proofs.Standing.{stands_more}
use Rattle.woven_turns.proofs.items_law.Goals as goal

pub returns-clause-stands : goal.returns-clause-stands
returns-clause-stands c = item_stands

pub returns-clause-log : goal.returns-clause-log
returns-clause-log c = item_in_log

pub returns-clause-order : goal.returns-clause-order
returns-clause-order c = seat_order

pub returns-clause-parts : goal.returns-clause-parts
returns-clause-parts c = stands_more
