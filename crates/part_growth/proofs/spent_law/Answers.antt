use Rattle.part_growth.proofs.Order.{quiet_before}
use Rattle.part_growth.proofs.Owed.{whole_owed}
use Rattle.part_growth.proofs.Spending.{label_stays, none_owed, spent_owed}
use Rattle.part_growth.proofs.spent_law.Goals as goal

pub returns-clause-quiet : goal.returns-clause-quiet
returns-clause-quiet c = quiet_before

pub returns-clause-stays : goal.returns-clause-stays
returns-clause-stays c = label_stays

pub returns-clause-unspent : goal.returns-clause-unspent
returns-clause-unspent c = none_owed

pub returns-clause-owed : goal.returns-clause-owed
returns-clause-owed c = spent_owed

pub returns-clause-whole : goal.returns-clause-whole
returns-clause-whole c = whole_owed
