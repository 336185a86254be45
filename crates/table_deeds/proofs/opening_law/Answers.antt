use Rattle.table_deeds.proofs.Opening.{laid_out, between}
use Rattle.table_deeds.proofs.opening_law.Goals as goal

pub returns-clause-first : goal.returns-clause-first
returns-clause-first c file limits lay m = laid_out lay file limits m

pub returns-clause-between : goal.returns-clause-between
returns-clause-between c = between
