use Rattle.std.proofs.Common.{refl}
use Rattle.made_rounds.proofs.More.{logs_round, logs_taken, logs_given}
use Rattle.made_rounds.proofs.logs_law.Goals as goal

pub returns-clause-new : goal.returns-clause-new
returns-clause-new c limits first = record { own_is = refl; parts = tt; count = refl }

pub returns-clause-round : goal.returns-clause-round
returns-clause-round c = logs_round

pub returns-clause-taken : goal.returns-clause-taken
returns-clause-taken c = logs_taken

pub returns-clause-given : goal.returns-clause-given
returns-clause-given c = logs_given
