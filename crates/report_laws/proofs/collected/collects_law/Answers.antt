use Rattle.report_laws.proofs.CollectedLaw.{collects_stay, push_unchecked, push_ordered, push_unordered}
use Rattle.report_laws.proofs.collected.collects_law.Goals as goal

pub returns-clause-unchecked : goal.returns-clause-unchecked
returns-clause-unchecked c = push_unchecked

pub returns-clause-ordered : goal.returns-clause-ordered
returns-clause-ordered c = λ g h from waiting m t a so_far. push_ordered g h from waiting m so_far t a

pub returns-clause-unordered : goal.returns-clause-unordered
returns-clause-unordered c = λ g h from waiting m t a so_far. push_unordered g h from waiting m so_far t a

pub returns-clause-stays : goal.returns-clause-stays
returns-clause-stays c = collects_stay
