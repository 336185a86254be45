use Rattle.std.proofs.Common.{refl}
use Rattle.made_rounds.proofs.Desk.{first_there, main_lives}
use Rattle.made_rounds.proofs.first_law.Goals as goal

pub returns-clause-some : goal.returns-clause-some
returns-clause-some c = first_there

pub returns-clause-live : goal.returns-clause-live
returns-clause-live c limits = refl

pub returns-clause-main : goal.returns-clause-main
returns-clause-main c = main_lives

pub returns-clause-made : goal.returns-clause-made
returns-clause-made c limits = refl
