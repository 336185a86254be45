use Rattle.std.proofs.Common.{[]}
use Rattle.made_rounds.proofs.More.{made_more, stand_then, entries_more, races_more, told_more}
use Rattle.made_rounds.proofs.more_law.Goals as goal

pub returns-clause-made : goal.returns-clause-made
returns-clause-made c = made_more

pub returns-clause-stand : goal.returns-clause-stand
returns-clause-stand c = stand_then

pub returns-clause-entries : goal.returns-clause-entries
returns-clause-entries c = entries_more

pub returns-clause-races : goal.returns-clause-races
returns-clause-races c = races_more

pub returns-clause-told : goal.returns-clause-told
returns-clause-told c file limits xs ts x t = told_more file limits xs ts x t []
