use Rattle.part_growth.proofs.Plain.{plain_grow, plain_locals}
use Rattle.part_growth.proofs.plain_law.Goals as goal

pub returns-clause-gathered : goal.returns-clause-gathered
returns-clause-gathered c = plain_grow

pub returns-clause-made : goal.returns-clause-made
returns-clause-made c = plain_locals
