use Rattle.part_runs.proofs.Left.{objects_at_end, part_at_end, other_at_end}
use Rattle.part_runs.proofs.ends_law.Goals as goal

pub returns-clause-objects : goal.returns-clause-objects
returns-clause-objects c = objects_at_end

pub returns-clause-parts : goal.returns-clause-parts
returns-clause-parts c file limits lay past m rs r p all i = part_at_end file limits lay past m rs r all p i

pub returns-clause-others : goal.returns-clause-others
returns-clause-others c file limits lay past m rs r t all none = other_at_end file limits lay past m rs r all t none
