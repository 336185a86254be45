use Rattle.machine_laws.proofs.ThreadLaw.{kept}
use Rattle.machine_laws.proofs.steps.kept_law.Goals as goal

pub returns : goal.returns
returns c = kept
