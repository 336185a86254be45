use Rattle.report_laws.proofs.AgreeLaw.{candidates_stay}
use Rattle.report_laws.proofs.grown.candidate_law.Goals as goal

pub returns : goal.returns
returns c = candidates_stay
