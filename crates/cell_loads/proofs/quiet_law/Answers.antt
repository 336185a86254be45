use Rattle.cell_loads.proofs.Rounds.{quiet_from_logs}
use Rattle.cell_loads.proofs.quiet_law.Goals as goal

pub returns : goal.returns
returns c past h = quiet_from_logs past h
