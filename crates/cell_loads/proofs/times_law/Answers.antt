use Rattle.cell_loads.proofs.Timed.{are_timed}
use Rattle.cell_loads.proofs.times_law.Goals as goal

pub returns : goal.returns
returns c past xs t = are_timed past xs t.each t.order
