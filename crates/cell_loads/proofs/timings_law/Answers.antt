use Rattle.cell_loads.proofs.Rounds.{timings_of}
use Rattle.cell_loads.proofs.timings_law.Goals as goal

pub returns : goal.returns
returns c file limits lay past round era base m rs h g = timings_of file limits lay past rs round era base m h g
