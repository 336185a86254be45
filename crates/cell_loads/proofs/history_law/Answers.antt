use Rattle.cell_loads.proofs.Histories.{history_loads}
use Rattle.cell_loads.proofs.history_law.Goals as goal

pub returns : goal.returns
returns c file limits lay past m rs few first ok lawful pasts parts = history_loads file limits lay past m rs few first ok lawful pasts parts
