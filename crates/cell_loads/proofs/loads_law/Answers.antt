use Rattle.cell_loads.proofs.Loads.{all_load_rightly}
use Rattle.cell_loads.proofs.loads_law.Goals as goal

pub returns : goal.returns
returns c file lay past g xs ok lawful t checks stores = all_load_rightly lay past lawful xs t file g ok checks stores
