use Rattle.table_deeds.proofs.Rounds.{all_rounds}
use Rattle.table_deeds.proofs.rounds_law.Goals as goal

pub returns : goal.returns
returns c file limits lay round era base m rs h = all_rounds file limits lay rs round era base m h
