use Rattle.shared_table.proofs.PastLaws.{line_up}
use Rattle.shared_table.proofs.laws.line_up_law.Goals as goal

pub returns : goal.returns
returns c v told all = line_up v told all
