use Rattle.part_races.proofs.Histories.{round_collects, entries_collect}
use Rattle.part_races.proofs.round_law.Goals as goal

pub returns-clause-collects : goal.returns-clause-collects
returns-clause-collects c file limits lay m before r told awaited round few first ok parts await =
    round_collects file limits lay m few first ok before r told awaited parts await round

pub returns-clause-some : goal.returns-clause-some
returns-clause-some c file limits lay m before r told awaited round few first ok parts await some =
    entries_collect file limits lay m few first ok before r told awaited parts await round some
