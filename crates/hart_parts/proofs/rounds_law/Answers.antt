use Rattle.hart_parts.proofs.Rounds.{rounds_are, entries_same}
use Rattle.hart_parts.proofs.rounds_law.Goals as goal

pub returns-clause-rounds : goal.returns-clause-rounds
returns-clause-rounds c file limits lay round era base m rs h = rounds_are file limits lay rs round era base m h

pub returns-clause-entries : goal.returns-clause-entries
returns-clause-entries c = entries_same
