use Rattle.turn_histories.proofs.Faithful.{faithful}
use Rattle.turn_histories.proofs.Checked.{all_checks, all_stores}
use Rattle.deed_histories.specs.Rounds.{listed_entries}
use Rattle.deed_histories.proofs.Histories.{from_first}
use Rattle.deed_histories.proofs.history_law.Goals as goal

pub returns-clause-faithful : goal.returns-clause-faithful
returns-clause-faithful c file limits cs rs ranges first ok all =
    let f = from_first file limits ranges cs first rs ok all in
    faithful file limits.harts limits.epochs limits.slots ok f.rounds (listed_entries rs) f.follow f.told

pub returns-clause-checks : goal.returns-clause-checks
returns-clause-checks c file limits cs rs ranges first ok all =
    let f = from_first file limits ranges cs first rs ok all in
    all_checks file limits.harts limits.epochs limits.slots ok f.rounds (listed_entries rs) f.follow f.told

pub returns-clause-stores : goal.returns-clause-stores
returns-clause-stores c file limits cs rs ranges first ok all =
    let f = from_first file limits ranges cs first rs ok all in
    all_stores file limits.harts limits.epochs limits.slots ok f.rounds (listed_entries rs) f.follow f.told
