use Rattle.turn_histories.proofs.Checked.{all_checks, all_stores}
use Rattle.turn_histories.proofs.checks_law.Goals as goal

pub returns-clause-checks : goal.returns-clause-checks
returns-clause-checks c file harts g slots rs ess ok rounds of = all_checks file harts g slots ok rs ess rounds of

pub returns-clause-stores : goal.returns-clause-stores
returns-clause-stores c file harts g slots rs ess ok rounds of = all_stores file harts g slots ok rs ess rounds of
