use Rattle.race_core.proofs.PartsLaws.{with_bytes, of_granules, rising, few_parts}
use Rattle.race_core.proofs.laws.parts_law.Goals as goal

pub returns-clause-bytes : goal.returns-clause-bytes
returns-clause-bytes c = with_bytes

pub returns-clause-granules : goal.returns-clause-granules
returns-clause-granules c = of_granules

pub returns-clause-rise : goal.returns-clause-rise
returns-clause-rise c = rising

pub returns-clause-few : goal.returns-clause-few
returns-clause-few c = few_parts
