use Rattle.whole_runs.proofs.AnyPlan.{any_plan}
use Rattle.whole_runs.proofs.any_plan_law.Goals as goal

pub returns : goal.returns
returns c = any_plan
