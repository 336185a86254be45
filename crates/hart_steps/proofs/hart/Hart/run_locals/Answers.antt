use Rattle.hart_steps.proofs.LocalTurns.{local_turns}
use Rattle.hart_steps.proofs.hart.Hart.run_locals.Goals as goal

pub returns-clause-made : goal.returns-clause-made
returns-clause-made c harts tid v = local_turns c.args.code.now harts tid v c.args.self.now c.run_locals.result _ c.run_locals.ensures.made
