use Rattle.std.proofs.Common.{arith}
use Rattle.thread_turns.proofs.LocalRuns.{runs_locals}
use Rattle.thread_turns.proofs.watched.WatchedMachine.run_locals.Goals as goal

pub returns-clause-goes : goal.returns-clause-goes
returns-clause-goes c = runs_locals _ _ _ _ _ _ _ c.requires.unused c.requires.few (let z = c.run_locals.ensures.few in let y = c.requires.few in omega arith) c.run_locals.ensures.made
