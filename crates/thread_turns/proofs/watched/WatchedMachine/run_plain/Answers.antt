use Rattle.thread_turns.proofs.LocalRuns.{runs_both}
use Rattle.thread_turns.proofs.watched.WatchedMachine.run_plain.Goals as goal

pub returns-then-part-most : goal.returns-then-part-most
returns-then-part-most c =
    runs_both c.args.code.now c.args.tid c.args.most c.args.part.now c.run_locals.new.part c.make_plain.new.part c.args.self.now c.run_locals.new.self c.make_plain.new.self c.run_locals.ensures.goes c.if-part-most.true c.make_plain.ensures
