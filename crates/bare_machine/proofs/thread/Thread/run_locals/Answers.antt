use Rattle.bare_machine.proofs.LocalLaws.{locals_made, locals_none, makes_none}
use Rattle.bare_machine.proofs.thread.Thread.run_locals.Goals as goal

pub returns-then-not-self-clause-made : goal.returns-then-not-self-clause-made
returns-then-not-self-clause-made c = makes_none c.args.code.now c.args.self.now

pub returns-then-not-self-clause-steps : goal.returns-then-not-self-clause-steps
returns-then-not-self-clause-steps c tid w here = locals_none c.args.code.now tid w c.args.self.now here

pub returns-clause-steps : goal.returns-clause-steps
returns-clause-steps c tid w here = locals_made c.args.code.now tid w c.args.self.now here c.if-not-self.false c.run_locals.result c.run_locals.new.regs c.run_locals.ensures.made
