-- All three hold of each effect that an instruction has by its meaning.
use Rattle.rv_exec.proofs.Effects.{done_placed, done_keeps, done_tells}
use Rattle.rv_exec.proofs.exec.begin.Goals as goal

pub returns-clause-undone : goal.returns-clause-undone
returns-clause-undone c = done_keeps c.args.instr.now.op c.args.instr.now c.args.regs.now c.execute.new.regs c.execute.result c.execute.ensures

pub returns-clause-placed : goal.returns-clause-placed
returns-clause-placed c = done_placed c.args.instr.now.op c.args.instr.now c.args.regs.now c.execute.new.regs c.execute.result c.execute.ensures

pub returns-clause-atomic : goal.returns-clause-atomic
returns-clause-atomic c = done_tells c.args.instr.now.op c.args.instr.now c.args.regs.now c.execute.new.regs c.execute.result c.execute.ensures
