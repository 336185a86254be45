use Rattle.thread_turns.proofs.LocalRuns.{one_more, one_of_registers}
use Rattle.thread_turns.proofs.watched.WatchedMachine.make_plain.Goals as goal

pub returns-in-Registers : goal.returns-in-Registers
returns-in-Registers c = one_of_registers c.args.code.now c.args.tid c.args.part.now c.args.self.now c.make_plain.new.self c.requires.unused c.in-Registers.ensures

pub returns-in-Word : goal.returns-in-Word
returns-in-Word c = one_more c.args.code.now c.args.tid c.args.part.now c.args.self.now c.make_plain.new.self Rattle.std.proofs.Common.true c.requires.unused c.in-Word.ensures
