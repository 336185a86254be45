use Rattle.std.proofs.Common.{◌≡◌, ◌++◌, ◌*◌}
use Rattle.gen_program.specs.Draws.{after}
use Rattle.gen_program.specs.Program.{operations}
use Rattle.gen_program.proofs.generator.thread.Given as goal

abbrev pub invariant-loop-done : goal.invariant-loop-done
invariant-loop-done l = record {
  code_is : l.code.items ≡ l.initial.code.items ++ operations l.initial.draws.state l._done;
  draws_are : l.draws.state ≡ after l.initial.draws.state (2 * l._done);
}
