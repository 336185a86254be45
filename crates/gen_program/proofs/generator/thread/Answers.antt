use Rattle.std.proofs.Common.{sym, ap, ◌∙◌, refl, ◌/◌}
use Rattle.std.proofs.lemmas.List.{append-nil}
use Rattle.gen_program.specs.Draws.{after, next}
use Rattle.gen_program.specs.Program.{operations}
use Rattle.gen_program.proofs.Lengths.{after-two}
use Rattle.gen_program.proofs.Making.{one_more}
use Rattle.gen_program.proofs.generator.thread.Goals as goal

pub loop-done-init : goal.loop-done-init
unfolding operations after
loop-done-init c = record { code_is = sym (append-nil c.args.code.now.items); draws_are = refl }

pub loop-done-preserved : goal.loop-done-preserved
loop-done-preserved c =
    let first = c.draw-choice.ensures in
    let second = c.draw-place.ensures in
    record {
      code_is = one_more
          c.args.draws.now.state
          c.loop-done._done
          c.loop-done.draws.state
          c.draw-choice.result
          c.draw-place.result
          c.args.code.now.items
          c.loop-done.code.items
          c.operation.new.code.items
          c.loop-done.invariant.code_is
          c.loop-done.invariant.draws_are
          first.value
          (second.value ∙ ap (λ x. next x / 65536) first.state)
          c.in_ok-operation.ensures;
      draws_are = second.state ∙ ap next (first.state ∙ ap next c.loop-done.invariant.draws_are) ∙ sym (after-two c.args.draws.now.state c.loop-done._done);
    }
