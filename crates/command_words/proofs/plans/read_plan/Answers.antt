use Rattle.std.proofs.Common.{◌∙◌, ap, arith, inr, refl}
use Rattle.command_words.proofs.PlanLaws.{no_turn, one_more_piece, plan_read, texts_of, too_many}
use Rattle.command_words.proofs.plans.read_plan.Goals as goal

pub returns-then-len-gt-MOST_TURNS-clause-err : goal.returns-then-len-gt-MOST_TURNS-clause-err
returns-then-len-gt-MOST_TURNS-clause-err c = inr (refl, too_many c.args.text.now c.in_ok-pieces.pieces.items c.in_ok-pieces.ensures (omega arith))

pub returns-in-None-clause-err : goal.returns-in-None-clause-err
returns-in-None-clause-err c = inr (
  refl,
  no_turn c.args.text.now c.deref-piece-items.result.now c.loop-piece.piece-index _
      (ap texts_of c.deref-piece-items.ensures.value ∙ c.in_ok-pieces.ensures) c.loop-piece-test.true c.in-None.ensures,
)

pub loop-piece-preserved : goal.loop-piece-preserved
loop-piece-preserved c = one_more_piece c.deref-piece-items.result.now c.loop-piece.piece-index _ _ _ c.in-Some.turn c.loop-piece-test.true c.in-Some.ensures c.in_ok-push-in-Some.ensures.ok c.loop-piece.invariant

pub returns-clause-ok : goal.returns-clause-ok
returns-clause-ok c = plan_read c.args.text.now c.deref-piece-items.result.now _ _ (ap texts_of c.deref-piece-items.ensures.value ∙ c.in_ok-pieces.ensures)
    (omega arith) c.loop-piece-test.false c.loop-piece.invariant
