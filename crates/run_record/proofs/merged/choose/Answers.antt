use Rattle.std.proofs.lemmas.List.{get_or_default}
use Rattle.run_record.proofs.merged.choose.Goals as goal

pub loop-n-preserved : goal.loop-n-preserved
loop-n-preserved c =
    c.choice_after-choice.ensures c.args.rests.now c.loop-n.invariant
    (λ d. get_or_default c.args.rests.now c.loop-n.n d _ c.loop-n-test.true)
