use Rattle.step_engine.proofs.RoundLaws.{told_nothing}
use Rattle.step_engine.proofs.RunLaws.{ready-start}
use Rattle.step_engine.proofs.engine.Engine.new.Goals as goal

pub returns-clause-ready : goal.returns-clause-ready
returns-clause-ready c = ready-start _ _ _ _ _ c.requires c.in_ok-new.ensures.follows c.in_ok-new.ensures.era c.new-2.ensures

pub returns-clause-told : goal.returns-clause-told
returns-clause-told c = λ meets. rw c.new-2.ensures (told_nothing meets c.args.image.now c.args.limits.now)
