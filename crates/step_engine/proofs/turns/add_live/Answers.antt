use Rattle.std.proofs.Common.{ap, sym, ◌∙◌, arith}
use Rattle.bare_machine.specs.World.{lives}
use Rattle.step_engine.proofs.LiveLaws.{live-added, none-added}
use Rattle.step_engine.proofs.turns.add_live.Goals as goal
use Rattle.step_engine.proofs.turns.add_live.Goals.{then-lives+in_ok-push, else-lives}

pub loop-tid-preserved : goal.loop-tid-preserved
loop-tid-preserved c = elim c.if-lives.branch [
  | then-lives+in_ok-push w ↦ live-added (lives c.args.machine.now) _ _ _ _ _ (omega arith) (sym c.lives.ensures ∙ w.if-lives.true) c.loop-tid.invariant (ap (λ v. v.items) w.threads-is ∙ w.in_ok-push.ensures.items)
  | else-lives w ↦ none-added (lives c.args.machine.now) _ _ _ _ (omega arith) (sym c.lives.ensures ∙ w.if-lives.false) (ap (λ v. v.items) w.threads-is ∙ c.loop-tid.invariant)
]
