use Rattle.std.proofs.Common.{◌≡◌, ◌<◌, ◌+◌, ◌++◌, ◌∷◌, [], sym, subst, ◌∙◌, arith}
use Rattle.hart_workers.specs.Closing.{AreLivingBelow}
use Rattle.hart_workers.proofs.Readings.{lives_then, ended_then}
use Rattle.hart_workers.proofs.reading.living_threads.Goals.{then-lives+else-thread-len+in_ok-push, else-lives}
use Rattle.hart_workers.proofs.reading.living_threads.Goals as goal

pub loop-thread-preserved : goal.loop-thread-preserved
loop-thread-preserved c = elim c.if-lives.branch [
  | then-lives+else-thread-len+in_ok-push w ↦ (
      let more : c.if-lives.live.items ≡ c.loop-thread.live.items ++ c.loop-thread.thread ∷ [] =
      let z = w.live-is in let y = w.in_ok-push.ensures.items in cc in
      let made : c.loop-thread.thread < c.args.desk.now.desk.made = omega (arith, w.if-thread-len.false, w.len.ensures, c.requires.0) in
      subst (AreLivingBelow c.args.desk.now (c.loop-thread.thread + 1)) (sym more)
      (lives_then c.args.desk.now c.loop-thread.thread c.loop-thread.live.items c.loop-thread.invariant (sym c.lives.ensures ∙ w.if-lives.true) made)
      )
  | else-lives w ↦ (
      let same : c.if-lives.live.items ≡ c.loop-thread.live.items = let z = w.live-is in cc in
      subst (AreLivingBelow c.args.desk.now (c.loop-thread.thread + 1)) (sym same)
      (ended_then c.args.desk.now c.loop-thread.thread c.loop-thread.live.items c.loop-thread.invariant
      (λ lives. let z = c.lives.ensures in let y = w.if-lives.false in cc))
      )
]
