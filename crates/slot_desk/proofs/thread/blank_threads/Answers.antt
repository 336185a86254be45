use Rattle.std.proofs.Common.{◌≡◌, replicate, ap, ◌∙◌, arith}
use Rattle.slot_desk.specs.Threads.{blank_thread}
use Rattle.slot_desk.proofs.thread.blank_threads.Goals as goal

pub returns : goal.returns
returns c =
    let all : c.loop-tid._tid ≡ 1024 = omega arith in
    c.loop-tid.invariant ∙ ap (λ n. replicate n (blank_thread c.args.slots)) all
