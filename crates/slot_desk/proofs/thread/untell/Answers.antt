use Rattle.std.proofs.Common.{arith}
use Rattle.std.proofs.lemmas.List.Edits.{map_over_more}
use Rattle.slot_desk.specs.Threads.{untold}
use Rattle.slot_desk.proofs.thread.untell.Goals as goal

pub loop-tid-preserved : goal.loop-tid-preserved
loop-tid-preserved c =
    map_over_more untold c.args.threads.now.items c.loop-tid.threads.items c.loop-tid.tid c.index_mut-thread.result.now (omega (arith, c.args.threads.now.ok.0)) c.loop-tid.invariant c.index_mut-thread.ensures.value
