use Rattle.hart_workers.proofs.rounds.Rounds.run.Goals as goal

pub close-requires-clause-at_end : goal.close-requires-clause-at_end
close-requires-clause-at_end g c = rw c.loop.invariant.rules (c.in_ok-made.ensures.at_end _ _ c.loop.invariant.between)
