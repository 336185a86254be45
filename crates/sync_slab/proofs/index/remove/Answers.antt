use Rattle.sync_slab.proofs.index.remove.Goals as goal

pub returns-clause-gone : goal.returns-clause-gone
returns-clause-gone c = c.swap_remove.ensures.updates.0
