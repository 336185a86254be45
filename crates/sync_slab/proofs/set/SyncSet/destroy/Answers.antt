use Rattle.sync_slab.proofs.SetLemmas.{ends}
use Rattle.sync_slab.proofs.set.SyncSet.destroy.Goals as goal

pub returns-clause-ends : goal.returns-clause-ends
returns-clause-ends c = ends c.args.self.now c.remove.new.self _ c.args.addr c.remove.ensures.removes c.remove-2.ensures.removes
