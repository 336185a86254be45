use Rattle.sync_slab.proofs.ChannelLaws.{acquired}
use Rattle.sync_slab.proofs.channels.acquire_law.Goals as goal

pub returns : goal.returns
returns c = acquired
