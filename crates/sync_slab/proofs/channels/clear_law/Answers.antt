use Rattle.sync_slab.proofs.ChannelLaws.{cleared}
use Rattle.sync_slab.proofs.channels.clear_law.Goals as goal

pub returns : goal.returns
returns c = cleared
