use Rattle.sync_slab.proofs.ChannelLaws.{destroyed}
use Rattle.sync_slab.proofs.channels.destroy_law.Goals as goal

pub returns : goal.returns
returns c = destroyed
