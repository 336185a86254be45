use Rattle.sync_slab.proofs.ChannelLaws.{keeps-reserved}
use Rattle.sync_slab.proofs.channels.reserve_law.Goals as goal

pub returns : goal.returns
returns c = keeps-reserved
