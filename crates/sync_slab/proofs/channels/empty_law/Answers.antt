use Rattle.sync_slab.proofs.ChannelLaws.{keeps-empty}
use Rattle.sync_slab.proofs.channels.empty_law.Goals as goal

pub returns : goal.returns
returns c = keeps-empty
