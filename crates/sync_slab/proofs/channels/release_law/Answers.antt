use Rattle.sync_slab.proofs.ChannelLaws.{release_joined, release_replaced}
use Rattle.sync_slab.proofs.channels.release_law.Goals as goal

pub returns-clause-joins : goal.returns-clause-joins
returns-clause-joins c = release_joined

pub returns-clause-replaces : goal.returns-clause-replaces
returns-clause-replaces c = release_replaced
