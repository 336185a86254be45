use Rattle.sync_slab.proofs.ChannelLaws.{keeps-elsewhere, keeps-note, keeps-new_era}
use Rattle.sync_slab.proofs.channels.rest_law.Goals as goal

pub returns-clause-event : goal.returns-clause-event
returns-clause-event c = keeps-elsewhere

pub returns-clause-note : goal.returns-clause-note
returns-clause-note c = keeps-note

pub returns-clause-new_era : goal.returns-clause-new_era
returns-clause-new_era c = keeps-new_era
