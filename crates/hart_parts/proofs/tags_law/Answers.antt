use Rattle.hart_parts.proofs.Tags.{item_told, log_told, deed_stands}
use Rattle.hart_parts.proofs.tags_law.Goals as goal

pub returns-clause-items : goal.returns-clause-items
returns-clause-items c = item_told

pub returns-clause-whole : goal.returns-clause-whole
returns-clause-whole c = log_told

pub returns-clause-deeds : goal.returns-clause-deeds
returns-clause-deeds c = deed_stands
