use Rattle.std.proofs.Common.{◌∙◌}
use Rattle.indexmap.proofs.CallerLemmas.{insert_entry-new}
use Rattle.report_text.specs.Pairs.{same_stacks}
use Rattle.report_text.proofs.fates.add_fate.Goals as goal

pub returns : goal.returns
returns c = (rw c.unwrap.ensures at c.insert.ensures.entries) ∙ insert_entry-new same_stacks c.args.fates.now c.args.stacks c.args.fate c.requires.absent
