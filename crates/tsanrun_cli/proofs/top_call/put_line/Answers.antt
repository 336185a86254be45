use Rattle.tsanrun_cli.proofs.Complete.{part_from_all}
use Rattle.tsanrun_cli.proofs.top_call.put_line.Goals as goal

pub returns-in-Ok-clause-part : goal.returns-in-Ok-clause-part
returns-in-Ok-clause-part g c = part_from_all _ _ _ (rw c.as_bytes.ensures.value at c.in-Ok.ensures.ok)
