use Rattle.std.specs.Prelude.{◌++◌}
use Rattle.woven_turns.specs.Weave.{weave}
use Rattle.woven_turns.proofs.Weaving.{round_line}
use Rattle.table_deeds.proofs.Lines.{lines_up}
use Rattle.table_deeds.proofs.woven_law.Goals as goal

pub returns : goal.returns
returns c file limits lay m early late tag seat alone lawful worked =
    lines_up file limits m (weave tag late ++ alone) (round_line tag lay m early late seat alone worked lawful)
