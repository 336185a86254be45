use Rattle.std.proofs.Common.{rules}
use Rattle.shared_table.proofs.Keeps.{learns}
use Rattle.shared_table.proofs.shared.Shared.learn.Goals as goal

pub load-requires : goal.load-requires
load-requires c = (search rules, search rules, learns _ _ _ _ _ c.requires.own.live)
