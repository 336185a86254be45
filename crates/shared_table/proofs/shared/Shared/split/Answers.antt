use Rattle.std.proofs.Common.{rules}
use Rattle.shared_table.proofs.Keeps.{splits_seat}
use Rattle.shared_table.proofs.shared.Shared.split.Goals as goal

pub split_seat-requires : goal.split_seat-requires
split_seat-requires c = (search rules, search rules, splits_seat _ _ _ c.requires.own.live c.requires.opening)
