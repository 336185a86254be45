use Rattle.std.proofs.Common.{rules}
use Rattle.shared_table.proofs.Keeps.{joins_seat}
use Rattle.shared_table.proofs.shared.Shared.join.Goals as goal

pub join_seat-requires : goal.join_seat-requires
join_seat-requires c = (
  search rules,
  search rules,
  search rules,
  search rules,
  joins_seat _ _ _ _ _ c.requires.own.live c.requires.opening c.requires.other.live c.requires.free.0,
)
