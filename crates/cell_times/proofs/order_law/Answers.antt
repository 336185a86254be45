use Rattle.cell_times.proofs.Order.{before}
use Rattle.cell_times.proofs.order_law.Goals as goal

pub returns : goal.returns
returns c g h lo hi a i j b = before g h lo hi a i j b
