use Rattle.std.proofs.Common.{arith}
use Rattle.hart_turns.proofs.check.store.Goals as goal

pub overflow_add-granule : goal.overflow_add-granule
overflow_add-granule c = let z = (c.requires.cell (c.in-Some.cell, c.in-Some.word) c.in-Some.is).0 in let y = c.requires.granule in let x = c.requires.few in omega arith

pub store_cell-requires-clause-cell : goal.store_cell-requires-clause-cell
store_cell-requires-clause-cell c = let z = (c.requires.cell (c.in-Some.cell, c.in-Some.word) c.in-Some.is).0 in let y = c.requires.granule in omega arith

pub store_cell-requires-clause-word : goal.store_cell-requires-clause-word
store_cell-requires-clause-word c = (c.requires.cell (c.in-Some.cell, c.in-Some.word) c.in-Some.is).1
