use Rattle.std.proofs.Common.{rules}
use Rattle.shared_table.proofs.Keeps.{loads_at}
use Rattle.shared_table.proofs.Owns.{cell_spot, stays_logged, word_of_table}
use Rattle.shared_table.proofs.shared.Shared.load_cell.Goals as goal

pub load-requires : goal.load-requires
load-requires c = (search rules, search rules, loads_at _ _ _ _ _ c.args.cell c.requires.own.live (search rules) (search rules))

pub returns-clause-log : goal.returns-clause-log
returns-clause-log c = (c.load.ensures.2 c.args.cell (cell_spot _ _ _ c.args.cell c.self.view_is c.requires.own c.self.invariant.0.objects)).0

pub returns-clause-own : goal.returns-clause-own
returns-clause-own c = stays_logged _ _ _ _ _ _ c.requires.own c.load.ensures.0 (returns-clause-log c)

pub returns-clause-word : goal.returns-clause-word
returns-clause-word c some_word =
    let told = c.load.ensures.2 c.args.cell (cell_spot _ _ _ c.args.cell c.self.view_is c.requires.own c.self.invariant.0.objects) in
    word_of_table _ _ _ c.load.result c.self.view_is c.requires.own (told.1 some_word)
