use Rattle.std.proofs.Common.{rules, subst, sym}
use Rattle.shared_table.specs.declared.view.Layout.{Layout}
use Rattle.shared_table.specs.Past.{IsCellWord}
use Rattle.shared_table.proofs.Keeps.{stores_at}
use Rattle.shared_table.proofs.Owns.{layouts, cell_spot, stays_logged}
use Rattle.shared_table.proofs.shared.Shared.store_cell.Goals as goal

pub store-requires : goal.store-requires
store-requires c = (
  search rules,
  search rules,
  stores_at _ _ _ _ _ c.args.cell _ c.requires.own.live (search rules) (subst (λ (l : Layout). IsCellWord l c.args.word) (sym (layouts _ _ c.self.view_is)) c.requires.word) (search rules),
)

pub returns-clause-log : goal.returns-clause-log
returns-clause-log c = c.store.ensures.2 c.args.cell (cell_spot _ _ _ c.args.cell c.self.view_is c.requires.own c.self.invariant.0.objects)

pub returns-clause-own : goal.returns-clause-own
returns-clause-own c = stays_logged _ _ _ _ _ _ c.requires.own c.store.ensures.0 (returns-clause-log c)
