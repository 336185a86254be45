use Rattle.std.proofs.Common.{List, ap, ◌∙◌}
use Rattle.symbol_lines.specs.Lines.{Lines, position_at, sequences}
use Rattle.symbol_lines.specs.SectionViews.{tables_view}
use Rattle.symbol_lines.proofs.Looking.{position_at-kept}
use Rattle.symbol_lines.proofs.names.Names.position.Goals as goal

pub returns : goal.returns
returns c =
    let t = tables_view c.self.inside.tables in
    rw (← c.self.view_is) (c.find_position.ensures ∙ rw (c.as_slice-2.ensures.value, c.as_slice-3.ensures.value) (ap (λ (ls : List Lines). position_at ls c.args.place) c.self.invariant.of_lines.lines ∙ position_at-kept (sequences t.texts t.lines) c.args.place))
