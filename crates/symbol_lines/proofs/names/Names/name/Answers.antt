use Rattle.std.proofs.Common.{◌≡◌, Some, None, map, ◌∙◌, arith}
use Rattle.symbol_lines.specs.Spans.{owner_among}
use Rattle.symbol_lines.specs.Symbols.{functions, name_of}
use Rattle.symbol_lines.specs.Kept.{function_span}
use Rattle.symbol_lines.proofs.Owning.{name_found}
use Rattle.symbol_lines.proofs.names.Names.name.Goals as goal

pub returns-in-Some : goal.returns-in-Some
unfolding name_of
returns-in-Some c =
    let symbols = c.self.inside.tables.symbols.now in
    let found : Some c.in-Some.owner ≡ owner_among (map function_span (functions symbols)) c.args.place = c.in-Some.ensures ∙ rw c.as_slice.ensures.value (c.self.invariant.of_symbols.value c.args.place (omega arith)) in
    rw (← c.self.view_is) (c.name_at.ensures ∙ name_found c.self.inside.tables.strings.now (functions symbols) c.args.place (Some c.in-Some.owner) found)

pub returns-in-None : goal.returns-in-None
unfolding name_of
returns-in-None c =
    let symbols = c.self.inside.tables.symbols.now in
    let found : None ≡ owner_among (map function_span (functions symbols)) c.args.place = c.in-None.ensures ∙ rw c.as_slice.ensures.value (c.self.invariant.of_symbols.value c.args.place (omega arith)) in
    rw (← c.self.view_is) (name_found c.self.inside.tables.strings.now (functions symbols) c.args.place None found)
