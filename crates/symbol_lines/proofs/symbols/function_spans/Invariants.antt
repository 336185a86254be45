use Rattle.std.proofs.Common.{◌≡◌}
use Rattle.std.specs.Prelude.{map, filter}
use Rattle.std.specs.List.{range_with_len}
use Rattle.symbol_lines.specs.Symbols.{is_function, symbol_at}
use Rattle.symbol_lines.specs.Kept.{function_span}
use Rattle.symbol_lines.proofs.symbols.function_spans.Given as goal

abbrev pub invariant-loop-number : goal.invariant-loop-number
invariant-loop-number l = l.spans.items ≡ map function_span (filter is_function (map (symbol_at l.table) (range_with_len 0 l.number)))
