-- The ranges of a symbol table's functions.
use Rattle.std.proofs.Common.{◌≡◌, ℕ, ◌+◌, ◌*◌, ◌%◌, ◌≢◌, true, false, List, [], ◌∷◌, ◌++◌, get_or, map, sym, arith}
use Rattle.std.specs.Prelude.{filter}
use Rattle.std.specs.List.{range_with_len}
use Rattle.std.proofs.lemmas.Bool.{eq-eqb, ne_eqb}
use Rattle.std.proofs.lemmas.List.{map_push, append-nil}
use Rattle.std.proofs.lemmas.List.FromFn.{filter_of_map_range_with_len_more}
use Rattle.symbol_lines.specs.declared.spans.Span.{Span}
use Rattle.symbol_lines.specs.Symbols.{Symbol, is_function, symbol_at}
use Rattle.symbol_lines.specs.Kept.{function_span}

-- the functions among the first symbols
abbrev pub first_functions : List ℕ → ℕ → List Symbol
first_functions table n = filter is_function (map (symbol_at table) (range_with_len 0 n))

pub function_more : (spans : List Span) (table : List ℕ) (n : ℕ) → spans ≡ map function_span (first_functions table n) → get_or table (24 * n + 4) 0 % 16 ≡ 2
    → spans ++ function_span (symbol_at table n) ∷ [] ≡ map function_span (first_functions table (n + 1))
function_more spans table n so_far is =
    let hit : is_function (symbol_at table n) ≡ true = eq-eqb _ _ is in
    let more = filter_of_map_range_with_len_more is_function (symbol_at table) 0 n n (omega arith) in
    rw (more, hit, so_far) (sym (map_push function_span (first_functions table n) (symbol_at table n)))

pub function_same : (spans : List Span) (table : List ℕ) (n : ℕ) → spans ≡ map function_span (first_functions table n) → get_or table (24 * n + 4) 0 % 16 ≢ 2
    → spans ≡ map function_span (first_functions table (n + 1))
function_same spans table n so_far is_not =
    let miss : is_function (symbol_at table n) ≡ false = ne_eqb _ _ is_not in
    let more = filter_of_map_range_with_len_more is_function (symbol_at table) 0 n n (omega arith) in
    rw (more, miss, append-nil (first_functions table n)) so_far
