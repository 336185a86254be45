-- What is kept of the tables, so that a place is found by binary search.
use Rattle.std.specs.Prelude.{ℕ, ◌+◌, ◌%◌, ◌^◌, nat_lt, List, [], ◌∷◌, ◌++◌, filter, map, fold, unwrap_or, Option, Some, None}
use Rattle.std.specs.List.Sorted.{IsNonDecreasingBy}
use Rattle.symbol_lines.specs.declared.spans.Span.{Span}
use Rattle.symbol_lines.specs.declared.rows.Row.{Row}
use Rattle.symbol_lines.specs.Symbols.{Symbol}
use Rattle.symbol_lines.specs.Paths.{Entry}
use Rattle.symbol_lines.specs.Program.{Sequence, Operation, Machine}
use Rattle.symbol_lines.specs.Program as program

-- a function as a range that stands for the offset of its name; of two the later start counts
abbrev pub function_span : Symbol → Span
function_span f = record { start = f.start; size = f.size; rank = f.start; item = f.name }

-- rows by rising address
abbrev pub IsRising : List Row → Type 0
IsRising rows = IsNonDecreasingBy (λ r. r.address) rows

-- A row hides those before it whose address isn't below its own: no place has them.
abbrev pub add_kept : List Row → Row → List Row
add_kept rows row = filter (λ r. nat_lt r.address row.address) rows ++ row ∷ []

abbrev pub kept_rows : List Row → List Row
kept_rows rows = fold add_kept [] rows

-- a sequence with the rows that are kept, and the number of its unit
pub record KeptSequence : Type 0 where
  pub start : ℕ
  pub end : ℕ
  pub rows : List Row
  pub unit : ℕ

-- the machine with the rows that are kept, and the address of the first row of the sequence so far
pub record KeptMachine : Type 0 where
  pub address : ℕ
  pub file : ℕ
  pub line : ℕ
  pub start : Option ℕ
  pub rows : List Row
  pub sequences : List KeptSequence
  pub files : List Entry
  pub unit : ℕ

abbrev pub advance : ℕ → ℕ → KeptMachine → KeptMachine
advance by lines m = record m { address = (m.address + by) % 2 ^ 64; line = (m.line + lines) % 2 ^ 64 }

abbrev pub with_row : KeptMachine → KeptMachine
with_row m = record m {
  start = Some (unwrap_or m.start m.address);
  rows = add_kept m.rows (record { address = m.address; line = m.line; file = m.file });
}

abbrev pub end_sequence : KeptMachine → KeptMachine
end_sequence m = record {
  address = 0;
  file = 1;
  line = 1;
  start = None;
  rows = [];
  sequences = m.sequences ++ record { start = unwrap_or m.start m.address; end = m.address; rows = m.rows; unit = m.unit } ∷ [];
  files = m.files;
  unit = m.unit;
}

-- an operation, as the machine that keeps less performs it
abbrev pub perform_kept : KeptMachine → Operation → KeptMachine
perform_kept m (program.Advance by lines) = advance by lines m
perform_kept m (program.AddRow by lines) = with_row (advance by lines m)
perform_kept m (program.SetAddress a) = record m { address = a }
perform_kept m (program.SetFile n) = record m { file = n }
perform_kept m program.EndSequence = end_sequence m
perform_kept m (program.DefineFile f) = record m { files = m.files ++ f ∷ [] }

-- what is kept of a sequence of unit k, and of the machine that runs its program
abbrev pub kept_sequence : ℕ → Sequence → KeptSequence
kept_sequence k s = record { start = s.start; end = s.end; rows = kept_rows s.rows; unit = k }

abbrev pub first_of : List Row → Option ℕ
first_of [] = None
first_of (r ∷ rs) = Some r.address

abbrev pub kept_machine : ℕ → Machine → KeptMachine
kept_machine k m = record {
  address = m.address;
  file = m.file;
  line = m.line;
  start = first_of m.rows;
  rows = kept_rows m.rows;
  sequences = map (kept_sequence k) m.sequences;
  files = m.files;
  unit = k;
}
