-- Line number programs (DWARF 2 to 5, "Line Number Information"): a unit's header, the operations of its program, and
-- the rows that they give.
use Rattle.std.specs.Prelude.{ℕ, zero, suc, ◌+◌, ◌-◌, ◌*◌, ◌/◌, ◌%◌, ◌^◌, ◌==◌, ◌&&◌, ◌||◌, nat_lt, nat_le, if◌then◌else◌, List, [], ◌∷◌, ◌++◌, length, slice_index, fold, Option, Some, None}
use Rattle.std.specs.Option.{option_map}
use Rattle.symbol_lines.specs.declared.rows.Row.{Row}
use Rattle.symbol_lines.specs.Reading.{◌>>=◌, byte_at, half_at, word_at, long_at, bytes_at, uleb_at, sleb_at, text_at}
use Rattle.symbol_lines.specs.Paths.{InUnit, TextSections, Entry}
use Rattle.symbol_lines.specs.Entries.{entries_at}

-- what a unit's header says of its operations
pub record Rules : Type 0 where
  pub version : ℕ
  pub minimum_length : ℕ
  -- modulo 2^64
  pub line_base : ℕ
  pub line_range : ℕ
  pub opcode_base : ℕ
  -- of opcode k the number at k - 1
  pub operand_counts : List ℕ

-- a unit, before its program is run
pub record Unit : Type 0 where
  pub rules : Rules
  pub directories : List Entry
  pub files : List Entry
  pub program : List ℕ

-- a byte as a signed number, modulo 2^64
abbrev pub signed_byte : ℕ → ℕ
signed_byte b = if nat_lt b 128 then b else 2 ^ 64 - 256 + b

-- From version 4 on the number of operations of an instruction is told, and it has to be 1.
abbrev pub single_operations_at : ℕ → List ℕ → Option (List ℕ)
single_operations_at version bs =
    if nat_lt version 4 then Some bs else byte_at bs >>= λ n. if n.0 == 1 then Some n.1 else None

-- the fields from minimum_instruction_length up to the operand counts
unfoldable pub rules_at : ℕ → List ℕ → Option (Rules × List ℕ)
rules_at version bs =
    byte_at bs >>= λ minimum.
    single_operations_at version minimum.1 >>= λ rest.
    byte_at rest >>= λ statement.
    byte_at statement.1 >>= λ base.
    byte_at base.1 >>= λ range.
    byte_at range.1 >>= λ opcodes.
    if range.0 == 0 || opcodes.0 == 0 then None
    else bytes_at (opcodes.0 - 1) opcodes.1 >>= λ counts.
    Some (
      record {
        version = version;
        minimum_length = minimum.0;
        line_base = signed_byte base.0;
        line_range = range.0;
        opcode_base = opcodes.0;
        operand_counts = counts.0;
      },
      counts.1,
    )

-- a path of a unit's own in a directory
abbrev pub named : List ℕ → ℕ → Entry
named name directory = record { path = Some (InUnit name); directory = directory }

-- texts up to an empty one, of which so many bytes have at most so many
unfoldable pub directories_at : ℕ → List ℕ → Option (List Entry × List ℕ)
directories_at zero bs = None
directories_at (suc n) bs =
    text_at bs >>= λ first.
    if length first.0 == 0 then Some ([], first.1)
    else directories_at n first.1 >>= λ others. Some (named first.0 0 ∷ others.0, others.1)

-- what follows the name of a file: its directory, its time and its length
abbrev pub file_after : List ℕ → List ℕ → Option (Entry × List ℕ)
file_after name bs =
    uleb_at bs >>= λ directory.
    uleb_at directory.1 >>= λ time.
    uleb_at time.1 >>= λ size.
    Some (named name directory.0, size.1)

-- files up to one with an empty name
unfoldable pub files_at : ℕ → List ℕ → Option (List Entry)
files_at zero bs = None
files_at (suc n) bs =
    text_at bs >>= λ name.
    if length name.0 == 0 then Some []
    else file_after name.0 name.1 >>= λ first. files_at n first.1 >>= λ others. Some (first.0 ∷ others)

-- the lists of directories and files
unfoldable pub lists_at : TextSections → ℕ → List ℕ → Option (List Entry × List Entry)
lists_at s version bs =
    if version == 5 then
    (entries_at s bs >>= λ directories. entries_at s directories.1 >>= λ files. Some (directories.0, files.0))
    else directories_at (length bs) bs >>= λ directories.
    files_at (length directories.1) directories.1 >>= λ files. Some (directories.0, files)

-- In version 5 the size of an address is told, which has to be 8, and that of a segment selector, which has to be 0.
abbrev pub after_sizes : ℕ → List ℕ → Option (List ℕ)
after_sizes version bs =
    if version == 5 then
    (byte_at bs >>= λ address. byte_at address.1 >>= λ selector.
    if address.0 == 8 && selector.0 == 0 then Some selector.1 else None)
    else Some bs

-- A unit, from its version on. Versions 2 to 5 are read. The program begins where header_length says.
unfoldable pub unit_at : TextSections → List ℕ → Option Unit
unit_at s bs =
    half_at bs >>= λ version.
    if nat_lt version.0 2 || nat_lt 5 version.0 then None
    else after_sizes version.0 version.1 >>= λ rest.
    word_at rest >>= λ len.
    bytes_at len.0 len.1 >>= λ header.
    rules_at version.0 len.1 >>= λ rules.
    lists_at s version.0 rules.1 >>= λ lists.
    Some (record { rules = rules.0; directories = lists.0; files = lists.1; program = header.1 })

-- An operation does one of these.
pub data Operation : Type 0 where
  -- adds to the address and to the line
  Advance : ℕ → ℕ → Operation
  -- adds to both and gives a row
  AddRow : ℕ → ℕ → Operation
  SetAddress : ℕ → Operation
  SetFile : ℕ → Operation
  EndSequence : Operation
  DefineFile : Entry → Operation

-- how far a special opcode moves the address
abbrev pub address_advance : Rules → ℕ → ℕ
address_advance r opcode = (opcode - r.opcode_base) / r.line_range * r.minimum_length

abbrev pub line_advance : Rules → ℕ → ℕ
line_advance r opcode = (r.line_base + (opcode - r.opcode_base) % r.line_range) % 2 ^ 64

-- so many ULEB128 numbers are passed over
unfoldable pub after_numbers : ℕ → List ℕ → Option (List ℕ)
after_numbers zero bs = Some bs
after_numbers (suc n) bs = uleb_at bs >>= λ x. after_numbers n x.1

abbrev pub nothing : Operation
nothing = Advance 0 0

-- a standard opcode's operands
unfoldable pub standard_at : Rules → ℕ → List ℕ → Option (Operation × List ℕ)
standard_at r opcode bs =
    if opcode == 1 then Some (AddRow 0 0, bs)
    else if opcode == 2 then (uleb_at bs >>= λ n. Some (Advance ((n.0 * r.minimum_length) % 2 ^ 64) 0, n.1))
    else if opcode == 3 then (sleb_at bs >>= λ n. Some (Advance 0 n.0, n.1))
    else if opcode == 4 then (uleb_at bs >>= λ n. Some (SetFile n.0, n.1))
    else if opcode == 8 then Some (Advance (address_advance r 255) 0, bs)
    else if opcode == 9 then (half_at bs >>= λ n. Some (Advance n.0 0, n.1))
    else if opcode == 5 || opcode == 12 then (after_numbers 1 bs >>= λ rest. Some (nothing, rest))
    else if nat_lt opcode 13 then Some (nothing, bs)
    else after_numbers (slice_index r.operand_counts (opcode - 1)) bs >>= λ rest. Some (nothing, rest)

-- The bytes of an extended operation, from its own opcode on. Version 5 has no define_file.
unfoldable pub extended_in : ℕ → List ℕ → Option Operation
extended_in version [] = Some nothing
extended_in version (opcode ∷ bs) =
    if opcode == 1 then Some EndSequence
    else if opcode == 2 then
    (if length bs == 8 then (long_at bs >>= λ a. Some (SetAddress a.0)) else None)
    else if opcode == 3 && nat_lt version 5 then
    (text_at bs >>= λ name. file_after name.0 name.1 >>= λ entry. Some (DefineFile entry.0))
    else Some nothing

unfoldable pub extended_at : ℕ → List ℕ → Option (Operation × List ℕ)
extended_at version bs =
    uleb_at bs >>= λ len.
    bytes_at len.0 len.1 >>= λ body.
    extended_in version body.0 >>= λ operation. Some (operation, body.1)

-- the operation at the front of a program
unfoldable pub operation_at : Rules → List ℕ → Option (Operation × List ℕ)
operation_at r bs =
    byte_at bs >>= λ opcode.
    if nat_le r.opcode_base opcode.0
    then Some (AddRow (address_advance r opcode.0) (line_advance r opcode.0), opcode.1)
    else if opcode.0 == 0 then extended_at r.version opcode.1
    else standard_at r opcode.0 opcode.1

-- All operations of a program. So many bytes have at most so many.
unfoldable pub operations_in : Rules → ℕ → List ℕ → Option (List Operation)
operations_in r zero bs = if length bs == 0 then Some [] else None
operations_in r (suc n) bs =
    if length bs == 0 then Some []
    else operation_at r bs >>= λ first. operations_in r n first.1 >>= λ others. Some (first.0 ∷ others)

-- the rows up to an end_sequence, from the address of the first to that of the end
pub record Sequence : Type 0 where
  pub start : ℕ
  pub end : ℕ
  pub rows : List Row

-- the registers, the rows of the sequence so far, and what was finished before
pub record Machine : Type 0 where
  pub address : ℕ
  pub file : ℕ
  pub line : ℕ
  pub rows : List Row
  pub sequences : List Sequence
  pub files : List Entry

abbrev pub begin : List Entry → Machine
begin files = record { address = 0; file = 1; line = 1; rows = []; sequences = []; files = files }

abbrev pub advance : ℕ → ℕ → Machine → Machine
advance by lines m = record m { address = (m.address + by) % 2 ^ 64; line = (m.line + lines) % 2 ^ 64 }

abbrev pub row_of : Machine → Row
row_of m = record { address = m.address; line = m.line; file = m.file }

abbrev pub with_row : Machine → Machine
with_row m = record m { rows = m.rows ++ row_of m ∷ [] }

-- the address of the first row, which is that of the end where no row was before it
abbrev pub first_address : List Row → ℕ → ℕ
first_address [] end = end
first_address (r ∷ rs) end = r.address

abbrev pub end_sequence : Machine → Machine
end_sequence m = record {
  address = 0;
  file = 1;
  line = 1;
  rows = [];
  sequences = m.sequences ++ record { start = first_address m.rows m.address; end = m.address; rows = m.rows } ∷ [];
  files = m.files;
}

abbrev pub perform : Machine → Operation → Machine
perform m (Advance by lines) = advance by lines m
perform m (AddRow by lines) = with_row (advance by lines m)
perform m (SetAddress a) = record m { address = a }
perform m (SetFile n) = record m { file = n }
perform m EndSequence = end_sequence m
perform m (DefineFile f) = record m { files = m.files ++ f ∷ [] }

-- the machine after a unit's whole program
abbrev pub after_program : Unit → Option Machine
after_program u = option_map (fold perform (begin u.files)) (operations_in u.rules (length u.program) u.program)
