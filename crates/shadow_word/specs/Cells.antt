-- Shadow cells and their words.
use Rattle.std.specs.Prelude.{◌≢◌, ◌<◌, ◌≤◌, ◌==◌, ◌||◌, ℕ, Bool, Option, Some, None, if◌then◌else◌}
use Rattle.run_laws.specs.Words.{word_of, mask, sid, epoch, is_read, is_atomic, era}
use Rattle.shadow_word.specs.declared.cell.Cell.{Cell}

-- a cell that an access can leave: some byte, a slot, and an epoch that a word has room for
pub record HasWord (cell : Cell) : Type 0 where
  pub some_byte : cell.mask ≢ 0
  pub a_slot : cell.sid < 255
  pub after_none : 1 ≤ cell.epoch
  pub in_room : cell.epoch ≤ 16383

-- the word of a cell
abbrev pub word_in : Cell → ℕ
word_in cell =
    word_of cell.mask (record { sid = cell.sid; epoch = cell.epoch; era = cell.era }) cell.read cell.atomic

-- what a word's bits tell, each by itself
abbrev pub fields_of : ℕ → Cell
fields_of word = record {
  mask = mask word;
  sid = sid word;
  epoch = epoch word;
  read = is_read word;
  atomic = is_atomic word;
  era = era word;
}

-- no access leaves such a word: it has no byte, no epoch or no slot
abbrev pub is_no_cell : ℕ → Bool
is_no_cell word = (mask word == 0) || (epoch word == 0) || (sid word == 255)

-- the cell of a word, where there is one
abbrev pub cell_in : ℕ → Option Cell
cell_in word = if is_no_cell word then None else Some (fields_of word)
