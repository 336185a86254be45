-- The word that an access leaves in a shadow cell.
use Rattle.std.specs.Prelude.{ℕ, ◌+◌, ◌*◌, ◌/◌, ◌%◌, ◌^◌, ◌==◌, ◌&&◌, ◌||◌, not, Bool, if◌then◌else◌, bit_and, List, Option, Some, None, position, unwrap_or}
use Rattle.std.specs.List.{list_any}
use Rattle.run_record.specs.declared.entry.Label.{Label}

abbrev pub bit : Bool → ℕ
bit b = if b then 1 else 0

-- bits 0 to 7 the bytes, 8 to 15 the slot, 16 to 29 the epoch, 30 whether it reads, 31 whether it is atomic,
-- 32 to 63 the era
abbrev pub word_of : ℕ → Label → Bool → Bool → ℕ
word_of mask label read atomic =
    mask + label.sid * 2 ^ 8 + label.epoch * 2 ^ 16 + bit read * 2 ^ 30 + bit atomic * 2 ^ 31 + label.era * 2 ^ 32

abbrev pub mask : ℕ → ℕ
mask word = word % 2 ^ 8

abbrev pub sid : ℕ → ℕ
sid word = word / 2 ^ 8 % 2 ^ 8

abbrev pub epoch : ℕ → ℕ
epoch word = word / 2 ^ 16 % 2 ^ 14

abbrev pub is_read : ℕ → Bool
is_read word = word / 2 ^ 30 % 2 == 1

abbrev pub is_atomic : ℕ → Bool
is_atomic word = word / 2 ^ 31 % 2 == 1

abbrev pub era : ℕ → ℕ
era word = word / 2 ^ 32

-- the label in a word
abbrev pub label_in : ℕ → Label
label_in word = record { sid = sid word; epoch = epoch word; era = era word }

abbrev pub shares_byte : ℕ → ℕ → Bool
shares_byte v w = not (bit_and (mask v) (mask w) == 0)

-- The access with the word v may race with the one that left w: w isn't empty, and has v's era, another slot
-- and a common byte; not both read, and not both are atomic.
abbrev pub opposes : ℕ → ℕ → Bool
opposes v w =
    not (w == 0) && (era w == era v) && not (sid w == sid v) && shares_byte w v && not (is_read w && is_read v) && not (is_atomic w && is_atomic v)

-- w tells as much as v would: the same label, bytes and atomicity, and it is a write or v is a read
abbrev pub repeats : ℕ → ℕ → Bool
repeats v w =
    (sid w == sid v) && (epoch w == epoch v) && (era w == era v) && (mask w == mask v) && (bit (is_atomic w) == bit (is_atomic v)) && (not (is_read w) || is_read v)

-- empty, or of another era
abbrev pub is_free : ℕ → ℕ → Bool
is_free v w = (w == 0) || not (era w == era v)

-- of v's slot and bytes, and no stronger: a read unless v writes too, and atomic unless v isn't either
abbrev pub is_no_stronger : ℕ → ℕ → Bool
is_no_stronger v w = (sid w == sid v) && (mask w == mask v) && (is_read w || not (is_read v)) && (is_atomic w || not (is_atomic v))

-- The cell in which a check stores its word: none where a loaded word repeats it; else the first free one;
-- else the first that is no stronger; else the one whose turn it is.
abbrev pub cell_for : ℕ → List ℕ → ℕ → Option ℕ
cell_for v cells turn =
    if list_any (repeats v) cells
    then None
    else Some (unwrap_or (position (is_free v) cells) (unwrap_or (position (is_no_stronger v) cells) turn))
