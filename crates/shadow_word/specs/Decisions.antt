-- What a check of a granule finds in its four cells, by the clock of its thread.
use Rattle.std.specs.Prelude.{◌≡◌, ◌≢◌, ◌<◌, ℕ, ◌==◌, ◌&&◌, ◌||◌, not, nat_lt, Bool, bit_and, List, length, All, position, unwrap_or}
use Rattle.run_laws.specs.Words.{mask, sid, epoch, is_read, is_atomic, era, bit}
use Rattle.shadow_word.specs.declared.cell.Cell.{Cell}

-- the slots in words of this era are in the clock
abbrev pub AreInClock : ℕ → List ℕ → List ℕ → Type 0
AreInClock this_era clock words = All (λ w. w ≢ 0 → era w ≡ this_era → sid w < length clock) words

-- The word w races with the access of the cell: it isn't empty, has the cell's era, another slot and a
-- common byte, not both read, not both are atomic, and the clock doesn't know its epoch.
abbrev pub races : (ℕ → ℕ) → Cell → ℕ → Bool
races clock cell w =
    not (w == 0) && (era w == cell.era) && not (sid w == cell.sid) && not (bit_and (mask w) cell.mask == 0)
    && not (is_read w && cell.read) && not (is_atomic w && cell.atomic) && nat_lt (clock (sid w)) (epoch w)

-- w tells as much as the cell: the same label, bytes and atomicity, and it is a write or the cell is a
-- read
abbrev pub repeats : Cell → ℕ → Bool
repeats cell w =
    (sid w == cell.sid) && (epoch w == cell.epoch) && (era w == cell.era) && (mask w == cell.mask)
    && (bit (is_atomic w) == bit cell.atomic) && (not (is_read w) || cell.read)

-- empty, or of another era
abbrev pub is_free : Cell → ℕ → Bool
is_free cell w = (w == 0) || not (era w == cell.era)

-- of the cell's slot and bytes, and no stronger: a read unless the cell writes too, and atomic unless the
-- cell isn't either
abbrev pub is_no_stronger : Cell → ℕ → Bool
is_no_stronger cell w =
    (sid w == cell.sid) && (mask w == cell.mask) && (is_read w || not cell.read)
    && (is_atomic w || not cell.atomic)

-- where the cell's word goes, unless a word repeats it: the first free cell, else the first that is no
-- stronger, else the one whose turn it is
abbrev pub place_for : Cell → List ℕ → ℕ → ℕ
place_for cell words turn =
    unwrap_or (position (is_free cell) words) (unwrap_or (position (is_no_stronger cell) words) turn)
