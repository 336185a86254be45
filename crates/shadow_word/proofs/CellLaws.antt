-- A cell's word tells its fields, so the tests of words are those of cells.
use Rattle.std.proofs.Common.{◌≡◌, ◌<◌, ◌^◌, ℕ, Bool, List}
use Rattle.std.specs.Prelude.{position, unwrap_or, if◌then◌else◌, None, Some}
use Rattle.std.specs.List.{list_any}
use Rattle.run_record.specs.declared.entry.Label.{Label}
use Rattle.run_laws.specs.Words.{mask, sid, epoch, is_read, is_atomic, era, cell_for}
use Rattle.run_laws.specs.Words as of_words
use Rattle.run_laws.specs.Candidates.{is_race}
use Rattle.run_laws.proofs.WordLaw.{mask-word_of, sid-word_of, epoch-word_of, is_read-word_of, is_atomic-word_of, era-word_of}
use Rattle.shadow_word.specs.declared.cell.Cell.{Cell}
use Rattle.shadow_word.specs.Cells.{word_in}
use Rattle.shadow_word.specs.Decisions.{races, repeats, is_free, is_no_stronger, place_for}

-- the word v tells the fields of the cell
pub record Tells (v : ℕ) (cell : Cell) : Type 0 where
  pub mask_is : mask v ≡ cell.mask
  pub sid_is : sid v ≡ cell.sid
  pub epoch_is : epoch v ≡ cell.epoch
  pub read_is : is_read v ≡ cell.read
  pub atomic_is : is_atomic v ≡ cell.atomic
  pub era_is : era v ≡ cell.era

pub Tells-word_in : (cell : Cell) → cell.mask < 256 → cell.sid < 256 → cell.epoch < 2 ^ 14 → Tells (word_in cell) cell
Tells-word_in cell p q r =
    let label : Label = record { sid = cell.sid; epoch = cell.epoch; era = cell.era } in
    record {
      mask_is = mask-word_of cell.mask label cell.read cell.atomic p;
      sid_is = sid-word_of cell.mask label cell.read cell.atomic p q;
      epoch_is = epoch-word_of cell.mask label cell.read cell.atomic p q r;
      read_is = is_read-word_of cell.mask label cell.read cell.atomic p q r;
      atomic_is = is_atomic-word_of cell.mask label cell.read cell.atomic p q r;
      era_is = era-word_of cell.mask label cell.read cell.atomic p q r;
    }

pub races-Tells :
    (v : ℕ) (cell : Cell) → Tells v cell → (clock : ℕ → ℕ) (words : List ℕ) →
    position (races clock cell) words ≡ position (is_race clock v) words
races-Tells v cell t clock words = rw (t.mask_is, t.sid_is, t.read_is, t.atomic_is, t.era_is)

repeats-Tells : (v : ℕ) (cell : Cell) → Tells v cell → (w : ℕ) → repeats cell w ≡ of_words.repeats v w
repeats-Tells v cell t w = rw (t.mask_is, t.sid_is, t.epoch_is, t.read_is, t.atomic_is, t.era_is)

is_free-Tells : (v : ℕ) (cell : Cell) → Tells v cell → (w : ℕ) → is_free cell w ≡ of_words.is_free v w
is_free-Tells v cell t w = rw t.era_is

is_no_stronger-Tells : (v : ℕ) (cell : Cell) → Tells v cell → (w : ℕ) → is_no_stronger cell w ≡ of_words.is_no_stronger v w
is_no_stronger-Tells v cell t w = rw (t.mask_is, t.sid_is, t.read_is, t.atomic_is)

-- where three tests are pairwise the same, so is the place that they give
same_place : (p q f g n m : ℕ → Bool) → p ≡ q → f ≡ g → n ≡ m → (words : List ℕ) (turn : ℕ) →
    (if list_any p words then None else Some (unwrap_or (position f words) (unwrap_or (position n words) turn))) ≡
    (if list_any q words then None else Some (unwrap_or (position g words) (unwrap_or (position m words) turn)))
same_place p q f g n m x y z words turn = cc

pub place_for-Tells : (v : ℕ) (cell : Cell) → Tells v cell → (words : List ℕ) (turn : ℕ) →
    (if list_any (repeats cell) words then None else Some (place_for cell words turn)) ≡ cell_for v words turn
place_for-Tells v cell t words turn =
    same_place _ _ _ _ _ _
    (λ i w. repeats-Tells v cell t w i) (λ i w. is_free-Tells v cell t w i)
    (λ i w. is_no_stronger-Tells v cell t w i) words turn
