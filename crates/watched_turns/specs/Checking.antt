-- What the checks of an access come to, by the words that they load.
use Rattle.std.specs.Prelude.{ℕ, ◌+◌, List, [], ◌∷◌, map, find, flat_map, Option, Some, option_map}
use Rattle.run_record.specs.declared.entry.Check.{Check}
use Rattle.run_record.specs.declared.entry.Label.{Label}
use Rattle.run_laws.specs.Accesses.{Access, Part, parts_of}
use Rattle.run_laws.specs.Words.{word_of, cell_for}
use Rattle.run_laws.specs.Candidates.{is_race}
use Rattle.elf_image.specs.File.{granule_of}
use Rattle.place_clocks.specs.Places.{Clock}

-- A check, without the place of its access among an entry's events: the granule, its own word, the turn, the words that it
-- loads from the four cells, and which cell it stores with which word, if any.
pub record Checked : Type 0 where
  pub granule : ℕ
  pub word : ℕ
  pub turn : ℕ
  pub cells : List ℕ
  pub stored : Option (ℕ × ℕ)

abbrev pub checked_of : Check → Checked
checked_of c = record { granule = c.granule; word = c.word; turn = c.turn; cells = c.cells; stored = c.stored }

-- The words that the checks of one instruction load: at its event of this number, in the event's check of this number,
-- from the cell of this number. All count from 0.
abbrev pub Loads : Type 0
Loads = ℕ → ℕ → ℕ → ℕ

-- the check that stores its word, if at all, where the store rule says
abbrev pub check_of : ℕ → ℕ → ℕ → List ℕ → Checked
check_of granule word turn cells = record { granule = granule; word = word; turn = turn; cells = cells; stored = option_map (λ (i : ℕ). (i, word)) (cell_for word cells turn) }

abbrev pub four : (ℕ → ℕ) → List ℕ
four words = words 0 ∷ words 1 ∷ words 2 ∷ words 3 ∷ []

-- one for each part of an access of a thread with this label and turn
abbrev pub checks_from : ℕ → Label → Access → (ℕ → ℕ → ℕ) → ℕ → List Part → List Checked
checks_from turn label a loads n [] = []
checks_from turn label a loads n (part ∷ parts) = check_of part.granule (word_of part.mask label a.read a.atomic) turn (four (loads n)) ∷ checks_from turn label a loads (n + 1) parts

-- the checks of a thread's event, of the access that it is, if any; without a label there are none
abbrev pub checks_of : List ℕ → ℕ → Option Label → Option Access → (ℕ → ℕ → ℕ) → List Checked
checks_of file turn (Some label) (Some a) loads = checks_from turn label a loads 0 (parts_of (granule_of file) a)
checks_of file turn _ _ loads = []

-- The first loaded word that races by the thread's clock, with its check.
abbrev pub loaded_in : List Checked → List (Checked × ℕ)
loaded_in checks = flat_map (λ (c : Checked). map (λ (w : ℕ). (c, w)) c.cells) checks

abbrev pub race_in : Clock → List Checked → Option (Checked × ℕ)
race_in clock checks = find (λ (l : Checked × ℕ). is_race clock l.0.word l.1) (loaded_in checks)
