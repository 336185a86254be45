-- The checks of an access.
use Rattle.std.specs.Prelude.{◌≡◌, ◌+◌, ◌*◌, ℕ, List, slice_set, Option, Some, None, option_map}
use Rattle.run_record.specs.declared.entry.Check.{Check}
use Rattle.run_record.specs.declared.entry.Label.{Label}
use Rattle.run_laws.specs.Accesses.{Access}
use Rattle.run_laws.specs.Words.{word_of, cell_for}
use Rattle.detector.specs.Detected.{cells_at}

-- The check of a part (its granule and mask) of an access that a thread with the label makes: it loads the granule's four words of the
-- shadow, and stores its own word by the rule.
pub record IsCheckOf (shadow : List ℕ) (label : Label) (a : Access) (place turn : ℕ) (part : ℕ × ℕ) (c : Check) : Type 0 where
  pub event : c.event ≡ place
  pub granule : c.granule ≡ part.0
  pub word : c.word ≡ word_of part.1 label a.read a.atomic
  pub turn_is : c.turn ≡ turn
  pub cells : c.cells ≡ cells_at shadow part.0
  pub stored : c.stored ≡ option_map (λ (i : ℕ). (i, c.word)) (cell_for c.word c.cells c.turn)

-- what a store does to the shadow
abbrev pub stored_in : List ℕ → ℕ → Option (ℕ × ℕ) → List ℕ
stored_in shadow granule None = shadow
stored_in shadow granule (Some (cell, word)) = slice_set shadow (4 * granule + cell) word
