-- What a report stands for.
use Rattle.std.specs.Prelude.{◌≡◌, ◌⊎◌, ℕ, List, Option, true}
use Rattle.run_record.specs.declared.report.Report.{Report}
use Rattle.run_laws.specs.Moments.{Moment, moment_at, items}
use Rattle.run_laws.specs.HappensBefore.{HappensBefore}
use Rattle.run_laws.specs.Accesses.{Access, Conflict}
use Rattle.run_laws.specs.Loads.{IsEarlier}
use Rattle.run_laws.specs.Candidates.{has_word}
use Rattle.run_laws.specs.Reports.{MakesAccess, told_side, lost_side}

-- The report tells of a race: two accesses of the history that conflict, neither of which happens before the
-- other. The first isn't earlier than the second, neither by its round nor in slot order; g is the greatest
-- epoch. The first is told with its stack, and the second too, or as far as its word on a granule tells.
pub record StandsForRace
    (g : ℕ) (granule_of : ℕ → Option ℕ) (address_of : ℕ → ℕ) (h : List Moment) (report : Report) : Type 0 where
  pub position : ℕ
  pub tid : ℕ
  pub access : Access
  pub made : MakesAccess h position tid access
  pub mine : report.mine ≡ told_side h position tid access
  pub other_position : ℕ
  pub other : ℕ
  pub other_access : Access
  pub other_made : MakesAccess h other_position other other_access
  pub granule : ℕ
  pub word : ℕ
  pub other_word : has_word granule word (moment_at h other_position) ≡ true
  pub previous : (report.previous ≡ told_side h other_position other other_access) ⊎ (report.previous ≡ lost_side address_of granule word other)
  pub conflict : Conflict granule_of tid access other other_access
  pub not_after : HappensBefore (items h) other_position position → ⊥
  pub not_before : HappensBefore (items h) position other_position → ⊥
  pub not_earlier : IsEarlier g h position other_position → ⊥
