-- The accesses that load the word of an access that they race with, and what becomes of them.
use Rattle.std.specs.Prelude.{◌≡◌, ◌⊎◌, ℕ, Bool, true, List, Option, Contains}
use Rattle.std.specs.List.{list_any}
use Rattle.run_record.specs.declared.entry.Check.{Check}
use Rattle.run_record.specs.declared.limits.Limits.{Limits}
use Rattle.run_record.specs.declared.report.Report.{Report}
use Rattle.run_laws.specs.Moments.{Moment, moment_at, items}
use Rattle.run_laws.specs.Labels.{labels}
use Rattle.run_laws.specs.SlotOrder.{SlotBefore}
use Rattle.run_laws.specs.Accesses.{Access, Conflict}
use Rattle.run_laws.specs.Words.{era}
use Rattle.run_laws.specs.Candidates.{has_word, IsCandidate}
use Rattle.run_laws.specs.Reports.{MakesAccess, IsReport, is_equal, Kept}

-- The access at a loads a word that the access at b has on that granule. The word is of a's era, the two
-- accesses conflict, and b doesn't come before a in slot order.
pub record LoadsRace (g : ℕ) (granule_of : ℕ → Option ℕ) (h : List Moment) (a b : ℕ) : Type 0 where
  pub tid : ℕ
  pub access : Access
  pub made : MakesAccess h a tid access
  pub check : Check
  pub among : Contains (moment_at h a).checks check
  pub word : ℕ
  pub loaded : Contains check.cells word
  pub present : era word ≡ (labels g (items h) a).era
  pub other : ℕ
  pub other_access : Access
  pub other_made : MakesAccess h b other other_access
  pub other_word : has_word check.granule word (moment_at h b) ≡ true
  pub conflict : Conflict granule_of tid access other other_access
  pub unordered : SlotBefore g (items h) b a → ⊥

-- The access at a has a candidate, and its report is suppressed, or one of those that are kept, or equal to
-- one of them.
pub record IsOffered
    (limits : Limits) (address_of : ℕ → ℕ) (meets : Option (List ℕ) → Option (List ℕ) → Bool)
    (h : List Moment) (kept : Kept) (a : ℕ) : Type 0 where
  pub check : Check
  pub word : ℕ
  pub candidate : IsCandidate limits.epochs h a check word
  pub report : Report
  pub report_is : IsReport limits address_of h a check.granule word report
  pub becomes :
      (meets report.mine.stack report.previous.stack ≡ true)
      ⊎ (Contains kept.reports report ⊎ (list_any (is_equal report) kept.reports ≡ true))
