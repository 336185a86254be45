-- What stands of the reports while a run goes on.
use Rattle.std.specs.Prelude.{◌≡◌, ◌≤◌, ℕ, Bool, List, length, Option}
use Rattle.run_record.specs.declared.entry.Entry.{Entry}
use Rattle.run_record.specs.declared.limits.Limits.{Limits}
use Rattle.run_record.specs.declared.report.Report.{Report}
use Rattle.elf_image.specs.File.{granule_address}
use Rattle.run_laws.specs.Moments.{moments}
use Rattle.run_laws.specs.Reports.{Kept, Finds, kept_of}
use Rattle.report_text.specs.Offers.{offers}

-- All reports of the entries were offered, one after another, by the rules that two stacks may meet. There are
-- at most as many as moments.
pub record Told
    (meets : Option (List ℕ) → Option (List ℕ) → Bool) (file : List ℕ) (limits : Limits) (entries : List Entry)
    (reporter : Kept) : Type 0 where
  pub found : List Report
  pub finds : Finds limits (granule_address file) (moments entries) (length (moments entries)) found
  pub kept : reporter ≡ kept_of meets found
  pub counted : offers reporter ≤ length (moments entries)
