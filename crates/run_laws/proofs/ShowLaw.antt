-- A history whose lawfulness and reports are computed shows what it is said to show.
use Rattle.std.proofs.Common.{◌≡◌, ℕ, ◌≤◌, Bool, Option, Some, List, length}
use Rattle.run_record.specs.declared.entry.Entry.{Entry}
use Rattle.run_record.specs.declared.limits.Limits.{Limits}
use Rattle.run_record.specs.declared.plan.Turn.{Turn}
use Rattle.run_record.specs.declared.report.Report.{Report}
use Rattle.run_laws.specs.Moments.{moments}
use Rattle.run_laws.specs.Reports.{kept_of}
use Rattle.run_laws.specs.Faithful.{Mode, needs_slot}
use Rattle.run_laws.specs.Lawful.{IsLawful}
use Rattle.run_laws.specs.Scripts.{Line, scripted}
use Rattle.run_laws.specs.Rows.{Shows, granule_in, address_of}
use Rattle.run_laws.proofs.FoundReports.{found_upto, reports-true}

pub shows : (mode : Mode) (limits : Limits) (plan : List Turn) (scripts : List (List Line)) (entries : List Entry) (meets : Option (List ℕ) → Option (List ℕ) → Bool) (found : List Report) →
    limits.slots ≤ 255 → 1 ≤ limits.epochs → limits.epochs ≤ 16383 →
    IsLawful mode limits plan (scripted scripts) granule_in entries → found_upto limits address_of (moments entries) (length (moments entries)) ≡ Some found → Shows mode limits plan scripts entries meets (kept_of meets found)
shows mode limits plan scripts entries meets found few some most l e = record { lawful = l; reported = reports-true limits granule_in (needs_slot (scripted scripts) entries) entries few some most l.notes l.checks l.stores l.loads address_of meets found e }
