-- What makes a run, and what is known of each.
use Rattle.std.proofs.Common.{◌≡◌, ℕ, ◌*◌, ◌≤◌, Bool, Option, Ok, List, sym, subst, arith}
use Rattle.run_record.specs.declared.limits.Limits.{Limits}
use Rattle.run_record.specs.declared.plan.Turn.{Turn}
use Rattle.run_record.specs.declared.finished.Finished.{Finished}
use Rattle.elf_image.specs.File.{image_of, granule_of, granule_address}
use Rattle.elf_image.proofs.MemoryLaws.{granule_address-of}
use Rattle.run_laws.specs.Moments.{moments, RoundsNeverFall}
use Rattle.run_laws.specs.Faithful.{Mode, state_after, needs_slot}
use Rattle.run_laws.specs.Lawful.{IsLawful, IsWholeRun}
use Rattle.run_laws.specs.Reports.{AreReports}
use Rattle.run_laws.proofs.RoundOrder.{rounds_rise}
use Rattle.report_laws.specs.Sound.{IsSound, TellsAddresses}
use Rattle.report_laws.specs.Offered.{LoadsRace, IsOffered}
use Rattle.report_laws.proofs.RaceReports.{races_kept}
use Rattle.report_laws.proofs.OfferedLaw.{offered}
use Rattle.machine_laws.specs.Machine.{bare_of}
use Rattle.whole_runs.specs.Told.{Told}
use Rattle.whole_runs.specs.Run.{IsRun, kept_in}

addresses : (file : List ℕ) → image_of file ≡ Ok file → TellsAddresses (granule_of file) (granule_address file)
addresses file accepted b g q = let y = granule_address-of file (8 * b) g accepted q in omega arith

module _ (mode : Mode) (file : List ℕ) (limits : Limits) (plan : List Turn) (meets : Option (List ℕ) → Option (List ℕ) → Bool) (f : Finished)
    (few : limits.slots ≤ 255) (some : 1 ≤ limits.epochs) (most : limits.epochs ≤ 16383) (accepted : image_of file ≡ Ok file) where
  module _ (lawful : IsLawful mode limits plan (bare_of file limits.harts) (granule_of file) f.history.entries) where
    sound : IsSound limits (granule_of file) (needs_slot (bare_of file limits.harts) f.history.entries) f.history.entries
    sound = record {
      few_slots = few;
      some_epochs = some;
      few_epochs = most;
      notes = lawful.notes;
      checks = lawful.checks;
      stores = lawful.stores;
      loads = lawful.loads;
    }

    rise : RoundsNeverFall f.history.entries
    rise = subst RoundsNeverFall (sym lawful.rounds.history_is)
        (rounds_rise mode limits (bare_of file limits.harts) plan lawful.rounds.progress lawful.rounds.reached)

    -- a lawful history of a whole run, whose reports were all offered, makes a run
    pub is_run : IsWholeRun mode limits plan (bare_of file limits.harts) f.history.entries f.last → Told meets file limits f.history.entries (kept_in f)
        → f.output ≡ (state_after (bare_of file limits.harts) f.history.entries).output → IsRun mode file limits plan meets f
    is_run whole told output =
        let reports : AreReports limits (granule_address file) meets (moments f.history.entries) (kept_in f) =
        record { found = told.found; found_all = told.finds; kept_is = told.kept } in
        record {
          lawful = lawful;
          whole = whole;
          reports = reports;
          races = races_kept limits (granule_of file) (granule_address file) (needs_slot (bare_of file limits.harts) f.history.entries) f.history.entries
              sound rise (addresses file accepted) meets (kept_in f) reports;
          output = output;
        }

  -- no race that an access sees is passed over
  pub seen : IsRun mode file limits plan meets f → (a b : ℕ) → LoadsRace limits.epochs (granule_of file) (moments f.history.entries) a b
      → IsOffered limits (granule_address file) meets (moments f.history.entries) (kept_in f) a
  seen run a b loads =
      offered mode limits plan (bare_of file limits.harts) (granule_of file) (granule_address file) meets f.history.entries (kept_in f)
      few some most (addresses file accepted) run.lawful run.reports a b loads
