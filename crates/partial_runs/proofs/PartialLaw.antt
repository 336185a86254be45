-- A partial run begins the whole one.
use Rattle.std.proofs.Common.{◌≡◌, ℕ, ◌*◌, ◌≤◌, Bool, Option, Ok, List, [], ◌++◌, refl, sym, ap, subst, ◌∙◌, arith}
use Rattle.std.specs.Prelude.{All}
use Rattle.run_record.specs.declared.entry.Entry.{Entry}
use Rattle.run_record.specs.declared.limits.Limits.{Limits}
use Rattle.run_record.specs.declared.plan.Turn.{Turn}
use Rattle.run_record.specs.declared.report.Report.{Report}
use Rattle.run_record.specs.declared.finished.Finished.{Finished}
use Rattle.elf_image.specs.File.{image_of, granule_of, granule_address}
use Rattle.elf_image.proofs.MemoryLaws.{granule_address-of}
use Rattle.run_laws.specs.Moments.{moments, RoundsNeverFall}
use Rattle.run_laws.specs.Faithful.{Mode, OneByOne, state_after, needs_slot}
use Rattle.run_laws.specs.Reports as reports
use Rattle.run_laws.specs.Reports.{Kept, AreReports}
use Rattle.run_laws.proofs.OneReport.{one_kept}
use Rattle.run_laws.proofs.RoundOrder.{rounds_rise}
use Rattle.report_laws.specs.Sound.{IsSound, AreOfLaterRounds}
use Rattle.report_laws.specs.Races.{StandsForRace}
use Rattle.report_laws.proofs.RaceReports.{races_kept}
use Rattle.machine_laws.specs.Machine.{bare_of}
use Rattle.one_history.proofs.Runs.{one, one_end}
use Rattle.whole_runs.specs.Told.{Told}
use Rattle.whole_runs.specs.Run.{IsRun, kept_in}
use Rattle.partial_runs.specs.declared.partial.Partial.{Partial}
use Rattle.partial_runs.specs.Starts.{BeginsWith, IsLawfulStart, GoesOn, GoesOnByRound, ReportsGoOn}
use Rattle.partial_runs.specs.Partials.{IsPartial, IsBeginning, all_rounds}
use Rattle.partial_runs.proofs.Machine.{leave_labels}
use Rattle.partial_runs.proofs.Output.{output_grows}
use Rattle.partial_runs.proofs.Found.{first_reports}
use Rattle.partial_runs.proofs.FirstRounds.{no_entries, start_of_whole, begins_whole}

module _ (file : List ℕ) (limits : Limits) (plan : List Turn) (meets : Option (List ℕ) → Option (List ℕ) → Bool) where
  pub whole_is_partial : (mode : Mode) (f : Finished) → IsRun mode file limits plan meets f → IsPartial mode file limits plan meets (all_rounds f)
  whole_is_partial mode f run = record {
    lawful = start_of_whole limits (bare_of file limits.harts) (granule_of file) plan mode f.history.entries run.lawful;
    kept = kept_in f;
    kept_are = run.reports;
    reports = refl;
    output = run.output;
  }

  -- the reports of a partial run of one round less begin its own
  pub round_reports : (mode : Mode) (earlier p : Partial) → IsPartial mode file limits plan meets earlier → IsPartial mode file limits plan meets p →
      GoesOnByRound earlier.history.entries p.history.entries → BeginsWith p.reports earlier.reports
  round_reports mode earlier p a b on =
      let later : AreOfLaterRounds earlier.history.entries on.last =
      λ i e l j d m. let x = on.of_round i e l in let y = on.of_earlier_rounds j d m in omega arith in
      subst (BeginsWith p.reports) (sym a.reports)
      (subst (λ (reports : List Report). BeginsWith reports a.kept.reports) (sym b.reports)
      (first_reports meets limits (granule_address file) earlier.history.entries on.last a.kept b.kept later a.kept_are
      (subst (λ (es : List Entry). AreReports limits (granule_address file) meets (moments es) b.kept) on.whole_is b.kept_are)).reports)

  -- what is kept at a round's end
  pub at_round_end : (mode : Mode) (p : Partial) (kept : Kept) →
      IsLawfulStart mode limits plan (bare_of file limits.harts) (granule_of file) p.history.entries → Told meets file limits p.history.entries kept →
      p.reports ≡ kept.reports → p.output ≡ (state_after (bare_of file limits.harts) p.history.entries).output → IsPartial mode file limits plan meets p
  at_round_end mode p kept lawful told reports output = record {
    lawful = lawful;
    kept = kept;
    kept_are = record { found = told.found; found_all = told.finds; kept_is = told.kept };
    reports = reports;
    output = output;
  }

  -- the reports of a partial run stand for races
  pub partial_races : (mode : Mode) (p : Partial) → limits.slots ≤ 255 → 1 ≤ limits.epochs → limits.epochs ≤ 16383 → image_of file ≡ Ok file →
      IsPartial mode file limits plan meets p →
      All (StandsForRace limits.epochs (granule_of file) (granule_address file) (moments p.history.entries)) p.reports
  partial_races mode p few some most accepted partial =
      let lawful = partial.lawful in
      let bare = bare_of file limits.harts in
      let sound : IsSound limits (granule_of file) (needs_slot bare p.history.entries) p.history.entries =
      record {
        few_slots = few;
        some_epochs = some;
        few_epochs = most;
        notes = lawful.notes;
        checks = lawful.checks;
        stores = lawful.stores;
        loads = lawful.loads;
      } in
      let rise : RoundsNeverFall p.history.entries = subst RoundsNeverFall (sym lawful.rounds.history_is)
      (rounds_rise mode limits bare plan lawful.rounds.progress lawful.rounds.reached) in
      subst (All (StandsForRace limits.epochs (granule_of file) (granule_address file) (moments p.history.entries))) (sym partial.reports)
      (races_kept limits (granule_of file) (granule_address file) (needs_slot bare p.history.entries) p.history.entries sound rise
      (λ b g q. let y = granule_address-of file (8 * b) g accepted q in omega arith) meets partial.kept partial.kept_are)

  same_finished : (f other : Finished) → f.history.entries ≡ other.history.entries → kept_in f ≡ kept_in other → f.output ≡ other.output →
      f.last ≡ other.last → f ≡ other
  same_finished f other h k o l =
      λ i. record {
        history = record { entries = h i };
        reports = (k i).reports;
        suppressed = (k i).suppressed;
        equal = (k i).equal;
        output = o i;
        last = l i;
      }

  pub same_run : (f other : Finished) → 1 ≤ limits.harts → IsRun OneByOne file limits plan meets f → IsRun OneByOne file limits plan meets other → f ≡ other
  same_run f other some a b =
      let local = leave_labels file limits.harts some in
      let same = one limits (bare_of file limits.harts) (granule_of file) plan local f.history.entries other.history.entries a.lawful b.lawful in
      same_finished f other same
      (one_kept limits (granule_address file) meets (moments other.history.entries) (kept_in f) (kept_in other)
      (subst (λ (es : List Entry). AreReports limits (granule_address file) meets (moments es) (kept_in f)) same a.reports) b.reports)
      (a.output ∙ (ap (λ (es : List Entry). (state_after (bare_of file limits.harts) es).output) same ∙ sym b.output))
      (one_end limits (bare_of file limits.harts) (granule_of file) plan local f.history.entries other.history.entries f.last other.last a.lawful b.lawful
      a.whole b.whole)

  module _ (p : Partial) (f : Finished) (run : IsRun OneByOne file limits plan meets f) (partial : IsPartial OneByOne file limits plan meets p) where
    reports_begin : (on : GoesOn p.history.entries f.history.entries) → ReportsGoOn partial.kept (kept_in f)
    reports_begin on =
        first_reports meets limits (granule_address file) p.history.entries on.later partial.kept (kept_in f) on.of_later_rounds partial.kept_are
        (subst (λ (es : List Entry). AreReports limits (granule_address file) meets (moments es) (kept_in f)) on.whole_is run.reports)

    output_begins : (on : GoesOn p.history.entries f.history.entries) → BeginsWith f.output p.output
    output_begins on =
        let same = run.output ∙ ap (λ (es : List Entry). (state_after (bare_of file limits.harts) es).output) on.whole_is in
        subst (λ (bytes : List ℕ). BeginsWith bytes p.output) (sym same)
        (subst (BeginsWith (state_after (bare_of file limits.harts) (p.history.entries ++ on.later)).output) (sym partial.output)
        (output_grows file limits.harts p.history.entries on.later))

    pub begins : 1 ≤ limits.harts → IsBeginning p f
    begins some =
        let on = begins_whole limits (bare_of file limits.harts) (granule_of file) plan (leave_labels file limits.harts some) p.history.entries
        f.history.entries partial.lawful run.lawful in
        record {
          entries = record { rest = on.later; whole_is = on.whole_is };
          reports = subst (BeginsWith f.reports) (sym partial.reports) (reports_begin on).reports;
          output = output_begins on;
        }

-- before the first round
pub nothing_is_partial : (mode : Mode) (file : List ℕ) (limits : Limits) (plan : List Turn) (meets : Option (List ℕ) → Option (List ℕ) → Bool) (p : Partial) →
    p.history.entries ≡ [] → p.reports ≡ [] → p.output ≡ [] → IsPartial mode file limits plan meets p
nothing_is_partial mode file limits plan meets p entries none output = record {
  lawful = subst (IsLawfulStart mode limits plan (bare_of file limits.harts) (granule_of file)) (sym entries)
      (no_entries mode limits (bare_of file limits.harts) (granule_of file) plan);
  kept = record { reports = []; suppressed = 0; equal = 0 };
  kept_are =
      subst (λ (es : List Entry). AreReports limits (granule_address file) meets (moments es) (record { reports = []; suppressed = 0; equal = 0 }))
      (sym entries)
      (record { found = []; found_all = reports.Start; kept_is = refl });
  reports = none;
  output = output ∙ ap (λ (es : List Entry). (state_after (bare_of file limits.harts) es).output) (sym entries);
}
