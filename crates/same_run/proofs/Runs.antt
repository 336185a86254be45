-- Two runs of an executable are the same.
use Rattle.std.proofs.Common.{◌≡◌, ℕ, ◌≤◌, Bool, Option, List, sym, ap, subst, ◌∙◌}
use Rattle.run_record.specs.declared.entry.Entry.{Entry}
use Rattle.run_record.specs.declared.limits.Limits.{Limits}
use Rattle.run_record.specs.declared.plan.Turn.{Turn}
use Rattle.run_record.specs.declared.finished.Finished.{Finished}
use Rattle.elf_image.specs.File.{granule_of, granule_address}
use Rattle.run_laws.specs.Moments.{moments}
use Rattle.run_laws.specs.Faithful.{OneByOne, state_after}
use Rattle.run_laws.specs.Reports.{AreReports}
use Rattle.run_laws.proofs.OneReport.{one_kept}
use Rattle.machine_laws.specs.Machine.{bare_of}
use Rattle.whole_runs.specs.Run.{IsRun, kept_in}
use Rattle.one_history.proofs.Runs.{one, one_end}
use Rattle.same_run.proofs.Machine.{leave_labels}

same_finished : (f other : Finished) → f.history.entries ≡ other.history.entries → kept_in f ≡ kept_in other → f.output ≡ other.output → f.last ≡ other.last → f ≡ other
same_finished f other h k o l = λ i. record { history = record { entries = h i }; reports = (k i).reports; suppressed = (k i).suppressed; equal = (k i).equal; output = o i; last = l i }

pub same_run : (file : List ℕ) (limits : Limits) (plan : List Turn) (meets : Option (List ℕ) → Option (List ℕ) → Bool) (f other : Finished)
    → 1 ≤ limits.harts → IsRun OneByOne file limits plan meets f → IsRun OneByOne file limits plan meets other → f ≡ other
same_run file limits plan meets f other some a b =
    let local = leave_labels file limits.harts some in
    let same = one limits (bare_of file limits.harts) (granule_of file) plan local f.history.entries other.history.entries a.lawful b.lawful in
    same_finished f other same
    (one_kept limits (granule_address file) meets (moments other.history.entries) (kept_in f) (kept_in other)
    (subst (λ (es : List Entry). AreReports limits (granule_address file) meets (moments es) (kept_in f)) same a.reports) b.reports)
    (a.output ∙ (ap (λ (es : List Entry). (state_after (bare_of file limits.harts) es).output) same ∙ sym b.output))
    (one_end limits (bare_of file limits.harts) (granule_of file) plan local f.history.entries other.history.entries f.last other.last a.lawful b.lawful a.whole b.whole)
