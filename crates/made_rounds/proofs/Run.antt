-- The rounds that were made are a run.
use Rattle.std.proofs.Common.{◌≡◌, ℕ, Bool, List, [], sym, ap, subst, ◌∙◌}
use Rattle.std.specs.Prelude.{Option}
use Rattle.run_record.specs.declared.limits.Limits.{Limits}
use Rattle.run_record.specs.declared.plan.Turn.{Turn}
use Rattle.run_record.specs.declared.finished.Finished.{Finished}
use Rattle.run_laws.specs.Faithful.{AtOnce}
use Rattle.run_laws.specs.Reports.{kept_of}
use Rattle.whole_runs.specs.Run.{IsRun, kept_in}
use Rattle.turn_histories.specs.Rounds.{all_entries}
use Rattle.shared_table.specs.declared.object.DeskState.{DeskState}
use Rattle.shared_table.specs.declared.object.Object.{Object}
use Rattle.shared_table.specs.declared.view.Layout.{Layout}
use Rattle.shared_table.specs.Past.{Past, log_of, logs_of}
use Rattle.whole_parts.specs.Dues.{HasDesk, IsEnd}
use Rattle.part_runs.specs.Told.{RoundReports, all_told}
use Rattle.part_runs.proofs.Found.{run_of}
use Rattle.made_rounds.specs.Made.{MadeRound, first_stand, entries_of_made}
use Rattle.made_rounds.specs.Logs.{HaveLogs}
use Rattle.made_rounds.specs.Known.{HaveBeenMade, stand_behind, AreToldMade, IsOverAt}
use Rattle.made_rounds.proofs.Found.{have_rounds}
use Rattle.made_rounds.proofs.More.{told_same}

pub run_made : (file : List ℕ) (limits : Limits) (lay : Layout) (past : Past) (first : Object) (xs : List MadeRound) (taken : Option ℕ)
    (plan : List Turn) (closed : DeskState) (ts : List RoundReports) (meets : Option (List ℕ) → Option (List ℕ) → Bool) (f : Finished) →
    HaveBeenMade file limits lay past first xs → HaveLogs (logs_of past) (log_of 0 past) (first_stand limits first) xs taken →
    IsOverAt limits (stand_behind limits first xs) closed f.last → AreToldMade file limits [] xs ts →
    f.history.entries ≡ entries_of_made xs → kept_in f ≡ kept_of meets (all_told ts) → f.output ≡ closed.machine.output →
    IsRun AtOnce file limits plan meets f
run_made file limits lay past first xs taken plan closed ts meets f made logs over told entries kept output =
    let r = have_rounds file limits lay past first xs made taken logs in
    run_of file limits lay past r.begins r.rounds plan closed ts meets f
    (record {
      rounds = r.are;
      dues = r.dues;
      over = record {
        at_desk = subst (λ (o : Object). HasDesk o closed) (sym r.desk_is) over.at_desk;
        end_is = subst (λ (n : ℕ). IsEnd limits n closed f.last.end) (sym r.remaining) over.end_is;
        threads_are = over.threads_are;
        rounds_are = over.rounds_are ∙ sym r.count;
        era_is = over.era_is ∙ sym r.last_era;
      };
    })
    (told_same file limits r.rounds xs ts [] r.entries told) (entries ∙ ap all_entries (sym r.entries)) kept output
