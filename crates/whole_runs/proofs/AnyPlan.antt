-- Where threads run at once, no plan is read.
use Rattle.std.proofs.Common.{ℕ, Bool, Option, List}
use Rattle.std.proofs.lemmas.List.Elements.{All-weaker}
use Rattle.run_record.specs.declared.entry.Entry.{Entry}
use Rattle.run_record.specs.declared.limits.Limits.{Limits}
use Rattle.run_record.specs.declared.plan.Turn.{Turn}
use Rattle.run_record.specs.declared.finished.Finished.{Finished}
use Rattle.run_record.specs.declared.finished.LastState.{LastState}
use Rattle.run_laws.specs.Faithful.{Bare, AtOnce}
use Rattle.run_laws.specs.Rounds.{Progress, Due, IsInRound, MakesDue, IsRound, Reaches, Start, Round, dues, turns_after}
use Rattle.run_laws.specs.Lawful.{IsLawful, IsWholeRun}
use Rattle.whole_runs.specs.Run.{IsRun}

module _ {S : Type 0} (limits : Limits) (bare : Bare S) where
  -- the same with other turns left
  abbrev but_turns : Progress → List Turn → Progress
  but_turns p turns = record p { turns = turns }

  in_round : (p : Progress) (turns : List Turn) (ds : List Due) (e : Entry) → IsInRound p ds e → IsInRound (but_turns p turns) ds e
  in_round p turns ds e i = record { round = i.round; era = i.era; due = i.due }

  makes_due : (p : Progress) (turns : List Turn) (part : List Entry) (d : Due) → MakesDue AtOnce limits bare p part d
      → MakesDue AtOnce limits bare (but_turns p turns) part d
  makes_due p turns part d m = record { no_more = m.no_more; fewer = m.fewer }

  is_round : (p : Progress) (turns : List Turn) (part : List Entry) → IsRound AtOnce limits bare p part → IsRound AtOnce limits bare (but_turns p turns) part
  is_round p turns part r =
      let q = but_turns p turns in
      let ds = dues AtOnce limits bare p in
      record {
        entries = All-weaker (IsInRound p ds) (IsInRound q ds) (in_round p turns ds) part r.entries;
        made = All-weaker (MakesDue AtOnce limits bare p part) (MakesDue AtOnce limits bare q part) (makes_due p turns part) ds r.made;
      }

  module _ (plan other : List Turn) where
    -- by another plan a run comes as far, with other turns left
    reaches : (p : Progress) → Reaches AtOnce limits bare plan p → (turns : List Turn) × Reaches AtOnce limits bare other (but_turns p turns)
    reaches _ Start = (other, Start)
    reaches _ (Round p part r on some round) =
        let before = reaches p r in
        (turns_after bare (but_turns p before.0), Round (but_turns p before.0) part before.1 on some (is_round p before.0 part round))

    module _ (entries : List Entry) where
      whole_run : (last : LastState) → IsWholeRun AtOnce limits plan bare entries last → IsWholeRun AtOnce limits other bare entries last
      whole_run last w =
          let r = reaches w.progress w.reached in
          record {
            progress = but_turns w.progress r.0;
            reached = r.1;
            history_is = w.history_is;
            ends = w.ends;
            threads_are = w.threads_are;
            rounds_are = w.rounds_are;
            era_is = w.era_is;
          }

      lawful_history : (granule_of : ℕ → Option ℕ) → IsLawful AtOnce limits plan bare granule_of entries → IsLawful AtOnce limits other bare granule_of entries
      lawful_history granule_of l = record {
        faithful = l.faithful;
        last = l.last;
        rounds = whole_run l.last l.rounds;
        labelled = l.labelled;
        notes = l.notes;
        checks = l.checks;
        stores = l.stores;
        loads = l.loads;
        loads_last = l.loads_last;
      }

pub any_plan : (file : List ℕ) (limits : Limits) (plan other : List Turn) (meets : Option (List ℕ) → Option (List ℕ) → Bool) (f : Finished)
    → IsRun AtOnce file limits plan meets f → IsRun AtOnce file limits other meets f
any_plan file limits plan other meets f run = record {
  lawful = lawful_history limits _ plan other f.history.entries _ run.lawful;
  whole = whole_run limits _ plan other f.history.entries f.last run.whole;
  reports = run.reports;
  races = run.races;
  output = run.output;
}
