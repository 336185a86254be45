-- The run, when it is over.
use Rattle.std.proofs.Common.{◌≡◌, ℕ, Bool, List, sym, ap, subst, ◌∙◌}
use Rattle.std.specs.Prelude.{Option, None, Some}
use Rattle.run_record.specs.declared.limits.Limits.{Limits}
use Rattle.run_record.specs.declared.plan.Turn.{Turn}
use Rattle.run_record.specs.declared.finished.Finished.{Finished}
use Rattle.run_record.specs.declared.finished.GuestEnd.{GuestEnd}
use Rattle.run_record.specs.declared.finished.LastState.{LastState}
use Rattle.run_laws.specs.Faithful.{AtOnce}
use Rattle.run_laws.specs.Reports.{Kept}
use Rattle.whole_runs.specs.Run.{IsRun, kept_in}
use Rattle.shared_table.specs.declared.view.Layout.{Layout}
use Rattle.shared_table.specs.declared.view.View.{View}
use Rattle.shared_table.specs.Past.{Log, logs_of, Lawful}
use Rattle.shared_table.specs.Steps.{Told}
use Rattle.whole_parts.specs.Dues.{IsEnd}
use Rattle.made_rounds.specs.Made.{first_stand}
use Rattle.made_rounds.specs.Logs.{HaveLogs}
use Rattle.made_rounds.proofs.Run.{run_made}
use Rattle.hart_workers.specs.declared.rounds.Rounds.{Rounds}
use Rattle.hart_workers.specs.Standing.{stand_in, IsBetween}

-- the last state, as it is read of the desk and counted
abbrev pub last_of : Rounds → GuestEnd → LastState
last_of r end = record { threads = r.reading.made; rounds = r.round; era = r.last_era; end = end }

pub run_over : (meets : Option (List ℕ) → Option (List ℕ) → Bool) (file : List ℕ) (limits : Limits) (lay : Layout) (v : View) (r : Rounds)
    (kept : Kept) (end : GuestEnd) (f : Finished) (plan : List Turn) → IsBetween meets file limits lay v r kept → v.layout ≡ lay → Told v →
    r.reading.end ≡ Some end → f.history.entries ≡ r.entries → kept_in f ≡ kept → f.output ≡ r.reading.output → f.last ≡ last_of r end →
    IsRun AtOnce file limits plan meets f
run_over meets file limits lay v r kept end f plan h same told over entries kept_are output last =
    let x = h.so_far in
    let past = told.0 in
    let closed = h.reading.desk_state in
    run_made file limits lay past x.first x.rounds None plan closed x.told meets f
    (record { set_up = h.known.set_up; made = h.known.made; lawful = subst (λ (l : Layout). Lawful l past) same told.1 })
    (subst (λ (own : Log). HaveLogs (logs_of past) own (first_stand limits x.first) x.rounds None) told.3
    (subst (λ (ls : List (Option Log)). HaveLogs ls v.log (first_stand limits x.first) x.rounds None) told.2 h.logs))
    (record {
      at_desk = h.reading.at_desk;
      end_is = subst (IsEnd limits (stand_in limits x).remaining closed) (sym (ap (λ (l : LastState). l.end) last)) (h.reading.read.ends end over);
      threads_are = ap (λ (l : LastState). l.threads) last ∙ h.reading.read.made;
      rounds_are = ap (λ (l : LastState). l.rounds) last ∙ h.stands.round;
      era_is = ap (λ (l : LastState). l.era) last ∙ h.stands.last_era;
    })
    h.known.told (entries ∙ h.stands.entries) (kept_are ∙ h.kept_is) (output ∙ h.reading.read.output end over)
