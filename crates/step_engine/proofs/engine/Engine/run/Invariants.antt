use Rattle.std.proofs.Common.{◌≡◌, ◌≤◌, length}
use Rattle.run_laws.specs.Faithful.{OneByOne}
use Rattle.run_laws.specs.Rounds as rounds
use Rattle.machine_laws.specs.Machine.{bare_of}
use Rattle.report_text.specs.Offers.{is_met}
use Rattle.step_engine.specs.Progress.{progress, rounds_left, IsReady}
use Rattle.step_engine.specs.Live.{live_of}
use Rattle.whole_runs.specs.Told.{Told}
use Rattle.step_engine.proofs.engine.Engine.run.Given as goal

abbrev pub invariant-rounds : goal.invariant-rounds
invariant-rounds g l = record {
  reached : rounds.Reaches OneByOne l.limits (bare_of l.image l.limits.harts) l.plan (progress l.self l.plan);
  turn : l.self.turn ≤ length l.plan;
  ready : IsReady l.image l.limits l.self;
  live : l.live.items ≡ live_of l.self.watched.machine;
  told : Told (is_met (g.S.Suppressions.rule_met l.fn.reporter.rules)) l.image l.limits l.self.entries l.reporter.kept;
  rules : l.reporter.rules ≡ l.fn.reporter.rules;
}

abbrev pub decreases-rounds : goal.decreases-rounds
decreases-rounds g l = rounds_left l.self
