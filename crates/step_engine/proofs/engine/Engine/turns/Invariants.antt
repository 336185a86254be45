use Rattle.std.proofs.Common.{◌≡◌, ◌+◌, ◌-◌, cond}
use Rattle.step_engine.specs.Progress.{limits_of}
use Rattle.step_engine.proofs.EngineLaws.{Turned}
use Rattle.step_engine.proofs.engine.Engine.turns.Given as goal

abbrev pub invariant-turns : goal.invariant-turns
invariant-turns l = record {
  turned : Turned l.image (limits_of l.initial.self) l.initial.self l.due l.self.entries l.self.watched l.made l.starved;
  rest : l.self ≡ record l.initial.self { watched = l.self.watched; part = l.self.part; entries = l.self.entries };
}

abbrev pub decreases-turns : goal.decreases-turns
decreases-turns l = (l.due.given - l.made) + cond l.starved 0 1
