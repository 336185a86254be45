use Rattle.std.proofs.Common.{rules, ◌≡◌, ◌-◌, ℕ, Bool, false, ap, subst, refl}
use Rattle.step_engine.specs.declared.engine.Engine.{Engine}
use Rattle.step_engine.specs.Progress.{limits_of}
use Rattle.thread_turns.specs.Follows.{TakesTurn}
use Rattle.step_engine.proofs.EngineLaws.{Turned, turned-start, turned-more}
use Rattle.step_engine.proofs.engine.Engine.turns.Goals as goal

pub turns-init : goal.turns-init
turns-init c = record { turned = turned-start _ _ _ _ c.requires.ready; rest = refl }

pub turns-preserved : goal.turns-preserved
turns-preserved c =
    let going : c.turns.starved ≡ false = search rules in
    let round_is : c.turns.self.round ≡ c.args.self.now.round = ap (λ (e : Engine). e.round) c.turns.invariant.rest in
    let so_far = subst (λ (b : Bool). Turned c.args.image.now (limits_of c.args.self.now) c.args.self.now c.args.due c.turns.self.entries c.turns.self.watched c.turns.made b) going c.turns.invariant.turned in
    let turn = subst (λ (round : ℕ). TakesTurn c.args.image.now round c.args.due.tid (c.args.due.given - c.turns.made) c.turns.self.entries c.take_turn.new.entries c.turns.self.watched c.take_turn.new.self c.in_ok-end.end) round_is c.in_ok-end.ensures.turn in
    record {
      turned = turned-more _ _ _ _ _ _ _ _ _ _ so_far c.turns-test.true turn;
      rest = ap (λ (e : Engine). record e { watched = c.take_turn.new.self; part = c.take_turn.new.part; entries = c.take_turn.new.entries }) c.turns.invariant.rest;
    }
