use Rattle.part_workers.specs.Needs.{Had, Took}
use Rattle.part_workers.proofs.AtDesk.{ok_map}
use Rattle.part_workers.proofs.slots.with_slot.Goals as goal

pub returns-clause-has : goal.returns-clause-has
returns-clause-has g c =
    let lacks = let z = c.if-not-is_without.false in c.is_without.ensures.lacks (cc) in
    ok_map _ _ c.take_at_desk.result (λ b f e. Took c.take_at_desk.new.state c.take_at_desk.new.part c.take_at_desk.new.seat.me.0.log c.take_at_desk.new.given
    lacks.0 lacks.1 (f e)) c.take_at_desk.ensures.took

pub returns-clause-lacks : goal.returns-clause-lacks
returns-clause-lacks g c =
    let lacks = let z = c.if-not-is_without.false in c.is_without.ensures.lacks (cc) in
    ok_map _ _ c.take_at_desk.result (λ b f e. record { needed = lacks.0; unlabelled = lacks.1; tries = f e }) c.take_at_desk.ensures.none

pub returns-then-not-is_without-clause-has : goal.returns-then-not-is_without-clause-has
returns-then-not-is_without-clause-has g c = λ e. Had c.args.given.now (let z = c.if-not-is_without.true in c.is_without.ensures.has (cc))
