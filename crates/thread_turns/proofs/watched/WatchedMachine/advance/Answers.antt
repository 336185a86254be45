use Rattle.std.proofs.Common.{◌∙◌, ap, not, refl}
use Rattle.bare_machine.proofs.StepLemmas.{if_ok}
use Rattle.thread_turns.proofs.AdvanceLaws.{next_of, advances_at_once, lacks_of, asks_after, readies_after, advances_never, ready_true, next_after, advances_after}
use Rattle.thread_turns.proofs.watched.WatchedMachine.advance.Goals as goal

pub instruction-requires-clause-next : goal.instruction-requires-clause-next
instruction-requires-clause-next c = next_of _ _ _ _ c.requires.unused c.requires.turn

pub returns-then-branch : goal.returns-then-branch
returns-then-branch c = advances_at_once c.args.image.now c.args.tid c.in_ok-instruction.field-0 c.args.part.now c.instruction.new.part c.args.self.now c.instruction.new.self c.if-branch.true c.requires.unused c.in_ok-instruction.ensures

pub attach-part-requires-clause-unheld : goal.attach-part-requires-clause-unheld
attach-part-requires-clause-unheld c = (asks_after c.args.image.now _ _ _ _ _ _ _ c.requires.unused c.requires.turn (lacks_of c.args.image.now c.args.tid c.in_ok-instruction.field-0 c.args.part.now c.instruction.new.part c.args.self.now c.instruction.new.self c.if-branch.false c.in_ok-instruction.ensures) c.in_ok-room.ensures.rest).unheld

pub attach-part-requires-clause-front : goal.attach-part-requires-clause-front
attach-part-requires-clause-front c = (asks_after c.args.image.now _ _ _ _ _ _ _ c.requires.unused c.requires.turn (lacks_of c.args.image.now c.args.tid c.in_ok-instruction.field-0 c.args.part.now c.instruction.new.part c.args.self.now c.instruction.new.self c.if-branch.false c.in_ok-instruction.ensures) c.in_ok-room.ensures.rest).front

pub attach-part-requires-clause-era : goal.attach-part-requires-clause-era
attach-part-requires-clause-era c = (asks_after c.args.image.now _ _ _ _ _ _ _ c.requires.unused c.requires.turn (lacks_of c.args.image.now c.args.tid c.in_ok-instruction.field-0 c.args.part.now c.instruction.new.part c.args.self.now c.instruction.new.self c.if-branch.false c.in_ok-instruction.ensures) c.in_ok-room.ensures.rest).era

pub attach-part-requires-clause-greatest : goal.attach-part-requires-clause-greatest
attach-part-requires-clause-greatest c = (asks_after c.args.image.now _ _ _ _ _ _ _ c.requires.unused c.requires.turn (lacks_of c.args.image.now c.args.tid c.in_ok-instruction.field-0 c.args.part.now c.instruction.new.part c.args.self.now c.instruction.new.self c.if-branch.false c.in_ok-instruction.ensures) c.in_ok-room.ensures.rest).greatest

pub attach-part-requires-clause-count : goal.attach-part-requires-clause-count
attach-part-requires-clause-count c = (asks_after c.args.image.now _ _ _ _ _ _ _ c.requires.unused c.requires.turn (lacks_of c.args.image.now c.args.tid c.in_ok-instruction.field-0 c.args.part.now c.instruction.new.part c.args.self.now c.instruction.new.self c.if-branch.false c.in_ok-instruction.ensures) c.in_ok-room.ensures.rest).count

pub returns-then-is_none : goal.returns-then-is_none
returns-then-is_none c =
    let lacks = lacks_of c.args.image.now c.args.tid c.in_ok-instruction.field-0 c.args.part.now c.instruction.new.part c.args.self.now c.instruction.new.self c.if-branch.false c.in_ok-instruction.ensures in
    advances_never c.args.image.now c.args.tid _ c.args.part.now _ c.args.self.now _ (c.is_none.ensures ∙ ap not c.if-is_none.true)
    (readies_after c.args.image.now c.args.tid c.args.part.now c.instruction.new.part c.args.self.now c.instruction.new.self _ _ _ _ _ c.requires.unused lacks c.in_ok-room.ensures.rest c.attach-part.ensures.none c.attach-part.ensures.some refl)

pub instruction-requires-2-clause-next : goal.instruction-requires-2-clause-next
instruction-requires-2-clause-next c =
    let lacks = lacks_of c.args.image.now c.args.tid c.in_ok-instruction.field-0 c.args.part.now c.instruction.new.part c.args.self.now c.instruction.new.self c.if-branch.false c.in_ok-instruction.ensures in
    next_after c.args.image.now c.args.tid c.args.part.now _ c.args.self.now _ c.requires.turn (ready_true _ _ _ _ _ _ _ (c.is_none.ensures ∙ ap not c.if-is_none.false)
    (readies_after c.args.image.now c.args.tid c.args.part.now c.instruction.new.part c.args.self.now c.instruction.new.self _ _ _ _ _ c.requires.unused lacks c.in_ok-room.ensures.rest c.attach-part.ensures.none c.attach-part.ensures.some refl))

pub returns : goal.returns
returns c =
    let lacks = lacks_of c.args.image.now c.args.tid c.in_ok-instruction.field-0 c.args.part.now c.instruction.new.part c.args.self.now c.instruction.new.self c.if-branch.false c.in_ok-instruction.ensures in
    let readies = ready_true _ _ _ _ _ _ _ (c.is_none.ensures ∙ ap not c.if-is_none.false)
    (readies_after c.args.image.now c.args.tid c.args.part.now c.instruction.new.part c.args.self.now c.instruction.new.self _ _ _ _ _ c.requires.unused lacks c.in_ok-room.ensures.rest c.attach-part.ensures.none c.attach-part.ensures.some refl) in
    if_ok c.instruction-2.result _ _ (λ b tries. advances_after c.args.image.now c.args.tid b c.args.part.now _ c.instruction-2.new.part c.args.self.now _ c.instruction-2.new.self c.requires.unused readies tries) c.instruction-2.ensures
