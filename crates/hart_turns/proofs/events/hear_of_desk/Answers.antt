use Rattle.std.proofs.Common.{Some, ap, subst, ◌∙◌}
use Rattle.shared_table.specs.declared.object.DeskState.{DeskState}
use Rattle.hart_turns.specs.Hearing.{HearsAtDesk}
use Rattle.hart_turns.specs.Places.{IsPlace}
use Rattle.hart_turns.proofs.OneEvent.{heard_map, desk_one}
use Rattle.hart_turns.proofs.events.hear_of_desk.Goals as goal

pub returns-else-not-is_made-clause-heard : goal.returns-else-not-is_made-clause-heard
returns-else-not-is_made-clause-heard c =
    let v = c.deref_mut.ensures.value in
    let is = c.in-Some-Desk.is ∙ ap Some c.in-Some-Desk.field-0-is in
    heard_map _ _ c.hear_desk.result
    (λ spent h file at clock checks waiting me.
    desk_one file c.args.limits.now c.args.number c.args.tid clock c.args.event.now at c.args.watcher.now c.hear_desk.new.watcher c.args.place.now c.in-Some-Desk.desk _ checks waiting me
    spent is c.requires.of_desk (subst (IsPlace c.args.limits.now c.args.number) is c.requires.place).0 c.requires.ready
    (subst (λ (d : DeskState). HearsAtDesk c.args.tid c.args.event.now c.args.watcher.now c.hear_desk.new.watcher d.desk c.hear_desk.new.desk spent) v h)
    (ap (λ (d : DeskState). d.machine) v) (ap (λ (d : DeskState). d.last) v))
    c.hear_desk.ensures.heard
