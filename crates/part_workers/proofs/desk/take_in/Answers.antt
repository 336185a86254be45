use Rattle.std.proofs.Common.{ap, ◌∙◌}
use Rattle.shared_table.specs.declared.object.Object.TheVariants.{Desk}
use Rattle.part_workers.proofs.AtDesk.{ok_map, none_in}
use Rattle.part_workers.proofs.desk.take_in.Goals as goal

pub returns-in-Desk-clause-none : goal.returns-in-Desk-clause-none
returns-in-Desk-clause-none c =
    ok_map _ _ c.take_of.result (λ b f e. none_in c.args.limits.now c.args.state.now c.take_of.new.state c.args.object.now c.in-Desk.desk _ c.take_of.new.desk
    c.args.part.now c.take_of.new.part (c.in-Desk.is ∙ ap Desk c.in-Desk.desk-is) c.deref_mut.ensures.value (f e)) c.take_of.ensures.none
