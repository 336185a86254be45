use Rattle.std.proofs.Common.{ap, ◌∙◌, subst}
use Rattle.shared_table.specs.declared.view.Layout.{Layout}
use Rattle.shared_table.specs.Past.{IsSound}
use Rattle.shared_table.specs.Steps.{Mine}
use Rattle.shared_table.proofs.Turns.{took_holds}
use Rattle.shared_table.proofs.tests.turn.Goals as goal

pub finish-seen-requires-clause-holds : goal.finish-seen-requires-clause-holds
finish-seen-requires-clause-holds g c = took_holds c.args.object c.args.seat.now.me c.take-value.result c.take-value.new.seat.me c.take-value.ensures.took

pub finish-seen-requires-clause-sound : goal.finish-seen-requires-clause-sound
finish-seen-requires-clause-sound g c = c.stamped-next.ensures c.args.shared.now.layout c.args.object (subst (λ (l : Layout). IsSound l c.args.object c.take-value.result) c.requires.own.layout c.take-value.ensures.took.sound)

pub returns-clause-free : goal.returns-clause-free
returns-clause-free g c = (c.finish-seen.ensures.free.0, c.finish-seen.ensures.free.1 ∙ ap (λ (m : Mine). m.0.number) c.take-value.ensures.took.log)
