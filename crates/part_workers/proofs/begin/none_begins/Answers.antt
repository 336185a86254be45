use Rattle.std.proofs.Common.{sym, subst, ◌∙◌, List}
use Rattle.std.specs.Prelude.{All}
use Rattle.std.proofs.lemmas.List.{take_all}
use Rattle.std.proofs.lemmas.List.Elements.{All-more}
use Rattle.run_record.specs.declared.event.Event.{Event}
use Rattle.part_workers.specs.Begin.{IsLater}
use Rattle.part_workers.proofs.begin.none_begins.Goals as goal

pub loop-event-preserved : goal.loop-event-preserved
loop-event-preserved c =
    All-more IsLater c.args.events.now c.loop-event.event-index _ c.loop-event-test.true c.loop-event.invariant (sym c.is_begin.ensures ∙ c.if-is_begin.false)

pub returns : goal.returns
returns c = λ e. subst (λ (es : List Event). All IsLater es) (take_all c.loop-event.event-index c.args.events.now c.loop-event-test.false) c.loop-event.invariant
