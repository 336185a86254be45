-- No call has more than three events.
use Rattle.std.proofs.Common.{◌≤◌, length, subst, sym, List}
use Rattle.run_record.specs.declared.event.Event.{Event}
use Rattle.entry_calls.proofs.Few.{few}
use Rattle.entry_calls.proofs.announcing.events_of.Goals as goal

pub returns-clause-few : goal.returns-clause-few
returns-clause-few c = subst (λ (es : List Event). length es ≤ 3) (sym c.announced.ensures) (few c.args.call.now c.args.outcome.now)
