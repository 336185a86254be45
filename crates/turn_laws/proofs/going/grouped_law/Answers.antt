use Rattle.turn_laws.proofs.GroupedLaw.{grouped-push, of_events-push}
use Rattle.turn_laws.proofs.going.grouped_law.Goals as goal

pub returns-clause-grouped : goal.returns-clause-grouped
returns-clause-grouped c = grouped-push

pub returns-clause-of_events : goal.returns-clause-of_events
returns-clause-of_events c = of_events-push
