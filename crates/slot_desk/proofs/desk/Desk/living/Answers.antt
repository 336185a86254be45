use Rattle.std.proofs.Common.{◌∙◌}
use Rattle.std.proofs.lemmas.List.{length-map}
use Rattle.slot_desk.specs.Threads.{shown}
use Rattle.slot_desk.specs.contracts.desk.Desk.{the_view}
use Rattle.slot_desk.proofs.LivesLaws.{living_counted}
use Rattle.slot_desk.proofs.desk.Desk.living.Goals as goal

pub returns-clause-counted : goal.returns-clause-counted
returns-clause-counted c = rw (← c.self.view_is) (c.self.invariant.0.counted ∙ living_counted (the_view c.self.inside) c.self.invariant.0.unmade)

pub returns-clause-few : goal.returns-clause-few
returns-clause-few c = rw (← c.self.view_is) c.self.invariant.0.few_live

pub returns-clause-kept : goal.returns-clause-kept
returns-clause-kept c = rw (← c.self.view_is) (length-map c.self.inside.threads.items (shown c.self.inside.era) ∙ c.self.invariant.0.all_threads)
