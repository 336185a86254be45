use Rattle.std.proofs.Common.{subst}
use Rattle.std.specs.Prelude.{Option}
use Rattle.run_record.specs.declared.merged.Choice.{Choice}
use Rattle.run_record.specs.Merging.{IsChosenBelow}
use Rattle.run_record.proofs.MergeLaws.{chosen_still}
use Rattle.run_record.proofs.merged.choice_with.Goals as goal

pub returns-else-precedes : goal.returns-else-precedes
returns-else-precedes c = λ rests was first.
    let before = subst (λ (choice : Option Choice). IsChosenBelow rests c.args.index choice) c.in-Some.is was in
    chosen_still rests c.args.index c.in-Some.before c.args.head c.least.result before first c.least.ensures.upto c.least.ensures.limit
    (c.least.ensures.one c.in-Some.before.head c.if-precedes.ensures.no before.upto)
