use Rattle.std.proofs.Common.{[], refl, inl}
use Rattle.run_record.specs.declared.finished.GuestEnd.TheVariants.{AllEnded}
use Rattle.run_laws.specs.Labels.{labels, queue}
use Rattle.run_laws.specs.Faithful.{OneByOne}
use Rattle.run_laws.specs.Rows.{granule_in}
use Rattle.run_laws.proofs.RoundTests.{lawful-true}
use Rattle.one_history.specs.Hidden.{one_slot, two_releases, hidden, left_late, left_early}
use Rattle.one_history.proofs.hidden_objects.Goals as goal

pub returns-clause-late : goal.returns-clause-late
unfolding labels queue
returns-clause-late c = lawful-true OneByOne one_slot [] (hidden two_releases) granule_in left_late 1 refl refl refl refl AllEnded (inl refl)

pub returns-clause-early : goal.returns-clause-early
unfolding labels queue
returns-clause-early c = lawful-true OneByOne one_slot [] (hidden two_releases) granule_in left_early 2 refl refl refl refl AllEnded (inl refl)

pub returns-clause-differ : goal.returns-clause-differ
returns-clause-differ c = λ q. cc
