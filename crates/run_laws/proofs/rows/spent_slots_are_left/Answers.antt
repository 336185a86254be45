use Rattle.std.proofs.Common.{[], refl, inl, arith}
use Rattle.run_record.specs.declared.finished.GuestEnd.TheVariants.{AllEnded}
use Rattle.run_laws.specs.Labels.{labels, queue}
use Rattle.run_laws.specs.Clocks.{clocks}
use Rattle.run_laws.specs.Faithful.{OneByOne}
use Rattle.run_laws.specs.Scripts.{scripted}
use Rattle.run_laws.specs.Rows.{granule_in, no_rules, spent_slots, spent_slots_scripts, two_epochs}
use Rattle.run_laws.proofs.RoundTests.{lawful-true}
use Rattle.run_laws.proofs.ShowLaw.{shows}
use Rattle.run_laws.proofs.rows.spent_slots_are_left.Goals as goal

pub returns : goal.returns
unfolding labels queue clocks
returns c =
    shows OneByOne two_epochs [] spent_slots_scripts spent_slots no_rules _ (omega arith) (omega arith) (omega arith)
    (lawful-true OneByOne two_epochs [] (scripted spent_slots_scripts) granule_in spent_slots 1 refl refl refl refl AllEnded (inl refl)) refl
