use Rattle.std.proofs.Common.{refl, inl, arith}
use Rattle.run_record.specs.declared.finished.GuestEnd.TheVariants.{AllEnded}
use Rattle.run_laws.specs.Labels.{labels, queue}
use Rattle.run_laws.specs.Clocks.{clocks}
use Rattle.run_laws.specs.Faithful.{OneByOne}
use Rattle.run_laws.specs.Scripts.{scripted}
use Rattle.run_laws.specs.Rows.{granule_in, no_rules, starved, starved_scripts, two_of_each, two_turns}
use Rattle.run_laws.proofs.RoundTests.{lawful-true}
use Rattle.run_laws.proofs.ShowLaw.{shows}
use Rattle.run_laws.proofs.rows.starved_round_begins_an_era.Goals as goal

pub returns : goal.returns
unfolding labels queue clocks
returns c =
    shows OneByOne two_of_each two_turns starved_scripts starved no_rules _ (omega arith) (omega arith) (omega arith)
    (lawful-true OneByOne two_of_each two_turns (scripted starved_scripts) granule_in starved 4 refl refl refl refl AllEnded (inl refl)) refl
