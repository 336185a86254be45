use Rattle.std.proofs.Common.{[], refl, inl, arith}
use Rattle.run_record.specs.declared.finished.GuestEnd.TheVariants.{AllEnded}
use Rattle.run_laws.specs.Labels.{labels, queue}
use Rattle.run_laws.specs.Clocks.{clocks}
use Rattle.run_laws.specs.Faithful.{OneByOne}
use Rattle.run_laws.specs.Scripts.{scripted}
use Rattle.run_laws.specs.Rows.{granule_in, no_rules, taken_back, taken_back_scripts, usual}
use Rattle.run_laws.proofs.RoundTests.{lawful-true}
use Rattle.run_laws.proofs.ShowLaw.{shows}
use Rattle.run_laws.proofs.rows.store_without_release_ends_a_channel.Goals as goal

pub returns : goal.returns
unfolding labels queue clocks
returns c =
    shows OneByOne usual [] taken_back_scripts taken_back no_rules _ (omega arith) (omega arith) (omega arith)
    (lawful-true OneByOne usual [] (scripted taken_back_scripts) granule_in taken_back 2 refl refl refl refl AllEnded (inl refl)) refl
