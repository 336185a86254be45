use Rattle.std.proofs.Common.{[], refl, inl, arith}
use Rattle.run_record.specs.declared.finished.GuestEnd.TheVariants.{AllEnded}
use Rattle.run_laws.specs.Labels.{labels, queue}
use Rattle.run_laws.specs.Clocks.{clocks}
use Rattle.run_laws.specs.Faithful.{OneByOne}
use Rattle.run_laws.specs.Scripts.{scripted}
use Rattle.run_laws.specs.Rows.{granule_in, no_rules, same_race_twice, same_race_twice_scripts, usual}
use Rattle.run_laws.proofs.RoundTests.{lawful-true}
use Rattle.run_laws.proofs.ShowLaw.{shows}
use Rattle.run_laws.proofs.rows.equal_reports_are_counted.Goals as goal

pub returns : goal.returns
unfolding labels queue clocks
returns c =
    shows OneByOne usual [] same_race_twice_scripts same_race_twice no_rules _ (omega arith) (omega arith) (omega arith)
    (lawful-true OneByOne usual [] (scripted same_race_twice_scripts) granule_in same_race_twice 3 refl refl refl refl AllEnded (inl refl)) refl
