use Rattle.std.proofs.Common.{[], refl, inl, arith}
use Rattle.run_record.specs.declared.finished.GuestEnd.TheVariants.{AllEnded}
use Rattle.run_laws.specs.Labels.{labels, queue}
use Rattle.run_laws.specs.Clocks.{clocks}
use Rattle.run_laws.specs.Faithful.{OneByOne}
use Rattle.run_laws.specs.Scripts.{scripted}
use Rattle.run_laws.specs.Rows.{granule_in, no_rules, usual}
use Rattle.run_laws.specs.ChannelRows.{twice_locked, twice_locked_scripts}
use Rattle.run_laws.proofs.RoundTests.{lawful-true}
use Rattle.run_laws.proofs.ShowLaw.{shows}
use Rattle.run_laws.proofs.channel_rows.last_equal_lock_goes.Goals as goal

pub returns : goal.returns
unfolding labels queue clocks
returns c =
    shows OneByOne usual [] twice_locked_scripts twice_locked no_rules _ (omega arith) (omega arith) (omega arith)
    (lawful-true OneByOne usual [] (scripted twice_locked_scripts) granule_in twice_locked 2 refl refl refl refl AllEnded (inl refl)) refl
