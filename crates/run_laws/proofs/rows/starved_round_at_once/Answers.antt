use Rattle.std.proofs.Common.{[], refl, inl, arith}
use Rattle.run_record.specs.declared.finished.GuestEnd.TheVariants.{AllEnded}
use Rattle.run_laws.specs.Labels.{labels, queue}
use Rattle.run_laws.specs.Clocks.{clocks}
use Rattle.run_laws.specs.Faithful.{AtOnce}
use Rattle.run_laws.specs.Scripts.{scripted}
use Rattle.run_laws.specs.Rows.{granule_in, no_rules, starved_at_once, starved_scripts, thirty_instructions}
use Rattle.run_laws.proofs.RoundTests.{lawful-true}
use Rattle.run_laws.proofs.ShowLaw.{shows}
use Rattle.run_laws.proofs.rows.starved_round_at_once.Goals as goal

pub returns : goal.returns
unfolding labels queue clocks
returns c =
    shows AtOnce thirty_instructions [] starved_scripts starved_at_once no_rules _ (omega arith) (omega arith) (omega arith)
    (lawful-true AtOnce thirty_instructions [] (scripted starved_scripts) granule_in starved_at_once 3 refl refl refl refl AllEnded (inl refl)) refl
