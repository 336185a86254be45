use Rattle.std.proofs.Common.{[], refl, inl, arith}
use Rattle.run_record.specs.declared.finished.GuestEnd.TheVariants.{AllEnded}
use Rattle.run_laws.specs.Labels.{labels, queue}
use Rattle.run_laws.specs.Clocks.{clocks}
use Rattle.run_laws.specs.Faithful.{AtOnce}
use Rattle.run_laws.specs.Scripts.{scripted}
use Rattle.run_laws.specs.Rows.{granule_in, at_once, at_once_scripts, no_rules, three_instructions}
use Rattle.run_laws.proofs.RoundTests.{lawful-true}
use Rattle.run_laws.proofs.ShowLaw.{shows}
use Rattle.run_laws.proofs.rows.channel_shared_at_once.Goals as goal

pub returns : goal.returns
unfolding labels queue clocks
returns c =
    shows AtOnce three_instructions [] at_once_scripts at_once no_rules _ (omega arith) (omega arith) (omega arith)
    (lawful-true AtOnce three_instructions [] (scripted at_once_scripts) granule_in at_once 3 refl refl refl refl AllEnded (inl refl)) refl
