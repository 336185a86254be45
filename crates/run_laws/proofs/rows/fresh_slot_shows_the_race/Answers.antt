use Rattle.std.proofs.Common.{refl, inl, arith}
use Rattle.run_record.specs.declared.finished.GuestEnd.TheVariants.{AllEnded}
use Rattle.run_laws.specs.Labels.{labels, queue}
use Rattle.run_laws.specs.Clocks.{clocks}
use Rattle.run_laws.specs.Faithful.{OneByOne}
use Rattle.run_laws.specs.Scripts.{scripted}
use Rattle.run_laws.specs.Rows.{granule_in, fresh_slot, no_rules, three_turns, two_children_scripts, two_harts}
use Rattle.run_laws.proofs.RoundTests.{lawful-true}
use Rattle.run_laws.proofs.ShowLaw.{shows}
use Rattle.run_laws.proofs.rows.fresh_slot_shows_the_race.Goals as goal

pub returns : goal.returns
unfolding labels queue clocks
returns c =
    shows OneByOne two_harts three_turns two_children_scripts fresh_slot no_rules _ (omega arith) (omega arith) (omega arith)
    (lawful-true OneByOne two_harts three_turns (scripted two_children_scripts) granule_in fresh_slot 4 refl refl refl refl AllEnded (inl refl)) refl
