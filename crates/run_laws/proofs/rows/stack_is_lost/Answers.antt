use Rattle.std.proofs.Common.{[], refl, inl, arith}
use lib.Count.{count_trailing_zeros, ones}
use Rattle.run_record.specs.declared.finished.GuestEnd.TheVariants.{AllEnded}
use Rattle.run_laws.specs.Labels.{labels, queue}
use Rattle.run_laws.specs.Clocks.{clocks}
use Rattle.run_laws.specs.Faithful.{OneByOne}
use Rattle.run_laws.specs.Scripts.{scripted}
use Rattle.run_laws.specs.Rows.{granule_in, deep_stack, deep_stack_scripts, no_rules, small_trace}
use Rattle.run_laws.proofs.RoundTests.{lawful-true}
use Rattle.run_laws.proofs.ShowLaw.{shows}
use Rattle.run_laws.proofs.rows.stack_is_lost.Goals as goal

pub returns : goal.returns
unfolding labels queue clocks count_trailing_zeros ones
returns c =
    shows OneByOne small_trace [] (deep_stack_scripts 63) (deep_stack 63) no_rules _ (omega arith) (omega arith) (omega arith)
    (lawful-true OneByOne small_trace [] (scripted (deep_stack_scripts 63)) granule_in (deep_stack 63) 2 refl refl refl refl AllEnded (inl refl)) refl
