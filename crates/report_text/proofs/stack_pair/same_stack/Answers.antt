use Rattle.std.proofs.Common.{◌∙◌, ◌==◌, sym}
use Rattle.std.specs.Cmp.Lexicographic.{pointwise}
use Rattle.run_laws.specs.Reports.{same_stack}
use Rattle.report_text.proofs.StackLaws.{pointwise_places}
use Rattle.report_text.proofs.stack_pair.same_stack.Goals as goal

pub returns-in-Some-Some : goal.returns-in-Some-Some
returns-in-Some-Some c =
    c.eq.ensures ∙ (λ i. pointwise ◌==◌ (c.as_slice.ensures i) (c.as_slice-in-Some-Some.ensures i))
    ∙ pointwise_places c.in-Some-Some.one c.in-Some-Some.other
    ∙ sym (λ i. same_stack (c.in-Some-Some.is-0 i) (c.in-Some-Some.is-1 i))
