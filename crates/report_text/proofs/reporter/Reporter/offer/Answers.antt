use Rattle.std.proofs.Common.{[], ◌∷◌, ◌++◌, length, Some, None, ap, sym, ◌∙◌}
use Rattle.run_record.specs.declared.report.Report.{Report}
use Rattle.run_laws.specs.Reports.{Kept}
use Rattle.report_text.specs.declared.reporter.Offered.TheVariants.{Reported}
use Rattle.report_text.specs.declared.fates.Fate.TheVariants.{Told}
use Rattle.report_text.proofs.OfferLaws.{offered-equal, kept_after-equal, offered-new, kept_after-new, whole, length-push}
use Rattle.report_text.proofs.FateLaws.{fate_of_report, knows-met, knows-told}
use Rattle.report_text.proofs.reporter.Reporter.offer.Goals as goal

pub returns-in-Some-Told-clause-answer : goal.returns-in-Some-Told-clause-answer
returns-in-Some-Told-clause-answer g c =
    let rule_of = g.S.Suppressions.rule_met c.self.inside.rules.now in
    let before : Kept = record { reports = c.self.inside.reports; suppressed = c.self.inside.suppressed; equal = c.self.inside.equal } in
    let r : Report = record { mine = c.args.mine; previous = c.args.previous } in
    let told = fate_of_report rule_of before.reports _ c.self.invariant r _ _ c.take.ensures.value c.take-2.ensures.value (Some (Told c.in-Some-Told.number)) (sym c.fate_of.ensures ∙ c.in-Some-Told.is ∙ ap Some c.in-Some-Told.field-0-is) in
    rw (← c.self.view_is) (offered-equal rule_of before r told.0 _ told.1)

pub returns-in-Some-Told-clause-kept : goal.returns-in-Some-Told-clause-kept
returns-in-Some-Told-clause-kept g c =
    let rule_of = g.S.Suppressions.rule_met c.self.inside.rules.now in
    let before : Kept = record { reports = c.self.inside.reports; suppressed = c.self.inside.suppressed; equal = c.self.inside.equal } in
    let r : Report = record { mine = c.args.mine; previous = c.args.previous } in
    let told = fate_of_report rule_of before.reports _ c.self.invariant r _ _ c.take.ensures.value c.take-2.ensures.value (Some (Told c.in-Some-Told.number)) (sym c.fate_of.ensures ∙ c.in-Some-Told.is ∙ ap Some c.in-Some-Told.field-0-is) in
    rw (← c.self.view_is) (kept_after-equal rule_of before r told.0 _ told.1)

pub invariant_of-self-in-Some : goal.invariant_of-self-in-Some
invariant_of-self-in-Some g c =
    let rule_of = g.S.Suppressions.rule_met c.self.inside.rules.now in
    let absent = sym c.fate_of.ensures ∙ c.in-None.is in
    let met = sym c.rule_met.ensures ∙ c.in-Some.is in
    rw (c.add_fate.ensures, c.in_ok-reserve.ensures.entries) (knows-met rule_of (g.met.S.Suppressions.unordered c.self.inside.rules.now) c.self.inside.reports _ c.self.invariant _ absent _ met)

pub invariant_of-self-2 : goal.invariant_of-self-2
invariant_of-self-2 g c =
    let rule_of = g.S.Suppressions.rule_met c.self.inside.rules.now in
    let absent = sym c.fate_of.ensures ∙ c.in-None.is in
    let met = sym c.rule_met.ensures ∙ c.in_default.is in
    let count = c.len-number.ensures ∙ ap length c.in_ok-push.ensures.ok ∙ length-push c.self.inside.reports _ in
    rw (c.add_fate-2.ensures, c.in_ok-reserve.ensures.entries, c.in_ok-push.ensures.ok)
    (knows-told rule_of (g.met.S.Suppressions.unordered c.self.inside.rules.now) c.self.inside.reports _ c.self.invariant _ absent _ _ met
    (λ i. record { mine = c.in_ok-mine.ensures i; previous = c.in_ok-previous.ensures i }) count)

pub returns-clause-answer : goal.returns-clause-answer
returns-clause-answer g c =
    let rule_of = g.S.Suppressions.rule_met c.self.inside.rules.now in
    let before : Kept = record { reports = c.self.inside.reports; suppressed = c.self.inside.suppressed; equal = c.self.inside.equal } in
    let r : Report = record { mine = c.args.mine; previous = c.args.previous } in
    let absent = fate_of_report rule_of before.reports _ c.self.invariant r _ _ c.take.ensures.value c.take-2.ensures.value None (sym c.fate_of.ensures ∙ c.in-None.is) in
    let met = (λ i. rule_of (sym c.take.ensures.value i) (sym c.take-2.ensures.value i)) ∙ sym c.rule_met.ensures ∙ c.in_default.is in
    let count = c.len-number.ensures ∙ ap length c.in_ok-push.ensures.ok ∙ length-push c.self.inside.reports _ in
    ap Reported count ∙ rw (← c.self.view_is) (offered-new rule_of before r met absent)

pub returns-clause-kept : goal.returns-clause-kept
returns-clause-kept g c =
    let rule_of = g.S.Suppressions.rule_met c.self.inside.rules.now in
    let before : Kept = record { reports = c.self.inside.reports; suppressed = c.self.inside.suppressed; equal = c.self.inside.equal } in
    let r : Report = record { mine = c.args.mine; previous = c.args.previous } in
    let absent = fate_of_report rule_of before.reports _ c.self.invariant r _ _ c.take.ensures.value c.take-2.ensures.value None (sym c.fate_of.ensures ∙ c.in-None.is) in
    let met = (λ i. rule_of (sym c.take.ensures.value i) (sym c.take-2.ensures.value i)) ∙ sym c.rule_met.ensures ∙ c.in_default.is in
    let kept = kept_after-new rule_of before r met absent in
    let report = whole r _ _ (c.in_ok-mine.ensures ∙ c.take.ensures.value) (c.in_ok-previous.ensures ∙ c.take-2.ensures.value) in
    let reports = c.in_ok-push.ensures.ok ∙ ap (λ s. c.self.inside.reports ++ s ∷ []) report in
    ap (λ rs. record before { reports = rs }) reports ∙ rw (← c.self.view_is) kept
