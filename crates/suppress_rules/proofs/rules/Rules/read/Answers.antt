use Rattle.std.proofs.Common.{◌≡◌, ◌⊎◌, ◌∙◌, sym, subst, inr, IfOk, IfErr, List, Result, Ok, Err}
use Rattle.suppress_rules.specs.declared.rule.Rule.{Rule}
use Rattle.suppress_rules.specs.declared.fault.RuleFault.{RuleFault}
use Rattle.suppress_rules.specs.declared.fault.RuleFault.TheVariants.{NoMemory}
use Rattle.suppress_rules.proofs.FileLaws.{of_text, of_no_text}
use Rattle.suppress_rules.proofs.rules.Rules.read.Goals as goal

pub returns-in-Ok-clause-read : goal.returns-in-Ok-clause-read
returns-in-Ok-clause-read c =
    let e = of_text c.args.bytes.now c.as_bytes.result.now (c.as_bytes.ensures.value ∙ c.in-Ok.ensures.cases.0) c.in-Ok.ensures.cases.1 in
    subst (λ (r : Result (List Rule) RuleFault). IfOk c.read_lines.result (λ rules. r ≡ Ok rules)) (sym e) c.read_lines.ensures.read

pub returns-in-Ok-clause-refused : goal.returns-in-Ok-clause-refused
returns-in-Ok-clause-refused c =
    let e = of_text c.args.bytes.now c.as_bytes.result.now (c.as_bytes.ensures.value ∙ c.in-Ok.ensures.cases.0) c.in-Ok.ensures.cases.1 in
    subst (λ (r : Result (List Rule) RuleFault). IfErr c.read_lines.result (λ fault. (fault ≡ NoMemory) ⊎ (r ≡ Err fault))) (sym e) c.read_lines.ensures.refused

pub returns-in-Err-clause-refused : goal.returns-in-Err-clause-refused
returns-in-Err-clause-refused c = inr (of_no_text c.args.bytes.now c.in-Err.ensures.cases.0)
