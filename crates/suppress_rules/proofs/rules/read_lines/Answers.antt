use Rattle.std.proofs.Common.{◌≡◌, ◌+◌, ◌≤◌, ◌∙◌, [], ◌∷◌, ◌++◌, sym, ap, length, Ok, Some, None, option_map, arith, inr}
use Rattle.std.proofs.lemmas.Result.{err_from_is_err_and}
use Rattle.suppress_rules.specs.RuleFile as file
use Rattle.suppress_rules.proofs.FileLaws.{skips, adds, fails, below_shorter, shown}
use Rattle.suppress_rules.proofs.rules.read_lines.Goals as goal

pub returns-in_err-kind-clause-refused : goal.returns-in_err-kind-clause-refused
returns-in_err-kind-clause-refused c =
    let p = err_from_is_err_and c.from_residual.result c.from_residual.ensures.1 in
    rw (p.1, p.2) (inr (sym
    (fails (c.loop-rest.number + 1) c.loop-rest.rules c.in_err-kind.field-0.0 c.loop-rest.rest.now c.trimmed.result.now c.first_line.result.1.now
    (c.trimmed.ensures ∙ ap file.trimmed c.first_line.ensures.line) c.first_line.ensures.below c.in_err-kind.ensures
    ∙ c.loop-rest.invariant.0)))

pub loop-rest-preserved-in_ok-push : goal.loop-rest-preserved-in_ok-push
loop-rest-preserved-in_ok-push c =
    let shorter : length c.first_line.result.1.now + 1 ≤ length c.loop-rest.rest.now = below_shorter c.loop-rest.rest.now c.first_line.result.1.now c.first_line.ensures.below (sym c.is_empty.ensures ∙ c.loop-rest-test.true) in
    let told : file.rule_in (c.loop-rest.number + 1) c.trimmed.result.now ≡ Ok (Some (record { kind = c.in-Some.kind; pattern = c.in-Some.pattern.now })) = c.in_ok-kind.ensures ∙ ap (λ f. Ok (option_map shown f)) c.in-Some.is in
    let grown : c.push.new.self ≡ c.loop-rest.rules ++ record { kind = c.in-Some.kind; pattern = c.in-Some.pattern.now } ∷ [] =
    c.in_ok-push.ensures.ok ∙ ap (λ p. c.loop-rest.rules ++ record { kind = c.in-Some.kind; pattern = p } ∷ []) (c.from_vec-pattern.ensures ∙ c.in_ok-from_slice.ensures.items) in (
      adds (c.loop-rest.number + 1) c.loop-rest.rules c.push.new.self (record { kind = c.in-Some.kind; pattern = c.in-Some.pattern.now }) c.loop-rest.rest.now c.trimmed.result.now c.first_line.result.1.now
          (c.trimmed.ensures ∙ ap file.trimmed c.first_line.ensures.line) c.first_line.ensures.below told grown
          ∙ c.loop-rest.invariant.0,
      omega arith,
    )

pub loop-rest-preserved : goal.loop-rest-preserved
loop-rest-preserved c =
    let shorter : length c.first_line.result.1.now + 1 ≤ length c.loop-rest.rest.now = below_shorter c.loop-rest.rest.now c.first_line.result.1.now c.first_line.ensures.below (sym c.is_empty.ensures ∙ c.loop-rest-test.true) in
    let told : file.rule_in (c.loop-rest.number + 1) c.trimmed.result.now ≡ Ok None = c.in_ok-kind.ensures ∙ ap (λ f. Ok (option_map shown f)) c.in_default.is in (
      skips (c.loop-rest.number + 1) c.loop-rest.rules c.loop-rest.rest.now c.trimmed.result.now c.first_line.result.1.now
          (c.trimmed.ensures ∙ ap file.trimmed c.first_line.ensures.line) c.first_line.ensures.below told
          ∙ c.loop-rest.invariant.0,
      omega arith,
    )
