use Rattle.std.proofs.Common.{rules, arith, ◌≡◌, ◌≤◌, ap, ◌∙◌}
use Rattle.run_record.specs.declared.limits.Limits.{Limits}
use Rattle.shared_table.proofs.tests.turns_follow.Goals as goal

pub round-requires-clause-can : goal.round-requires-clause-can
round-requires-clause-can g c κs k d l =
    let t = c.in_ok-shared.ensures.table in
    let cell = c.in_ok-workers.ensures k d l in
    let granules = t.laid_out.granules in
    let some : 1 ≤ c.in_ok-shared.shared.layout.granules = search rules in
    let slots : c.in_ok-shared.shared.layout.limits.slots ≡ 255 = ap (λ (z : Limits). z.slots) t.laid_out.same_limits ∙ search rules in
    (omega arith, omega arith)
