use Rattle.std.proofs.Common.{◌≤◌, [], ◌∷◌, ◌++◌, sym, subst, ap, ◌∙◌, arith, rules}
use Rattle.trace_parts.specs.Held.{HeldTrace, Holds, standing_of}
use Rattle.trace_parts.specs.Spelling.{told}
use Rattle.trace_parts.proofs.HoldLaws.{holds-push, standing-pushed}
use Rattle.trace_parts.proofs.trace.Trace.push.Goals as goal

pub returns-clause-pushed : goal.returns-clause-pushed
returns-clause-pushed c = search rules

pub returns-clause-holds : goal.returns-clause-holds
returns-clause-holds c =
    λ events holds.
    let e = told c.args.event in
    let one : 1 ≤ c.args.self.now.parts = omega (arith, ap (λ (t : HeldTrace). t.parts) c.self.view_is, c.self.invariant.0.least_parts) in
    subst (λ (t : HeldTrace). Holds t (events ++ e ∷ [])) (sym (returns-clause-pushed c)) (holds-push c.args.self.now events e one holds)

pub returns-clause-standing : goal.returns-clause-standing
returns-clause-standing c =
    let e = told c.args.event in
    let one : 1 ≤ c.args.self.now.parts = omega (arith, ap (λ (t : HeldTrace). t.parts) c.self.view_is, c.self.invariant.0.least_parts) in
    ap (λ (t : HeldTrace). standing_of t.held) (returns-clause-pushed c) ∙ standing-pushed c.args.self.now e one
