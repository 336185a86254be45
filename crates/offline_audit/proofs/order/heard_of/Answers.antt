use Rattle.std.proofs.Common.{◌≡◌, ◌<◌, ◌↔◌, ℕ, List, [], Option, Some, None, sym, ap, ◌∙◌, subst}
use Rattle.std.specs.Prelude.{unwrap_or}
use Rattle.std.specs.BTreeMap.{BTreeMap}
use Rattle.offline_audit.specs.declared.heard.Step.{Step}
use Rattle.offline_audit.specs.Heard.{TellBy, AreRising, steps_of}
use Rattle.offline_audit.specs.Known.{steps_between}
use Rattle.offline_audit.proofs.order.heard_of.Goals as goal

pub returns-in-Some-get : goal.returns-in-Some-get
returns-in-Some-get c =
    let outer = sym c.in-Some.ensures.value in
    let inner = sym c.in-Some-get.ensures.value in
    let same : steps_between c.args.threads.now c.args.tid c.args.other ≡ c.in-Some-get.steps.now =
    ap (λ (o : Option (BTreeMap ℕ (List Step))). elim o [ None ↦ [] | Some heard ↦ steps_of heard c.args.other ]) outer
    ∙ ap (λ (o : Option (List Step)). unwrap_or o []) inner in
    subst (λ (steps : List Step). AreRising steps → (x : ℕ) → (x < c.known_by.result) ↔ TellBy steps c.args.at x) (sym same)
    (rw c.as_slice.ensures at c.known_by.ensures)
