use Rattle.std.proofs.Common.{◌≡◌, ◌-◌, length, Some}
use Rattle.std.specs.Prelude.{slice_get}
use Rattle.std.proofs.lemmas.Bool.{OnTrue_from}
use Rattle.offline_audit.proofs.GroupLaw.{chain_on}
use Rattle.offline_audit.proofs.group.goes_on.Goals as goal

pub returns-in-Some-clause-chain : goal.returns-in-Some-clause-chain
returns-in-Some-clause-chain c =
    let names = c.args.group.now.names in
    let last = c.in-Some.last.now in
    let is : Some last ≡ slice_get names (length names - 1) = rw c.as_slice.ensures at c.in-Some.ensures.value in
    OnTrue_from c.precedes.result _ (λ t h entries order event chain.
    chain_on h entries names last c.args.made.now.name is (λ known. (c.precedes.ensures h entries order known event).0 t) event chain)
