use Rattle.std.proofs.Common.{◌≡◌, ◌∷◌, [], ◌++◌, List, length, ap, sym, ◌∙◌, append_assoc, arith}
use Rattle.std.specs.Vec.Iter.{into_iter_items}
use Rattle.hart_workers.proofs.Taking.{taken_more}
use Rattle.hart_workers.proofs.crew.Crew.take_back.Goals as goal

along : {X : Type 0} (early : List X) (x : X) (late before all : List X) → before ≡ x ∷ late → early ++ before ≡ all → (early ++ x ∷ []) ++ late ≡ all
along early x late before all e h = append_assoc early (x ∷ []) late ∙ (ap (λ (z : List _). early ++ z) (sym e) ∙ h)

pub loop-worker-preserved : goal.loop-worker-preserved
loop-worker-preserved g c =
    let steps = c.in-Some.ensures.steps in
    let short = ap length steps.0 in
    let was = c.loop-worker.invariant.2 in
    let less = steps.1 in (
      taken_more _ _ _ c.in-Some.worker _ _ _ _ _ _ _ c.in_ok-one.one c.loop-worker.invariant.0 _ c.in_ok-one.ensures,
      along c.loop-worker.yielded c.in-Some.worker (into_iter_items c.next.new.self) (into_iter_items c.loop-worker.worker-iterator) _ steps.0
          c.loop-worker.invariant.1,
      omega (arith, short, was, less),
    )
