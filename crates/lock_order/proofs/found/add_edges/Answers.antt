use Rattle.std.proofs.Common.{◌≡◌, ℕ, suc, ◌+◌, ◌&&◌, ◌==◌, false, Option, Some, None, cond, List, ◌<◌, arith, length, get_or, sym, ap, ◌∙◌, subst}
use Rattle.std.specs.BTreeMap.{BTreeMap}
use Rattle.std.proofs.lemmas.List.{get_or_default, take_all}
use Rattle.kept_locks.specs.declared.held.Held.{Held}
use Rattle.kept_locks.specs.Held.{locks_by}
use Rattle.lock_order.specs.Found.{first_by, or_else}
use Rattle.lock_order.specs.Edges.{taker_by}
use Rattle.run_laws.specs.Moments.{Does}
use Rattle.run_record.specs.declared.event.Event.TheVariants.{Lock}
use Rattle.lock_order.proofs.EdgeLaws.{with_first, edge_of_other, edge_to_itself, edge_of_own}
use Rattle.lock_order.proofs.found.add_edges.Goals as goal
use Rattle.lock_order.proofs.found.add_edges.Goals.{then-keeper-tid+then-lock-to+in_ok-add_edge, else-keeper-tid, else-keeper-tid-via-then-keeper-tid+else-lock-to, else-keeper-tid-via-else-keeper-tid}

abbrev nobody : Held
nobody = record { tid = 0; lock = record { addr = 0; read = false } }

pub loop-keeper-preserved : goal.loop-keeper-preserved
loop-keeper-preserved c = λ x y read.
    let held = c.args.held.now in
    let k = c.loop-keeper.keeper-index in
    let h : Held = get_or held k nobody in
    let before = first_by c.args.found.now x y in
    let l : k < length held = omega arith in
    let is : h ≡ get_or held k h = get_or_default held k nobody h l in
    let next : k + 1 ≡ suc k = omega arith in
    subst (λ (n : ℕ). first_by c.if-keeper-tid.found x y ≡ or_else before (with_first held n c.args.tid c.args.to read x y)) (sym next)
    (elim c.if-keeper-tid.branch [
      | then-keeper-tid+then-lock-to+in_ok-add_edge w ↦
          ap (λ (found : BTreeMap (ℕ × ℕ) ℕ). first_by found x y) w.found-is ∙ (w.in_ok-add_edge.ensures x y
          ∙ (ap (λ (o : Option ℕ). or_else o (cond ((h.lock.addr == x) && (c.args.to == y)) (Some c.args.tid) None)) (c.loop-keeper.invariant x y read)
          ∙ edge_of_own held k c.args.tid c.args.to read x y h before l is w.if-keeper-tid.true w.if-lock-to.true))
      | else-keeper-tid w ↦ elim w.else-keeper-tid.branch [
        | else-keeper-tid-via-then-keeper-tid+else-lock-to v ↦
            ap (λ (found : BTreeMap (ℕ × ℕ) ℕ). first_by found x y) w.found-is ∙ (c.loop-keeper.invariant x y read
            ∙ edge_to_itself held k c.args.tid c.args.to read x y h before l is v.if-keeper-tid.true v.if-lock-to.false)
        | else-keeper-tid-via-else-keeper-tid v ↦
            ap (λ (found : BTreeMap (ℕ × ℕ) ℕ). first_by found x y) w.found-is ∙ (c.loop-keeper.invariant x y read
            ∙ edge_of_other held k c.args.tid c.args.to read x y h before l is v.if-keeper-tid.false)
      ]
    ])

pub returns : goal.returns
returns c = λ x y read.
    c.loop-keeper.invariant x y read
    ∙ ap (λ (held : List Held). or_else (first_by c.args.found.now x y) (taker_by (locks_by held) (Does c.args.tid (Lock c.args.to read)) x y))
    (take_all c.loop-keeper.keeper-index c.args.held.now c.loop-keeper-test.false)
