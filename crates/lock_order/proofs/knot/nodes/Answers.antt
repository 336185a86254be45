use Rattle.std.proofs.Common.{◌≡◌, ℕ, ◌+◌, List, ◌∷◌, [], ◌++◌, take, get_or, eqb, sym, ap, ◌∙◌, subst}
use Rattle.std.specs.List.{Contains}
use Rattle.std.proofs.lemmas.List.{take_more, take_all}
use Rattle.std.proofs.lemmas.List.Filters.{dedup_is}
use Rattle.lock_order.specs.declared.edge.Edge.{Edge}
use Rattle.lock_order.specs.Knots.{AreNodes}
use Rattle.lock_order.proofs.NodeLaws.{more_from, more_to, nodes_sorted}
use Rattle.lock_order.proofs.knot.nodes.Goals as goal

abbrev nothing : Edge
nothing = record { from = 0; to = 0; tid = 0 }

pub loop-edge-preserved : goal.loop-edge-preserved
loop-edge-preserved c =
    let es = c.args.edges.now in
    let k = c.loop-edge.edge-index in
    let d : Edge = get_or es k nothing in
    let more : take (k + 1) es ≡ take k es ++ d ∷ [] = take_more es k nothing c.loop-edge-test.true in
    let is : c.push-in-loop-edge.new.self.items ≡ (c.loop-edge.nodes.items ++ d.from ∷ []) ++ d.to ∷ [] =
    c.in_ok-push-2.ensures.items ∙ ap (λ (ns : List ℕ). ns ++ d.to ∷ []) c.in_ok-push.ensures.items in
    record {
      from = λ e there. subst (λ (ns : List ℕ). Contains ns e.from) (sym is)
          (more_from (take k es) d c.loop-edge.nodes.items c.loop-edge.invariant.from e (subst (λ (ls : List Edge). Contains ls e) more there));
      to = λ e there. subst (λ (ns : List ℕ). Contains ns e.to) (sym is)
          (more_to (take k es) d c.loop-edge.nodes.items c.loop-edge.invariant.to e (subst (λ (ls : List Edge). Contains ls e) more there));
    }

pub returns : goal.returns
returns c =
    let es = c.args.edges.now in
    let all = take_all c.loop-edge.edge-index es c.loop-edge-test.false in
    let f = subst (λ (ls : List Edge). (e : Edge) → Contains ls e → Contains c.loop-edge.nodes.items e.from) all c.loop-edge.invariant.from in
    let t = subst (λ (ls : List Edge). (e : Edge) → Contains ls e → Contains c.loop-edge.nodes.items e.to) all c.loop-edge.invariant.to in
    subst (AreNodes es) (sym (dedup_is eqb c.sort_unstable.new.self.items c.dedup.new.self.items c.dedup.ensures.filtered))
    (nodes_sorted es c.loop-edge.nodes.items c.sort_unstable.new.self.items f t c.sort_unstable.ensures.permutation c.sort_unstable.ensures.sorted)
