use Rattle.std.proofs.Common.{◌≡◌, ◌+◌, ◌<◌, List, ◌∷◌, [], ◌++◌, length, take, get_or, arith, sym, subst}
use Rattle.std.proofs.lemmas.List.{take_more}
use Rattle.graph_search.specs.declared.graph.Link.{Link}
use Rattle.lock_order.specs.Knots.{AreRinged}
use Rattle.lock_order.proofs.RingLaws.{ringed-more, ringed-other}
use Rattle.lock_order.proofs.knot.ringed.Goals as goal
use Rattle.lock_order.proofs.knot.ringed.Goals.{then-knots-link, else-knots-link}

pub loop-link-preserved : goal.loop-link-preserved
loop-link-preserved c =
    let links = c.args.links.now in
    let knots = c.args.knots.now in
    let k = c.loop-link.link-index in
    let nothing : Link = record { from = 0; to = 0 } in
    let link : Link = get_or links k nothing in
    let inside : k < length links = omega arith in
    let ringed = c.loop-link.ringed.items in
    let known = c.loop-link.invariant in
    let ends = c.requires.within k nothing inside in
    let e : take (k + 1) links ≡ take k links ++ link ∷ [] = take_more links k nothing inside in
    subst (λ (ls : List Link). AreRinged ls knots c.if-knots-link.ringed.items) (sym e)
    (elim c.if-knots-link.branch [
      | then-knots-link w ↦
          rw w.ringed-is
          (ringed-more (take k links) link knots ringed known w.if-knots-link.true (omega (arith, known.size, c.requires.numbers link.to 0 ends.to)))
      | else-knots-link w ↦
          rw w.ringed-is
          (ringed-other (take k links) link knots ringed known w.if-knots-link.false)
    ])
