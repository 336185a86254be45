use Rattle.std.proofs.Common.{◌≡◌, ◌+◌, ◌<◌, List, ◌∷◌, [], ◌++◌, length, take, get_or, arith, sym, ◌∙◌, subst, false}
use Rattle.std.proofs.lemmas.List.{take_more, get_or_read}
use Rattle.graph_search.specs.declared.graph.Link.{Link}
use Rattle.graph_search.specs.Descents.{flag}
use Rattle.graph_search.specs.Gatherings.{Places}
use Rattle.graph_search.proofs.KnotLaws.{places-there, places-new}
use Rattle.graph_search.proofs.knot.place.Goals as goal
use Rattle.graph_search.proofs.knot.place.Goals.{then-not-index+in_ok-push, else-not-index}

pub loop-link-preserved : goal.loop-link-preserved
loop-link-preserved c =
    let links = c.args.links.now in
    let k = c.loop-link.link-index in
    let nothing : Link = record { from = 0; to = 0 } in
    let link : Link = get_or links k nothing in
    let inside : k < length links = omega arith in
    let placed = c.loop-link.placed.items in
    let knots = c.loop-link.knots.items in
    let known = c.loop-link.invariant in
    let long : link.to < length placed = omega (arith, c.requires.within k nothing inside, known.size, c.args.placed.now.ok.0, c.loop-link.placed.ok.0) in
    let same : link.to < length knots = omega (arith, c.requires.size, known.long, c.args.knots.now.ok.0, c.args.placed.now.ok.0, known.size) in
    let has : c.index.result.now ≡ flag placed link.to = get_or_read placed link.to c.index.result.now long c.index.ensures false in
    let e : take (k + 1) links ≡ take k links ++ link ∷ [] = take_more links k nothing inside in
    subst (λ (ls : List Link). Places ls c.args.root c.args.placed.now.items c.args.knots.now.items c.args.ahead.now.items c.if-not-index.placed.items
    c.if-not-index.knots.items c.if-not-index.ahead.items) (sym e)
    (elim c.if-not-index.branch [
      | then-not-index+in_ok-push w ↦
          rw (w.placed-is, w.knots-is, w.ahead-is, w.in_ok-push.ensures.items)
          (places-new (take k links) link c.args.root c.args.placed.now.items c.args.knots.now.items c.args.ahead.now.items placed knots c.loop-link.ahead.items
          known (sym has ∙ w.if-not-index.true) long same)
      | else-not-index w ↦
          rw (w.placed-is, w.knots-is, w.ahead-is)
          (places-there (take k links) link c.args.root c.args.placed.now.items c.args.knots.now.items c.args.ahead.now.items placed knots
          c.loop-link.ahead.items
          known (sym has ∙ w.if-not-index.false))
    ])
