use Rattle.std.proofs.Common.{◌-◌, map, get_or, arith}
use Rattle.std.proofs.lemmas.List.Elements.{All-contains, Contains-get_or}
use Rattle.graph_search.specs.Graphs.{IsWithin, turn}
use Rattle.graph_search.proofs.KnotLaws.{gathers-more, last_gathered}
use Rattle.graph_search.proofs.knot.gather.Goals as goal

pub links_from-requires-clause-node : goal.links_from-requires-clause-node
links_from-requires-clause-node c =
    let links = map turn c.args.back.now.links.items in
    let g = rw c.in-Some.ensures.items at c.loop-node.invariant in
    let inside = last_gathered links c.args.root c.in-Some.node c.args.placed.now.items c.args.knots.now.items c.loop-node.placed.items c.loop-node.knots.items
    c.pop.new.self.items g in
    omega (arith, inside, c.requires.size, c.args.placed.now.ok.0)

pub place-requires-clause-within : goal.place-requires-clause-within
place-requires-clause-within c = λ k d inside.
    let own = c.links_from.result.now in
    let nodes = c.args.back.now.starts.len - 1 in
    let l = get_or own k d in
    let within : IsWithin nodes l =
    All-contains (IsWithin nodes) c.args.back.now.links.items l c.requires.graph.within (c.links_from.ensures.each l (Contains-get_or own k d inside)) in
    omega (arith, within.to, c.requires.size, c.args.placed.now.ok.0, c.loop-node.placed.ok.0, c.loop-node.invariant.size)

pub loop-node-preserved : goal.loop-node-preserved
loop-node-preserved c =
    let g = rw c.in-Some.ensures.items at c.loop-node.invariant in
    gathers-more c.args.back.now.links.items c.links_from.result.now c.args.root c.in-Some.node c.args.placed.now.items c.args.knots.now.items
    c.loop-node.placed.items c.loop-node.knots.items c.pop.new.self.items c.place.new.placed.items c.place.new.knots.items c.place.new.ahead.items
    c.links_from.ensures g c.in_ok-place.ensures
