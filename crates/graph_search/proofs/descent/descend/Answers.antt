use Rattle.std.proofs.Common.{◌<◌, [], length, true, arith}
use Rattle.std.proofs.lemmas.List.{get_or-set_same}
use Rattle.graph_search.proofs.DescentLaws.{mark-kept, descent-on}
use Rattle.graph_search.proofs.descent.descend.Goals as goal

pub loop-node-init : goal.loop-node-init
loop-node-init c =
    let g = c.args.graph.now in
    let seen = c.args.seen.now.items in
    let inside : c.args.root < length seen = omega (arith, c.requires.root, c.args.seen.now.ok.0) in
    let way = rw c.new-way.ensures.items at c.in_ok-push.ensures.items in
    record {
      descent = rw way (descent-on g.links.items g.starts.items seen c.args.next.now.items [] c.args.done.now.items c.args.root c.requires.descent inside
          c.requires.unseen (λ i l. absurd (omega arith)));
      kept = λ v t. mark-kept seen c.args.root v t;
      root = get_or-set_same seen c.args.root true _ inside;
    }
