use Rattle.std.proofs.Common.{◌≡◌, ℕ, suc, ◌+◌, ◌-◌, ◌<◌, List, length, get_or, arith, ap, subst}
use Rattle.std.specs.List.{All}
use Rattle.std.proofs.lemmas.List.{get_or_read}
use Rattle.std.proofs.lemmas.List.Elements.{All-contains, Contains-get_or}
use Rattle.graph_search.specs.declared.graph.Link.{Link}
use Rattle.graph_search.specs.Graphs.{IsWithin, AreFrom}
use Rattle.graph_search.specs.Searches.{Spreads, Searches, at}
use Rattle.graph_search.proofs.SearchLaws.{searches-begin, searches-more, searches-end, at_inside}
use Rattle.graph_search.proofs.search.distances.Goals as goal

all_within : (nodes a size : ℕ) (links own : List Link) → AreFrom links a own → All (IsWithin nodes) links → size ≡ nodes → All (λ (l : Link). l.to < size) own
all_within nodes a size links own o w e = λ k d inside.
    let l = get_or own k d in
    let inner : IsWithin nodes l = All-contains (IsWithin nodes) links l w (o.each l (Contains-get_or own k d inside)) in
    omega (arith, inner.to)

pub spread-requires-clause-within : goal.spread-requires-clause-within
spread-requires-clause-within c =
    all_within (c.args.graph.now.starts.len - 1) c.args.from c.in_ok-distances.distances.len c.args.graph.now.links.items c.links_from.result.now
    c.links_from.ensures
    c.requires.graph.within (omega (arith, c.in_ok-distances.ensures.len, c.len.ensures))

pub loop-head-init : goal.loop-head-init
loop-head-init c =
    let is = c.in_ok-distances.ensures.items_if_clones_equal (λ y e. e) in
    let s = rw (is, c.new-queue.ensures.items) at c.in_ok-spread.ensures in
    record {
      search = searches-begin c.args.graph.now.links.items c.links_from.result.now c.args.from (c.len.result - 1) c.spread.new.distances.items
          c.spread.new.queue.items c.links_from.ensures s;
      size = omega (
        arith,
        c.in_ok-spread.ensures.size,
        c.in_ok-distances.ensures.len,
        c.in_ok-distances.distances.ok.0,
        c.len.ensures,
        c.args.graph.now.starts.ok.0,
        c.requires.node,
      );
    }

pub returns-then-head-len-clause-distances : goal.returns-then-head-len-clause-distances
returns-then-head-len-clause-distances c =
    searches-end c.args.graph.now.links.items c.args.from c.loop-head.head c.loop-head.distances.items c.loop-head.queue.items c.loop-head.invariant.search
    (omega (arith, c.if-head-len.true, c.len-in-loop-head.ensures, c.loop-head.queue.ok.0))

pub index-requires : goal.index-requires
index-requires c =
    let s = c.loop-head.invariant.search in
    let queue = c.loop-head.queue.items in
    let inside : c.loop-head.head < length queue = omega (arith, s.within, c.if-head-len.false, c.len-in-loop-head.ensures, c.loop-head.queue.ok.0) in
    let is : c.index-node.result.now ≡ at queue c.loop-head.head = get_or_read queue c.loop-head.head c.index-node.result.now inside c.index-node.ensures 0 in
    rw is (omega (arith, at_inside c.loop-head.distances.items (at queue c.loop-head.head) (s.reached c.loop-head.head inside), c.loop-head.distances.ok.0))

pub overflow_add-next : goal.overflow_add-next
overflow_add-next c =
    let s = c.loop-head.invariant.search in
    let ds = c.loop-head.distances.items in
    let queue = c.loop-head.queue.items in
    let inside : c.loop-head.head < length queue = omega (arith, s.within, c.if-head-len.false, c.len-in-loop-head.ensures, c.loop-head.queue.ok.0) in
    let is : c.index-node.result.now ≡ at queue c.loop-head.head = get_or_read queue c.loop-head.head c.index-node.result.now inside c.index-node.ensures 0 in
    let here : at queue c.loop-head.head < length ds = at_inside ds (at queue c.loop-head.head) (s.reached c.loop-head.head inside) in
    let value : c.index.result.now ≡ at ds c.index-node.result.now =
    get_or_read ds c.index-node.result.now c.index.result.now (omega arith) c.index.ensures 0 in
    let same : at ds c.index-node.result.now ≡ at ds (at queue c.loop-head.head) = ap (at ds) is in
    omega (arith, s.short c.loop-head.head inside, c.loop-head.queue.small, c.loop-head.queue.ok.0)

pub links_from-requires-in-loop-head-clause-node :
    goal.links_from-requires-in-loop-head-clause-node
links_from-requires-in-loop-head-clause-node c =
    let s = c.loop-head.invariant.search in
    let ds = c.loop-head.distances.items in
    let queue = c.loop-head.queue.items in
    let inside : c.loop-head.head < length queue = omega (arith, s.within, c.if-head-len.false, c.len-in-loop-head.ensures, c.loop-head.queue.ok.0) in
    let is : c.index-node.result.now ≡ at queue c.loop-head.head = get_or_read queue c.loop-head.head c.index-node.result.now inside c.index-node.ensures 0 in
    let here : at queue c.loop-head.head < length ds = at_inside ds (at queue c.loop-head.head) (s.reached c.loop-head.head inside) in
    omega (arith, c.loop-head.invariant.size, c.args.graph.now.starts.ok.0)

pub spread-requires-in-loop-head-clause-within : goal.spread-requires-in-loop-head-clause-within
spread-requires-in-loop-head-clause-within c =
    all_within (c.args.graph.now.starts.len - 1) c.index-node.result.now c.loop-head.distances.len c.args.graph.now.links.items
    c.links_from-in-loop-head.result.now c.links_from-in-loop-head.ensures
    c.requires.graph.within (omega (arith, c.loop-head.invariant.size, c.loop-head.distances.ok.0, c.args.graph.now.starts.ok.0))

pub loop-head-preserved : goal.loop-head-preserved
loop-head-preserved c =
    let s = c.loop-head.invariant.search in
    let ds = c.loop-head.distances.items in
    let queue = c.loop-head.queue.items in
    let head = c.loop-head.head in
    let inside : head < length queue = omega (arith, s.within, c.if-head-len.false, c.len-in-loop-head.ensures, c.loop-head.queue.ok.0) in
    let is : c.index-node.result.now ≡ at queue head = get_or_read queue head c.index-node.result.now inside c.index-node.ensures 0 in
    let here : at queue head < length ds = at_inside ds (at queue head) (s.reached head inside) in
    let value : c.index.result.now ≡ at ds c.index-node.result.now =
    get_or_read ds c.index-node.result.now c.index.result.now (omega arith) c.index.ensures 0 in
    let next : c.index.result.now + 1 ≡ suc (at ds (at queue head)) = omega (arith, ap (at ds) is) in
    let links = c.args.graph.now.links.items in
    let own = c.links_from-in-loop-head.result.now in
    let after : suc head ≡ head + 1 = omega arith in
    record {
      search = subst (λ (n : ℕ). Searches links c.args.from n c.spread-in-loop-head.new.distances.items c.spread-in-loop-head.new.queue.items) after
          (searches-more links own c.args.from head ds queue c.spread-in-loop-head.new.distances.items c.spread-in-loop-head.new.queue.items inside
          (subst (λ (n : ℕ). AreFrom links n own) is c.links_from-in-loop-head.ensures) s
          (subst (λ (n : ℕ). Spreads own n ds queue c.spread-in-loop-head.new.distances.items c.spread-in-loop-head.new.queue.items) next
          c.in_ok-spread-2.ensures));
      size = omega (arith, c.in_ok-spread-2.ensures.size, c.loop-head.invariant.size);
    }

pub returns-clause-distances : goal.returns-clause-distances
returns-clause-distances c =
    searches-end c.args.graph.now.links.items c.args.from c.loop-head.head c.loop-head.distances.items c.loop-head.queue.items c.loop-head.invariant.search
    (omega (
      arith,
      c.loop-head.invariant.search.count,
      c.loop-head.invariant.size,
      c.in_ok-spread.ensures.size,
      c.in_ok-distances.ensures.len,
      c.in_ok-distances.distances.ok.0,
      c.len.ensures,
      c.len-head-end.ensures,
      c.spread.new.distances.ok.0,
      c.args.graph.now.starts.ok.0,
    ))
