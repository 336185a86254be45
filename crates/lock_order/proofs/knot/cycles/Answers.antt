use Rattle.std.proofs.Common.{◌≡◌, ℕ, suc, ◌+◌, ◌<◌, List, ◌∷◌, [], ◌++◌, length, set, get_or, Bool, Vec, Global, false, arith, sym, ap, ◌∙◌, subst}
use Rattle.std.specs.List.{All}
use Rattle.std.proofs.lemmas.List.{get_or_read}
use Rattle.graph_search.specs.declared.graph.Link.{Link}
use Rattle.graph_search.specs.Graphs.{IsWithin}
use Rattle.graph_search.specs.Searches.{at}
use Rattle.graph_search.specs.Knots.{AreKnots}
use Rattle.graph_search.specs.Descents.{flag}
use Rattle.lock_order.specs.declared.edge.Edge.{Edge}
use Rattle.lock_order.specs.declared.cycle.Cycle.{Cycle}
use Rattle.lock_order.specs.Cycles.{AreCycles, IsCycleAt}
use Rattle.lock_order.specs.Knots.{AreLinks, AreRinged, KnowsKnots}
use Rattle.lock_order.proofs.NodeLaws.{links_within, whole_graph, back_left}
use Rattle.lock_order.proofs.NumberLaws.{links-again, numbered, ring_leads, ring_all}
use Rattle.lock_order.proofs.KnownKnots.{knots-begin, knots-passed, knots-more, knots-end}
use Rattle.lock_order.proofs.knot.cycles.Goals as goal
use Rattle.lock_order.proofs.knot.cycles.Goals.{then-index+in_ok-left+in_ok-cycle_at+in_ok-push, else-index}

-- what is read of the numbers, and of those that wait
read : (links : List Link) (nodes knots : List ℕ) (waits : List Bool) (node knot : ℕ) (b : Bool) → length waits ≡ length nodes → length knots ≡ length nodes →
    AreKnots links knots → node < length nodes → knot ≡ get_or knots node knot → b ≡ get_or waits knot b →
    (knot ≡ at knots node) × (b ≡ flag waits (at knots node))
read links nodes knots waits node knot b size long ks inside e f =
    let is : knot ≡ at knots node = get_or_read knots node knot (omega arith) e 0 in
    let was : b ≡ flag waits knot = get_or_read waits knot b (omega (arith, ks.within node (omega arith))) f false in
    (is, was ∙ ap (flag waits) is)

pub new-requires : goal.new-requires
new-requires c =
    let es = c.as_slice-edges.result.now in
    let nodes = c.in_ok-nodes.nodes.items in
    let links = c.in_ok-links.links.items in
    let ls : AreLinks es nodes links = subst (λ (ns : List ℕ). AreLinks es ns links) c.deref.ensures.value c.in_ok-links.ensures in
    let size : length nodes ≡ c.len.result = omega (arith, c.len.ensures, c.in_ok-nodes.nodes.ok.0) in
    record { within = subst (λ (n : ℕ). All (IsWithin n) links) size (links_within es nodes links ls) }

pub turned-requires : goal.turned-requires
turned-requires c = record { graph = whole_graph c.len.result c.in_ok-forth.forth c.in_ok-forth.ensures.graph }

pub loop-node-init : goal.loop-node-init
loop-node-init c =
    let es = c.as_slice-edges.result.now in
    let nodes = c.in_ok-nodes.nodes.items in
    let links = c.in_ok-links.links.items in
    let forth = c.in_ok-forth.forth.links.items in
    let knots = c.in_ok-knots.knots.items in
    let waits = c.in_ok-waits.waits.items in
    let ls : AreLinks es nodes links = subst (λ (ns : List ℕ). AreLinks es ns links) c.deref.ensures.value c.in_ok-links.ensures in
    let fs = links-again es nodes links forth ls c.in_ok-forth.ensures.same in
    let rising = c.in_ok-nodes.ensures.rising in
    let size : length knots ≡ length nodes =
    omega (
      arith,
      c.in_ok-knots.ensures.len,
      c.in_ok-knots.knots.ok.0,
      c.in_ok-forth.ensures.graph.starts.size,
      c.in_ok-forth.forth.starts.ok.0,
      c.len.ensures,
      c.in_ok-nodes.nodes.ok.0,
    ) in
    let ks = c.in_ok-knots.ensures.knots in
    let ring : AreRinged forth knots waits = rw (c.deref-2.ensures.value, c.deref-3.ensures.value) at c.in_ok-waits.ensures in
    subst (λ (cs : List Cycle). KnowsKnots es nodes knots 0 waits cs) (sym c.new-cycles.ensures)
    (knots-begin es nodes knots waits (ring.size ∙ size) (λ v l t. ring_leads es nodes forth fs rising knots size ks waits v ring l t)
    (λ v l r. ring_all es nodes forth fs rising knots size ks waits v ring l r))

pub cycle_at-requires-clause-left : goal.cycle_at-requires-clause-left
cycle_at-requires-clause-left c =
    let es = c.as_slice-edges.result.now in
    let nodes = c.in_ok-nodes.nodes.items in
    let links = c.in_ok-links.links.items in
    let forth = c.in_ok-forth.forth.links.items in
    let ls : AreLinks es nodes links = subst (λ (ns : List ℕ). AreLinks es ns links) c.deref.ensures.value c.in_ok-links.ensures in
    let fs = links-again es nodes links forth ls c.in_ok-forth.ensures.same in
    let inside : c.loop-node.node < length nodes = omega (arith, c.loop-node-test.true, c.len-node-end.ensures, c.in_ok-nodes.nodes.ok.0) in
    rw (c.deref-then-index.ensures.value, c.deref-then-index-2.ensures.value)
    (back_left es nodes forth c.in_ok-back.back.links.items c.in_ok-left.left.items c.loop-node.node fs c.in_ok-nodes.ensures.rising inside
    c.in_ok-back.ensures.same c.in_ok-left.ensures.distances)

pub cycle_at-requires-clause-around : goal.cycle_at-requires-clause-around
cycle_at-requires-clause-around c =
    let es = c.as_slice-edges.result.now in
    let nodes = c.in_ok-nodes.nodes.items in
    let links = c.in_ok-links.links.items in
    let forth = c.in_ok-forth.forth.links.items in
    let knots = c.in_ok-knots.knots.items in
    let node = c.loop-node.node in
    let waits = c.loop-node.waits.items in
    let left = c.in_ok-left.left.items in
    let ls : AreLinks es nodes links = subst (λ (ns : List ℕ). AreLinks es ns links) c.deref.ensures.value c.in_ok-links.ensures in
    let fs = links-again es nodes links forth ls c.in_ok-forth.ensures.same in
    let inside : node < length nodes = omega (arith, c.loop-node-test.true, c.len-node-end.ensures, c.in_ok-nodes.nodes.ok.0) in
    let far = back_left es nodes forth c.in_ok-back.back.links.items left node fs c.in_ok-nodes.ensures.rising inside c.in_ok-back.ensures.same
    c.in_ok-left.ensures.distances in
    let size : length knots ≡ length nodes =
    omega (
      arith,
      c.in_ok-knots.ensures.len,
      c.in_ok-knots.knots.ok.0,
      c.in_ok-forth.ensures.graph.starts.size,
      c.in_ok-forth.forth.starts.ok.0,
      c.len.ensures,
      c.in_ok-nodes.nodes.ok.0,
    ) in
    let r = read forth nodes knots waits node c.index-knot.result.now c.index.result.now c.loop-node.invariant.size size c.in_ok-knots.ensures.knots inside
    c.index-knot.ensures c.index.ensures in
    let way = c.loop-node.invariant.waiting node inside (sym r.1 ∙ c.if-index.true) in
    subst (λ (xs : List ℕ). 0 < at xs node) (sym c.deref-then-index-2.ensures.value) (far.least node way.way inside way.some way.leads).0

pub loop-node-preserved : goal.loop-node-preserved
loop-node-preserved c =
    let es = c.as_slice-edges.result.now in
    let nodes = c.in_ok-nodes.nodes.items in
    let links = c.in_ok-links.links.items in
    let forth = c.in_ok-forth.forth.links.items in
    let knots = c.in_ok-knots.knots.items in
    let node = c.loop-node.node in
    let waits = c.loop-node.waits.items in
    let cs = c.loop-node.cycles in
    let known = c.loop-node.invariant in
    let ls : AreLinks es nodes links = subst (λ (ns : List ℕ). AreLinks es ns links) c.deref.ensures.value c.in_ok-links.ensures in
    let fs = links-again es nodes links forth ls c.in_ok-forth.ensures.same in
    let inside : node < length nodes = omega (arith, c.loop-node-test.true, c.len-node-end.ensures, c.in_ok-nodes.nodes.ok.0) in
    let size : length knots ≡ length nodes =
    omega (
      arith,
      c.in_ok-knots.ensures.len,
      c.in_ok-knots.knots.ok.0,
      c.in_ok-forth.ensures.graph.starts.size,
      c.in_ok-forth.forth.starts.ok.0,
      c.len.ensures,
      c.in_ok-nodes.nodes.ok.0,
    ) in
    let r = read forth nodes knots waits node c.index-knot.result.now c.index.result.now c.loop-node.invariant.size size c.in_ok-knots.ensures.knots inside
    c.index-knot.ensures c.index.ensures in
    let numbers = numbered es nodes forth fs c.in_ok-nodes.ensures.rising knots size c.in_ok-knots.ensures.knots in
    let next : suc node ≡ node + 1 = omega arith in
    subst (λ (n : ℕ). KnowsKnots es nodes knots n c.if-index.waits.items c.if-index.cycles) next
    (elim c.if-index.branch [
      | then-index+in_ok-left+in_ok-cycle_at+in_ok-push w ↦
          let cycle = w.in_ok-cycle_at.field-0 in
          let round : IsCycleAt es (at nodes node) cycle.edges =
          subst (λ (ns : List ℕ). IsCycleAt es (at ns node) cycle.edges) w.deref-then-index.ensures.value w.in_ok-cycle_at.ensures in
          let waits_is : c.if-index.waits.items ≡ set waits (at knots node) false =
          ap (λ (v : Vec Bool Global). v.items) w.waits-is ∙ ap (λ (n : ℕ). set waits n false) r.0 in
          let cycles_is : c.if-index.cycles ≡ cs ++ cycle ∷ [] = w.cycles-is ∙ w.in_ok-push.ensures.ok in
          rw (waits_is, cycles_is) (knots-more es nodes knots node waits cs c.in_ok-nodes.ensures inside numbers known (sym r.1 ∙ w.if-index.true) cycle round)
      | else-index w ↦
          let waits_is : c.if-index.waits.items ≡ waits = ap (λ (v : Vec Bool Global). v.items) w.waits-is in
          rw (waits_is, w.cycles-is) (knots-passed es nodes knots node waits cs c.in_ok-nodes.ensures inside numbers known (sym r.1 ∙ w.if-index.false))
    ])

pub returns : goal.returns
returns c =
    let es = c.as_slice-edges.result.now in
    let nodes = c.in_ok-nodes.nodes.items in
    subst (λ (ls : List Edge). AreCycles ls c.loop-node.cycles) c.as_slice-edges.ensures
    (knots-end es nodes c.in_ok-knots.knots.items c.loop-node.node c.loop-node.waits.items c.loop-node.cycles c.in_ok-nodes.ensures
    (omega (arith, c.loop-node-test.false, c.len-node-end.ensures, c.in_ok-nodes.nodes.ok.0)) c.loop-node.invariant)
