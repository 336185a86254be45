use Rattle.std.proofs.Common.{◌≡◌, ℕ, suc, ◌-◌, ◌<◌, [], List, Bool, false, length, map, arith, sym, ap, ◌∙◌, subst}
use Rattle.std.specs.List.Sorted.{IsPermutation}
use Rattle.std.proofs.lemmas.List.{get_or_read}
use Rattle.std.proofs.lemmas.List.Elements.{Contains-get_or}
use Rattle.std.proofs.lemmas.List.Sorted.{Contains-permutation, IsPermutation-sym}
use Rattle.graph_search.specs.declared.graph.Link.{Link}
use Rattle.graph_search.specs.Graphs.{turn}
use Rattle.graph_search.specs.Searches.{at}
use Rattle.graph_search.specs.Descents.{flag, IsFinishing}
use Rattle.graph_search.specs.Gatherings.{Gathers, KnowsKnots}
use Rattle.graph_search.proofs.GraphLaws.{contains-turned, contains-turn}
use Rattle.graph_search.proofs.KnotLaws.{gathers-among, knows-there, knows-more, knows-end}
use Rattle.graph_search.proofs.knot.knots.Goals as goal

-- of the links turned round twice
gathered : (links others : List Link) (root : ℕ) (placed : List Bool) (knots : List ℕ) (placed' : List Bool) (knots' : List ℕ) →
    IsPermutation (map turn links) others → Gathers (map turn others) root placed knots placed' knots' [] → Gathers links root placed knots placed' knots' []
gathered links others root placed knots placed' knots' p g = gathers-among links (map turn others) root placed knots placed' knots'
    (λ l c. contains-turn links (turn l)
    (Contains-permutation others (map turn links) (turn l) (IsPermutation-sym (map turn links) others p) (contains-turn others l c)))
    (λ l c. contains-turned others (turn l) (Contains-permutation (map turn links) others (turn l) p (contains-turned links l c))) g

node_inside : (links : List Link) (nodes : ℕ) (done : List ℕ) (n node : ℕ) → IsFinishing links nodes done → n < length done → node ≡ at done n → node < nodes
node_inside links nodes done n node f inside e = omega (arith, e, f.within (at done n) (Contains-get_or done n 0 inside))

pub index-requires : goal.index-requires
index-requires c =
    let done = c.in_ok-done.done.items in
    let n = c.loop-index.index - 1 in
    let inside : n < length done = omega (arith, c.loop-index.auto, c.loop-index-test.true, c.len-index.ensures, c.in_ok-done.done.ok.0) in
    let e = get_or_read done n c.index-node.result.now inside c.index-node.ensures 0 in
    let small = node_inside c.args.graph.now.links.items (c.args.graph.now.starts.len - 1) done n c.index-node.result.now c.in_ok-done.ensures inside e in
    omega (arith, small, c.loop-index.invariant.size, c.loop-index.placed.ok.0, c.len-nodes.ensures)

pub gather-requires-clause-root : goal.gather-requires-clause-root
gather-requires-clause-root c =
    let done = c.in_ok-done.done.items in
    let n = c.loop-index.index - 1 in
    let inside : n < length done = omega (arith, c.loop-index.auto, c.loop-index-test.true, c.len-index.ensures, c.in_ok-done.done.ok.0) in
    let e = get_or_read done n c.index-node.result.now inside c.index-node.ensures 0 in
    let small = node_inside c.args.graph.now.links.items (c.args.graph.now.starts.len - 1) done n c.index-node.result.now c.in_ok-done.ensures inside e in
    omega (arith, small, c.loop-index.invariant.size, c.loop-index.placed.ok.0, c.len-nodes.ensures)

pub loop-index-preserved-in-Continue-branch-5 : goal.loop-index-preserved-in-Continue-branch-5
loop-index-preserved-in-Continue-branch-5 c =
    let links = c.args.graph.now.links.items in
    let nodes = c.len-nodes.result - 1 in
    let done = c.in_ok-done.done.items in
    let n = c.loop-index.index - 1 in
    let node = c.index-node.result.now in
    let placed = c.loop-index.placed.items in
    let knots = c.loop-index.knots.items in
    let inside : n < length done = omega (arith, c.loop-index.auto, c.loop-index-test.true, c.len-index.ensures, c.in_ok-done.done.ok.0) in
    let e : node ≡ at done n = get_or_read done n node inside c.index-node.ensures 0 in
    let next : c.loop-index.index ≡ suc n = omega (arith, c.loop-index-test.true) in
    let same : c.args.graph.now.starts.len - 1 ≡ nodes = omega (arith, c.len-nodes.ensures) in
    let f : IsFinishing links nodes done = subst (λ (m : ℕ). IsFinishing links m done) same c.in_ok-done.ensures in
    let k : KnowsKnots links nodes done (suc n) placed knots = subst (λ (m : ℕ). KnowsKnots links nodes done m placed knots) next c.loop-index.invariant in
    let small = node_inside links nodes done n node f inside e in
    let was : c.index.result.now ≡ flag placed node = get_or_read placed node c.index.result.now (omega (arith, k.size)) c.index.ensures false in
    let free : flag placed (at done n) ≡ false = ap (flag placed) (sym e) ∙ (sym was ∙ c.if-not-index.true) in
    let g : Gathers links node placed knots c.gather.new.placed.items c.gather.new.knots.items [] =
    gathered links c.in_ok-back.back.links.items node placed knots c.gather.new.placed.items c.gather.new.knots.items c.in_ok-back.ensures.same
    c.in_ok-gather.ensures in
    knows-more links nodes done n placed knots c.gather.new.placed.items c.gather.new.knots.items f inside k free
    (subst (λ (m : ℕ). Gathers links m placed knots c.gather.new.placed.items c.gather.new.knots.items []) e g)

pub loop-index-preserved : goal.loop-index-preserved
loop-index-preserved c =
    let links = c.args.graph.now.links.items in
    let nodes = c.len-nodes.result - 1 in
    let done = c.in_ok-done.done.items in
    let n = c.loop-index.index - 1 in
    let node = c.index-node.result.now in
    let placed = c.loop-index.placed.items in
    let knots = c.loop-index.knots.items in
    let inside : n < length done = omega (arith, c.loop-index.auto, c.loop-index-test.true, c.len-index.ensures, c.in_ok-done.done.ok.0) in
    let e : node ≡ at done n = get_or_read done n node inside c.index-node.ensures 0 in
    let next : c.loop-index.index ≡ suc n = omega (arith, c.loop-index-test.true) in
    let same : c.args.graph.now.starts.len - 1 ≡ nodes = omega (arith, c.len-nodes.ensures) in
    let f : IsFinishing links nodes done = subst (λ (m : ℕ). IsFinishing links m done) same c.in_ok-done.ensures in
    let k : KnowsKnots links nodes done (suc n) placed knots = subst (λ (m : ℕ). KnowsKnots links nodes done m placed knots) next c.loop-index.invariant in
    let small = node_inside links nodes done n node f inside e in
    let was : c.index.result.now ≡ flag placed node = get_or_read placed node c.index.result.now (omega (arith, k.size)) c.index.ensures false in
    knows-there links nodes done n placed knots k (ap (flag placed) (sym e) ∙ (sym was ∙ c.if-not-index.false))

pub returns-clause-knots : goal.returns-clause-knots
returns-clause-knots c =
    let links = c.args.graph.now.links.items in
    let nodes = c.len-nodes.result - 1 in
    let done = c.in_ok-done.done.items in
    let same : c.args.graph.now.starts.len - 1 ≡ nodes = omega (arith, c.len-nodes.ensures) in
    let none : c.loop-index.index ≡ 0 = omega (arith, c.loop-index-test.false) in
    knows-end links nodes done c.loop-index.placed.items c.loop-index.knots.items (subst (λ (m : ℕ). IsFinishing links m done) same c.in_ok-done.ensures)
    (subst (λ (m : ℕ). KnowsKnots links nodes done m c.loop-index.placed.items c.loop-index.knots.items) none c.loop-index.invariant)
