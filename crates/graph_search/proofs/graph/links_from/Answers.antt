use Rattle.std.proofs.Common.{◌≡◌, ℕ, ◌+◌, ◌-◌, ◌<◌, ◌≤◌, get_or, arith}
use Rattle.std.proofs.lemmas.List.{get_or_read}
use Rattle.graph_search.specs.declared.graph.Graph.{Graph}
use Rattle.graph_search.specs.Graphs.{IsGraph}
use Rattle.graph_search.specs.Searches.{at}
use Rattle.graph_search.proofs.GraphLaws.{starts_rise, from_part}
use Rattle.graph_search.proofs.graph.links_from.Goals as goal

-- what is read of the starts
record Read (g : Graph) (node a b : ℕ) : Type 0 where
  first : a ≡ at g.starts.items node
  last : b ≡ at g.starts.items (node + 1)
  rise : a ≤ b

read : (g : Graph) (node a b : ℕ) → node + 1 < g.starts.len → IsGraph (g.starts.len - 1) g → a ≡ get_or g.starts.items node a →
    b ≡ get_or g.starts.items (node + 1) b → Read g node a b
read g node a b inside graph e f =
    let first : a ≡ at g.starts.items node = get_or_read g.starts.items node a (omega (arith, g.starts.ok.0)) e 0 in
    let last : b ≡ at g.starts.items (node + 1) = get_or_read g.starts.items (node + 1) b (omega (arith, g.starts.ok.0)) f 0 in
    let up = starts_rise (g.starts.len - 1) node g.links.items g.starts.items graph.starts (omega arith) in
    record { first = first; last = last; rise = omega arith }

pub slice_bounds-result-count : goal.slice_bounds-result-count
slice_bounds-result-count c =
    (read c.args.graph.now c.args.node c.index.result.now c.index-2.result.now c.requires.node c.requires.graph c.index.ensures c.index-2.ensures).rise

pub slice_bounds-result-start : goal.slice_bounds-result-start
slice_bounds-result-start c =
    (read c.args.graph.now c.args.node c.index.result.now c.index-2.result.now c.requires.node c.requires.graph c.index.ensures c.index-2.ensures).rise

pub slice_bounds-result-end : goal.slice_bounds-result-end
slice_bounds-result-end c =
    let g = c.args.graph.now in
    let r = read g c.args.node c.index.result.now c.index-2.result.now c.requires.node c.requires.graph c.index.ensures c.index-2.ensures in
    omega (
      arith,
      r.last,
      c.requires.node,
      c.requires.graph.starts.within (c.args.node + 1) (omega (arith, c.requires.node)),
      c.deref.ensures.value,
      c.deref.ensures.len,
      g.links.ok.0,
    )

pub returns : goal.returns
returns c =
    let g = c.args.graph.now in
    let r = read g c.args.node c.index.result.now c.index-2.result.now c.requires.node c.requires.graph c.index.ensures c.index-2.ensures in
    rw (r.first, r.last, c.deref.ensures.value)
    (from_part (g.starts.len - 1) c.args.node g.links.items g.starts.items c.requires.graph.starts (omega (arith, c.requires.node)))
