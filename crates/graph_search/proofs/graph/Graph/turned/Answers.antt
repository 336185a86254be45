use Rattle.std.proofs.Common.{◌≡◌, ℕ, ◌-◌, List, map, arith, sym, ap, ◌∙◌, subst}
use Rattle.std.specs.List.{All}
use Rattle.graph_search.specs.declared.graph.Link.{Link}
use Rattle.graph_search.specs.Graphs.{IsWithin, turn}
use Rattle.graph_search.proofs.GraphLaws.{turned_within}
use Rattle.graph_search.proofs.graph.Graph.turned.Goals as goal

pub new-requires : goal.new-requires
new-requires c =
    let g = c.args.self.now in
    let links = g.links.items in
    let size : g.starts.len - 1 ≡ c.len.result - 1 = omega (arith, c.len.ensures) in
    record {
      within = subst (λ (n : ℕ). All (IsWithin n) c.in_ok-links.links.items) size
          (subst (λ (xs : List Link). All (IsWithin (g.starts.len - 1)) xs) (sym (c.in_ok-links.ensures ∙ ap (map turn) c.deref.ensures.value))
          (turned_within (g.starts.len - 1) links c.requires.graph.within));
    }
