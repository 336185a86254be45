use Rattle.std.proofs.Common.{◌≡◌, ◌+◌, ◌<◌, ℕ, List, ◌∷◌, [], ◌++◌, length, arith, sym, ap, ◌∙◌, subst, Vec, Global}
use Rattle.std.specs.List.{All}
use Rattle.std.specs.List.Sorted.{IsPermutation}
use Rattle.std.proofs.lemmas.List.{take_all}
use Rattle.std.proofs.lemmas.List.Sorted.{All-permutation}
use Rattle.graph_search.specs.declared.graph.Link.{Link}
use Rattle.graph_search.specs.Graphs.{IsWithin, AreStarts, row_links}
use Rattle.graph_search.proofs.RowLaws.{AreFirst, first-more, first-all, row_links-more}
use Rattle.graph_search.proofs.graph.Graph.new.Goals as goal

pub loop-row-preserved : goal.loop-row-preserved
loop-row-preserved c =
    let n = c.loop-row.row-index in
    let rows = c.deref-row-items.result.now in
    let row = c.row-item.result in
    let links = c.loop-row.links.items in
    let starts = c.loop-row.starts.items in
    let inside : n < length rows = omega arith in
    let rs = rw (sym c.deref-row-items.ensures.value) at c.in_ok-rows.ensures.own in
    let small : n < c.args.nodes = omega (arith, c.in_ok-rows.ensures.size, ap (length {A = Vec Link Global}) c.deref-row-items.ensures.value) in
    let own : All (λ (l : Link). l.from ≡ n) row.items =
    subst (λ (v : Vec Link Global). All (λ (l : Link). l.from ≡ n) v.items) (sym c.row-item.is) (rs n row small) in
    let here : c.extend_from_slice.new.self.items ≡ links ++ row.items =
    c.in_ok-extend_from_slice.ensures.items ∙ ap (λ (xs : List Link). links ++ xs) c.deref-in-loop-row.ensures.value in
    let count : c.len.result ≡ length links = omega (arith, c.len.ensures, c.loop-row.links.ok.0) in
    let starting : c.push.new.self.items ≡ starts ++ length links ∷ [] = c.in_ok-push.ensures.items ∙ ap (λ (m : ℕ). starts ++ m ∷ []) count in
    record {
      first = subst (λ (xs : List Link). AreFirst (n + 1) xs c.push.new.self.items) (sym here)
          (subst (λ (ss : List ℕ). AreFirst (n + 1) (links ++ row.items) ss) (sym starting)
          (first-more n links row.items starts c.loop-row.invariant.first own));
      is = here ∙ (ap (λ (xs : List Link). xs ++ row.items) c.loop-row.invariant.is ∙ sym (row_links-more rows n row inside c.row-item.is));
    }

pub returns-clause-graph : goal.returns-clause-graph
returns-clause-graph c =
    let n = c.loop-row.row-index in
    let rows = c.deref-row-items.result.now in
    let links = c.loop-row.links.items in
    let starts = c.loop-row.starts.items in
    let nodes = c.args.nodes in
    let size : length rows ≡ nodes = ap (length {A = Vec Link Global}) c.deref-row-items.ensures.value ∙ c.in_ok-rows.ensures.size in
    let last : n ≡ nodes = omega arith in
    let all : links ≡ row_links c.in_ok-rows.rows.items =
    c.loop-row.invariant.is ∙ (ap row_links (take_all n rows (omega arith)) ∙ ap row_links c.deref-row-items.ensures.value) in
    let same : IsPermutation c.args.links.items links =
    subst (IsPermutation c.args.links.items) (sym all) (subst (λ (xs : List Link). IsPermutation xs (row_links c.in_ok-rows.rows.items)) c.deref.ensures.value
    c.in_ok-rows.ensures.same) in
    let count : c.len-2.result ≡ length links = omega (arith, c.len-2.ensures, c.loop-row.links.ok.0) in
    let starting : c.push-2.new.self.items ≡ starts ++ length links ∷ [] = c.in_ok-push-2.ensures.items ∙ ap (λ (m : ℕ). starts ++ m ∷ []) count in
    record {
      within = All-permutation (IsWithin nodes) c.args.links.items links same c.requires.within;
      starts = subst (AreStarts nodes links) (sym starting) (first-all nodes n links starts last c.loop-row.invariant.first);
    }
