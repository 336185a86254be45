-- Addresses as numbers, edges as links, and the graphs of these.
use Rattle.std.proofs.Common.{◌≡◌, ℕ, ◌-◌, ◌<◌, ◌≤◌, List, [], ◌∷◌, ◌++◌, length, map, get_or, ap, subst, inl, inr, arith, Err, eqb, Bool}
use Rattle.std.proofs.Common.{true, false, cond}
use Rattle.std.specs.List.{Contains, All, dedup}
use Rattle.std.specs.List.Sorted.{IsPermutation, IsBinarySearchResult, IsSorted}
use Rattle.std.specs.Ordering.{nat_cmp}
use Rattle.std.specs.declared.cmp.Ordering.TheVariants.{Less, Equal, Greater}
use Rattle.std.proofs.lemmas.Bool.{cases_order, cases_lt, le-ltb, eq-eqb}
use Rattle.std.proofs.lemmas.List.{length-map, get_or-map}
use Rattle.std.proofs.lemmas.List.Elements.{Contains-push, Contains-append_left, Contains-push_cases, Contains-get_or}
use Rattle.std.proofs.lemmas.List.Kept.{AllPairs-from_increasing, Contains-dedup_nat}
use Rattle.std.proofs.lemmas.List.Sorted.{Contains-permutation, IsPermutation-sym, searched}
use Rattle.std.proofs.lemmas.Map.Keys.{IsStrictlyIncreasing-dedup, Less-from_sorted}
use Rattle.graph_search.specs.declared.graph.Link.{Link}
use Rattle.graph_search.specs.declared.graph.Graph.{Graph}
use Rattle.graph_search.specs.Graphs.{IsWithin, IsGraph, turn}
use Rattle.graph_search.specs.Walks.{AreDistances}
use Rattle.graph_search.specs.Searches.{at}
use Rattle.lock_order.specs.declared.edge.Edge.{Edge}
use Rattle.lock_order.specs.Edges.{AreOrdered, pair_order, ends}
use Rattle.lock_order.specs.Knots.{AreRising, AreNodes, IsLink, AreLinks, AreLeft}
use Rattle.lock_order.proofs.WayLaws.{node_of, are_left}
use Rattle.graph_search.proofs.GraphLaws.{contains-turned, contains-turn}

-- an address that is there is found
pub not_missing : (nodes : List ℕ) (a i : ℕ) → AreRising nodes → Contains nodes a → IsBinarySearchResult (λ (y : ℕ). nat_cmp y a) nodes (Err i) → ⊥
not_missing nodes a i rising there result =
    let s = searched nodes a (Err i) result (λ j k le l. elim (cases_order j k) [
      | inl e ↦ omega (arith, ap (at nodes) e)
      | inr (inl less) ↦ omega (arith, rising j k less l)
      | inr (inr more) ↦ absurd (omega arith)
    ]) in
    let n = node_of nodes a there in
    elim (cases_lt n.0 i) [
      | inl b ↦ omega (arith, s.1 n.0 b, n.1.is)
      | inr b ↦ omega (arith, s.2 n.0 b n.1.inside, n.1.is)
    ]

-- after a sort, and with each number once
pub nodes_sorted : (es : List Edge) (all sorted : List ℕ) → ((e : Edge) → Contains es e → Contains all e.from) →
    ((e : Edge) → Contains es e → Contains all e.to) →
    IsPermutation all sorted → IsSorted nat_cmp sorted → AreNodes es (dedup eqb sorted)
nodes_sorted es all sorted from to p s = record {
  rising = λ i j less l. AllPairs-from_increasing (dedup eqb sorted) (IsStrictlyIncreasing-dedup sorted s) i j 0 less l;
  from = λ e c. Contains-dedup_nat sorted e.from (Contains-permutation all sorted e.from p (from e c));
  to = λ e c. Contains-dedup_nat sorted e.to (Contains-permutation all sorted e.to p (to e c));
}

pub more_from : (es : List Edge) (d : Edge) (nodes : List ℕ) → ((e : Edge) → Contains es e → Contains nodes e.from) → (e : Edge) → Contains (es ++ d ∷ []) e →
    Contains ((nodes ++ d.from ∷ []) ++ d.to ∷ []) e.from
more_from es d nodes f e c = elim (Contains-push_cases es d e c) [
  | inl b ↦ Contains-append_left (nodes ++ d.from ∷ []) (d.to ∷ []) e.from (Contains-append_left nodes (d.from ∷ []) e.from (f e b))
  | inr is ↦
      subst (λ (x : Edge). Contains ((nodes ++ d.from ∷ []) ++ d.to ∷ []) x.from) is
      (Contains-append_left (nodes ++ d.from ∷ []) (d.to ∷ []) d.from (Contains-push nodes d.from))
]

pub more_to : (es : List Edge) (d : Edge) (nodes : List ℕ) → ((e : Edge) → Contains es e → Contains nodes e.to) → (e : Edge) → Contains (es ++ d ∷ []) e →
    Contains ((nodes ++ d.from ∷ []) ++ d.to ∷ []) e.to
more_to es d nodes f e c = elim (Contains-push_cases es d e c) [
  | inl b ↦ Contains-append_left (nodes ++ d.from ∷ []) (d.to ∷ []) e.to (Contains-append_left nodes (d.from ∷ []) e.to (f e b))
  | inr is ↦ subst (λ (x : Edge). Contains ((nodes ++ d.from ∷ []) ++ d.to ∷ []) x.to) is (Contains-push (nodes ++ d.from ∷ []) d.to)
]

-- one more edge as a link
pub links-push : (es : List Edge) (nodes : List ℕ) (links : List Link) (e : Edge) (l : Link) → AreLinks es nodes links → IsLink nodes e l →
    AreLinks (es ++ e ∷ []) nodes (links ++ l ∷ [])
links-push es nodes links e l ls is = record {
  each = λ k c. elim (Contains-push_cases links l k c) [
    | inl b ↦ let r = ls.each k b in (r.0, Contains-append_left es (e ∷ []) r.0 r.1, r.2)
    | inr same ↦ (e, Contains-push es e, subst (IsLink nodes e) same is)
  ];
  all = λ d c. elim (Contains-push_cases es e d c) [
    | inl b ↦ let r = ls.all d b in (r.0, Contains-append_left links (l ∷ []) r.0 r.1, r.2)
    | inr same ↦ (l, Contains-push links l, subst (λ (x : Edge). IsLink nodes x l) same is)
  ];
}

not_less : (b : Bool) → cond b Equal Greater ≡ Less → ⊥
not_less true e = cc
not_less false e = cc

-- of two edges from one address the first has the lesser end
pub ends_rise : (es : List Edge) (i j : ℕ) (d : Edge) → AreOrdered es → i < j → j < length es → (get_or es i d).from ≡ (get_or es j d).from →
    (get_or es i d).to ≤ (get_or es j d).to
ends_rise es i j d ordered less l same =
    let o = Less-from_sorted pair_order (map ends es) i j (ends d) ordered less (omega (arith, length-map es ends)) in
    let e = get_or-map ends es i d (ends d) (omega arith) in
    let f = get_or-map ends es j d (ends d) l in
    let p : pair_order (ends (get_or es i d)) (ends (get_or es j d)) ≡ Less =
    subst (λ (q : ℕ × ℕ). pair_order (ends (get_or es i d)) q ≡ Less) f
    (subst (λ (q : ℕ × ℕ). pair_order q (get_or (map ends es) j (ends d)) ≡ Less) e o) in
    to_rise (get_or es i d).from (get_or es j d).from (get_or es i d).to (get_or es j d).to same p
  where
    to_rise : (a b x y : ℕ) → a ≡ b → pair_order (a, x) (b, y) ≡ Less → x ≤ y
    to_rise a b x y e o = elim (cases_lt y x) [
      | inl more ↦
          let k = le-ltb a b (omega arith) in
          let m = eq-eqb a b e in
          let n = le-ltb x y (omega arith) in
          let q = rw (k, m, n) at o in
          absurd (not_less (eqb x y) q)
      | inr up ↦ up
    ]

-- both ends of a link are numbers of addresses
pub links_within : (es : List Edge) (nodes : List ℕ) (links : List Link) → AreLinks es nodes links → All (IsWithin (length nodes)) links
links_within es nodes links ls = λ k d l.
    let r = ls.each (get_or links k d) (Contains-get_or links k d l) in
    record { from = r.2.from.inside; to = r.2.to.inside }

pub whole_graph : (n : ℕ) (g : Graph) → IsGraph n g → IsGraph (g.starts.len - 1) g
whole_graph n g is = subst (λ (m : ℕ). IsGraph m g) (omega (arith, is.starts.size, g.starts.ok.0)) is

-- distances in the graph of the turned links
pub back_left : (es : List Edge) (nodes : List ℕ) (links others : List Link) (left : List ℕ) (node : ℕ) → AreLinks es nodes links → AreRising nodes →
    node < length nodes → IsPermutation (map turn links) others → AreDistances others node left → AreLeft es nodes (at nodes node) left
back_left es nodes links others left node ls rising inside p d = are_left es nodes links ls rising left others node inside
    (λ l c. contains-turn links l (Contains-permutation others (map turn links) l (IsPermutation-sym (map turn links) others p) c))
    (λ l c. Contains-permutation (map turn links) others (turn l) p (contains-turned links l c)) d
