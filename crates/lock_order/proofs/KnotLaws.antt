-- Knots and their cycles, one address and one edge at a time.
use Rattle.std.proofs.Common.{◌≡◌, ℕ, suc, ◌<◌, ◌≤◌, false, List, [], ◌∷◌, ◌++◌, length, refl, sym, ap, ◌∙◌, subst, inl, inr, arith}
use Rattle.std.specs.List.{Contains}
use Rattle.std.specs.Ordering.{nat_cmp, is_lt, ordering_then}
use Rattle.std.specs.declared.cmp.Ordering.{Ordering}
use Rattle.std.specs.Cmp.Lexicographic.{slice_cmp}
use Rattle.std.proofs.lemmas.Bool.{cases_order, cases_lt, le-ltb, eq-eqb, ne_eqb}
use Rattle.std.proofs.lemmas.List.{append_assoc, append-nil}
use Rattle.std.proofs.lemmas.List.Elements.{Contains-get_or}
use Rattle.graph_search.specs.Searches.{at}
use Rattle.lock_order.specs.declared.edge.Edge.{Edge}
use Rattle.lock_order.specs.Cycles.{Leads, IsCycleAt, addresses}
use Rattle.lock_order.specs.Knots.{AreRising, AreNodes, IsNode, AreLeft, IsNear, IsNext, HasNext}
use Rattle.lock_order.proofs.WayLaws.{same_node, node_of}

same_first : (x y : ℕ) (r : Ordering) → x ≡ y → ordering_then (nat_cmp x y) r ≡ r
same_first x y r e = let a = le-ltb x y (omega arith) in let b = eq-eqb x y e in rw (a, b) refl

greater_first : (x y : ℕ) (r : Ordering) → y < x → is_lt (ordering_then (nat_cmp x y) r) ≡ false
greater_first x y r l = let a = le-ltb x y (omega arith) in let b = ne_eqb x y (λ e. omega arith) in rw (a, b) refl

-- p leads from v to a by m edges, and none of those as long comes before it in dictionary order
pub record IsBest (es : List Edge) (a v m : ℕ) (p : List Edge) : Type 0 where
  pub leads : Leads es v a p
  pub size : length p ≡ m
  pub first : (q : List Edge) → Leads es v a q → length q ≡ m → is_lt (slice_cmp nat_cmp (addresses q) (addresses p)) ≡ false

no_edges : (q : List Edge) → length q ≡ 0 → is_lt (slice_cmp nat_cmp (addresses q) []) ≡ false
no_edges [] e = refl
no_edges (f ∷ q) e = absurd (omega arith)

pub best-end : (es : List Edge) (a v : ℕ) → v ≡ a → IsBest es a v 0 []
best-end es a v e = record { leads = e; size = refl; first = λ q l s. no_edges q s }

-- from v no way to a is shorter than m
abbrev pub IsLeastWay : List Edge → ℕ → ℕ → ℕ → Type 0
IsLeastWay es a v m = (q : List Edge) → 0 < length q → Leads es v a q → m ≤ length q

-- the first edge of a shortest way leads on
near-first : (es : List Edge) (nodes left : List ℕ) (a v m : ℕ) (f : Edge) (q : List Edge) → AreLeft es nodes a left → IsLeastWay es a v (suc m) →
    Contains es f → f.from ≡ v → Leads es f.to a q → length q ≡ m → IsNear nodes left a m f
near-first es nodes left a v m f [] far least c e l s = record { last = λ z. l; on = λ p n x. absurd (omega arith) }
near-first es nodes left a v m f (g ∷ q) far least c e l s = record {
  last = λ z. absurd (omega arith);
  on = λ p n x.
      let h = far.least n (g ∷ q) x.inside (omega arith) (subst (λ (y : ℕ). Leads es y a (g ∷ q)) (sym x.is) l) in
      let r = far.reached n x.inside h.0 in
      let k : suc m ≤ length (f ∷ r.0) = least (f ∷ r.0) (omega arith) (c, e, subst (λ (y : ℕ). Leads es y a r.0) x.is r.1) in
      omega (arith, r.2);
}

apart-first : (es : List Edge) (a x y m : ℕ) (q p : List Edge) → y < x → 0 < m → Leads es x a q → Leads es y a p → length q ≡ m → length p ≡ m →
    is_lt (slice_cmp nat_cmp (addresses q) (addresses p)) ≡ false
apart-first es a x y m [] p less pos l k s t = absurd (omega arith)
apart-first es a x y m (g ∷ q) [] less pos l k s t = absurd (omega arith)
apart-first es a x y m (g ∷ q) (h ∷ p) less pos l k s t =
    greater_first g.from h.from (slice_cmp nat_cmp (addresses q) (addresses p)) (omega (arith, l.1, k.1))

module _ (es : List Edge) (nodes left : List ℕ) (a : ℕ) (far : AreLeft es nodes a left) where
  best-first : (v m : ℕ) (e : Edge) (p : List Edge) → IsLeastWay es a v (suc m) → IsNext es nodes left a v m e → IsBest es a e.to m p →
      (q : List Edge) → Leads es v a q → length q ≡ suc m → is_lt (slice_cmp nat_cmp (addresses q) (addresses (e ∷ p))) ≡ false
  best-first v m e p least next best [] l s = absurd (omega arith)
  best-first v m e p least next best (f ∷ q) l s =
      let size : length q ≡ m = omega arith in
      let near = near-first es nodes left a v m f q far least l.0 l.1 l.2 size in
      let rise = next.first f l.0 l.1 near in
      let rest : is_lt (slice_cmp nat_cmp (addresses q) (addresses p)) ≡ false = elim (cases_order e.to f.to) [
        | inl same ↦ best.first q (subst (λ (x : ℕ). Leads es x a q) (sym same) l.2) size
        | inr (inl less) ↦ apart-first es a f.to e.to m q p less
            (elim (cases_lt 0 m) [ inl pos ↦ pos | inr none ↦ absurd (omega (arith, near.last (omega arith), next.near.last (omega arith))) ])
            l.2 best.leads size best.size
        | inr (inr more) ↦ absurd (omega arith)
      ] in
      ap is_lt (same_first f.from e.from (slice_cmp nat_cmp (addresses q) (addresses p)) (l.1 ∙ sym next.from)) ∙ rest

  best-more : (v m : ℕ) (e : Edge) (p : List Edge) → IsLeastWay es a v (suc m) → IsNext es nodes left a v m e → IsBest es a e.to m p →
      IsBest es a v (suc m) (e ∷ p)
  best-more v m e p least next best = record {
    leads = (next.there, next.from, best.leads);
    size = ap suc best.size;
    first = best-first v m e p least next best;
  }

  least_way : (v n m : ℕ) → IsNode nodes v n → at left n ≡ m → IsLeastWay es a v m
  least_way v n m x e q s l = omega (arith, (far.least n q x.inside s (subst (λ (y : ℕ). Leads es y a q) (sym x.is) l)).1)

  next_of : (v m : ℕ) (p : List Edge) → IsLeastWay es a v (suc m) → Leads es v a p → length p ≡ suc m → HasNext es nodes left a v m
  next_of v m [] least l s = absurd (omega arith)
  next_of v m (e ∷ p) least l s = record {
    edge = e;
    there = l.0;
    from = l.1;
    near = near-first es nodes left a v m e p far least l.0 l.1 l.2 (omega arith);
  }

  -- an edge leads on from an address that is so far away
  pub has_next : (v n m : ℕ) → IsNode nodes v n → at left n ≡ suc m → HasNext es nodes left a v m
  has_next v n m x e =
      let r = far.reached n x.inside (omega arith) in
      next_of v m r.0 (least_way v n (suc m) x e) (subst (λ (y : ℕ). Leads es y a r.0) x.is r.1) (r.2 ∙ e)

-- the cycle so far comes to `here`, from where m edges are left
pub record Goes (es : List Edge) (nodes left : List ℕ) (a total here m : ℕ) (cycle : List Edge) : Type 0 where
  pub last : m ≡ 0 → here ≡ a
  pub on : 0 < m → (n : ℕ) → IsNode nodes here n → at left n ≡ m
  pub there : Contains nodes here
  pub ends : (rest : List Edge) → IsBest es a here m rest → IsBest es a a total (cycle ++ rest)

pub goes-begin : (es : List Edge) (nodes left : List ℕ) (node : ℕ) → AreRising nodes → node < length nodes → 0 < at left node →
    Goes es nodes left (at nodes node) (at left node) (at nodes node) (at left node) []
goes-begin es nodes left node rising inside p = record {
  last = λ z. refl;
  on = λ q n x. ap (at left) (same_node nodes (at nodes node) n node rising x (record { inside = inside; is = refl }));
  there = Contains-get_or nodes node 0 inside;
  ends = λ rest b. b;
}

pub goes-has : (es : List Edge) (nodes left : List ℕ) (a total here m : ℕ) (cycle : List Edge) → AreLeft es nodes a left →
    Goes es nodes left a total here (suc m) cycle → HasNext es nodes left a here m
goes-has es nodes left a total here m cycle far g =
    let n = node_of nodes here g.there in
    has_next es nodes left a far here n.0 m n.1 (g.on (omega arith) n.0 n.1)

pub goes-more : (es : List Edge) (nodes left : List ℕ) (a total here m : ℕ) (e : Edge) (cycle : List Edge) → AreNodes es nodes → AreLeft es nodes a left →
    IsNext es nodes left a here m e → Goes es nodes left a total here (suc m) cycle → Goes es nodes left a total e.to m (cycle ++ e ∷ [])
goes-more es nodes left a total here m e cycle ns far next g =
    let n = node_of nodes here g.there in
    let least = least_way es nodes left a far here n.0 (suc m) n.1 (g.on (omega arith) n.0 n.1) in
    record {
      last = next.near.last;
      on = next.near.on;
      there = ns.to e next.there;
      ends = λ rest b. subst (λ (p : List Edge). IsBest es a a total p) (sym (append_assoc cycle (e ∷ []) rest))
          (g.ends (e ∷ rest) (best-more es nodes left a far here m e rest least next b));
    }

pub goes-end : (es : List Edge) (nodes left : List ℕ) (node here : ℕ) (cycle : List Edge) → node < length nodes → 0 < at left node →
    AreLeft es nodes (at nodes node) left →
    Goes es nodes left (at nodes node) (at left node) here 0 cycle → IsCycleAt es (at nodes node) cycle
goes-end es nodes left node here cycle inside p far g =
    let a = at nodes node in
    let best = subst (λ (q : List Edge). IsBest es a a (at left node) q) (append-nil cycle) (g.ends [] (best-end es a here (g.last refl))) in
    record {
      some = omega (arith, best.size);
      around = best.leads;
      shortest = λ q s l. omega (arith, best.size, (far.least node q inside s l).1);
      first = λ q l s. best.first q l (s ∙ best.size);
    }
