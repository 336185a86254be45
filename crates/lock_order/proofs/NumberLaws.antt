-- The numbers of knots of a graph, as those of addresses.
use Rattle.std.proofs.Common.{◌≡◌, ℕ, suc, ◌<◌, List, length, Bool, true, refl, sym, ap, ◌∙◌, subst, inl, inr, arith}
use Rattle.std.specs.List.{Contains}
use Rattle.std.specs.List.Sorted.{IsPermutation}
use Rattle.std.proofs.lemmas.List.Sorted.{Contains-permutation, IsPermutation-sym}
use Rattle.graph_search.specs.declared.graph.Link.{Link}
use Rattle.graph_search.specs.Walks.{Walk, one, more}
use Rattle.graph_search.specs.Searches.{at}
use Rattle.graph_search.specs.Knots as graph
use Rattle.graph_search.specs.Knots.{IsReached, AreKnots}
use Rattle.graph_search.specs.Descents.{flag}
use Rattle.graph_search.proofs.ReachLaws.{walk-append, reached-link}
use Rattle.lock_order.specs.declared.edge.Edge.{Edge}
use Rattle.lock_order.specs.Cycles.{Reaches}
use Rattle.lock_order.specs.Knots.{AreRising, AreLinks, AreNumbered, AreRinged}
use Rattle.lock_order.proofs.WayLaws.{leads-walked, walk-led}

-- links in another order
pub links-again : (es : List Edge) (nodes : List ℕ) (links others : List Link) → AreLinks es nodes links → IsPermutation links others → AreLinks es nodes others
links-again es nodes links others ls p = record {
  each = λ l c. ls.each l (Contains-permutation others links l (IsPermutation-sym links others p) c);
  all = λ e c. let l = ls.all e c in (l.0, Contains-permutation links others l.0 p l.1, l.2);
}

-- the last link of a walk round stays within the knot
round-last : (links : List Link) (v : ℕ) → {m y : ℕ} → Walk links v m y → y ≡ v → (l : Link) × Contains links l × (l.to ≡ v) × graph.AreTied links l.from v
round-last links v (one {l} c e) same = (
  l,
  c,
  same,
  record { forth = reached-link links l l.from v c refl same; back = inl (sym e) },
)
round-last links v (more {m} {b} {l} w c e) same = (
  l,
  c,
  same,
  record { forth = reached-link links l l.from v c refl same; back = inr (m, subst (λ (x : ℕ). Walk links v m x) (sym e) w) },
)

walk-some : (links : List Link) (a : ℕ) → {m b : ℕ} → Walk links a m b → 0 < m
walk-some links a (one {l} c e) = omega arith
walk-some links a (more {m} {b} {l} w c e) = omega arith

-- to where a link begins, and along it
walk-link : (links : List Link) (a : ℕ) (l : Link) → Contains links l → IsReached links a l.from → (m : ℕ) × Walk links a m l.to
walk-link links a l there (inl e) = (1, one there (sym e))
walk-link links a l there (inr w) = (suc w.0, more w.1 there refl)

walk-then : (links : List Link) (a b c : ℕ) → (m : ℕ) × Walk links a m b → IsReached links b c → (m : ℕ) × Walk links a m c
walk-then links a b c w (inl e) = (w.0, subst (λ (x : ℕ). Walk links a w.0 x) e w.1)
walk-then links a b c w (inr v) = walk-append links a b w.0 w.1 v.1

module _ (es : List Edge) (nodes : List ℕ) (links : List Link) (ls : AreLinks es nodes links) (rising : AreRising nodes) where
  reaches : (i j : ℕ) → (m : ℕ) × Walk links i m j → Reaches es (at nodes i) (at nodes j)
  reaches i j w =
      let p = leads-walked es nodes links ls w.1 in
      record { way = p.0; some = omega (arith, p.2, walk-some links i w.1); leads = p.1 }

  walk_of : (i j : ℕ) → i < length nodes → j < length nodes → Reaches es (at nodes i) (at nodes j) → (m : ℕ) × Walk links i m j
  walk_of i j l k r = (
    length r.way,
    walk-led es nodes links ls rising i j (at nodes i) (at nodes j) r.way r.some r.leads (record { inside = l; is = refl }) (record { inside = k; is = refl }),
  )

  apart : (i j : ℕ) → (i ≡ j → ⊥) → IsReached links i j → Reaches es (at nodes i) (at nodes j)
  apart i j other (inl e) = absurd (other e)
  apart i j other (inr w) = reaches i j w

  module _ (knots : List ℕ) (size : length knots ≡ length nodes) (ks : AreKnots links knots) where
    -- the numbers of the graph's knots
    pub numbered : AreNumbered es nodes knots
    numbered = record {
      size = size;
      tied = λ i j l k e other.
          let t = ks.tied i j (omega arith) (omega arith) e in
          record { forth = apart i j other t.forth; back = apart j i (λ x. other (sym x)) t.back };
      same = λ i j l k t.
          ks.same i j (omega arith) (omega arith) (record { forth = inr (walk_of i j l k t.forth); back = inr (walk_of j i k l t.back) });
    }

    -- a link within the knot of a node lies on a way round
    pub ring_leads : (ringed : List Bool) (v : ℕ) → AreRinged links knots ringed → v < length nodes → flag ringed (at knots v) ≡ true →
        Reaches es (at nodes v) (at nodes v)
    ring_leads ringed v r l t =
        let k = r.each (at knots v) t in
        let e = ls.each k.0 k.1 in
        let to = ks.tied v k.0.from (omega arith) (omega (arith, e.2.from.inside)) (sym k.2) in
        let on = ks.tied k.0.to v (omega (arith, e.2.to.inside)) (omega arith) k.3 in
        reaches v v (walk-then links v k.0.to v (walk-link links v k.0 k.1 to.forth) on.forth)

    -- and each way round has one
    pub ring_all : (ringed : List Bool) (v : ℕ) → AreRinged links knots ringed → v < length nodes → Reaches es (at nodes v) (at nodes v) →
        flag ringed (at knots v) ≡ true
    ring_all ringed v r l way =
        let w = walk_of v v l l way in
        let k = round-last links v w.1 refl in
        let e = ls.each k.0 k.1 in
        let same : at knots k.0.from ≡ at knots v = ks.same k.0.from v (omega (arith, e.2.from.inside)) (omega arith) k.3 in
        let to : at knots k.0.to ≡ at knots v = ap (at knots) k.2 in
        subst (λ (n : ℕ). flag ringed n ≡ true) to (r.all k.0 k.1 (same ∙ sym to))
