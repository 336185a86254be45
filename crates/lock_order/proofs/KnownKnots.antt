-- The knots whose least address is among the first addresses, one more address at a time.
use Rattle.std.proofs.Common.{◌≡◌, ℕ, suc, ◌+◌, ◌<◌, ◌≤◌, Bool, true, false, List, [], ◌∷◌, ◌++◌, length, map, set, get_or, sym, ap, ◌∙◌, subst}
use Rattle.std.proofs.Common.{inl, inr, arith}
use Rattle.std.specs.List.{Contains}
use Rattle.std.specs.List.Sorted.{IsStrictlyIncreasing}
use Rattle.std.proofs.lemmas.Bool.{cases_order, cases_lt, cases_eq, cases_Bool, both_ways}
use Rattle.std.proofs.lemmas.List.{length-map, map_push, get_or_push, get_or_append_left, get_or-map, length_push, length-set}
use Rattle.std.proofs.lemmas.List.{get_or_past, get_or-set_same, get_or-set_other}
use Rattle.std.proofs.lemmas.List.Elements.{Contains-push, Contains-append_left, Contains-push_cases, Contains-get_or}
use Rattle.std.proofs.lemmas.Map.Keys.{sorted_from_strictly_increasing}
use Rattle.graph_search.specs.Searches.{at}
use Rattle.graph_search.specs.Descents.{flag}
use Rattle.lock_order.specs.declared.edge.Edge.{Edge}
use Rattle.lock_order.specs.declared.cycle.Cycle.{Cycle}
use Rattle.lock_order.specs.Cycles.{Leads, IsLeastOfKnot, Reaches, IsCycleAt, AreCycles, start, first_from}
use Rattle.lock_order.specs.Knots.{AreNodes, AreTied, AreNumbered, KnowsKnots}
use Rattle.lock_order.proofs.WayLaws.{node_of}

-- where a way round begins is the first edge's address
leads-from : (es : List Edge) (a b : ℕ) (p : List Edge) → 0 < length p → Leads es a b p → first_from p ≡ a
leads-from es a b [] s l = absurd (omega arith)
leads-from es a b (e ∷ p) s l = l.1

first-there : (es : List Edge) (nodes : List ℕ) (a b : ℕ) (p : List Edge) → AreNodes es nodes → 0 < length p → Leads es a b p → Contains nodes a
first-there es nodes a b [] ns s l = absurd (omega arith)
first-there es nodes a b (e ∷ p) ns s l = subst (Contains nodes) l.1 (ns.from e l.0)

starts_at : (es : List Edge) (c : Cycle) (a : ℕ) → IsCycleAt es a c.edges → start c ≡ a
starts_at es c a i = leads-from es a a c.edges i.some i.around

increasing-push : (xs : List ℕ) (x : ℕ) → IsStrictlyIncreasing xs → ((y : ℕ) → Contains xs y → y < x) → IsStrictlyIncreasing (xs ++ x ∷ [])
increasing-push xs x up below = λ k l. elim (cases_lt (k + 1) (length xs)) [
  | inl b ↦
      let e = get_or_append_left xs (x ∷ []) 0 k (omega arith) in
      let f = get_or_append_left xs (x ∷ []) 0 (k + 1) b in
      omega (arith, up k b)
  | inr b ↦
      let long = length_push xs x in
      let e = get_or_append_left xs (x ∷ []) 0 k (omega arith) in
      let f = get_or_push xs x 0 (k + 1) (omega arith) in
      omega (arith, below (at xs k) (Contains-get_or xs k 0 (omega arith)))
]

contains_start : (cs : List Cycle) (d : Cycle) (y : ℕ) → Contains (map start cs) y → (c : Cycle) × Contains cs c × (start c ≡ y)
contains_start cs d y (k, l, e) =
    let inside : k < length cs = omega (arith, length-map cs start) in
    (get_or cs k d, Contains-get_or cs k d inside, sym (get_or-map start cs k d y inside) ∙ e)

waits_no : (waits : List Bool) (n m : ℕ) → flag (set waits n false) m ≡ true → (flag waits m ≡ true) × (m ≡ n → ⊥)
waits_no waits n m t = elim (cases_eq m n) [
  | inl e ↦ absurd (both_ways (flag (set waits n false) m) (subst (λ (x : ℕ). flag (set waits n false) x ≡ false) (sym e) (waits-off waits n)) t)
  | inr other ↦ (sym (get_or-set_other waits n m false false other) ∙ t, other)
]
  where
    waits-off : (waits : List Bool) (n : ℕ) → flag (set waits n false) n ≡ false
    waits-off waits n = elim (cases_lt n (length waits)) [
      | inl l ↦ get_or-set_same waits n false false l
      | inr h ↦ get_or_past (set waits n false) n false (omega (arith, length-set waits n false))
    ]

waits-kept : (waits : List Bool) (n m : ℕ) → flag waits m ≡ false → flag (set waits n false) m ≡ false
waits-kept waits n m f = elim (cases_Bool (flag (set waits n false) m)) [
  | inl t ↦ absurd (both_ways (flag waits m) f (waits_no waits n m t).0)
  | inr off ↦ off
]

pub knots-begin : (es : List Edge) (nodes knots : List ℕ) (waits : List Bool) → length waits ≡ length nodes →
    ((v : ℕ) → v < length nodes → flag waits (at knots v) ≡ true → Reaches es (at nodes v) (at nodes v)) →
    ((v : ℕ) → v < length nodes → Reaches es (at nodes v) (at nodes v) → flag waits (at knots v) ≡ true) → KnowsKnots es nodes knots 0 waits []
knots-begin es nodes knots waits size round all = record {
  size = size;
  waiting = round;
  passed = λ i l. absurd (omega arith);
  told = λ v l r f. absurd (both_ways (flag waits (at knots v)) f (all v l r));
  ordered = λ k l. absurd (omega arith);
  below = λ c h. absurd (omega (arith, h.1));
  each = λ c h. absurd (omega (arith, h.1));
  all = λ i l. absurd (omega arith);
}

module _ (es : List Edge) (nodes knots : List ℕ) (k : ℕ) (waits : List Bool) (cs : List Cycle) (ns : AreNodes es nodes) (inside : k < length nodes)
    (numbers : AreNumbered es nodes knots) (known : KnowsKnots es nodes knots k waits cs) where
  -- the node's knot has its cycle, or needs none
  pub knots-passed : flag waits (at knots k) ≡ false → KnowsKnots es nodes knots (suc k) waits cs
  knots-passed f = record {
    size = known.size;
    waiting = known.waiting;
    passed = λ i l. elim (cases_eq i k) [
      | inl e ↦ subst (λ (x : ℕ). flag waits (at knots x) ≡ false) (sym e) f
      | inr other ↦ known.passed i (omega arith)
    ];
    told = λ v l r g. let t = known.told v l r g in (t.0, omega (arith, t.1), t.2);
    ordered = known.ordered;
    below = λ c h. let r = known.below c h in (r.0, omega (arith, r.1), r.2);
    each = known.each;
    all = λ i l h. elim (cases_eq i k) [
      | inl e ↦
          let g = subst (λ (x : ℕ). IsLeastOfKnot es (at nodes x)) e h in
          let t = known.told k inside g.around f in
          let r = numbers.tied t.0 k (omega (arith, t.1)) inside t.2 (λ x. omega (arith, t.1)) in
          absurd (omega (arith, g.least (at nodes t.0) r.back r.forth, ns.rising t.0 k t.1 inside))
      | inr other ↦ known.all i (omega arith) h
    ];
  }

  -- the node is the least of its knot
  module _ (wait : flag waits (at knots k) ≡ true) where
    is_least : IsLeastOfKnot es (at nodes k)
    is_least = record {
      around = known.waiting k inside wait;
      least = λ b forth back.
          let n = node_of nodes b (first-there es nodes b (at nodes k) back.way ns back.some back.leads) in
          elim (cases_order n.0 k) [
            | inl e ↦ omega (arith, n.1.is, ap (at nodes) e)
            | inr (inl less) ↦
                let t : AreTied es (at nodes n.0) (at nodes k) =
                subst (λ (x : ℕ). AreTied es x (at nodes k)) (sym n.1.is) (record { forth = back; back = forth }) in
                let same : at knots n.0 ≡ at knots k = numbers.same n.0 k n.1.inside inside t in
                absurd (both_ways (flag waits (at knots k)) (subst (λ (x : ℕ). flag waits x ≡ false) same (known.passed n.0 less)) wait)
            | inr (inr more) ↦ omega (arith, n.1.is, ns.rising k n.0 more n.1.inside)
          ];
    }

    pub knots-more : (c : Cycle) → IsCycleAt es (at nodes k) c.edges → KnowsKnots es nodes knots (suc k) (set waits (at knots k) false) (cs ++ c ∷ [])
    knots-more c cycle =
        let begins = starts_at es c (at nodes k) cycle in
        let n = at knots k in
        record {
          size = length-set waits n false ∙ known.size;
          waiting = λ v l t. known.waiting v l (waits_no waits n (at knots v) t).0;
          passed = λ i l. elim (cases_Bool (flag (set waits n false) (at knots i))) [
            | inl t ↦
                let r = waits_no waits n (at knots i) t in
                let other : i ≡ k → ⊥ = λ e. r.1 (ap (at knots) e) in
                absurd (both_ways (flag waits (at knots i)) (known.passed i (omega arith)) r.0)
            | inr off ↦ off
          ];
          told = λ v l r g. elim (cases_eq (at knots v) n) [
            | inl e ↦ (k, omega arith, sym e)
            | inr other ↦
                let was : flag waits (at knots v) ≡ false = sym (get_or-set_other waits n (at knots v) false false other) ∙ g in
                let t = known.told v l r was in
                (t.0, omega (arith, t.1), t.2)
          ];
          ordered = subst IsStrictlyIncreasing (sym (map_push start cs c)) (increasing-push (map start cs) (start c) known.ordered (λ y h.
              let d = contains_start cs c y h in
              let r = known.below d.0 d.1 in
              omega (arith, d.2, r.2, ns.rising r.0 k r.1 inside)));
          below = λ d h. elim (Contains-push_cases cs c d h) [
            | inl was ↦ let r = known.below d was in (r.0, omega (arith, r.1), r.2)
            | inr is ↦ (k, omega arith, ap start (sym is) ∙ begins)
          ];
          each = λ d h. elim (Contains-push_cases cs c d h) [
            | inl was ↦ known.each d was
            | inr is ↦
                subst (λ (x : Cycle). IsLeastOfKnot es (start x) × IsCycleAt es (start x) x.edges) is
                (subst (IsLeastOfKnot es) (sym begins) is_least, subst (λ (a : ℕ). IsCycleAt es a c.edges) (sym begins) cycle)
          ];
          all = λ i l h. elim (cases_lt i k) [
            | inl b ↦ let r = known.all i b h in (r.0, Contains-append_left cs (c ∷ []) r.0 r.1, r.2)
            | inr b ↦ let e : i ≡ k = omega arith in (c, Contains-push cs c, begins ∙ ap (at nodes) (sym e))
          ];
        }

pub knots-end : (es : List Edge) (nodes knots : List ℕ) (k : ℕ) (waits : List Bool) (cs : List Cycle) → AreNodes es nodes → length nodes ≤ k →
    KnowsKnots es nodes knots k waits cs → AreCycles es cs
knots-end es nodes knots k waits cs ns all known = record {
  ordered = sorted_from_strictly_increasing (map start cs) known.ordered;
  each = known.each;
  all = λ a h.
      let n = node_of nodes a (first-there es nodes a a h.around.way ns h.around.some h.around.leads) in
      let inside = n.1.inside in
      let r = known.all n.0 (omega arith) (subst (IsLeastOfKnot es) (sym n.1.is) h) in
      (r.0, r.1, r.2 ∙ n.1.is);
}
