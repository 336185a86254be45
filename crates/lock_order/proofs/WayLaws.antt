-- Ways along edges are walks along the links between the numbers of their addresses.
use Rattle.std.proofs.Common.{◌≡◌, ℕ, suc, ◌<◌, List, [], ◌∷◌, ◌++◌, length, refl, sym, ap, ◌∙◌, subst, inl, inr, arith}
use Rattle.std.specs.List.{Contains}
use Rattle.std.proofs.lemmas.Bool.{cases_order}
use Rattle.std.proofs.lemmas.List.{length-append, get_or_default, length_push}
use Rattle.graph_search.specs.declared.graph.Link.{Link}
use Rattle.graph_search.specs.Walks.{Walk, one, more, AreDistances}
use Rattle.graph_search.specs.Searches.{at}
use Rattle.lock_order.specs.declared.edge.Edge.{Edge}
use Rattle.lock_order.specs.Cycles.{Leads, Reaches}
use Rattle.lock_order.specs.Knots.{AreRising, IsNode, AreLinks, AreLeft}
use Rattle.graph_search.specs.Graphs.{turn}

leads-push : (es : List Edge) (a b : ℕ) (p : List Edge) (e : Edge) → Leads es a b p → Contains es e → e.from ≡ b → Leads es a e.to (p ++ e ∷ [])
leads-push es a b [] e l c f = (c, f ∙ sym l, refl)
leads-push es a b (d ∷ p) e l c f = (l.0, l.1, leads-push es d.to b p e l.2 c f)

leads-append : (es : List Edge) (a b c : ℕ) (p q : List Edge) → Leads es a b p → Leads es b c q → Leads es a c (p ++ q)
leads-append es a b c [] q l m = subst (λ (x : ℕ). Leads es x c q) (sym l) m
leads-append es a b c (d ∷ p) q l m = (l.0, l.1, leads-append es d.to b c p q l.2 m)

pub reaches-on : (es : List Edge) (a b c : ℕ) → Reaches es a b → Reaches es b c → Reaches es a c
reaches-on es a b c r s = record {
  way = r.way ++ s.way;
  some = omega (arith, length-append r.way s.way, r.some);
  leads = leads-append es a b c r.way s.way r.leads s.leads;
}

pub same_node : (nodes : List ℕ) (a i j : ℕ) → AreRising nodes → IsNode nodes a i → IsNode nodes a j → i ≡ j
same_node nodes a i j rising x y = elim (cases_order i j) [
  | inl e ↦ e
  | inr (inl l) ↦ absurd (omega (arith, rising i j l y.inside, x.is, y.is))
  | inr (inr l) ↦ absurd (omega (arith, rising j i l x.inside, x.is, y.is))
]

pub node_of : (nodes : List ℕ) (a : ℕ) → Contains nodes a → (n : ℕ) × IsNode nodes a n
node_of nodes a (k, l, e) = (k, record { inside = l; is = get_or_default nodes k 0 a l ∙ e })

-- a walk with one more link in front
walk-front : (links : List Link) (a : ℕ) (l : Link) → Contains links l → l.from ≡ a → {m c : ℕ} → Walk links l.to m c → Walk links a (suc m) c
walk-front links a l c e (one {l = k} d f) = more (one c e) d f
walk-front links a l c e (more {m} {b} {l = k} w d f) = more (walk-front links a l c e w) d f

-- a walk turned round
walk-turned : (links others : List Link) → ((l : Link) → Contains others l → Contains links (turn l)) → {a m b : ℕ} → Walk others a m b → Walk links b m a
walk-turned links others t {a} (one {l} c f) = subst (λ (x : ℕ). Walk links l.to 1 x) f (one (t l c) refl)
walk-turned links others t {a} (more {m} {b} {l} w c f) =
    walk-front links l.to (turn l) (t l c) refl (subst (λ (x : ℕ). Walk links x m a) (sym f) (walk-turned links others t w))

pub walk-among : (links others : List Link) → ((l : Link) → Contains others l → Contains links l) → {a m b : ℕ} → Walk others a m b → Walk links a m b
walk-among links others t (one {l} c f) = one (t l c) f
walk-among links others t (more {m} {b} {l} w c f) = more (walk-among links others t w) (t l c) f

module _ (es : List Edge) (nodes : List ℕ) (links : List Link) (ls : AreLinks es nodes links) where
  -- a walk along the links as a way along the edges
  pub leads-walked : {i m j : ℕ} → Walk links i m j → (p : List Edge) × Leads es (at nodes i) (at nodes j) p × (length p ≡ m)
  leads-walked {i} (one {l} c f) =
      let k = ls.each l c in
      (k.0 ∷ [], (k.1, sym k.2.from.is ∙ ap (at nodes) f, sym k.2.to.is), refl)
  leads-walked {i} (more {m} {b} {l} w c f) =
      let k = ls.each l c in
      let p = leads-walked w in (
        p.0 ++ k.0 ∷ [],
        subst (λ (x : ℕ). Leads es (at nodes i) x (p.0 ++ k.0 ∷ [])) (sym k.2.to.is)
            (leads-push es (at nodes i) (at nodes b) p.0 k.0 p.1 k.1 (sym k.2.from.is ∙ ap (at nodes) f)),
        omega (arith, length_push p.0 k.0, p.2),
      )

  -- a way along the edges as a walk along the links
  pub walk-led : AreRising nodes → (i j a b : ℕ) (p : List Edge) → 0 < length p → Leads es a b p → IsNode nodes a i → IsNode nodes b j → Walk links i (length p) j
  walk-led rising i j a b [] s l x y = absurd (omega arith)
  walk-led rising i j a b (e ∷ []) s l x y =
      let k = ls.all e l.0 in
      let first : k.0.from ≡ i = same_node nodes a k.0.from i rising (subst (λ (n : ℕ). IsNode nodes n k.0.from) l.1 k.2.from) x in
      let last : k.0.to ≡ j = same_node nodes b k.0.to j rising (subst (λ (n : ℕ). IsNode nodes n k.0.to) l.2 k.2.to) y in
      subst (λ (n : ℕ). Walk links i 1 n) last (one k.1 first)
  walk-led rising i j a b (e ∷ d ∷ p) s l x y =
      let k = ls.all e l.0 in
      let first : k.0.from ≡ i = same_node nodes a k.0.from i rising (subst (λ (n : ℕ). IsNode nodes n k.0.from) l.1 k.2.from) x in
      walk-front links i k.0 k.1 first (walk-led rising k.0.to j e.to b (d ∷ p) (omega arith) l.2 k.2.to y)

  itself : (v : ℕ) → v < length nodes → IsNode nodes (at nodes v) v
  itself v l = record { inside = l; is = refl }

  -- distances along turned links
  pub are_left : AreRising nodes → (left : List ℕ) (others : List Link) (node : ℕ) → node < length nodes →
      ((l : Link) → Contains others l → Contains links (turn l)) → ((l : Link) → Contains links l → Contains others (turn l)) →
      AreDistances others node left → AreLeft es nodes (at nodes node) left
  are_left rising left others node inside t u d = record {
    reached = λ v l p. leads-walked (walk-turned links others t (d.reached v p));
    least = λ v p l s w. d.least (length p) v
        (walk-turned others links u (walk-led rising v node (at nodes v) (at nodes node) p s w (itself v l) (itself node inside)));
  }
