-- Nodes that are reached from one another.
use Rattle.std.proofs.Common.{◌≡◌, ℕ, suc, List, refl, sym, subst, inl, inr}
use Rattle.std.specs.List.{Contains}
use Rattle.graph_search.specs.declared.graph.Link.{Link}
use Rattle.graph_search.specs.Walks.{Walk, one, more}
use Rattle.graph_search.specs.Knots.{IsReached, AreTied}

pub walk-append : (links : List Link) (a b m : ℕ) → Walk links a m b → {n c : ℕ} → Walk links b n c → (k : ℕ) × Walk links a k c
walk-append links a b k w (one {l} c e) = (suc k, more w c e)
walk-append links a b k w (more {m = n} {b = x} {l} v c e) = let r = walk-append links a b k w v in (suc r.0, more r.1 c e)

-- along one and the other
pub reached-on : (links : List Link) (a b c : ℕ) → IsReached links a b → IsReached links b c → IsReached links a c
reached-on links a b c (inl e) s = subst (λ (x : ℕ). IsReached links x c) (sym e) s
reached-on links a b c (inr r) (inl e) = inr (r.0, subst (λ (x : ℕ). Walk links a r.0 x) e r.1)
reached-on links a b c (inr r) (inr s) = inr (walk-append links a b r.0 r.1 s.1)

-- along one link
pub reached-link : (links : List Link) (l : Link) (a b : ℕ) → Contains links l → l.from ≡ a → l.to ≡ b → IsReached links a b
reached-link links l a b c e f = inr (1, subst (λ (x : ℕ). Walk links a 1 x) f (one c e))

pub tied-itself : (links : List Link) (a : ℕ) → AreTied links a a
tied-itself links a = record { forth = inl refl; back = inl refl }

pub tied-turned : (links : List Link) (a b : ℕ) → AreTied links a b → AreTied links b a
tied-turned links a b t = record { forth = t.back; back = t.forth }

pub tied-on : (links : List Link) (a b c : ℕ) → AreTied links a b → AreTied links b c → AreTied links a c
tied-on links a b c s t = record {
  forth = reached-on links a b c s.forth t.forth;
  back = reached-on links c b a t.back s.back;
}

walk-among : (links others : List Link) → ((l : Link) → Contains others l → Contains links l) → {a m b : ℕ} → Walk others a m b → Walk links a m b
walk-among links others t (one {l} c f) = one (t l c) f
walk-among links others t (more {m} {b} {l} w c f) = more (walk-among links others t w) (t l c) f

-- along links that are among others, along these
pub reached-among : (links others : List Link) → ((l : Link) → Contains others l → Contains links l) → (a b : ℕ) → IsReached others a b → IsReached links a b
reached-among links others t a b (inl e) = inl e
reached-among links others t a b (inr w) = inr (w.0, walk-among links others t w.1)
