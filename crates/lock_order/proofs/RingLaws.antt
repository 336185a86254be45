-- Which knots have a link of their own, one link at a time.
use Rattle.std.proofs.Common.{◌≡◌, ℕ, ◌<◌, List, [], ◌∷◌, ◌++◌, length, set, replicate, Bool, true, false, sym, ◌∙◌, subst, inl, inr, arith}
use Rattle.std.proofs.lemmas.Bool.{both_ways}
use Rattle.std.proofs.lemmas.List.{length-set, length-replicate, get_or-set_same}
use Rattle.std.proofs.lemmas.List.Elements.{Contains-push, Contains-append_left, Contains-push_cases}
use Rattle.graph_search.specs.declared.graph.Link.{Link}
use Rattle.graph_search.specs.Searches.{at}
use Rattle.graph_search.specs.Descents.{flag}
use Rattle.graph_search.proofs.DescentLaws.{no_flag, mark-kept, mark-only}
use Rattle.lock_order.specs.Knots.{AreRinged}

pub ringed-begin : (knots : List ℕ) (n : ℕ) → n ≡ length knots → AreRinged [] knots (replicate n false)
ringed-begin knots n e = record {
  size = length-replicate {A = Bool} n false ∙ e;
  each = λ k t. absurd (both_ways (flag (replicate n false) k) (no_flag n k) t);
  all = λ l c same. absurd (omega (arith, c.1));
}

-- a link within a knot
pub ringed-more : (links : List Link) (l : Link) (knots : List ℕ) (ringed : List Bool) → AreRinged links knots ringed →
    at knots l.from ≡ at knots l.to → at knots l.to < length ringed → AreRinged (links ++ l ∷ []) knots (set ringed (at knots l.to) true)
ringed-more links l knots ringed r within inside = record {
  size = length-set ringed (at knots l.to) true ∙ r.size;
  each = λ k t. elim (mark-only ringed (at knots l.to) k t) [
    | inl e ↦ (l, Contains-push links l, within ∙ e, e)
    | inr s ↦ let b = r.each k s in (b.0, Contains-append_left links (l ∷ []) b.0 b.1, b.2, b.3)
  ];
  all = λ m c same. elim (Contains-push_cases links l m c) [
    | inl b ↦ mark-kept ringed (at knots l.to) (at knots m.to) (r.all m b same)
    | inr is ↦
        subst (λ (x : Link). flag (set ringed (at knots l.to) true) (at knots x.to) ≡ true) is
        (get_or-set_same ringed (at knots l.to) true false inside)
  ];
}

-- a link from one knot to another
pub ringed-other : (links : List Link) (l : Link) (knots : List ℕ) (ringed : List Bool) → AreRinged links knots ringed →
    (at knots l.from ≡ at knots l.to → ⊥) → AreRinged (links ++ l ∷ []) knots ringed
ringed-other links l knots ringed r out = record {
  size = r.size;
  each = λ k t. let b = r.each k t in (b.0, Contains-append_left links (l ∷ []) b.0 b.1, b.2, b.3);
  all = λ m c same. elim (Contains-push_cases links l m c) [
    | inl b ↦ r.all m b same
    | inr is ↦ absurd (out (subst (λ (x : Link). at knots x.from ≡ at knots x.to) (sym is) same))
  ];
}
