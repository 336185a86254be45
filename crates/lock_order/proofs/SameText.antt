-- A history has one list of edges, and these have one list of cycles.
use Rattle.std.proofs.Common.{◌≡◌, ◌⊎◌, ℕ, ◌<◌, Bool, true, false, cond, List, [], ◌∷◌, ◌++◌, length, map, get_or, eqb}
use Rattle.std.proofs.Common.{refl, sym, ap, ap₂, ◌∙◌, subst, inl, inr, arith}
use Rattle.std.specs.List.{Contains, AllPairs, flat_map}
use Rattle.std.specs.List.Sorted.{IsStrictlySortedBy}
use Rattle.std.specs.Ordering.{nat_cmp, is_lt}
use Rattle.std.specs.declared.cmp.Ordering.{Ordering}
use Rattle.std.specs.declared.cmp.Ordering.TheVariants.{Less, Equal, Greater}
use Rattle.std.specs.Cmp.Lexicographic.{slice_cmp}
use Rattle.std.proofs.lemmas.Bool.{cases_order, cases_lt, le-ltb, lt-ltb, eq-eqb, ne_eqb}
use Rattle.std.proofs.lemmas.List.{length-map, get_or-map, get_or_default}
use Rattle.std.proofs.lemmas.Map.Keys.{Less-from_sorted}
use Rattle.run_laws.specs.Moments.{Moment}
use Rattle.report_text.proofs.RisingLists.{same_rising}
use Rattle.lock_order.specs.declared.edge.Edge.{Edge}
use Rattle.lock_order.specs.declared.cycle.Cycle.{Cycle}
use Rattle.lock_order.specs.Edges.{AreEdges, AreOrdered, pair_order, ends}
use Rattle.lock_order.specs.Cycles.{Leads, IsCycleAt, AreCycles, addresses, start}
use Rattle.lock_order.specs.Texts.{cycle_lines, count_line, IsLockText}

module _ {X K : Type 0} (cmp : K → K → Ordering) (key : X → K) (turn : (j k : K) → cmp j k ≡ Less → cmp k j ≡ Less → ⊥) where
  sorted_rise : (xs : List X) → IsStrictlySortedBy cmp (map key xs) → AllPairs (λ (x y : X). cmp (key x) (key y) ≡ Less) xs
  sorted_rise xs s = λ i j d l m.
      let h = Less-from_sorted cmp (map key xs) i j (key d) s l (omega (arith, length-map xs key)) in
      subst (λ (b : K). cmp (key (get_or xs i d)) b ≡ Less) (get_or-map key xs j d (key d) m)
      (subst (λ (a : K). cmp a (get_or (map key xs) j (key d)) ≡ Less) (get_or-map key xs i d (key d) (omega arith)) h)

  -- two lists that are sorted strictly and have the same elements are the same
  same_sorted : (xs ys : List X) → IsStrictlySortedBy cmp (map key xs) → IsStrictlySortedBy cmp (map key ys) → ((z : X) → Contains xs z → Contains ys z) →
      ((z : X) → Contains ys z → Contains xs z) → xs ≡ ys
  same_sorted xs ys s t to back =
      same_rising (λ (x y : X). cmp (key x) (key y) ≡ Less) (λ x y. turn (key x) (key y)) xs ys (sorted_rise xs s) (sorted_rise ys t) to back

not_less : (b : Bool) → cond b Equal Greater ≡ Less → ⊥
not_less true e = cc
not_less false e = cc

nat_less : (a b : ℕ) → nat_cmp a b ≡ Less → a < b
nat_less a b e = elim (cases_lt a b) [
  | inl l ↦ l
  | inr h ↦ let f = le-ltb a b h in absurd (not_less (eqb a b) (rw f at e))
]

nat_turn : (a b : ℕ) → nat_cmp a b ≡ Less → nat_cmp b a ≡ Less → ⊥
nat_turn a b e f = omega (arith, nat_less a b e, nat_less b a f)

pair_less : (p q : ℕ × ℕ) → pair_order p q ≡ Less → (p.0 < q.0) ⊎ ((p.0 ≡ q.0) × (p.1 < q.1))
pair_less p q e = elim (cases_order p.0 q.0) [
  | inl same ↦
      let a = le-ltb p.0 q.0 (omega arith) in
      let b = eq-eqb p.0 q.0 same in
      inr (same, nat_less p.1 q.1 (rw (a, b) at e))
  | inr (inl less) ↦ inl less
  | inr (inr more) ↦
      let a = le-ltb p.0 q.0 (omega arith) in
      let b = ne_eqb p.0 q.0 (λ x. omega arith) in
      let f : Greater ≡ Less = rw (a, b) at e in
      absurd cc
]

pair_turn : (p q : ℕ × ℕ) → pair_order p q ≡ Less → pair_order q p ≡ Less → ⊥
pair_turn p q e f = elim (pair_less p q e) [
  | inl a ↦ elim (pair_less q p f) [ inl b ↦ omega arith | inr b ↦ omega (arith, b.0) ]
  | inr a ↦ elim (pair_less q p f) [ inl b ↦ omega (arith, a.0) | inr b ↦ omega (arith, a.1, b.1) ]
]

same_edges : (h : List Moment) (es fs : List Edge) → AreEdges h es → AreEdges h fs → es ≡ fs
same_edges h es fs a b = same_sorted pair_order ends pair_turn es fs a.ordered b.ordered (λ e c. b.all e (a.each e c)) (λ e c. a.all e (b.each e c))

-- an edge is known by its ends
one_edge : (es : List Edge) (e f : Edge) → AreOrdered es → Contains es e → Contains es f → ends e ≡ ends f → e ≡ f
one_edge es e f ordered (i, l, is) (j, m, at) same = elim (cases_order i j) [
  | inl k ↦ sym is ∙ (ap (λ (n : ℕ). get_or es n e) k ∙ (get_or_default es j e f m ∙ at))
  | inr (inl less) ↦
      let h = Less-from_sorted pair_order (map ends es) i j (ends e) ordered less (omega (arith, length-map es ends)) in
      let a : get_or (map ends es) i (ends e) ≡ ends e = get_or-map ends es i e (ends e) l ∙ ap ends is in
      let b : get_or (map ends es) j (ends e) ≡ ends e = get_or-map ends es j f (ends e) m ∙ (ap ends at ∙ sym same) in
      let k : pair_order (ends e) (ends e) ≡ Less = subst (λ (q : ℕ × ℕ). pair_order (ends e) q ≡ Less) b
      (subst (λ (q : ℕ × ℕ). pair_order q (get_or (map ends es) j (ends e)) ≡ Less) a h) in
      absurd (pair_turn (ends e) (ends e) k k)
  | inr (inr more) ↦
      let h = Less-from_sorted pair_order (map ends es) j i (ends e) ordered more (omega (arith, length-map es ends)) in
      let a : get_or (map ends es) i (ends e) ≡ ends e = get_or-map ends es i e (ends e) l ∙ ap ends is in
      let b : get_or (map ends es) j (ends e) ≡ ends e = get_or-map ends es j f (ends e) m ∙ (ap ends at ∙ sym same) in
      let k : pair_order (ends e) (ends e) ≡ Less = subst (λ (q : ℕ × ℕ). pair_order q (ends e) ≡ Less) b
      (subst (λ (q : ℕ × ℕ). pair_order (get_or (map ends es) j (ends e)) q ≡ Less) a h) in
      absurd (pair_turn (ends e) (ends e) k k)
]

same_start : (es : List Edge) (x y b : ℕ) (p q : List Edge) → Leads es x b p → Leads es y b q → addresses p ≡ addresses q → x ≡ y
same_start es x y b [] [] l m e = l ∙ sym m
same_start es x y b [] (f ∷ q) l m e = absurd cc
same_start es x y b (d ∷ p) [] l m e = absurd cc
same_start es x y b (d ∷ p) (f ∷ q) l m e = let k : d.from ≡ f.from = cc in sym l.1 ∙ (k ∙ m.1)

-- a way is known by its addresses
same_way : (es : List Edge) (x y b : ℕ) (p q : List Edge) → AreOrdered es → Leads es x b p → Leads es y b q → addresses p ≡ addresses q → p ≡ q
same_way es x y b [] [] ordered l m e = refl
same_way es x y b [] (f ∷ q) ordered l m e = absurd cc
same_way es x y b (d ∷ p) [] ordered l m e = absurd cc
same_way es x y b (d ∷ p) (f ∷ q) ordered l m e =
    let first : d.from ≡ f.from = cc in
    let rest : addresses p ≡ addresses q = cc in
    let last = same_start es d.to f.to b p q l.2 m.2 rest in
    let both : ends d ≡ ends f = ap₂ (λ (u v : ℕ). (u, v)) first last in
    ap₂ (λ (g : Edge) (r : List Edge). g ∷ r) (one_edge es d f ordered l.0 m.0 both) (same_way es d.to f.to b p q ordered l.2 m.2 rest)

neither_first : (xs ys : List ℕ) → is_lt (slice_cmp nat_cmp xs ys) ≡ false → is_lt (slice_cmp nat_cmp ys xs) ≡ false → xs ≡ ys
neither_first [] [] e f = refl
neither_first [] (y ∷ ys) e f = absurd cc
neither_first (x ∷ xs) [] e f = absurd cc
neither_first (x ∷ xs) (y ∷ ys) e f = elim (cases_order x y) [
  | inl same ↦
      let a = le-ltb x y (omega arith) in
      let b = eq-eqb x y same in
      let c = le-ltb y x (omega arith) in
      let d = eq-eqb y x (sym same) in
      ap₂ (λ (u : ℕ) (us : List ℕ). u ∷ us) same (neither_first xs ys (rw (a, b) at e) (rw (c, d) at f))
  | inr (inl less) ↦ let a = lt-ltb x y less in let g : true ≡ false = rw a at e in absurd cc
  | inr (inr more) ↦ let a = lt-ltb y x more in let g : true ≡ false = rw a at f in absurd cc
]

same_cycle : (es : List Edge) (a : ℕ) (p q : List Edge) → AreOrdered es → IsCycleAt es a p → IsCycleAt es a q → p ≡ q
same_cycle es a p q ordered c d =
    let one = c.shortest q d.some d.around in
    let two = d.shortest p c.some c.around in
    same_way es a a a p q ordered c.around d.around
    (neither_first (addresses p) (addresses q) (d.first p c.around (omega arith)) (c.first q d.around (omega arith)))

cycles_among : (es : List Edge) (cs ds : List Cycle) → AreOrdered es → AreCycles es cs → AreCycles es ds → (c : Cycle) → Contains cs c → Contains ds c
cycles_among es cs ds ordered a b c there =
    let k = a.each c there in
    let d = b.all (start c) k.0 in
    let other = subst (λ (x : ℕ). IsCycleAt es x d.0.edges) d.2 (b.each d.0 d.1).1 in
    let same : d.0.edges ≡ c.edges = same_cycle es (start c) d.0.edges c.edges ordered other k.1 in
    let whole : ◌≡◌ {A = Cycle} d.0 c = ap (λ (p : List Edge). record { edges = p }) same in
    subst (Contains ds) whole d.1

same_cycles : (es : List Edge) (cs ds : List Cycle) → AreOrdered es → AreCycles es cs → AreCycles es ds → cs ≡ ds
same_cycles es cs ds ordered a b =
    same_sorted nat_cmp start nat_turn cs ds a.ordered b.ordered (cycles_among es cs ds ordered a b) (cycles_among es ds cs ordered b a)

pub same_text : (h : List Moment) (m n : ℕ) (text other : List ℕ) → IsLockText h m text → IsLockText h n other → (m ≡ n) × (text ≡ other)
same_text h m n text other a b =
    let edges = same_edges h a.edges b.edges a.are_edges b.are_edges in
    let cycles = same_cycles b.edges a.cycles b.cycles b.are_edges.ordered
    (subst (λ (es : List Edge). AreCycles es a.cycles) edges a.are_cycles) b.are_cycles in (
      a.count_is ∙ (ap length cycles ∙ sym b.count_is),
      a.text_is ∙ (ap (λ (cs : List Cycle). flat_map (λ (c : Cycle). cycle_lines c.edges) cs ++ count_line (length cs)) cycles ∙ sym b.text_is),
    )
