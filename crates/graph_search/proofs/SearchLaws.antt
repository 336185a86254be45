-- A breadth-first search, one link and one node at a time.
use Rattle.std.proofs.Common.{◌≡◌, ◌⊎◌, ℕ, zero, suc, ◌+◌, ◌<◌, ◌≤◌, ◌==◌, Bool, cond, List, [], ◌∷◌, ◌++◌, length, set, replicate, refl, sym, ap}
use Rattle.std.proofs.Common.{◌∙◌, subst, inl, inr, arith}
use Rattle.std.specs.List.{Contains}
use Rattle.std.proofs.lemmas.Bool.{eq-eqb, ne_eqb, cases_eq, cases_lt}
use Rattle.std.proofs.lemmas.List.{length-set, get_or-set_same, get_or-set_other, get_or_append_left, get_or_push, length_push, length-replicate}
use Rattle.std.proofs.lemmas.List.{get_or-replicate, get_or_past, get_or_default}
use Rattle.std.proofs.lemmas.List.Elements.{Contains-push, Contains-append_left, Contains-push_cases}
use Rattle.std.proofs.lemmas.List.Sums.{sum_by-set, sum_by-cons}
use Rattle.graph_search.specs.declared.graph.Link.{Link}
use Rattle.graph_search.specs.Graphs.{AreFrom}
use Rattle.graph_search.specs.Walks.{Walk, one, more, AreDistances}
use Rattle.graph_search.specs.Searches.{at, zeros, Spreads, Searches}

pub spreads-none : (next : ℕ) (ds queue : List ℕ) → Spreads [] next ds queue ds queue
spreads-none next ds queue = record {
  size = refl;
  count = refl;
  kept = λ v p. refl;
  new = λ v z p. absurd (omega arith);
  by = λ v z p. absurd (omega arith);
  queued = λ v z p. absurd (omega arith);
  all = λ l c. absurd (omega (arith, c.1));
  grown = omega arith;
  same = λ i l. refl;
  fresh = λ i l h. absurd (omega arith);
}

-- a link to a node that has a distance
pub spreads-there : (links : List Link) (l : Link) (next : ℕ) (ds queue ds' queue' : List ℕ) → Spreads links next ds queue ds' queue' → 0 < at ds' l.to →
    Spreads (links ++ l ∷ []) next ds queue ds' queue'
spreads-there links l next ds queue ds' queue' s there = record {
  size = s.size;
  count = s.count;
  kept = s.kept;
  new = s.new;
  by = λ v z p. let b = s.by v z p in (b.0, Contains-append_left links (l ∷ []) b.0 b.1, b.2);
  queued = s.queued;
  all = λ k c. elim (Contains-push_cases links l k c) [
    | inl before ↦ s.all k before
    | inr is ↦ subst (λ (k : Link). 0 < at ds' k.to) is there
  ];
  grown = s.grown;
  same = s.same;
  fresh = s.fresh;
}

at-other : (ds : List ℕ) (v next w : ℕ) → at ds v ≡ 0 → 0 < at ds w → at (set ds v next) w ≡ at ds w
at-other ds v next w none some = get_or-set_other ds v w next 0 (λ e. omega (arith, ap (at ds) e))

positive-either : (ds : List ℕ) (v next w : ℕ) → at ds v ≡ 0 → v < length ds → 0 < at (set ds v next) w → (v ≡ w) ⊎ (0 < at ds w)
positive-either ds v next w none l p = elim (cases_eq w v) [
  | inl e ↦ inl (sym e)
  | inr e ↦ inr (subst (λ (n : ℕ). 0 < n) (get_or-set_other ds v w next 0 e) p)
]

one_less : (ds : List ℕ) (v next : ℕ) → at ds v ≡ 0 → v < length ds → 0 < next → suc (zeros (set ds v next)) ≡ zeros ds
one_less ds v next none l p =
    let was : cond {A = ℕ} (at ds v == 0) 1 0 ≡ 1 = ap (λ (b : Bool). cond {A = ℕ} b 1 0) (eq-eqb (at ds v) 0 none) in
    let is : cond {A = ℕ} (next == 0) 1 0 ≡ 0 = ap (λ (b : Bool). cond {A = ℕ} b 1 0) (ne_eqb next 0 (λ e. omega arith)) in
    let changed : zeros (set ds v next) + cond {A = ℕ} (at ds v == 0) 1 0 ≡ zeros ds + cond {A = ℕ} (next == 0) 1 0 =
    sum_by-set (λ (d : ℕ). cond {A = ℕ} (d == 0) 1 0) ds v next 0 l in
    omega arith

-- a link to a node that has none
pub spreads-new : (links : List Link) (l : Link) (next : ℕ) (ds queue ds' queue' : List ℕ) → Spreads links next ds queue ds' queue' → 0 < next →
    at ds' l.to ≡ 0 → l.to < length ds' → Spreads (links ++ l ∷ []) next ds queue (set ds' l.to next) (queue' ++ l.to ∷ [])
spreads-new links l next ds queue ds' queue' s positive none inside =
    let here : at (set ds' l.to next) l.to ≡ next = get_or-set_same ds' l.to next 0 inside in
    let long = length_push queue' l.to in
    record {
      size = length-set ds' l.to next ∙ s.size;
      count = omega (arith, one_less ds' l.to next none inside positive, s.count);
      kept = λ v p. let e = s.kept v p in at-other ds' l.to next v none (omega arith) ∙ e;
      new = λ v z p. elim (positive-either ds' l.to next v none inside p) [
        | inl e ↦ subst (λ (w : ℕ). at (set ds' l.to next) w ≡ next) e here
        | inr q ↦ at-other ds' l.to next v none q ∙ s.new v z q
      ];
      by = λ v z p. elim (positive-either ds' l.to next v none inside p) [
        | inl e ↦ (l, Contains-push links l, e)
        | inr q ↦ let b = s.by v z q in (b.0, Contains-append_left links (l ∷ []) b.0 b.1, b.2)
      ];
      queued = λ v z p. elim (positive-either ds' l.to next v none inside p) [
        | inl e ↦ subst (λ (w : ℕ). Contains (queue' ++ l.to ∷ []) w) e (Contains-push queue' l.to)
        | inr q ↦ Contains-append_left queue' (l.to ∷ []) v (s.queued v z q)
      ];
      all = λ k c. elim (Contains-push_cases links l k c) [
        | inl before ↦ let p = s.all k before in let e = at-other ds' l.to next k.to none p in omega arith
        | inr is ↦ subst (λ (k : Link). 0 < at (set ds' l.to next) k.to) is (omega arith)
      ];
      grown = omega (arith, s.grown);
      same = λ i h. get_or_append_left queue' (l.to ∷ []) 0 i (omega (arith, s.grown)) ∙ s.same i h;
      fresh = λ i h k. elim (cases_lt i (length queue')) [
        | inl before ↦
            let f = s.fresh i h before in
            ap (at (set ds' l.to next)) (get_or_append_left queue' (l.to ∷ []) 0 i before) ∙ (at-other ds' l.to next (at queue' i) none (omega arith) ∙ f)
        | inr behind ↦
            ap (at (set ds' l.to next)) (get_or_push queue' l.to 0 i (omega arith)) ∙ here
      ];
    }

at_replicate : (n v : ℕ) → at (replicate n 0) v ≡ 0
at_replicate n v = elim (cases_lt v n) [
  | inl l ↦ get_or-replicate n v 0 0 l
  | inr h ↦ get_or_past (replicate n 0) v 0 (omega (arith, length-replicate {A = ℕ} n 0))
]

all_zeros : (n : ℕ) → zeros (replicate n 0) ≡ n
all_zeros zero = refl
all_zeros (suc n) =
    let more : zeros (replicate (suc n) 0) ≡ 1 + zeros (replicate n 0) = sum_by-cons (λ (d : ℕ). cond {A = ℕ} (d == 0) 1 0) 0 (replicate n 0) in
    omega (arith, all_zeros n)

-- the search begins
pub searches-begin : (links own : List Link) (a n : ℕ) (ds queue : List ℕ) → AreFrom links a own → Spreads own 1 (replicate n 0) [] ds queue →
    Searches links a 0 ds queue
searches-begin links own a n ds queue f s =
    let ones : (i : ℕ) → i < length queue → at ds (at queue i) ≡ 1 = λ i l. s.fresh i (omega arith) l in
    record {
      sound = λ v p.
          let b = s.by v (at_replicate n v) p in
          let d = s.new v (at_replicate n v) p in
          subst (λ (m : ℕ). Walk links a m v) (sym d)
          (subst (λ (w : ℕ). Walk links a 1 w) b.2 (one (f.each b.0 b.1) (f.from b.0 b.1)));
      count = s.count ∙ (omega (arith, all_zeros n, s.size, length-replicate {A = ℕ} n 0));
      queued = λ v p. s.queued v (at_replicate n v) p;
      reached = λ i l. omega (arith, ones i l);
      rising = λ i j le l. omega (arith, ones i (omega arith), ones j l);
      near = λ h j l. omega (arith, ones j l);
      short = λ i l. omega (arith, ones i l);
      first = λ l c e.
          let p = s.all l (f.all l c e) in
          (p, omega (arith, s.new l.to (at_replicate n l.to) p));
      closed = λ i l. absurd (omega arith);
      within = omega arith;
    }

pub contains_at : (xs : List ℕ) (v : ℕ) → Contains xs v → (k : ℕ) × (k < length xs) × (at xs k ≡ v)
contains_at xs v (k, l, e) = (k, l, get_or_default xs k 0 v l ∙ e)

pub contains_from : (xs : List ℕ) (v k : ℕ) → k < length xs → at xs k ≡ v → Contains xs v
contains_from xs v k l e = (k, l, get_or_default xs k v 0 l ∙ e)

-- one more node is done
pub searches-more : (links own : List Link) (a head : ℕ) (ds queue ds' queue' : List ℕ) → head < length queue → AreFrom links (at queue head) own →
    Searches links a head ds queue → Spreads own (suc (at ds (at queue head))) ds queue ds' queue' → Searches links a (suc head) ds' queue'
searches-more links own a head ds queue ds' queue' inside o f s =
    let d = at ds (at queue head) in
    let before : (i : ℕ) → i < length queue → at ds' (at queue' i) ≡ at ds (at queue i) =
    λ i l. ap (at ds') (s.same i l) ∙ s.kept (at queue i) (f.reached i l) in
    let behind : (i : ℕ) → length queue ≤ i → i < length queue' → at ds' (at queue' i) ≡ suc d = s.fresh in
    let close : (j : ℕ) → j < length queue → at ds (at queue j) ≤ suc d = f.near inside in
    record {
      sound = λ v p. elim (cases_lt 0 (at ds v)) [
        | inl q ↦ subst (λ (m : ℕ). Walk links a m v) (sym (s.kept v q)) (f.sound v q)
        | inr z ↦
            let b = s.by v (omega arith) p in
            subst (λ (m : ℕ). Walk links a m v) (sym (s.new v (omega arith) p))
            (subst (λ (w : ℕ). Walk links a (suc d) w) b.2 (more (f.sound (at queue head) (f.reached head inside)) (o.each b.0 b.1) (o.from b.0 b.1)))
      ];
      count = omega (arith, s.count, f.count, s.size);
      queued = λ v p. elim (cases_lt 0 (at ds v)) [
        | inl q ↦
            let c = contains_at queue v (f.queued v q) in
            contains_from queue' v c.0 (omega (arith, c.1, s.grown)) (s.same c.0 c.1 ∙ c.2)
        | inr z ↦ s.queued v (omega arith) p
      ];
      reached = λ i l. elim (cases_lt i (length queue)) [
        | inl b ↦ omega (arith, before i b, f.reached i b)
        | inr b ↦ omega (arith, behind i b l)
      ];
      rising = λ i j le l. elim (cases_lt j (length queue)) [
        | inl b ↦ omega (arith, before i (omega arith), before j b, f.rising i j le b)
        | inr b ↦ elim (cases_lt i (length queue)) [
          | inl c ↦ omega (arith, before i c, behind j b l, close i c)
          | inr c ↦ omega (arith, behind i c (omega arith), behind j b l)
        ]
      ];
      near = λ h j l.
          let least : d ≤ at ds' (at queue' (suc head)) = elim (cases_lt (suc head) (length queue)) [
            | inl b ↦ omega (arith, before (suc head) b, f.rising head (suc head) (omega arith) b)
            | inr b ↦ omega (arith, behind (suc head) b h)
          ] in
          elim (cases_lt j (length queue)) [
            | inl b ↦ omega (arith, before j b, close j b)
            | inr b ↦ omega (arith, behind j b l)
          ];
      short = λ i l. elim (cases_lt i (length queue)) [
        | inl b ↦ omega (arith, before i b, f.short i b)
        | inr b ↦ omega (arith, behind i b l, f.short head inside)
      ];
      first = λ l c e. let q = f.first l c e in let k = s.kept l.to q.0 in (omega arith, omega arith);
      closed = λ i lt l c e. elim (cases_lt i head) [
        | inl b ↦
            let q = f.closed i b l c (e ∙ s.same i (omega arith)) in
            let k = s.kept l.to q.0 in
            let u = before i (omega arith) in
            (omega arith, omega arith)
        | inr b ↦
            let here : i ≡ head = omega arith in
            let u = before i (omega arith) in
            let v : at ds (at queue i) ≡ d = ap (λ (n : ℕ). at ds (at queue n)) here in
            let p = s.all l (o.all l c (e ∙ (s.same i (omega arith) ∙ ap (at queue) here))) in (
              p,
              elim (cases_lt 0 (at ds l.to)) [
                | inl q ↦
                    let w = contains_at queue l.to (f.queued l.to q) in
                    let x : at ds (at queue w.0) ≡ at ds l.to = ap (at ds) w.2 in
                    omega (arith, s.kept l.to q, close w.0 w.1)
                | inr z ↦ omega (arith, s.new l.to (omega arith) p)
              ],
            )
      ];
      within = omega (arith, s.grown);
    }

-- all nodes of the queue are done
least_number : (links : List Link) (a head : ℕ) (ds queue : List ℕ) → Searches links a head ds queue → length queue ≤ head → {m b : ℕ} → Walk links a m b →
    (0 < at ds b) × (at ds b ≤ m)
least_number links a head ds queue f all (one {l} c e) = f.first l c e
least_number links a head ds queue f all (more {m} {b} {l} w c e) =
    let h = least_number links a head ds queue f all w in
    let k = contains_at queue b (f.queued b h.0) in
    let x : at ds (at queue k.0) ≡ at ds b = ap (at ds) k.2 in
    let q = f.closed k.0 (omega (arith, k.1)) l c (e ∙ sym k.2) in
    (q.0, omega arith)

pub searches-end : (links : List Link) (a head : ℕ) (ds queue : List ℕ) → Searches links a head ds queue → length queue ≤ head → AreDistances links a ds
searches-end links a head ds queue f all = record {
  reached = f.sound;
  least = λ m b w. least_number links a head ds queue f all w;
}

pub at_inside : (ds : List ℕ) (v : ℕ) → 0 < at ds v → v < length ds
at_inside ds v p = elim (cases_lt v (length ds)) [
  | inl l ↦ l
  | inr h ↦ absurd (omega (arith, get_or_past ds v 0 h))
]
