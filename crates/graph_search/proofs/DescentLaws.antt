-- A depth-first walk, one node at a time.
use Rattle.std.proofs.Common.{◌≡◌, ◌⊎◌, ℕ, suc, ◌+◌, ◌<◌, ◌≤◌, Bool, true, false, not, cond, List, [], ◌∷◌, ◌++◌, length, set, get_or, replicate}
use Rattle.std.proofs.Common.{refl, sym, ap, ◌∙◌, subst, inl, inr, arith}
use Rattle.std.specs.List.{Contains}
use Rattle.std.proofs.lemmas.Bool.{cases_eq, cases_lt, both_ways}
use Rattle.std.proofs.lemmas.List.{length-set, get_or-set_same, get_or-set_other, get_or_append_left, get_or_push, length_push, length-replicate}
use Rattle.std.proofs.lemmas.List.{get_or-replicate, get_or_past, get_or_default}
use Rattle.std.proofs.lemmas.List.Elements.{Contains-push, Contains-append_left, Contains-push_cases, Contains-get_or}
use Rattle.std.proofs.lemmas.List.Sums.{sum_by-set}
use Rattle.graph_search.specs.declared.graph.Link.{Link}
use Rattle.graph_search.specs.Graphs.{AreStarts}
use Rattle.graph_search.specs.Walks.{Walk, one, more}
use Rattle.graph_search.specs.Searches.{at}
use Rattle.graph_search.specs.Knots.{IsReached, AreTied}
use Rattle.graph_search.specs.Descents.{flag, end_at, unmarked, IsOpen, IsLater, IsDescent, IsFinishing}
use Rattle.graph_search.proofs.SearchLaws.{contains_at}
use Rattle.graph_search.proofs.ReachLaws.{reached-on, tied-itself, tied-on}

pub flag_inside : (marks : List Bool) (v : ℕ) → flag marks v ≡ true → v < length marks
flag_inside marks v t = elim (cases_lt v (length marks)) [
  | inl l ↦ l
  | inr h ↦ absurd (both_ways (flag marks v) (get_or_past marks v false h) t)
]

pub no_flag : (n v : ℕ) → flag (replicate n false) v ≡ false
no_flag n v = elim (cases_lt v n) [
  | inl l ↦ get_or-replicate n v false false l
  | inr h ↦ get_or_past (replicate n false) v false (omega (arith, length-replicate {A = Bool} n false))
]

-- one node more is marked
pub mark-kept : (marks : List Bool) (w v : ℕ) → flag marks v ≡ true → flag (set marks w true) v ≡ true
mark-kept marks w v t = elim (cases_eq v w) [
  | inl e ↦
      subst (λ (x : ℕ). flag (set marks w true) x ≡ true) (sym e)
      (get_or-set_same marks w true false (subst (λ (x : ℕ). x < length marks) e (flag_inside marks v t)))
  | inr n ↦ get_or-set_other marks w v true false n ∙ t
]

pub mark-only : (marks : List Bool) (w v : ℕ) → flag (set marks w true) v ≡ true → (w ≡ v) ⊎ (flag marks v ≡ true)
mark-only marks w v t = elim (cases_eq v w) [
  | inl e ↦ inl (sym e)
  | inr n ↦ inr (sym (get_or-set_other marks w v true false n) ∙ t)
]

pub mark-one : (marks : List Bool) (w : ℕ) → w < length marks → flag marks w ≡ false → unmarked (set marks w true) + 1 ≡ unmarked marks
mark-one marks w l f =
    let was : cond {A = ℕ} (not (flag marks w)) 1 0 ≡ 1 = ap (λ (b : Bool). cond {A = ℕ} (not b) 1 0) f in
    let changed : unmarked (set marks w true) + cond {A = ℕ} (not (flag marks w)) 1 0 ≡ unmarked marks + 0 =
    sum_by-set (λ (m : Bool). cond {A = ℕ} (not m) 1 0) marks w true false l in
    omega arith

-- where a link of a node stands
pub link_place : (nodes n : ℕ) (links : List Link) (starts : List ℕ) (l : Link) → AreStarts nodes links starts → n < nodes → Contains links l → l.from ≡ n →
    (k : ℕ) × (at starts n ≤ k) × (k < at starts (n + 1)) × (end_at links k ≡ l.to)
link_place nodes n links starts l s inside c e =
    let same : (get_or links c.0 l).from ≡ l.from = ap (λ (m : Link). m.from) c.2 in
    let first : at starts n ≤ c.0 = elim (cases_lt c.0 (at starts n)) [
      | inl b ↦ let q : (get_or links c.0 l).from < n = (s.parts n (omega arith)).0 c.0 l (omega arith) b in absurd (omega arith)
      | inr b ↦ b
    ] in
    let last : c.0 < at starts (n + 1) = elim (cases_lt c.0 (at starts (n + 1))) [
      | inl b ↦ b
      | inr b ↦ let q : n + 1 ≤ (get_or links c.0 l).from = (s.parts (n + 1) (omega arith)).1 c.0 l b c.1 in absurd (omega arith)
    ] in
    (c.0, first, last, ap (λ (m : Link). m.to) (get_or_default links c.0 (record { from = 0; to = 0 }) l c.1 ∙ c.2))

-- a link at a place of a node begins there
pub place_link : (nodes n k : ℕ) (links : List Link) (starts : List ℕ) → AreStarts nodes links starts → n < nodes → at starts n ≤ k → k < at starts (n + 1) →
    (l : Link) × Contains links l × (l.from ≡ n) × (l.to ≡ end_at links k)
place_link nodes n k links starts s inside low high =
    let nothing : Link = record { from = 0; to = 0 } in
    let all : at starts (n + 1) ≤ length links = s.within (n + 1) (omega arith) in
    let l : Link = get_or links k nothing in
    let above : n ≤ l.from = (s.parts n (omega arith)).1 k nothing low (omega arith) in
    let below : l.from < n + 1 = (s.parts (n + 1) (omega arith)).0 k nothing (omega arith) high in
    (l, Contains-get_or links k nothing (omega arith), omega arith, refl)

-- links of one more place of a node are passed
pub descent-pass : (links : List Link) (starts : List ℕ) (seen : List Bool) (next way done : List ℕ) (t place : ℕ) →
    IsDescent links starts seen next way done → t < length seen → at next t ≤ place → place ≤ at starts (t + 1) →
    ((k : ℕ) → at next t ≤ k → k < place → flag seen (end_at links k) ≡ true) → IsDescent links starts seen (set next t place) way done
descent-pass links starts seen next way done t place d inside up low pass =
    let here : at (set next t place) t ≡ place = get_or-set_same next t place 0 (omega (arith, d.size, d.places)) in
    record {
      size = d.size;
      places = length-set next t place ∙ d.places;
      on_way = d.on_way;
      in_done = d.in_done;
      either = d.either;
      bounds = λ v l. elim (cases_eq v t) [
        | inl e ↦
            subst (λ (x : ℕ). (at starts x ≤ at (set next t place) x) × (at (set next t place) x ≤ at starts (x + 1))) (sym e)
            (omega (arith, (d.bounds t inside).0), omega arith)
        | inr n ↦
            let same = get_or-set_other next t v place 0 n in
            (omega (arith, (d.bounds v l).0), omega (arith, (d.bounds v l).1))
      ];
      passed = λ v k l from to. elim (cases_eq v t) [
        | inl e ↦
            let was : at (set next t place) v ≡ place = ap (at (set next t place)) e ∙ here in
            elim (cases_lt k (at next t)) [
              | inl b ↦ d.passed t k inside (omega (arith, ap (at starts) e)) b
              | inr b ↦ pass k b (omega arith)
            ]
        | inr n ↦ d.passed v k l from (omega (arith, get_or-set_other next t v place 0 n))
      ];
      left = d.left;
      leads = d.leads;
      apart = d.apart;
      other = d.other;
      order = d.order;
    }

-- a node that isn't seen, and that is reached from each of the way, comes onto it
pub descent-on : (links : List Link) (starts : List ℕ) (seen : List Bool) (next way done : List ℕ) (w : ℕ) → IsDescent links starts seen next way done →
    w < length seen → flag seen w ≡ false → ((i : ℕ) → i < length way → IsReached links (at way i) w) →
    IsDescent links starts (set seen w true) next (way ++ w ∷ []) done
descent-on links starts seen next way done w d inside free to =
    let size = length-set seen w true in
    let long = length_push way w in
    let old : (i : ℕ) → i < length way → at (way ++ w ∷ []) i ≡ at way i = λ i l. get_or_append_left way (w ∷ []) 0 i l in
    let new : (i : ℕ) → length way ≡ i → at (way ++ w ∷ []) i ≡ w = λ i e. get_or_push way w 0 i e in
    record {
      size = omega (arith, d.size);
      places = d.places;
      on_way = λ v c. elim (Contains-push_cases way w v c) [
        | inl b ↦ mark-kept seen w v (d.on_way v b)
        | inr e ↦ subst (λ (x : ℕ). flag (set seen w true) x ≡ true) e (get_or-set_same seen w true false inside)
      ];
      in_done = λ v c. mark-kept seen w v (d.in_done v c);
      either = λ v t. elim (mark-only seen w v t) [
        | inl e ↦ inl (subst (Contains (way ++ w ∷ [])) e (Contains-push way w))
        | inr s ↦ elim (d.either v s) [
          | inl c ↦ inl (Contains-append_left way (w ∷ []) v c)
          | inr c ↦ inr c
        ]
      ];
      bounds = λ v l. d.bounds v (omega arith);
      passed = λ v k l from up. mark-kept seen w (end_at links k) (d.passed v k (omega arith) from up);
      left = λ l c e. mark-kept seen w l.to (d.left l c e);
      leads = λ i j less l. elim (cases_lt j (length way)) [
        | inl b ↦
            subst (λ (x : ℕ). IsReached links (at (way ++ w ∷ []) i) x) (sym (old j b))
            (subst (λ (x : ℕ). IsReached links x (at way j)) (sym (old i (omega arith))) (d.leads i j less b))
        | inr b ↦
            subst (λ (x : ℕ). IsReached links (at (way ++ w ∷ []) i) x) (sym (new j (omega arith)))
            (subst (λ (x : ℕ). IsReached links x w) (sym (old i (omega arith))) (to i (omega arith)))
      ];
      apart = λ i j less l e. elim (cases_lt j (length way)) [
        | inl b ↦ d.apart i j less b (sym (old i (omega arith)) ∙ (e ∙ old j b))
        | inr b ↦
            let is : at way i ≡ w = sym (old i (omega arith)) ∙ (e ∙ new j (omega arith)) in
            both_ways (flag seen w) free (subst (λ (x : ℕ). flag seen x ≡ true) is (d.on_way (at way i) (Contains-get_or way i 0 (omega arith))))
      ];
      other = λ v c f. elim (Contains-push_cases way w v c) [
        | inl b ↦ d.other v b f
        | inr e ↦ both_ways (flag seen w) free (subst (λ (x : ℕ). flag seen x ≡ true) (sym e) (d.in_done v f))
      ];
      order = λ u v c r. elim (d.order u v c r) [
        | inl o ↦ inl (record {
          place = o.place;
          inside = omega (arith, o.inside);
          tied = subst (λ (x : ℕ). AreTied links x u) (sym (old o.place o.inside)) o.tied;
        })
        | inr o ↦ inr o
      ];
    }

pub last_inside : (links : List Link) (starts : List ℕ) (seen : List Bool) (next way done : List ℕ) (t : ℕ) →
    IsDescent links starts seen next (way ++ t ∷ []) done → t < length seen
last_inside links starts seen next way done t d = flag_inside seen t (d.on_way t (Contains-push way t))

-- the last node of the way is left, whose links are all passed
module _ (nodes : ℕ) (links : List Link) (starts : List ℕ) (seen : List Bool) (next way done : List ℕ) (t : ℕ) (s : AreStarts nodes links starts)
    (d : IsDescent links starts seen next (way ++ t ∷ []) done) (all : at next t ≡ at starts (t + 1)) where
  t_there : Contains (way ++ t ∷ []) t
  t_there = Contains-push way t

  t_inside : t < nodes
  t_inside = omega (arith, flag_inside seen t (d.on_way t t_there), d.size, s.size)

  old : (i : ℕ) → i < length way → at (way ++ t ∷ []) i ≡ at way i
  old i l = get_or_append_left way (t ∷ []) 0 i l

  new : (i : ℕ) → length way ≡ i → at (way ++ t ∷ []) i ≡ t
  new i e = get_or_push way t 0 i e

  long : length (way ++ t ∷ []) ≡ length way + 1
  long = length_push way t

  left-more : (l : Link) → Contains links l → Contains (done ++ t ∷ []) l.from → flag seen l.to ≡ true
  left-more l c f = elim (Contains-push_cases done t l.from f) [
    | inl b ↦ d.left l c b
    | inr e ↦
        let k = link_place nodes t links starts l s t_inside c (sym e) in
        subst (λ (x : ℕ). flag seen x ≡ true) k.3 (d.passed t k.0 (omega (arith, t_inside, d.size, s.size)) k.1 (omega (arith, k.2)))
  ]

  either-more : (v : ℕ) → flag seen v ≡ true → Contains way v ⊎ Contains (done ++ t ∷ []) v
  either-more v f = elim (d.either v f) [
    | inl c ↦ elim (Contains-push_cases way t v c) [
      | inl b ↦ inl b
      | inr e ↦ inr (subst (Contains (done ++ t ∷ [])) e (Contains-push done t))
    ]
    | inr c ↦ inr (Contains-append_left done (t ∷ []) v c)
  ]

  -- what t leads to is left, or a node of the way is reached from t
  escape : {m v : ℕ} → Walk links t m v → Contains (done ++ t ∷ []) v ⊎ ((x : ℕ) × Contains way x × IsReached links t x)
  escape (one {l} c e) =
      let there : Contains (done ++ t ∷ []) l.from = subst (Contains (done ++ t ∷ [])) (sym e) (Contains-push done t) in
      elim (either-more l.to (left-more l c there)) [
        | inl b ↦ inr (l.to, b, inr (1, one c e))
        | inr b ↦ inl b
      ]
  escape (more {m} {b} {l} w c e) = elim (escape w) [
    | inl there ↦ elim (either-more l.to (left-more l c (subst (Contains (done ++ t ∷ [])) (sym e) there))) [
      | inl b ↦ inr (l.to, b, inr (suc m, more w c e))
      | inr b ↦ inl b
    ]
    | inr out ↦ inr out
  ]

  is_last : (u v : ℕ) → AreTied links t u → Contains (done ++ t ∷ []) v → IsLater links (done ++ t ∷ []) u v
  is_last u v tied there = record {
    there = there;
    place = length done;
    inside = omega (arith, length_push done t);
    tied = subst (λ (x : ℕ). AreTied links x u) (sym (get_or_push done t 0 (length done) refl)) tied;
    last = λ k l e. omega (arith, length_push done t);
  }

  is_open : (u x : ℕ) → AreTied links t u → Contains way x → IsReached links t x → IsOpen links way u
  is_open u x tied c r =
      let k = contains_at way x c in
      let down : IsReached links (at way k.0) t =
      subst (λ (y : ℕ). IsReached links (at way k.0) y) (new (length way) refl)
      (subst (λ (y : ℕ). IsReached links y (at (way ++ t ∷ []) (length way))) (old k.0 k.1) (d.leads k.0 (length way) k.1 (omega (arith, long)))) in
      record {
        place = k.0;
        inside = k.1;
        tied = tied-on links (at way k.0) t u (record { forth = down; back = subst (IsReached links t) (sym k.2) r }) tied;
      }

  order_tied : (u v : ℕ) → AreTied links t u → IsReached links t v → IsOpen links way u ⊎ IsLater links (done ++ t ∷ []) u v
  order_tied u v tied (inl e) = inr (is_last u v tied (subst (Contains (done ++ t ∷ [])) e (Contains-push done t)))
  order_tied u v tied (inr w) = elim (escape w.1) [
    | inl there ↦ inr (is_last u v tied there)
    | inr out ↦ inl (is_open u out.0 tied out.1 out.2)
  ]

  later-kept : (u v : ℕ) → IsLater links done u v → IsLater links (done ++ t ∷ []) u v
  later-kept u v o = record {
    there = Contains-append_left done (t ∷ []) v o.there;
    place = o.place;
    inside = omega (arith, o.inside, length_push done t);
    tied = subst (λ (x : ℕ). AreTied links x u) (sym (get_or_append_left done (t ∷ []) 0 o.place o.inside)) o.tied;
    last = λ k l e. elim (cases_lt k (length done)) [
      | inl b ↦ o.last k b (sym (get_or_append_left done (t ∷ []) 0 k b) ∙ e)
      | inr b ↦
          let is : t ≡ v = sym (get_or_push done t 0 k (omega (arith, length_push done t))) ∙ e in
          absurd (d.other t t_there (subst (Contains done) (sym is) o.there))
    ];
  }

  order-more : (u v : ℕ) → Contains (done ++ t ∷ []) u → IsReached links u v → IsOpen links way u ⊎ IsLater links (done ++ t ∷ []) u v
  order-more u v c r = elim (Contains-push_cases done t u c) [
    | inl b ↦ elim (d.order u v b r) [
      | inl o ↦ elim (cases_lt o.place (length way)) [
        | inl in' ↦ inl (record {
          place = o.place;
          inside = in';
          tied = subst (λ (x : ℕ). AreTied links x u) (old o.place in') o.tied;
        })
        | inr out ↦
            let tied : AreTied links t u = subst (λ (x : ℕ). AreTied links x u) (new o.place (omega (arith, long, o.inside))) o.tied in
            order_tied u v tied (reached-on links t u v tied.forth r)
      ]
      | inr o ↦ inr (later-kept u v o)
    ]
    | inr e ↦
        order_tied u v (subst (AreTied links t) e (tied-itself links t)) (subst (λ (x : ℕ). IsReached links x v) (sym e) r)
  ]

  pub descent-back : IsDescent links starts seen next way (done ++ t ∷ [])
  descent-back = record {
    size = d.size;
    places = d.places;
    on_way = λ v c. d.on_way v (Contains-append_left way (t ∷ []) v c);
    in_done = λ v c. elim (Contains-push_cases done t v c) [
      | inl b ↦ d.in_done v b
      | inr e ↦ d.on_way v (subst (Contains (way ++ t ∷ [])) e t_there)
    ];
    either = either-more;
    bounds = d.bounds;
    passed = d.passed;
    left = left-more;
    leads = λ i j less l.
        subst (λ (x : ℕ). IsReached links (at way i) x) (old j l)
        (subst (λ (x : ℕ). IsReached links x (at (way ++ t ∷ []) j)) (old i (omega arith)) (d.leads i j less (omega (arith, long))));
    apart = λ i j less l e. d.apart i j less (omega (arith, long)) (old i (omega arith) ∙ (e ∙ sym (old j l)));
    other = λ v c f. elim (Contains-push_cases done t v f) [
      | inl b ↦ d.other v (Contains-append_left way (t ∷ []) v c) b
      | inr e ↦
          let k = contains_at way v c in
          d.apart k.0 (length way) k.1 (omega (arith, long)) (old k.0 k.1 ∙ (k.2 ∙ (sym e ∙ sym (new (length way) refl))))
    ];
    order = order-more;
  }

-- the last node of the way, from which a link leads on
pub leads-on : (links : List Link) (starts : List ℕ) (seen : List Bool) (next way done : List ℕ) (t w : ℕ) →
    IsDescent links starts seen next (way ++ t ∷ []) done → IsReached links t w → (i : ℕ) → i < length (way ++ t ∷ []) →
    IsReached links (at (way ++ t ∷ []) i) w
leads-on links starts seen next way done t w d r i l =
    let long = length_push way t in
    let new : at (way ++ t ∷ []) (length way) ≡ t = get_or_push way t 0 (length way) refl in
    elim (cases_lt i (length way)) [
      | inl b ↦
          reached-on links (at (way ++ t ∷ []) i) t w
          (subst (λ (x : ℕ). IsReached links (at (way ++ t ∷ []) i) x) new (d.leads i (length way) b (omega arith))) r
      | inr b ↦ subst (λ (x : ℕ). IsReached links x w) (sym (get_or_push way t 0 i (omega arith))) r
    ]

none_there : (v : ℕ) → Contains {X = ℕ} [] v → ⊥
none_there v c = omega (arith, c.1)

pub descent-begin : (nodes n : ℕ) (links : List Link) (starts : List ℕ) → AreStarts nodes links starts → n ≡ nodes →
    ((v : ℕ) → v < nodes → at starts v ≤ at starts (v + 1)) → IsDescent links starts (replicate n false) starts [] []
descent-begin nodes n links starts s e rise =
    let size = length-replicate {A = Bool} n false in
    record {
      size = omega (arith, s.size);
      places = refl;
      on_way = λ v c. absurd (none_there v c);
      in_done = λ v c. absurd (none_there v c);
      either = λ v t. absurd (both_ways (flag (replicate n false) v) (no_flag n v) t);
      bounds = λ v l. (omega arith, rise v (omega arith));
      passed = λ v k l from to. absurd (omega arith);
      left = λ l c f. absurd (none_there l.from f);
      leads = λ i j less l. absurd (omega arith);
      apart = λ i j less l e. omega arith;
      other = λ v c f. none_there v c;
      order = λ u v c r. absurd (none_there u c);
    }

pub descent-end : (nodes : ℕ) (links : List Link) (starts : List ℕ) (seen : List Bool) (next done : List ℕ) → IsDescent links starts seen next [] done →
    length seen ≡ nodes → ((v : ℕ) → v < nodes → flag seen v ≡ true) → IsFinishing links nodes done
descent-end nodes links starts seen next done d size all =
    let there : (v : ℕ) → v < nodes → Contains done v = λ v l. elim (d.either v (all v l)) [
      | inl c ↦ absurd (none_there v c)
      | inr c ↦ c
    ] in
    record {
      within = λ v c. omega (arith, flag_inside seen v (d.in_done v c));
      all = there;
      order = λ u v l r. elim (d.order u v (there u l) r) [
        | inl o ↦ absurd (omega (arith, o.inside))
        | inr o ↦ o
      ];
    }
