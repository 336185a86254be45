-- Knots, one node and one knot at a time.
use Rattle.std.proofs.Common.{◌≡◌, ℕ, suc, ◌<◌, ◌≤◌, Bool, true, false, List, [], ◌∷◌, ◌++◌, length, set, map, replicate}
use Rattle.std.proofs.Common.{refl, sym, ap, ◌∙◌, subst, inl, inr, arith}
use Rattle.std.specs.List.{Contains}
use Rattle.std.proofs.lemmas.Bool.{cases_eq, cases_Bool, both_ways}
use Rattle.std.proofs.lemmas.List.{length-set, get_or-set_same, get_or-set_other, length_push, length-replicate}
use Rattle.std.proofs.lemmas.List.Elements.{Contains-push, Contains-append_left, Contains-push_cases, Contains-get_or}
use Rattle.graph_search.specs.declared.graph.Link.{Link}
use Rattle.graph_search.specs.Graphs.{AreFrom, turn}
use Rattle.graph_search.specs.Walks.{Walk, one, more}
use Rattle.graph_search.specs.Searches.{at}
use Rattle.graph_search.specs.Knots.{IsReached, AreTied, AreKnots}
use Rattle.graph_search.specs.Descents.{flag, IsFinishing}
use Rattle.graph_search.specs.Gatherings.{Places, Gathers, KnowsKnots}
use Rattle.graph_search.proofs.GraphLaws.{contains-turned, contains-turn}
use Rattle.graph_search.proofs.SearchLaws.{contains_at}
use Rattle.graph_search.proofs.ReachLaws.{reached-on, reached-link, reached-among, tied-turned, tied-on}
use Rattle.graph_search.proofs.DescentLaws.{flag_inside, no_flag, mark-kept, mark-only, mark-one}

pub places-none : (root : ℕ) (placed : List Bool) (knots ahead : List ℕ) → Places [] root placed knots ahead placed knots ahead
places-none root placed knots ahead = record {
  size = refl;
  long = refl;
  count = refl;
  kept = λ v t. t;
  same = λ v t. refl;
  numbered = λ v f t. absurd (both_ways (flag placed v) f t);
  opened = λ v f t. absurd (both_ways (flag placed v) f t);
  by = λ v f t. absurd (both_ways (flag placed v) f t);
  all = λ l c. absurd (omega (arith, c.1));
  stays = λ v c. c;
  only = λ v c. inl c;
}

-- a link to a node that is placed
pub places-there : (own : List Link) (l : Link) (root : ℕ) (placed : List Bool) (knots ahead : List ℕ) (placed' : List Bool) (knots' ahead' : List ℕ) →
    Places own root placed knots ahead placed' knots' ahead' → flag placed' l.to ≡ true → Places (own ++ l ∷ []) root placed knots ahead placed' knots' ahead'
places-there own l root placed knots ahead placed' knots' ahead' p there = record {
  size = p.size;
  long = p.long;
  count = p.count;
  kept = p.kept;
  same = p.same;
  numbered = p.numbered;
  opened = p.opened;
  by = λ v f t. let b = p.by v f t in (b.0, Contains-append_left own (l ∷ []) b.0 b.1, b.2);
  all = λ k c. elim (Contains-push_cases own l k c) [
    | inl before ↦ p.all k before
    | inr is ↦ subst (λ (x : Link). flag placed' x.to ≡ true) is there
  ];
  stays = p.stays;
  only = p.only;
}

-- a link to a node that isn't
pub places-new : (own : List Link) (l : Link) (root : ℕ) (placed : List Bool) (knots ahead : List ℕ) (placed' : List Bool) (knots' ahead' : List ℕ) →
    Places own root placed knots ahead placed' knots' ahead' → flag placed' l.to ≡ false → l.to < length placed' → l.to < length knots' →
    Places (own ++ l ∷ []) root placed knots ahead (set placed' l.to true) (set knots' l.to root) (ahead' ++ l.to ∷ [])
places-new own l root placed knots ahead placed' knots' ahead' p free inside inner =
    let before : flag placed l.to ≡ false = elim (cases_Bool (flag placed l.to)) [
      | inl t ↦ absurd (both_ways (flag placed' l.to) free (p.kept l.to t))
      | inr f ↦ f
    ] in
    let here : flag (set placed' l.to true) l.to ≡ true = get_or-set_same placed' l.to true false inside in
    record {
      size = length-set placed' l.to true ∙ p.size;
      long = length-set knots' l.to root ∙ p.long;
      count = omega (arith, mark-one placed' l.to inside free, length_push ahead' l.to, p.count);
      kept = λ v t. mark-kept placed' l.to v (p.kept v t);
      same = λ v t.
          let other : v ≡ l.to → ⊥ = λ e. both_ways (flag placed l.to) before (subst (λ (x : ℕ). flag placed x ≡ true) e t) in
          get_or-set_other knots' l.to v root 0 other ∙ p.same v t;
      numbered = λ v f t. elim (cases_eq v l.to) [
        | inl e ↦ ap (at (set knots' l.to root)) e ∙ get_or-set_same knots' l.to root 0 inner
        | inr n ↦ get_or-set_other knots' l.to v root 0 n ∙ p.numbered v f (sym (get_or-set_other placed' l.to v true false n) ∙ t)
      ];
      opened = λ v f t. elim (mark-only placed' l.to v t) [
        | inl e ↦ subst (Contains (ahead' ++ l.to ∷ [])) e (Contains-push ahead' l.to)
        | inr s ↦ Contains-append_left ahead' (l.to ∷ []) v (p.opened v f s)
      ];
      by = λ v f t. elim (mark-only placed' l.to v t) [
        | inl e ↦ (l, Contains-push own l, e)
        | inr s ↦ let b = p.by v f s in (b.0, Contains-append_left own (l ∷ []) b.0 b.1, b.2)
      ];
      all = λ k c. elim (Contains-push_cases own l k c) [
        | inl b ↦ mark-kept placed' l.to k.to (p.all k b)
        | inr is ↦ subst (λ (x : Link). flag (set placed' l.to true) x.to ≡ true) is here
      ];
      stays = λ v c. Contains-append_left ahead' (l.to ∷ []) v (p.stays v c);
      only = λ v c. elim (Contains-push_cases ahead' l.to v c) [
        | inl b ↦ elim (p.only v b) [
          | inl o ↦ inl o
          | inr n ↦ inr (n.0, mark-kept placed' l.to v n.1)
        ]
        | inr e ↦ inr (subst (λ (x : ℕ). flag placed x ≡ false) e before, subst (λ (x : ℕ). flag (set placed' l.to true) x ≡ true) e here)
      ];
    }

-- the root is placed
pub gathers-begin : (links : List Link) (root : ℕ) (placed : List Bool) (knots : List ℕ) → flag placed root ≡ false → root < length placed →
    root < length knots → Gathers links root placed knots (set placed root true) (set knots root root) (root ∷ [])
gathers-begin links root placed knots free inside inner =
    let new : (v : ℕ) → flag placed v ≡ false → flag (set placed root true) v ≡ true → root ≡ v = λ v f t. elim (mark-only placed root v t) [
      | inl e ↦ e
      | inr s ↦ absurd (both_ways (flag placed v) f s)
    ] in
    let here : flag (set placed root true) root ≡ true = get_or-set_same placed root true false inside in
    record {
      size = length-set placed root true;
      long = length-set knots root root;
      kept = λ v t. mark-kept placed root v t;
      same = λ v t. get_or-set_other knots root v root 0 (λ e. both_ways (flag placed root) free (subst (λ (x : ℕ). flag placed x ≡ true) e t));
      numbered = λ v f t. ap (at (set knots root root)) (sym (new v f t)) ∙ get_or-set_same knots root root 0 inner;
      leads = λ v f t. inl (sym (new v f t));
      begun = here;
      closed = λ l c f t. inl (subst (Contains (root ∷ [])) (new l.to f t) (Contains-push [] root));
      new = λ v c. elim (Contains-push_cases [] root v c) [
        | inl none ↦ absurd (omega (arith, none.1))
        | inr e ↦ (subst (λ (x : ℕ). flag placed x ≡ false) e free, subst (λ (x : ℕ). flag (set placed root true) x ≡ true) e here)
      ];
    }

pub last_gathered : (links : List Link) (root node : ℕ) (placed : List Bool) (knots : List ℕ) (placed' : List Bool) (knots' ahead : List ℕ) →
    Gathers links root placed knots placed' knots' (ahead ++ node ∷ []) → node < length placed
last_gathered links root node placed knots placed' knots' ahead g =
    omega (arith, flag_inside placed' node (g.new node (Contains-push ahead node)).1, g.size)

-- the links of one more node are passed
pub gathers-more : (others own : List Link) (root node : ℕ) (placed : List Bool) (knots : List ℕ) (placed' : List Bool) (knots' ahead : List ℕ)
    (placed'' : List Bool) (knots'' ahead'' : List ℕ) → AreFrom others node own →
    Gathers (map turn others) root placed knots placed' knots' (ahead ++ node ∷ []) → Places own root placed' knots' ahead placed'' knots'' ahead'' →
    Gathers (map turn others) root placed knots placed'' knots'' ahead''
gathers-more others own root node placed knots placed' knots' ahead placed'' knots'' ahead'' o g p =
    let links = map turn others in
    record {
      size = p.size ∙ g.size;
      long = p.long ∙ g.long;
      kept = λ v t. p.kept v (g.kept v t);
      same = λ v t. p.same v (g.kept v t) ∙ g.same v t;
      numbered = λ v f t. elim (cases_Bool (flag placed' v)) [
        | inl s ↦ p.same v s ∙ g.numbered v f s
        | inr n ↦ p.numbered v n t
      ];
      leads = λ v f t. elim (cases_Bool (flag placed' v)) [
        | inl s ↦ g.leads v f s
        | inr n ↦
            let b = p.by v n t in
            let here = g.new node (Contains-push ahead node) in
            reached-on links v node root (reached-link links (turn b.0) v node (contains-turned others b.0 (o.each b.0 b.1)) b.2 (o.from b.0 b.1))
            (g.leads node here.0 here.1)
      ];
      begun = p.kept root g.begun;
      closed = λ l c f t. elim (cases_Bool (flag placed' l.to)) [
        | inl s ↦ elim (g.closed l c f s) [
          | inl in' ↦ elim (Contains-push_cases ahead node l.to in') [
            | inl b ↦ inl (p.stays l.to b)
            | inr e ↦ inr (p.all (turn l) (o.all (turn l) (contains-turn others l c) (sym e)))
          ]
          | inr from ↦ inr (p.kept l.from from)
        ]
        | inr n ↦ inl (p.opened l.to n t)
      ];
      new = λ v c. elim (p.only v c) [
        | inl old ↦ let n = g.new v (Contains-append_left ahead (node ∷ []) v old) in (n.0, p.kept v n.1)
        | inr n ↦ (
          elim (cases_Bool (flag placed v)) [
            | inl t ↦ absurd (both_ways (flag placed' v) n.0 (g.kept v t))
            | inr f ↦ f
          ],
          n.1,
        )
      ];
    }

-- the same of links in another order
pub gathers-among : (links others : List Link) (root : ℕ) (placed : List Bool) (knots : List ℕ) (placed' : List Bool) (knots' : List ℕ) →
    ((l : Link) → Contains others l → Contains links l) → ((l : Link) → Contains links l → Contains others l) →
    Gathers others root placed knots placed' knots' [] → Gathers links root placed knots placed' knots' []
gathers-among links others root placed knots placed' knots' to from g = record {
  size = g.size;
  long = g.long;
  kept = g.kept;
  same = g.same;
  numbered = g.numbered;
  leads = λ v f t. reached-among links others to v root (g.leads v f t);
  begun = g.begun;
  closed = λ l c f t. g.closed l (from l c) f t;
  new = g.new;
}

pub knows-begin : (links : List Link) (nodes n : ℕ) (done knots : List ℕ) → n ≡ nodes → length knots ≡ nodes →
    KnowsKnots links nodes done (length done) (replicate n false) knots
knows-begin links nodes n done knots e size =
    let none : (v : ℕ) → flag (replicate n false) v ≡ true → ⊥ = λ v t. both_ways (flag (replicate n false) v) (no_flag n v) t in
    record {
      size = length-replicate {A = Bool} n false ∙ e;
      long = size;
      later = λ k low high. absurd (omega arith);
      within = λ v t. absurd (none v t);
      tied = λ v t. absurd (none v t);
      whole = λ u v t r. absurd (none u t);
      same = λ u v t r. absurd (none u t);
    }

-- the node at the place is placed
pub knows-there : (links : List Link) (nodes : ℕ) (done : List ℕ) (n : ℕ) (placed : List Bool) (knots : List ℕ) →
    KnowsKnots links nodes done (suc n) placed knots → flag placed (at done n) ≡ true → KnowsKnots links nodes done n placed knots
knows-there links nodes done n placed knots k there = record {
  size = k.size;
  long = k.long;
  later = λ j low high. elim (cases_eq j n) [
    | inl e ↦ subst (λ (x : ℕ). flag placed (at done x) ≡ true) (sym e) there
    | inr other ↦ k.later j (omega arith) high
  ];
  within = k.within;
  tied = k.tied;
  whole = k.whole;
  same = k.same;
}

-- its knot is gathered
module _ (links : List Link) (nodes : ℕ) (done : List ℕ) (n : ℕ) (placed : List Bool) (knots : List ℕ) (placed' : List Bool) (knots' : List ℕ)
    (f : IsFinishing links nodes done) (inside : n < length done) (k : KnowsKnots links nodes done (suc n) placed knots)
    (free : flag placed (at done n) ≡ false) (g : Gathers links (at done n) placed knots placed' knots' []) where
  closed : (l : Link) → Contains links l → flag placed l.to ≡ false → flag placed' l.to ≡ true → flag placed' l.from ≡ true
  closed l c was is = elim (g.closed l c was is) [
    | inl none ↦ absurd (omega (arith, none.1))
    | inr t ↦ t
  ]

  -- a node that is tied with one that wasn't placed wasn't either
  untied : (u v : ℕ) → flag placed u ≡ false → AreTied links u v → flag placed v ≡ false
  untied u v was r = elim (cases_Bool (flag placed v)) [
    | inl t ↦ absurd (both_ways (flag placed u) was (k.whole v u t (tied-turned links u v r)))
    | inr free' ↦ free'
  ]

  -- what is gathered is tied with the node
  new_tied : (v : ℕ) → flag placed v ≡ false → flag placed' v ≡ true → AreTied links (at done n) v
  new_tied v was is =
      let small : v < nodes = omega (arith, flag_inside placed' v is, g.size, k.size) in
      let o = f.order v (at done n) small (g.leads v was is) in
      let low : n ≤ o.place = o.last n inside refl in
      elim (cases_eq o.place n) [
        | inl e ↦ subst (λ (x : ℕ). AreTied links (at done x) v) e o.tied
        | inr other ↦ absurd (both_ways (flag placed v) was (k.whole (at done o.place) v (k.later o.place (omega arith) o.inside) o.tied))
      ]

  -- a walk from a node that is tied with the root to one that is gathered begins at one that is
  pulled : (x : ℕ) → AreTied links (at done n) x → {m y : ℕ} → Walk links x m y → flag placed y ≡ false → flag placed' y ≡ true → flag placed' x ≡ true
  pulled x r (one {l} c e) was is = subst (λ (z : ℕ). flag placed' z ≡ true) e (closed l c was is)
  pulled x r (more {m} {b} {l} w c e) was is =
      let at_from : flag placed' l.from ≡ true = closed l c was is in
      let here : flag placed' b ≡ true = subst (λ (z : ℕ). flag placed' z ≡ true) e at_from in
      let on : IsReached links b l.to = reached-link links l b l.to c e refl in
      let tied : AreTied links (at done n) b = record {
        forth = reached-on links (at done n) x b r.forth (inr (m, w));
        back = reached-on links b l.to (at done n) on (new_tied l.to was is).back;
      } in
      pulled x r w (untied (at done n) b free tied) here

  new_whole : (u v : ℕ) → flag placed u ≡ false → flag placed' u ≡ true → AreTied links u v → flag placed' v ≡ true
  new_whole u v was is r = elim r.back [
    | inl e ↦ subst (λ (z : ℕ). flag placed' z ≡ true) (sym e) is
    | inr w ↦ pulled v (tied-on links (at done n) u v (new_tied u was is) r) w.1 was is
  ]

  pub knows-more : KnowsKnots links nodes done n placed' knots'
  knows-more = record {
    size = g.size ∙ k.size;
    long = g.long ∙ k.long;
    later = λ j low high. elim (cases_eq j n) [
      | inl e ↦ subst (λ (x : ℕ). flag placed' (at done x) ≡ true) (sym e) g.begun
      | inr other ↦ g.kept (at done j) (k.later j (omega arith) high)
    ];
    within = λ v is. elim (cases_Bool (flag placed v)) [
      | inl t ↦ omega (arith, k.within v t, g.same v t)
      | inr was ↦ omega (arith, g.numbered v was is, f.within (at done n) (Contains-get_or done n 0 inside))
    ];
    tied = λ v is. elim (cases_Bool (flag placed v)) [
      | inl t ↦ subst (λ (x : ℕ). AreTied links x v) (sym (g.same v t)) (k.tied v t)
      | inr was ↦ subst (λ (x : ℕ). AreTied links x v) (sym (g.numbered v was is)) (new_tied v was is)
    ];
    whole = λ u v is r. elim (cases_Bool (flag placed u)) [
      | inl t ↦ g.kept v (k.whole u v t r)
      | inr was ↦ new_whole u v was is r
    ];
    same = λ u v is r. elim (cases_Bool (flag placed u)) [
      | inl t ↦ g.same v (k.whole u v t r) ∙ (k.same u v t r ∙ sym (g.same u t))
      | inr was ↦ g.numbered v (untied u v was r) (new_whole u v was is r) ∙ sym (g.numbered u was is)
    ];
  }

-- all nodes are placed
pub knows-end : (links : List Link) (nodes : ℕ) (done : List ℕ) (placed : List Bool) (knots : List ℕ) → IsFinishing links nodes done →
    KnowsKnots links nodes done 0 placed knots → AreKnots links knots
knows-end links nodes done placed knots f k =
    let all : (v : ℕ) → v < length knots → flag placed v ≡ true = λ v l.
    let c = contains_at done v (f.all v (omega (arith, k.long))) in
    subst (λ (x : ℕ). flag placed x ≡ true) c.2 (k.later c.0 (omega arith) c.1)
    in
    record {
      within = λ v l. omega (arith, k.within v (all v l), k.long);
      tied = λ a b l h e.
          tied-on links a (at knots a) b (tied-turned links (at knots a) a (k.tied a (all a l)))
          (subst (λ (x : ℕ). AreTied links x b) (sym e) (k.tied b (all b h)));
      same = λ a b l h r. sym (k.same a b (all a l) r);
    }
