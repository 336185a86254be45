-- Checks that stand rightly from a position on, and which label was spent there, after one more moment.
use Rattle.std.proofs.Common.{◌≡◌, ℕ, ◌<◌, ◌≤◌, ◌==◌, ◌&&◌, if◌then◌else◌, true, false, Option, Some, None, List, [], ◌∷◌, ◌++◌, length, length-append, refl, sym, ap, subst, ◌∙◌, arith, ◌⊎◌, inl, inr, eqb-true, eq-eqb}
use Rattle.std.specs.Prelude.{All, Contains}
use Rattle.std.specs.List.{AllZip}
use Rattle.std.proofs.Math.Seq.{get_or-append_seam}
use Rattle.std.proofs.lemmas.Bool.{cases_lt, cases_Bool, and_parts}
use Rattle.std.proofs.lemmas.List.Elements.{All-nil}
use Rattle.run_record.specs.declared.event.Event.{Event}
use Rattle.run_record.specs.declared.entry.Check.{Check}
use Rattle.run_record.specs.declared.entry.Label.{Label}
use Rattle.run_record.specs.declared.limits.Limits.{Limits}
use Rattle.run_laws.specs.Moments.{Does, Moment, moment_at, items}
use Rattle.run_laws.specs.Labels.{label_of, raises}
use Rattle.run_laws.specs.DeskNotes.{Spends}
use Rattle.run_laws.specs.Accesses.{Access, access_of, parts_of}
use Rattle.run_laws.specs.Checks.{ChecksPart, AreChecks, StoresRightly}
use Rattle.run_laws.specs.Loads.{cell_before}
use Rattle.run_laws.specs.Present.{label_now}
use Rattle.run_laws.proofs.PresentLaw.{trace_stay, cell_stay}
use Rattle.turn_laws.specs.Going.{AreRightFrom, HasSpent, spent_by, ChecksPartNow, AreChecksNow, LoadsNow, AreRightNow, IsNoEvent}
use Rattle.turn_laws.proofs.Carry.{past, at_stay, at_end, items_stay, does_inside, label_stay, weaken, checks_stay, spends_stay, spends_before}

at_seam : (h : List Moment) (m : Moment) → moment_at (h ++ m ∷ []) (length h) ≡ m
at_seam h m = get_or-append_seam h m [] past

-- a position with a moment is an old one or the last
old_or_seam : (h : List Moment) (m : Moment) (n : ℕ) → n < length (h ++ m ∷ []) → (n < length h) ⊎ (n ≡ length h)
old_or_seam h m n l = elim (cases_lt n (length h)) [ inl i ↦ inl i | inr i ↦ inr (omega (arith, length-append h (m ∷ []))) ]

contained : (P : Check → Type 0) (cs : List Check) (c : Check) → All P cs → Contains cs c → P c
contained P cs c a b = subst P b.2 (a b.0 c b.1)

pub right-none : (g : ℕ) (granule_of : ℕ → Option ℕ) (h : List Moment) → AreRightFrom g granule_of h (length h)
right-none g granule_of h = record {
  checks = λ n t e l q. absurd (let z = does_inside h n t e q in omega arith);
  stores = λ n c l b. absurd (none n c l b);
  loads = λ n c l b cell word q. absurd (none n c l b);
}
  where
    none : (n : ℕ) (c : Check) → length h ≤ n → Contains (moment_at h n).checks c → ⊥
    none n c l b = let y = b.1 in let z = ap (λ (m : Moment). length m.checks) (at_end h n l) in omega arith

module _ (g : ℕ) (granule_of : ℕ → Option ℕ) (h : List Moment) (from : ℕ) (m : Moment) (right : AreRightFrom g granule_of h from) (late : from ≤ length h)
    (checks : (t : ℕ) (e : Event) → m.item ≡ Does t e → AreChecksNow g granule_of h t (access_of e) m.checks) (stores : All StoresRightly m.checks) (loads : All (LoadsNow h) m.checks) where
  checks_there : (t : ℕ) (a : Option Access) → AreChecksNow g granule_of h t a m.checks → AreChecks g granule_of (h ++ m ∷ []) (length h) t a
  checks_there t None c = ap (λ (m : Moment). m.checks) (at_seam h m) ∙ c
  checks_there t (Some a) c =
      subst (λ (cs : List Check). AllZip (ChecksPart g (h ++ m ∷ []) (length h) t a) (parts_of granule_of a) cs) (sym (ap (λ (m : Moment). m.checks) (at_seam h m)))
      (weaken (ChecksPartNow g h t a) (ChecksPart g (h ++ m ∷ []) (length h) t a) (parts_of granule_of a) m.checks
      (λ part check p. record {
        label = p.label;
        labelled = label_stay g h (m ∷ []) (length h) t (omega arith) ∙ p.labelled;
        granule = p.granule;
        word = p.word;
        turn = rw (trace_stay g h (m ∷ []) (length h) t (omega arith)) p.turn;
        four = p.four;
      }) c)

  of_events : (n t : ℕ) (e : Event) → from ≤ n → items (h ++ m ∷ []) n ≡ Does t e → AreChecks g granule_of (h ++ m ∷ []) n t (access_of e)
  of_events n t e l q = elim (old_or_seam h m n (does_inside (h ++ m ∷ []) n t e q)) [
    | inl i ↦ checks_stay g granule_of h (m ∷ []) n t (access_of e) i (right.checks n t e l (sym (items_stay h (m ∷ []) n i) ∙ q))
    | inr z ↦
        let it : m.item ≡ Does t e = sym (ap (λ (m : Moment). m.item) (at_seam h m)) ∙ (ap (items (h ++ m ∷ [])) (sym z) ∙ q) in
        subst (λ x. AreChecks g granule_of (h ++ m ∷ []) x t (access_of e)) (sym z) (checks_there t (access_of e) (checks t e it))
  ]

  -- a check stands at an old position, or is the last moment's
  check_at : (n : ℕ) (c : Check) → Contains (moment_at (h ++ m ∷ []) n).checks c → ((n < length h) × Contains (moment_at h n).checks c) ⊎ ((n ≡ length h) × Contains m.checks c)
  check_at n c b = elim (cases_lt n (length (h ++ m ∷ []))) [
    | inl l ↦ elim (old_or_seam h m n l) [
      | inl i ↦ inl (i, subst (λ (x : Moment). Contains x.checks c) (at_stay h (m ∷ []) n i) b)
      | inr z ↦ inr (z, subst (λ (x : Moment). Contains x.checks c) (ap (moment_at (h ++ m ∷ [])) z ∙ at_seam h m) b)
    ]
    | inr l ↦ absurd (let y = b.1 in let z = ap (λ (m : Moment). length m.checks) (at_end (h ++ m ∷ []) n l) in omega arith)
  ]

  pub right-push : AreRightFrom g granule_of (h ++ m ∷ []) from
  right-push = record {
    checks = of_events;
    stores = λ n c l b. elim (check_at n c b) [ inl o ↦ right.stores n c l o.1 | inr o ↦ contained StoresRightly m.checks c stores o.1 ];
    loads = λ n c l b cell word q. elim (check_at n c b) [
      | inl o ↦ right.loads n c l o.1 cell word q ∙ sym (cell_stay h (m ∷ []) c.granule cell n (let z = o.0 in omega arith))
      | inr o ↦
          contained (LoadsNow h) m.checks c loads o.1 cell word q
          ∙ (sym (cell_stay h (m ∷ []) c.granule cell (length h) (omega arith)) ∙ ap (cell_before (h ++ m ∷ []) c.granule cell) (sym o.0))
    ];
  }

pub right-event : (g : ℕ) (granule_of : ℕ → Option ℕ) (h : List Moment) (from t : ℕ) (e : Event) (m : Moment) → AreRightFrom g granule_of h from → from ≤ length h → m.item ≡ Does t e → AreRightNow g granule_of h t e m.checks → AreRightFrom g granule_of (h ++ m ∷ []) from
right-event g granule_of h from t e m right late made now =
    right-push g granule_of h from m right late
    (λ u f q.
    let y = sym made ∙ q in
    let thread : t ≡ u = cc in
    let event : e ≡ f = cc in
    subst (λ x. AreChecksNow g granule_of h x (access_of f) m.checks) thread (subst (λ (x : Event). AreChecksNow g granule_of h t (access_of x) m.checks) event now.of_access))
    now.stores now.loads

pub right-quiet : (g : ℕ) (granule_of : ℕ → Option ℕ) (h : List Moment) (from : ℕ) (m : Moment) → AreRightFrom g granule_of h from → from ≤ length h → IsNoEvent m → m.checks ≡ [] → AreRightFrom g granule_of (h ++ m ∷ []) from
right-quiet g granule_of h from m right late none empty =
    right-push g granule_of h from m right late (λ t e q. absurd (none t e q))
    (subst (All StoresRightly) (sym empty) (All-nil StoresRightly)) (subst (All (LoadsNow h)) (sym empty) (All-nil (LoadsNow h)))

-- when an event spends a label
spent_by_some : (g : ℕ) (o : Option Label) (e : Event) (l : Label) → spent_by g o e ≡ Some l → (o ≡ Some l) × (raises e ≡ 1) × (l.epoch ≡ g)
spent_by_some g None e l q = absurd cc
spent_by_some g (Some x) e l q = go (cases_Bool ((raises e == 1) && (x.epoch == g)))
  where
    go : ((((raises e == 1) && (x.epoch == g)) ≡ true) ⊎ (((raises e == 1) && (x.epoch == g)) ≡ false)) → (◌≡◌ {A = Option Label} (Some x) (Some l)) × (raises e ≡ 1) × (l.epoch ≡ g)
    go (inl b) =
        let p = and_parts (raises e == 1) (x.epoch == g) b in
        let is : ◌≡◌ {A = Option Label} (Some x) (Some l) = sym (ap (λ b. if b then Some x else None) b) ∙ q in
        let same : x ≡ l = cc in
        (is, eqb-true (raises e) 1 p.0, ap (λ (y : Label). y.epoch) (sym same) ∙ eqb-true x.epoch g p.1)
    go (inr b) = absurd (let y = sym (ap (λ b. if b then Some x else None) b) ∙ q in cc)

spent_by_when : (g : ℕ) (e : Event) (l : Label) → raises e ≡ 1 → l.epoch ≡ g → spent_by g (Some l) e ≡ Some l
spent_by_when g e l r q = rw (eq-eqb (raises e) 1 r, eq-eqb l.epoch g q) refl

pub spent-none : (limits : Limits) (h : List Moment) (t : ℕ) → HasSpent limits h (length h) t None
spent-none limits h t = record { only = λ n u l k s. absurd (let z = does_inside h n u s.event s.made in omega arith); there = λ l q. absurd cc }

-- the last moment's event, where it spends a label
last_spends : (limits : Limits) (h : List Moment) (m : Moment) (n u : ℕ) (l : Label) → Spends limits (h ++ m ∷ []) n u l → (Spends limits h n u l) ⊎ ((e : Event) × (m.item ≡ Does u e) × (raises e ≡ 1) × (label_now limits.epochs h u ≡ Some l) × (l.epoch ≡ limits.epochs))
last_spends limits h m n u l s = elim (old_or_seam h m n (does_inside (h ++ m ∷ []) n u s.event s.made)) [
  | inl i ↦ inl (spends_before limits h (m ∷ []) n u l i s)
  | inr z ↦ inr (
    s.event,
    sym (ap (λ (m : Moment). m.item) (at_seam h m)) ∙ (ap (items (h ++ m ∷ [])) (sym z) ∙ s.made),
    s.raising,
    sym (label_stay limits.epochs h (m ∷ []) (length h) u (omega arith)) ∙ (ap (λ x. label_of limits.epochs (items (h ++ m ∷ [])) x u) (sym z) ∙ s.label),
    s.greatest,
  )
]

pub spent-event : (limits : Limits) (h : List Moment) (from t : ℕ) (e : Event) (m : Moment) → HasSpent limits h from t None → from ≤ length h → m.item ≡ Does t e → HasSpent limits (h ++ m ∷ []) from t (spent_by limits.epochs (label_now limits.epochs h t) e)
spent-event limits h from t e m none late made = record { only = only; there = there }
  where
    only : (n u : ℕ) (l : Label) → from ≤ n → Spends limits (h ++ m ∷ []) n u l → (u ≡ t) × (spent_by limits.epochs (label_now limits.epochs h t) e ≡ Some l)
    only n u l k s = elim (last_spends limits h m n u l s) [
      | inl o ↦ absurd (let y = (none.only n u l k o).1 in cc)
      | inr o ↦
          let y = sym made ∙ o.1 in
          let thread : u ≡ t = cc in
          let event : e ≡ o.0 = cc in
          (thread, ap (λ x. spent_by limits.epochs (label_now limits.epochs h x) e) (sym thread) ∙ (ap (λ (x : Option Label). spent_by limits.epochs x e) o.3 ∙ spent_by_when limits.epochs e l (ap raises event ∙ o.2) o.4))
    ]

    there : (l : Label) → spent_by limits.epochs (label_now limits.epochs h t) e ≡ Some l → (n : ℕ) × (from ≤ n) × Spends limits (h ++ m ∷ []) n t l
    there l q =
        let p = spent_by_some limits.epochs (label_now limits.epochs h t) e l q in
        (length h, late, record { event = e; made = ap (λ (m : Moment). m.item) (at_seam h m) ∙ made; raising = p.1; label = label_stay limits.epochs h (m ∷ []) (length h) t (omega arith) ∙ p.0; greatest = p.2 })

-- a moment that spends nothing
pub spent_stays : (limits : Limits) (h : List Moment) (from t : ℕ) (m : Moment) (spent : Option Label) → HasSpent limits h from t spent → ((u : ℕ) (l : Label) (e : Event) → m.item ≡ Does u e → raises e ≡ 1 → label_now limits.epochs h u ≡ Some l → ⊥) → HasSpent limits (h ++ m ∷ []) from t spent
spent_stays limits h from t m spent had nothing = record {
  only = λ n u l k s. elim (last_spends limits h m n u l s) [ inl o ↦ had.only n u l k o | inr o ↦ absurd (nothing u l o.0 o.1 o.2 o.3) ];
  there = λ l q. let p = had.there l q in (p.0, p.1, spends_stay limits h (m ∷ []) p.0 t l p.2);
}

pub spent-after : (limits : Limits) (h : List Moment) (from t : ℕ) (e : Event) (m : Moment) (l : Label) → HasSpent limits h from t (Some l) → m.item ≡ Does t e → label_now limits.epochs h t ≡ None → HasSpent limits (h ++ m ∷ []) from t (Some l)
spent-after limits h from t e m l had made none =
    spent_stays limits h from t m (Some l) had (λ u x f q raised r.
    let y = sym made ∙ q in
    let thread : t ≡ u = cc in
    let z = sym none ∙ (ap (label_now limits.epochs h) thread ∙ r) in
    absurd cc)

pub spent-quiet : (limits : Limits) (h : List Moment) (from t : ℕ) (m : Moment) (spent : Option Label) → HasSpent limits h from t spent → IsNoEvent m → HasSpent limits (h ++ m ∷ []) from t spent
spent-quiet limits h from t m spent had none = spent_stays limits h from t m spent had (λ u l e q raised r. none u e q)
