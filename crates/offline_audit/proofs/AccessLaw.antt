-- The accesses that are gathered, event by event and entry by entry.
use Rattle.std.proofs.Common.{◌≡◌, ℕ, ◌+◌, ◌<◌, ◌≤◌, ◌⊎◌, ◌↔◌, List, [], ◌∷◌, ◌++◌, length, get_or, Option, Some, None, refl, sym, ap, ◌∙◌, subst, inl, inr, arith, Contains, append-nil}
use Rattle.std.specs.Prelude.{slice_get}
use Rattle.std.proofs.lemmas.Bool.{cases_lt}
use Rattle.std.proofs.lemmas.Option.{slice_get-get_or, slice_get_within}
use Rattle.std.proofs.lemmas.List.Elements.{Contains-push, Contains-push_cases, Contains-append_left}
use Rattle.run_record.specs.declared.event.Event.TheVariants.{Begin}
use Rattle.run_record.specs.declared.entry.Entry.{Entry}
use Rattle.offline_audit.specs.declared.access.Kind.{Kind}
use Rattle.offline_audit.specs.declared.access.Made.{Made}
use Rattle.offline_audit.specs.Kinds.{kind_of, made_from, IsMadeBy, IsMade}

abbrev made_of : Kind → ℕ → ℕ → Made
made_of kind entry event = record { kind = kind; name = record { entry = entry; event = event } }

same_made : (m : Made) (kind : Kind) (entry event : ℕ) → m.kind ≡ kind → m.name.entry ≡ entry → m.name.event ≡ event → made_of kind entry event ≡ m
same_made m kind entry event a b c =
    sym (ap (λ (k : Kind). made_of k m.name.entry m.name.event) a ∙ (ap (λ (x : ℕ). made_of kind x m.name.event) b ∙ ap (λ (x : ℕ). made_of kind entry x) c))

some_is : {X : Type 0} (x y : X) → Some x ≡ Some y → x ≡ y
some_is x y e = cc

no_some : {X : Type 0} (x : X) → None ≡ Some x → ⊥
no_some x e = cc

-- the accesses that were there, and those of the entry's first n events
abbrev pub AreWith : ℕ → Entry → ℕ → List Made → List Made → Type 0
AreWith number entry n old made = (m : Made) → Contains made m ↔ (Contains old m ⊎ (IsMadeBy number entry m × (m.name.event < n)))

module _ (number : ℕ) (entry : Entry) (n : ℕ) (old made : List Made) (l : n < length entry.events) (so : AreWith number entry n old made) where
  event_at : (m : Made) → IsMadeBy number entry m → m.name.event ≡ n → kind_of entry.tid (get_or entry.events n Begin) ≡ Some m.kind
  event_at m by q =
      let a : slice_get entry.events n ≡ Some by.event = subst (λ (k : ℕ). slice_get entry.events k ≡ Some by.event) q by.is in
      let b = slice_get-get_or entry.events n Begin l in
      let e = some_is (get_or entry.events n Begin) by.event (sym b ∙ a) in
      ap (kind_of entry.tid) e ∙ by.kind

  weaken : (m : Made) → Contains old m ⊎ (IsMadeBy number entry m × (m.name.event < n)) → Contains old m ⊎ (IsMadeBy number entry m × (m.name.event < n + 1))
  weaken m (inl o) = inl o
  weaken m (inr (by, b)) = inr (by, omega arith)

  access_more : (kind : Kind) → kind_of entry.tid (get_or entry.events n Begin) ≡ Some kind → AreWith number entry (n + 1) old (made ++ made_of kind number n ∷ [])
  access_more kind is m = (
    λ c. elim (Contains-push_cases made (made_of kind number n) m c) [
      | inl o ↦ weaken m ((so m).0 o)
      | inr e ↦
          let by : IsMadeBy number entry (made_of kind number n) = record { numbered = refl; event = get_or entry.events n Begin; is = slice_get-get_or entry.events n Begin l; kind = is } in
          let lt : n < n + 1 = omega arith in
          inr (subst (λ (x : Made). IsMadeBy number entry x × (x.name.event < n + 1)) e (by, lt))
    ],
    λ c. elim c [
      | inl o ↦ Contains-append_left made (made_of kind number n ∷ []) m ((so m).1 (inl o))
      | inr (by, b) ↦ elim (cases_lt m.name.event n) [
        | inl s ↦ Contains-append_left made (made_of kind number n ∷ []) m ((so m).1 (inr (by, s)))
        | inr s ↦
            let q : m.name.event ≡ n = omega arith in
            let k = some_is m.kind kind (sym (event_at m by q) ∙ is) in
            subst (λ (x : Made). Contains (made ++ made_of kind number n ∷ []) x) (same_made m kind number n k by.numbered q) (Contains-push made (made_of kind number n))
      ]
    ],
  )

  access_none : kind_of entry.tid (get_or entry.events n Begin) ≡ None → AreWith number entry (n + 1) old made
  access_none is m = (
    λ c. weaken m ((so m).0 c),
    λ c. elim c [
      | inl o ↦ (so m).1 (inl o)
      | inr (by, b) ↦ elim (cases_lt m.name.event n) [
        | inl s ↦ (so m).1 (inr (by, s))
        | inr s ↦ let q : m.name.event ≡ n = omega arith in absurd (no_some m.kind (sym is ∙ event_at m by q))
      ]
    ],
  )

  access_by : (o : Option Kind) → kind_of entry.tid (get_or entry.events n Begin) ≡ o → AreWith number entry (n + 1) old (made ++ made_from o (record { entry = number; event = n }))
  access_by None is = subst (AreWith number entry (n + 1) old) (sym (append-nil made)) (access_none is)
  access_by (Some kind) is = access_more kind is

  -- one more event
  pub access_step : AreWith number entry (n + 1) old (made ++ made_from (kind_of entry.tid (get_or entry.events n Begin)) (record { entry = number; event = n }))
  access_step = access_by (kind_of entry.tid (get_or entry.events n Begin)) refl

pub none_with : (number : ℕ) (entry : Entry) (old : List Made) → AreWith number entry 0 old old
none_with number entry old m = (λ c. inl c, λ c. elim c [ inl o ↦ o | inr (by, b) ↦ absurd (omega arith) ])

pub all_with : (number : ℕ) (entry : Entry) (n : ℕ) (old made : List Made) → length entry.events ≤ n → AreWith number entry n old made →
    (m : Made) → Contains made m ↔ (Contains old m ⊎ IsMadeBy number entry m)
all_with number entry n old made l so m = (
  λ c. elim ((so m).0 c) [ inl o ↦ inl o | inr (by, b) ↦ inr by ],
  λ c. elim c [ inl o ↦ (so m).1 (inl o) | inr by ↦ let w = slice_get_within entry.events m.name.event by.event by.is in (so m).1 (inr (by, omega arith)) ],
)

-- the accesses of the first n entries
abbrev pub AreOf : List Entry → ℕ → List Made → Type 0
AreOf entries n made = (m : Made) → Contains made m ↔ (IsMade entries m × (m.name.entry < n))

pub none_of : (entries : List Entry) (made : List Made) → made ≡ [] → AreOf entries 0 made
none_of entries made empty m = (
  λ c. let n = ap (λ (ms : List Made). length ms) empty in let l : c.0 < length made = c.1 in absurd (omega arith),
  λ p. let b : m.name.entry < 0 = p.1 in absurd (omega arith),
)

pub entry_more : (entries : List Entry) (n : ℕ) (e : Entry) (made new : List Made) → slice_get entries n ≡ Some e → AreOf entries n made →
    ((m : Made) → Contains new m ↔ (Contains made m ⊎ IsMadeBy n e m)) → AreOf entries (n + 1) new
entry_more entries n e made new is so more m = (
  λ c. elim ((more m).0 c) [
    | inl o ↦ let p = (so m).0 o in let b = p.1 in (p.0, omega arith)
    | inr by ↦
        let q = by.numbered in (
          record {
            entry = e;
            listed = subst (λ (k : ℕ). slice_get entries k ≡ Some e) (sym q) is;
            made = subst (λ (k : ℕ). IsMadeBy k e m) (sym q) by;
          },
          omega arith,
        )
  ],
  λ p. elim (cases_lt m.name.entry n) [
    | inl s ↦ (more m).1 (inl ((so m).1 (p.0, s)))
    | inr s ↦
        let b = p.1 in
        let q : m.name.entry ≡ n = omega arith in
        let at : slice_get entries n ≡ Some p.0.entry = subst (λ (k : ℕ). slice_get entries k ≡ Some p.0.entry) q p.0.listed in
        let same = some_is p.0.entry e (sym at ∙ is) in
        let by : IsMadeBy n p.0.entry m = subst (λ (k : ℕ). IsMadeBy k p.0.entry m) q p.0.made in
        (more m).1 (inr (subst (λ (x : Entry). IsMadeBy n x m) same by))
  ],
)

pub all_of : (entries : List Entry) (n : ℕ) (made : List Made) → length entries ≤ n → AreOf entries n made → (m : Made) → Contains made m ↔ IsMade entries m
all_of entries n made l so m = (
  λ c. ((so m).0 c).0,
  λ p. let w = slice_get_within entries m.name.entry p.entry p.listed in (so m).1 (p, omega arith),
)
