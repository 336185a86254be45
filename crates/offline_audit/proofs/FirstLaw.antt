-- The first two events of two chains that are in no order.
use Rattle.std.proofs.Common.{◌≡◌, ℕ, suc, ◌+◌, ◌-◌, ◌<◌, ◌≤◌, ◌⊎◌, List, length, take, Option, Some, None, sym, ap, ◌∙◌, subst, inl, inr, arith, Contains}
use Rattle.std.specs.Prelude.{slice_index_or, slice_get}
use Rattle.std.proofs.lemmas.Bool.{cases_eq, cases_lt}
use Rattle.std.proofs.lemmas.List.{get_or_default, get_or-take, length-take-le}
use Rattle.std.proofs.lemmas.List.Elements.{Contains-get_or}
use Rattle.std.proofs.lemmas.Option.{slice_get_within, get_or_from_slice_get}
use Rattle.run_record.specs.declared.entry.Entry.{Entry}
use Rattle.run_laws.specs.Moments.{Item}
use Rattle.run_laws.specs.HappensBefore.{HappensBefore, Pair, One, Then, Program, Released, Created, Joined}
use Rattle.offline_audit.specs.declared.order.EventName.{EventName}
use Rattle.offline_audit.specs.declared.earliest.Apart.{Apart}
use Rattle.offline_audit.specs.Chains.{position_of, IsEvent, ComesBefore, IsChain, AreOrdered}
use Rattle.offline_audit.specs.Firsts.{AreElsewhere, AreUnordered, ComesFirst, IsUptoOf, IsFirstNot, IsFirstUnordered, IsFirstOf, IsNext, AreMerged, IsMergedOrApart}

pair_less : (h : ℕ → Item) (i j : ℕ) → Pair h i j → i < j
pair_less h i j (Program t e f l m n) = l
pair_less h i j (Released t o a p r l m n k) = l
pair_less h i j (Created t c l m n) = l
pair_less h i j (Joined c t l m n) = l

-- what happens before stands before
pub happens_less : (h : ℕ → Item) (i j : ℕ) → HappensBefore h i j → i < j
happens_less h i j (One p) = pair_less h i j p
happens_less h i j (Then {j = k} a b) = let x = happens_less h i k a in let y = happens_less h k j b in omega arith

module _ (h : ℕ → Item) (entries : List Entry) where
  abbrev pos : EventName → ℕ
  pos x = position_of entries x

  -- a chain's events stand one after another
  chain_less : (xs : List EventName) → IsChain h entries xs → (i k : ℕ) (d e : EventName) → i < k → k < length xs → pos (slice_index_or xs i d) < pos (slice_index_or xs k e)
  chain_less xs chain i k d e l m =
      let a = happens_less h (pos (slice_index_or xs i d)) (pos (slice_index_or xs k d)) (chain.follow i k d l m) in
      let q = ap pos (get_or_default xs k d e m) in
      omega arith

  pub next_from : (xs ys : List EventName) (i j : ℕ) (d e : EventName) → IsChain h entries ys → i < length xs → j < length ys → pos (slice_index_or xs i d) < pos (slice_index_or ys j e) →
      IsNext entries xs i ys j
  next_from xs ys i j d e chain k m l b d' e' u w =
      let p = ap pos (get_or_default xs i d d' k) in
      let q = ap pos (get_or_default ys j e e' m) in
      elim (cases_eq b j) [
        | inl s ↦ let r = ap (λ (z : ℕ). pos (slice_index_or ys z e')) s in omega arith
        | inr n ↦ let r = chain_less ys chain j b e' e' (omega arith) w in omega arith
      ]

  pub merged-swap : (xs ys : List EventName) (i j : ℕ) → AreMerged h entries xs ys i j → AreMerged h entries ys xs j i
  merged-swap xs ys i j m = record {
    ordered = λ a b d e k l u w. elim (m.ordered b a e d u w k l) [ inl r ↦ inr r | inr r ↦ inl r ];
    below = λ a b d e k l u w. m.above b a e d u w k l;
    above = λ a b d e k l u w. m.below b a e d u w k l;
  }

  pub none_merged : (xs ys : List EventName) → AreMerged h entries xs ys 0 0
  none_merged xs ys = record {
    ordered = λ a b d e k. absurd (omega arith);
    below = λ a b d e k. absurd (omega arith);
    above = λ a b d e k l u. absurd (omega arith);
  }

  pub all_merged : (xs ys : List EventName) (i j : ℕ) → length xs ≤ i → length ys ≤ j → AreMerged h entries xs ys i j → AreOrdered h entries xs ys
  all_merged xs ys i j k l m x y (a, la, ea) (b, lb, eb) =
      subst (λ (z : EventName). ComesBefore h entries z y ⊎ ComesBefore h entries y z) ea
      (subst (λ (z : EventName). ComesBefore h entries (slice_index_or xs a x) z ⊎ ComesBefore h entries z (slice_index_or xs a x)) eb
      (m.ordered a b x y (omega arith) la (omega arith) lb))

  unordered-swap : (x y : EventName) → AreUnordered h entries x y → AreUnordered h entries y x
  unordered-swap x y u = record { not_before = u.not_after; not_after = u.not_before }

  pub first-swap : (xs ys : List EventName) (a : Apart) → IsFirstOf h entries ys xs a → IsFirstOf h entries xs ys a
  first-swap xs ys a f = record {
    one_of_each = elim f.one_of_each [ inl p ↦ inr p | inr p ↦ inl p ];
    earlier = f.earlier;
    unordered = f.unordered;
    first = λ x y xi yi u. let p = f.first y x yi xi (unordered-swap x y u) in (p.1, p.0);
  }

  module _ (xs ys : List EventName) (i j : ℕ) (l : i < length xs) (chain : IsChain h entries xs) (other : IsChain h entries ys)
      (merged : AreMerged h entries xs ys i j) (next : IsNext entries xs i ys j) where
    -- one more event, before which all earlier ones of the other chain happen
    pub one_merged : ((b : ℕ) (d e : EventName) → b < j → b < length ys → ComesBefore h entries (slice_index_or ys b e) (slice_index_or xs i d)) →
        AreMerged h entries xs ys (i + 1) j
    one_merged all = record {
      ordered = λ a b d e k la u w. elim (cases_eq a i) [
        | inl q ↦ inr (rw q (all b d e u w))
        | inr n ↦ merged.ordered a b d e (omega arith) la u w
      ];
      below = λ a b d e k la u w. elim (cases_eq a i) [
        | inl q ↦ rw q (next b d e u w)
        | inr n ↦ merged.below a b d e (omega arith) la u w
      ];
      above = λ a b d e k la u w. merged.above a b d e (omega arith) la u w;
    }

    module _ (later earlier : EventName) (k : ℕ) (is : (d : EventName) → slice_index_or xs i d ≡ later) (kj : k < j) (ky : k < length ys)
        (at : (d : EventName) → slice_index_or ys k d ≡ earlier) (apart : ComesBefore h entries earlier later → ⊥)
        (rest : (b : ℕ) (d : EventName) → b < k → ComesBefore h entries (slice_index_or ys b d) later) where
      stands : pos earlier < pos later
      stands =
          let a = merged.above i k later earlier (omega arith) l kj ky in
          let p = ap pos (is later) in
          let q = ap pos (at earlier) in
          omega arith

      abbrev two : Apart
      two = record { later = later; earlier = earlier }

      first_here : (a b : ℕ) (x y : EventName) → a < length xs → b < length ys → slice_index_or xs a x ≡ x → slice_index_or ys b y ≡ y →
          AreUnordered h entries x y → ComesFirst entries two x y
      first_here a b x y la lb ea eb u =
          let px = ap pos ea in
          let py = ap pos eb in
          let p = ap pos (is x) in
          elim (cases_lt a i) [
            | inl before ↦ elim (cases_lt b j) [
              | inl c ↦
                  absurd (elim (merged.ordered a b x y before la c lb) [
                    | inl r ↦ u.not_before (subst (λ (z : EventName). ComesBefore h entries z y) ea (subst (λ (z : EventName). ComesBefore h entries (slice_index_or xs a x) z) eb r))
                    | inr r ↦ u.not_after (subst (λ (z : EventName). ComesBefore h entries y z) ea (subst (λ (z : EventName). ComesBefore h entries z (slice_index_or xs a x)) eb r))
                  ])
              | inr c ↦
                  let r = merged.below a b x y before la c lb in
                  let s = next b x y c lb in
                  (λ w. absurd (omega arith), λ w. inl (omega arith))
            ]
            | inr from ↦ elim (cases_eq a i) [
              | inl q ↦
                  let here : x ≡ later = sym ea ∙ (ap (λ (z : ℕ). slice_index_or xs z x) q ∙ is x) in
                  let ph = ap pos here in
                  elim (cases_lt b j) [
                    | inl c ↦
                        let r = merged.above i b x y (omega arith) l c lb in
                        (λ w. inr (sym ph, least b y lb eb (λ t. u.not_after (subst (λ (z : EventName). ComesBefore h entries y z) (sym here) t))), λ w. absurd (omega arith))
                    | inr c ↦
                        let s = next b x y c lb in
                        (λ w. absurd (omega arith), λ w. inl (omega arith))
                  ]
              | inr n ↦
                  let r = chain_less xs chain i a x x (omega arith) la in
                  (λ w. inl (omega arith), λ w. inl (omega arith))
            ]
          ]
        where
          least : (b : ℕ) (y : EventName) → b < length ys → slice_index_or ys b y ≡ y → (ComesBefore h entries y later → ⊥) → pos earlier ≤ pos y
          least b y lb eb never =
              let py = ap pos eb in
              let q = ap pos (at y) in
              elim (cases_lt b k) [
                | inl c ↦ absurd (never (subst (λ (z : EventName). ComesBefore h entries z later) eb (rest b y c)))
                | inr c ↦ elim (cases_eq b k) [
                  | inl s ↦ let r = ap (λ (z : ℕ). pos (slice_index_or ys z y)) s in omega arith
                  | inr n ↦ let r = chain_less ys other k b y y (omega arith) lb in omega arith
                ]
              ]

      -- the event with the first of the earlier ones of the other chain that doesn't happen before it
      pub found_first : IsFirstOf h entries xs ys two
      found_first = record {
        one_of_each = inl ((i, l, is later), (k, ky, at earlier));
        earlier = stands;
        unordered = record {
          not_before = λ r. let a = happens_less h (pos later) (pos earlier) r in absurd (let b = stands in omega arith);
          not_after = apart;
        };
        first = λ x y (a, la, ea) (b, lb, eb) u. first_here a b x y la lb ea eb u;
      }

-- what the last event of a chain happens before, all do
pub all_before : (h : ℕ → Item) (entries : List Entry) (names : List EventName) (last name : EventName) → Some last ≡ slice_get names (length names - 1) →
    IsChain h entries names → ComesBefore h entries last name → (k : ℕ) (d : EventName) → k < length names → ComesBefore h entries (slice_index_or names k d) name
all_before h entries names last name is chain r k d l =
    let within = slice_get_within names (length names - 1) last (sym is) in
    let at : slice_index_or names (length names - 1) d ≡ last =
    get_or_default names (length names - 1) d last within ∙ get_or_from_slice_get names (length names - 1) last last (sym is) in
    let end : ComesBefore h entries (slice_index_or names (length names - 1) d) name = subst (λ (z : EventName). ComesBefore h entries z name) (sym at) r in
    elim (cases_eq k (length names - 1)) [
      | inl q ↦ rw q end
      | inr n ↦ Then (chain.follow k (length names - 1) d (omega arith) (omega arith)) end
    ]

-- the last event of a chain is one
pub last_event : (h : ℕ → Item) (entries : List Entry) (names : List EventName) (last : EventName) → Some last ≡ slice_get names (length names - 1) →
    IsChain h entries names → IsEvent h entries last
last_event h entries names last is chain =
    let within = slice_get_within names (length names - 1) last (sym is) in
    subst (IsEvent h entries) (get_or_from_slice_get names (length names - 1) last last (sym is)) (chain.events (length names - 1) last within)

-- the first events of a chain are one
pub chain_take : (h : ℕ → Item) (entries : List Entry) (j : ℕ) (names : List EventName) → j ≤ length names → IsChain h entries names → IsChain h entries (take j names)
chain_take h entries j names m chain =
    let q = length-take-le j names m in
    record {
      events = λ k d l. subst (IsEvent h entries) (sym (get_or-take j names k d (omega arith))) (chain.events k d (omega arith));
      follow = λ i k d l u.
          subst (λ (z : EventName). ComesBefore h entries z (slice_index_or (take j names) k d)) (sym (get_or-take j names i d (omega arith)))
          (subst (λ (z : EventName). ComesBefore h entries (slice_index_or names i d) z) (sym (get_or-take j names k d (omega arith))) (chain.follow i k d l (omega arith)));
    }

abbrev pub none : EventName
none = record { entry = 0; event = 0 }

module _ (h : ℕ → Item) (entries : List Entry) (xs ys : List EventName) (i j : ℕ) (l : i < length xs) (m : j ≤ length ys) (chain : IsChain h entries xs)
    (other : IsChain h entries ys) (merged : AreMerged h entries xs ys i j) (next : IsNext entries xs i ys j) (later : EventName) (is : later ≡ slice_index_or xs i none) where
  -- what the search among the events before the next one tells
  pub merged_or : (o : Option EventName) → IsFirstUnordered h entries (take j ys) later o →
      IsMergedOrApart h entries xs ys i j (elim o [ None ↦ None | Some earlier ↦ Some (record { later = later; earlier = earlier }) ])
  merged_or None all =
      one_merged h entries xs ys i j l chain other merged next (λ b d e u w.
      let q = length-take-le j ys m in
      let here : slice_index_or xs i d ≡ later = get_or_default xs i d none l ∙ sym is in
      subst (λ (z : EventName). ComesBefore h entries (slice_index_or ys b e) z) (sym here)
      (subst (λ (z : EventName). ComesBefore h entries z later) (get_or-take j ys b e u) (all b e (omega arith))))
  merged_or (Some earlier) f =
      let q = length-take-le j ys m in
      let w = f.within in
      found_first h entries xs ys i j l chain other merged next later earlier f.at (λ d. get_or_default xs i d none l ∙ sym is) (omega arith) (omega arith)
      (λ d. sym (get_or-take j ys f.at d (omega arith)) ∙ f.is d) f.not_before
      (λ b d u. subst (λ (z : EventName). ComesBefore h entries z later) (get_or-take j ys b d (omega arith)) (f.rest b d u))

-- where the one event doesn't stand before the other, that one does
pub turned_less : (entries : List Entry) (xs ys : List EventName) (i j : ℕ) → AreElsewhere entries xs ys → i < length xs → j < length ys →
    (position_of entries (slice_index_or xs i none) < position_of entries (slice_index_or ys j none) → ⊥) →
    position_of entries (slice_index_or ys j none) < position_of entries (slice_index_or xs i none)
turned_less entries xs ys i j apart l m not =
    let x = slice_index_or xs i none in
    let y = slice_index_or ys j none in
    elim (cases_lt (position_of entries x) (position_of entries y)) [
      | inl b ↦ absurd (not b)
      | inr b ↦ elim (cases_eq (position_of entries x) (position_of entries y)) [
        | inl q ↦ absurd (apart x y (Contains-get_or xs i none l) (Contains-get_or ys j none m) q)
        | inr n ↦ omega arith
      ]
    ]
