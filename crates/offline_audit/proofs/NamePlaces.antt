-- The names of a history's events stand in the order of their positions.
use Rattle.std.proofs.Common.{◌≡◌, ℕ, zero, suc, ◌+◌, ◌<◌, ◌≤◌, ◌↔◌, List, length, take, Some, sym, ap, ◌∙◌, subst, inl, inr, arith}
use Rattle.std.specs.Prelude.{slice_get}
use Rattle.std.proofs.lemmas.Bool.{cases_eq, cases_lt}
use Rattle.std.proofs.lemmas.Option.{slice_get_cases, slice_get_within}
use Rattle.run_record.specs.declared.entry.Entry.{Entry}
use Rattle.run_laws.specs.Moments.{Item, moments}
use Rattle.offline_audit.specs.declared.order.EventName.{EventName}
use Rattle.offline_audit.specs.Orders.{start_of}
use Rattle.offline_audit.specs.Chains.{position_of, IsEvent}
use Rattle.offline_audit.proofs.MomentPlaces.{next_start, length_eras}

some_entry : (x y : Entry) → Some x ≡ Some y → x ≡ y
some_entry x y e = cc

module _ (entries : List Entry) where
  abbrev upto : ℕ → ℕ
  upto k = length (moments (take k entries))

  grows : (k j : ℕ) → k ≤ j → j ≤ length entries → upto k ≤ upto j
  grows k zero l m = let q : k ≡ 0 = omega arith in let e = ap upto q in omega arith
  grows k (suc j) l m = elim (cases_eq k (suc j)) [
    | inl q ↦ let e = ap upto q in omega arith
    | inr n ↦ elim (slice_get_cases entries j).1 [
      | inl (e, w, is, _) ↦
          let r = grows k j (omega arith) (omega arith) in
          let a = next_start entries j e w is in
          let b = length_eras entries j e w is in
          omega arith
      | inr s ↦ absurd (let u = s.0 in omega arith)
    ]
  ]

  -- events of a later entry stand later
  pub later_entry : (h : ℕ → Item) (x y : EventName) → IsEvent h entries x → IsEvent h entries y → x.entry < y.entry → position_of entries x < position_of entries y
  later_entry h x y a b l =
      let lx = slice_get_within entries x.entry a.at.entry a.at.listed in
      let ly = slice_get_within entries y.entry b.at.entry b.at.listed in
      let nx = next_start entries x.entry a.at.entry lx a.at.listed in
      let ey = length_eras entries y.entry b.at.entry ly b.at.listed in
      let g = grows (suc x.entry) y.entry (omega arith) (omega arith) in
      let px = a.at.place in
      let py = b.at.place in
      let w = a.at.within in
      omega arith

  same_entry : (h : ℕ → Item) (x y : EventName) → (a : IsEvent h entries x) → (b : IsEvent h entries y) → x.entry ≡ y.entry →
      start_of entries x.entry a.at.entry ≡ start_of entries y.entry b.at.entry
  same_entry h x y a b q =
      let listed : slice_get entries x.entry ≡ Some b.at.entry = ap (λ (k : ℕ). slice_get entries k) q ∙ b.at.listed in
      let same = some_entry a.at.entry b.at.entry (sym a.at.listed ∙ listed) in
      ap (λ (e : Entry). start_of entries x.entry e) same ∙ ap (λ (k : ℕ). start_of entries k b.at.entry) q

  -- names in the order of entries, and in each entry of events, stand in the order of positions
  pub names_stand : (h : ℕ → Item) (x y : EventName) → IsEvent h entries x → IsEvent h entries y → x.entry ≡ y.entry →
      (x.event < y.event) ↔ (position_of entries x < position_of entries y)
  names_stand h x y a b q =
      let s = same_entry h x y a b q in
      let px = a.at.place in
      let py = b.at.place in
      (λ l. omega arith, λ l. omega arith)
