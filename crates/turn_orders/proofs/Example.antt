-- A line-up whose sorted list has another order: thread 0 made two turns at place 0 before thread 1 made one at place 1.
use Rattle.std.proofs.Common.{◌≡◌, ℕ, ◌+◌, Bool, true, false, cond, eqb, eqb-true, List, [], ◌∷◌, inl, inr, refl, arith, lit<}
use Rattle.turn_orders.specs.Lists.{SameMembers}
use Rattle.turn_orders.specs.Machine.{State, Turn, tells}
use Rattle.turn_orders.specs.LineUp.{Deed, calls, LocalsFollow, ValuesFollow, IsLineUp, IsSorted, Stamped, with_stamp, stamped}
use Rattle.turn_orders.proofs.Plain.{stamped_draws}
use Rattle.turn_orders.proofs.Sorting.{sorted_line}
use Rattle.turn_orders.proofs.Runs.{told_same}

abbrev S : Type 0
S = Stamped ℕ

-- adds the act to both
abbrev add : Turn ℕ ℕ ℕ ℕ
add t a l x = record { local = l + a; value = x + a; told = l + x }

abbrev made : ℕ → ℕ → ℕ → S → S → Deed S S ℕ S
made t k a l x =
    let r = stamped add t a l x in
    record { call = record { thread = t; place = k; act = a }; local_found = l; local_left = r.local; found = x; left = r.value; told = r.told }

abbrev d1 : Deed S S ℕ S
d1 = made 0 0 5 (with_stamp 0 0) (with_stamp 0 0)

abbrev d2 : Deed S S ℕ S
d2 = made 0 0 7 d1.local_left d1.left

abbrev d3 : Deed S S ℕ S
d3 = made 1 1 9 (with_stamp 0 0) (with_stamp 0 0)

abbrev first : State S S
first = record { local = λ t. with_stamp 0 0; value = λ k. with_stamp 0 0 }

abbrev picked : Bool → Bool → List (Deed S S ℕ S)
picked a b = cond a (d1 ∷ cond a (d2 ∷ cond b (d3 ∷ []) []) (cond b (d3 ∷ []) [])) (cond a (d2 ∷ cond b (d3 ∷ []) []) (cond b (d3 ∷ []) []))

not_both : (t : ℕ) → eqb 0 t ≡ true → eqb 1 t ≡ true → ⊥
not_both t a b = let p = eqb-true 0 t a in let q = eqb-true 1 t b in omega arith

locals : (a b : Bool) → (a ≡ true → b ≡ true → ⊥) → LocalsFollow (with_stamp 0 0) (picked a b)
locals true true n = absurd (n refl refl)
locals true false n = (refl, (refl, tt))
locals false true n = (refl, tt)
locals false false n = tt

values : (a b : Bool) → (a ≡ true → b ≡ true → ⊥) → ValuesFollow (with_stamp 0 0) (picked a b)
values true true n = absurd (n refl refl)
values true false n = (refl, (refl, tt))
values false true n = (refl, tt)
values false false n = tt

is_line : IsLineUp (stamped add) first (d1 ∷ d2 ∷ d3 ∷ [])
is_line = record {
  turns = (refl, (refl, (refl, tt)));
  locals = λ t. locals (eqb 0 t) (eqb 1 t) (not_both t);
  values = λ t. values (eqb 0 t) (eqb 1 t) (not_both t);
}

-- sorted by stamp and thread
in_order : IsSorted (λ (l : S). l.last) (d1 ∷ d3 ∷ d2 ∷ [])
in_order = ((inr (refl, lit< tt), (inl (lit< tt), tt)), ((inl (lit< tt), tt), (tt, tt)))

same : SameMembers (d1 ∷ d2 ∷ d3 ∷ []) (d1 ∷ d3 ∷ d2 ∷ [])
same x = (
  (λ i. elim i [ inl e ↦ inl e | inr j ↦ elim j [ inl e ↦ inr (inr (inl e)) | inr k ↦ elim k [ inl e ↦ inr (inl e) | inr z ↦ absurd z ] ] ]),
  (λ i. elim i [ inl e ↦ inl e | inr j ↦ elim j [ inl e ↦ inr (inr (inl e)) | inr k ↦ elim k [ inl e ↦ inr (inl e) | inr z ↦ absurd z ] ] ]),
)

told : tells (stamped add) first (calls (d1 ∷ d3 ∷ d2 ∷ [])) ≡ with_stamp 0 1 ∷ with_stamp 0 1 ∷ with_stamp 10 2 ∷ []
told = told_same (stamped add) first (d1 ∷ d3 ∷ d2 ∷ []) (sorted_line (stamped add) (λ (l : S). l.last) (λ (x : S). x.last) first (d1 ∷ d2 ∷ d3 ∷ []) (d1 ∷ d3 ∷ d2 ∷ []) (stamped_draws add) is_line in_order same)
