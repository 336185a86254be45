-- The rows of the instruction table are apart: no word has the fixed bits of two of them.
use Rattle.std.proofs.Common.{◌≡◌, ℕ, zero, suc, ◌<◌, Bool, true, false, cond, List, [], ◌∷◌, length, refl, sym, ◌∙◌, ap, arith, Option, Some, inl, inr, subst}
use Rattle.std.specs.Prelude.{◌&&◌, ◌||◌, not, ◌==◌, slice_index_or, Any, AllPairs, find}
use Rattle.std.specs.List.{list_all, list_any}
use Rattle.std.specs.Option.{option_map}
use Rattle.std.proofs.lemmas.Bool.{and_parts, or_cases, not-true, eqb-true, eqb-false, cases_Bool, false_from_ne_true}
use Rattle.std.proofs.lemmas.Option.{same_Some}
use Rattle.rv_decode.specs.declared.instr.Instr.{Instr}
use Rattle.rv_decode.specs.Fields.{bits, opcode}
use Rattle.rv_decode.specs.Table.{Fixed, Row, has, matches, made_by, found, table}

-- the same bits with different values
clash : Fixed → Fixed → Bool
clash f g = (f.from == g.from) && ((f.count == g.count) && not (f.value == g.value))

clashes : List Fixed → List Fixed → Bool
clashes fs gs = list_any (λ f. list_any (clash f) gs) fs

apart : Row → Row → Bool
apart a b = not (a.opcode == b.opcode) || clashes a.fixed b.fixed

pub all_apart : List Row → Bool
all_apart [] = true
all_apart (r ∷ rs) = list_all (apart r) rs && all_apart rs

pub table_apart : all_apart table ≡ true
unfolding all_apart apart clashes clash
table_apart = refl

-- ---- what that means for a word

clash_sound : (w : ℕ) (f g : Fixed) → clash f g ≡ true → has w f ≡ true → has w g ≡ true → ⊥
unfolding clash
clash_sound w f g c p q =
    let from = and_parts _ _ c in
    let count = and_parts _ _ from.1 in
    let same_from : f.from ≡ g.from = eqb-true _ _ from.0 in
    let same_count : f.count ≡ g.count = eqb-true _ _ count.0 in
    let one : bits w f.from f.count ≡ f.value = eqb-true _ _ p in
    let other : bits w g.from g.count ≡ g.value = eqb-true _ _ q in
    let same : bits w f.from f.count ≡ bits w g.from g.count = ap (λ k. bits w k f.count) same_from ∙ ap (bits w g.from) same_count in
    eqb-false _ _ (not-true _ count.1) (sym one ∙ same ∙ other)

clash_with_some : (w : ℕ) (f : Fixed) (gs : List Fixed) → list_any (clash f) gs ≡ true → has w f ≡ true → list_all (has w) gs ≡ true → ⊥
clash_with_some w f [] c p q = cc
clash_with_some w f (g ∷ gs) c p q =
    let rest = and_parts (has w g) (list_all (has w) gs) q in
    elim (or_cases (clash f g) (list_any (clash f) gs) c) [
      | inl h ↦ clash_sound w f g h p rest.0
      | inr h ↦ clash_with_some w f gs h p rest.1
    ]

clashes_sound : (w : ℕ) (fs gs : List Fixed) → clashes fs gs ≡ true → list_all (has w) fs ≡ true → list_all (has w) gs ≡ true → ⊥
unfolding clashes
clashes_sound w [] gs c p q = cc
clashes_sound w (f ∷ fs) gs c p q =
    let rest = and_parts (has w f) (list_all (has w) fs) p in
    elim (or_cases (list_any (clash f) gs) (list_any (λ f. list_any (clash f) gs) fs) c) [
      | inl h ↦ clash_with_some w f gs h rest.0 q
      | inr h ↦ clashes_sound w fs gs h rest.1 q
    ]

apart_sound : (w : ℕ) (a b : Row) → apart a b ≡ true → matches w a ≡ true → matches w b ≡ true → ⊥
unfolding apart
apart_sound w a b c p q =
    let one = and_parts (opcode w == a.opcode) (list_all (has w) a.fixed) p in
    let other = and_parts (opcode w == b.opcode) (list_all (has w) b.fixed) q in
    elim (or_cases (not (a.opcode == b.opcode)) (clashes a.fixed b.fixed) c) [
      | inl h ↦ eqb-false _ _ (not-true _ h) (sym (eqb-true _ _ one.0) ∙ eqb-true _ _ other.0)
      | inr h ↦ clashes_sound w a.fixed b.fixed h one.1 other.1
    ]

list_all_index : {X : Type 0} (p : X → Bool) (xs : List X) (i : ℕ) (d : X) → i < length xs → list_all p xs ≡ true → p (slice_index_or xs i d) ≡ true
list_all_index p [] i d lt all = absurd (omega arith)
list_all_index p (x ∷ xs) zero d lt all = (and_parts (p x) (list_all p xs) all).0
list_all_index p (x ∷ xs) (suc i) d lt all = list_all_index p xs i d (omega arith) (and_parts (p x) (list_all p xs) all).1

pub never_both : (w : ℕ) (rows : List Row) → all_apart rows ≡ true → AllPairs (λ one other. matches w one ≡ true → matches w other ≡ true → ⊥) rows
unfolding all_apart
never_both w [] all i j d lt below = absurd (omega arith)
never_both w (r ∷ rs) all zero zero d lt below = absurd (omega arith)
never_both w (r ∷ rs) all zero (suc j) d lt below =
    apart_sound w r (slice_index_or rs j d) (list_all_index (apart r) rs j d (omega arith) (and_parts (list_all (apart r) rs) (all_apart rs) all).0)
never_both w (r ∷ rs) all (suc i) zero d lt below = absurd (omega arith)
never_both w (r ∷ rs) all (suc i) (suc j) d lt below =
    never_both w rs (and_parts (list_all (apart r) rs) (all_apart rs) all).1 i j d (omega arith) (omega arith)

-- ---- the first row that matches

hit : {X Y : Type 0} (b : Bool) (f : X → Y) (x : X) (o : Option X) → b ≡ true → option_map f (cond b (Some x) o) ≡ Some (f x)
hit true f x o h = refl
hit false f x o h = cc

missed : {X Y : Type 0} (b : Bool) (f : X → Y) (x : X) (o : Option X) → b ≡ false → option_map f (cond b (Some x) o) ≡ option_map f o
missed true f x o h = cc
missed false f x o h = refl

-- a row of some that matches, and the instruction that it makes
abbrev pub Makes : ℕ → Instr → Row → Type 0
Makes w i row = (matches w row ≡ true) × (made_by w row ≡ i)

-- the first of some rows that matches is one that matches
pub found_matches : (w : ℕ) (rows : List Row) (i : Instr) → found rows w ≡ Some i → Any (Makes w i) rows
found_matches w [] i e = cc
found_matches w (r ∷ rs) i e =
    elim (cases_Bool (matches w r)) [
      | inl h ↦ (0, r, omega arith, refl, (h, same_Some _ _ (sym (hit (matches w r) (made_by w) r (find (matches w) rs) h) ∙ e)))
      | inr h ↦
          let any = found_matches w rs i (sym (missed (matches w r) (made_by w) r (find (matches w) rs) h) ∙ e) in
          let lt : suc any.0 < length (r ∷ rs) = omega arith in
          (suc any.0, any.1, lt, any.3, any.4)
    ]

-- one that matches is the first, where the rows are apart
pub matches_found : (w : ℕ) (rows : List Row) (i : Instr) → all_apart rows ≡ true → Any (Makes w i) rows → found rows w ≡ Some i
unfolding all_apart
matches_found w [] i all (k, row, lt, is, makes) = absurd (omega arith)
matches_found w (r ∷ rs) i all (zero, row, lt, is, makes) =
    let here : matches w r ≡ true = subst (λ (x : Row). matches w x ≡ true) (sym is) makes.0 in
    let made : made_by w r ≡ i = subst (λ (x : Row). made_by w x ≡ i) (sym is) makes.1 in
    hit (matches w r) (made_by w) r (find (matches w) rs) here ∙ ap (λ (x : Instr). Some x) made
matches_found w (r ∷ rs) i all (suc k, row, lt, is, makes) =
    let parts = and_parts (list_all (apart r) rs) (all_apart rs) all in
    let far : apart r (slice_index_or rs k row) ≡ true = list_all_index (apart r) rs k row (omega arith) parts.0 in
    let far_row : apart r row ≡ true = subst (λ (x : Row). apart r x ≡ true) is far in
    let not_here : matches w r ≡ false = false_from_ne_true (matches w r) (λ h. apart_sound w r row far_row h makes.0) in
    missed (matches w r) (made_by w) r (find (matches w) rs) not_here ∙ matches_found w rs i parts.1 (k, row, omega arith, is, makes)
