-- The rest that comes next.
use Rattle.std.proofs.Common.{◌≡◌, ℕ, ◌+◌, List, [], ◌∷◌, get_or, Option, Some, None, refl, sym, ap, subst, inl, inr, arith}
use Rattle.std.specs.Prelude.{slice_get}
use Rattle.std.proofs.lemmas.Bool.{cases_eq}
use Rattle.run_record.specs.declared.flat.Head.{Head}
use Rattle.run_record.specs.declared.flat.Row.{Row}
use Rattle.run_record.specs.declared.rest.Rest.{Rest}
use Rattle.run_record.specs.declared.merged.Choice.{Choice}
use Rattle.run_record.specs.Merging.{IsUpto, IsUptoLimit, IsLimitOf, BeginWith, IsFirst, IsChosen, IsChosenBelow}

-- what isn't after the limit of some rows is a limit of them
limit_less : (g : Head) (limit : Option Head) (rows : List Row) → IsUptoLimit g limit → IsLimitOf limit rows → IsLimitOf (Some g) rows
limit_less g limit [] upto is = tt
limit_less g None (r ∷ rows) upto is = absurd is
limit_less g (Some h) (r ∷ rows) upto is = elim upto [
  | inl a ↦ elim is [ inl b ↦ inl (omega arith) | inr b ↦ inl (omega arith) ]
  | inr a ↦ elim is [ inl b ↦ inl (omega arith) | inr b ↦ inr (omega arith, omega arith) ]
]

-- a limit isn't after the head that the rows begin with
limit_first : (g h : Head) (rows : List Row) → BeginWith h rows → IsUpto g h → IsLimitOf (Some g) rows
limit_first g h [] begin upto = tt
limit_first g h (r ∷ rows) begin upto = subst (λ (x : Head). IsUpto g x) (sym begin) upto

-- one more rest begins with a head that isn't before that of the choice
pub chosen_still : (rests : List Rest) (n : ℕ) (before : Choice) (head limit : Head) → IsChosen rests n before → IsFirst rests n head →
    IsUpto limit head → IsUptoLimit limit before.limit → IsUpto before.head limit →
    IsChosen rests (n + 1) (record { index = before.index; head = before.head; limit = Some limit })
chosen_still rests n before head limit was first upto less one = record {
  within = omega (arith, was.within);
  first = was.first;
  upto = one;
  others = λ k d below apart. elim (cases_eq k n) [
    | inl e ↦ subst (λ (m : ℕ). IsLimitOf (Some limit) (get_or rests m d).rows.now) (sym e) (limit_first limit head (get_or rests n d).rows.now (first d) upto)
    | inr e ↦ limit_less limit before.limit (get_or rests k d).rows.now less (was.others k d (omega (arith, e, below)) apart)
  ];
}

-- one more rest has no entries
pub chosen_skip : (rests : List Rest) (n : ℕ) (choice : Option Choice) → ((d : Rest) → (get_or rests n d).rows.now ≡ []) →
    IsChosenBelow rests n choice → IsChosenBelow rests (n + 1) choice
chosen_skip rests n None none was = λ k d below. elim (cases_eq k n) [
  | inl e ↦ subst (λ (m : ℕ). (get_or rests m d).rows.now ≡ []) (sym e) (none d)
  | inr e ↦ was k d (omega (arith, e, below))
]
chosen_skip rests n (Some c) none was = record {
  within = omega (arith, was.within);
  first = was.first;
  upto = was.upto;
  others = λ k d below apart. elim (cases_eq k n) [
    | inl e ↦ subst (λ (m : ℕ). IsLimitOf c.limit (get_or rests m d).rows.now) (sym e)
        (subst (λ (rows : List Row). IsLimitOf c.limit rows) (sym (none d)) tt)
    | inr e ↦ was.others k d (omega (arith, e, below)) apart
  ];
}

begin_with : (rows : List Row) (row : Row) → slice_get rows 0 ≡ Some row → BeginWith row.head rows
begin_with [] row e = absurd (cc)
begin_with (r ∷ rows) row e = let same : r ≡ row = cc in ap (λ (x : Row). x.head) same

none_there : (rows : List Row) → slice_get rows 0 ≡ None → rows ≡ []
none_there [] e = refl
none_there (r ∷ rows) e = absurd (cc)

pub first_at_index : (rests : List Rest) (n : ℕ) (rest : Rest) (row : Row) → ((d : Rest) → get_or rests n d ≡ rest) → slice_get rest.rows.now 0 ≡ Some row →
    IsFirst rests n row.head
first_at_index rests n rest row at is = λ d. subst (λ (r : Rest). BeginWith row.head r.rows.now) (sym (at d)) (begin_with rest.rows.now row is)

pub none_at_index : (rests : List Rest) (n : ℕ) (rest : Rest) → ((d : Rest) → get_or rests n d ≡ rest) → slice_get rest.rows.now 0 ≡ None →
    (d : Rest) → (get_or rests n d).rows.now ≡ []
none_at_index rests n rest at is = λ d. subst (λ (r : Rest). r.rows.now ≡ []) (sym (at d)) (none_there rest.rows.now is)
