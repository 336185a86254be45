-- Lists with one element more.
use Rattle.std.proofs.Common.{◌≡◌, ◌≢◌, ◌<◌, ◌+◌, ℕ, List, [], ◌∷◌, ◌++◌, drop, zero, suc, Some, inl, inr, refl, ap, ◌∙◌, arith}
use Rattle.std.specs.Prelude.{◌⊎◌, slice_get, Option, None, option_map}
use Rattle.run_record.specs.declared.entry.Entry.{Entry}
use Rattle.run_record.specs.declared.flat.Head.{Head}
use Rattle.run_record.specs.Flat.{head_of}
use Rattle.turn_orders.specs.Lists.{Each, In, InOrder}
use Rattle.table_deeds.specs.Listing.{AreApart}

pub in_first : {X : Type 0} (x : X) (xs ys : List X) → In x xs → In x (xs ++ ys)
in_first x [] ys i = absurd i
in_first x (y ∷ xs) ys (inl e) = inl e
in_first x (y ∷ xs) ys (inr i) = inr (in_first x xs ys i)

pub in_last : {X : Type 0} (x : X) (xs : List X) → In x (xs ++ x ∷ [])
in_last x [] = inl refl
in_last x (y ∷ xs) = inr (in_last x xs)

pub in_front_or_last : {X : Type 0} (x y : X) (xs : List X) → In x (xs ++ y ∷ []) → In x xs ⊎ (x ≡ y)
in_front_or_last x y [] (inl e) = inr e
in_front_or_last x y [] (inr i) = absurd i
in_front_or_last x y (z ∷ xs) (inl e) = inl (inl e)
in_front_or_last x y (z ∷ xs) (inr i) = elim (in_front_or_last x y xs i) [ inl j ↦ inl (inr j) | inr e ↦ inr e ]

pub each_then : {X : Type 0} (P : X → Type 0) (xs : List X) (x : X) → Each P xs → P x → Each P (xs ++ x ∷ [])
each_then P [] x h p = (p, tt)
each_then P (y ∷ xs) x h p = (h.0, each_then P xs x h.1 p)

pub each_member : {X : Type 0} (P : X → Type 0) (xs : List X) → ((x : X) → In x xs → P x) → Each P xs
each_member P [] f = tt
each_member P (x ∷ xs) f = (f x (inl refl), each_member P xs (λ y i. f y (inr i)))

-- an element behind an ordered list, to which each before it stands so
pub order_then : {X : Type 0} (R : X → X → Type 0) (xs : List X) (x : X) → InOrder R xs → ((y : X) → In y xs → R y x) → InOrder R (xs ++ x ∷ [])
order_then R [] x o f = (tt, tt)
order_then R (y ∷ xs) x o f = (each_then (R y) xs x o.0 (f y (inl refl)), order_then R xs x o.1 (λ z i. f z (inr i)))

pub apart_then : (ts : List ℕ) (n : ℕ) → AreApart ts → ((t : ℕ) → In t ts → t < n) → AreApart (ts ++ n ∷ [])
apart_then ts n o f = order_then (λ (t u : ℕ). t ≢ u) ts n o (λ t i e. let l = f t i in absurd (omega (arith, l, e)))

-- ---- entries

-- the first of the entries from that number on
pub drop_first : (es : List Entry) (n : ℕ) (e : Entry) → slice_get es n ≡ Some e → drop n es ≡ e ∷ drop (suc n) es
drop_first [] n e is = absurd cc
drop_first (x ∷ es) zero e is = let same : x ≡ e = cc in ap (λ (y : Entry). y ∷ es) same
drop_first (x ∷ es) (suc n) e is = drop_first es n e is

-- the entry of that number, which has that head, is the first from there on
pub record IsHeaded (es : List Entry) (n : ℕ) (h : Head) : Type 0 where
  pub entry : Entry
  pub front : drop n es ≡ entry ∷ drop (n + 1) es
  pub stamp_is : entry.stamp ≡ h.stamp
  pub steps_are : entry.steps ≡ h.steps

pub headed : (es : List Entry) (n : ℕ) (h : Head) → option_map head_of (slice_get es n) ≡ Some h → IsHeaded es n h
headed es n h is = found (slice_get es n) refl is
  where
    found : (o : Option Entry) → slice_get es n ≡ o → option_map head_of o ≡ Some h → IsHeaded es n h
    found None at e = absurd cc
    found (Some entry) at e =
        let same : head_of entry ≡ h = cc in
        let next : suc n ≡ n + 1 = omega arith in
        record { entry = entry; front = drop_first es n entry at ∙ ap (λ (k : ℕ). entry ∷ drop k es) next; stamp_is = ap (λ (x : Head). x.stamp) same; steps_are = ap (λ (x : Head). x.steps) same }
