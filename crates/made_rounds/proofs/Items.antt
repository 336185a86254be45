-- What the opening seat's log has of a round.
use Rattle.std.proofs.Common.{◌≡◌, ◌<◌, ◌+◌, ℕ, zero, suc, List, [], ◌∷◌, ◌++◌, length, inl, inr, refl, ap, subst, arith}
use Rattle.std.specs.Prelude.{slice_get, Some}
use Rattle.turn_orders.specs.Lists.{Each, In}
use Rattle.turn_orders.specs.LineUp.{Stamped}
use Rattle.turn_orders.proofs.Members.{each_append}
use Rattle.shared_table.specs.declared.view.Item.{Item}
use Rattle.shared_table.specs.declared.view.Item.TheVariants.{Join}
use Rattle.shared_table.specs.Laws.{splits_in}
use Rattle.shared_table.specs.Rounds.{splits_from, joins_from}
use Rattle.woven_turns.specs.Weave.{IsTagged}
use Rattle.woven_turns.proofs.Weaving.{in_right}
use Rattle.placed_detector.specs.Standing.{Hand}
use Rattle.deed_histories.specs.Lines.{Tells}
use Rattle.cell_loads.specs.Pasts.{TouchesNone}
use Rattle.made_rounds.specs.Made.{MadeRound}
use Rattle.made_rounds.specs.Logs.{round_items}

-- an item without a deed, and at no cell
abbrev pub IsPlain : Item → Type 0
IsPlain x = TouchesNone x × IsTagged {L = Stamped Hand} {A = Unit {0}} {T = Tells} x []

plain_splits : (n k : ℕ) → Each IsPlain (splits_from n k)
plain_splits n zero = tt
plain_splits n (suc k) = ((tt, refl), plain_splits (n + 1) k)

plain_joins : (n k : ℕ) → Each IsPlain (joins_from n k)
plain_joins n zero = tt
plain_joins n (suc k) = ((tt, refl), plain_joins (n + 1) k)

pub plain_round : (x : MadeRound) → Each IsPlain (round_items x)
plain_round x = each_append IsPlain (splits_from x.first_seat (length x.parts)) (joins_from x.first_seat (length x.parts))
    (plain_splits x.first_seat (length x.parts)) (plain_joins x.first_seat (length x.parts))

no_splits : (n k : ℕ) → splits_in (joins_from n k) ≡ []
no_splits n zero = refl
no_splits n (suc k) = no_splits (n + 1) k

splits_then : (n k m j : ℕ) → length (splits_in (splits_from n k ++ joins_from m j)) ≡ k
splits_then n zero m j = ap length (no_splits m j)
splits_then n (suc k) m j =
    let e = splits_then (n + 1) k m j in
    let q : length (splits_in (splits_from n (suc k) ++ joins_from m j)) ≡ suc (length (splits_in (splits_from (n + 1) k ++ joins_from m j))) = refl in
    omega (arith, e, q)

-- a round makes a seat for each part
pub round_splits : (x : MadeRound) → length (splits_in (round_items x)) ≡ length x.parts
round_splits x = splits_then x.first_seat (length x.parts) x.first_seat (length x.parts)

in_joins : (n k i : ℕ) → i < k → In (Join (n + i)) (joins_from n k)
in_joins n zero i l = absurd (omega (arith, l))
in_joins n (suc k) zero l = inl (ap Join (let z : n + 0 ≡ n = omega arith in z))
in_joins n (suc k) (suc i) l =
    let z : n + 1 + i ≡ n + suc i = omega arith in
    inr (subst (λ (m : ℕ). In (Join m) (joins_from (n + 1) k)) z (in_joins (n + 1) k i (omega (arith, l))))

-- and joins it
pub in_round : (x : MadeRound) (i : ℕ) → i < length x.parts → In (Join (x.first_seat + i)) (round_items x)
in_round x i l = in_right (Join (x.first_seat + i)) (splits_from x.first_seat (length x.parts)) (joins_from x.first_seat (length x.parts))
    (in_joins x.first_seat (length x.parts) i l)

pub slice_below : {X : Type 0} (xs : List X) (i : ℕ) (x : X) → slice_get xs i ≡ Some x → i < length xs
slice_below [] i x e = absurd (cc)
slice_below (y ∷ xs) zero x e = let z : length (y ∷ xs) ≡ suc (length xs) = refl in omega (arith, z)
slice_below (y ∷ xs) (suc i) x e = let z : length (y ∷ xs) ≡ suc (length xs) = refl in let l = slice_below xs i x e in omega (arith, z, l)
