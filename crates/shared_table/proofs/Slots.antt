-- Slots that are emptied one by one.
use Rattle.std.proofs.Common.{◌≡◌, ℕ, zero, suc, ◌+◌, Bool, false, List, [], ◌∷◌, get_or, set, refl, ap, ◌∙◌, arith, get_or-set_other}
use mathlib.Core.Logic.{dite}
use native.Mathlib.Decide.{ℕ_discrete}
use Rattle.shared_table.specs.Ends.{Filled, AreEmpty}

emptied_here : (l : List Bool) (j : ℕ) → get_or (set l j false) j false ≡ false
emptied_here [] j = refl
emptied_here (x ∷ xs) zero = refl
emptied_here (x ∷ xs) (suc j) = emptied_here xs j

-- one more is empty
pub emptied : (fs : List Bool) (i : ℕ) → AreEmpty fs i → AreEmpty (set fs i false) (i + 1)
emptied fs i old k l = dite (ℕ_discrete k i)
    (λ e. ap (λ (z : ℕ). get_or (set fs i false) z false) e ∙ emptied_here fs i)
    (λ o. get_or-set_other fs i k false false o ∙ old k (omega arith))

-- what comes behind stays
pub still_filled : (fs : List Bool) (i high : ℕ) → Filled fs i high → Filled (set fs i false) (i + 1) high
still_filled fs i high old k low below = get_or-set_other fs i k false false (λ e. omega arith) ∙ old k (omega arith) below

abbrev two_out : List Bool → ℕ → List Bool
two_out fs n = set (set fs n false) (n + 1) false

emptied_two : (fs : List Bool) (n : ℕ) → AreEmpty fs n → AreEmpty (two_out fs n) (n + 2)
emptied_two fs n old k l = emptied (set fs n false) (n + 1) (emptied fs n old) k (omega arith)

filled_after_two : (fs : List Bool) (n high : ℕ) → Filled fs n high → Filled (two_out fs n) (n + 2) high
filled_after_two fs n high old k low below = still_filled (set fs n false) (n + 1) high (still_filled fs n high old) k (omega arith) below

pub emptied_four : (fs : List Bool) (n : ℕ) → AreEmpty fs n → AreEmpty (set (set (set (set fs n false) (n + 1) false) (n + 2) false) (n + 3) false) (n + 4)
emptied_four fs n old k l = emptied (set (two_out fs n) (n + 2) false) (n + 3) (λ j m. emptied (two_out fs n) (n + 2) (emptied_two fs n old) j (omega arith)) k (omega arith)

pub filled_after_four : (fs : List Bool) (n high : ℕ) → Filled fs n high → Filled (set (set (set (set fs n false) (n + 1) false) (n + 2) false) (n + 3) false) (n + 4) high
filled_after_four fs n high old k low below =
    still_filled (set (two_out fs n) (n + 2) false) (n + 3) high (λ j m under. still_filled (two_out fs n) (n + 2) high (filled_after_two fs n high old) j (omega arith) under) k (omega arith) below
