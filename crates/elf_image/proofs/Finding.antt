-- Looking through numbered headers for the first that passes a test.
use Rattle.std.proofs.Common.{◌≡◌, ℕ, suc, ◌+◌, ◌-◌, ◌<◌, ◌≤◌, Bool, true, false, Some, None, map, refl, arith}
use Rattle.std.specs.Prelude.{find}
use Rattle.std.specs.List.{range_with_len}

pub find_here : {X : Type 0} (p : X → Bool) (h : ℕ → X) (n count : ℕ) → n < count → p (h n) ≡ true → find p (map h (range_with_len n (count - n))) ≡ Some (h n)
find_here p h n count lt hit =
    let k : count - n ≡ suc (count - (n + 1)) = omega arith in
    rw (k, hit) refl

pub find_later : {X : Type 0} (p : X → Bool) (h : ℕ → X) (n count : ℕ) → n < count → p (h n) ≡ false → find p (map h (range_with_len n (count - n))) ≡ find p (map h (range_with_len (n + 1) (count - (n + 1))))
find_later p h n count lt miss =
    let k : count - n ≡ suc (count - (n + 1)) = omega arith in
    rw (k, miss) refl

pub find_none : {X : Type 0} (p : X → Bool) (h : ℕ → X) (n count : ℕ) → count ≤ n → find p (map h (range_with_len n (count - n))) ≡ None
find_none p h n count le =
    let k : count - n ≡ 0 = omega arith in
    rw k refl
