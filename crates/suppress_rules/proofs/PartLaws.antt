-- Texts in parts are read like whole ones.
use Rattle.std.proofs.Common.{◌≡◌, ℕ, suc, zero, ◌-◌, List, [], ◌∷◌, ◌++◌, length, drop, refl, sym, ap, ◌∙◌, arith}

-- a text without its front
drop-append : (n : ℕ) (xs ys : List ℕ) → drop n (xs ++ ys) ≡ drop n xs ++ drop (n - length xs) ys
drop-append n [] ys = let e : n - 0 ≡ n = omega arith in rw (e, drop_nothing n) refl
  where
    drop_nothing : (n : ℕ) → drop {A = ℕ} n [] ≡ []
    drop_nothing zero = refl
    drop_nothing (suc n) = refl
drop-append zero (x ∷ xs) ys = let e : 0 - suc (length xs) ≡ 0 = omega arith in rw e refl
drop-append (suc n) (x ∷ xs) ys = let e : suc n - suc (length xs) ≡ n - length xs = omega arith in rw e (drop-append n xs ys)

pub without_parts : (n m k : ℕ) (xs ys zs a b d : List ℕ) → a ≡ drop n xs → m ≡ n - length xs → b ≡ drop m ys → k ≡ m - length ys → d ≡ drop k zs → a ++ (b ++ d) ≡ drop n (xs ++ (ys ++ zs))
without_parts n m k xs ys zs a b d front m_is middle k_is back =
    (λ i. front i ++ (middle i ++ back i))
    ∙ ap (λ q. drop n xs ++ (drop m ys ++ drop q zs)) k_is ∙ ap (λ r. drop n xs ++ r) (sym (drop-append m ys zs))
    ∙ ap (λ q. drop n xs ++ drop q (ys ++ zs)) m_is ∙ sym (drop-append n xs (ys ++ zs))
