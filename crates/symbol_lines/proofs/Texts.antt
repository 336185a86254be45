-- A text and the place of the zero byte that ends it.
use Rattle.std.proofs.Common.{◌≡◌, ℕ, suc, ◌+◌, ◌-◌, ◌≤◌, false, eqb, ltb, List, [], ◌∷◌, length, take, drop, Some, None, refl, sym, ◌∙◌, inl, inr, arith}
use Rattle.std.specs.Prelude.{position}
use Rattle.std.specs.List.{position_from, list_any}
use Rattle.std.specs.Str.{IsUtf8, is_utf8}
use Rattle.std.proofs.lemmas.Bool.{cases_Bool}
use Rattle.std.proofs.lemmas.List.{take_all, length-drop}
use Rattle.std.proofs.lemmas.Str.{IsUtf8-from_is_utf8, is_utf8-from_IsUtf8}
use Rattle.std.proofs.lemmas.Iterator.Adapters.{position_from-zero}
use Rattle.symbol_lines.specs.Reading.{text_at}
use Rattle.symbol_lines.specs.KeptLines.{shown_or_none}

-- the bytes are whole behind a place
pub rest_is : (bs : List ℕ) (k : ℕ) → take (length bs - k) (drop k bs) ≡ drop k bs
rest_is bs k = take_all (length bs - k) (drop k bs) (omega (arith, length-drop k bs))

text_some : (bs : List ℕ) (i n : ℕ) → position_from (λ b. eqb b 0) i bs ≡ Some n → (i ≤ n) × (text_at bs ≡ Some (take (n - i) bs, drop (n - i + 1) bs))
text_some [] i n h = absurd (cc)
text_some (b ∷ bs) i n h =
    elim (cases_Bool (eqb b 0)) [
      | inl zero_here ↦
          let here : i ≡ n = let e = rw zero_here at h in cc in
          let none : n - i ≡ 0 = omega arith in
          (omega arith, rw (zero_here, none) refl)
      | inr later ↦
          let next = text_some bs (i + 1) n (rw later at h) in
          let some : n - i ≡ suc (n - (i + 1)) = omega (arith, next.0) in
          let more : suc (n - (i + 1)) + 1 ≡ suc (n - (i + 1) + 1) = omega arith in
          (omega (arith, next.0), rw (later, next.1, some, more) refl)
    ]

text_none : (bs : List ℕ) (i : ℕ) → position_from (λ b. eqb b 0) i bs ≡ None → text_at bs ≡ None
text_none [] i h = refl
text_none (b ∷ bs) i h =
    elim (cases_Bool (eqb b 0)) [
      | inl zero_here ↦ absurd (let e = rw zero_here at h in cc)
      | inr later ↦ rw (later, text_none bs (i + 1) (rw later at h)) refl
    ]

pub text_found : (bs : List ℕ) (n : ℕ) → Some n ≡ position (λ b. eqb b 0) bs → text_at bs ≡ Some (take n bs, drop (n + 1) bs)
text_found bs n h =
    let found = (text_some bs 0 n (sym (position_from-zero (λ b. eqb b 0) bs) ∙ sym h)).1 in
    let same : n - 0 ≡ n = omega arith in
    rw same at found

pub text_missing : (bs : List ℕ) → None ≡ position (λ b. eqb b 0) bs → text_at bs ≡ None
text_missing bs h = text_none bs 0 (sym (position_from-zero (λ b. eqb b 0) bs) ∙ sym h)

-- texts that can be shown
pub shown_is : (bs : List ℕ) → list_any (λ b. ltb b 0x20) bs ≡ false → IsUtf8 bs → shown_or_none bs ≡ Some bs
shown_is bs high utf8 = rw (high, is_utf8-from_IsUtf8 bs utf8) refl

pub shown_none : (bs : List ℕ) → list_any (λ b. ltb b 0x20) bs ≡ false → ¬ (IsUtf8 bs) → shown_or_none bs ≡ None
shown_none bs high bad =
    elim (cases_Bool (is_utf8 bs)) [
      | inl utf8 ↦ absurd (bad (IsUtf8-from_is_utf8 bs utf8))
      | inr not_utf8 ↦ rw (high, not_utf8) refl
    ]
