-- A number as three groups of digits, of which the middle one is replaced.
use Rattle.std.proofs.Common.{◌≡◌, ℕ, ◌+◌, ◌-◌, ◌*◌, ◌/◌, ◌%◌, ◌^◌, ◌<◌, ◌≤◌, sym, ◌∙◌, ap, subst, arith}
use Rattle.std.proofs.lemmas.Nat.{mod-pow-add, pow-add, div-add-mod', mul-add-lt, mod_below, pow_pos}
use Rattle.std.proofs.Math.Nat.{div-lt_iff_lt-mul, mod-eq_of_lt, one-mul}
use Rattle.std.proofs.Math.Pow.{pow_mono}
use Rattle.guest_memory.specs.Fields.{field, with_field}

-- the three groups
groups : (n j k : ℕ) → n ≡ n / 2 ^ (j + k) * 2 ^ (j + k) + (n / 2 ^ k % 2 ^ j * 2 ^ k + n % 2 ^ k)
groups n j k = sym (div-add-mod' n (2 ^ (j + k))) ∙ ap (λ m. n / 2 ^ (j + k) * 2 ^ (j + k) + m) (mod-pow-add n j k)

-- two groups of j and of k digits make a number of j + k digits
two_below : (v l j k : ℕ) → v < 2 ^ j → l < 2 ^ k → v * 2 ^ k + l < 2 ^ (j + k)
two_below v l j k vs ls =
    let together : v * 2 ^ k + l < 2 ^ k * 2 ^ j = mul-add-lt v (2 ^ k) l (2 ^ j) vs ls in
    let power : 2 ^ (k + j) ≡ 2 ^ k * 2 ^ j = pow-add 2 k j in
    let order : k + j ≡ j + k = omega arith in
    subst (λ (m : ℕ). v * 2 ^ k + l < 2 ^ m) order (subst (λ (m : ℕ). v * 2 ^ k + l < m) (sym power) together)

-- the digits above the lowest m of a number of m + i digits are i
above_below : (n m i : ℕ) → n < 2 ^ (i + m) → n / 2 ^ m < 2 ^ i
above_below n m i h = (div-lt_iff_lt-mul (pow_pos m)).1 (subst (λ (p : ℕ). n < p) (pow-add 2 i m) h)

-- A middle group of j digits, above k others, is replaced.
pub record Replaces (n j k v : ℕ) : Type 0 where
  pub old_within : n / 2 ^ k % 2 ^ j * 2 ^ k ≤ n
  pub new_small : v * 2 ^ k < 2 ^ 64
  pub value : n - n / 2 ^ k % 2 ^ j * 2 ^ k + v * 2 ^ k ≡ n / 2 ^ (j + k) * 2 ^ (j + k) + (v * 2 ^ k + n % 2 ^ k)
  pub small : n - n / 2 ^ k % 2 ^ j * 2 ^ k + v * 2 ^ k < 2 ^ 64

bounded : (n j k v i : ℕ) → i + (j + k) ≡ 64 → n < 2 ^ 64 → v < 2 ^ j → n / 2 ^ (j + k) * 2 ^ (j + k) + (v * 2 ^ k + n % 2 ^ k) < 2 ^ 64
bounded n j k v i sum ns vs =
    let low : v * 2 ^ k + n % 2 ^ k < 2 ^ (j + k) = two_below v (n % 2 ^ k) j k vs (mod_below n (2 ^ k) (pow_pos k)) in
    let high : n / 2 ^ (j + k) < 2 ^ i = above_below n (j + k) i (subst (λ (m : ℕ). n < 2 ^ m) (sym sum) ns) in
    subst (λ (m : ℕ). n / 2 ^ (j + k) * 2 ^ (j + k) + (v * 2 ^ k + n % 2 ^ k) < 2 ^ m) sum (two_below (n / 2 ^ (j + k)) (v * 2 ^ k + n % 2 ^ k) i (j + k) high low)

same_sum : (n h f v l : ℕ) → n ≡ h + (f + l) → n - f + v ≡ h + (v + l)
same_sum n h f v l e = omega arith

pub replaces : (n j k v : ℕ) → n < 2 ^ 64 → j + k ≤ 64 → v < 2 ^ j → Replaces n j k v
replaces n j k v ns within vs =
    let all = groups n j k in
    let is = same_sum n (n / 2 ^ (j + k) * 2 ^ (j + k)) (n / 2 ^ k % 2 ^ j * 2 ^ k) (v * 2 ^ k) (n % 2 ^ k) all in
    let top : n / 2 ^ (j + k) * 2 ^ (j + k) + (v * 2 ^ k + n % 2 ^ k) < 2 ^ 64 = bounded n j k v (64 - (j + k)) (omega arith) ns vs in
    record {
      old_within = omega (arith, all);
      new_small = omega (arith, top);
      value = is;
      small = subst (λ (m : ℕ). m < 2 ^ 64) (sym is) top;
    }

mod_fits : (n : ℕ) → n < 18446744073709551616 → n % 18446744073709551616 ≡ n
mod_fits n h = mod-eq_of_lt h

power_fits : (s : ℕ) → s < 8 → 1 * 2 ^ (8 * s) % 18446744073709551616 ≡ 2 ^ (8 * s)
power_fits s h =
    let below : 2 ^ (8 * s) ≤ 2 ^ 56 = pow_mono {i = 8 * s} {j = 56} (omega arith) in
    ap (λ m. m % 18446744073709551616) (one-mul (2 ^ (8 * s))) ∙ mod_fits (2 ^ (8 * s)) (omega (arith, below))

-- what the code makes of a word
abbrev pub written : ℕ → ℕ → ℕ → ℕ → ℕ → ℕ
written n o s value old =
    n - old * 2 ^ (8 * o) % 18446744073709551616 + value % (1 * 2 ^ (8 * s) % 18446744073709551616) * 2 ^ (8 * o) % 18446744073709551616

pub record Writes (n o s value old : ℕ) : Type 0 where
  pub value_is : written n o s value old ≡ with_field n o s value
  pub fits : written n o s value old < 18446744073709551616

writes_by : (n o s value p : ℕ) → p ≡ 2 ^ (8 * s) → n < 2 ^ 64 → o + s ≤ 8 →
    (n - field n o s * 2 ^ (8 * o) % 18446744073709551616 + value % p * 2 ^ (8 * o) % 18446744073709551616 ≡ with_field n o s value)
    × (with_field n o s value < 18446744073709551616)
writes_by n o s value p is ns within =
    let r = replaces n (8 * s) (8 * o) (value % 2 ^ (8 * s)) ns (omega arith) (mod_below value (2 ^ (8 * s)) (pow_pos (8 * s))) in
    let old_fits = mod_fits (field n o s * 2 ^ (8 * o)) (omega (arith, r.old_within)) in
    let new_fits = mod_fits (value % 2 ^ (8 * s) * 2 ^ (8 * o)) (omega (arith, r.new_small)) in
    (rw (is, old_fits, new_fits) r.value, subst (λ (m : ℕ). m < 18446744073709551616) r.value r.small)

pub writes : (n o s value old : ℕ) → n < 2 ^ 64 → s < 8 → o + s ≤ 8 → old ≡ field n o s → Writes n o s value old
writes n o s value old ns short within is =
    let w = writes_by n o s value (1 * 2 ^ (8 * s) % 18446744073709551616) (power_fits s short) ns within in
    let e : written n o s value old ≡ with_field n o s value = subst (λ (f : ℕ). written n o s value f ≡ with_field n o s value) (sym is) w.0 in
    record { value_is = e; fits = subst (λ (m : ℕ). m < 18446744073709551616) (sym e) w.1 }
