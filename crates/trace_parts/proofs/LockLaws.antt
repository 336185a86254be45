-- The list without the last element that passes a test.
use Rattle.std.proofs.Common.{◌≡◌, ℕ, zero, suc, ◌-◌, ◌<◌, ◌≤◌, ◌==◌, Bool, true, false, List, [], ◌∷◌, length, drop, get_or, refl, sym, ◌∙◌, ap, subst, arith}
use Rattle.std.specs.Bool.{beq}
use Rattle.std.specs.List.{list_any, remove}
use Rattle.std.proofs.lemmas.Bool.{or_parts, or_right, or_from, false≢true, and_from, and_left, and_right, eq-eqb, ne_eqb}
use Rattle.std.proofs.Math.Seq.{drop-cons}
use Rattle.run_record.specs.declared.report.KeptLock.{KeptLock}
use Rattle.run_laws.specs.Stacks.{without_last, is_lock}
use Rattle.run_laws.specs.Words.{bit}

-- where none passes, the list is whole
pub without_last-none : (p : KeptLock → Bool) (xs : List KeptLock) → list_any p xs ≡ false → without_last p xs ≡ xs
without_last-none p [] h = refl
without_last-none p (x ∷ xs) h =
    let here = or_parts (p x) (list_any p xs) h in
    rw here.0 (ap (λ (ys : List KeptLock). x ∷ ys) (without_last-none p xs here.1))

list_any-at : (p : KeptLock → Bool) (xs : List KeptLock) (i : ℕ) (d : KeptLock) → i < length xs → p (get_or xs i d) ≡ true → list_any p xs ≡ true
list_any-at p [] i d l h = absurd (omega arith)
list_any-at p (x ∷ xs) zero d l h = rw h refl
list_any-at p (x ∷ xs) (suc i) d l h = or_right (p x) (list_any p xs) (list_any-at p xs i d (omega arith) h)

-- the one that passes with none behind it leaves
pub without_last-at : (p : KeptLock → Bool) (xs : List KeptLock) (i : ℕ) (d : KeptLock) → i < length xs → p (get_or xs i d) ≡ true → list_any p (drop (suc i) xs) ≡ false → without_last p xs ≡ remove xs i
without_last-at p [] i d l h none = absurd (omega arith)
without_last-at p (x ∷ xs) zero d l h none = rw (h, none) refl
without_last-at p (x ∷ xs) (suc i) d l h none =
    rw (list_any-at p xs i d (omega arith) h, and_right (p x) false refl)
    (ap (λ (ys : List KeptLock). x ∷ ys) (without_last-at p xs i d (omega arith) h none))

same_bits : (a b : Bool) → beq a b ≡ true → (bit a == bit b) ≡ true
same_bits true true h = refl
same_bits true false h = absurd (false≢true h)
same_bits false true h = absurd (false≢true h)
same_bits false false h = refl

other_bits : (a b : Bool) → beq a b ≡ false → (bit a == bit b) ≡ false
other_bits true true h = absurd (false≢true (sym h))
other_bits true false h = refl
other_bits false true h = refl
other_bits false false h = absurd (false≢true (sym h))

pub is_lock-yes : (addr : ℕ) (read : Bool) (lock : KeptLock) → lock.addr ≡ addr → beq lock.read read ≡ true → is_lock addr read lock ≡ true
is_lock-yes addr read lock a r = and_from (lock.addr == addr) (bit lock.read == bit read) (eq-eqb lock.addr addr a) (same_bits lock.read read r)

pub is_lock-elsewhere : (addr : ℕ) (read : Bool) (lock : KeptLock) → (lock.addr ≡ addr → ⊥) → is_lock addr read lock ≡ false
is_lock-elsewhere addr read lock a = and_left (lock.addr == addr) (bit lock.read == bit read) (ne_eqb lock.addr addr a)

pub is_lock-other_kind : (addr : ℕ) (read : Bool) (lock : KeptLock) → beq lock.read read ≡ false → is_lock addr read lock ≡ false
is_lock-other_kind addr read lock r = and_right (lock.addr == addr) (bit lock.read == bit read) (other_bits lock.read read r)

-- one more lock in front of those that aren't it
pub none_from : (p : KeptLock → Bool) (xs : List KeptLock) (i : ℕ) (d : KeptLock) → 0 < i → i ≤ length xs → p (get_or xs (i - 1) d) ≡ false → list_any p (drop i xs) ≡ false → list_any p (drop (i - 1) xs) ≡ false
none_from p xs zero d l b h none = absurd (omega arith)
none_from p xs (suc i) d l b h none =
    let e : suc i - 1 ≡ i = omega arith in
    let here : p (get_or xs i d) ≡ false = rw e at h in
    rw (e, drop-cons xs i d (omega arith)) (or_from (p (get_or xs i d)) (list_any p (drop (suc i) xs)) here none)

-- what leaves a loop from the back, where the lock at i - 1 is it
pub removed_lock :
    (addr : ℕ) (read : Bool) (xs ys : List KeptLock) (i : ℕ) (lock : KeptLock) → 0 < i → i ≤ length xs → lock ≡ get_or xs (i - 1) lock → lock.addr ≡ addr → beq lock.read read ≡ true →
    list_any (is_lock addr read) (drop i xs) ≡ false → ys ≡ remove xs (i - 1) → ys ≡ without_last (is_lock addr read) xs
removed_lock addr read xs ys zero lock l b at a r none out = absurd (omega arith)
removed_lock addr read xs ys (suc i) lock l b at a r none out =
    let e : suc i - 1 ≡ i = omega arith in
    let at_i : lock ≡ get_or xs i lock = rw e at at in
    let it : is_lock addr read (get_or xs i lock) ≡ true = subst (λ (k : KeptLock). is_lock addr read k ≡ true) at_i (is_lock-yes addr read lock a r) in
    let out_i : ys ≡ remove xs i = rw e at out in
    out_i ∙ sym (without_last-at (is_lock addr read) xs i lock (omega arith) it none)

pub no_lock : (p : KeptLock → Bool) (xs ys : List KeptLock) (i : ℕ) → i ≤ 0 → list_any p (drop i xs) ≡ false → xs ≡ ys → xs ≡ without_last p ys
no_lock p xs ys zero l none same = same ∙ sym (without_last-none p ys (subst (λ (zs : List KeptLock). list_any p zs ≡ false) same none))
no_lock p xs ys (suc i) l none same = absurd (omega arith)
