-- What stands before and after the first of a byte.
use Rattle.std.proofs.Common.{◌≡◌, ℕ, ◌+◌, ◌==◌, ◌||◌, true, false, List, [], ◌∷◌, ◌++◌, length, drop, refl, sym, ap, ◌∙◌, arith, suc, eq-eqb}
use Rattle.std.proofs.lemmas.Bool.{or_right, or_left}
use Rattle.std.proofs.lemmas.List.{take_at, take_all, drop_all}
use Rattle.std.proofs.lemmas.List.Elements.{All-head, All-tail}
use Rattle.std.proofs.lemmas.List.Folds.{list_any-append, list_any_none}
use Rattle.std.specs.List.{All, before_first, after_first, position_or_len, list_any}

-- the byte doesn't stand in the list
abbrev pub Lacks : ℕ → List ℕ → Type 0
Lacks byte xs = All (λ b. (b == byte) ≡ false) xs

cut_place : (byte : ℕ) (xs ys : List ℕ) → Lacks byte xs → position_or_len (λ b. b == byte) (xs ++ byte ∷ ys) ≡ length xs
cut_place byte [] ys h = let e : (byte == byte) ≡ true = eq-eqb byte byte refl in rw e refl
cut_place byte (x ∷ xs) ys h =
    let e : (x == byte) ≡ false = All-head (λ b. (b == byte) ≡ false) x xs h in
    let rest : position_or_len (λ b. b == byte) (xs ++ byte ∷ ys) ≡ length xs = cut_place byte xs ys (All-tail (λ b. (b == byte) ≡ false) x xs h) in
    rw e (ap (λ n. 1 + n) rest ∙ omega arith)

no_place : (byte : ℕ) (xs : List ℕ) → Lacks byte xs → position_or_len (λ b. b == byte) xs ≡ length xs
no_place byte [] h = refl
no_place byte (x ∷ xs) h =
    let e : (x == byte) ≡ false = All-head (λ b. (b == byte) ≡ false) x xs h in
    let rest : position_or_len (λ b. b == byte) xs ≡ length xs = no_place byte xs (All-tail (λ b. (b == byte) ≡ false) x xs h) in
    rw e (ap (λ n. 1 + n) rest ∙ omega arith)

drop_past : (byte : ℕ) (xs ys : List ℕ) → drop (length xs + 1) (xs ++ byte ∷ ys) ≡ ys
drop_past byte [] ys = refl
drop_past byte (x ∷ xs) ys =
    let e : suc (length xs) + 1 ≡ suc (length xs + 1) = omega arith in
    ap (λ n. drop n (x ∷ (xs ++ byte ∷ ys))) e ∙ drop_past byte xs ys

pub before_cut : (byte : ℕ) (bytes xs ys : List ℕ) → bytes ≡ xs ++ byte ∷ ys → Lacks byte xs → xs ≡ before_first (λ b. b == byte) bytes
before_cut byte bytes xs ys cut h =
    sym (take_at xs (byte ∷ ys) (position_or_len (λ b. b == byte) (xs ++ byte ∷ ys)) (sym (cut_place byte xs ys h)))
    ∙ ap (before_first (λ b. b == byte)) (sym cut)

pub after_cut : (byte : ℕ) (bytes xs ys : List ℕ) → bytes ≡ xs ++ byte ∷ ys → Lacks byte xs → ys ≡ after_first (λ b. b == byte) bytes
after_cut byte bytes xs ys cut h =
    sym (drop_past byte xs ys) ∙ ap (λ n. drop (n + 1) (xs ++ byte ∷ ys)) (sym (cut_place byte xs ys h))
    ∙ ap (after_first (λ b. b == byte)) (sym cut)

pub before_none : (byte : ℕ) (bytes : List ℕ) → Lacks byte bytes → bytes ≡ before_first (λ b. b == byte) bytes
before_none byte bytes h = sym (take_all (position_or_len (λ b. b == byte) bytes) bytes (omega (arith, no_place byte bytes h)))

pub after_none : (byte : ℕ) (bytes : List ℕ) → Lacks byte bytes → [] ≡ after_first (λ b. b == byte) bytes
after_none byte bytes h = sym (drop_all (position_or_len (λ b. b == byte) bytes + 1) bytes (omega (arith, no_place byte bytes h)))

pub any_cut : (byte : ℕ) (bytes xs ys : List ℕ) → bytes ≡ xs ++ byte ∷ ys → list_any (λ b. b == byte) bytes ≡ true
any_cut byte bytes xs ys cut =
    ap (list_any (λ b. b == byte)) cut ∙ list_any-append (λ b. b == byte) xs (byte ∷ ys)
    ∙ or_right (list_any (λ b. b == byte) xs) ((byte == byte) || list_any (λ b. b == byte) ys) (or_left (byte == byte) (list_any (λ b. b == byte) ys) (eq-eqb byte byte refl))

pub any_none : (byte : ℕ) (bytes : List ℕ) → Lacks byte bytes → list_any (λ b. b == byte) bytes ≡ false
any_none byte bytes h = list_any_none (λ b. b == byte) bytes h
