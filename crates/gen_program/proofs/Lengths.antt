-- One more operation, and how long code is.
use Rattle.std.proofs.Common.{◌≡◌, ℕ, zero, suc, ◌+◌, ◌*◌, ◌≤◌, List, [], ◌∷◌, ◌++◌, length, arith, refl, sym, ap, ◌∙◌, length-append, true, false, Bool, cond, ◌/◌, ◌%◌, add-one, add-zero}
use Rattle.std.proofs.Math.Nat.{add-suc}
use Rattle.std.specs.Prelude.{nat_lt, ◌==◌}
use Rattle.std.proofs.lemmas.List.{append-nil}
use Rattle.std.specs.List.{flat_map, range_with_len}
use Rattle.std.proofs.lemmas.List.Concat.{flat_map-append}
use Rattle.gen_program.specs.Executable.{word}
use Rattle.gen_program.specs.Draws.{after, next}
use Rattle.gen_program.specs.Notation.{entry_call, create_thread, exit_thread, read8, write8, atomic64_fetch_add, func_entry, func_exit, post_lock, pre_unlock}
use Rattle.gen_program.specs.Program.{at_offset, operation, operation_at, operations, thread, t1, t2, t3, main_of, code}

-- ---- draws

pub after-suc : (x n : ℕ) → after x (n + 1) ≡ next (after x n)
unfolding after
after-suc x n = ap (after x) (add-one n)

pub after-two : (x n : ℕ) → after x (2 * (n + 1)) ≡ next (next (after x (2 * n)))
after-two x n =
    let twice : 2 * (n + 1) ≡ 2 * n + 1 + 1 = omega arith in
    ap (after x) twice ∙ after-suc x (2 * n + 1) ∙ ap next (after-suc x (2 * n))

pub after-after : (x m n : ℕ) → after (after x m) n ≡ after x (m + n)
unfolding after
after-after x m zero = ap (after x) (sym (add-zero m))
after-after x m (suc n) = ap next (after-after x m n) ∙ ap (after x) (sym (add-suc m n))

-- ---- operations

range_more : (a n j : ℕ) → a + n ≡ j → range_with_len a (suc n) ≡ range_with_len a n ++ j ∷ []
range_more a zero j e =
    let same : a ≡ j = omega arith in
    ap (λ k. k ∷ []) same
range_more a (suc n) j e =
    let next_one : a + 1 + n ≡ j = omega arith in
    ap (λ (ks : List ℕ). a ∷ ks) (range_more (a + 1) n j next_one)

pub operations_more : (x n : ℕ) → operations x (n + 1) ≡ operations x n ++ operation_at x n
unfolding operations
operations_more x n =
    ap (λ k. flat_map (operation_at x) (range_with_len 0 k)) (add-one n)
    ∙ ap (flat_map (operation_at x)) (range_more 0 n n (omega arith))
    ∙ flat_map-append (operation_at x) (range_with_len 0 n) (n ∷ [])
    ∙ ap (λ (ws : List ℕ). operations x n ++ ws) (append-nil (operation_at x n))

pub operations_none : (x : ℕ) → operations x 0 ≡ []
unfolding operations
operations_none x = refl

-- ---- lengths

either_short : (b : Bool) (xs ys : List ℕ) → length xs ≤ 27 → length ys ≤ 27 → length (cond b xs ys) ≤ 27
either_short true xs ys p q = p
either_short false xs ys p q = q

pub length-entry_call : (number off v1 v2 : ℕ) → length (entry_call number off v1 v2) ≡ 9
unfolding entry_call
length-entry_call number off v1 v2 = refl

length-at_offset : (kind off : ℕ) → length (at_offset kind off) ≤ 27
length-at_offset kind off =
    let one : (number o v w : ℕ) → length (entry_call number o v w) ≤ 27 = λ number o v w. omega (arith, length-entry_call number o v w) in
    let two : (number o m p : ℕ) → length (entry_call number o 0 0 ++ entry_call m p 0 0) ≤ 27 = λ number o m p. omega (arith, length-append (entry_call number o 0 0) (entry_call m p 0 0), length-entry_call number o 0 0, length-entry_call m p 0 0) in
    let three : length (entry_call post_lock 2040 0 0 ++ (entry_call write8 off 0 0 ++ entry_call pre_unlock 2040 0 0)) ≤ 27 =
    omega (arith, length-append (entry_call post_lock 2040 0 0) (entry_call write8 off 0 0 ++ entry_call pre_unlock 2040 0 0), length-append (entry_call write8 off 0 0) (entry_call pre_unlock 2040 0 0), length-entry_call post_lock 2040 0 0, length-entry_call write8 off 0 0, length-entry_call pre_unlock 2040 0 0) in
    either_short (nat_lt kind 4) _ _ (one read8 off 0 0)
    (either_short (kind == 4) _ _ (one write8 off 0 0)
    (either_short (kind == 5) _ _ (one atomic64_fetch_add (1024 + off) 1 4)
    (either_short (kind == 6) _ _ (two func_entry off func_exit 0) three)))

length-operation : (r q : ℕ) → length (operation r q) ≤ 27
unfolding operation
length-operation r q = length-at_offset (r % 8) (8 * (q % 64))

length-operations : (x n : ℕ) → length (operations x n) ≤ 27 * n
length-operations x zero = rw operations_none (omega arith)
length-operations x (suc n) =
    let more : operations x (suc n) ≡ operations x n ++ operation_at x n = ap (operations x) (sym (add-one n)) ∙ operations_more x n in
    omega (arith, ap length more, length-append (operations x n) (operation_at x n), length-operations x n, length-operation (after x (2 * n + 1) / 65536) (after x (2 * n + 1 + 1) / 65536))

pub length-thread : (x size : ℕ) → length (thread x size) ≤ 27 * size + 2
unfolding thread exit_thread
length-thread x size = omega (arith, length-append (operations x size) exit_thread, length-operations x size)

pub length-main_of : (second third : ℕ) → length (main_of second third) ≡ 14
unfolding main_of create_thread exit_thread
length-main_of second third = refl

pub length-code : (seed size : ℕ) → (14 ≤ length (code seed size)) × (length (code seed size) ≤ 20 + 81 * size)
unfolding code
length-code seed size =
    let one = t1 seed size in
    let two = t2 seed size in
    let three = t3 seed size in
    let all = length-append (main_of (length one) (length (one ++ two))) (one ++ two ++ three) in
    let most = length-append (one ++ two) three in
    let last = length-append one two in
    let main = length-main_of (length one) (length (one ++ two)) in
    (omega (arith, all, main), omega (arith, all, most, last, main, length-thread))

-- ---- bytes

pub length-words : (words : List ℕ) → length (flat_map word words) ≡ 4 * length words
length-words [] = refl
length-words (w ∷ ws) = omega (arith, length-append (word w) (flat_map word ws), length-words ws)
