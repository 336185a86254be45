-- Each word of the code is an instruction.
use Rattle.std.proofs.Common.{◌≡◌, ℕ, zero, suc, ◌+◌, ◌*◌, ◌%◌, ◌^◌, ◌<◌, ◌≤◌, List, [], ◌∷◌, ◌++◌, length, arith, refl, sym, ap, ◌∙◌, length-append, true, false, Bool, cond, add-one}
use Rattle.std.specs.Prelude.{nat_lt, ◌==◌, All, IsSome, is_some}
use Rattle.std.proofs.lemmas.List.Elements.{All-nil, All-cons, All-append, All-same}
use Rattle.rv_decode.specs.Table.{instr_of}
use Rattle.gen_program.specs.Words.{lui, addi, jal_next, ecall, high, low}
use Rattle.gen_program.specs.Notation.{service, entry_call, create_thread, exit_thread, read8, write8, atomic64_fetch_add, func_entry, func_exit, post_lock, pre_unlock, thread_create, thread_exit}
use Rattle.gen_program.specs.Program.{address, at_offset, operation, operation_at, operations, thread, t1, t2, main_of, code}
use Rattle.gen_program.proofs.Decoding.{instr_of-lui, instr_of-addi}
use Rattle.gen_program.proofs.Lengths.{operations_none, operations_more, length-thread}

pub record IsWord (w : ℕ) : Type 0 where
  pub instruction : IsSome (instr_of w)
  pub fits : w < 2 ^ 32

record AreWords (ws : List ℕ) : Type 0 where
  each : All IsWord ws

none : AreWords []
none = record { each = All-nil IsWord }

more : {w : ℕ} {ws : List ℕ} → IsWord w → AreWords ws → AreWords (w ∷ ws)
more {w} {ws} here rest = record { each = All-cons IsWord w ws here rest.each }

joined : {vs ws : List ℕ} → AreWords vs → AreWords ws → AreWords (vs ++ ws)
joined {vs} {ws} first rest = record { each = All-append IsWord vs ws first.each rest.each }

same : {vs ws : List ℕ} → vs ≡ ws → AreWords ws → AreWords vs
same {vs} {ws} e words = record { each = All-same IsWord vs ws e words.each }

-- ---- words

lui_is_word : (d u : ℕ) → d < 32 → u < 2 ^ 20 → IsWord (lui d u)
unfolding lui
lui_is_word d u small fits = record { instruction = ap is_some (instr_of-lui d u small fits); fits = omega arith }

addi_is_word : (d s v : ℕ) → d < 32 → s < 32 → v < 2 ^ 12 → IsWord (addi d s v)
unfolding addi
addi_is_word d s v small low fits = record { instruction = ap is_some (instr_of-addi d s v small low fits); fits = omega arith }

jal_next_is_word : IsWord jal_next
unfolding instr_of jal_next
jal_next_is_word = record { instruction = refl; fits = omega arith }

ecall_is_word : IsWord ecall
unfolding instr_of ecall
ecall_is_word = record { instruction = refl; fits = omega arith }

-- ---- calls

service_words : (n : ℕ) → n < 2 ^ 12 → AreWords (service n)
service_words n fits = more (addi_is_word 17 0 n (omega arith) (omega arith) fits) (more ecall_is_word none)

entry_call_words : (n off v w : ℕ) → n < 2 ^ 12 → off < 2 ^ 12 → v < 2 ^ 12 → w < 2 ^ 12 → AreWords (entry_call n off v w)
unfolding entry_call
entry_call_words n off v w n_fits off_fits v_fits w_fits =
    more (lui_is_word 10 0x1000 (omega arith) (omega arith))
    (more (addi_is_word 10 10 off (omega arith) (omega arith) off_fits)
    (more (addi_is_word 11 0 v (omega arith) (omega arith) v_fits)
    (more (addi_is_word 12 0 w (omega arith) (omega arith) w_fits)
    (more (addi_is_word 13 0 0 (omega arith) (omega arith) (omega arith))
    (more (addi_is_word 14 0 0 (omega arith) (omega arith) (omega arith))
    (more jal_next_is_word (service_words n n_fits)))))))

create_thread_words : (a : ℕ) → a < 2 ^ 31 → AreWords (create_thread a)
unfolding create_thread
create_thread_words a fits =
    more (lui_is_word 10 (high a) (omega arith) (omega arith))
    (more (addi_is_word 10 10 (low a) (omega arith) (omega arith) (omega arith)) (service_words thread_create (omega arith)))

exit_thread_words : AreWords exit_thread
unfolding exit_thread
exit_thread_words = service_words thread_exit (omega arith)

-- ---- threads

either : {vs ws : List ℕ} (b : Bool) → AreWords vs → AreWords ws → AreWords (cond b vs ws)
either true p q = p
either false p q = q

at_offset_words : (kind off : ℕ) → off < 512 → AreWords (at_offset kind off)
at_offset_words kind off small =
    let one : (n : ℕ) → n < 2 ^ 12 → AreWords (entry_call n off 0 0) = λ n fits. entry_call_words n off 0 0 fits (omega arith) (omega arith) (omega arith) in
    let mutex : (n : ℕ) → n < 2 ^ 12 → AreWords (entry_call n 2040 0 0) = λ n fits. entry_call_words n 2040 0 0 fits (omega arith) (omega arith) (omega arith) in
    let leaves : AreWords (entry_call func_exit 0 0 0) = entry_call_words func_exit 0 0 0 (omega arith) (omega arith) (omega arith) (omega arith) in
    let adds : AreWords (entry_call atomic64_fetch_add (1024 + off) 1 4) = entry_call_words atomic64_fetch_add (1024 + off) 1 4 (omega arith) (omega arith) (omega arith) (omega arith) in
    either (nat_lt kind 4) (one read8 (omega arith))
    (either (kind == 4) (one write8 (omega arith))
    (either (kind == 5) adds
    (either (kind == 6) (joined (one func_entry (omega arith)) leaves)
    (joined (mutex post_lock (omega arith)) (joined (one write8 (omega arith)) (mutex pre_unlock (omega arith)))))))

operation_words : (r q : ℕ) → AreWords (operation r q)
unfolding operation
operation_words r q = at_offset_words (r % 8) (8 * (q % 64)) (omega arith)

operations_words : (x n : ℕ) → AreWords (operations x n)
operations_words x zero = same (operations_none x) none
operations_words x (suc n) =
    let last : operations x (suc n) ≡ operations x n ++ operation_at x n = ap (operations x) (sym (add-one n)) ∙ operations_more x n in
    same last (joined (operations_words x n) (operation_words _ _))

thread_words : (x size : ℕ) → AreWords (thread x size)
unfolding thread
thread_words x size = joined (operations_words x size) exit_thread_words

main_words : (second third : ℕ) → second < 2 ^ 28 → third < 2 ^ 28 → AreWords (main_of second third)
unfolding main_of
main_words second third one two =
    joined (create_thread_words (address 14) (omega arith))
    (joined (create_thread_words (address (14 + second)) (omega arith))
    (joined (create_thread_words (address (14 + third)) (omega arith)) exit_thread_words))

code_are_words : (seed size : ℕ) → size ≤ 10000 → AreWords (code seed size)
unfolding code
code_are_words seed size small =
    let one = t1 seed size in
    let two = t2 seed size in
    let short : length one < 2 ^ 28 = omega (arith, length-thread) in
    let both : length (one ++ two) < 2 ^ 28 = omega (arith, length-append one two, length-thread) in
    joined (main_words (length one) (length (one ++ two)) short both)
    (joined (joined (thread_words _ size) (thread_words _ size)) (thread_words _ size))

pub code_words : (seed size : ℕ) → size ≤ 10000 → All IsWord (code seed size)
code_words seed size small = (code_are_words seed size small).each
