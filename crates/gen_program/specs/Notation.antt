-- Short programs for one call each.
use Rattle.std.specs.Prelude.{ℕ, List, [], ◌∷◌}
use Rattle.gen_program.specs.Words.{lui, addi, jal_next, ecall, high, low}

-- the numbers of calls
abbrev pub thread_create : ℕ
thread_create = 3

abbrev pub thread_exit : ℕ
thread_exit = 4

abbrev pub read8 : ℕ
read8 = 19

abbrev pub write8 : ℕ
write8 = 24

abbrev pub func_entry : ℕ
func_entry = 36

abbrev pub func_exit : ℕ
func_exit = 37

abbrev pub post_lock : ℕ
post_lock = 44

abbrev pub pre_unlock : ℕ
pre_unlock = 45

abbrev pub atomic64_fetch_add : ℕ
atomic64_fetch_add = 115

-- the call of a number, which stands in x17
abbrev pub service : ℕ → List ℕ
service number = addi 17 0 number ∷ ecall ∷ []

-- `E(name, off, v1, v2)`: the call of an entry function with the address 0x1000000 + off, which x10 has, and with further
-- arguments in x11 and x12. The `jal` is the instruction that seems to call it
unfoldable pub entry_call : ℕ → ℕ → ℕ → ℕ → List ℕ
entry_call number off v1 v2 =
    lui 10 0x1000 ∷
    addi 10 10 off ∷
    addi 11 0 v1 ∷
    addi 12 0 v2 ∷
    addi 13 0 0 ∷
    addi 14 0 0 ∷
    jal_next ∷
    service number

-- `N(label)`: makes a thread that begins at the label's address
unfoldable pub create_thread : ℕ → List ℕ
create_thread address = lui 10 (high address) ∷ addi 10 10 (low address) ∷ service thread_create

-- `T`: ends the thread
unfoldable pub exit_thread : List ℕ
exit_thread = service thread_exit
