-- The program of a seed and a size: main makes three threads, each of which does so many operations.
use Rattle.std.specs.Prelude.{ℕ, ◌+◌, ◌*◌, ◌%◌, ◌==◌, nat_lt, if◌then◌else◌, List, ◌++◌, length}
use Rattle.std.specs.List.{flat_map, range_with_len}
use Rattle.gen_program.specs.Draws.{start, after, draw}
use Rattle.gen_program.specs.Notation.{entry_call, create_thread, exit_thread, read8, write8, atomic64_fetch_add, func_entry, func_exit, post_lock, pre_unlock}
use Rattle.gen_program.specs.Executable.{executable}

-- what is done at an offset of the data: reads, a write, an addition of order acq_rel, a function that is entered and left,
-- and a write under the mutex at offset 2040
abbrev pub at_offset : ℕ → ℕ → List ℕ
at_offset kind off =
    if nat_lt kind 4 then entry_call read8 off 0 0
    else if kind == 4 then entry_call write8 off 0 0
    else if kind == 5 then entry_call atomic64_fetch_add (1024 + off) 1 4
    else if kind == 6 then entry_call func_entry off 0 0 ++ entry_call func_exit 0 0 0
    else entry_call post_lock 2040 0 0 ++ (entry_call write8 off 0 0 ++ entry_call pre_unlock 2040 0 0)

-- the operation of two draws: the first chooses what is done, and the second where
unfoldable pub operation : ℕ → ℕ → List ℕ
operation r q = at_offset (r % 8) (8 * (q % 64))

-- operation k of a thread, which begins with the draws from a state on: each operation takes two
abbrev pub operation_at : ℕ → ℕ → List ℕ
operation_at x k = operation (draw x (2 * k)) (draw x (2 * k + 1))

-- so many operations, and the thread that does them and then ends
unfoldable pub operations : ℕ → ℕ → List ℕ
operations x count = flat_map (operation_at x) (range_with_len 0 count)

unfoldable pub thread : ℕ → ℕ → List ℕ
thread x size = operations x size ++ exit_thread

-- the three threads: each goes on with the draws where the one before it ended
abbrev pub t1 : ℕ → ℕ → List ℕ
t1 seed size = thread (start seed) size

abbrev pub t2 : ℕ → ℕ → List ℕ
t2 seed size = thread (after (start seed) (2 * size)) size

abbrev pub t3 : ℕ → ℕ → List ℕ
t3 seed size = thread (after (start seed) (4 * size)) size

-- the address of the word behind so many words of code
abbrev pub address : ℕ → ℕ
address words = 0x10000 + 4 * words

-- main, whose 14 words stand before the threads: so many of theirs stand before the second and before the third
unfoldable pub main_of : ℕ → ℕ → List ℕ
main_of second third = create_thread (address 14) ++ (create_thread (address (14 + second)) ++ (create_thread (address (14 + third)) ++ exit_thread))

unfoldable pub code : ℕ → ℕ → List ℕ
code seed size =
    main_of (length (t1 seed size)) (length (t1 seed size ++ t2 seed size))
    ++ (t1 seed size ++ t2 seed size ++ t3 seed size)

-- the file of a seed and a size
unfoldable pub program : ℕ → ℕ → List ℕ
program seed size = executable (code seed size)
