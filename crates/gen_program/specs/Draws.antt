-- The numbers that a seed gives: a linear congruential generator modulo 2^31, of which a draw gives the upper bits
-- (ISO C, the example of `rand`).
use Rattle.std.specs.Prelude.{ℕ, zero, suc, ◌+◌, ◌*◌, ◌/◌, ◌%◌, ◌^◌}

-- the state with which a seed begins
unfoldable pub start : ℕ → ℕ
start seed = seed % 2 ^ 31

-- the state that follows
unfoldable pub next : ℕ → ℕ
next x = (x * 1103515245 + 12345) % 2 ^ 31

-- the state after so many draws
unfoldable pub after : ℕ → ℕ → ℕ
after x zero = x
after x (suc n) = next (after x n)

-- draw n from a state on, counted from 0
abbrev pub draw : ℕ → ℕ → ℕ
draw x n = after x (n + 1) / 65536
