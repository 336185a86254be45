-- The call table: one row a number. The number stands in x17, the arguments in x10, x11 and so on.
-- The services, the numbers and the registers are this project's own; the other calls are named for the `__tsan_` entry functions of compiler-rt.
use Rattle.std.specs.Prelude.{◌≡◌, ◌<◌, ◌≤◌, ℕ, ◌+◌, ◌-◌, ◌*◌, ◌%◌, ◌^◌, ◌==◌, nat_lt, min, Bool, true, false, if◌then◌else◌, List, [], ◌∷◌, Option, None, find, ◌⊎◌}
use Rattle.std.specs.Option.{option_map}
use Rattle.std.specs.Int.{bit_at}
use Rattle.rv_exec.specs.Registers.{Registers, value}
use Rattle.entry_calls.specs.declared.call.Call.{Call}
use Rattle.entry_calls.specs.declared.call.Call.TheVariants.{Put, Exit, Create, ThreadExit, Join, Yield, Access, Enter, Leave, Atomic, Fence, Acquire, Release, MutexCreate, MutexDestroy, PostLock, PreUnlock}
use Rattle.entry_calls.specs.declared.call.AtomicOp.{AtomicOp}
use Rattle.entry_calls.specs.declared.call.AtomicOp.TheVariants as ops

abbrev pub arg : ℕ → Registers → ℕ
arg k r = value r (10 + k)

-- the low `size` bytes of a word
abbrev pub cut : ℕ → ℕ → ℕ
cut size word = word % 2 ^ (8 * size)

-- the address of the instruction before a return address
abbrev pub before : ℕ → ℕ
before r = (r + (2 ^ 64 - 4)) % 2 ^ 64

-- an access of the first 65,536 bytes of a range
abbrev pub range : Bool → Registers → Call
range read r = Access (arg 0 r) (min (arg 1 r) 65536) read

abbrev pub access : ℕ → Bool → Registers → Call
access size read r = Access (arg 0 r) size read

-- bit 3 of a mutex call's flags says that the lock is one to read
abbrev pub is_read_lock : Registers → Bool
is_read_lock r = bit_at (arg 1 r) 3 == 1

-- a call and its number
pub record Row : Type 0 where
  pub number : ℕ
  pub call : Registers → Call

abbrev pub row : ℕ → (Registers → Call) → Row
row number call = record { number = number; call = call }

abbrev pub services : List Row
services =
    row 1 (λ r. Put (arg 0 r) (min (arg 1 r) 8)) ∷
    row 2 (λ r. Exit (arg 0 r % 2 ^ 8)) ∷
    row 3 (λ r. Create (arg 0 r) (arg 1 r) (arg 2 r)) ∷
    row 4 (λ r. ThreadExit) ∷
    row 5 (λ r. Join (arg 0 r)) ∷
    row 6 (λ r. Yield) ∷
    []

abbrev pub accesses : List Row
accesses =
    row 16 (access 1 true) ∷
    row 17 (access 2 true) ∷
    row 18 (access 4 true) ∷
    row 19 (access 8 true) ∷
    row 20 (access 16 true) ∷
    row 21 (access 1 false) ∷
    row 22 (access 2 false) ∷
    row 23 (access 4 false) ∷
    row 24 (access 8 false) ∷
    row 25 (access 16 false) ∷
    -- unaligned
    row 26 (access 2 true) ∷
    row 27 (access 4 true) ∷
    row 28 (access 8 true) ∷
    row 29 (access 16 true) ∷
    row 30 (access 2 false) ∷
    row 31 (access 4 false) ∷
    row 32 (access 8 false) ∷
    row 33 (access 16 false) ∷
    row 34 (range true) ∷
    row 35 (range false) ∷
    []

abbrev pub others : List Row
others =
    row 36 (λ r. Enter (before (arg 0 r))) ∷
    row 37 (λ r. Leave) ∷
    -- vptr_update, vptr_read
    row 38 (access 8 false) ∷
    row 39 (access 8 true) ∷
    row 40 (λ r. Acquire (arg 0 r)) ∷
    row 41 (λ r. Release (arg 0 r)) ∷
    row 42 (λ r. MutexCreate) ∷
    row 43 (λ r. MutexDestroy (arg 0 r)) ∷
    row 44 (λ r. PostLock (arg 0 r) (is_read_lock r)) ∷
    row 45 (λ r. PreUnlock (arg 0 r) (is_read_lock r)) ∷
    row 46 (λ r. Fence) ∷
    []

-- the call of the row of that number
abbrev pub found : List Row → ℕ → Registers → Option Call
found rows number r = option_map (λ row. row.call r) (find (λ row. row.number == number) rows)

-- ---- atomic calls: 64 + 16 s + k is operation k on 2^s bytes

-- an order above 5 is taken as 5
abbrev pub order : ℕ → ℕ
order n = min n 5

-- addr, order
abbrev pub load : ℕ → Registers → Call
load size r = Atomic ops.Load size (arg 0 r) 0 0 (order (arg 1 r)) 0

-- addr, value, order
abbrev pub with_value : AtomicOp → ℕ → Registers → Call
with_value op size r = Atomic op size (arg 0 r) (cut size (arg 1 r)) 0 (order (arg 2 r)) 0

-- addr, expected, new, order, fail order
abbrev pub compare : ℕ → Registers → Call
compare size r = Atomic ops.Compare size (arg 0 r) (cut size (arg 2 r)) (cut size (arg 1 r)) (order (arg 3 r)) (order (arg 4 r))

abbrev pub operations : ℕ → List Row
operations size =
    row 0 (load size) ∷
    row 1 (with_value ops.Store size) ∷
    row 2 (with_value ops.Exchange size) ∷
    row 3 (with_value ops.Add size) ∷
    row 4 (with_value ops.Sub size) ∷
    row 5 (with_value ops.And size) ∷
    row 6 (with_value ops.Or size) ∷
    row 7 (with_value ops.Xor size) ∷
    row 8 (compare size) ∷
    []

-- the call that the registers tell, if there is one
abbrev pub call_numbered : ℕ → Registers → Option Call
call_numbered n r =
    if nat_lt n 16 then found services n r
    else if nat_lt n 36 then found accesses n r
    else if nat_lt n 64 then found others n r
    else if nat_lt n 80 then found (operations 1) (n - 64) r
    else if nat_lt n 96 then found (operations 2) (n - 80) r
    else if nat_lt n 112 then found (operations 4) (n - 96) r
    else if nat_lt n 128 then found (operations 8) (n - 112) r
    else None

unfoldable pub call_of : Registers → Option Call
call_of r = call_numbered (value r 17) r

-- ---- what holds of each call of the table

abbrev pub IsSize : ℕ → Type 0
IsSize n = (n ≡ 1) ⊎ ((n ≡ 2) ⊎ ((n ≡ 4) ⊎ (n ≡ 8)))

pub record IsAtomic (size value expected order fail_order : ℕ) : Type 0 where
  pub sized : IsSize size
  pub value_fits : value < 2 ^ (8 * size)
  pub expected_fits : expected < 2 ^ (8 * size)
  pub known_order : order ≤ 5
  pub known_fail_order : fail_order ≤ 5

abbrev pub IsCall : Call → Type 0
IsCall (Put v count) = count ≤ 8
IsCall (Access addr size read) = size ≤ 65536
IsCall (Atomic op size addr v expected o fail_order) = IsAtomic size v expected o fail_order
IsCall _ = Unit {0}
