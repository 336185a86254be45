-- What holds of an effect, whatever the instruction.
use Rattle.std.specs.Prelude.{◌≡◌, ℕ, ◌+◌, ◌%◌, ◌≤◌, ◌⊎◌, ◌==◌}
use Rattle.rv_exec.specs.declared.exec.Effect.{Effect}
use Rattle.rv_exec.specs.declared.exec.Effect.TheVariants.{Local, Load, Store, Amo, Reserve, Conditional, Call, Fault}
use Rattle.rv_exec.specs.Registers.{Registers}
use Rattle.rv_exec.specs.Meaning.{Meaning, IsAtomic}

abbrev pub IsSize : ℕ → Type 0
IsSize n = (n ≡ 1) ⊎ ((n ≡ 2) ⊎ ((n ≡ 4) ⊎ (n ≡ 8)))

-- the bytes at an address lie within eight aligned ones
pub record IsPlace (addr size : ℕ) : Type 0 where
  pub known : IsSize size
  pub multiple : addr % size ≡ 0
  pub within : addr % 8 + size ≤ 8

abbrev pub IsPlaced : Effect → Type 0
IsPlaced (Load addr size) = IsPlace addr size
IsPlaced (Store addr size value) = IsPlace addr size
IsPlaced (Amo addr size arg) = IsPlace addr size
IsPlaced (Reserve addr size) = IsPlace addr size
IsPlaced (Conditional addr size value) = IsPlace addr size
IsPlaced Local = Unit {0}
IsPlaced Call = Unit {0}
IsPlaced (Fault fault) = Unit {0}

-- an atomic memory operation is asked for where the instruction is one of that size
abbrev pub TellsAtomic : Meaning → Effect → Type 0
TellsAtomic m (Amo addr size arg) = IsAtomic m (size == 8)
TellsAtomic m _ = Unit {0}

-- unless the instruction is done, nothing has changed
abbrev pub KeepsUnlessDone : Effect → Registers → Registers → Type 0
KeepsUnlessDone Local old new = Unit {0}
KeepsUnlessDone _ old new = new ≡ old
