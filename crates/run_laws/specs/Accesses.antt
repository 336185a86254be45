-- What an access touches: granules with masks of their bytes.
use Rattle.std.specs.Prelude.{◌≡◌, ◌≢◌, ℕ, ◌+◌, ◌-◌, ◌*◌, ◌/◌, ◌^◌, ◌==◌, ◌<◌, ◌≤◌, min, if◌then◌else◌, Bool, true, List, filter_map, Option, Some, None, option_map}
use Rattle.run_laws.specs.Numbers.{up_from}
use Rattle.run_record.specs.declared.event.Event.{Event}
use Rattle.run_record.specs.declared.event.Event.TheVariants as events

-- what an Access event announces
pub record Access : Type 0 where
  pub place : ℕ
  pub addr : ℕ
  pub size : ℕ
  pub read : Bool
  pub atomic : Bool

-- the access that the event is, if it is one
abbrev pub access_of : Event → Option Access
access_of (events.Access place addr size read atomic) = Some (record { place = place; addr = addr; size = size; read = read; atomic = atomic })
access_of _ = None

-- the first address after it; addresses end at 2^64
abbrev pub end_of : Access → ℕ
end_of a = min (a.addr + a.size) (2 ^ 64)

-- the bytes that it covers among the eight from 8 * block on, the least bit for the first byte
abbrev pub mask_in : Access → ℕ → ℕ
mask_in a block = 2 ^ min (end_of a - 8 * block) 8 - 2 ^ min (a.addr - 8 * block) 8

-- A part of an access: a granule, and the mask of the bytes there.
pub record Part : Type 0 where
  pub granule : ℕ
  pub mask : ℕ

-- the part in a block of eight bytes; none where it covers no byte there, or where the block is no granule
abbrev pub part_in : (ℕ → Option ℕ) → Access → ℕ → Option Part
part_in granule_of a block =
    if mask_in a block == 0 then None else option_map (λ (g : ℕ). record { granule = g; mask = mask_in a block }) (granule_of (8 * block))

-- its parts by rising address, where granule_of tells the granule that begins at an address
abbrev pub parts_of : (ℕ → Option ℕ) → Access → List Part
parts_of granule_of a = filter_map (part_in granule_of a) (up_from (a.addr / 8) ((end_of a + 7) / 8 - a.addr / 8))

-- the byte at this address is in a part of the access
abbrev pub Touches : (ℕ → Option ℕ) → Access → ℕ → Type 0
Touches granule_of a byte = (a.addr ≤ byte) × (byte < end_of a) × (granule_of (8 * (byte / 8)) ≢ None)

-- Two accesses of threads t and u conflict: the threads differ, a byte is in a part of both, not both read
-- and not both are atomic.
pub record Conflict (granule_of : ℕ → Option ℕ) (t : ℕ) (a : Access) (u : ℕ) (b : Access) : Type 0 where
  pub threads_differ : t ≢ u
  pub byte : ℕ
  pub mine : Touches granule_of a byte
  pub other : Touches granule_of b byte
  pub not_both_read : a.read ≡ true → b.read ≡ true → ⊥
  pub not_both_atomic : a.atomic ≡ true → b.atomic ≡ true → ⊥
