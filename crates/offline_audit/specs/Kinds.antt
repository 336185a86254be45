-- The accesses of a history, by their kinds, and which kinds conflict.
use Rattle.std.specs.Prelude.{◌≡◌, ◌≢◌, ℕ, ◌+◌, ◌-◌, ◌*◌, ◌/◌, ◌^◌, ◌==◌, ◌≤◌, min, if◌then◌else◌, true, List, [], ◌∷◌, slice_get, Option, Some, None}
use Rattle.run_record.specs.declared.event.Event.{Event}
use Rattle.run_record.specs.declared.event.Event.TheVariants as events
use Rattle.run_record.specs.declared.entry.Entry.{Entry}
use Rattle.offline_audit.specs.declared.order.EventName.{EventName}
use Rattle.offline_audit.specs.declared.access.Kind.{Kind}
use Rattle.offline_audit.specs.declared.access.Made.{Made}

-- the kind of access that an event of the thread is, if it is one of a byte at least
abbrev pub kind_of : ℕ → Event → Option Kind
kind_of tid (events.Access place addr size read atomic) =
    if size == 0 then None
    else Some (record { tid = tid; place = place; addr = addr; last = min (addr + (size - 1)) (2 ^ 64 - 1); read = read; atomic = atomic })
kind_of tid _ = None

-- the access that the named event is, if it is one
abbrev pub made_from : Option Kind → EventName → List Made
made_from None name = []
made_from (Some kind) name = record { kind = kind; name = name } ∷ []

-- the access is an event of the entry with that number
pub record IsMadeBy (number : ℕ) (entry : Entry) (m : Made) : Type 0 where
  pub numbered : m.name.entry ≡ number
  pub event : Event
  pub is : slice_get entry.events m.name.event ≡ Some event
  pub kind : kind_of entry.tid event ≡ Some m.kind

-- the access is one of the history
pub record IsMade (entries : List Entry) (m : Made) : Type 0 where
  pub entry : Entry
  pub listed : slice_get entries m.name.entry ≡ Some entry
  pub made : IsMadeBy m.name.entry entry m

-- some byte from low to high is in a granule
pub record HasGranule (granule_of : ℕ → Option ℕ) (low high : ℕ) : Type 0 where
  pub byte : ℕ
  pub above : low ≤ byte
  pub below : byte ≤ high
  pub granule : granule_of (8 * (byte / 8)) ≢ None

-- Accesses of the kinds conflict: the threads differ, not both read, not both are atomic, and they have a byte of a granule in
-- common.
pub record KindsConflict (granule_of : ℕ → Option ℕ) (a b : Kind) : Type 0 where
  pub threads_differ : a.tid ≢ b.tid
  pub not_both_read : a.read ≡ true → b.read ≡ true → ⊥
  pub not_both_atomic : a.atomic ≡ true → b.atomic ≡ true → ⊥
  pub byte : ℕ
  pub mine : (a.addr ≤ byte) × (byte ≤ a.last)
  pub other : (b.addr ≤ byte) × (byte ≤ b.last)
  pub granule : granule_of (8 * (byte / 8)) ≢ None
