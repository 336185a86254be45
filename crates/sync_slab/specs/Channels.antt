-- What a set of objects is to the clocks of a history.
use Rattle.std.specs.Prelude.{◌≡◌, ◌≤◌, ℕ, Bool, true, false, List, Some, slice_index}
use Rattle.run_record.specs.declared.event.Event.{Event}
use Rattle.run_record.specs.declared.event.Event.TheVariants.{Release, Destroy, Clear}
use Rattle.run_record.specs.declared.event.Part.{Part}
use Rattle.run_laws.specs.Clocks.{Clocks, Channel, Of}
use Rattle.sync_slab.specs.Objects.{SyncObject, SyncObjects, object_at, clock_in, AreObjects}

-- the clock as a list of epochs is the clock as a function from slots
abbrev pub IsClock : List ℕ → (ℕ → ℕ) → Type 0
IsClock clock epochs = (slot : ℕ) → slice_index clock slot ≡ epochs slot

-- The set keeps the channels of the addresses that it covers: in the present era each object's clock is what was left at its channel, and where there is no object of this era nothing was left. No object is of a later era.
pub record KeepsChannels (covers : ℕ → Bool) (era : ℕ) (k : Clocks) (set : SyncObjects) : Type 0 where
  pub objects : AreObjects set
  pub clocks : (addr : ℕ) (part : Part) → covers addr ≡ true → IsClock (clock_in set era addr part) (k.spot (Of (Channel addr part)))
  pub eras : (addr : ℕ) (part : Part) (o : SyncObject) → object_at set addr part ≡ Some o → o.era ≤ era

-- for a set that covers every address
abbrev pub everywhere : ℕ → Bool
everywhere addr = true

-- the event changes no channel of the covered addresses
abbrev pub IsElsewhere : (ℕ → Bool) → Event → Type 0
IsElsewhere covers (Release addr part replaces) = covers addr ≡ false
IsElsewhere covers (Destroy addr) = covers addr ≡ false
IsElsewhere covers (Clear addr) = covers addr ≡ false
IsElsewhere covers _ = Unit {0}
