-- What a detector keeps by places and by threads, and when it stands as a history leaves it.
use Rattle.std.specs.Prelude.{◌≡◌, ◌⊎◌, ℕ, ◌==◌, Bool, true, List, length, Some}
use Rattle.run_record.specs.declared.limits.Limits.{Limits}
use Rattle.run_laws.specs.Moments.{Moment, items}
use Rattle.run_laws.specs.Labels.{Labels}
use Rattle.run_laws.specs.Present.{labels_now, clocks_now}
use Rattle.slot_desk.specs.declared.slot.Attachment.{Attachment}
use Rattle.slot_desk.specs.Desks.{DeskContents, slot_of}
use Rattle.slot_desk.specs.History.{IsDeskAt}
use Rattle.sync_slab.specs.Objects.{SyncObjects}
use Rattle.sync_slab.specs.Channels.{KeepsChannels}
use Rattle.race_core.specs.Watched.{Watched}
use Rattle.race_core.specs.History.{IsWatcherAt, IsWithin, era_now}

-- the desk, the synchronisation objects of each place, and the watcher of each thread
pub record Kept : Type 0 where
  pub desk : DeskContents
  pub objects : ℕ → SyncObjects
  pub watchers : ℕ → Watched

-- `keeper` gives the place that keeps the synchronisation objects of an address.
abbrev pub is_kept_at : (ℕ → ℕ) → ℕ → ℕ → Bool
is_kept_at keeper k addr = keeper addr == k

-- Each slot's owner has its label, or is a thread that is to leave the slot that it spent.
abbrev pub AreSettled : (ℕ → Bool) → Labels → DeskContents → Type 0
AreSettled leaving l d =
    (sid : ℕ) (a : Attachment) → (slot_of d sid).owner ≡ Some a
    → (leaving a.tid ≡ true) ⊎ (l.slot_of a.tid ≡ Some sid)

-- The desk, the objects of each place and the watcher of each thread are what the history says. `leaving` tells of each thread
-- whether it has spent its slot and is still to leave it.
pub record Stands (limits : Limits) (keeper : ℕ → ℕ) (leaving : ℕ → Bool) (h : List Moment) (x : Kept) : Type 0 where
  pub desk : IsDeskAt limits.epochs limits.slots (items h) (length h) x.desk
  pub objects : (k : ℕ) → KeepsChannels (is_kept_at keeper k) (era_now limits.epochs h) (clocks_now limits.epochs h) (x.objects k)
  pub object_slots : (k : ℕ) → (x.objects k).slots ≡ limits.slots
  pub watchers : (t : ℕ) → IsWatcherAt limits h t (x.watchers t)
  pub settled : AreSettled leaving (labels_now limits.epochs h) x.desk
  pub within : IsWithin limits.slots (labels_now limits.epochs h) (clocks_now limits.epochs h)
