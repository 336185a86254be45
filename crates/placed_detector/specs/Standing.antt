-- What workers keep of their threads and places, beside the watched machine and the history of their turns.
use Rattle.std.specs.Prelude.{◌≡◌, ◌<◌, ℕ, Bool, List, length, Option, Some}
use Rattle.run_record.specs.declared.limits.Limits.{Limits}
use Rattle.run_laws.specs.Moments.{Moment}
use Rattle.bare_machine.specs.World.{World}
use Rattle.bare_machine.specs.Memory.{stripe}
use Rattle.bare_machine.specs.Step.{desk}
use Rattle.turn_orders.specs.Machine.{State, but}
use Rattle.place_turns.specs.Places as machine
use Rattle.joint_turns.specs.Joint.{Value}
use Rattle.watched_turns.specs.Turns.{Local}
use Rattle.watched_turns.specs.Along.{IsWatched}
use Rattle.slot_desk.specs.Desks.{DeskContents}
use Rattle.sync_slab.specs.Objects.{SyncObjects}
use Rattle.race_core.specs.Watched.{Watched}
use Rattle.thread_events.specs.Standing.{Kept, Stands}
use Rattle.thread_events.specs.Heard.{IsGiven}

-- A worker keeps of its thread its own part of the bare machine, its watcher, and what its creator left for it: that is taken
-- from the desk when the thread arrives there, and kept until it begins. (What is taken may be that nothing was told.)
pub record Hand : Type 0 where
  pub bare : machine.Local
  pub watched : Watched
  pub given : Option (Option (List ℕ))

-- A place has its part of the bare machine; a stripe the synchronisation objects of its addresses; and the desk its slots.
pub record Held : Type 0 where
  pub bare : machine.Value
  pub sync : SyncObjects
  pub desk : DeskContents

-- all that is kept, as the laws of events have it: the objects of an address are at its stripe
abbrev pub kept_of : State Hand Held → Kept
kept_of c = record {
  desk = (c.value desk).desk;
  objects = λ k. (c.value k).sync;
  watchers = λ t.
      (c.local t).watched;
}

-- what a thread took is what its creator left for it, and the thread was made
abbrev pub AreGiven : Limits → List Moment → ℕ → (ℕ → Option (Option (List ℕ))) → Type 0
AreGiven limits h made given = (t : ℕ) (told : Option (List ℕ)) → given t ≡ Some told → IsGiven limits h t told
    × (t < made)

-- Workers and places stand as the history leaves them, and the watched machine beside them has the same threads, memory and
-- desk.
pub record Standing
    (file : List ℕ) (limits : Limits) (c : State Hand Held) (m : State Local Value) (w : World)
    (h : List Moment) : Type 0 where
  pub watched : IsWatched file limits.harts limits.epochs limits.slots w h (length h) m
  pub leaving : ℕ → Bool
  pub kept : Stands limits stripe leaving h (kept_of c)
  pub given : AreGiven limits h (c.value desk).desk.made (λ t. (c.local t).given)
  pub locals : (t : ℕ) → (m.local t).joint.bare ≡ (c.local t).bare
  pub values : (k : ℕ) → (m.value k).bare ≡ (c.value k).bare

-- the same, but for what one worker and one place were left with
abbrev pub left_with : State Hand Held → ℕ → ℕ → Hand → Held → State Hand Held
left_with c t k hand held = record { local = but c.local t hand; value = but c.value k held }
