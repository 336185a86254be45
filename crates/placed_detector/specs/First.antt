-- What workers and places begin with.
use Rattle.std.specs.Prelude.{◌≡◌, ℕ, List, [], None}
use Rattle.run_record.specs.declared.limits.Limits.{Limits}
use Rattle.bare_machine.specs.Step.{desk}
use Rattle.turn_orders.specs.Machine.{State}
use Rattle.place_turns.specs.Wholes.{first_value}
use Rattle.slot_desk.specs.Steps.{new_desk}
use Rattle.race_core.specs.Watched.{new_watched}
use Rattle.placed_detector.specs.Standing.{Hand, Held}

-- a thread that hasn't arrived
abbrev pub first_hand : Limits → ℕ → Hand
first_hand limits t = record {
  bare = record { thread = None; reserved = None };
  watched = new_watched t limits;
  given = None;
}

-- No thread has arrived; memory is as the file has it, without synchronisation objects, and the main thread is at the desk.
pub record AreFirst (file : List ℕ) (limits : Limits) (c : State Hand Held) : Type 0 where
  pub hands : (t : ℕ) → c.local t ≡ first_hand limits t
  pub bare : (k : ℕ) → (c.value k).bare ≡ first_value file k
  pub objects : (k : ℕ) → (c.value k).sync.objects ≡ []
  pub slots : (k : ℕ) → (c.value k).sync.slots ≡ limits.slots
  pub desk_is : (c.value desk).desk ≡ new_desk limits
