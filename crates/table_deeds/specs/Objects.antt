-- What the objects of the shared table keep of places, and the deeds of workers at them.
use Rattle.std.specs.Prelude.{◌≡◌, ℕ, ◌<◌, nat_lt, if◌then◌else◌, List, [], map, Some}
use Rattle.run_record.specs.declared.limits.Limits.{Limits}
use Rattle.bare_machine.specs.Step.{desk}
use Rattle.turn_orders.specs.Machine.{State}
use Rattle.turn_orders.specs.LineUp.{Deed, Stamped, with_stamp}
use Rattle.place_turns.specs.Places.{Value, of_nobody}
use Rattle.slot_desk.specs.Desks.{DeskContents, lives_of}
use Rattle.slot_desk.specs.Steps.{new_desk}
use Rattle.sync_slab.specs.Objects.{SyncObjects}
use Rattle.shared_table.specs.declared.object.Object.{Object}
use Rattle.shared_table.specs.declared.object.Object.TheVariants.{Stripe, Desk}
use Rattle.shared_table.specs.Layouts.{IsFirstStripe, IsFirstDesk}
use Rattle.hart_steps.specs.Desks.{desk_value}
use Rattle.hart_steps.specs.Stripes.{stripe_value}
use Rattle.placed_detector.specs.Standing.{Hand, Held}
use Rattle.placed_detector.specs.First.{first_hand}
use Rattle.deed_histories.specs.Lines.{Tells, HandDeed}

-- The place's part of the bare machine: the words and reservations of a stripe, or the threads, the output and the end at the
-- desk. Places behind the desk are of one thread each and have nothing: a stripe without words stands for them.
abbrev pub part_in : List ℕ → ℕ → Object → Value
part_in file k (Stripe s) = if nat_lt k desk then stripe_value file k s.value.words s.value.reserved else of_nobody
part_in file k (Desk d) = desk_value d.value.machine (lives_of d.value.desk)

-- The synchronisation objects of a stripe, whatever room there is for more; the desk has none.
abbrev pub sync_in : Limits → Object → SyncObjects
sync_in limits (Stripe s) = record s.value.sync { spare = 0 }
sync_in limits (Desk d) = record { slots = limits.slots; objects = []; spare = 0 }

-- the slots and clocks at the desk; of a stripe nobody asks for them
abbrev pub slots_in : Limits → Object → DeskContents
slots_in limits (Stripe s) = new_desk limits
slots_in limits (Desk d) = d.value.desk

abbrev pub last_in : Object → ℕ
last_in (Stripe s) = s.value.last
last_in (Desk d) = d.value.last

-- what the place has where this object is there
abbrev pub held_in : List ℕ → Limits → ℕ → Object → Stamped Held
held_in file limits k x = with_stamp (record { bare = part_in file k x; sync = sync_in limits x; desk = slots_in limits x }) (last_in x)

abbrev pub held_at : List ℕ → Limits → State (Stamped Hand) Object → State (Stamped Hand) (Stamped Held)
held_at file limits m = record { local = m.local; value = λ k. held_in file limits k (m.value k) }

-- a deed as a worker makes it, which finds and leaves an object of the table
abbrev pub ObjectDeed : Type 0
ObjectDeed = Deed (Stamped Hand) Object (Unit {0}) Tells

-- and as the laws of workers have it
abbrev pub hand_deed : List ℕ → Limits → ObjectDeed → HandDeed
hand_deed file limits d = record {
  call = d.call;
  local_found = d.local_found;
  local_left = d.local_left;
  found = held_in file limits d.call.place d.found;
  left = held_in file limits d.call.place d.left;
  told = d.told;
}

abbrev pub hand_deeds : List ℕ → Limits → List ObjectDeed → List HandDeed
hand_deeds file limits ds = map (hand_deed file limits) ds

-- a place of one thread, before it has been used
abbrev pub IsFirstPrivate : Limits → Object → Type 0
IsFirstPrivate limits (Stripe s) = (s.value.sync.slots ≡ limits.slots) × (s.value.sync.objects ≡ []) × (s.value.last ≡ 0)
IsFirstPrivate limits (Desk d) = ⊥

-- No thread has arrived or drawn a stamp, and each object is as a new table has it.
pub record AreFirstObjects (file : List ℕ) (limits : Limits) (m : State (Stamped Hand) Object) : Type 0 where
  pub hands : (t : ℕ) → m.local t ≡ with_stamp (first_hand limits t) 0
  pub stripes : (k : ℕ) → k < desk → IsFirstStripe file limits k (Some (m.value k))
  pub desk_is : IsFirstDesk file limits (Some (m.value desk))
  pub private : (k : ℕ) → desk < k → IsFirstPrivate limits (m.value k)
