-- Stamps of deeds, and where turns stand: in the past, and in the list of deeds that is sorted by stamps.
use Rattle.std.specs.Prelude.{◌≡◌, ℕ, ◌<◌, List, ◌++◌, length}
use Rattle.shared_table.specs.declared.object.Object.{Object}
use Rattle.shared_table.specs.declared.view.Item.TheVariants.{Take, Give}
use Rattle.shared_table.specs.Past.{Past, log_of}
use Rattle.turn_orders.specs.Lists.{In}
use Rattle.turn_orders.specs.Machine.{State}
use Rattle.turn_orders.specs.LineUp.{Deed, of_place, last_value}
use Rattle.woven_turns.specs.Steps.{Stands}
use Rattle.woven_turns.specs.Weave.{Tags, weave, WasTold}

-- A deed drew a stamp. It left it with its thread and at its place, and it is above both that it found there. The functions
-- give the stamp in a local state and in a value.
pub record DrewStamp {L O A T : Type 0} (local_stamp : L → ℕ) (value_stamp : O → ℕ) (d : Deed L O A T) : Type 0 where
  pub same : value_stamp d.left ≡ local_stamp d.local_left
  pub above_local : local_stamp d.local_found < local_stamp d.local_left
  pub above_value : value_stamp d.found < local_stamp d.local_left

-- Where the turn of a deed stands in the past `late ++ early`. A seat took the deed's object after the steps `taken`. In the
-- part `late` it gave it back, after the steps `made` of that part, with the values that the deed found and left; and the deed
-- is the one of that give.
pub record TurnOf {L A T : Type 0} (tag : Tags L A T) (early late : Past) (d : Deed L Object A T) : Type 0 where
  pub seat : ℕ
  pub number : ℕ
  pub taken : Past
  pub made : Past
  pub take : Stands (late ++ early) taken (seat, Take d.call.place number)
  pub give : Stands late made (seat, Give d.call.place number d.found d.left)
  pub told : In d (tag seat (length (log_of seat made)))
  pub order : length taken < length (made ++ early)

-- Where a turn of the object k, also one without a deed, stands in a list of the round's deeds: the turn found the value x,
-- after the steps `made` of the round. Behind `front`, which has exactly those deeds of the object that were made before the
-- turn. So none of them is missing there, whichever seat told it, also the turn's own seat.
pub record PlaceInList {L A T : Type 0} (m : State L Object) (tag : Tags L A T) (made : Past) (listed : List (Deed L Object A T)) (k : ℕ) (x : Object) : Type 0 where
  pub front : List (Deed L Object A T)
  pub back : List (Deed L Object A T)
  pub whole : listed ≡ front ++ back
  pub before : of_place k front ≡ of_place k (weave tag made)
  pub value : last_value (m.value k) (of_place k front) ≡ x
  pub none_missing : (d : Deed L Object A T) → WasTold tag made d → d.call.place ≡ k → In d front
