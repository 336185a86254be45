-- What a worker says of a slot that its thread takes or leaves, and what an era leaves.
use Rattle.std.specs.Prelude.{◌≡◌, ◌<◌, ℕ, true, List, length, Option, Some, None}
use Rattle.run_record.specs.declared.entry.Label.{Label}
use Rattle.run_record.specs.declared.limits.Limits.{Limits}
use Rattle.bare_machine.specs.declared.thread.Thread.{Thread}
use Rattle.bare_machine.specs.Step.{desk}
use Rattle.turn_orders.specs.Machine.{State, but}
use Rattle.place_turns.specs.Places as machine
use Rattle.place_turns.specs.Turns.{arrived}
use Rattle.slot_desk.specs.Desks.{DeskContents, thread_of}
use Rattle.slot_desk.specs.Steps as desks
use Rattle.race_core.specs.Watched.{with_clock, labelled, in_era}
use Rattle.thread_events.specs.Heard.{Attaches, Holds}
use Rattle.placed_detector.specs.Standing.{Hand, Held}

-- a thread that arrives takes what its creator left for it from the desk
abbrev pub given_at : DeskContents → ℕ → Option Thread → Option (Option (List ℕ)) → Option (Option (List ℕ))
given_at d t None given = Some (thread_of d t).told
given_at d t (Some x) given = given

-- what the thread has after it took the slot of the label from this desk
abbrev pub with_slot : ℕ → Label → Hand → Held → Hand
with_slot t label l v = record {
  bare = arrived t l.bare (machine.desk_in v.bare) l.bare.thread;
  watched = labelled (with_clock l.watched (desks.clock_after_attach v.desk l.watched.clock)) label;
  given = given_at v.desk t l.bare.thread l.given;
}

-- Thread t, which lives and was made, takes the slot at the desk's front in that era.
pub record TakesSlot (limits : Limits) (era t : ℕ) (label : Label) (found left : Hand)
    (place_found place_left : Held) : Type 0 where
  pub present : found.watched.era ≡ era
  pub attaches : Attaches limits place_found.desk found.watched t label
  pub lives : (thread_of place_found.desk t).lives ≡ true
  pub made : t < place_found.desk.made
  pub known : t < length (machine.desk_in place_found.bare).made
  pub hand : left ≡ with_slot t label found place_found
  pub place : place_left ≡ record place_found { desk = desks.after_attach place_found.desk t }

-- Thread t, which lost its label, leaves the slot.
pub record LeavesSlot (era t : ℕ) (label : Label) (found : Hand) (place_found place_left : Held) : Type 0 where
  pub present : found.watched.era ≡ era
  pub lost : found.watched.label ≡ None
  pub holds : Holds place_found.desk t label
  pub place : place_left ≡ record place_found { desk = desks.after_detach place_found.desk t }

-- the thread goes on in that era, without a label
abbrev pub hand_in_era : ℕ → Hand → Hand
hand_in_era era l = record l { watched = in_era l.watched era }

-- where that era begins, the desk forgets clocks and slots, and each thread goes on in it
abbrev pub in_new_era : ℕ → State Hand Held → State Hand Held
in_new_era era c = record {
  local = λ t. hand_in_era era (c.local t);
  value = but c.value desk (record (c.value desk)
      { desk = desks.after_reset (c.value desk).desk });
}
