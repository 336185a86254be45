-- Deeds of workers that line up, and what follows them.
use Rattle.std.specs.Prelude.{◌≡◌, ℕ, ◌+◌, max, List, ◌++◌, map}
use Rattle.std.specs.List.{AllZip, flat_map}
use Rattle.run_record.specs.declared.entry.Entry.{Entry}
use Rattle.run_record.specs.declared.limits.Limits.{Limits}
use Rattle.run_laws.specs.Moments.{Moment, entry_moments}
use Rattle.bare_machine.specs.World.{World}
use Rattle.turn_orders.specs.Machine.{State, Turn, after, many}
use Rattle.turn_orders.specs.LineUp.{Deed, Stamped, stamped, plain, calls, IsLineUp}
use Rattle.joint_turns.specs.Joint.{Value}
use Rattle.watched_turns.specs.Turns.{Local, Act, Told, watched_turn}
use Rattle.turn_histories.specs.Entries.{IsEntryOf}
use Rattle.woven_turns.specs.Following.{left_after, deeds_of}
use Rattle.placed_detector.specs.Standing.{Hand, Held, Standing}
use Rattle.deed_histories.specs.Deeds.{IsDeed}

-- what a worker tells of a deed: the entry, and which acts it was
pub record Tells : Type 0 where
  pub entry : Entry
  pub acts : List Act

abbrev pub HandDeed : Type 0
HandDeed = Deed (Stamped Hand) (Stamped Held) (Unit {0}) Tells

abbrev pub acts_of : HandDeed → List Act
acts_of d = d.told.acts

abbrev pub entries_of : List HandDeed → List Entry
entries_of ds = map (λ (d : HandDeed). d.told.entry) ds

-- the moments of entries, one after another
abbrev pub moments_of : List Entry → List Moment
moments_of es = flat_map (entry_moments 0) es

-- The deed is one of its thread at its place, in that era. It drew a stamp, one more than the greater that it found, which its
-- entry has.
pub record IsHandDeed (file : List ℕ) (limits : Limits) (era : ℕ) (d : HandDeed) : Type 0 where
  pub deed : IsDeed file limits era d.call.thread d.call.place d.local_found.state d.local_left.state d.found.state d.left.state d.told.entry d.told.acts
  pub drawn : d.local_left.last ≡ max d.local_found.last d.found.last + 1
  pub left_there : d.left.last ≡ d.local_left.last
  pub entry_stamp : d.told.entry.stamp ≡ d.local_left.last

-- the turn of the watched machine that draws a stamp
abbrev pub stamped_turn : List ℕ → Limits → Turn (Stamped Local) (Stamped Value) (List Act)
    (Stamped (List (List Told)))
stamped_turn file limits = stamped (many (watched_turn file limits.harts limits.epochs))

-- workers and places stand as the history leaves them, and the watched machine has the same, and the same stamps
pub record StandsStamped (file : List ℕ) (limits : Limits) (c : State (Stamped Hand) (Stamped Held))
    (m : State (Stamped Local) (Stamped Value)) (w : World) (h : List Moment) : Type 0 where
  pub standing : Standing file limits (plain c) (plain m) w h
  pub locals : (t : ℕ) → (m.local t).last ≡ (c.local t).last
  pub values : (k : ℕ) → (m.value k).last ≡ (c.value k).last

-- The watched machine follows the deeds: its own line up, the entries tell them, and all stands in the history with the entries.
pub record FollowsDeeds (file : List ℕ) (limits : Limits) (c : State (Stamped Hand) (Stamped Held))
    (m : State (Stamped Local) (Stamped Value)) (h : List Moment) (ds : List HandDeed) : Type 0 where
  pub line : IsLineUp (stamped_turn file limits) m (deeds_of (stamped_turn file limits) acts_of m ds)
  pub told : AllZip (IsEntryOf file limits.harts limits.epochs)
      (deeds_of (stamped_turn file limits) acts_of m ds) (entries_of ds)
  pub world : World
  pub stands : StandsStamped file limits (left_after c ds)
      (after (stamped_turn file limits) m (calls (deeds_of (stamped_turn file limits) acts_of m ds))) world
      (h ++ moments_of (entries_of ds))
