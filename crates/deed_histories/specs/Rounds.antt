-- Rounds of deeds, as they were made and as their entries are listed.
use Rattle.std.specs.Prelude.{◌≡◌, ◌<◌, ◌≤◌, ℕ, ◌+◌, max, Bool, true, if◌then◌else◌, IsPermutation, List, [], ◌∷◌, map, None}
use Rattle.run_record.specs.declared.limits.Limits.{Limits}
use Rattle.run_record.specs.declared.entry.Entry.{Entry}
use Rattle.run_laws.specs.Moments.{Moment}
use Rattle.bare_machine.specs.World.{World}
use Rattle.bare_machine.specs.Step.{desk}
use Rattle.turn_orders.specs.Lists.{Each}
use Rattle.turn_orders.specs.Machine.{State}
use Rattle.turn_orders.specs.LineUp.{Stamped, with_stamp, plain, IsSorted, greatest}
use Rattle.turn_orders.specs.Rounds.{AreRounds, last_made}
use Rattle.joint_turns.specs.Joint.{Value}
use Rattle.watched_turns.specs.Turns.{Local}
use Rattle.watched_turns.specs.Rounds as watched
use Rattle.watched_turns.specs.Rounds.{WatchedRound}
use Rattle.turn_histories.specs.Rounds.{IsIn, AreRoundsOf}
use Rattle.woven_turns.specs.Weave.{LinesUp}
use Rattle.woven_turns.specs.Following.{left_after}
use Rattle.placed_detector.specs.Standing.{Hand, Held}
use Rattle.placed_detector.specs.First.{AreFirst}
use Rattle.placed_detector.specs.Slots.{in_new_era}
use Rattle.deed_histories.specs.Lines.{HandDeed, entries_of, IsHandDeed, stamped_turn, StandsStamped}

-- a round: its deeds as they were made and as they are listed, the greatest stamp before it, and whether an era begins after it
pub record HandRound : Type 0 where
  pub made : List HandDeed
  pub listed : List HandDeed
  pub base : ℕ
  pub ends : Bool

abbrev pub hand_stamp : Stamped Hand → ℕ
hand_stamp l = l.last

-- the greatest stamp up to the round's end
abbrev pub top : HandRound → ℕ
top r = max r.base (greatest hand_stamp r.listed)

-- a deed that uses no object ends its thread's part of the round: none of those that follow has instructions of the thread
abbrev pub PartsEnd : List HandDeed → Type 0
PartsEnd [] = Unit {0}
PartsEnd (d ∷ ds) =
    (0 < d.told.entry.steps → desk < d.call.place → Each
    (λ (f : Entry). f.tid ≡ d.told.entry.tid → f.steps ≡ 0) (entries_of ds)) × PartsEnd ds

-- what a round of that era leaves for the next one: each thread has the greatest stamp so far, and the next era may begin
abbrev pub in_next_era : ℕ → Bool → State Hand Held → State Hand Held
in_next_era era ends c = if ends then in_new_era (era + 1) c else c

abbrev pub between : ℕ → ℕ → Bool → State (Stamped Hand) (Stamped Held) → State (Stamped Hand) (Stamped Held)
between era stamp ends c = record {
  local = λ t. with_stamp ((in_next_era era ends (plain c)).local t) stamp;
  value = λ k. with_stamp ((in_next_era era ends (plain c)).value k) (c.value k).last;
}

abbrev pub hands_after : ℕ → State (Stamped Hand) (Stamped Held) → HandRound → State (Stamped Hand) (Stamped Held)
hands_after era c r = between era (top r) r.ends (left_after c r.made)

abbrev pub era_after : ℕ → HandRound → ℕ
era_after era r = if r.ends then era + 1 else era

-- A round from this state on, of that number and era. Each thread has the greatest stamp so far, and no place has a greater one.
-- The deeds line up as they were made; listed, they are sorted by stamp and then by thread. Where an era begins after the
-- round, no thread keeps what it was given.
pub record IsHandRound (file : List ℕ) (limits : Limits) (round era : ℕ)
    (c : State (Stamped Hand) (Stamped Held)) (r : HandRound) : Type 0 where
  pub threads : (t : ℕ) → (c.local t).last ≡ r.base
  pub places : (k : ℕ) → (c.value k).last ≤ r.base
  pub line : LinesUp c r.made
  pub deeds : Each (IsHandDeed file limits era) r.made
  pub permuted : IsPermutation r.made r.listed
  pub sorted : IsSorted hand_stamp r.listed
  pub inside : Each (IsIn round era) (entries_of r.listed)
  pub parts : PartsEnd r.listed
  pub begun : r.ends ≡ true → (t : ℕ) → ((left_after c r.made).local t).state.given ≡ None

-- rounds one after another
abbrev pub AreHandRounds : List ℕ → Limits → ℕ → ℕ → ℕ → State (Stamped Hand) (Stamped Held) → List HandRound →
    Type 0
AreHandRounds file limits round era base c [] = Unit {0}
AreHandRounds file limits round era base c (r ∷ rs) =
    (r.base ≡ base) × IsHandRound file limits round era c r
    × AreHandRounds file limits (round + 1) (era_after era r) (top r) (hands_after era c r) rs

-- the entries of each round, as they are listed
abbrev pub listed_entries : List HandRound → List (List Entry)
listed_entries rs = map (λ (r : HandRound). entries_of r.listed) rs

-- the state after all rounds
abbrev pub last_hands : ℕ → State (Stamped Hand) (Stamped Held) → List HandRound → State (Stamped Hand)
    (Stamped Held)
last_hands era c [] = c
last_hands era c (r ∷ rs) = last_hands (era_after era r) (hands_after era c r) rs

-- The watched machine follows the rounds: it has rounds with the same stamps, their entries as they are listed tell them, and
-- at the end all that workers and places keep stands in a history.
pub record FollowsRounds (file : List ℕ) (limits : Limits) (round era base : ℕ)
    (c : State (Stamped Hand) (Stamped Held)) (m : State (Stamped Local) (Stamped Value))
    (rs : List HandRound) : Type 0 where
  pub rounds : List WatchedRound
  pub follow : AreRounds (stamped_turn file limits) (watched.between limits.slots)
      (λ (l : Stamped Local). l.last) (λ (x : Stamped Value). x.last) base m rounds
  pub told : AreRoundsOf file limits.harts limits.epochs round era rounds (listed_entries rs)
  pub world : World
  pub history : List Moment
  pub stands :
      StandsStamped file limits (last_hands era c rs)
      (last_made (stamped_turn file limits) (watched.between limits.slots) (λ (l : Stamped Local). l.last)
      (λ (x : Stamped Value). x.last) m rounds) world history

-- what workers and places begin with, and no stamp was drawn
pub record AreFirstStamped (file : List ℕ) (limits : Limits) (c : State (Stamped Hand) (Stamped Held)) : Type 0 where
  pub first : AreFirst file limits (plain c)
  pub threads : (t : ℕ) → (c.local t).last ≡ 0
  pub places : (k : ℕ) → (c.value k).last ≡ 0
