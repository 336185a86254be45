-- Rounds of deeds at the shared table.
use Rattle.std.specs.Prelude.{◌≡◌, ◌≢◌, ◌<◌, ◌≤◌, ℕ, ◌+◌, max, Bool, true, if◌then◌else◌, IsPermutation, List, [], ◌∷◌, ◌++◌, length, map, None, Some}
use Rattle.run_record.specs.declared.limits.Limits.{Limits}
use Rattle.run_record.specs.declared.entry.Entry.{Entry}
use Rattle.bare_machine.specs.Step.{desk}
use Rattle.run_record.specs.Order.{AreOrdered, entries_in}
use Rattle.turn_orders.specs.Lists.{Each, In}
use Rattle.turn_orders.specs.Machine.{State}
use Rattle.turn_orders.specs.LineUp.{Stamped, with_stamp, of_thread}
use Rattle.turn_histories.specs.Rounds.{IsIn}
use Rattle.slot_desk.specs.Steps.{after_reset}
use Rattle.shared_table.specs.declared.object.DeskState.{DeskState}
use Rattle.shared_table.specs.declared.object.Object.{Object}
use Rattle.shared_table.specs.declared.object.Object.TheVariants.{Stripe, Desk}
use Rattle.shared_table.specs.declared.view.Layout.{Layout}
use Rattle.shared_table.specs.Layouts.{objects_of}
use Rattle.shared_table.specs.Past.{Past, turns_of, log_of, Lawful}
use Rattle.woven_turns.specs.Weave.{Tags, weave, Worked}
use Rattle.woven_turns.specs.Following.{left_after}
use Rattle.placed_detector.specs.Standing.{Hand}
use Rattle.placed_detector.specs.Slots.{hand_in_era}
use Rattle.deed_histories.specs.Lines.{Tells, HandDeed, IsHandDeed}
use Rattle.deed_histories.specs.Rounds.{HandRound, AreHandRounds, listed_entries}
use Rattle.table_deeds.specs.Objects.{ObjectDeed, hand_deed, hand_deeds, last_in, held_at}
use Rattle.table_deeds.specs.Listing.{AreApart, logs_of, EndsAlone}

-- A round at the table: the past before it and its own, what the seats tell of their items, which seat a thread has, the deeds that
-- used no object, the threads whose workers left logs, the entries as these are merged, the greatest stamp before it, whether an
-- era begins after it, and what threads and the table have when the next one begins.
pub record TableRound : Type 0 where
  pub early : Past
  pub late : Past
  pub tag : Tags (Stamped Hand) (Unit {0}) Tells
  pub seat : ℕ → ℕ
  pub alone : List ObjectDeed
  pub workers : List ℕ
  pub entries : List Entry
  pub base : ℕ
  pub ends : Bool
  pub next : State (Stamped Hand) Object

-- the round's deeds as they were made
abbrev pub made_in : TableRound → List ObjectDeed
made_in r = weave r.tag r.late ++ r.alone

-- and as the laws of workers have them
abbrev pub hands_in : List ℕ → Limits → TableRound → List HandDeed
hands_in file limits r = hand_deeds file limits (made_in r)

-- the greatest stamp of entries, or 0; and the greatest one up to the round's end
abbrev pub greatest_in : List Entry → ℕ
greatest_in [] = 0
greatest_in (e ∷ es) = max e.stamp (greatest_in es)

abbrev pub last_stamp : TableRound → ℕ
last_stamp r = max r.base (greatest_in r.entries)

-- the table has the state's objects after that past
abbrev pub HasObjects : Layout → Past → State (Stamped Hand) Object → Type 0
HasObjects lay past m = (k : ℕ) → k < objects_of lay → (turns_of lay k past).value ≡ Some (m.value k)

-- the desk forgets clocks and slots where an era begins
abbrev pub next_desk : Bool → DeskState → DeskState
next_desk ends d = if ends then record d { desk = after_reset d.desk } else d

abbrev pub IsNextDesk : Bool → Object → Object → Type 0
IsNextDesk ends (Desk d) (Desk e) = e.value ≡ next_desk ends d.value
IsNextDesk ends (Desk d) (Stripe s) = ⊥
IsNextDesk ends (Stripe s) y = ⊥

-- what a thread goes on with after a round of that era: the same, or in the next era, without a label
abbrev pub next_hand : ℕ → Bool → Hand → Hand
next_hand era ends l = if ends then hand_in_era (era + 1) l else l

-- what the round after one of that era begins with: each thread has the greatest stamp so far, and the next era may begin
pub record IsNextState (m next : State (Stamped Hand) Object) (era stamp : ℕ) (ends : Bool) : Type 0 where
  pub threads : (t : ℕ) → next.local t ≡ with_stamp (next_hand era ends (m.local t).state) stamp
  pub others : (k : ℕ) → k ≢ desk → next.value k ≡ m.value k
  pub desk_is : IsNextDesk ends (m.value desk) (next.value desk)

-- each thread has that stamp, and no place has a greater one
pub record HaveStamps (m : State (Stamped Hand) Object) (stamp : ℕ) : Type 0 where
  pub threads : (t : ℕ) → (m.local t).last ≡ stamp
  pub places : (k : ℕ) → last_in (m.value k) ≤ stamp

-- A round from this state on, of that number and era. Each thread has the greatest stamp so far, and no place has a greater one.
-- Workers tell their deeds along its past, and leave the entries of these in logs, which are merged by stamp and then by thread.
-- A deed that uses no object ends its thread's part. Where an era begins after the round, no thread keeps what it was given.
pub record IsTableRound (file : List ℕ) (limits : Limits) (lay : Layout) (round era : ℕ) (m : State (Stamped Hand) Object) (r : TableRound) : Type 0 where
  pub stamps : HaveStamps m r.base
  pub lawful : Lawful lay (r.late ++ r.early)
  pub worked : Worked lay m r.early r.late r.tag r.seat r.alone
  pub deeds : (n j : ℕ) → j < length (log_of n r.late) → Each (λ (d : ObjectDeed). IsHandDeed file limits era (hand_deed file limits d)) (r.tag n j)
  pub last_deeds : Each (λ (d : ObjectDeed). IsHandDeed file limits era (hand_deed file limits d)) r.alone
  pub apart : AreApart r.workers
  pub known : Each (λ (d : HandDeed). In d.call.thread r.workers) (hands_in file limits r)
  pub merged : IsPermutation (entries_in (logs_of r.workers (hands_in file limits r))) r.entries
  pub ordered : AreOrdered r.entries
  pub inside : Each (IsIn round era) r.entries
  pub parts : (t : ℕ) → EndsAlone (of_thread t (hands_in file limits r))
  pub begun : r.ends ≡ true → (t : ℕ) → ((left_after m (made_in r)).local t).state.given ≡ None
  pub onward : IsNextState (left_after m (made_in r)) r.next era (last_stamp r) r.ends

-- rounds one after another
abbrev pub AreTableRounds : List ℕ → Limits → Layout → ℕ → ℕ → ℕ → State (Stamped Hand) Object → List TableRound → Type 0
AreTableRounds file limits lay round era base m [] = Unit {0}
AreTableRounds file limits lay round era base m (r ∷ rs) =
    (r.base ≡ base) × IsTableRound file limits lay round era m r
    × AreTableRounds file limits lay (round + 1) (if r.ends then era + 1 else era) (last_stamp r) r.next rs

-- the entries of each round
abbrev pub entries_by_round : List TableRound → List (List Entry)
entries_by_round rs = map (λ (r : TableRound). r.entries) rs

-- rounds of what the objects keep, with the same entries
pub record AreKept (file : List ℕ) (limits : Limits) (round era base : ℕ) (m : State (Stamped Hand) Object) (rs : List TableRound) : Type 0 where
  pub rounds : List HandRound
  pub are : AreHandRounds file limits round era base (held_at file limits m) rounds
  pub entries : listed_entries rounds ≡ entries_by_round rs
