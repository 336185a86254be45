-- Where a parallel run stands between two rounds, and at the end of one.
use Rattle.std.specs.Prelude.{◌≡◌, ℕ, Bool, List, [], Option, None, All, IsPermutation}
use Rattle.run_record.specs.declared.entry.Entry.{Entry}
use Rattle.run_record.specs.declared.limits.Limits.{Limits}
use Rattle.run_record.specs.Order.{AreOrdered, AreDistinct, entries_in}
use Rattle.run_laws.specs.Reports.{Kept, kept_of}
use Rattle.shared_table.specs.declared.object.DeskState.{DeskState}
use Rattle.shared_table.specs.declared.object.Object.{Object}
use Rattle.shared_table.specs.declared.view.Layout.{Layout}
use Rattle.shared_table.specs.declared.view.View.{View}
use Rattle.hart_parts.specs.Parts.{Part}
use Rattle.whole_parts.specs.Dues.{HasDesk}
use Rattle.part_races.specs.Sorting.{Keyed}
use Rattle.part_runs.specs.Told.{RoundReports, all_told}
use Rattle.hart_turns.specs.declared.slots.ThreadState.{ThreadState}
use Rattle.made_rounds.specs.Made.{MadeRound, Stand, first_stand, stand_after, IsMade, AreMade, entries_of_made}
use Rattle.made_rounds.specs.Logs.{HaveLogs, HaveRoundLogs}
use Rattle.made_rounds.specs.Known.{IsSetUp, stand_behind, at_round_end, TellsRound, TellAll, AreToldMade}
use Rattle.hart_workers.specs.Tells.{HaveTraces}
use Rattle.hart_workers.specs.Crews.{IsIdle}
use Rattle.hart_workers.specs.declared.rounds.Rounds.{Rounds}
use Rattle.hart_workers.specs.declared.making.RoundMade.{RoundMade}
use Rattle.hart_workers.specs.Reading.{HasRead}

-- ---- the rounds so far

-- The rounds that were made, with the desk as it began, the accesses that awaited the end of each, and the reports of these.
pub record SoFar : Type 0 where
  pub first : Object
  pub rounds : List MadeRound
  pub keys : List (List Keyed)
  pub told : List RoundReports

-- what the next round begins with
abbrev pub stand_in : Limits → SoFar → Stand
stand_in limits x = stand_behind limits x.first x.rounds

-- They were made over a table that was set up, and all races of each were told at its end.
pub record IsKnown (file : List ℕ) (limits : Limits) (lay : Layout) (x : SoFar) : Type 0 where
  pub set_up : IsSetUp file limits lay x.first
  pub made : AreMade file limits (first_stand limits x.first) x.rounds
  pub races : TellAll file limits (first_stand limits x.first) x.rounds x.keys
  pub told : AreToldMade file limits [] x.rounds x.told

-- the numbers that are kept are those of the stand, and the entries are those of all rounds
pub record StandsAs (limits : Limits) (x : SoFar) (r : Rounds) : Type 0 where
  pub round : r.round ≡ (stand_in limits x).round
  pub era : r.era ≡ (stand_in limits x).era
  pub last_era : r.last_era ≡ (stand_in limits x).last_era
  pub base : r.base ≡ (stand_in limits x).base
  pub remaining : r.remaining ≡ (stand_in limits x).remaining
  pub entries : r.entries ≡ entries_of_made x.rounds

-- the desk was read as the last round left it
pub record HasReading (limits : Limits) (x : SoFar) (r : Rounds) : Type 0 where
  pub desk_state : DeskState
  pub at_desk : HasDesk (stand_in limits x).desk desk_state
  pub read : HasRead limits (stand_in limits x).remaining desk_state r.reading

-- ---- between two rounds

-- Behind these rounds the opening seat has these logs, what is kept stands for what the next round begins with, and the reports are
-- those that were kept of all that was told.
pub record IsBetween (meets : Option (List ℕ) → Option (List ℕ) → Bool) (file : List ℕ) (limits : Limits) (lay : Layout) (v : View)
    (r : Rounds) (kept : Kept) : Type 0 where
  pub so_far : SoFar
  pub known : IsKnown file limits lay so_far
  pub logs : HaveLogs v.logs v.log (first_stand limits so_far.first) so_far.rounds None
  pub kept_is : kept ≡ kept_of meets (all_told so_far.told)
  pub stands : StandsAs limits so_far r
  pub idle : IsIdle limits (stand_in limits so_far) r.crew.states.items
  pub reading : HasReading limits so_far r

-- ---- at a round's end

-- The parts that the workers of a round made, the number of the first one's seat, the entries as they were merged, and whether an
-- era begins after it.
pub record Merged : Type 0 where
  pub parts : List Part
  pub first_seat : ℕ
  pub entries : List Entry
  pub ends : Bool

-- the round, with the turn of the desk behind it
abbrev pub round_with : Merged → ℕ → Object → Object → MadeRound
round_with m turn found left = record {
  parts = m.parts;
  first_seat = m.first_seat;
  entries = m.entries;
  ends = m.ends;
  turn = turn;
  found = found;
  left = left;
}

-- Whatever turn of the desk comes behind it: the round was made from where the rounds before it left all; of its races these await its
-- end, in order; and what is kept of threads stands for what the next round begins with, and has the traces of the round's end.
pub record IsOneMore (file : List ℕ) (limits : Limits) (x : SoFar) (v : View) (keys : List Keyed)
    (states : List (Option ThreadState)) (y : MadeRound) : Type 0 where
  pub made : IsMade file limits (stand_in limits x) y
  pub logs : HaveRoundLogs v.logs v.log (first_stand limits x.first) x.rounds y None
  pub races : TellsRound file limits (stand_in limits x).era y keys
  pub idle : IsIdle limits (stand_after (stand_in limits x) y) states
  pub traces : HaveTraces (at_round_end (stand_in limits x) y) states

-- What a round made: the entries as they are merged, the accesses that wait for its end, in order, and whether a thread was starved.
pub record MergedRound : Type 0 where
  pub entries : List Entry
  pub pending : List Keyed
  pub starved : Bool

-- Behind these rounds one more has been made, and its turn of the desk is still to come.
pub record IsMergedEnd (meets : Option (List ℕ) → Option (List ℕ) → Bool) (file : List ℕ) (limits : Limits) (lay : Layout) (v : View)
    (r : Rounds) (made : MergedRound) (kept : Kept) : Type 0 where
  pub so_far : SoFar
  pub known : IsKnown file limits lay so_far
  pub kept_is : kept ≡ kept_of meets (all_told so_far.told)
  pub stands : StandsAs limits so_far r
  pub merged : Merged
  pub entries : made.entries ≡ merged.entries
  pub starved : made.starved ≡ merged.ends
  pub more : (turn : ℕ) (found left : Object) →
      IsOneMore file limits so_far v made.pending r.crew.states.items (round_with merged turn found left)

abbrev pub merged_round : RoundMade → List Entry → MergedRound
merged_round made entries = record { entries = entries; pending = made.pending; starved = made.starved }

-- The same before the logs are merged: each is in order, no two entries have the same place in it, and whatever list in order has all
-- of them, with it the round is at its end.
pub record IsAtEnd (meets : Option (List ℕ) → Option (List ℕ) → Bool) (file : List ℕ) (limits : Limits) (lay : Layout) (v : View)
    (r : Rounds) (made : RoundMade) (kept : Kept) : Type 0 where
  pub ordered : All AreOrdered made.logs.items
  pub distinct : AreDistinct (entries_in made.logs.items)
  pub merges : (entries : List Entry) → IsPermutation (entries_in made.logs.items) entries → AreOrdered entries →
      IsMergedEnd meets file limits lay v r (merged_round made entries) kept
