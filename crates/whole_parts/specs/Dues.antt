-- What is known of rounds of parts when they begin, and of the desk when the run is over.
use Rattle.std.specs.Prelude.{◌≡◌, ◌⊎◌, ◌↔◌, ◌<◌, ◌+◌, ◌-◌, ◌/◌, ℕ, min, true, if◌then◌else◌, List, [], ◌∷◌, length, map, Some, None, is_some}
use Rattle.std.specs.List.{list_any}
use Rattle.run_record.specs.declared.entry.Entry.{Entry}
use Rattle.run_record.specs.declared.limits.Limits.{Limits}
use Rattle.run_record.specs.declared.finished.GuestEnd.{GuestEnd}
use Rattle.run_record.specs.declared.finished.GuestEnd.TheVariants.{AllEnded, Budget}
use Rattle.run_record.specs.declared.finished.LastState.{LastState}
use Rattle.run_laws.specs.Rounds.{steps_in}
use Rattle.bare_machine.specs.Step.{desk}
use Rattle.turn_orders.specs.Lists.{Each, In}
use Rattle.turn_orders.specs.Machine.{State}
use Rattle.turn_orders.specs.LineUp.{Stamped}
use Rattle.slot_desk.specs.Desks.{thread_of, live_of}
use Rattle.shared_table.specs.declared.object.DeskState.{DeskState}
use Rattle.shared_table.specs.declared.object.Object.{Object}
use Rattle.shared_table.specs.declared.object.Object.TheVariants.{Stripe, Desk}
use Rattle.placed_detector.specs.Standing.{Hand}
use Rattle.hart_parts.specs.Parts.{Part}
use Rattle.hart_parts.specs.Rounds.{PartRound}

-- the object is a desk with this state
abbrev pub HasDesk : Object → DeskState → Type 0
HasDesk (Desk d) state = d.value ≡ state
HasDesk (Stripe s) state = ⊥

-- the thread lives by the desk
abbrev pub LivesBy : DeskState → ℕ → Type 0
LivesBy d t = (thread_of d.desk t).lives ≡ true

-- what each live thread is given: the same as each other, at most a quantum and its share of the budget that is left
abbrev pub share : Limits → ℕ → DeskState → ℕ
share limits remaining d = min limits.quantum (remaining / live_of d.desk)

abbrev pub threads_of : PartRound → List ℕ
threads_of r = map (λ (p : Part). p.thread) r.parts

-- A round that is due while that budget is left. As it begins the run hasn't ended, and some thread lives. Each thread that lives
-- makes a part, and no other does. Each is given its share, which is some. An era begins after the round where a thread tried in
-- vain to get a slot, and only there.
pub record IsDueRound (limits : Limits) (remaining : ℕ) (m : State (Stamped Hand) Object) (r : PartRound) : Type 0 where
  pub opened : DeskState
  pub at_desk : HasDesk (m.value desk) opened
  pub goes_on : opened.machine.ended ≡ None
  pub some_live : 0 < live_of opened.desk
  pub threads : (t : ℕ) → In t (threads_of r) ↔ LivesBy opened t
  pub shares : Each (λ (p : Part). p.given ≡ share limits remaining opened) r.parts
  pub some_given : 0 < share limits remaining opened
  pub ends_is : r.ends ≡ list_any (λ (p : Part). is_some p.tried) r.parts

-- each round is, and its instructions are paid from the budget
abbrev pub AreDueRounds : Limits → ℕ → State (Stamped Hand) Object → List PartRound → Type 0
AreDueRounds limits remaining m [] = Unit {0}
AreDueRounds limits remaining m (r ∷ rs) =
    IsDueRound limits remaining m r × AreDueRounds limits (remaining - steps_in r.entries) r.next rs

-- the entries of rounds, one round after another
abbrev pub entries_by_part_round : List PartRound → List (List Entry)
entries_by_part_round rs = map (λ (r : PartRound). r.entries) rs

-- what threads and the table have after the rounds, and what is left of the budget
abbrev pub state_after_rounds : State (Stamped Hand) Object → List PartRound → State (Stamped Hand) Object
state_after_rounds m [] = m
state_after_rounds m (r ∷ rs) = state_after_rounds r.next rs

abbrev pub remaining_after : ℕ → List PartRound → ℕ
remaining_after remaining [] = remaining
remaining_after remaining (r ∷ rs) = remaining_after (remaining - steps_in r.entries) rs

-- the era of the last round, where the first one's is `era`, and before that one there was `before`
abbrev pub era_of_last : ℕ → ℕ → List PartRound → ℕ
era_of_last before era [] = before
era_of_last before era (r ∷ rs) = era_of_last era (if r.ends then era + 1 else era) rs

-- How the run ends with that desk, while that budget is left: by the first exit or fault; else since no thread lives; else since
-- a round would give no instruction.
abbrev pub IsEnd : Limits → ℕ → DeskState → GuestEnd → Type 0
IsEnd limits remaining d end =
    (d.machine.ended ≡ Some end)
    ⊎ (((d.machine.ended ≡ None) × (live_of d.desk ≡ 0) × (end ≡ AllEnded))
    ⊎ ((d.machine.ended ≡ None) × (0 < live_of d.desk) × (share limits remaining d ≡ 0) × (end ≡ Budget)))

-- After the rounds the run is over with this last state, which tells how many threads the desk has, how many rounds were made, and
-- the era of the last one.
pub record IsOver (limits : Limits) (m : State (Stamped Hand) Object) (rs : List PartRound)
    (closed : DeskState) (last : LastState) : Type 0 where
  pub at_desk : HasDesk ((state_after_rounds m rs).value desk) closed
  pub end_is : IsEnd limits (remaining_after limits.steps rs) closed last.end
  pub threads_are : last.threads ≡ length closed.machine.made
  pub rounds_are : last.rounds ≡ length rs
  pub era_is : last.era ≡ era_of_last 0 0 rs
