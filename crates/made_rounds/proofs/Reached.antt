-- How far rounds are found in a past.
use Rattle.std.proofs.Common.{◌≡◌, ◌≢◌, ◌<◌, ◌≤◌, ℕ, List, [], ◌++◌, length}
use Rattle.std.specs.Prelude.{map, Some, None}
use Rattle.std.specs.List.{AllZip}
use mathlib.Core.Option.{some}
use lib.ListN.{get_elem?}
use Rattle.run_record.specs.declared.limits.Limits.{Limits}
use Rattle.bare_machine.specs.Step.{desk}
use Rattle.turn_orders.specs.Machine.{State}
use Rattle.turn_orders.specs.LineUp.{Stamped}
use Rattle.shared_table.specs.declared.object.Object.{Object}
use Rattle.shared_table.specs.declared.view.Layout.{Layout}
use Rattle.shared_table.specs.Past.{Log, Past, logs_of}
use Rattle.placed_detector.specs.Standing.{Hand}
use Rattle.table_deeds.specs.Rounds.{HasObjects, HaveStamps}
use Rattle.hart_parts.specs.Parts.{IsPrivate}
use Rattle.hart_parts.specs.Rounds.{PartRound}
use Rattle.whole_parts.specs.Dues.{AreDueRounds, state_after_rounds, remaining_after, era_of_last}
use Rattle.cell_loads.specs.Pasts.{AreQuiet}
use Rattle.part_races.specs.Rounds.{era_after}
use Rattle.part_runs.specs.Next.{next_base, past_through}
use Rattle.part_runs.specs.Runs.{AreRounds}
use Rattle.made_rounds.specs.Made.{MadeRound, Stand}

-- the parts are the same, and so is whether an era begins
abbrev pub IsSame : PartRound → MadeRound → Type 0
IsSame r x = (r.parts ≡ x.parts) × (r.ends ≡ x.ends)

-- In this past stand the rounds so far, which are these, and the turn of the desk behind them. All seats that it made are joined.
-- The next round begins with the stand.
pub record Reached (file : List ℕ) (limits : Limits) (lay : Layout) (m : State (Stamped Hand) Object) (past : Past) (xs : List MadeRound)
    (s : Stand) : Type 0 where
  pub rs : List PartRound
  pub rounds : AreRounds file limits lay past m rs
  pub dues : AreDueRounds limits limits.steps m rs
  pub entries : map (λ (r : PartRound). r.entries) rs ≡ map (λ (x : MadeRound). x.entries) xs
  pub same : AllZip IsSame rs xs
  pub between : Past
  pub quiet : AreQuiet between
  pub past_is : past ≡ between ++ past_through [] rs
  pub locals : (t : ℕ) → (state_after_rounds m rs).local t ≡ s.locals t
  pub desk_is : (state_after_rounds m rs).value desk ≡ s.desk
  pub round : s.round ≡ length rs
  pub era : s.era ≡ era_after 0 rs
  pub last_era : s.last_era ≡ era_of_last 0 0 rs
  pub base : s.base ≡ next_base 0 m rs
  pub remaining : s.remaining ≡ remaining_after limits.steps rs
  pub objects : HasObjects lay past (state_after_rounds m rs)
  pub stamps : HaveStamps (state_after_rounds m rs) s.base
  pub private : (k : ℕ) → desk < k → IsPrivate limits ((state_after_rounds m rs).value k)
  pub begun : (t : ℕ) → ((state_after_rounds m rs).local t).state.given ≡ None
  pub some_seat : 1 ≤ s.seat
  pub seats : length (logs_of past) ≡ s.seat
  pub joined : (n : ℕ) → n ≢ 0 → n < s.seat → (l : Log) × (get_elem? (logs_of past) n ≡ some (Some l))
