-- Rounds go on by one more.
use Rattle.std.specs.Prelude.{◌≡◌, ℕ, List, [], ◌∷◌, ◌++◌, length}
use Rattle.run_record.specs.declared.limits.Limits.{Limits}
use Rattle.turn_orders.specs.Machine.{State}
use Rattle.turn_orders.specs.LineUp.{Stamped}
use Rattle.shared_table.specs.declared.object.Object.{Object}
use Rattle.shared_table.specs.declared.view.Layout.{Layout}
use Rattle.shared_table.specs.Past.{Past}
use Rattle.placed_detector.specs.Standing.{Hand}
use Rattle.table_deeds.specs.Rounds.{last_stamp}
use Rattle.hart_parts.specs.Rounds.{PartRound, table_round, IsPartRound}
use Rattle.whole_parts.specs.Dues.{state_after_rounds}
use Rattle.cell_loads.specs.Pasts.{GoesOn}
use Rattle.part_races.specs.Rounds.{era_after}

-- the greatest stamp when these rounds are over, where before them it was `base`
abbrev pub next_base : ℕ → State (Stamped Hand) Object → List PartRound → ℕ
next_base base m [] = base
next_base base m (r ∷ rs) = next_base (last_stamp (table_round m r)) r.next rs

-- the table's past when the last of these rounds ended, where before them it was this
abbrev pub past_through : Past → List PartRound → Past
past_through before [] = before
past_through before (r ∷ rs) = past_through (r.late ++ r.early) rs

-- The round comes next after these: it has their last state, the next number and era, and goes on from their past.
pub record IsNextRound (file : List ℕ) (limits : Limits) (lay : Layout) (m : State (Stamped Hand) Object) (rs : List PartRound)
    (r : PartRound) : Type 0 where
  pub base : r.base ≡ next_base 0 m rs
  pub round : IsPartRound file limits lay (length rs) (era_after 0 rs) (state_after_rounds m rs) r
  pub goes_on : GoesOn limits (past_through [] rs) (state_after_rounds m rs) r
