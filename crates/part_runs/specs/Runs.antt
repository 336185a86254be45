-- What the one who starts rounds has to show of a run.
use Rattle.std.specs.Prelude.{◌≡◌, ◌≤◌, ℕ, List, [], map, Ok}
use Rattle.run_record.specs.declared.entry.Entry.{Entry}
use Rattle.run_record.specs.declared.limits.Limits.{Limits}
use Rattle.run_record.specs.declared.finished.LastState.{LastState}
use Rattle.elf_image.specs.File.{image_of}
use Rattle.turn_orders.specs.Machine.{State}
use Rattle.turn_orders.specs.LineUp.{Stamped}
use Rattle.turn_histories.specs.Rounds.{all_entries}
use Rattle.race_core.specs.Watched.{AreWatcherLimits}
use Rattle.shared_table.specs.declared.object.DeskState.{DeskState}
use Rattle.shared_table.specs.declared.object.Object.{Object}
use Rattle.shared_table.specs.declared.view.Layout.{Layout}
use Rattle.shared_table.specs.Past.{Past, Lawful}
use Rattle.placed_detector.specs.Standing.{Hand}
use Rattle.table_deeds.specs.Objects.{AreFirstObjects}
use Rattle.hart_parts.specs.Rounds.{PartRound, ArePartRounds}
use Rattle.whole_parts.specs.Dues.{AreDueRounds, IsOver}
use Rattle.cell_loads.specs.Pasts.{ArePasts}

-- the entries of rounds, round after round
abbrev pub entries_of_rounds : List PartRound → List Entry
entries_of_rounds rs = all_entries (map (λ (r : PartRound). r.entries) rs)

-- the limits are in their ranges
pub record AreRoundLimits (limits : Limits) : Type 0 where
  pub watcher : AreWatcherLimits limits
  pub some_epochs : 1 ≤ limits.epochs
  pub some_harts : 1 ≤ limits.harts

-- Rounds of an accepted executable, from a new table on, which has this past when they are over. Each worker made a part of its
-- round, and between two rounds, and behind the last one, no step is at a cell.
pub record AreRounds (file : List ℕ) (limits : Limits) (lay : Layout) (past : Past) (m : State (Stamped Hand) Object)
    (rs : List PartRound) : Type 0 where
  pub limits_are : AreRoundLimits limits
  pub accepted : image_of file ≡ Ok file
  pub first : AreFirstObjects file limits m
  pub parts : ArePartRounds file limits lay 0 0 0 m rs
  pub lawful : Lawful lay past
  pub pasts : ArePasts limits past [] m rs

-- All rounds of a run: each was due, and after the last one the run is over with that desk and that last state.
pub record AreAllRounds (file : List ℕ) (limits : Limits) (lay : Layout) (past : Past) (m : State (Stamped Hand) Object)
    (rs : List PartRound) (closed : DeskState) (last : LastState) : Type 0 where
  pub rounds : AreRounds file limits lay past m rs
  pub dues : AreDueRounds limits limits.steps m rs
  pub over : IsOver limits m rs closed last
