-- A lent clock.
use Rattle.std.specs.Prelude.{ℕ, List}
use Rattle.std.specs.Borrow.{Lends, MutBor, Fml}
use Rattle.vector_clock.specs.contracts.clock.Clock.{the_row as clock_row}
use Rattle.race_core.specs.contracts.watcher.Watcher.{the_row as watcher_row}
use Rattle.race_core.specs.Watched.{Watched, with_clock}

-- what the clock is made is the watcher's clock afterwards, and nothing else changes
abbrev pub LendsClock : MutBor Watched → MutBor (List ℕ) → Fml
LendsClock w clock = Lends watcher_row clock_row w clock (with_clock w.now)
