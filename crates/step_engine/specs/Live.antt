-- Which threads live in a world of the bare machine.
use Rattle.std.specs.Prelude.{ℕ, List, length, filter}
use Rattle.bare_machine.specs.World.{World, lives}
use Rattle.run_laws.specs.Numbers.{up_from}

-- the live threads by rising number
abbrev pub live_of : World → List ℕ
live_of w = filter (lives w) (up_from 0 (length w.threads))
