-- Vector clocks as lists: the epoch of each slot, slot 0 first.
use Rattle.std.specs.Prelude.{ℕ, List, max}
use Rattle.std.specs.Simd.Lanes.{zip2}

-- the greater epoch of each slot
abbrev pub joined : List ℕ → List ℕ → List ℕ
joined one other = zip2 max one other
