-- Rounds of the watched machine, with the eras that begin between them.
use Rattle.std.specs.Prelude.{◌≡◌, ℕ, ◌+◌, Bool, true, false, if◌then◌else◌, List, [], ◌∷◌, length}
use Rattle.run_laws.specs.Moments.{Moment, NewEra, items}
use Rattle.bare_machine.specs.World.{World}
use Rattle.turn_orders.specs.Lists.{Each}
use Rattle.turn_orders.specs.Machine.{State, acts}
use Rattle.turn_orders.specs.LineUp.{Stamped, with_stamp, plain, calls}
use Rattle.turn_orders.specs.Rounds.{Round}
use Rattle.joint_turns.specs.Joint.{Value}
use Rattle.watched_turns.specs.Turns.{Local, Act, Told, era_after}
use Rattle.watched_turns.specs.Along.{WasPlaced, told_of, all_of, StandFrom, AreRight, world_after}

-- A round ends so that an era begins, or not.
abbrev pub WatchedRound : Type 0
WatchedRound = Round (Stamped Local) (Stamped Value) (List Act) (Stamped (List (List Told))) Bool

abbrev pub next_era : ℕ → Bool → State Local Value → State Local Value
next_era slots begins m = if begins then era_after slots m else m

-- Between rounds each thread's stamp becomes the greatest so far, each place keeps its own, and an era may begin.
abbrev pub between : ℕ → ℕ → Bool → State (Stamped Local) (Stamped Value) → State (Stamped Local) (Stamped Value)
between slots top begins m =
    record { local = λ t. with_stamp ((next_era slots begins (plain m)).local t) top; value = λ k. with_stamp ((next_era slots begins (plain m)).value k) (m.value k).last }

-- all that a round told, as it is listed
abbrev pub round_told : WatchedRound → List Told
round_told r = all_of (told_of r.listed)

-- each act of each round was placed by what it found
abbrev pub AllPlaced : List ℕ → ℕ → ℕ → List WatchedRound → Type 0
AllPlaced file harts g [] = Unit {0}
AllPlaced file harts g (r ∷ rs) = Each (WasPlaced file harts g) r.made × AllPlaced file harts g rs

-- the bare machine's world after the rounds as they are listed
abbrev pub world_after_rounds : List ℕ → World → List WatchedRound → World
world_after_rounds file w [] = w
world_after_rounds file w (r ∷ rs) = world_after_rounds file (world_after file w (acts (calls r.listed))) rs

-- the position after a round that began at n, and after several
abbrev pub round_end : ℕ → WatchedRound → ℕ
round_end n r = n + length (round_told r) + (if r.ends then 1 else 0)

abbrev pub position_after : ℕ → List WatchedRound → ℕ
position_after n [] = n
position_after n (r ∷ rs) = position_after (round_end n r) rs

abbrev pub EraStands : List Moment → ℕ → Bool → Type 0
EraStands h n true = items h n ≡ NewEra
EraStands h n false = Unit {0}

-- what the rounds told stands in the history from position n on, with each era that begins
abbrev pub RoundsStand : List Moment → ℕ → List WatchedRound → Type 0
RoundsStand h n [] = Unit {0}
RoundsStand h n (r ∷ rs) = StandFrom h n (round_told r) × EraStands h (n + length (round_told r)) r.ends × RoundsStand h (round_end n r) rs

-- and each event that they told is right
abbrev pub RoundsAreRight : List ℕ → ℕ → List Moment → ℕ → List WatchedRound → Type 0
RoundsAreRight file g h n [] = Unit {0}
RoundsAreRight file g h n (r ∷ rs) = AreRight file g h n (round_told r) × RoundsAreRight file g h (round_end n r) rs
