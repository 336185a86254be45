-- The logs that the one who starts rounds has.
use Rattle.std.specs.Prelude.{◌≡◌, ◌+◌, ℕ, List, [], ◌∷◌, ◌++◌, length, slice_get, Option, None, Some}
use Rattle.std.specs.List.{flat_map}
use mathlib.Core.Option.{some}
use lib.ListN.{get_elem?}
use Rattle.bare_machine.specs.Step.{desk}
use Rattle.turn_orders.specs.Lists.{Each}
use Rattle.shared_table.specs.declared.view.Item.TheVariants.{Take, Give}
use Rattle.shared_table.specs.Past.{Log}
use Rattle.shared_table.specs.Rounds.{splits_from, joins_from}
use Rattle.hart_parts.specs.Parts.{Part}
use Rattle.made_rounds.specs.Made.{MadeRound, Stand, stand_of}

-- what the opening seat's log has of a round: a seat is made for each part, and then all of them are joined
abbrev pub round_items : MadeRound → Log
round_items x = splits_from x.first_seat (length x.parts) ++ joins_from x.first_seat (length x.parts)

-- and of the turn of the desk behind it
abbrev pub turn_items : MadeRound → Log
turn_items x = Take desk x.turn ∷ Give desk x.turn x.found x.left ∷ []

abbrev pub own_items : List MadeRound → Log
own_items xs = flat_map (λ (x : MadeRound). round_items x ++ turn_items x) xs

-- the opening seat's open turn of the desk, if it has taken it
abbrev pub begun_turn : Option ℕ → Log
begun_turn None = []
begun_turn (Some n) = Take desk n ∷ []

-- under the numbers of a round's seats these logs are those of its parts
abbrev pub HasPartLogs : List (Option Log) → MadeRound → Type 0
HasPartLogs logs x = (i : ℕ) (p : Part) → slice_get x.parts i ≡ Some p → get_elem? logs (x.first_seat + i) ≡ some (Some p.log)

-- The logs of all seats, and the opening seat's own, are those of these rounds, from there on. The opening seat may have taken the
-- desk since.
pub record HaveLogs (logs : List (Option Log)) (own : Log) (s : Stand) (xs : List MadeRound) (taken : Option ℕ) : Type 0 where
  pub own_is : own ≡ own_items xs ++ begun_turn taken
  pub parts : Each (HasPartLogs logs) xs
  pub count : length logs ≡ (stand_of s xs).seat

-- Behind these rounds one more has been made, whose turn of the desk is not over yet, and maybe not begun.
pub record HaveRoundLogs (logs : List (Option Log)) (own : Log) (s : Stand) (xs : List MadeRound) (x : MadeRound)
    (taken : Option ℕ) : Type 0 where
  pub own_is : own ≡ own_items xs ++ (round_items x ++ begun_turn taken)
  pub earlier : Each (HasPartLogs logs) xs
  pub parts : HasPartLogs logs x
  pub count : length logs ≡ (stand_of s xs).seat + length x.parts
