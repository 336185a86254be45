-- What the workers of a round tell of its races, and the order in which these are listed.
use Rattle.std.specs.Prelude.{◌≡◌, ◌≤◌, ◌+◌, ℕ, if◌then◌else◌, IsPermutation, List, [], ◌∷◌, ◌++◌, map, Option, None, Some}
use Rattle.std.specs.List.{AllZip, flat_map}
use Rattle.run_record.specs.declared.entry.Entry.{Entry}
use Rattle.run_record.specs.declared.limits.Limits.{Limits}
use Rattle.report_laws.specs.Awaited.{Awaited}
use Rattle.turn_orders.specs.LineUp.{Stamped}
use Rattle.shared_table.specs.declared.object.Object.{Object}
use Rattle.placed_detector.specs.Standing.{Hand}
use Rattle.deed_histories.specs.Lines.{HandDeed}
use Rattle.table_deeds.specs.Objects.{hand_deed, hand_deeds, last_in}
use Rattle.hart_parts.specs.Parts.{Part, Rest, at_last_object, rest_deed, IsPrivate}
use Rattle.hart_parts.specs.Rounds.{PartRound}
use Rattle.part_races.specs.Awaits.{DeedAwaits}

-- an entry, and those of its accesses that await
pub record Tagged : Type 0 where
  pub entry : Entry
  pub awaited : List Awaited

abbrev pub entries_tagged : List Tagged → List Entry
entries_tagged xs = map (λ (x : Tagged). x.entry) xs

-- all that await, in the order of these entries
abbrev pub all_awaited : List Tagged → List Awaited
all_awaited xs = flat_map (λ (x : Tagged). x.awaited) xs

-- the deed left that entry, and these of its accesses await
pub record TellsAwaited (file : List ℕ) (limits : Limits) (era : ℕ) (d : HandDeed) (x : Tagged) : Type 0 where
  pub entry : x.entry ≡ d.told.entry
  pub awaits : DeedAwaits file limits era d x.awaited

-- the same of the deed without an object, whatever its thread's own place has
abbrev pub TellsRest : List ℕ → Limits → ℕ → ℕ → Stamped Hand → Option Rest → List Tagged → Type 0
TellsRest file limits era t found None xs = xs ≡ []
TellsRest file limits era t found (Some r) xs =
    (x : Tagged) × (xs ≡ x ∷ [])
    × ((y : Object) → IsPrivate limits y → last_in y ≤ found.last →
    TellsAwaited file limits era (hand_deed file limits (rest_deed t found y r)) x)

-- What a worker tells of the races of its part: of each deed at an object, and of what it made behind them.
pub record TellsRaces (file : List ℕ) (limits : Limits) (era : ℕ) (p : Part) (xs : List Tagged) : Type 0 where
  pub at_objects : List Tagged
  pub behind : List Tagged
  pub all : xs ≡ at_objects ++ behind
  pub deeds : AllZip (TellsAwaited file limits era) (hand_deeds file limits p.deeds) at_objects
  pub rest : TellsRest file limits era p.thread (at_last_object p) p.rest behind

-- What all workers of a round told, sorted as the entries are, comes to these accesses.
pub record RoundAwaits (file : List ℕ) (limits : Limits) (era : ℕ) (r : PartRound) (awaited : List Awaited) : Type 0 where
  pub told : List (List Tagged)
  pub of_parts : AllZip (TellsRaces file limits era) r.parts told
  pub sorted : List Tagged
  pub merged : IsPermutation (flat_map (λ (xs : List Tagged). xs) told) sorted
  pub entries : entries_tagged sorted ≡ r.entries
  pub awaited_are : awaited ≡ all_awaited sorted

-- so it is of each round
abbrev pub AllAwait : List ℕ → Limits → ℕ → List PartRound → List (List Awaited) → Type 0
AllAwait file limits era [] [] = Unit {0}
AllAwait file limits era (r ∷ rs) (awaited ∷ later) =
    RoundAwaits file limits era r awaited × AllAwait file limits (if r.ends then era + 1 else era) rs later
AllAwait file limits era _ _ = ⊥

-- the era after these rounds, where that one was before them
abbrev pub era_after : ℕ → List PartRound → ℕ
era_after era [] = era
era_after era (r ∷ rs) = era_after (if r.ends then era + 1 else era) rs

-- the entries of each round
abbrev pub entries_of_rounds : List PartRound → List (List Entry)
entries_of_rounds rs = map (λ (r : PartRound). r.entries) rs
