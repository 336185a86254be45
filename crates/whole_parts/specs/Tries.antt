-- A seat whose last turn of a round was one of the desk, in vain.
use Rattle.std.specs.Prelude.{◌≡◌, ◌+◌, ℕ, if◌then◌else◌, List, [], ◌∷◌, length}
use Rattle.run_laws.specs.Rounds.{Progress}
use Rattle.bare_machine.specs.Step.{desk}
use Rattle.turn_histories.specs.Rounds.{all_entries}
use Rattle.shared_table.specs.declared.object.Object.{Object}
use Rattle.shared_table.specs.declared.view.Item.TheVariants.{Give}
use Rattle.shared_table.specs.Past.{Past, log_of}
use Rattle.woven_turns.specs.Steps.{Stands}
use Rattle.table_deeds.specs.Rounds.{TableRound, entries_by_round}

-- In the round's part of the past the seat's last item gives the desk back as it was found.
pub record EndsInVain (late : Past) (seat : ℕ) (found : Object) : Type 0 where
  pub number : ℕ
  pub made : Past
  pub stands : Stands late made (seat, Give desk number found found)
  pub last : length (log_of seat late) ≡ length (log_of seat made) + 1

-- the era after rounds, of which the first has that era
abbrev pub era_behind : ℕ → List TableRound → ℕ
era_behind era [] = era
era_behind era (r ∷ rs) = era_behind (if r.ends then era + 1 else era) rs

-- so far a run has come with these rounds
pub record HasCome (p : Progress) (rs : List TableRound) : Type 0 where
  pub round : p.round ≡ length rs
  pub era : p.era ≡ era_behind 0 rs
  pub entries : p.entries ≡ all_entries (entries_by_round rs)
