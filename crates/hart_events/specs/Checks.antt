-- What waits for the end of a round after an access.
use Rattle.std.specs.Prelude.{ℕ, List, [], ◌∷◌, ◌++◌, Option, Some, None, option_map}
use Rattle.run_record.specs.declared.entry.Check.{Check}
use Rattle.run_laws.specs.Accesses.{Access}
use Rattle.race_core.specs.Watched.{Watched, side_of}
use Rattle.race_core.specs.declared.watcher.Candidate.{Candidate}
use Rattle.hart_events.specs.declared.checks.Raced.{Raced}

-- what is kept of a word that races
abbrev pub raced_of : Option (Check × ℕ) → Option Raced
raced_of found = option_map (λ (l : Check × ℕ). record { granule = l.0.granule; word = l.1 }) found

-- what waits for the end of the round after an access, with the word that races
abbrev pub waits_on : Watched → Access → Option Raced → List Candidate → List Candidate
waits_on w a None waiting = waiting
waits_on w a (Some r) waiting = waiting ++ record { mine = side_of w a; granule = r.granule; word = r.word } ∷ []
