-- Where the machine and its detector stand between the rounds of a run, and at a round's end.
use Rattle.std.specs.Prelude.{◌≡◌, ◌<◌, ℕ, List, ◌++◌, length, All}
use Rattle.run_record.specs.declared.entry.Entry.{Entry}
use Rattle.run_record.specs.declared.limits.Limits.{Limits}
use Rattle.thread_turns.specs.declared.watched.WatchedMachine.{WatchedMachine}
use Rattle.thread_turns.specs.Follows.{Follows, moments_by}

-- Before each round: the machine and its detector follow the entries, nothing waits, and the entries are of earlier rounds.
pub record IsBetween (file : List ℕ) (limits : Limits) (round : ℕ) (entries : List Entry) (w : WatchedMachine) : Type 0 where
  pub follows : Follows file limits (length (moments_by round entries w)) round entries w
  pub before : All (λ (e : Entry). e.round < round) entries

-- At a round's end, before its reports are told: the machine and its detector follow the entries with those of the round, which are of
-- the era that the round began in; what waits are accesses of the round.
pub record IsAtEnd (file : List ℕ) (limits : Limits) (round : ℕ) (entries part : List Entry) (old w : WatchedMachine) : Type 0 where
  pub follows : Follows file limits (length (moments_by round entries old)) round (entries ++ part) w
  pub before : All (λ (e : Entry). e.round < round) entries
  pub now : All (λ (e : Entry). (e.round ≡ round) × (e.era ≡ old.detector.era)) part
  pub era : w.detector.era ≡ old.detector.era
