-- All entries of rounds of parts.
use Rattle.std.specs.Prelude.{List, map}
use Rattle.run_record.specs.declared.entry.Entry.{Entry}
use Rattle.turn_histories.specs.Rounds.{all_entries}
use Rattle.hart_parts.specs.Rounds.{PartRound}

-- the entries of each round, round after round
abbrev pub entries_in_rounds : List PartRound → List Entry
entries_in_rounds rs = all_entries (map (λ (r : PartRound). r.entries) rs)
