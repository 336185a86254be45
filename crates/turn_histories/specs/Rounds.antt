-- The entries of rounds.
use Rattle.std.specs.Prelude.{◌≡◌, ℕ, ◌+◌, ◌<◌, if◌then◌else◌, List, [], ◌∷◌}
use Rattle.std.specs.List.{AllZip, flat_map}
use Rattle.run_record.specs.declared.entry.Entry.{Entry}
use Rattle.bare_machine.specs.Step.{desk}
use Rattle.turn_orders.specs.Lists.{Each}
use Rattle.turn_orders.specs.Machine.{State}
use Rattle.turn_orders.specs.LineUp.{Stamped, with_stamp}
use Rattle.joint_turns.specs.Joint.{Value}
use Rattle.watched_turns.specs.Turns.{Local, first_state}
use Rattle.watched_turns.specs.Along.{StampedDeed}
use Rattle.watched_turns.specs.Rounds.{WatchedRound}
use Rattle.turn_histories.specs.Entries.{IsEntryOf}

-- the first state, in which no stamp was drawn
abbrev pub first_stamped : List ℕ → ℕ → State (Stamped Local) (Stamped Value)
first_stamped file slots = record { local = λ t. with_stamp ((first_state file slots).local t) 0; value = λ k. with_stamp ((first_state file slots).value k) 0 }

-- the entry is of that round and era
pub record IsIn (n era_number : ℕ) (e : Entry) : Type 0 where
  pub round : e.round ≡ n
  pub era : e.era ≡ era_number

-- a turn that uses no object ends its thread's part of the round: none of the entries that follow has instructions of it
abbrev pub PartsEnd : List StampedDeed → List Entry → Type 0
PartsEnd (d ∷ ds) (e ∷ es) = (0 < e.steps → desk < d.call.place → Each (λ (f : Entry). f.tid ≡ e.tid → f.steps ≡ 0) es) × PartsEnd ds es
PartsEnd _ _ = Unit {0}

-- The entries tell the turns of the round, as it is listed.
pub record IsRoundOf (file : List ℕ) (harts g round era : ℕ) (r : WatchedRound) (es : List Entry) : Type 0 where
  pub entries : AllZip (IsEntryOf file harts g) r.listed es
  pub inside : Each (IsIn round era) es
  pub parts : PartsEnd r.listed es

-- So it is of each round. Where a round ends its era, the next one's is one more.
abbrev pub AreRoundsOf : List ℕ → ℕ → ℕ → ℕ → ℕ → List WatchedRound → List (List Entry) → Type 0
AreRoundsOf file harts g round era [] [] = Unit {0}
AreRoundsOf file harts g round era (r ∷ rs) (es ∷ ess) =
    IsRoundOf file harts g round era r es × AreRoundsOf file harts g (round + 1) (if r.ends then era + 1 else era) rs ess
AreRoundsOf file harts g round era _ _ = ⊥

-- all entries, round after round
abbrev pub all_entries : List (List Entry) → List Entry
all_entries ess = flat_map (λ (es : List Entry). es) ess
