-- A machine and its detector that follow a history.
use Rattle.std.specs.Prelude.{◌≡◌, ◌<◌, ◌≤◌, ◌+◌, ◌*◌, ◌==◌, ℕ, true, false, List, [], ◌++◌, length, All, None}
use Rattle.std.specs.List.{list_any}
use Rattle.run_record.specs.declared.entry.Entry.{Entry}
use Rattle.run_record.specs.declared.limits.Limits.{Limits}
use Rattle.elf_image.specs.File.{granule_of, granules_of}
use Rattle.run_laws.specs.Moments.{Moment, moments_in}
use Rattle.run_laws.specs.Faithful.{state_after}
use Rattle.run_laws.specs.Present.{label_now, queue_now, frames_now}
use Rattle.run_laws.specs.Rounds.{Progress, Due, IsInRound, steps_in, steps_by}
use Rattle.bare_machine.specs.World.{lives, HasMemory}
use Rattle.bare_machine.specs.Preview.{needs_slot}
use Rattle.turn_laws.specs.SoFar.{IsLawfulSoFar}
use Rattle.turn_laws.specs.Turns.{GoesOn}
use Rattle.machine_laws.specs.Machine.{bare_of}
use Rattle.machine_laws.specs.Threads.{threads_in, depth}
use Rattle.machine_laws.specs.Agrees.{Agrees}
use Rattle.detector.specs.Stands.{Stands}
use Rattle.thread_turns.specs.declared.watched.WatchedMachine.{WatchedMachine}
use Rattle.thread_turns.specs.declared.watched.TurnEnd.{TurnEnd}
use Rattle.thread_turns.specs.Ranges.{AreLimits}

-- the moments before the next entry, which is of that round and of the detector's era
abbrev pub moments_by : ℕ → List Entry → WatchedMachine → List Moment
moments_by round entries w = moments_in round w.detector.era entries

-- The history is lawful so far and has come to this round. The machine is in the state after it, and the detector stands as it leaves it;
-- what waits there are accesses from that position on. The desk has the machine's threads.
pub record Follows (file : List ℕ) (limits : Limits) (from : ℕ) (round : ℕ) (entries : List Entry) (w : WatchedMachine) : Type 0 where
  pub limits_are : AreLimits limits
  pub machine : w.machine ≡ state_after (bare_of file limits.harts) entries
  pub memory : HasMemory file w.machine
  pub harts : w.machine.harts ≡ limits.harts
  pub agrees : Agrees limits.harts (threads_in w.machine) w.detector.desk
  pub depths : (u : ℕ) → length (frames_now (moments_by round entries w) u) ≡ depth w.machine u
  pub lawful : IsLawfulSoFar limits (bare_of file limits.harts) (granule_of file) entries
  pub stands : Stands (granules_of file) limits from None (moments_by round entries w) w.detector
  pub eras : All (λ (e : Entry). e.era ≤ w.detector.era) entries
  pub rounds : All (λ (e : Entry). e.round ≤ round) entries

-- some position is such that they follow
pub record IsFollowing (file : List ℕ) (round : ℕ) (entries : List Entry) (w : WatchedMachine) : Type 0 where
  pub from : ℕ
  pub follows : Follows file w.detector.limits from round entries w

-- where the thread's turn ended since no slot was free: it lives, its next instruction needs a slot, and it has none
pub record IsStarved (file : List ℕ) (limits : Limits) (round tid : ℕ) (entries : List Entry) (w : WatchedMachine) : Type 0 where
  pub alive : lives w.machine tid ≡ true
  pub needy : needs_slot file w.machine tid ≡ true
  pub unlabelled : label_now limits.epochs (moments_by round entries w) tid ≡ None
  pub empty : queue_now limits.epochs limits.slots (moments_by round entries w) ≡ []

-- A turn of thread t in a round, of at most so many instructions: which entries it added, and how it ended.
pub record TakesTurn (file : List ℕ) (round tid most : ℕ) (before after : List Entry) (old new : WatchedMachine) (end : TurnEnd) : Type 0 where
  pub added : List Entry
  pub entries_are : after ≡ before ++ added
  pub in_round : (p : Progress) (ds : List Due) → p.round ≡ round → p.era ≡ old.detector.era → list_any (λ (d : Due). d.tid == tid) ds ≡ true → All (IsInRound p ds) added
  pub steps_are : steps_in added ≡ end.steps
  pub steps_by_it : steps_by tid added ≡ end.steps
  pub no_more : end.steps ≤ most
  pub none_added : end.steps ≡ 0 → added ≡ []
  pub some : end.starved ≡ false → 1 ≤ end.steps
  pub limits_stay : new.detector.limits ≡ old.detector.limits
  pub era_stays : new.detector.era ≡ old.detector.era
  pub follows : (limits : Limits) (from : ℕ) → Follows file limits from round before old → Follows file limits from round after new
  pub goes_on : end.starved ≡ false → end.steps < most → GoesOn (bare_of file old.detector.limits.harts) after tid round
  pub starved : end.starved ≡ true → IsStarved file old.detector.limits round tid after new
  pub grown : length (moments_by round after new) ≤ length (moments_by round before old) + 7 * end.steps
