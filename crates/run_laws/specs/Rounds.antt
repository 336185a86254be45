-- Rounds: whose turn it is, how many instructions it gives, and when the run ends.
use Rattle.std.specs.Prelude.{◌≡◌, ◌≢◌, ◌<◌, ◌≤◌, ◌⊎◌, ◌+◌, ◌-◌, ◌/◌, ◌==◌, ◌&&◌, ℕ, min, Bool, true, false, if◌then◌else◌, nat_lt, List, [], ◌∷◌, ◌++◌, map, filter, find, length, take, drop, sum_by, All, slice_get, Option, Some, None, is_none, is_some, option_map, option_to_list}
use Rattle.std.specs.Option.{option_or}
use Rattle.std.specs.List.{list_any}
use Rattle.run_record.specs.declared.entry.Entry.{Entry}
use Rattle.run_record.specs.declared.limits.Limits.{Limits}
use Rattle.run_record.specs.declared.finished.GuestEnd.{GuestEnd}
use Rattle.run_record.specs.declared.finished.GuestEnd.TheVariants.{AllEnded, Budget}
use Rattle.run_record.specs.declared.plan.Turn.{Turn}
use Rattle.run_record.specs.declared.entry.DeskNote.{DeskNote}
use Rattle.run_laws.specs.Numbers.{up_from}
use Rattle.run_laws.specs.Moments.{Notes, Moment, moment_at, moments_in, items}
use Rattle.run_laws.specs.Labels.{label_of, queue}
use Rattle.run_laws.specs.Faithful.{Bare, state_after, state_before, object_of, desk, Mode, OneByOne, AtOnce}

-- How far a run is, before a round: its number and era, the era of the round before, the budget that is left,
-- the turns of the plan that are left, the thread that had the last round, and the history.
pub record Progress : Type 0 where
  pub round : ℕ
  pub era : ℕ
  pub last_era : ℕ
  pub remaining : ℕ
  pub turns : List Turn
  pub last : Option ℕ
  pub entries : List Entry

abbrev pub at_start : Limits → List Turn → Progress
at_start limits plan = record { round = 0; era = 0; last_era = 0; remaining = limits.steps; turns = plan; last = None; entries = [] }

-- the live threads by rising number
abbrev pub live_in : {S : Type 0} → Bare S → S → List ℕ
live_in bare s = filter (bare.lives s) (up_from 0 (bare.threads s))

-- the next live thread after that one in rising cyclic order; after none the least live one
abbrev pub next_live : List ℕ → Option ℕ → Option ℕ
next_live live None = find (λ t. true) live
next_live live (Some last) = option_or (find (nat_lt last) live) (find (λ t. true) live)

-- the plan from the first turn of a live thread on
abbrev pub from_live : (ℕ → Bool) → List Turn → List Turn
from_live lives [] = []
from_live lives (turn ∷ turns) = if lives turn.tid then turn ∷ turns else from_live lives turns

-- How many instructions a thread is given in a round.
pub record Due : Type 0 where
  pub tid : ℕ
  pub given : ℕ

-- one at a time: the plan's next turn, or a quantum of the next live thread, cut to the budget that is left
abbrev pub due_turn : Limits → List ℕ → Option ℕ → ℕ → List Turn → Option Due
due_turn limits live last remaining [] = option_map (λ (t : ℕ). record { tid = t; given = min limits.quantum remaining }) (next_live live last)
due_turn limits live last remaining (turn ∷ turns) = Some (record { tid = turn.tid; given = min turn.steps remaining })

-- at once: each live thread gets the same, at most a quantum and its share of the budget that is left
abbrev pub dues : {S : Type 0} → Mode → Limits → Bare S → Progress → List Due
dues OneByOne limits bare p = let s = state_after bare p.entries in option_to_list (due_turn limits (live_in bare s) p.last p.remaining (from_live (bare.lives s) p.turns))
dues AtOnce limits bare p = let live = live_in bare (state_after bare p.entries) in map (λ (t : ℕ). record { tid = t; given = min limits.quantum (p.remaining / length live) }) live

-- the instructions of the entries
abbrev pub steps_in : List Entry → ℕ
steps_in part = sum_by (λ (e : Entry). e.steps) part

-- the instructions that thread t makes in a round with these entries
abbrev pub steps_by : ℕ → List Entry → ℕ
steps_by t part = steps_in (filter (λ (e : Entry). e.tid == t) part)

-- the moments so far, in the era of the round
abbrev pub moments_with : Progress → List Entry → List Moment
moments_with p part = moments_in p.round p.era (p.entries ++ part)

-- A thread is starved by the round: it made fewer instructions than it was given and lives, its next one
-- needs a slot, and it has none.
abbrev pub is_starved : {S : Type 0} → Limits → Bare S → Progress → List Entry → Due → Bool
is_starved limits bare p part d =
    let s = state_after bare (p.entries ++ part) in
    let h = moments_with p part in
    nat_lt (steps_by d.tid part) d.given && bare.lives s d.tid && bare.needs_slot s d.tid && is_none (label_of limits.epochs (items h) (length h) d.tid)

-- the queue of free slots is empty after the first k entries of the round
abbrev pub IsQueueEmpty : Limits → Progress → List Entry → ℕ → Type 0
IsQueueEmpty limits p part k = let h = moments_with p (take k part) in queue limits.epochs limits.slots (items h) (length h) ≡ []

-- Thread t may find no slot. One at a time the queue is empty at the round's end. At once it is empty at the
-- round's start or after one of its entries, and not before the thread's last entry of the round that used
-- the desk.
abbrev pub MayFindNone : {S : Type 0} → Mode → Limits → Bare S → Progress → List Entry → ℕ → Type 0
MayFindNone OneByOne limits bare p part t = IsQueueEmpty limits p part (length part)
MayFindNone AtOnce limits bare p part t =
    (k : ℕ) × (k ≤ length part) × IsQueueEmpty limits p part k
    × ((j : ℕ) (e : Entry) → slice_get part j ≡ Some e → e.tid ≡ t →
    object_of bare (state_before bare (p.entries ++ part) (length p.entries + j)) e ≡ Some desk → j < k)

-- A thread makes as many instructions as it is given, and fewer only where it ends or is starved.
pub record MakesDue {S : Type 0} (mode : Mode) (limits : Limits) (bare : Bare S) (p : Progress) (part : List Entry) (d : Due) : Type 0 where
  pub no_more : steps_by d.tid part ≤ d.given
  pub fewer :
      steps_by d.tid part < d.given → bare.lives (state_after bare (p.entries ++ part)) d.tid ≡ true →
      (is_starved limits bare p part d ≡ true) × MayFindNone mode limits bare p part d.tid

-- the entries are of the round and its era, and of a thread that is due
pub record IsInRound (p : Progress) (ds : List Due) (e : Entry) : Type 0 where
  pub round : e.round ≡ p.round
  pub era : e.era ≡ p.era
  pub due : list_any (λ (d : Due). d.tid == e.tid) ds ≡ true

-- a round with these entries
pub record IsRound {S : Type 0} (mode : Mode) (limits : Limits) (bare : Bare S) (p : Progress) (part : List Entry) : Type 0 where
  pub entries : All (IsInRound p (dues mode limits bare p)) part
  pub made : All (MakesDue mode limits bare p part) (dues mode limits bare p)

-- the plan after the round's turn
abbrev pub turns_after : {S : Type 0} → Bare S → Progress → List Turn
turns_after bare p = drop 1 (from_live (bare.lives (state_after bare p.entries)) p.turns)

-- the thread that had the round, where threads run one at a time
abbrev pub last_due : List Due → Option ℕ
last_due ds = option_map (λ (d : Due). d.tid) (find (λ (d : Due). true) ds)

-- where a thread was starved the era is one more
abbrev pub after_round : {S : Type 0} → Mode → Limits → Bare S → Progress → List Entry → Progress
after_round mode limits bare p part = record {
  round = p.round + 1;
  era = if list_any (is_starved limits bare p part) (dues mode limits bare p) then p.era + 1 else p.era;
  last_era = p.era;
  remaining = p.remaining - steps_in part;
  turns = turns_after bare p;
  last = last_due (dues mode limits bare p);
  entries = p.entries ++ part;
}

-- how the run ends in this state: by the first exit or fault, or since no thread lives
abbrev pub end_in : {S : Type 0} → Bare S → S → Option GuestEnd
end_in bare s = option_or (bare.ended s) (if is_some (find (λ t. true) (live_in bare s)) then None else Some AllEnded)

-- how far a run may come: it goes on while it hasn't ended and a round gives instructions
pub data Reaches {S : Type 0} (mode : Mode) (limits : Limits) (bare : Bare S) (plan : List Turn) : Progress → Type 0 where
  Start : Reaches mode limits bare plan (at_start limits plan)
  Round :
      (p : Progress) (part : List Entry) → Reaches mode limits bare plan p →
      end_in bare (state_after bare p.entries) ≡ None →
      list_any (λ (d : Due). nat_lt 0 d.given) (dues mode limits bare p) ≡ true →
      IsRound mode limits bare p part → Reaches mode limits bare plan (after_round mode limits bare p part)

-- the run ends there: by the first exit or fault, or since no thread lives; else with the budget spent,
-- before a round that would give no instruction
abbrev pub Ends : {S : Type 0} → Mode → Limits → Bare S → Progress → GuestEnd → Type 0
Ends mode limits bare p end =
    let ended = end_in bare (state_after bare p.entries) in
    (ended ≡ Some end) ⊎ ((ended ≡ None) × (list_any (λ (d : Due). nat_lt 0 d.given) (dues mode limits bare p) ≡ false) × (end ≡ Budget))

-- an instruction that needs a slot is made only by a thread with a label
abbrev pub NeedsLabel : Limits → (ℕ → Bool) → List Moment → Type 0
NeedsLabel limits needs_slot h = (n t : ℕ) (note : DeskNote) → items h n ≡ Notes t note → needs_slot (moment_at h n).entry ≡ true → label_of limits.epochs (items h) n t ≢ None
