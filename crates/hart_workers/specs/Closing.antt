-- The turn of the desk behind a round, and what it changes.
use Rattle.std.specs.Prelude.{◌≡◌, ◌↔◌, ◌<◌, ◌+◌, ◌-◌, ◌++◌, max, ℕ, Bool, if◌then◌else◌, List, Option, IsPermutation}
use Rattle.run_record.specs.declared.entry.Entry.{Entry}
use Rattle.run_record.specs.declared.limits.Limits.{Limits}
use Rattle.run_record.specs.Order.{AreOrdered, entries_in}
use Rattle.run_laws.specs.Reports.{Kept}
use Rattle.run_laws.specs.Rounds.{steps_in}
use Rattle.bare_machine.specs.Step.{desk}
use Rattle.report_laws.specs.Awaited.{Awaited}
use Rattle.turn_orders.specs.Lists.{Each, In}
use Rattle.shared_table.specs.declared.object.DeskState.{DeskState}
use Rattle.shared_table.specs.declared.object.Object.{Object}
use Rattle.shared_table.specs.declared.object.Object.TheVariants.{Stripe, Desk}
use Rattle.shared_table.specs.Past.{IsDeskOf, HasThreads}
use Rattle.shared_table.specs.Steps.{Mine}
use Rattle.shared_table.specs.Seats.{Took, Gave}
use Rattle.table_deeds.specs.Listing.{AreApart}
use Rattle.table_deeds.specs.Rounds.{greatest_in, next_desk}
use Rattle.hart_turns.specs.declared.slots.ThreadState.{ThreadState}
use Rattle.whole_parts.specs.Dues.{HasDesk, LivesBy}
use Rattle.hart_workers.specs.Tells.{CanTell, TellsReports}
use Rattle.hart_workers.specs.declared.reading.Reading.{Reading}
use Rattle.hart_workers.specs.declared.rounds.Rounds.{Rounds}
use Rattle.hart_workers.specs.Reading.{HasRead}

-- ---- reading

-- These are the threads below that number that live by the desk.
pub record AreLivingBelow (d : DeskState) (n : ℕ) (live : List ℕ) : Type 0 where
  pub living : (t : ℕ) → In t live ↔ ((t < n) × LivesBy d t)
  pub apart : AreApart live
  pub born : Each (λ (t : ℕ). t < d.desk.made) live

-- ---- the desk

-- the object is the desk of a run with these limits
abbrev pub IsDeskIn : Limits → Object → Type 0
IsDeskIn limits (Stripe s) = ⊥
IsDeskIn limits (Desk d) = IsDeskOf limits d.value.desk × HasThreads d.value

-- by the desk that the object is, and these states, each access that waits can be told
abbrev pub CanTellBy : List ℕ → List (Option ThreadState) → Object → List Awaited → Type 0
CanTellBy file states x awaited = (d : DeskState) → HasDesk x d → CanTell file states d.desk awaited

-- The reports of what waits for a round's end were told by the desk d and these states. Then an era began at the desk, if one does
-- after the round. Then the desk, which was e, was read.
pub record EndsBy (meets : Option (List ℕ) → Option (List ℕ) → Bool) (file : List ℕ) (limits : Limits) (states : List (Option ThreadState))
    (awaited : List Awaited) (ends : Bool) (remaining : ℕ) (before after : Kept) (d e : DeskState) (r : Reading) : Type 0 where
  pub tells : TellsReports meets file states d.desk awaited before after
  pub next : e ≡ next_desk ends d
  pub read : HasRead limits remaining e r

-- the same of objects that are the desk
abbrev pub EndsIn : (Option (List ℕ) → Option (List ℕ) → Bool) → List ℕ → Limits → List (Option ThreadState) → List Awaited → Bool → ℕ →
    Kept → Kept → Object → Object → Reading → Type 0
EndsIn meets file limits states awaited ends remaining before after (Desk d) (Desk e) r =
    EndsBy meets file limits states awaited ends remaining before after d.value e.value r
EndsIn meets file limits states awaited ends remaining before after _ _ r = ⊥

-- A turn of the desk in which that was done.
pub record EndsInTurn (meets : Option (List ℕ) → Option (List ℕ) → Bool) (file : List ℕ) (limits : Limits)
    (states : List (Option ThreadState)) (awaited : List Awaited) (ends : Bool) (remaining : ℕ) (before after : Kept) (me me' : Mine)
    (r : Reading) : Type 0 where
  pub found : Object
  pub left : Object
  pub within : Mine
  pub took : Took desk me found within
  pub gave : Gave within left me'
  pub ended : EndsIn meets file limits states awaited ends remaining before after found left r

-- ---- the numbers

-- What is kept behind a round with these entries, but for threads and what was read.
pub record GoesOn (entries : List Entry) (ends : Bool) (old new : Rounds) : Type 0 where
  pub entries_are : new.entries ≡ old.entries ++ entries
  pub round : new.round ≡ old.round + 1
  pub era : new.era ≡ (if ends then old.era + 1 else old.era)
  pub last_era : new.last_era ≡ old.era
  pub base : new.base ≡ max old.base (greatest_in entries)
  pub remaining : new.remaining ≡ old.remaining - steps_in entries

-- The same behind a round with these logs, whose entries were merged in order.
pub record GoesOnBy (logs : List (List Entry)) (ends : Bool) (old new : Rounds) : Type 0 where
  pub entries : List Entry
  pub same : IsPermutation (entries_in logs) entries
  pub ordered : AreOrdered entries
  pub onward : GoesOn entries ends old new
