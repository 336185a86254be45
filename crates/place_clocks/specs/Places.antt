-- What each thread keeps of labels and clocks, and what each place has.
use Rattle.std.specs.Prelude.{ℕ, ◌==◌, nat_lt, if◌then◌else◌, List, [], Option}
use Rattle.run_record.specs.declared.event.Part.{Part}
use Rattle.run_record.specs.declared.entry.Label.{Label}
use Rattle.run_laws.specs.Numbers.{up_from}
use Rattle.bare_machine.specs.Memory.{stripe}
use Rattle.bare_machine.specs.Step.{desk}
use Rattle.turn_orders.specs.Machine.{State}

-- A clock has an epoch for each slot.
abbrev pub Clock : Type 0
Clock = ℕ → ℕ

abbrev pub no_clock : Clock
no_clock s = 0

-- A thread's own: its label, its clock, and the clock that its creator left for it, once it has taken that from the desk.
pub record Own : Type 0 where
  pub label : Option Label
  pub clock : Clock
  pub given : Option Clock

-- A stripe of memory has the clocks of the channels of its addresses.
pub record Stripe : Type 0 where
  pub channel : ℕ → Part → Clock

-- The desk: the era, the queue of free slots, of each of these the last epoch and the clock that was left, the clocks that
-- creators left for their threads, and those of threads that ended.
pub record Desk : Type 0 where
  pub era : ℕ
  pub queue : List ℕ
  pub last : ℕ → ℕ
  pub left : ℕ → Clock
  pub given : ℕ → Clock
  pub ended : ℕ → Clock

-- the value of a place
pub data Value : Type 0 where
  of_stripe : Stripe → Value
  of_desk : Desk → Value
  of_nobody : Value

-- the stripe that a value is, and an empty one of another value; and the same of the desk
abbrev pub stripe_in : Value → Stripe
stripe_in (of_stripe s) = s
stripe_in _ = record { channel = λ a p s. 0 }

abbrev pub first_desk : ℕ → List ℕ → Desk
first_desk era queue = record { era = era; queue = queue; last = λ s. 0; left = λ s r. 0; given = λ t r. 0; ended = λ t r. 0 }

abbrev pub desk_in : Value → Desk
desk_in (of_desk d) = d
desk_in _ = first_desk 0 []

-- the clocks of an address's channels are at its stripe; places are numbered as in `place_turns`
abbrev pub channel_of : State Own Value → ℕ → Part → Clock
channel_of m a p = (stripe_in (m.value (stripe a))).channel a p

abbrev pub desk_of : State Own Value → Desk
desk_of m = desk_in (m.value desk)

-- the first value of each place in an era, of so many slots
abbrev pub first_value : ℕ → ℕ → ℕ → Value
first_value era slots k =
    if k == desk then of_desk (first_desk era (up_from 0 slots))
    else if nat_lt k desk then of_stripe (record { channel = λ a p s. 0 })
    else of_nobody
