-- What one event of a thread does to its own label and clock and to those at a place, and how a thread takes a slot.
use Rattle.std.specs.Prelude.{ℕ, ◌+◌, max, ◌==◌, ◌&&◌, ◌||◌, nat_lt, if◌then◌else◌, List, [], ◌∷◌, ◌++◌, Option, Some, None}
use Rattle.run_record.specs.declared.event.Event.{Event}
use Rattle.run_record.specs.declared.event.Event.TheVariants.{Begin, Create, End, Join, Acquire, Release, Destroy, Clear}
use Rattle.run_record.specs.declared.entry.DeskNote.TheVariants.{Nothing, Attach, Leave}
use Rattle.run_record.specs.declared.entry.Label.{Label}
use Rattle.run_laws.specs.Moments.{Item, Does, Notes}
use Rattle.run_laws.specs.HappensBefore.{ends_channel}
use Rattle.run_laws.specs.Labels.{is_end, raises}
use Rattle.run_laws.specs.Clocks.{Channel, left_at, is_place}
use Rattle.turn_orders.specs.Machine.{Outcome, State, Turn, but}
use Rattle.place_clocks.specs.Places.{Clock, no_clock, Own, Stripe, Desk, Value, of_stripe, of_desk, stripe_in, desk_in, desk_of, first_value}

-- A thread makes an event, takes a slot, or begins an entry without a note or with that of a label that it left.
pub data Act : Type 0 where
  does : Event → Act
  attaches : Act
  begins : Act
  leaves : Label → Act

-- ---- the thread's own

-- its label after an event, where g is the greatest epoch: none after its End, nor where that epoch is over
abbrev pub label_after : ℕ → Option Label → Event → Option Label
label_after g None e = None
label_after g (Some l) e =
    if is_end e then None
    else if (raises e == 0) || nat_lt l.epoch g then Some (record l { epoch = l.epoch + (if nat_lt l.epoch g then raises e else 0) })
    else None

-- by how much the event raises its epoch of slot s
abbrev pub raised_by : ℕ → Option Label → Event → ℕ → ℕ
raised_by g None e s = 0
raised_by g (Some l) e s = if (l.sid == s) && nat_lt l.epoch g then raises e else 0

abbrev pub clock_or_none : Option Clock → Clock
clock_or_none None = no_clock
clock_or_none (Some c) = c

-- the clock that it takes in by the event
abbrev pub taken : Event → Own → Value → Clock
taken Begin o v = clock_or_none o.given
taken (Join child) o v = (desk_in v).ended child
taken (Acquire addr part) o v = (stripe_in v).channel addr part
taken _ o v = no_clock

abbrev pub own_after : ℕ → Event → Own → Value → Own
own_after g e o v = record { label = label_after g o.label e; clock = λ s. max (o.clock s) (taken e o v s) + raised_by g o.label e s; given = o.given }

-- ---- the place

-- what a Release, a Clear or a Destroy makes of a stripe's channels, by a thread with this clock
abbrev pub stripe_after : ℕ → Event → Clock → Stripe → Stripe
stripe_after t e clock x = record {
  channel = λ a p s. max (if ends_channel a p e then 0 else x.channel a p s) (if is_place (left_at t e) (Channel a p) then clock s else 0);
}

abbrev pub joined : Clock → Clock → Clock
joined c d s = max (c s) (d s)

-- an End gives the slot back, unless its epoch was the greatest, with the thread's clock
abbrev pub slot_left : ℕ → Option Label → Clock → Desk → Desk
slot_left g None clock d = d
slot_left g (Some l) clock d = record d {
  queue = if nat_lt l.epoch g then d.queue ++ l.sid ∷ [] else d.queue;
  last = but d.last l.sid l.epoch;
  left = but d.left l.sid clock;
}

abbrev pub ended_after : ℕ → Clock → Desk → Desk
ended_after t clock d = record d { ended = but d.ended t (joined (d.ended t) clock) }

abbrev pub value_after : ℕ → ℕ → Event → Own → Value → Value
value_after g t (Release addr part replaces) o v = of_stripe (stripe_after t (Release addr part replaces) o.clock (stripe_in v))
value_after g t (Destroy addr) o v = of_stripe (stripe_after t (Destroy addr) o.clock (stripe_in v))
value_after g t (Clear addr) o v = of_stripe (stripe_after t (Clear addr) o.clock (stripe_in v))
value_after g t (Create child) o v = of_desk (record (desk_in v) { given = but (desk_in v).given child (joined ((desk_in v).given child) o.clock) })
value_after g t End o v = of_desk (ended_after t o.clock (slot_left g o.label o.clock (desk_in v)))
value_after g t _ o v = v

-- ---- turns

-- a thread takes what was left for it, the first time
abbrev pub given_after : ℕ → Option Clock → Desk → Option Clock
given_after t None d = Some (d.given t)
given_after t (Some c) d = Some c

-- It takes the slot at the queue's front in a new epoch, and takes in what the last owner left. Where the queue is empty
-- nothing happens.
abbrev pub attached : ℕ → Own → Desk → List ℕ → Value → Outcome Own Value (List Item)
attached t o d [] v = record { local = o; value = v; told = [] }
attached t o d (s ∷ rest) v =
    let label : Label = record { sid = s; epoch = d.last s + 1; era = d.era } in
    record {
      local = record { label = Some label; clock = λ r. if r == s then d.last s + 1 else max (o.clock r) (d.left s r); given = given_after t o.given d };
      value = of_desk (record d { queue = rest });
      told = Notes t (Attach label) ∷ [];
    }

-- The turn of a thread, where g is the greatest epoch. It tells what happens, as histories have it.
abbrev pub clock_turn : ℕ → Turn Own Value Act (List Item)
clock_turn g t (does e) o v = record { local = own_after g e o v; value = value_after g t e o v; told = Does t e ∷ [] }
clock_turn g t attaches o v = attached t o (desk_in v) (desk_in v).queue v
clock_turn g t begins o v = record { local = o; value = v; told = Notes t Nothing ∷ [] }
clock_turn g t (leaves l) o v = record { local = o; value = v; told = Notes t (Leave l) ∷ [] }

-- ---- a new era

-- all labels and clocks are lost
abbrev pub given_lost : Option Clock → Option Clock
given_lost None = None
given_lost (Some c) = Some no_clock

abbrev pub own_lost : Own → Own
own_lost o = record { label = None; clock = no_clock; given = given_lost o.given }

-- the places begin anew
abbrev pub era_after : ℕ → State Own Value → State Own Value
era_after slots m = record { local = λ t. own_lost (m.local t); value = first_value ((desk_of m).era + 1) slots }

-- ---- the first state

abbrev pub first_own : Own
first_own = record { label = None; clock = no_clock; given = None }

abbrev pub first_state : ℕ → State Own Value
first_state slots = record { local = λ t. first_own; value = first_value 0 slots }
