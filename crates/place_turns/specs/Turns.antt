-- One turn of a thread at one place.
use Rattle.std.specs.Prelude.{ℕ, ◌||◌, ◌&&◌, ◌==◌, nat_le, Bool, true, false, if◌then◌else◌, List, [], ◌∷◌, ◌++◌, length, take, count_by, slice_get, slice_set, Option, Some, None, is_some, option_map, unwrap_or}
use Rattle.std.specs.Int.{w64, to_le_bytes}
use Rattle.run_record.specs.declared.event.Event.{Event}
use Rattle.run_record.specs.declared.event.Event.TheVariants.{End}
use Rattle.run_record.specs.declared.finished.GuestEnd.{GuestEnd}
use Rattle.rv_decode.specs.declared.instr.Instr.{Instr}
use Rattle.rv_exec.specs.declared.exec.Effect.{Effect}
use Rattle.rv_exec.specs.declared.exec.Effect.TheVariants.{Reserve, Conditional}
use Rattle.rv_exec.specs.Meaning.{finished_by}
use Rattle.guest_memory.specs.Fields.{field, with_field}
use Rattle.guest_memory.specs.Reservations.{stands, without_granule, without_thread, with_reservation}
use Rattle.entry_calls.specs.declared.call.Call.{Call}
use Rattle.entry_calls.specs.declared.call.Call.TheVariants as calls
use Rattle.entry_calls.specs.Effects.{events_by, word_by, answer_by}
use Rattle.bare_machine.specs.declared.thread.Thread.{Thread}
use Rattle.bare_machine.specs.declared.touch.Touched.{Touched}
use Rattle.bare_machine.specs.Memory.{offset, touched}
use Rattle.bare_machine.specs.World.{new_thread}
use Rattle.bare_machine.specs.Requests.{Request, done, returned, touch, operate, put, create, join, stop, request}
use Rattle.bare_machine.specs.Step.{first_events, first_of, answered, depth_after, outcome, minus, with_registers}
use Rattle.turn_orders.specs.Machine.{Outcome, Turn, but}
use Rattle.place_turns.specs.Places.{Local, Stripe, Desk, Value, of_stripe, of_desk, stripe_in, desk_in, reserves}

-- what a turn leaves and which events it tells
abbrev pub Turned : Type 0
Turned = Outcome Local Value (List Event)

-- the thread goes on with these events and leaves this value
abbrev pub goes_on : Local → Thread → List Event → Value → Turned
goes_on l x es v = record { local = record l { thread = Some (record x { began = true }) }; value = v; told = first_events x ++ es }

-- ---- memory

-- the thread's reservation of granule n of the stripe stands
abbrev pub holds : Local → Stripe → ℕ → ℕ → Bool
holds l s t n = reserves l.reserved n && stands s.reservations t n

-- the granule that the thread reserved last, after an instruction touched granule n
abbrev pub reserved_after : Option ℕ → ℕ → Effect → Option ℕ
reserved_after last n (Reserve a size) = Some n
reserved_after last n (Conditional a size v) = None
reserved_after last n _ = last

-- LR reserves the granule; SC ends the thread's own reservation, whether it writes or not
abbrev pub stripe_reserved : Stripe → ℕ → ℕ → Effect → Stripe
stripe_reserved s t n (Reserve a size) = record s { reservations = with_reservation s.reservations t n }
stripe_reserved s t n (Conditional a size v) = record s { reservations = without_thread s.reservations t }
stripe_reserved s t n _ = s

-- a write to granule n ends all reservations of it
abbrev pub stripe_written : Stripe → ℕ → Option ℕ → Stripe
stripe_written s n None = s
stripe_written s n (Some word) = record { words = but s.words n word; reservations = without_granule s.reservations n }

abbrev pub touch_turn : ℕ → Local → Stripe → Thread → Instr → Effect → ℕ → Touched → Turned
touch_turn t l s x i effect n made =
    goes_on (record l { reserved = reserved_after l.reserved n effect }) (with_registers x (finished_by i.op i x.regs made.value)) []
    (of_stripe (stripe_written (stripe_reserved s t n effect) n made.written))

-- an atomic call that found this word
abbrev pub operate_turn : Local → Stripe → Thread → Call → ℕ → ℕ → ℕ → ℕ → Turned
operate_turn l s x call addr size n word =
    let old = field word (offset addr) size in
    let stored = word_by call old in
    goes_on l (answered x (answer_by call old)) (events_by call (outcome x (is_some stored) 0))
    (of_stripe (stripe_written s n (option_map (with_field word (offset addr) size) stored)))

-- ---- the desk

-- a call is done, with this answer
abbrev pub returns : Local → Thread → Call → ℕ → Desk → Turned
returns l x call answer d = goes_on l (answered x (Some answer)) (events_by call (outcome x false answer)) (of_desk d)

abbrev pub put_turn : Local → Desk → Thread → ℕ → ℕ → Turned
put_turn l d x word count = returns l x (calls.Put word count) 0 (record d { output = d.output ++ take count (to_le_bytes w64 word) })

-- as many threads live as may, or as many were made as can be
abbrev pub is_full : ℕ → Desk → Bool
is_full harts d = nat_le harts (count_by (λ (living : Bool). living) d.lives) || (length d.made == 1024)

-- the new thread gets the next number
abbrev pub create_turn : Local → Desk → Thread → ℕ → ℕ → ℕ → Bool → Turned
create_turn l d x pc argument stack full =
    if full then returns l x (calls.Create pc argument stack) (minus 11) d
    else returns l x (calls.Create pc argument stack) (length d.made) (record d { made = d.made ++ new_thread pc argument stack ∷ []; lives = d.lives ++ true ∷ [] })

-- 0 of a thread that ended, and else whether it lives or there is none
abbrev pub join_answer : Option Bool → ℕ
join_answer None = minus 3
join_answer (Some living) = if living then minus 16 else 0

abbrev pub join_turn : Local → Desk → Thread → ℕ → Turned
join_turn l d x n = returns l x (calls.Join n) (join_answer (slice_get d.lives n)) d

-- the thread ends, and with it the run where this is its first exit or fault
abbrev pub stop_turn : ℕ → Local → Desk → Thread → Option GuestEnd → Turned
stop_turn t l d x end =
    record {
      local = record l { thread = Some (record x { lives = false; began = true }) };
      value = of_desk (record d { lives = slice_set d.lives t false; ended = first_of d.ended end });
      told = first_events x ++ End ∷ [];
    }

-- ---- turns

-- what the request of thread x comes to, where so many threads may live
abbrev pub served : ℕ → ℕ → Local → Value → Thread → Request → Turned
served harts t l v x (done r) = goes_on l (with_registers x r) [] v
served harts t l v x (returned call answer object) = goes_on l (record (answered x answer) { depth = depth_after call x.depth }) (events_by call (outcome x false (unwrap_or answer 0))) v
served harts t l v x (touch i effect addr n) = touch_turn t l (stripe_in v) x i effect n (touched i.op effect ((stripe_in v).words n) (holds l (stripe_in v) t n))
served harts t l v x (operate call addr size n) = operate_turn l (stripe_in v) x call addr size n ((stripe_in v).words n)
served harts t l v x (put word count) = put_turn l (desk_in v) x word count
served harts t l v x (create pc argument stack) = create_turn l (desk_in v) x pc argument stack (is_full harts (desk_in v))
served harts t l v x (join n) = join_turn l (desk_in v) x n
served harts t l v x (stop end) = stop_turn t l (desk_in v) x end

-- a thread arrives at the desk, or makes one instruction
pub data Act : Type 0 where
  arrives : Act
  steps : Act

-- a thread that arrives takes itself from the desk as it was made, unless it did before
abbrev pub arrived : ℕ → Local → Desk → Option Thread → Local
arrived t l d None = record l { thread = slice_get d.made t }
arrived t l d (Some x) = l

-- one instruction of the thread; a thread that hasn't arrived does nothing
abbrev pub stepped : List ℕ → ℕ → ℕ → Local → Value → Option Thread → Turned
stepped file harts t l v None = record { local = l; value = v; told = [] }
stepped file harts t l v (Some x) = served harts t l v x (request file t x)

-- The turn of a thread of the file's machine, of whose threads so many may live.
abbrev pub bare_turn : List ℕ → ℕ → Turn Local Value Act (List Event)
bare_turn file harts t arrives l v = record { local = arrived t l (desk_in v) l.thread; value = v; told = [] }
bare_turn file harts t steps l v = stepped file harts t l v l.thread
