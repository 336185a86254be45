-- The words of a trace event.
use Rattle.std.specs.Prelude.{◌≡◌, ℕ, ◌+◌, ◌-◌, ◌*◌, ◌/◌, ◌%◌, ◌^◌, ◌==◌, ◌≤◌, ◌&&◌, ◌||◌, Bool, true, nat_lt, nat_le, if◌then◌else◌, List, [], ◌∷◌, ◌++◌, drop, nat_eq, Option, Some, None, length, slice_index}
use Rattle.std.specs.Option.{option_map}
use Rattle.std.specs.List.{starts_with}
use Rattle.run_record.specs.declared.event.Event.TheVariants as events
use Rattle.run_laws.specs.Window as window
use Rattle.run_laws.specs.Window.{Labelled, Traced, distance, is_short}
use Rattle.run_laws.specs.Words.{bit}
use Rattle.trace_parts.specs.declared.event.TraceEvent.{TraceEvent}
use Rattle.trace_parts.specs.declared.event.TraceEvent.TheVariants.{Access, Enter, Leave, Lock, Unlock, Label}

-- the event as the definitions of a thread's trace have it
abbrev pub told : TraceEvent → window.TraceEvent
told (Access place addr size read atomic) = Traced (events.Access place addr size read atomic)
told (Enter pc) = Traced (events.Enter pc)
told Leave = Traced events.Leave
told (Lock addr read) = Traced (events.Lock addr read)
told (Unlock addr read) = Traced (events.Unlock addr read)
told (Label sid epoch era) = Labelled (record { sid = sid; epoch = epoch; era = era })

-- What may be traced: accesses of at most 65,536 bytes, epochs of at most 16,383, and all else.
abbrev pub IsTraceable : TraceEvent → Type 0
IsTraceable (Access place addr size read atomic) = size ≤ 65536
IsTraceable (Label sid epoch era) = epoch ≤ 16383
IsTraceable _ = Unit {0}

-- the event is so, and its place and its slot are in the ranges of their types
abbrev pub is_traceable : TraceEvent → Bool
is_traceable (Access place addr size read atomic) = nat_le size 65536 && nat_lt place (2 ^ 64)
is_traceable (Label sid epoch era) = nat_lt sid (2 ^ 8) && nat_le epoch 16383
is_traceable _ = true

-- 1, 2, 4 and 8 as powers of 2
abbrev pub power_of : ℕ → ℕ
power_of size = if size == 1 then 0 else if size == 2 then 1 else if size == 4 then 2 else 3

-- the first word of an access in one word, and of one in three
abbrev pub short_word : ℕ → ℕ → ℕ → ℕ → Bool → Bool → ℕ
short_word previous place addr size read atomic =
    1 + bit read * 2 ^ 3 + bit atomic * 2 ^ 4 + power_of size * 2 ^ 5 + distance previous place / 4 * 2 ^ 7 + addr * 2 ^ 23

abbrev pub long_word : ℕ → Bool → Bool → ℕ
long_word size read atomic = 2 + bit read * 2 ^ 3 + bit atomic * 2 ^ 4 + size * 2 ^ 8

abbrev pub lock_word : ℕ → Bool → ℕ
lock_word kind read = kind + bit read * 2 ^ 3

abbrev pub label_word : ℕ → ℕ → ℕ → ℕ
label_word sid epoch era = 7 + sid * 2 ^ 8 + epoch * 2 ^ 16 + era * 2 ^ 32

-- The words of an event, where `previous` is the place of the last access in the same part, or 0 at its
-- beginning. The low three bits of the first are the kind; then come the fields, each at its bit.
unfoldable pub spelling : ℕ → TraceEvent → List ℕ
spelling previous (Access place addr size read atomic) =
    if is_short previous place addr size
    then short_word previous place addr size read atomic ∷ []
    else long_word size read atomic ∷ place ∷ addr ∷ []
spelling previous (Enter pc) = 3 ∷ pc ∷ []
spelling previous Leave = 4 ∷ []
spelling previous (Lock addr read) = lock_word 5 read ∷ addr ∷ []
spelling previous (Unlock addr read) = lock_word 6 read ∷ addr ∷ []
spelling previous (Label sid epoch era) = label_word sid epoch era ∷ []

-- count bits of a word from one on
abbrev pub bits : ℕ → ℕ → ℕ → ℕ
bits word from count = word / 2 ^ from % 2 ^ count

abbrev pub flag : ℕ → ℕ → Bool
flag word at = bits word at 1 == 1

-- the place that has that distance from the previous one
abbrev pub place_from : ℕ → ℕ → ℕ
place_from previous distance = (previous + distance + (2 ^ 64 - 131072)) % 2 ^ 64

abbrev pub short_in : ℕ → ℕ → TraceEvent
short_in previous w = Access (place_from previous (bits w 7 16 * 4)) (w / 2 ^ 23) (2 ^ bits w 5 2) (flag w 3) (flag w 4)

abbrev pub long_in : ℕ → List ℕ → Option TraceEvent
long_in w (place ∷ addr ∷ _) = Some (Access place addr (bits w 8 17) (flag w 3) (flag w 4))
long_in w _ = None

-- an event whose second word is its number
abbrev pub with_second : (ℕ → TraceEvent) → List ℕ → Option TraceEvent
with_second make [] = None
with_second make (x ∷ _) = Some (make x)

abbrev pub label_in : ℕ → TraceEvent
label_in w = Label (bits w 8 8) (bits w 16 14) (w / 2 ^ 32)

-- what the first word and those behind it have in their fields, whatever stands in the other bits
unfoldable pub fields_in : ℕ → ℕ → List ℕ → Option TraceEvent
fields_in previous w rest =
    if bits w 0 3 == 1 then Some (short_in previous w) else
    if bits w 0 3 == 2 then long_in w rest else
    if bits w 0 3 == 3 then with_second Enter rest else
    if bits w 0 3 == 4 then Some Leave else
    if bits w 0 3 == 5 then with_second (λ (a : ℕ). Lock a (flag w 3)) rest else
    if bits w 0 3 == 6 then with_second (λ (a : ℕ). Unlock a (flag w 3)) rest else
    if bits w 0 3 == 7 then Some (label_in w) else None

abbrev pub fields_at : ℕ → List ℕ → Option TraceEvent
fields_at previous [] = None
fields_at previous (w ∷ rest) = fields_in previous w rest

-- the kind of the event with whose words these begin
abbrev pub kind_of : List ℕ → ℕ
kind_of words = bits (slice_index words 0) 0 3

-- how many words an event of that kind takes
abbrev pub words_of_kind : ℕ → ℕ
words_of_kind kind = if kind == 2 then 3 else if (kind == 3) || (kind == 5) || (kind == 6) then 2 else 1

-- the event, where it may be traced and the words begin with its own
abbrev pub if_spelled : ℕ → List ℕ → Option TraceEvent → Option TraceEvent
if_spelled previous words None = None
if_spelled previous words (Some e) = if is_traceable e && starts_with nat_eq words (spelling previous e) then Some e else None

-- the event with whose words these begin
unfoldable pub event_at : ℕ → List ℕ → Option TraceEvent
event_at previous words = if_spelled previous words (fields_at previous words)

-- and how many words it takes
abbrev pub decoded : ℕ → List ℕ → Option (TraceEvent × ℕ)
decoded previous words = option_map (λ (e : TraceEvent). (e, length (spelling previous e))) (event_at previous words)

-- The words begin with those of the event, which may be traced, and it takes so many.
pub record IsSpelledAt (previous : ℕ) (e : TraceEvent) (count : ℕ) (words : List ℕ) : Type 0 where
  pub traceable : IsTraceable e
  pub taken : count ≡ length (spelling previous e)
  pub begins : words ≡ spelling previous e ++ drop count words
