-- When a history tells what the bare machine does.
use Rattle.std.specs.Prelude.{◌≡◌, ◌≢◌, ◌<◌, ◌⊎◌, ◌+◌, ◌-◌, ◌==◌, ◌&&◌, ◌||◌, ℕ, zero, suc, max, Bool, true, false, if◌then◌else◌, nat_lt, List, [], ◌++◌, map, filter, fold, take, AllPairs, slice_get, Option, Some, None}
use Rattle.std.specs.List.{list_any, enumerate_from}
use Rattle.std.specs.Option.{option_map_or}
use Rattle.run_record.specs.declared.event.Event.{Event}
use Rattle.run_record.specs.declared.entry.Entry.{Entry}
use Rattle.run_record.specs.declared.entry.DeskNote.TheVariants.{Nothing}
use Rattle.run_record.specs.declared.finished.GuestEnd.{GuestEnd}
use Rattle.run_laws.specs.Numbers.{up_from}

-- What one instruction of a thread does: the state after it, its events, and the object that it uses, if any.
pub record Stepped (S : Type 0) : Type 0 where
  pub state : S
  pub events : List Event
  pub object : Option ℕ

-- A bare machine. Its state tells which threads live, how many were made, whether a thread's next instruction
-- needs a slot, the output, and the first exit or fault.
pub record Bare (S : Type 0) : Type 0 where
  pub start : S
  pub step : S → ℕ → Stepped S
  pub lives : S → ℕ → Bool
  pub threads : S → ℕ
  pub needs_slot : S → ℕ → Bool
  pub output : S → List ℕ
  pub ended : S → Option GuestEnd

-- the objects 0 to 63 are the stripes of memory
abbrev pub desk : ℕ
desk = 64

-- the state after n instructions of thread t
abbrev pub after : {S : Type 0} → Bare S → S → ℕ → ℕ → S
after bare s t zero = s
after bare s t (suc n) = (bare.step (after bare s t n) t).state

-- and their events
abbrev pub events_made : {S : Type 0} → Bare S → S → ℕ → ℕ → List Event
events_made bare s t zero = []
events_made bare s t (suc n) = events_made bare s t n ++ (bare.step (after bare s t n) t).events

-- the state after the entries
abbrev pub state_after : {S : Type 0} → Bare S → List Entry → S
state_after {S} bare entries = fold (λ (s : S) (e : Entry). after bare s e.tid e.steps) bare.start entries

-- the state before entry i
abbrev pub state_before : {S : Type 0} → Bare S → List Entry → ℕ → S
state_before bare entries i = state_after bare (take i entries)

-- Entries are in the order of their stamps, and of threads where stamps are equal.
abbrev pub Precedes : Entry → Entry → Type 0
Precedes d e = (d.stamp < e.stamp) ⊎ ((d.stamp ≡ e.stamp) × (d.tid < e.tid))

-- from state s the entry's thread lives at each of its steps, and its events are theirs
pub record IsMade {S : Type 0} (bare : Bare S) (s : S) (e : Entry) : Type 0 where
  pub alive : (k : ℕ) → k < e.steps → bare.lives (after bare s e.tid k) e.tid ≡ true
  pub events_are : e.events ≡ events_made bare s e.tid e.steps

-- the object of an entry: that of its last step; without steps it takes or leaves a slot, at the desk
abbrev pub object_of : {S : Type 0} → Bare S → S → Entry → Option ℕ
object_of bare s e = if e.steps == 0 then Some desk else (bare.step (after bare s e.tid (e.steps - 1)) e.tid).object

-- no later entry of the round has a step of its thread
abbrev pub EndsItsPart : List Entry → ℕ → Entry → Type 0
EndsItsPart entries i e = (j : ℕ) (f : Entry) → i < j → slice_get entries j ≡ Some f → f.tid ≡ e.tid → f.round ≡ e.round → f.steps ≡ 0

-- One turn: only the last step uses an object, and it does unless it ends its thread's part of the round. An
-- entry without steps has a note and nothing else; every other one has none.
pub record IsOneTurn {S : Type 0} (bare : Bare S) (entries : List Entry) (i : ℕ) (e : Entry) : Type 0 where
  pub apart :
      (k : ℕ) → k + 1 < e.steps →
      (bare.step (after bare (state_before bare entries i) e.tid k) e.tid).object ≡ None
  pub last : 0 < e.steps → (object_of bare (state_before bare entries i) e ≢ None) ⊎ EndsItsPart entries i e
  pub noted : e.steps ≡ 0 → (e.note ≢ Nothing) × (e.events ≡ []) × (e.checks ≡ [])
  pub unnoted : 0 < e.steps → e.note ≡ Nothing

-- both use an object, and the same one
abbrev pub is_same_object : Option ℕ → Option ℕ → Bool
is_same_object (Some o) (Some p) = o == p
is_same_object _ _ = false

-- Entry j stands in an earlier round than entry i, is of the same thread, or used the same object in that round.
abbrev pub is_seen_by : {S : Type 0} → Bare S → List Entry → ℕ → Entry → ℕ × Entry → Bool
is_seen_by bare entries i e (j, f) =
    nat_lt f.round e.round || (f.tid == e.tid) || ((f.round == e.round) && is_same_object (object_of bare (state_before bare entries j) f) (object_of bare (state_before bare entries i) e))

-- the greatest stamp among the entries before entry i that it has seen, or 0
abbrev pub stamp_seen : {S : Type 0} → Bare S → List Entry → ℕ → Entry → ℕ
stamp_seen bare entries i e = fold max 0 (map (λ (f : ℕ × Entry). f.1.stamp) (filter (is_seen_by bare entries i e) (enumerate_from 0 (take i entries))))

-- How the threads run: one at a time by a plan, or all at once in rounds.
pub data Mode : Type 0 where
  OneByOne : Mode
  AtOnce : Mode

-- one at a time the entries are numbered from 1; at once each stamp is the least above those that its entry has seen
abbrev pub IsStamped : {S : Type 0} → Mode → Bare S → List Entry → ℕ → Entry → Type 0
IsStamped OneByOne bare entries i e = e.stamp ≡ i + 1
IsStamped AtOnce bare entries i e = e.stamp ≡ stamp_seen bare entries i e + 1

-- The history tells what the bare machine does.
pub record IsFaithful {S : Type 0} (mode : Mode) (bare : Bare S) (entries : List Entry) : Type 0 where
  pub ordered : AllPairs Precedes entries
  pub made : (i : ℕ) (e : Entry) → slice_get entries i ≡ Some e → IsMade bare (state_before bare entries i) e
  pub turns : (i : ℕ) (e : Entry) → slice_get entries i ≡ Some e → IsOneTurn bare entries i e
  pub stamped : (i : ℕ) (e : Entry) → slice_get entries i ≡ Some e → IsStamped mode bare entries i e

-- an instruction of the entry, from state s on, needs a slot
abbrev pub has_needy : {S : Type 0} → Bare S → S → Entry → Bool
has_needy bare s e = list_any (λ (k : ℕ). bare.needs_slot (after bare s e.tid k) e.tid) (up_from 0 e.steps)

-- entry i has an instruction that needs a slot
abbrev pub needs_slot : {S : Type 0} → Bare S → List Entry → ℕ → Bool
needs_slot bare entries i = option_map_or (has_needy bare (state_before bare entries i)) (slice_get entries i) false
