-- Labels: which thread holds which slot, in which epoch and era; and the queue of free slots.
use Rattle.std.specs.Prelude.{ℕ, zero, suc, ◌+◌, ◌==◌, if◌then◌else◌, Bool, true, false, ◌&&◌, ◌||◌, Option, Some, None, nat_lt, is_none, List, [], ◌∷◌, ◌++◌, drop, option_map}
use Rattle.run_record.specs.declared.event.Event.{Event}
use Rattle.run_record.specs.declared.event.Event.TheVariants.{Create, End, Release}
use Rattle.run_record.specs.declared.entry.DeskNote.TheVariants.{Attach}
use Rattle.run_record.specs.declared.entry.Label.{Label}
use Rattle.run_laws.specs.Numbers.{up_from}
use Rattle.run_laws.specs.Moments.{Item, Does, Notes, NewEra}

-- who holds which slot, which slots may be taken, and each slot's last epoch
pub record Labels : Type 0 where
  pub era : ℕ
  pub slot_of : ℕ → Option ℕ
  pub free : ℕ → Bool
  pub epoch : ℕ → ℕ

abbrev pub holds : Option ℕ → ℕ → Bool
holds None s = false
holds (Some r) s = r == s

abbrev pub is_end : Event → Bool
is_end End = true
is_end _ = false

-- by how much the epoch rises after an event: by one after a Create and a Release, and after no other
abbrev pub raises : Event → ℕ
raises (Create child) = 1
raises (Release addr part replaces) = 1
raises _ = 0

-- at first nobody holds a slot, each slot is free, and its last epoch is 0
abbrev pub new_era : ℕ → Labels
new_era era = record { era = era; slot_of = λ t. None; free = λ s. true; epoch = λ s. 0 }

-- by how much the thread's event raises the epoch of slot s, where g is the greatest epoch
abbrev pub raised : ℕ → Labels → ℕ → Event → ℕ → ℕ
raised g l t e s = if holds (l.slot_of t) s && nat_lt (l.epoch s) g then raises e else 0

-- the slot that the thread holds after the event: none after its End, nor where the greatest epoch is over
abbrev pub slot_after : ℕ → (ℕ → ℕ) → Option ℕ → Event → Option ℕ
slot_after g epoch None e = None
slot_after g epoch (Some s) e = if is_end e then None else (if (raises e == 0) || nat_lt (epoch s) g then Some s else None)

-- an event raises the epoch or ends the label; an End gives the slot back, unless its epoch was the greatest
abbrev pub event_labels : ℕ → Labels → ℕ → Event → Labels
event_labels g l t e =
    record {
      era = l.era;
      slot_of = λ u. if u == t then slot_after g l.epoch (l.slot_of t) e else l.slot_of u;
      free = λ s. if holds (l.slot_of t) s && is_end e then nat_lt (l.epoch s) g else l.free s;
      epoch = λ s. l.epoch s + raised g l t e s;
    }

-- a thread without a slot may take a free one
abbrev pub can_attach : Labels → ℕ → ℕ → Bool
can_attach l t s = is_none (l.slot_of t) && l.free s

-- it takes it in a new epoch
abbrev pub attach_labels : Labels → ℕ → ℕ → Labels
attach_labels l t s =
    record {
      era = l.era;
      slot_of = λ u. if u == t then Some s else l.slot_of u;
      free = λ r. if r == s then false else l.free r;
      epoch = λ r. if r == s then l.epoch r + 1 else l.epoch r;
    }

-- what is lost at the greatest epoch is lost before the Leave note, which changes nothing more
abbrev pub next_labels : ℕ → Labels → Item → Labels
next_labels g l (Does t e) = event_labels g l t e
next_labels g l (Notes t (Attach a)) = if can_attach l t a.sid then attach_labels l t a.sid else l
next_labels g l NewEra = new_era (l.era + 1)
next_labels g l _ = l

-- the labels before position n
unfoldable pub labels : ℕ → (ℕ → Item) → ℕ → Labels
labels g h zero = new_era 0
labels g h (suc n) = next_labels g (labels g h n) (h n)

-- the label that the thread has before position n
abbrev pub label_of : ℕ → (ℕ → Item) → ℕ → ℕ → Option Label
label_of g h n t = option_map (λ (s : ℕ). record { sid = s; epoch = (labels g h n).epoch s; era = (labels g h n).era }) ((labels g h n).slot_of t)

-- an End below the greatest epoch puts its slot at the queue's end
abbrev pub given_back : ℕ → (ℕ → ℕ) → Option ℕ → List ℕ → List ℕ
given_back g epoch None queue = queue
given_back g epoch (Some s) queue = if nat_lt (epoch s) g then queue ++ s ∷ [] else queue

abbrev pub next_queue : ℕ → ℕ → Labels → Item → List ℕ → List ℕ
next_queue g slots l (Does t e) queue = if is_end e then given_back g l.epoch (l.slot_of t) queue else queue
next_queue g slots l (Notes t (Attach a)) queue = drop 1 queue
next_queue g slots l NewEra queue = up_from 0 slots
next_queue g slots l _ queue = queue

-- the queue of free slots before position n
unfoldable pub queue : ℕ → ℕ → (ℕ → Item) → ℕ → List ℕ
queue g slots h zero = up_from 0 slots
queue g slots h (suc n) = next_queue g slots (labels g h n) (h n) (queue g slots h n)
