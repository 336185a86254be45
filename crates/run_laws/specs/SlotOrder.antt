-- Slot order: happens-before, and beside it what one owner of a slot leaves to the next.
use Rattle.std.specs.Prelude.{◌≡◌, ℕ, ◌<◌, Bool, true, false, ◌&&◌, Option, Some, None}
use Rattle.run_record.specs.declared.event.Event.{Event}
use Rattle.run_laws.specs.Moments.{Item, Does}
use Rattle.run_laws.specs.HappensBefore.{Pair}
use Rattle.run_laws.specs.Labels.{Labels, labels, holds, is_end}

-- the slot under which the event is made
abbrev pub slot_under : Labels → Item → Option ℕ
slot_under l (Does t e) = l.slot_of t
slot_under l _ = None

-- an End under slot s
abbrev pub gives_back : Labels → Item → ℕ → Bool
gives_back l (Does t e) s = is_end e && holds (l.slot_of t) s
gives_back l _ s = false

-- The pairs of happens-before; and an End that gives a slot back, with each event that the slot's next owner
-- in the era has under it. The owner is the next one where no other End gives the slot back between them.
pub data SlotPair (g : ℕ) (h : ℕ → Item) (i j : ℕ) : Type 0 where
  Plain : Pair h i j → SlotPair g h i j
  NextOwner :
      (s : ℕ) → i < j → gives_back (labels g h i) (h i) s ≡ true → slot_under (labels g h j) (h j) ≡ Some s →
      (labels g h i).era ≡ (labels g h j).era →
      ((k : ℕ) → i < k → k < j → gives_back (labels g h k) (h k) s ≡ false) → SlotPair g h i j

-- slot order: the transitive closure
pub data SlotBefore (g : ℕ) (h : ℕ → Item) : ℕ → ℕ → Type 0 where
  One : {i j : ℕ} → SlotPair g h i j → SlotBefore g h i j
  Then : {i j k : ℕ} → SlotBefore g h i j → SlotBefore g h j k → SlotBefore g h i k

-- At position n thread t makes an event under slot s.
pub record IsUnder (g : ℕ) (h : ℕ → Item) (n t s : ℕ) : Type 0 where
  pub event : Event
  pub made : h n ≡ Does t event
  pub slot : (labels g h n).slot_of t ≡ Some s
