-- Happens-before: the pairs that order two events, and their closure.
use Rattle.std.specs.Prelude.{◌≡◌, ℕ, ◌<◌, ◌==◌, Bool, true, false, ◌&&◌}
use Rattle.run_record.specs.declared.event.Event.{Event}
use Rattle.run_record.specs.declared.event.Event.TheVariants.{Begin, Create, End, Join, Acquire, Release, Destroy, Clear}
use Rattle.run_record.specs.declared.event.Part.{Part}
use Rattle.run_record.specs.declared.event.Part.TheVariants.{Main, Readers}
use Rattle.run_laws.specs.Moments.{Item, Does}

abbrev pub same_part : Part → Part → Bool
same_part Main Main = true
same_part Readers Readers = true
same_part Main Readers = false
same_part Readers Main = false

-- A channel is an address with a part. A replacing Release of it ends what was told on it before, a Clear of
-- its address ends the part Main, and a Destroy both parts. Nothing else ends a channel.
abbrev pub ends_channel : ℕ → Part → Event → Bool
ends_channel a p (Release b q replaces) = replaces && ((a == b) && same_part p q)
ends_channel a p (Clear b) = (a == b) && same_part p Main
ends_channel a p (Destroy b) = a == b
ends_channel a p _ = false

-- the event at a position ends the channel
abbrev pub item_ends_channel : ℕ → Part → Item → Bool
item_ends_channel a p (Does tid event) = ends_channel a p event
item_ends_channel a p _ = false

-- The pairs that order two events: program order; a Release, then a later Acquire of its channel, which
-- nothing between them ends; a Create, then the Begin of the thread; an End, then a Join of the thread.
pub data Pair (h : ℕ → Item) (i j : ℕ) : Type 0 where
  Program : (tid : ℕ) (e f : Event) → i < j → h i ≡ Does tid e → h j ≡ Does tid f → Pair h i j
  Released :
      (tid other addr : ℕ) (part : Part) (replaces : Bool) → i < j →
      h i ≡ Does tid (Release addr part replaces) → h j ≡ Does other (Acquire addr part) →
      ((k : ℕ) → i < k → k < j → item_ends_channel addr part (h k) ≡ false) → Pair h i j
  Created : (tid child : ℕ) → i < j → h i ≡ Does tid (Create child) → h j ≡ Does child Begin → Pair h i j
  Joined : (child tid : ℕ) → i < j → h i ≡ Does child End → h j ≡ Does tid (Join child) → Pair h i j

-- happens-before: the transitive closure of the pairs
pub data HappensBefore (h : ℕ → Item) : ℕ → ℕ → Type 0 where
  One : {i j : ℕ} → Pair h i j → HappensBefore h i j
  Then : {i j k : ℕ} → HappensBefore h i j → HappensBefore h j k → HappensBefore h i k
