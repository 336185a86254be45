-- What is known of a history's events: to a thread, and at the places where threads leave what they know.
use Rattle.std.specs.Prelude.{◌≡◌, ℕ, ◌<◌, ◌⊎◌, Bool, true, false}
use Rattle.run_record.specs.declared.event.Event.{Event}
use Rattle.run_laws.specs.Moments.{Item, Does, Notes, NewEra, Past}
use Rattle.run_laws.specs.HappensBefore.{HappensBefore, ends_channel, item_ends_channel}
use Rattle.run_laws.specs.Clocks.{Place, Channel, Given, Ended, left_at, is_place}

-- the event ends what was left at the place, before it leaves anything there
abbrev pub empties : Place → Event → Bool
empties (Channel a p) e = ends_channel a p e
empties (Given child) e = false
empties (Ended tid) e = false

abbrev pub item_empties : Place → Item → Bool
item_empties (Channel a p) it = item_ends_channel a p it
item_empties (Given child) it = false
item_empties (Ended tid) it = false

-- by the item a thread leaves what it knows at the place
abbrev pub item_leaves : Place → Item → Bool
item_leaves y (Does t e) = is_place (left_at t e) y
item_leaves y (Notes t note) = false
item_leaves y NewEra = false
item_leaves y Past = false

-- j is i, or comes before it
abbrev pub IsUpto : (ℕ → Item) → ℕ → ℕ → Type 0
IsUpto h j i = (j ≡ i) ⊎ HappensBefore h j i

-- The event at j is known at the place before position n: an event that is j or that j comes before left it there,
-- and nothing since then ended it.
pub record IsLeft (h : ℕ → Item) (n : ℕ) (y : Place) (j : ℕ) : Type 0 where
  pub at : ℕ
  pub early : at < n
  pub left : item_leaves y (h at) ≡ true
  pub stays : (k : ℕ) → at < k → k < n → item_empties y (h k) ≡ false
  pub upto : IsUpto h j at

-- the event at j is known to thread t before position n: it is an event of t, or comes before one
pub record IsKnown (h : ℕ → Item) (n t j : ℕ) : Type 0 where
  pub at : ℕ
  pub event : Event
  pub early : at < n
  pub made : h at ≡ Does t event
  pub upto : IsUpto h j at
