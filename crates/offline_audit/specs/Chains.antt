-- Events of a history that come one after another, and whether the events of two such chains are in order.
use Rattle.std.specs.Prelude.{◌≡◌, ℕ, ◌+◌, ◌⊎◌, List, slice_get, Some, None, All, AllPairs, Contains}
use Rattle.run_record.specs.declared.entry.Entry.{Entry}
use Rattle.run_record.specs.declared.event.Event.{Event}
use Rattle.run_laws.specs.Moments.{Item, Does}
use Rattle.run_laws.specs.HappensBefore.{HappensBefore}
use Rattle.offline_audit.specs.declared.order.EventName.{EventName}
use Rattle.offline_audit.specs.Orders.{IsAt, start_of}

-- the position of the named event in the history's moments
abbrev pub position_of : List Entry → EventName → ℕ
position_of entries name = elim (slice_get entries name.entry) [ None ↦ 0 | Some e ↦ start_of entries name.entry e + name.event ]

-- The name is that of an event of the history, which is among the items h.
pub record IsEvent (h : ℕ → Item) (entries : List Entry) (name : EventName) : Type 0 where
  pub at : IsAt entries name (position_of entries name)
  pub event : Event
  pub made : h (position_of entries name) ≡ Does at.entry.tid event

-- the first event happens before the second, by these items
abbrev pub ComesBefore : (ℕ → Item) → List Entry → EventName → EventName → Type 0
ComesBefore h entries x y = HappensBefore h (position_of entries x) (position_of entries y)

-- Events each of which happens before all later ones.
pub record IsChain (h : ℕ → Item) (entries : List Entry) (names : List EventName) : Type 0 where
  pub events : All (IsEvent h entries) names
  pub follow : AllPairs (ComesBefore h entries) names

-- An event of the one list and one of the other, of which neither happens before the other.
pub record AreApart (h : ℕ → Item) (entries : List Entry) (xs ys : List EventName) : Type 0 where
  pub x : EventName
  pub y : EventName
  pub x_in : Contains xs x
  pub y_in : Contains ys y
  pub not_before : ComesBefore h entries x y → ⊥
  pub not_after : ComesBefore h entries y x → ⊥

-- of each event of the one list and each of the other, one happens before the other
abbrev pub AreOrdered : (ℕ → Item) → List Entry → List EventName → List EventName → Type 0
AreOrdered h entries xs ys = (x y : EventName) → Contains xs x → Contains ys y → ComesBefore h entries x y ⊎ ComesBefore h entries y x
