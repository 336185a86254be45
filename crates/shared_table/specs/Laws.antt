-- The turns of one object in a past.
use Rattle.std.specs.Prelude.{◌≡◌, ◌≢◌, ◌<◌, ◌≤◌, length, ℕ, zero, suc, Bool, true, false, ◌+◌, ◌==◌, if◌then◌else◌, List, [], ◌∷◌, ◌++◌, Option, None, Some}
use Rattle.shared_table.specs.declared.object.Object.{Object}
use Rattle.shared_table.specs.declared.view.Item.{Item}
use Rattle.shared_table.specs.declared.view.Item.TheVariants.{Split, Join, Take, Give, Load, Store}
use mathlib.Core.Option.{some}
use lib.ListN.{get_elem?}
use Rattle.shared_table.specs.declared.view.View.{View}
use Rattle.shared_table.specs.Layouts.{first_of}
use Rattle.shared_table.specs.Past.{Slot, Log, Past, log_of, Lawful}

-- a finished turn: its number, the value found and the one left
pub record Turn : Type 0 where
  pub number : ℕ
  pub found : Object
  pub left : Object

abbrev pub turn : ℕ → Object → Object → Turn
turn t f l = record { number = t; found = f; left = l }

abbrev pub turn_after : ℕ → Item → List Turn → List Turn
turn_after k (Give j t found left) ts = if j == k then ts ++ turn t found left ∷ [] else ts
turn_after k (Take j t) ts = ts
turn_after k (Split m) ts = ts
turn_after k (Join m) ts = ts
turn_after k (Load c w) ts = ts
turn_after k (Store c w) ts = ts

-- the finished turns of the object k, the oldest first
abbrev pub turn_list : ℕ → Past → List Turn
turn_list k [] = []
turn_list k (x ∷ past) = turn_after k x.1 (turn_list k past)

-- the turns have the numbers from t on, the first found x, and each other what the one before it left
abbrev pub FollowFrom : ℕ → Slot → List Turn → Type 0
FollowFrom t x [] = Unit {0}
FollowFrom t x (e ∷ es) = (e.number ≡ t) × (x ≡ Some e.found) × FollowFrom (t + 1) (Some e.left) es

-- what the last turn left
abbrev pub last_left : Slot → List Turn → Slot
last_left x [] = x
last_left x (e ∷ es) = last_left (Some e.left) es

abbrev pub other : Bool → Bool
other true = false
other false = true

-- the takes (true) and gives (false) of the object k with their turns' numbers, the oldest first
abbrev pub mark_after : ℕ → Item → List (Bool × ℕ) → List (Bool × ℕ)
mark_after k (Take j t) ms = if j == k then ms ++ (true, t) ∷ [] else ms
mark_after k (Give j t found left) ms = if j == k then ms ++ (false, t) ∷ [] else ms
mark_after k (Split m) ms = ms
mark_after k (Join m) ms = ms
mark_after k (Load c w) ms = ms
mark_after k (Store c w) ms = ms

abbrev pub marks : ℕ → Past → List (Bool × ℕ)
marks k [] = []
marks k (x ∷ past) = mark_after k x.1 (marks k past)

abbrev pub next_number : Bool → ℕ → ℕ
next_number true t = t
next_number false t = t + 1

-- take t, give t, take t + 1, give t + 1 and so on; where a turn is open, give t comes first
abbrev pub InTurn : Bool → ℕ → List (Bool × ℕ) → Type 0
InTurn open_ t [] = Unit {0}
InTurn open_ t (e ∷ es) = (e.0 ≡ other open_) × (e.1 ≡ t) × InTurn e.0 (next_number e.0 t) es

abbrev pub ends_open : Bool → List (Bool × ℕ) → Bool
ends_open o [] = o
ends_open o (e ∷ es) = ends_open e.0 es

abbrev pub ends_number : ℕ → List (Bool × ℕ) → ℕ
ends_number t [] = t
ends_number t (e ∷ es) = ends_number (next_number e.0 t) es

abbrev pub is_open : Option ℕ → Bool
is_open None = false
is_open (Some n) = true

-- the numbers of the seats that a log splits
abbrev pub splits_in : List Item → List ℕ
splits_in [] = []
splits_in (Split m ∷ l) = m ∷ splits_in l
splits_in (Join m ∷ l) = splits_in l
splits_in (Take j t ∷ l) = splits_in l
splits_in (Give j t found left ∷ l) = splits_in l
splits_in (Load c w ∷ l) = splits_in l
splits_in (Store c w ∷ l) = splits_in l

-- how often a log joins the seat m
abbrev pub joins_of : ℕ → List Item → ℕ
joins_of m [] = 0
joins_of m (Join j ∷ l) = (if j == m then 1 else 0) + joins_of m l
joins_of m (Split j ∷ l) = joins_of m l
joins_of m (Take j t ∷ l) = joins_of m l
joins_of m (Give j t found left ∷ l) = joins_of m l
joins_of m (Load c w ∷ l) = joins_of m l
joins_of m (Store c w ∷ l) = joins_of m l

abbrev pub below : ℕ → List ℕ
below zero = []
below (suc n) = below n ++ n ∷ []

-- no other seat is out: the opening seat has the log of each number that was made
abbrev pub AllJoined : View → Type 0
AllJoined v = (m : ℕ) → m ≢ 0 → m < length v.logs → (l : Log) × (get_elem? v.logs m ≡ some (Some l))

-- There is one order of all items of all logs that the seat has. The takes and gives of each object alternate in it, and each turn found what the one before it left.
pub record HasLineUp (v : View) : Type 0 where
  pub past : Past
  pub lawful : Lawful v.layout past
  pub own : v.log ≡ log_of 0 past
  pub others : (m : ℕ) → m ≢ 0 → m < length v.logs → get_elem? v.logs m ≡ some (Some (log_of m past))
  pub no_more : (m : ℕ) → length v.logs ≤ m → log_of m past ≡ []
  pub alternate : (k : ℕ) → InTurn false 1 (marks k past)
  pub follow : (k : ℕ) → FollowFrom 1 (first_of v.layout k) (turn_list k past)
