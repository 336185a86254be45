-- Loads and stores of shadow cells as they stand in a past, the events that made them, and the load rule.
use Rattle.std.specs.Prelude.{◌≡◌, ◌≢◌, ℕ, ◌<◌, ◌≤◌, Bool, true, List, length}
use Rattle.shared_table.specs.declared.view.Item.TheVariants.{Load, Store}
use Rattle.shared_table.specs.Past.{Past}
use Rattle.turn_orders.specs.Lists.{In}
use Rattle.woven_turns.specs.Steps.{Stands}

-- a load or a store: its cell, the word, and the place of the step in the past
pub record Touch : Type 0 where
  pub cell : ℕ
  pub word : ℕ
  pub place : ℕ

-- the load or store of the word w in the cell c, by the step at the place p
abbrev pub touch : ℕ → ℕ → ℕ → Touch
touch c w p = record { cell = c; word = w; place = p }

-- the transitive closure of the pairs of events
pub data EarlierBy {E : Type 0} (pair : E → E → Bool) : E → E → Type 0 where
  One : {a b : E} → pair a b ≡ true → EarlierBy pair a b
  Then : {a b c : E} → EarlierBy pair a b → EarlierBy pair b c → EarlierBy pair a c

-- Events, with the loads and stores that each made. The steps of an event stand from the place `first` to the place `last`.
pub record Timed {E : Type 0} (past : Past) (loads stores : E → List Touch) (pair : E → E → Bool) (first last : E → ℕ) : Type 0 where
  pub load : (a : E) (c w p : ℕ) → In (touch c w p) (loads a) → (n : ℕ) × (early : Past) × Stands past early (n, Load c w) × (length early ≡ p) × (first a ≤ p) × (p ≤ last a)
  pub store : (a : E) (c w p : ℕ) → In (touch c w p) (stores a) → (n : ℕ) × (early : Past) × Stands past early (n, Store c w) × (length early ≡ p) × (first a ≤ p) × (p ≤ last a)
  -- each store in the past is one of an event
  pub by : (n c w : ℕ) (early : Past) → Stands past early (n, Store c w) → (b : E) × In (touch c w (length early)) (stores b)
  -- an event stores in a cell after it has loaded it
  pub own : (a : E) (c w v p q : ℕ) → In (touch c w p) (loads a) → In (touch c v q) (stores a) → p < q
  pub span : (a : E) → first a ≤ last a
  -- of a pair, the first event is over before the second begins
  pub pairs : (a b : E) → pair a b ≡ true → last a < first b

-- among f a c w p: the event a made this load, or store, of the word w in the cell c, by the step at the place p
abbrev pub among : {E : Type 0} → (E → List Touch) → E → ℕ → ℕ → ℕ → Type 0
among f a c w p = In (touch c w p) (f a)

-- What the event a may load from the cell c. 0 only where no earlier event stored in the cell. Another word only where another
-- event stored it, a isn't earlier than that one, and no store in the cell is later than that one and earlier than a.
abbrev pub LoadRule : {E : Type 0} → (Stores : E → ℕ → ℕ → ℕ → Type 0) → (Earlier : E → E → Type 0) → E → ℕ → ℕ → Type 0
LoadRule {E} Stores Earlier a c w =
    (w ≡ 0 → (s : E) (v q : ℕ) → Stores s c v q → Earlier s a → ⊥)
    × (w ≢ 0 → (b : E) × (q : ℕ) × Stores b c w q × (b ≢ a) × (Earlier a b → ⊥) × ((s : E) (v r : ℕ) → Stores s c v r → Earlier b s → Earlier s a → ⊥))
