-- A fold over a whole history that splits by threads and places.
use Rattle.std.specs.Prelude.{◌≡◌, ◌≢◌, ℕ, Bool, true, List, [], ◌∷◌}
use Rattle.turn_orders.specs.Machine.{Call, State, Turn}

-- The fold has a whole, `step` makes a new one of it at each call, and a whole shows something of each thread (`see`) and of
-- each place (`look`). At a call only what it shows of the call's thread and place changes, by what the turn makes of them:
-- `local` and `value` are what a local state and a value show. `May` says which calls may be made of a whole.
pub record Splits {L O A T G V W : Type 0} (turn : Turn L O A T) (step : G → Call A → G) (see : ℕ → G → V) (look : ℕ → G → W) (local : L → V) (value : O → W) (May : G → Call A → Type 0) : Type 0 where
  pub at_thread : (g : G) (c : Call A) (l : L) (x : O) → May g c → see c.thread g ≡ local l → look c.place g ≡ value x → see c.thread (step g c) ≡ local (turn c.thread c.act l x).local
  pub at_place : (g : G) (c : Call A) (l : L) (x : O) → May g c → see c.thread g ≡ local l → look c.place g ≡ value x → look c.place (step g c) ≡ value (turn c.thread c.act l x).value
  pub other_threads : (g : G) (c : Call A) (t : ℕ) → May g c → t ≢ c.thread → see t (step g c) ≡ see t g
  pub other_places : (g : G) (c : Call A) (k : ℕ) → May g c → k ≢ c.place → look k (step g c) ≡ look k g

-- the whole after calls, one after another
abbrev pub folded : {A G : Type 0} → (G → Call A → G) → G → List (Call A) → G
folded step g [] = g
folded step g (c ∷ cs) = folded step (step g c) cs

-- each call may be made of the whole that the calls before it made
abbrev pub AllMay : {A G : Type 0} → (G → Call A → G) → (G → Call A → Type 0) → G → List (Call A) → Type 0
AllMay step May g [] = Unit {0}
AllMay step May g (c ∷ cs) = May g c × AllMay step May (step g c) cs

-- the test passes
abbrev pub Passes : {A G : Type 0} → (G → Call A → Bool) → G → Call A → Type 0
Passes may g c = may g c ≡ true

-- the whole shows of each thread and of each place what the machine's state shows
pub record Agrees {L O G V W : Type 0} (see : ℕ → G → V) (look : ℕ → G → W) (local : L → V) (value : O → W) (g : G) (m : State L O) : Type 0 where
  pub threads : (t : ℕ) → see t g ≡ local (m.local t)
  pub places : (k : ℕ) → look k g ≡ value (m.value k)
