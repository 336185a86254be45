-- A machine of threads with local states and of places with values. One step of it is one turn: of one thread, at one place.
use Rattle.std.specs.Prelude.{ℕ, ◌==◌, if◌then◌else◌, List, [], ◌∷◌, ◌++◌}

-- what a turn makes of the local state and of the value, and what it tells
pub record Outcome (L O T : Type 0) : Type 0 where
  pub local : L
  pub value : O
  pub told : T

-- the turn of a thread: what it makes of an act, of the thread's local state and of a place's value
abbrev pub Turn : (L O A T : Type 0) → Type 0
Turn L O A T = ℕ → A → L → O → Outcome L O T

-- which thread takes a turn, at which place, and the act
pub record Call (A : Type 0) : Type 0 where
  pub thread : ℕ
  pub place : ℕ
  pub act : A

-- the local state of each thread, and the value of each place
pub record State (L O : Type 0) : Type 0 where
  pub local : ℕ → L
  pub value : ℕ → O

-- the same, but for one number
abbrev pub but : {X : Type 0} → (ℕ → X) → ℕ → X → ℕ → X
but f i x j = if j == i then x else f j

-- what a call comes to in a state
abbrev pub outcome : {L O A T : Type 0} → Turn L O A T → State L O → Call A → Outcome L O T
outcome turn m c = turn c.thread c.act (m.local c.thread) (m.value c.place)

-- it changes the state of its thread and the value of its place, and nothing else
abbrev pub next : {L O A T : Type 0} → Turn L O A T → State L O → Call A → State L O
next turn m c = record { local = but m.local c.thread (outcome turn m c).local; value = but m.value c.place (outcome turn m c).value }

-- the state after calls, one after another
abbrev pub after : {L O A T : Type 0} → Turn L O A T → State L O → List (Call A) → State L O
after turn m [] = m
after turn m (c ∷ cs) = after turn (next turn m c) cs

-- what each of them tells
abbrev pub tells : {L O A T : Type 0} → Turn L O A T → State L O → List (Call A) → List T
tells turn m [] = []
tells turn m (c ∷ cs) = (outcome turn m c).told ∷ tells turn (next turn m c) cs

-- ---- several acts in one turn

-- the turn that makes several acts, one after another, at its place
abbrev pub many : {L O A T : Type 0} → Turn L O A T → Turn L O (List A) (List T)
many turn t [] l x = record { local = l; value = x; told = [] }
many turn t (a ∷ rest) l x =
    let first = turn t a l x in
    let others = many turn t rest first.local first.value in
    record { local = others.local; value = others.value; told = first.told ∷ others.told }

abbrev pub single : {A : Type 0} → ℕ → ℕ → A → Call A
single t k a = record { thread = t; place = k; act = a }

-- a call for each act
abbrev pub singles : {A : Type 0} → ℕ → ℕ → List A → List (Call A)
singles t k [] = []
singles t k (a ∷ rest) = single t k a ∷ singles t k rest

-- a call for each act of each of the calls
abbrev pub acts : {A : Type 0} → List (Call (List A)) → List (Call A)
acts [] = []
acts (c ∷ cs) = singles c.thread c.place c.act ++ acts cs
