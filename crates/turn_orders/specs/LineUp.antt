-- Turns as they were made: what each found and left, how they follow on one another, and the stamps that they draw.
use Rattle.std.specs.Prelude.{◌≡◌, ℕ, ◌+◌, ◌<◌, max, ◌==◌, List, [], ◌∷◌, map, filter, ◌⊎◌}
use Rattle.turn_orders.specs.Lists.{Each, InOrder}
use Rattle.turn_orders.specs.Machine.{Call, State, Turn}

-- A turn as it was made: the local state that it found and left, the value of its place that it found and left, and what
-- it told.
pub record Deed (L O A T : Type 0) : Type 0 where
  pub call : Call A
  pub local_found : L
  pub local_left : L
  pub found : O
  pub left : O
  pub told : T

module _ {L O A T : Type 0} where
  abbrev pub calls : List (Deed L O A T) → List (Call A)
  calls ds = map (λ d. d.call) ds

  -- the deeds of one thread, and those at one place
  abbrev pub of_thread : ℕ → List (Deed L O A T) → List (Deed L O A T)
  of_thread t ds = filter (λ d. d.call.thread == t) ds

  abbrev pub of_place : ℕ → List (Deed L O A T) → List (Deed L O A T)
  of_place k ds = filter (λ d. d.call.place == k) ds

  -- the first found this local state, and each other the one that the deed before it left
  abbrev pub LocalsFollow : L → List (Deed L O A T) → Type 0
  LocalsFollow l [] = Unit {0}
  LocalsFollow l (d ∷ ds) = (l ≡ d.local_found) × LocalsFollow d.local_left ds

  -- the same of the values of a place
  abbrev pub ValuesFollow : O → List (Deed L O A T) → Type 0
  ValuesFollow x [] = Unit {0}
  ValuesFollow x (d ∷ ds) = (x ≡ d.found) × ValuesFollow d.left ds

  -- what the last deed left
  abbrev pub last_local : L → List (Deed L O A T) → L
  last_local l [] = l
  last_local l (d ∷ ds) = last_local d.local_left ds

  abbrev pub last_value : O → List (Deed L O A T) → O
  last_value x [] = x
  last_value x (d ∷ ds) = last_value d.left ds

  -- the deed left and told what the turn makes of what it found
  abbrev pub IsTurn : Turn L O A T → Deed L O A T → Type 0
  IsTurn turn d = turn d.call.thread d.call.act d.local_found d.found ≡ record { local = d.local_left; value = d.left; told = d.told }

  -- As far as each thread by itself and each place by itself can tell, the deeds were made in this order from the state on.
  pub record IsLineUp (turn : Turn L O A T) (m : State L O) (ds : List (Deed L O A T)) : Type 0 where
    pub turns : Each (IsTurn turn) ds
    pub locals : (t : ℕ) → LocalsFollow (m.local t) (of_thread t ds)
    pub values : (k : ℕ) → ValuesFollow (m.value k) (of_place k ds)

  -- ---- stamps

  -- A turn draws a stamp, and leaves it with its thread and at its place: one more than the greater of the two that it finds
  -- there. The functions give the stamp in a local state and in a value.
  pub record Draws (turn : Turn L O A T) (local_stamp : L → ℕ) (value_stamp : O → ℕ) : Type 0 where
    pub in_local : (t : ℕ) (a : A) (l : L) (x : O) → local_stamp (turn t a l x).local ≡ max (local_stamp l) (value_stamp x) + 1
    pub in_place : (t : ℕ) (a : A) (l : L) (x : O) → value_stamp (turn t a l x).value ≡ max (local_stamp l) (value_stamp x) + 1

  -- the stamp that the deed drew
  abbrev pub stamp : (L → ℕ) → Deed L O A T → ℕ
  stamp local_stamp d = local_stamp d.local_left

  -- it has the lesser stamp, or the same stamp and the lesser thread
  abbrev pub Before : (L → ℕ) → Deed L O A T → Deed L O A T → Type 0
  Before local_stamp d e = (stamp local_stamp d < stamp local_stamp e) ⊎ ((stamp local_stamp d ≡ stamp local_stamp e) × (d.call.thread < e.call.thread))

  -- strictly by stamp, then by thread
  abbrev pub IsSorted : (L → ℕ) → List (Deed L O A T) → Type 0
  IsSorted local_stamp ds = InOrder (Before local_stamp) ds

  -- the greatest stamp, or 0
  abbrev pub greatest : (L → ℕ) → List (Deed L O A T) → ℕ
  greatest local_stamp [] = 0
  greatest local_stamp (d ∷ ds) = max (stamp local_stamp d) (greatest local_stamp ds)

  -- The deed's stamp is one more than the greatest of `base`, the earlier ones of its thread and the earlier ones at its place.
  abbrev pub IsStampedAfter : (L → ℕ) → ℕ → List (Deed L O A T) → Deed L O A T → Type 0
  IsStampedAfter local_stamp base early d =
      stamp local_stamp d ≡ max base (max (greatest local_stamp (of_thread d.call.thread early)) (greatest local_stamp (of_place d.call.place early))) + 1

-- a state with the last stamp beside it
pub record Stamped (X : Type 0) : Type 0 where
  pub state : X
  pub last : ℕ

abbrev pub with_stamp : {X : Type 0} → X → ℕ → Stamped X
with_stamp x n = record { state = x; last = n }

-- the turn of a machine without stamps, which draws one besides and tells it
abbrev pub stamped : {L O A T : Type 0} → Turn L O A T → Turn (Stamped L) (Stamped O) A (Stamped T)
stamped turn t a l x =
    let r = turn t a l.state x.state in
    let n = max l.last x.last + 1 in
    record { local = with_stamp r.local n; value = with_stamp r.value n; told = with_stamp r.told n }

-- the state without stamps
abbrev pub plain : {L O : Type 0} → State (Stamped L) (Stamped O) → State L O
plain m = record { local = λ t. (m.local t).state; value = λ k. (m.value k).state }
