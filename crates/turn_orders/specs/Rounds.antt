-- Rounds: the deeds of each as they were made and as they are listed.
use Rattle.std.specs.Prelude.{◌≡◌, ℕ, ◌≤◌, max, List, [], ◌∷◌, ◌++◌, map}
use Rattle.turn_orders.specs.Lists.{SameMembers}
use Rattle.turn_orders.specs.Machine.{State, Turn, after, tells}
use Rattle.turn_orders.specs.LineUp.{Deed, calls, IsLineUp, IsSorted, greatest, IsStampedAfter}

-- A round: its deeds as they were made and as they are listed, the greatest stamp before it, and in what way it ends.
pub record Round (L O A T B : Type 0) : Type 0 where
  pub made : List (Deed L O A T)
  pub listed : List (Deed L O A T)
  pub base : ℕ
  pub ends : B

-- `between` is what happens after a round, where that was the greatest stamp so far and the round ended so.
module _ {L O A T B : Type 0} (turn : Turn L O A T) (between : ℕ → B → State L O → State L O) (local_stamp : L → ℕ) (value_stamp : O → ℕ) where
  -- at a round's start each thread has the greatest stamp so far, and no place has a greater one
  pub record Starts (base : ℕ) (m : State L O) : Type 0 where
    pub threads : (t : ℕ) → local_stamp (m.local t) ≡ base
    pub places : (k : ℕ) → value_stamp (m.value k) ≤ base

  -- the greatest stamp up to the round's end
  abbrev pub top : Round L O A T B → ℕ
  top r = max r.base (greatest local_stamp r.listed)

  -- the next round's first state, after the deeds as they were made and after them as they are listed
  abbrev pub made_end : State L O → Round L O A T B → State L O
  made_end m r = between (top r) r.ends (after turn m (calls r.made))

  abbrev pub listed_end : State L O → Round L O A T B → State L O
  listed_end m r = between (top r) r.ends (after turn m (calls r.listed))

  -- a round from this state on
  pub record IsRound (m : State L O) (r : Round L O A T B) : Type 0 where
    pub start : Starts r.base m
    pub line : IsLineUp turn m r.made
    pub sorted : IsSorted local_stamp r.listed
    pub same : SameMembers r.made r.listed

  -- rounds one after another, as they were made, where `base` is the greatest stamp so far
  abbrev pub AreRounds : ℕ → State L O → List (Round L O A T B) → Type 0
  AreRounds base m [] = Unit {0}
  AreRounds base m (r ∷ rs) = (r.base ≡ base) × IsRound m r × AreRounds (top r) (made_end m r) rs

  -- the machine that takes the listed calls one after another tells what the deeds told
  abbrev pub Follows : State L O → List (Round L O A T B) → Type 0
  Follows m [] = Unit {0}
  Follows m (r ∷ rs) = (tells turn m (calls r.listed) ≡ map (λ (d : Deed L O A T). d.told) r.listed) × Follows (listed_end m r) rs

  -- the last state, by the deeds as they were made and as they are listed
  abbrev pub last_made : State L O → List (Round L O A T B) → State L O
  last_made m [] = m
  last_made m (r ∷ rs) = last_made (made_end m r) rs

  abbrev pub last_listed : State L O → List (Round L O A T B) → State L O
  last_listed m [] = m
  last_listed m (r ∷ rs) = last_listed (listed_end m r) rs

  -- all deeds as they are listed
  abbrev pub history : List (Round L O A T B) → List (Deed L O A T)
  history [] = []
  history (r ∷ rs) = r.listed ++ history rs

  -- Each deed of each round has the stamp that the earlier rounds give, and its thread and its place in its own round.
  abbrev pub AreStamped : ℕ → List (Round L O A T B) → Type 0
  AreStamped base [] = Unit {0}
  AreStamped base (r ∷ rs) =
      ((early : List (Deed L O A T)) (d : Deed L O A T) (late : List (Deed L O A T)) → r.listed ≡ early ++ d ∷ late → IsStampedAfter local_stamp base early d)
      × AreStamped (top r) rs
