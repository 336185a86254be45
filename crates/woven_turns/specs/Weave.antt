-- The deeds that the seats of a round tell of their turns, woven into one list along the past of the shared table.
use Rattle.std.specs.Prelude.{◌≡◌, ◌≢◌, ℕ, zero, suc, ◌<◌, ◌≤◌, true, false, ◌==◌, List, [], ◌∷◌, ◌++◌, length, Some}
use mathlib.Core.Option.{some}
use lib.ListN.{get_elem?}
use Rattle.shared_table.specs.declared.object.Object.{Object}
use Rattle.shared_table.specs.declared.view.Layout.{Layout}
use Rattle.shared_table.specs.declared.view.Item.{Item}
use Rattle.shared_table.specs.declared.view.Item.TheVariants.{Split, Join, Take, Give, Load, Store}
use Rattle.shared_table.specs.Layouts.{objects_of}
use Rattle.shared_table.specs.Past.{Past, turns_of, log_of}
use Rattle.turn_orders.specs.Lists.{Each, In}
use Rattle.turn_orders.specs.Machine.{State}
use Rattle.turn_orders.specs.LineUp.{Deed, of_thread, of_place, LocalsFollow, ValuesFollow}

-- What seats tell of their items: by the seat's number and the item's place in the seat's log, the deeds of the item.
abbrev pub Tags : (L A T : Type 0) → Type 0
Tags L A T = ℕ → ℕ → List (Deed L Object A T)

-- As far as each thread by itself and each place by itself can tell, the deeds were made in this order from the state on.
pub record LinesUp {L O A T : Type 0} (m : State L O) (ds : List (Deed L O A T)) : Type 0 where
  pub locals : (t : ℕ) → LocalsFollow (m.local t) (of_thread t ds)
  pub values : (k : ℕ) → ValuesFollow (m.value k) (of_place k ds)

module _ {L A T : Type 0} where
  -- What an item has of deeds. A give ended a turn of its object: it has one deed, at the object's place, which found and left
  -- the object as the turn did; or none, where the turn left the object as it was found. No other item has a deed.
  abbrev pub IsTagged : Item → List (Deed L Object A T) → Type 0
  IsTagged (Give k i found left) [] = found ≡ left
  IsTagged (Give k i found left) (d ∷ []) = (d.call.place ≡ k) × (d.found ≡ found) × (d.left ≡ left)
  IsTagged (Give k i found left) (d ∷ (e ∷ ds)) = ⊥
  IsTagged (Take k i) ds = ds ≡ []
  IsTagged (Split m) ds = ds ≡ []
  IsTagged (Join m) ds = ds ≡ []
  IsTagged (Load c w) ds = ds ≡ []
  IsTagged (Store c w) ds = ds ≡ []

  -- the deeds of a past's steps in the order of the steps, the oldest first
  abbrev pub weave : Tags L A T → Past → List (Deed L Object A T)
  weave tag [] = []
  weave tag (x ∷ past) = weave tag past ++ tag x.0 (length (log_of x.0 past))

  -- the deeds of the first j items of a seat's log, in the order of the log
  abbrev pub first_deeds : (ℕ → List (Deed L Object A T)) → ℕ → List (Deed L Object A T)
  first_deeds f zero = []
  first_deeds f (suc j) = first_deeds f j ++ f j

  -- a seat told the deed, of an item that its log has in this past
  pub record WasTold (tag : Tags L A T) (past : Past) (d : Deed L Object A T) : Type 0 where
    pub seat : ℕ
    pub index : ℕ
    pub within : index < length (log_of seat past)
    pub told : In d (tag seat index)

  -- the deeds of the seat n are those of the thread t, and no other seat tells one of that thread
  pub record IsSeatOfThread (tag : Tags L A T) (t n : ℕ) : Type 0 where
    pub mine : (j : ℕ) → Each (λ d. (d.call.thread == t) ≡ true) (tag n j)
    pub others : (m j : ℕ) → m ≢ n → Each (λ d. (d.call.thread == t) ≡ false) (tag m j)

  -- What the workers of a round say of it. `late` is the round's part of the past, after the steps `early`, and m the state
  -- before the round. The thread t has the seat `seat t`. At the round's end come the deeds `alone`, which use no object:
  -- each stands at a private place, behind those of the objects.
  pub record Worked (lay : Layout) (m : State L Object) (early late : Past) (tag : Tags L A T) (seat : ℕ → ℕ) (alone : List (Deed L Object A T)) : Type 0 where
    -- each item of each seat's log has its deeds
    pub tagged : (n j : ℕ) (x : Item) → get_elem? (log_of n late) j ≡ some x → IsTagged x (tag n j)
    pub seats : (t : ℕ) → IsSeatOfThread tag t (seat t)
    -- along the log of its seat, and then alone, each deed of a thread found the local state that the one before left
    pub locals : (t : ℕ) → LocalsFollow (m.local t) (first_deeds (tag (seat t)) (length (log_of (seat t) late)) ++ of_thread t alone)
    -- the state has each object as it was before the round
    pub values : (k : ℕ) → k < objects_of lay → (turns_of lay k early).value ≡ Some (m.value k)
    -- the deeds that use no object follow one another at their private places
    pub private : Each (λ d. objects_of lay ≤ d.call.place) alone
    pub private_values : (k : ℕ) → objects_of lay ≤ k → ValuesFollow (m.value k) (of_place k alone)
