-- Calls one after another, and eras.
use Rattle.std.proofs.Common.{◌≡◌, ◌+◌, ℕ, Bool, suc, List, [], ◌∷◌, ◌++◌, length, Option, Some, None, refl, subst, arith, length-append}
use Rattle.std.specs.Prelude.{is_some, Ok}
use Rattle.std.specs.List.{flat_map}
use mathlib.Core.Path.{fun_ext}
use Rattle.elf_image.specs.File.{image_of}
use Rattle.run_laws.specs.Moments.{Item, NewEra}
use Rattle.bare_machine.specs.World.{World, start}
use Rattle.turn_orders.specs.Machine.{Call, State, next, after, outcome, tells}
use Rattle.place_turns.specs.Wholes.{IsStateOf}
use Rattle.place_turns.proofs.First.{first_is}
use Rattle.place_clocks.specs.Places.{Clock}
use Rattle.place_clocks.specs.Turns.{given_lost}
use Rattle.place_clocks.specs.Holds.{StandFrom}
use Rattle.place_clocks.proofs.Fresh.{first_holds}
use Rattle.place_clocks.proofs.Along.{era_follows}
use Rattle.joint_turns.specs.Joint.{Local, Value, Act, joint_turn, bare_of, clocks_of, first_state, era_after}
use Rattle.joint_turns.specs.Along.{IsJoint, ArePlaced, AllTell, world_after, world_along}
use Rattle.joint_turns.proofs.Together.{comes}

-- all that turns tell
abbrev all : List (List Item) → List Item
all told = flat_map (λ (items : List Item). items) told

stand_parts : (h : ℕ → Item) (n : ℕ) (xs ys : List Item) → StandFrom h n (xs ++ ys) → StandFrom h n xs × StandFrom h (n + length xs) ys
stand_parts h n [] ys s = let e : n ≡ n + 0 = omega arith in (tt, subst (λ (i : ℕ). StandFrom h i ys) e s)
stand_parts h n (x ∷ xs) ys s =
    let r = stand_parts h (suc n) xs ys s.1 in
    let e : suc n + length xs ≡ n + suc (length xs) = omega arith in
    ((s.0, r.0), subst (λ (i : ℕ). StandFrom h i ys) e r.1)

module _ (file : List ℕ) (harts g slots : ℕ) (ok : image_of file ≡ Ok file) (h : ℕ → Item) where
  -- what a run of calls comes to
  pub record Runs (w : World) (n : ℕ) (m : State Local Value) (cs : List (Call Act)) : Type 0 where
    pub joint : IsJoint file harts g slots (world_along file w cs) h (n + length (all (tells (joint_turn file harts g) m cs))) (after (joint_turn file harts g) m cs)
    pub told : AllTell file w cs (tells (joint_turn file harts g) m cs)

  pub runs : (w : World) (n : ℕ) (m : State Local Value) (cs : List (Call Act)) → IsJoint file harts g slots w h n m → ArePlaced file harts g m cs → StandFrom h n (all (tells (joint_turn file harts g) m cs)) → Runs w n m cs
  runs w n m [] j p stand = record { joint = (let e : n ≡ n + 0 = omega arith in subst (λ (i : ℕ). IsJoint file harts g slots w h i m) e j); told = refl }
  runs w n m (c ∷ cs) j p stand =
      let one = comes file harts g slots ok w h n m j c.thread c.place c.act p.0 in
      let items = (outcome (joint_turn file harts g) m c).told in
      let others = all (tells (joint_turn file harts g) (next (joint_turn file harts g) m c) cs) in
      let parts = stand_parts h n items others stand in
      let rest = runs (world_after file w c.thread c.act) (n + length items) (next (joint_turn file harts g) m c) cs (one.joint parts.0) p.1 parts.1 in
      let e : n + length items + length others ≡ n + length (items ++ others) = omega (arith, length-append items others) in
      record {
        joint = subst (λ (i : ℕ). IsJoint file harts g slots (world_along file w (c ∷ cs)) h i (after (joint_turn file harts g) m (c ∷ cs))) e rest.joint;
        told = (one.told, rest.told);
      }

pub first_joint : (file : List ℕ) (harts g slots : ℕ) (h : ℕ → Item) → IsJoint file harts g slots (start file harts) h 0 (first_state file slots)
first_joint file harts g slots h = record { bare = first_is file harts; clocks = first_holds g slots h }

same_given : (o : Option Clock) → is_some o ≡ is_some (given_lost o)
same_given None = refl
same_given (Some c) = refl

pub era_joint : (file : List ℕ) (harts g slots : ℕ) (w : World) (h : ℕ → Item) (n : ℕ) (m : State Local Value) → h n ≡ NewEra → IsJoint file harts g slots w h n m → IsJoint file harts g slots w h (suc n) (era_after slots m)
era_joint file harts g slots w h n m e j = record {
  bare = subst (λ (a : ℕ → Bool). IsStateOf file harts (record { world = w; arrived = a }) (bare_of m)) (fun_ext (λ t. same_given (m.local t).own.given)) j.bare;
  clocks = era_follows g slots h n (clocks_of m) e j.clocks;
}
