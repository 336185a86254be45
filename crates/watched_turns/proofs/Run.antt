-- Calls one after another, and eras.
use Rattle.std.proofs.Common.{◌≡◌, ◌+◌, ℕ, suc, List, [], ◌∷◌, ◌++◌, length, refl, sym, subst, arith, length-append}
use Rattle.std.specs.Prelude.{map, Ok}
use Rattle.elf_image.specs.File.{image_of}
use Rattle.run_laws.specs.Moments.{Item, Moment, NewEra, items}
use Rattle.bare_machine.specs.World.{World, start}
use Rattle.turn_orders.specs.Machine.{Call, State, next, after, outcome, tells}
use Rattle.joint_turns.specs.Joint.{Value, joint_turn}
use Rattle.joint_turns.specs.Along.{AllTell}
use Rattle.joint_turns.specs.Along as along
use Rattle.joint_turns.proofs.Run.{first_joint, era_joint}
use Rattle.joint_turns.proofs.Run as joint_run
use Rattle.watched_turns.specs.Turns.{Local, Act, Told, watched_turn, joint_of, joint_call, first_state, era_after}
use Rattle.watched_turns.specs.Along.{StandFrom, AreRight, IsWatched, ArePlaced, all_of, items_told, world_after}
use Rattle.watched_turns.proofs.Events.{era_watches}
use Rattle.watched_turns.proofs.Project.{items_stand, all_items, joint_tells, joint_placed}
use Rattle.watched_turns.proofs.Together.{comes_watched}

pub stand_parts : (h : List Moment) (n : ℕ) (xs ys : List Told) → StandFrom h n (xs ++ ys) → StandFrom h n xs × StandFrom h (n + length xs) ys
stand_parts h n [] ys s = let e : n ≡ n + 0 = omega arith in (tt, subst (λ (i : ℕ). StandFrom h i ys) e s)
stand_parts h n (x ∷ xs) ys s =
    let r = stand_parts h (suc n) xs ys s.1 in
    let e : suc n + length xs ≡ n + suc (length xs) = omega arith in
    ((s.0, r.0), subst (λ (i : ℕ). StandFrom h i ys) e r.1)

right_both : (file : List ℕ) (g : ℕ) (h : List Moment) (n : ℕ) (xs ys : List Told) → AreRight file g h n xs → AreRight file g h (n + length xs) ys → AreRight file g h n (xs ++ ys)
right_both file g h n [] ys p q = let e : n + 0 ≡ n = omega arith in subst (λ (i : ℕ). AreRight file g h i ys) e q
right_both file g h n (x ∷ xs) ys p q =
    let e : n + suc (length xs) ≡ suc n + length xs = omega arith in
    (p.0, right_both file g h (suc n) xs ys p.1 (subst (λ (i : ℕ). AreRight file g h i ys) e q))

module _ (file : List ℕ) (harts g slots : ℕ) (ok : image_of file ≡ Ok file) (h : List Moment) where
  -- what a run of calls comes to
  pub record Runs (w : World) (n : ℕ) (m : State Local Value) (cs : List (Call Act)) : Type 0 where
    pub watched : IsWatched file harts g slots (world_after file w cs) h (n + length (all_of (tells (watched_turn file harts g) m cs))) (after (watched_turn file harts g) m cs)
    pub right : AreRight file g h n (all_of (tells (watched_turn file harts g) m cs))

  pub runs : (w : World) (n : ℕ) (m : State Local Value) (cs : List (Call Act)) → IsWatched file harts g slots w h n m → ArePlaced file harts g m cs → StandFrom h n (all_of (tells (watched_turn file harts g) m cs)) → Runs w n m cs
  runs w n m [] j p stand = record { watched = (let e : n ≡ n + 0 = omega arith in subst (λ (i : ℕ). IsWatched file harts g slots w h i m) e j); right = tt }
  runs w n m (c ∷ cs) j p stand =
      let told = (outcome (watched_turn file harts g) m c).told in
      let others = all_of (tells (watched_turn file harts g) (next (watched_turn file harts g) m c) cs) in
      let parts = stand_parts h n told others stand in
      let one = comes_watched file harts g slots ok w h n m j c.thread c.place c.act p.0 parts.0 in
      let rest = runs (along.world_after file w c.thread (joint_call c).act) (n + length told) (next (watched_turn file harts g) m c) cs one.watched p.1 parts.1 in
      let e : n + length told + length others ≡ n + length (told ++ others) = omega (arith, length-append told others) in
      record {
        watched = subst (λ (i : ℕ). IsWatched file harts g slots (world_after file w (c ∷ cs)) h i (after (watched_turn file harts g) m (c ∷ cs))) e rest.watched;
        right = right_both file g h n told others one.right rest.right;
      }

  -- each instruction tells the bare machine's events
  pub runs_tell : (w : World) (n : ℕ) (m : State Local Value) (cs : List (Call Act)) → IsWatched file harts g slots w h n m → ArePlaced file harts g m cs → StandFrom h n (all_of (tells (watched_turn file harts g) m cs))
      → AllTell file w (map joint_call cs) (items_told (tells (watched_turn file harts g) m cs))
  runs_tell w n m cs j p stand =
      let told = tells (watched_turn file harts g) m cs in
      let same : items_told told ≡ tells (joint_turn file harts g) (joint_of m) (map joint_call cs) = joint_tells file harts g m cs in
      let there : Rattle.place_clocks.specs.Holds.StandFrom (items h) n (along.items_of (items_told told)) = subst (Rattle.place_clocks.specs.Holds.StandFrom (items h) n) (all_items told) (items_stand h n (all_of told) stand) in
      subst (AllTell file w (map joint_call cs)) (sym same)
      (joint_run.runs file harts g slots ok (items h) w n (joint_of m) (map joint_call cs) j.joint (joint_placed file harts g m cs p)
      (subst (λ (x : List (List Item)). Rattle.place_clocks.specs.Holds.StandFrom (items h) n (along.items_of x)) same there)).told

pub first_watched : (file : List ℕ) (harts g slots : ℕ) (h : List Moment) → IsWatched file harts g slots (start file harts) h 0 (first_state file slots)
first_watched file harts g slots h = record { joint = first_joint file harts g slots (items h); watches = λ t. record { frames = refl; locks = refl; trace = refl } }

pub era_watched : (file : List ℕ) (harts g slots : ℕ) (w : World) (h : List Moment) (n : ℕ) (m : State Local Value) → items h n ≡ NewEra → IsWatched file harts g slots w h n m → IsWatched file harts g slots w h (suc n) (era_after slots m)
era_watched file harts g slots w h n m is j = record { joint = era_joint file harts g slots w (items h) n (joint_of m) is j.joint; watches = λ t. era_watches g h n is t (m.local t).watch (j.watches t) }
