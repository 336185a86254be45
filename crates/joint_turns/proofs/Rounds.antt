-- Round after round.
use Rattle.std.proofs.Common.{◌≡◌, ◌+◌, ℕ, suc, Bool, true, false, cond, List, [], ◌∷◌, length, subst, arith}
use Rattle.std.specs.Prelude.{Ok}
use Rattle.elf_image.specs.File.{image_of}
use Rattle.run_laws.specs.Moments.{Item}
use Rattle.bare_machine.specs.World.{World}
use Rattle.turn_orders.specs.Machine.{State, after, many, acts}
use Rattle.turn_orders.specs.LineUp.{Stamped, stamped, plain, calls}
use Rattle.turn_orders.specs.Rounds.{AreRounds, top, last_made}
use Rattle.joint_turns.specs.Joint.{Local, Value, joint_turn}
use Rattle.joint_turns.specs.Along.{IsJoint, world_along}
use Rattle.joint_turns.specs.Rounds.{JointRound, between, round_items, AllPlaced, world_after_rounds, round_end, position_after, EraStands, RoundsStand}
use Rattle.joint_turns.proofs.Run.{era_joint}
use Rattle.joint_turns.proofs.Listed.{listed_joint}

module _ (file : List ℕ) (harts g slots : ℕ) (ok : image_of file ≡ Ok file) (h : ℕ → Item) where
  -- the stamps in a local state and in a value
  abbrev own : Stamped Local → ℕ
  own l = l.last

  abbrev its : Stamped Value → ℕ
  its x = x.last

  between_joint : (w : World) (n base : ℕ) (begins : Bool) (m : State (Stamped Local) (Stamped Value)) → EraStands h n begins → IsJoint file harts g slots w h n (plain m) → IsJoint file harts g slots w h (n + cond begins 1 0) (plain (between slots base begins m))
  between_joint w n base true m e j = (let q : suc n ≡ n + 1 = omega arith in subst (λ (i : ℕ). IsJoint file harts g slots w h i (plain (between slots base true m))) q (era_joint file harts g slots w h n (plain m) e j))
  between_joint w n base false m e j = (let q : n ≡ n + 0 = omega arith in subst (λ (i : ℕ). IsJoint file harts g slots w h i (plain m)) q j)

  pub rounds_joint : (w : World) (n base : ℕ) (m : State (Stamped Local) (Stamped Value)) (rs : List JointRound) → IsJoint file harts g slots w h n (plain m)
      → AreRounds (stamped (many (joint_turn file harts g))) (between slots) own its base m rs → AllPlaced file harts g rs → RoundsStand h n rs
      → IsJoint file harts g slots (world_after_rounds file w rs) h (position_after n rs) (plain (last_made (stamped (many (joint_turn file harts g))) (between slots) own its m rs))
  rounds_joint w n base m [] j rounds placed stand = j
  rounds_joint w n base m (r ∷ rs) j (same, round, rest) placed stand =
      let high = top (stamped (many (joint_turn file harts g))) (between slots) own its r in
      let made = after (stamped (many (joint_turn file harts g))) m (calls r.made) in
      let here = listed_joint file harts g slots ok w h n m r.made r.listed j round.line round.sorted round.same placed.0 stand.0 in
      let next = between_joint (world_along file w (acts (calls r.listed))) (n + length (round_items r)) high r.ends made stand.1 here in
      rounds_joint (world_along file w (acts (calls r.listed))) (round_end n r) high (between slots high r.ends made) rs next rest placed.1 stand.2
