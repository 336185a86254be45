-- Round after round.
use Rattle.std.proofs.Common.{◌≡◌, ◌+◌, ℕ, suc, Bool, true, false, cond, List, [], ◌∷◌, length, subst, arith}
use Rattle.std.specs.Prelude.{Ok}
use Rattle.elf_image.specs.File.{image_of}
use Rattle.run_laws.specs.Moments.{Moment}
use Rattle.bare_machine.specs.World.{World}
use Rattle.turn_orders.specs.Machine.{State, after, many, acts}
use Rattle.turn_orders.specs.LineUp.{Stamped, stamped, plain, calls}
use Rattle.turn_orders.specs.Rounds.{AreRounds, top, last_made}
use Rattle.joint_turns.specs.Joint.{Value}
use Rattle.watched_turns.specs.Turns.{Local, watched_turn}
use Rattle.watched_turns.specs.Along.{IsWatched, world_after}
use Rattle.watched_turns.specs.Rounds.{WatchedRound, between, round_told, AllPlaced, world_after_rounds, round_end, position_after, EraStands, RoundsStand, RoundsAreRight}
use Rattle.watched_turns.proofs.Run.{era_watched}
use Rattle.watched_turns.proofs.Listed.{listed_watched, listed_right}

module _ (file : List ℕ) (harts g slots : ℕ) (ok : image_of file ≡ Ok file) (h : List Moment) where
  -- the stamps in a local state and in a value
  abbrev own : Stamped Local → ℕ
  own l = l.last

  abbrev its : Stamped Value → ℕ
  its x = x.last

  pub between_watched : (w : World) (n base : ℕ) (begins : Bool) (m : State (Stamped Local) (Stamped Value)) → EraStands h n begins → IsWatched file harts g slots w h n (plain m) → IsWatched file harts g slots w h (n + cond begins 1 0) (plain (between slots base begins m))
  between_watched w n base true m e j = (let q : suc n ≡ n + 1 = omega arith in subst (λ (i : ℕ). IsWatched file harts g slots w h i (plain (between slots base true m))) q (era_watched file harts g slots w h n (plain m) e j))
  between_watched w n base false m e j = (let q : n ≡ n + 0 = omega arith in subst (λ (i : ℕ). IsWatched file harts g slots w h i (plain m)) q j)

  -- what rounds come to
  pub record Rounded (w : World) (n : ℕ) (m : State (Stamped Local) (Stamped Value)) (rs : List WatchedRound) : Type 0 where
    pub watched : IsWatched file harts g slots (world_after_rounds file w rs) h (position_after n rs) (plain (last_made (stamped (many (watched_turn file harts g))) (between slots) own its m rs))
    pub right : RoundsAreRight file g h n rs

  pub rounds_watched : (w : World) (n base : ℕ) (m : State (Stamped Local) (Stamped Value)) (rs : List WatchedRound) → IsWatched file harts g slots w h n (plain m)
      → AreRounds (stamped (many (watched_turn file harts g))) (between slots) own its base m rs → AllPlaced file harts g rs → RoundsStand h n rs → Rounded w n m rs
  rounds_watched w n base m [] j rounds placed stand = record { watched = j; right = tt }
  rounds_watched w n base m (r ∷ rs) j (same, round, rest) placed stand =
      let high = top (stamped (many (watched_turn file harts g))) (between slots) own its r in
      let made = after (stamped (many (watched_turn file harts g))) m (calls r.made) in
      let here = listed_watched file harts g slots ok w h n m r.made r.listed j round.line round.sorted round.same placed.0 stand.0 in
      let next = between_watched (world_after file w (acts (calls r.listed))) (n + length (round_told r)) high r.ends made stand.1 here in
      let others = rounds_watched (world_after file w (acts (calls r.listed))) (round_end n r) high (between slots high r.ends made) rs next rest placed.1 stand.2 in
      record { watched = others.watched; right = (listed_right file harts g slots ok w h n m r.made r.listed j round.line round.sorted round.same placed.0 stand.0, others.right) }
