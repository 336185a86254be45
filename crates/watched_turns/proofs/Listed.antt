-- Turns that workers made in any order, as their stamps list them.
use Rattle.std.proofs.Common.{◌≡◌, ◌+◌, ℕ, List, [], ◌∷◌, ◌++◌, length, refl, sym, ap, subst, ◌∙◌}
use Rattle.std.specs.Prelude.{map, Ok}
use Rattle.std.specs.List.{flat_map}
use Rattle.elf_image.specs.File.{image_of}
use Rattle.run_laws.specs.Moments.{Moment}
use Rattle.bare_machine.specs.World.{World}
use Rattle.turn_orders.specs.Lists.{Each, SameMembers}
use Rattle.turn_orders.specs.Machine.{Call, State, next, after, tells, many, single, singles, acts}
use Rattle.turn_orders.specs.LineUp.{IsLineUp, IsSorted, Stamped, stamped, plain, calls}
use Rattle.turn_orders.proofs.Functions.{but_here}
use Rattle.turn_orders.proofs.Members.{at_member, all_members}
use Rattle.turn_orders.proofs.Runs.{line_step, told_same}
use Rattle.turn_orders.proofs.Sorting.{sorted_line, same_end}
use Rattle.turn_orders.proofs.Plain.{stamped_draws, plain_next, plain_after, plain_tells}
use Rattle.turn_orders.proofs.Many.{many_next, many_after, many_tells}
use Rattle.joint_turns.specs.Joint.{Value}
use Rattle.joint_turns.specs.Along.{AllTell}
use Rattle.watched_turns.specs.Turns.{Local, Act, Told, watched_turn, joint_call}
use Rattle.watched_turns.specs.Along.{IsWatched, ArePlaced, StandFrom, AreRight, StampedDeed, WerePlaced, WasPlaced, told_of, all_of, items_told, world_after}
use Rattle.watched_turns.proofs.Run.{Runs, runs, runs_tell}

module _ (file : List ℕ) (harts g : ℕ) where
  -- the acts of one turn, one call after another
  pub acts_placed : (m : State Local Value) (t k : ℕ) (rest : List Act) → WerePlaced file harts g (m.local t) (m.value k) t k rest → ArePlaced file harts g m (singles t k rest)
  acts_placed m t k [] p = tt
  acts_placed m t k (a ∷ rest) p =
      let r = watched_turn file harts g t a (m.local t) (m.value k) in (
        p.0,
        acts_placed (next (watched_turn file harts g) m (single t k a)) t k rest
            (subst (λ (l : Local). WerePlaced file harts g l ((next (watched_turn file harts g) m (single t k a)).value k) t k rest) (sym (but_here m.local t t r.local refl))
            (subst (λ (v : Value). WerePlaced file harts g r.local v t k rest) (sym (but_here m.value k k r.value refl)) p.1)),
      )

  pub placed_append : (m : State Local Value) (xs ys : List (Call Act)) → ArePlaced file harts g m xs → ArePlaced file harts g (after (watched_turn file harts g) m xs) ys → ArePlaced file harts g m (xs ++ ys)
  placed_append m [] ys p q = q
  placed_append m (x ∷ xs) ys p q = (p.0, placed_append (next (watched_turn file harts g) m x) xs ys p.1 q)

  -- the acts of a line-up
  pub line_placed : (m : State (Stamped Local) (Stamped Value)) (ds : List StampedDeed) → IsLineUp (stamped (many (watched_turn file harts g))) m ds → Each (WasPlaced file harts g) ds → ArePlaced file harts g (plain m) (acts (calls ds))
  line_placed m [] l p = tt
  line_placed m (d ∷ ds) l p =
      let s = line_step (stamped (many (watched_turn file harts g))) m d ds l in
      let t = d.call.thread in
      let k = d.call.place in
      let here : WerePlaced file harts g (m.local d.call.thread).state (m.value d.call.place).state d.call.thread d.call.place d.call.act =
      subst (λ (x : Stamped Local). WerePlaced file harts g x.state (m.value d.call.place).state d.call.thread d.call.place d.call.act) (sym s.0)
      (subst (λ (x : Stamped Value). WerePlaced file harts g d.local_found.state x.state d.call.thread d.call.place d.call.act) (sym s.1) p.0) in
      let rest = line_placed (next (stamped (many (watched_turn file harts g))) m d.call) ds s.3 p.1 in
      placed_append (plain m) (singles d.call.thread d.call.place d.call.act) (acts (calls ds)) (acts_placed (plain m) d.call.thread d.call.place d.call.act here)
      (subst (λ (x : State Local Value). ArePlaced file harts g x (acts (calls ds)))
      (plain_next (many (watched_turn file harts g)) m d.call ∙ many_next (watched_turn file harts g) (plain m) d.call.thread d.call.place d.call.act) rest)

-- what the acts of turns told, one after another
acts_told : (ds : List StampedDeed) → flat_map (λ (told : List (List Told)). told) (map (λ (s : Stamped (List (List Told))). s.state) (map (λ (d : StampedDeed). d.told) ds)) ≡ told_of ds
acts_told [] = refl
acts_told (d ∷ ds) = ap (λ (z : List (List Told)). d.told.state ++ z) (acts_told ds)

module _ (file : List ℕ) (harts g slots : ℕ) (ok : image_of file ≡ Ok file) (w : World) (h : List Moment) (n : ℕ) (m : State (Stamped Local) (Stamped Value)) (xs ys : List StampedDeed)
    (j : IsWatched file harts g slots w h n (plain m)) (line : IsLineUp (stamped (many (watched_turn file harts g))) m xs) (sorted : IsSorted (λ (l : Stamped Local). l.last) ys) (same : SameMembers xs ys)
    (placed : Each (WasPlaced file harts g) xs) (stand : StandFrom h n (all_of (told_of ys))) where
  listed : IsLineUp (stamped (many (watched_turn file harts g))) m ys
  listed = sorted_line (stamped (many (watched_turn file harts g))) (λ (l : Stamped Local). l.last) (λ (x : Stamped Value). x.last) m xs ys (stamped_draws (many (watched_turn file harts g))) line sorted same

  all_placed : ArePlaced file harts g (plain m) (acts (calls ys))
  all_placed = line_placed file harts g m ys listed (all_members (WasPlaced file harts g) ys (λ d i. at_member (WasPlaced file harts g) d xs placed ((same d).1 i)))

  told_is : tells (watched_turn file harts g) (plain m) (acts (calls ys)) ≡ told_of ys
  told_is =
      sym (many_tells (watched_turn file harts g) (plain m) (calls ys))
      ∙ (ap (flat_map (λ (told : List (List Told)). told)) (sym (plain_tells (many (watched_turn file harts g)) m (calls ys)))
      ∙ (ap (λ (z : List (Stamped (List (List Told)))). flat_map (λ (told : List (List Told)). told) (map (λ (s : Stamped (List (List Told))). s.state) z)) (told_same (stamped (many (watched_turn file harts g))) m ys listed)
      ∙ acts_told ys))

  end_is : after (watched_turn file harts g) (plain m) (acts (calls ys)) ≡ plain (after (stamped (many (watched_turn file harts g))) m (calls xs))
  end_is =
      sym (many_after (watched_turn file harts g) (plain m) (calls ys))
      ∙ (sym (plain_after (many (watched_turn file harts g)) m (calls ys))
      ∙ ap plain (same_end (stamped (many (watched_turn file harts g))) (λ (l : Stamped Local). l.last) (λ (x : Stamped Value). x.last) m xs ys (stamped_draws (many (watched_turn file harts g))) line sorted same))

  run : Runs file harts g slots ok h w n (plain m) (acts (calls ys))
  run = runs file harts g slots ok h w n (plain m) (acts (calls ys)) j all_placed (subst (λ (told : List (List Told)). StandFrom h n (all_of told)) (sym told_is) stand)

  pub listed_watched : IsWatched file harts g slots (world_after file w (acts (calls ys))) h (n + length (all_of (told_of ys))) (plain (after (stamped (many (watched_turn file harts g))) m (calls xs)))
  listed_watched =
      subst (λ (s : State Local Value). IsWatched file harts g slots (world_after file w (acts (calls ys))) h (n + length (all_of (told_of ys))) s) end_is
      (subst (λ (told : List (List Told)). IsWatched file harts g slots (world_after file w (acts (calls ys))) h (n + length (all_of told)) (after (watched_turn file harts g) (plain m) (acts (calls ys)))) told_is run.watched)

  pub listed_told : AllTell file w (map joint_call (acts (calls ys))) (items_told (told_of ys))
  listed_told = subst (λ (told : List (List Told)). AllTell file w (map joint_call (acts (calls ys))) (items_told told)) told_is
      (runs_tell file harts g slots ok h w n (plain m) (acts (calls ys)) j all_placed (subst (λ (told : List (List Told)). StandFrom h n (all_of told)) (sym told_is) stand))

  pub listed_right : AreRight file g h n (all_of (told_of ys))
  listed_right = subst (λ (told : List (List Told)). AreRight file g h n (all_of told)) told_is run.right
