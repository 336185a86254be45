-- One call of the watched machine in a history.
use Rattle.std.proofs.Common.{◌≡◌, ℕ, ◌+◌, List, [], ◌∷◌, length, refl, sym, ap, subst, ◌∙◌}
use Rattle.std.specs.Prelude.{map, Ok}
use Rattle.std.proofs.lemmas.List.{length-map}
use Rattle.elf_image.specs.File.{image_of}
use Rattle.run_laws.specs.Moments.{Moment, items}
use Rattle.bare_machine.specs.World.{World}
use Rattle.turn_orders.specs.Machine.{Call, State, next, single}
use Rattle.turn_orders.proofs.Functions.{but_map}
use Rattle.place_clocks.specs.Places.{desk_in}
use Rattle.joint_turns.specs.Joint.{Value, joint_turn, attach_turn, clocks_of}
use Rattle.joint_turns.specs.Joint as joint
use Rattle.joint_turns.specs.Along.{IsJoint}
use Rattle.joint_turns.specs.Along as along
use Rattle.joint_turns.proofs.Together.{comes, steps_may}
use Rattle.watched_turns.specs.Watch.{Watch}
use Rattle.watched_turns.specs.Turns.{Local, Act, attaches, steps, begins, leaves, joint_act, Told, events_of, watched_turn, joint_of, joint_call, IsPlaced}
use Rattle.watched_turns.specs.Along.{StandFrom, AreRight, HasWatch, IsWatched}
use Rattle.watched_turns.proofs.Project.{item_of, items_stand, turn_items, joint_next}
use Rattle.watched_turns.proofs.Events.{Made, AreNotes, events_made, notes_made}

attach_notes : (file : List ℕ) (harts g t : ℕ) (l : joint.Local) (v : Value) (queue : List ℕ) → AreNotes t (attach_turn file harts g t l v queue).told
attach_notes file harts g t l v [] = tt
attach_notes file harts g t l v (s ∷ rest) = go (desk_in v.clocks).queue
  where
    go : (queue : List ℕ) → AreNotes t (Rattle.place_clocks.specs.Turns.attached t l.own (desk_in v.clocks) queue v.clocks).told
    go [] = tt
    go (r ∷ others) = ((Rattle.run_record.specs.declared.entry.DeskNote.TheVariants.Attach (record { sid = r; epoch = (desk_in v.clocks).last r + 1; era = (desk_in v.clocks).era }), refl), tt)

module _ (file : List ℕ) (harts g slots : ℕ) (ok : image_of file ≡ Ok file) (w : World) (h : List Moment) (n : ℕ) (m : State Local Value) (j : IsWatched file harts g slots w h n m) (t k : ℕ) where
  abbrev watch : ℕ → Watch
  watch = λ u. (m.local u).watch

  abbrev told_by : Act → List Told
  told_by a = (watched_turn file harts g t a (m.local t) (m.value k)).told

  made : (a : Act) → IsPlaced file harts g (m.local t) (m.value k) t k a → StandFrom h n (told_by a) → Made file g h n t watch (told_by a) (watched_turn file harts g t a (m.local t) (m.value k)).local.watch
  made attaches p stand = notes_made file g slots h t n watch (m.local t).watch (joint_turn file harts g t joint.attaches (m.local t).joint (m.value k)).told refl
      (attach_notes file harts g t (m.local t).joint (m.value k) (desk_in (m.value k).clocks).queue) j.watches stand
  made (steps loads) p stand = events_made file g slots h t k loads n (clocks_of (joint_of m)) watch 0 (m.local t).joint.own (m.value k).clocks (m.local t).watch (events_of file harts t (m.local t).joint (m.value k)) refl refl refl
      j.joint.clocks (steps_may file harts g slots ok w (items h) n (joint_of m) j.joint t k p.0) j.watches p.1 stand
  made begins p stand = notes_made file g slots h t n watch (m.local t).watch (joint_turn file harts g t joint.begins (m.local t).joint (m.value k)).told refl ((Rattle.run_record.specs.declared.entry.DeskNote.TheVariants.Nothing, refl), tt) j.watches stand
  made (leaves label) p stand = notes_made file g slots h t n watch (m.local t).watch (joint_turn file harts g t (joint.leaves label) (m.local t).joint (m.value k)).told refl ((Rattle.run_record.specs.declared.entry.DeskNote.TheVariants.Leave label, refl), tt) j.watches stand

  abbrev call : Act → Call Act
  call a = single t k a

  pub record Comes (a : Act) : Type 0 where
    pub watched : IsWatched file harts g slots (along.world_after file w t (joint_act a)) h (n + length (told_by a)) (next (watched_turn file harts g) m (call a))
    pub right : AreRight file g h n (told_by a)

  pub comes_watched : (a : Act) → IsPlaced file harts g (m.local t) (m.value k) t k a → StandFrom h n (told_by a) → Comes a
  comes_watched a p stand =
      let it = made a p stand in
      let l : Local = m.local t in
      let v : Value = m.value k in
      let one = comes file harts g slots ok w (items h) n (joint_of m) j.joint t k (joint_act a) p.0 in
      let same : map item_of (told_by a) ≡ (joint_turn file harts g t (joint_act a) l.joint v).told = turn_items file harts g t a l v in
      let long : length (joint_turn file harts g t (joint_act a) l.joint v).told ≡ length (told_by a) = ap length (sym same) ∙ length-map (told_by a) item_of in
      let joined = one.joint (subst (Rattle.place_clocks.specs.Holds.StandFrom (items h) n) same (items_stand h n (told_by a) stand)) in
      record {
        watched = record {
          joint = subst (λ (s : State joint.Local Value). IsJoint file harts g slots (along.world_after file w t (joint_act a)) (items h) (n + length (told_by a)) s) (sym (joint_next file harts g m (call a)))
              (subst (λ (i : ℕ). IsJoint file harts g slots (along.world_after file w t (joint_act a)) (items h) (n + i) (next (joint_turn file harts g) (joint_of m) (joint_call (call a)))) long joined);
          watches = λ u. subst (λ (f : ℕ → Watch). HasWatch g h (n + length (told_by a)) u (f u)) (sym (but_map (λ (x : Local). x.watch) m.local t (watched_turn file harts g t a l v).local)) (it.watches u);
        };
        right = it.right;
      }
