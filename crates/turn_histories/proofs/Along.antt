-- The turns of one round, as they are listed, beside the bare machine.
use Rattle.std.proofs.Common.{◌≡◌, ℕ, zero, suc, ◌+◌, List, [], ◌∷◌, ◌++◌, length, refl, sym, ap, ap₂, subst, ◌∙◌, arith, length-append}
use Rattle.std.specs.Prelude.{map, fold, Ok}
use Rattle.std.specs.List.{AllZip, flat_map}
use Rattle.std.proofs.lemmas.List.{append_assoc, append-nil}
use Rattle.std.proofs.lemmas.Grind.{flat_map-append}
use Rattle.elf_image.specs.File.{image_of}
use Rattle.run_record.specs.declared.entry.Entry.{Entry}
use Rattle.run_record.specs.declared.entry.DeskNote.{DeskNote}
use Rattle.run_record.specs.declared.entry.DeskNote.TheVariants.{Nothing, Attach, Leave}
use Rattle.run_laws.specs.Moments.{Moment, entry_moments}
use Rattle.run_laws.specs.Faithful.{Bare, after}
use Rattle.bare_machine.specs.World.{World}
use Rattle.bare_machine.specs.Step.{step}
use Rattle.machine_laws.specs.Machine.{bare_of}
use Rattle.turn_orders.specs.Machine.{State, Outcome, Call, outcome, next, tells, many, single, singles, acts}
use Rattle.turn_orders.specs.Machine as orders
use Rattle.turn_orders.specs.LineUp.{IsLineUp, Stamped, stamped, plain, calls}
use Rattle.turn_orders.proofs.Runs.{line_step}
use Rattle.turn_orders.proofs.Plain.{plain_next}
use Rattle.turn_orders.proofs.Many.{many_next, many_tells}
use Rattle.joint_turns.specs.Joint.{Value}
use Rattle.watched_turns.specs.Checking.{Loads}
use Rattle.watched_turns.specs.Turns.{Local, Act, attaches, steps, begins, leaves, Told, watched_turn, joint_call}
use Rattle.watched_turns.specs.Along.{StandFrom, IsWatched, WerePlaced, StampedDeed, told_of, all_of, world_after}
use Rattle.watched_turns.proofs.Run.{stand_parts, runs}
use Rattle.watched_turns.proofs.Listed.{acts_placed}
use Rattle.turn_histories.specs.Entries.{MakesEntry, IsTold, IsEntryOf}
use Rattle.turn_histories.proofs.Steps.{after_first}
use Rattle.turn_histories.proofs.Made.{Facts, entry_facts}

module _ (file : List ℕ) (harts : ℕ) where
  -- the world after entries
  abbrev pub world_over : World → List Entry → World
  world_over w es = fold (λ (s : World) (e : Entry). after (bare_of file harts) s e.tid e.steps) w es

  -- each entry has the facts of its turn, from the world that the entries before it leave
  abbrev pub AllFacts : World → List StampedDeed → List Entry → Type 0
  AllFacts w [] [] = Unit {0}
  AllFacts w [] (e ∷ es) = ⊥
  AllFacts w (d ∷ ds) [] = ⊥
  AllFacts w (d ∷ ds) (e ∷ es) = Facts file harts w e e.tid d.call.place × AllFacts (after (bare_of file harts) w e.tid e.steps) ds es

  steps_world : (w : World) (t k : ℕ) (loads : List Loads) → world_after file w (singles t k (map steps loads)) ≡ after (bare_of file harts) w t (length loads)
  steps_world w t k [] = refl
  steps_world w t k (x ∷ loads) = steps_world (step file w t).world t k loads ∙ sym (after_first (bare_of file harts) t w (length loads))

  entry_world : (g : ℕ) (l : Local) (v : Value) (w : World) (t k n : ℕ) (acts : List Act) (note : DeskNote) → MakesEntry file harts g l v t k acts note n → world_after file w (singles t k acts) ≡ after (bare_of file harts) w t n
  entry_world g l v w t k n acts (Attach label) m = ap (λ (a : List Act). world_after file w (singles t k a)) m.0 ∙ ap (after (bare_of file harts) w t) (sym m.1)
  entry_world g l v w t k n acts (Leave label) m = ap (λ (a : List Act). world_after file w (singles t k a)) m.0 ∙ ap (after (bare_of file harts) w t) (sym m.1)
  entry_world g l v w t k n acts Nothing m = ap (λ (a : List Act). world_after file w (singles t k a)) m.1 ∙ (steps_world w t k m.0 ∙ ap (after (bare_of file harts) w t) m.2)

  module _ (g slots : ℕ) (ok : image_of file ≡ Ok file) (h : List Moment) where
    -- what a round's turns come to
    pub record Along (w : World) (p : ℕ) (m : State (Stamped Local) (Stamped Value)) (ds : List StampedDeed) (es : List Entry) : Type 0 where
      pub facts : AllFacts w ds es
      pub watched : IsWatched file harts g slots (world_over w es) h (p + length (all_of (told_of ds))) (plain (orders.after (stamped (many (watched_turn file harts g))) m (calls ds)))

    many_one : (s : State Local Value) (t k : ℕ) (more : List Act) → (many (watched_turn file harts g) t more (s.local t) (s.value k)).told ≡ tells (watched_turn file harts g) s (singles t k more)
    many_one s t k more =
        let c : Call (List Act) = single t k more in
        sym (append-nil (many (watched_turn file harts g) t more (s.local t) (s.value k)).told)
        ∙ (many_tells (watched_turn file harts g) s (c ∷ [])
        ∙ ap (tells (watched_turn file harts g) s) (append-nil (singles t k more)))

    pub along : (w : World) (p : ℕ) (m : State (Stamped Local) (Stamped Value)) (ds : List StampedDeed) (es : List Entry) → IsWatched file harts g slots w h p (plain m)
        → IsLineUp (stamped (many (watched_turn file harts g))) m ds → AllZip (IsEntryOf file harts g) ds es → StandFrom h p (all_of (told_of ds)) → Along w p m ds es
    along w p m [] [] j line zip stand = record { facts = tt; watched = (let q : p ≡ p + 0 = omega arith in subst (λ (i : ℕ). IsWatched file harts g slots w h i (plain m)) q j) }
    along w p m [] (e ∷ es) j line zip stand = absurd zip
    along w p m (d ∷ ds) [] j line zip stand = absurd zip
    along w p m (d ∷ ds) (e ∷ es) j line zip stand =
        let t = d.call.thread in
        let k = d.call.place in
        let a = d.call.act in
        let of = zip.0 in
        let st = line_step (stamped (many (watched_turn file harts g))) m d ds line in
        let local : d.local_found.state ≡ (plain m).local t = ap (λ (l : Stamped Local). l.state) (sym st.0) in
        let value : d.found.state ≡ (plain m).value k = ap (λ (v : Stamped Value). v.state) (sym st.1) in
        let told : d.told.state ≡ tells (watched_turn file harts g) (plain m) (singles t k a) =
        ap (λ (o : Outcome (Stamped Local) (Stamped Value) (Stamped (List (List Told)))). o.told.state) (sym st.2) ∙ many_one (plain m) t k a in
        let parted : all_of (told_of (d ∷ ds)) ≡ all_of d.told.state ++ all_of (told_of ds) = flat_map-append (λ (xs : List Told). xs) d.told.state (told_of ds) in
        let parts = stand_parts h p (all_of d.told.state) (all_of (told_of ds)) (subst (StandFrom h p) parted stand) in
        let here = subst (λ (x : List (List Told)). StandFrom h p (all_of x)) told parts.0 in
        let makes = subst (λ (l : Local). MakesEntry file harts g l ((plain m).value k) t k a e.note e.steps) local (subst (λ (v : Value). MakesEntry file harts g d.local_found.state v t k a e.note e.steps) value of.makes) in
        let placed = subst (λ (l : Local). WerePlaced file harts g l ((plain m).value k) t k a) local (subst (λ (v : Value). WerePlaced file harts g d.local_found.state v t k a) value of.placed) in
        let facts = entry_facts file harts g slots ok h t k w p (plain m) a e e.note j refl makes placed here (subst (λ (x : List (List Told)). AllZip IsTold (entry_moments 0 e) (all_of x)) told of.told) of.grouped in
        let one = runs file harts g slots ok h w p (plain m) (singles t k a) j (acts_placed file harts g (plain m) t k a placed) here in
        let state : orders.after (watched_turn file harts g) (plain m) (singles t k a) ≡ plain (next (stamped (many (watched_turn file harts g))) m d.call) =
        sym (plain_next (many (watched_turn file harts g)) m d.call ∙ many_next (watched_turn file harts g) (plain m) t k a) in
        let world : world_after file w (singles t k a) ≡ after (bare_of file harts) w e.tid e.steps =
        entry_world g ((plain m).local t) ((plain m).value k) w t k e.steps a e.note makes ∙ ap (λ (u : ℕ). after (bare_of file harts) w u e.steps) of.thread in
        let long : p + length (all_of (tells (watched_turn file harts g) (plain m) (singles t k a))) ≡ p + length (all_of d.told.state) = ap (λ (x : List (List Told)). p + length (all_of x)) (sym told) in
        let watched = subst (λ (s : State Local Value). IsWatched file harts g slots (after (bare_of file harts) w e.tid e.steps) h (p + length (all_of d.told.state)) s) state
        (subst (λ (z : World). IsWatched file harts g slots z h (p + length (all_of d.told.state)) (orders.after (watched_turn file harts g) (plain m) (singles t k a))) world
        (subst (λ (i : ℕ). IsWatched file harts g slots (world_after file w (singles t k a)) h i (orders.after (watched_turn file harts g) (plain m) (singles t k a))) long one.watched)) in
        let rest = along (after (bare_of file harts) w e.tid e.steps) (p + length (all_of d.told.state)) (next (stamped (many (watched_turn file harts g))) m d.call) ds es watched st.3 zip.1 parts.1 in
        let end : p + length (all_of d.told.state) + length (all_of (told_of ds)) ≡ p + length (all_of (told_of (d ∷ ds))) =
        (let q = ap (λ (xs : List Told). length xs) parted in omega (arith, q, length-append (all_of d.told.state) (all_of (told_of ds)))) in
        record {
          facts = (subst (λ (u : ℕ). Facts file harts w e u k) of.thread facts, rest.facts);
          watched = subst (λ (i : ℕ). IsWatched file harts g slots (world_over w (e ∷ es)) h i (plain (orders.after (stamped (many (watched_turn file harts g))) m (calls (d ∷ ds))))) end rest.watched;
        }
