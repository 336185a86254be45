-- A worker's part with a slot that was taken or left.
use Rattle.std.proofs.Common.{◌≡◌, ℕ, List, [], ◌∷◌, ◌++◌, length, None, refl, ap, sym, subst, ◌∙◌, arith}
use Rattle.run_record.specs.declared.entry.DeskNote.TheVariants.{Attach, Leave}
use Rattle.run_record.specs.declared.entry.Label.{Label}
use Rattle.run_record.specs.declared.limits.Limits.{Limits}
use Rattle.bare_machine.specs.Step.{desk}
use Rattle.turn_orders.specs.LineUp.{Stamped}
use Rattle.shared_table.specs.Past.{Log}
use Rattle.placed_detector.specs.Standing.{Hand}
use Rattle.placed_detector.specs.Slots.{TakesSlot, LeavesSlot}
use Rattle.deed_histories.specs.Deeds.{Made}
use Rattle.part_races.specs.Rounds.{Tagged}
use Rattle.part_growth.specs.Growth.{Gathered, AreLocal, SoFar, Owing, nothing, needy, leave_of, nothing_gathered, place_in}
use Rattle.part_growth.proofs.Slots.{attach_grows, leave_grows}
use Rattle.hart_turns.specs.declared.slots.ThreadState.{ThreadState}
use Rattle.hart_turns.specs.Slots.{hand_of}
use Rattle.part_workers.specs.declared.part.Post.{Post}
use Rattle.part_workers.specs.declared.part.PartSoFar.{PartSoFar}
use Rattle.part_workers.specs.Parts.{gathered_in, note_entry}
use Rattle.part_workers.specs.Turns.{TakesAtDesk, LeavesAtDesk}
use Rattle.part_workers.specs.Standing.{Stands}
use Rattle.part_workers.proofs.Keeping.{keep_note}

-- where nothing was gathered the thread is as its deeds left it
none_made : (file : List ℕ) (harts era t : ℕ) (found now : Hand) (xs : List Made) → AreLocal file harts era t xs found now → 0 ≡ length xs → found ≡ now
none_made file harts era t found now [] l e = l
none_made file harts era t found now (x ∷ xs) l e = absurd (omega (arith, e))

nothing_since : (file : List ℕ) (limits : Limits) (post : Post) (before : Stamped Hand) (log : Log) (now : Hand) (p : PartSoFar) (owed : Owing) →
    gathered_in p ≡ nothing_gathered → (a : Stands file limits post before log now p owed) → a.found ≡ now
nothing_since file limits post before log now p owed none a =
    let g = a.so_far.gathered in
    none_made file limits.harts post.era post.tid a.found now g.made g.local (sym (ap (λ (x : Gathered). x.steps) none) ∙ g.steps)

module _ (file : List ℕ) (limits : Limits) (post : Post) (before : Stamped Hand) where
  -- an instruction that needs the slot is owed
  pub taken : (log log' : Log) (s s' : ThreadState) (p p' : PartSoFar) (clock : List ℕ) → s.watcher.era ≡ post.era →
      Stands file limits post before log (hand_of s None) p nothing → (x : TakesAtDesk limits post s s' p p' clock log log') →
      Stands file limits post before log' (hand_of s' x.given) p' needy
  taken log log' s s' p p' clock era a x =
      let h = attach_grows file limits post.era post.tid before log log' a.told a.found (hand_of s None) (hand_of s' x.given) p.last (gathered_in p) x.label
      x.found x.left (note_entry post (Attach x.label) p'.last) p'.last x.number a.so_far
      (subst (λ (n : ℕ). TakesSlot limits n post.tid x.label (hand_of s None) (hand_of s' x.given) (place_in file limits desk x.found)
      (place_in file limits desk x.left)) era (x.takes file)) x.turn
      (record { thread = refl; steps = refl; note_is = refl; events = refl; checks = refl }) refl in
      record {
        told = a.told ++ record { entry = note_entry post (Attach x.label) p'.last; awaited = [] } ∷ [];
        found = h.found;
        so_far = subst (λ (g : Gathered). SoFar file limits post.era post.tid before log'
            (a.told ++ record { entry = note_entry post (Attach x.label) p'.last; awaited = [] } ∷ []) h.found (hand_of s' x.given) p'.last g needy)
            (sym (ap gathered_in x.told)) h.so_far;
        keeps = keep_note post a.told p p' (Attach x.label) a.keeps x.told;
      }

  -- a slot that was spent is left
  pub left : (log log' : Log) (s : ThreadState) (p p' : PartSoFar) (label : Label) → s.watcher.era ≡ post.era → gathered_in p ≡ nothing_gathered →
      Stands file limits post before log (hand_of s None) p (leave_of label) → LeavesAtDesk limits post label s.watcher p p' log log' →
      Stands file limits post before log' (hand_of s None) p' nothing
  left log log' s p p' label era none a x =
      let tagged : Tagged = record { entry = note_entry post (Leave label) p'.last; awaited = [] } in
      let found_is = nothing_since file limits post before log (hand_of s None) p (leave_of label) none a in
      let so_far = subst (λ (l : Hand). SoFar file limits post.era post.tid before log a.told l (hand_of s None) p.last nothing_gathered (leave_of label)) found_is
      (subst (λ (g : Gathered). SoFar file limits post.era post.tid before log a.told a.found (hand_of s None) p.last g (leave_of label)) none a.so_far) in
      let grown = leave_grows file limits post.era post.tid before log log' a.told (hand_of s None) p.last label x.found x.left
      (note_entry post (Leave label) p'.last) p'.last x.number so_far
      (subst (λ (n : ℕ). LeavesSlot n post.tid label (hand_of s None) (place_in file limits desk x.found) (place_in file limits desk x.left)) era
      (x.leaves file s None refl)) x.turn (record { thread = refl; steps = refl; note_is = refl; events = refl; checks = refl }) refl in
      record {
        told = a.told ++ tagged ∷ [];
        found = hand_of s None;
        so_far = subst (λ (g : Gathered). SoFar file limits post.era post.tid before log' (a.told ++ tagged ∷ []) (hand_of s None) (hand_of s None) p'.last g nothing)
            (sym none ∙ sym (ap gathered_in x.told)) grown;
        keeps = keep_note post a.told p p' (Leave label) a.keeps x.told;
      }
