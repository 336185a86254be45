-- A whole instruction of a worker's thread.
use Rattle.std.proofs.Common.{◌≡◌, ℕ, ◌+◌, Bool, true, List, [], Option, Some, None, refl, ap, subst, ◌∙◌, arith}
use Rattle.std.specs.Prelude.{sum_by}
use Rattle.run_record.specs.declared.entry.Entry.{Entry}
use Rattle.run_record.specs.declared.entry.Label.{Label}
use Rattle.run_record.specs.declared.entry.DeskNote.TheVariants.{Leave}
use Rattle.run_record.specs.declared.event.Event.{Event}
use Rattle.run_record.specs.declared.limits.Limits.{Limits}
use Rattle.bare_machine.specs.declared.request.Request.{Request}
use Rattle.bare_machine.specs.Step.{desk}
use Rattle.turn_orders.specs.LineUp.{Stamped}
use Rattle.place_turns.specs.Places.{of_nobody}
use Rattle.slot_desk.specs.Steps.{new_desk}
use Rattle.race_core.specs.Watched.{Watched}
use Rattle.shared_table.specs.Past.{Log}
use Rattle.shared_table.specs.Steps.{Mine}
use Rattle.placed_detector.specs.Standing.{Hand}
use Rattle.hart_steps.specs.declared.hart.Hart.{Hart}
use Rattle.hart_steps.specs.Asked.{Asks}
use Rattle.part_growth.specs.Growth.{Gathered, Owing, owing_of, nothing_gathered}
use Rattle.hart_turns.specs.declared.slots.ThreadState.{ThreadState}
use Rattle.hart_turns.specs.Instructions.{AreGivenAs}
use Rattle.hart_turns.specs.Makes.{hand_at}
use Rattle.part_workers.specs.declared.part.Post.{Post}
use Rattle.part_workers.specs.declared.part.PartSoFar.{PartSoFar}
use Rattle.part_workers.specs.Begin.{BeginsFirst}
use Rattle.part_workers.specs.Parts.{gathered_in, note_entry}
use Rattle.part_workers.specs.Turns.{LeavesAtDesk}
use Rattle.part_workers.specs.Makes.{Serves, Alone, AtObject}
use Rattle.part_workers.specs.Standing.{Stands, IsPaidFor, MayMake, MakesTurn, steps_in}
use Rattle.part_workers.proofs.Given.{are_given}
use Rattle.part_workers.proofs.Going.{greatest_stays, began_then}
use Rattle.part_workers.proofs.Keeping.{steps_more}
use Rattle.part_workers.proofs.Making.{made_alone, made_at}
use Rattle.part_workers.proofs.Taking.{left}

-- an instruction was made, and the leave of the label that it spent is owed
record ServedTurn (file : List ℕ) (limits : Limits) (post : Post) (before : Stamped Hand) (log : Log) (y : Hart) (v : Watched)
    (p q : PartSoFar) (spent : Option Label) : Type 0 where
  stands : Stands file limits post before log (hand_at y v None) q (owing_of spent)
  era : v.era ≡ post.era
  greatest : v.greatest ≡ limits.epochs
  began : y.thread.began ≡ true
  steps : steps_in q ≡ steps_in p + 1
  told : (l : Label) → spent ≡ Some l → gathered_in q ≡ nothing_gathered

module _ (file : List ℕ) (limits : Limits) (post : Post) (clock : List ℕ) (r : Request) (asked y : Hart) (w v : Watched) (p q : PartSoFar)
    (h : Hart) (given : Option (Option (List ℕ))) (before : Stamped Hand) (owed : Owing) (asks : Asks file post.tid h asked r)
    (may : MayMake file limits post h w clock given) (paid : IsPaidFor file post.tid (hand_at h w given) owed) where
  begins : (es : List Event) → BeginsFirst asked.thread.began es → AreGivenAs limits.slots given clock es
  begins es b = are_given limits h.thread.began given clock es
      (subst (λ (x : Bool). BeginsFirst x es) (ap (λ (x : Hart). x.thread.began) asks.hart) b) may.given_to may.given_in

  served : (me mine : Mine) (spent : Option Label) → Serves file limits post clock r asked y w v p q me mine spent →
      Stands file limits post before me.0.log (hand_at h w given) p owed → ServedTurn file limits post before mine.0.log y v p q spent
  served me mine _ (Alone x) a =
      let given_as = begins x.events x.begins in
      let m = x.made.makes h asks limits.harts desk (record { bare = of_nobody; sync = record { slots = limits.slots; objects = []; spare = 0 }; desk = new_desk limits }) given given_as in
      record {
        stands = made_alone file limits post before me.0.log mine.0.log h asked y w v given clock r p q owed None a asks may paid me mine refl refl x;
        era = x.made.hears.era given given_as ∙ may.era;
        greatest = greatest_stays file limits.harts w.era post.tid desk _ x.events x.made.hears.added h y w v given _ _ _ m.makes ∙ may.greatest;
        began = began_then file limits.harts w.era post.tid desk _ x.events x.made.hears.added h y w v given _ _ _ m.makes;
        steps = let s = x.steps in let e = ap (sum_by (λ (z : Entry). z.steps)) x.entries in omega (arith, s, e);
        told = λ l n. absurd (let z : None ≡ Some l = n in cc);
      }
  served me mine _ (AtObject k spent below x) a =
      let given_as = begins x.events x.begins in
      let m = x.makes h asks given given_as in
      record {
        stands = made_at file limits post before me.0.log mine.0.log h asked y w v given clock r p q owed spent a asks may paid k below x;
        era = x.era given given_as ∙ may.era;
        greatest = greatest_stays file limits.harts w.era post.tid k _ x.events x.added h y w v given _ _ _ m.makes ∙ may.greatest;
        began = began_then file limits.harts w.era post.tid k _ x.events x.added h y w v given _ _ _ m.makes;
        steps =
            let s = steps_more p q x.tells.entry x.tells.entries in
            let e = x.tells.entry_is.steps in
            let z = ap (λ (g : Gathered). g.steps) x.tells.gathered in
            omega (arith, s, e, z);
        told = λ l n. x.tells.gathered;
      }

-- a slot that was spent is left
left_steps : (post : Post) (label : Label) (w : Watched) (limits : Limits) (p q : PartSoFar) (log new : Log) → LeavesAtDesk limits post label w p q log new →
    steps_in q ≡ steps_in p
left_steps post label w limits p q log new x =
    let s = steps_more p q (note_entry post (Leave label) q.last) (ap (λ (z : PartSoFar). z.entries) x.told) in
    let e = ap (λ (z : PartSoFar). z.steps) x.told in
    omega (arith, s, e)

module _ (file : List ℕ) (limits : Limits) (post : Post) (clock : List ℕ) (r : Request) (asked y : Hart) (w v : Watched) (p q : PartSoFar) (me mine : Mine) where
  -- nothing was spent
  pub turn_made : Serves file limits post clock r asked y w v p q me mine None → MakesTurn file limits post clock r asked y w v p q me.0.log mine.0.log
  turn_made x h given before owed a asks may paid =
      let s = served file limits post clock r asked y w v p q h given before owed asks may paid me mine None x a in
      record { stands = s.stands; era = s.era; greatest = s.greatest; began = s.began; steps = s.steps }

  -- and where a label was, its slot was left
  pub turn_left : (label : Label) (q' : PartSoFar) (new : Log) → Serves file limits post clock r asked y w v p q me mine (Some label) →
      LeavesAtDesk limits post label v q q' mine.0.log new → MakesTurn file limits post clock r asked y w v p q' me.0.log new
  turn_left label q' new x l h given before owed a asks may paid =
      let s = served file limits post clock r asked y w v p q h given before owed asks may paid me mine (Some label) x a in
      let state : ThreadState = record { hart = Some y; watcher = v } in
      record {
        stands = left file limits post before mine.0.log new state q q' label s.era (s.told label refl) s.stands l;
        era = s.era;
        greatest = s.greatest;
        began = s.began;
        steps = left_steps post label v limits q q' mine.0.log new l ∙ s.steps;
      }
