-- A turn of an object in which an instruction is made, as it is told.
use Rattle.std.proofs.Common.{◌≡◌, ◌+◌, ℕ, List, [], ◌∷◌, ◌++◌, length, inl, inr, Option, Some, None, refl, ap, sym, subst, ◌∙◌}
use Rattle.std.specs.Prelude.{map, IfOk, Result, Ok}
use Rattle.std.proofs.lemmas.List.{map-append}
use Rattle.run_record.specs.declared.entry.Label.{Label}
use Rattle.run_record.specs.declared.event.Event.{Event}
use Rattle.run_record.specs.declared.limits.Limits.{Limits}
use Rattle.run_record.specs.declared.no_memory.NoMemory.{NoMemory}
use Rattle.bare_machine.specs.declared.request.Request.{Request}
use Rattle.bare_machine.specs.Step.{desk}
use Rattle.race_core.specs.Watched.{Watched}
use Rattle.race_core.specs.declared.watcher.Candidate.{Candidate}
use Rattle.report_laws.specs.Awaited.{Awaited}
use Rattle.detector.specs.Stands.{awaited}
use Rattle.shared_table.specs.declared.object.Object.{Object}
use Rattle.shared_table.specs.declared.object.Object.TheVariants.{Stripe, Desk}
use Rattle.shared_table.specs.declared.view.Layout.{Layout}
use Rattle.shared_table.specs.Past.{Log, IsSoundSlot}
use Rattle.shared_table.specs.Steps.{Mine}
use Rattle.shared_table.specs.Seats.{IsFree, Holds, Took, Gave}
use Rattle.placed_detector.specs.Standing.{Held}
use Rattle.table_deeds.specs.Objects.{last_in}
use Rattle.turn_histories.specs.Entries.{next_object}
use Rattle.hart_steps.specs.declared.hart.Hart.{Hart}
use Rattle.hart_steps.specs.Asked.{Asks}
use Rattle.hart_parts.specs.Parts.{restamped, all_touches}
use Rattle.part_races.specs.Awaits.{AwaitsInstruction}
use Rattle.part_races.specs.Sorting.{Keyed}
use Rattle.part_growth.specs.Growth.{checks_in, place_in}
use Rattle.hart_turns.specs.declared.check.Findings.{Findings}
use Rattle.hart_turns.specs.declared.hear.Hearing.{Hearing}
use Rattle.hart_turns.specs.declared.hear.Hearing.TheVariants.{Heard}
use Rattle.hart_turns.specs.Hearing.{IsHeard}
use Rattle.hart_turns.specs.Checks.{with_items}
use Rattle.hart_turns.specs.Instructions.{given_after_all, AreGivenAs, HearsAll}
use Rattle.hart_turns.specs.Makes.{hand_at, made_of, MakesAtStripe}
use Rattle.hart_turns.specs.AtDesk.{MakesAtDesk}
use Rattle.part_workers.specs.declared.part.Post.{Post}
use Rattle.part_workers.specs.declared.part.PartSoFar.{PartSoFar}
use Rattle.part_workers.specs.Begin.{BeginsFirst}
use Rattle.part_workers.specs.Parts.{gathered_also, gathered_entry, keyed_in, waits_at, TellsGathered}
use Rattle.part_workers.specs.Turns.{stamp_after}
use Rattle.part_workers.specs.Objects.{last_at, stamped, IsStamped, GaveBack, TellsTurn}
use Rattle.part_workers.specs.Makes.{TellsWith, MakesAtObject}
use Rattle.part_workers.proofs.AtDesk.{turn_log, turn_free, turn_number}

-- ---- stamps of objects

restamped_sound : (lay : Layout) (k n : ℕ) (place : Option Object) → IsSoundSlot lay k place → IsSoundSlot lay k (stamped place n)
restamped_sound lay k n None h = absurd h
restamped_sound lay k n (Some (Stripe s)) h = h
restamped_sound lay k n (Some (Desk d)) h = h

pub stamped_sound : (lay : Layout) (k : ℕ) (place place' : Option Object) → IsStamped place place' → IsSoundSlot lay k place → IsSoundSlot lay k place'
stamped_sound lay k place place' (inl e) h = subst (IsSoundSlot lay k) (sym e) h
stamped_sound lay k place place' (inr e) h = subst (IsSoundSlot lay k) (sym e.1) (restamped_sound lay k e.0 place h)

last_restamped : (x : Object) (n : ℕ) → last_in (restamped x n) ≡ n
last_restamped (Stripe s) n = refl
last_restamped (Desk d) n = refl

place_restamped : (file : List ℕ) (limits : Limits) (k : ℕ) (x : Object) (n : ℕ) → place_in file limits k (restamped x n) ≡ place_in file limits k x
place_restamped file limits k (Stripe s) n = refl
place_restamped file limits k (Desk d) n = refl

-- steps at cells keep what is held
pub holds_with : (k : ℕ) (me me' : Mine) (items : Log) → me' ≡ with_items items me → Holds me k → Holds me' k
holds_with k me me' items e h = (h.0, ap (λ (m : Mine). m.0.held) e ∙ h.1, h.2, ap (λ (m : Mine). m.1) e ∙ h.3)

-- ---- accesses that wait

abbrev key_of : ℕ → ℕ → Awaited → Keyed
key_of t n a = record { stamp = n; thread = t; awaited = a }

pub keyed_waits : (t n : ℕ) (cs : List Candidate) →
    map (keyed_in t) (waits_at n cs) ≡ map (λ (a : Awaited). key_of t n a) (map awaited cs)
keyed_waits t n [] = refl
keyed_waits t n (c ∷ cs) = ap (λ (xs : List Keyed). key_of t n (awaited c) ∷ xs) (keyed_waits t n cs)

-- ---- the turn

module _ (file : List ℕ) (limits : Limits) (lay : Layout) (post : Post) (k : ℕ) (clock : List ℕ) (r : Request) (asked left : Hart) (w w' : Watched)
    (before after : PartSoFar) (found : Findings) (es : List Event) (spent : Option Label) (me me1 me2 me3 : Mine) where
  abbrev mid : PartSoFar
  mid = record before { found = found }

  -- what was made at the object, which was x and is y but for its stamp
  record MadeThere (x y : Object) : Type 0 where
    served : Option Object
    hears : HearsAll file limits k post.tid clock es (length before.events) w w' served (Some y) before.found.checks found.checks
        before.found.waiting.items found.waiting.items me1 me2 spent
    makes :
        (h : Hart) → Asks file post.tid h asked r → (given : Option (Option (List ℕ))) → AreGivenAs limits.slots given clock es →
        AwaitsInstruction file limits.harts w.era post.tid k (made_of es hears.added) (hand_at h w given) (hand_at left w' (given_after_all given es))
        (place_in file limits k x) (place_in file limits k y) (map awaited hears.found)
    object : (h : Hart) → Asks file post.tid h asked r → next_object file post.tid (Some h.thread) ≡ Some k
    last_is : last_in y ≡ last_in x

  module _ (x y : Object) (t : Took k me x me1) (m : MadeThere x y) where
    abbrev stamp : ℕ
    stamp = stamp_after mid (last_at (Some y))

    tells : TellsGathered post stamp (gathered_also mid es) after → TellsWith post es m.hears.added (map awaited m.hears.found) before after
    tells told = record {
      entry = gathered_entry post stamp (gathered_also mid es);
      entry_is = record { thread = refl; steps = refl; note = refl; events = refl; checks = m.hears.checks_are; stamp_is = sym told.last };
      inside = record { round = refl; era = refl };
      entries = told.entries;
      waiting =
          ap (map (keyed_in post.tid)) told.waiting ∙ (map-append (keyed_in post.tid) before.waiting.items (waits_at stamp found.waiting.items)
          ∙ ap (λ (xs : List Keyed). map (keyed_in post.tid) before.waiting.items ++ xs) (keyed_waits post.tid stamp found.waiting.items
          ∙ ap (map (λ (a : Awaited). key_of post.tid stamp a))
          (ap (map awaited) m.hears.waiting_is ∙ map-append awaited before.found.waiting.items m.hears.found)));
      gathered = told.gathered;
    }

    made : BeginsFirst asked.thread.began es → TellsGathered post stamp (gathered_also mid es) after → Gave me2 (restamped y stamp) me3 →
        MakesAtObject file limits post k clock r asked left w w' before after me.0.log me3.0.log spent
    made begins told g = record {
      found_object = x;
      left_object = restamped y stamp;
      number = t.done + 1;
      events = es;
      added = m.hears.added;
      awaits = map awaited m.hears.found;
      turn = record {
        log = turn_log k me me1 me2 me3 x (restamped y stamp) (all_touches (checks_in m.hears.added)) t m.hears.steps g;
        stamp_is = told.last ∙ ap (stamp_after mid) m.last_is;
        left_there = last_restamped y stamp ∙ sym told.last;
      };
      makes = λ h asks given given_as.
          subst (λ (held : Held). AwaitsInstruction file limits.harts w.era post.tid k (made_of es m.hears.added) (hand_at h w given)
          (hand_at left w' (given_after_all given es)) (place_in file limits k x) held (map awaited m.hears.found))
          (sym (place_restamped file limits k y stamp)) (m.makes h asks given given_as);
      object = m.object;
      numbered = m.hears.numbered;
      era = m.hears.era;
      spends = m.hears.spends;
      begins = begins;
      tells = tells told;
    }

  -- of a stripe
  of_stripe : (x y : Object) → MakesAtStripe file limits lay k post.tid clock (length before.events) r asked left w w' (Some x) (Some y) es
      before.found.checks found.checks before.found.waiting.items found.waiting.items me1 me2 spent → MadeThere x y
  of_stripe x y m = record {
    served = m.served;
    hears = m.hears;
    makes = λ h asks given given_as. m.makes x y refl refl h asks limits.harts given given_as;
    object = m.object;
    last_is = m.last_is x y refl refl;
  }

  pub made_object : (base : ℕ) → base ≡ length before.events → (x : Object) (place place' : Option Object) (hearing : Result Hearing NoMemory) → Took k me x me1 →
      MakesAtStripe file limits lay k post.tid clock base r asked left w w' (Some x) place es before.found.checks found.checks
      before.found.waiting.items found.waiting.items me1 me2 spent →
      TellsTurn post hearing spent asked.thread.began es place place' mid after → GaveBack me2 place' me3 →
      MakesAtObject file limits post k clock r asked left w w' before after me.0.log me3.0.log spent
  made_object base is x (Some y) place' hearing t m told g =
      made x y t (of_stripe x y (subst (λ (n : ℕ). MakesAtStripe file limits lay k post.tid clock n r asked left w w' (Some x) (Some y) es before.found.checks
      found.checks before.found.waiting.items found.waiting.items me1 me2 spent) is m)) told.begins told.told (subst (λ (z : Option Object). GaveBack me2 z me3) told.place_is g)
  made_object base is x None place' hearing t m told g = absurd m.sound

-- the same of the desk
module _ (file : List ℕ) (limits : Limits) (lay : Layout) (post : Post) (clock : List ℕ) (r : Request) (asked left : Hart) (w w' : Watched)
    (before after : PartSoFar) (found : Findings) (es : List Event) (spent : Option Label) (me me1 me2 me3 : Mine) where
  of_desk : (x y : Object) → MakesAtDesk file limits lay post.tid clock (length before.events) r asked left w w' (Some x) (Some y) es
      before.found.checks found.checks before.found.waiting.items found.waiting.items me1 me2 spent →
      MadeThere file limits lay post desk clock r asked left w w' before after found es spent me me1 me2 me3 x y
  of_desk x y m = record {
    served = m.served;
    hears = m.hears;
    makes = λ h asks given given_as. m.makes x y refl refl h asks given given_as;
    object = m.object;
    last_is = m.last_is x y refl refl;
  }

  pub made_desk : (base : ℕ) → base ≡ length before.events → (x : Object) (place place' : Option Object) (hearing : Result Hearing NoMemory) → Took desk me x me1 →
      MakesAtDesk file limits lay post.tid clock base r asked left w w' (Some x) place es before.found.checks found.checks
      before.found.waiting.items found.waiting.items me1 me2 spent →
      TellsTurn post hearing spent asked.thread.began es place place' (record before { found = found }) after → GaveBack me2 place' me3 →
      MakesAtObject file limits post desk clock r asked left w w' before after me.0.log me3.0.log spent
  made_desk base is x (Some y) place' hearing t m told g =
      made file limits lay post desk clock r asked left w w' before after found es spent me me1 me2 me3 x y t
      (of_desk x y (subst (λ (n : ℕ). MakesAtDesk file limits lay post.tid clock n r asked left w w' (Some x) (Some y) es before.found.checks
      found.checks before.found.waiting.items found.waiting.items me1 me2 spent) is m)) told.begins told.told
      (subst (λ (z : Option Object). GaveBack me2 z me3) told.place_is g)
  made_desk base is x None place' hearing t m told g = absurd m.sound

-- ---- after the give

module _ (k : ℕ) (me me1 me2 me3 : Mine) (x : Object) (items : Log) (t : Took k me x me1) (within : me2 ≡ with_items items me1) where
  pub gave_free : (place : Option Object) → GaveBack me2 place me3 → IsFree me3
  gave_free (Some y) g = turn_free k me me1 me2 me3 x y items t within g
  gave_free None g = absurd g

  pub gave_number : (place : Option Object) → GaveBack me2 place me3 → me3.0.number ≡ me.0.number
  gave_number (Some y) g = turn_number k me me1 me2 me3 x y items t within g
  gave_number None g = absurd g

-- what is told of an instruction that was heard
pub heard_of : (P : Option Label → Type 0) (r : Result Hearing NoMemory) (spent : Option Label) → r ≡ Ok (Heard spent) → IfOk r (IsHeard P) → P spent
heard_of P r spent e h = subst (λ (s : Result Hearing NoMemory). IfOk s (IsHeard P)) e h
