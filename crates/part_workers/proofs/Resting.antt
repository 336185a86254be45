-- The end of a worker's part, as the laws of parts have it.
use Rattle.std.proofs.Common.{◌≡◌, ◌+◌, ℕ, max, List, ◌++◌, Option, Some, None, refl, ap, sym, subst, ◌∙◌, append-nil, arith}
use Rattle.std.specs.Prelude.{map, sum_by, is_some}
use Rattle.std.proofs.lemmas.List.{map-append}
use Rattle.turn_orders.specs.Lists.{Each}
use Rattle.turn_histories.specs.Rounds.{IsIn}
use Rattle.run_record.specs.declared.entry.Entry.{Entry}
use Rattle.run_record.specs.declared.limits.Limits.{Limits}
use Rattle.turn_orders.specs.LineUp.{Stamped, with_stamp}
use Rattle.shared_table.specs.Past.{Log}
use Rattle.placed_detector.specs.Standing.{Hand}
use Rattle.hart_parts.specs.Parts.{Try, try_items}
use Rattle.part_races.specs.Rounds.{Tagged}
use Rattle.part_races.specs.Sorting.{Keyed}
use Rattle.part_races.specs.Telling.{TellsPart}
use Rattle.part_growth.specs.Growth.{nothing, made_so_far, Stops, with_last}
use Rattle.part_growth.proofs.Finishing.{finish}
use Rattle.part_workers.specs.declared.part.Post.{Post}
use Rattle.part_workers.specs.declared.part.PartSoFar.{PartSoFar}
use Rattle.part_workers.specs.Parts.{gathered_in, gathered_entry, keyed_in, waits_at, TellsGathered, KeepsTold}
use Rattle.part_workers.specs.Standing.{Stands, steps_in}
use Rattle.part_workers.specs.Rest.{TellsRest, HasMade, IsInside, with_entry, keyed_with}
use Rattle.part_workers.proofs.AtObjects.{keyed_waits}
use Rattle.part_workers.proofs.Keeping.{keep_more}

-- nothing was gathered
pub no_rest : (post : Post) (p : PartSoFar) → p.steps ≡ 0 → TellsRest post p p
no_rest post p none = record {
  entry = None;
  is_last = none;
  inside = tt;
  last = refl;
  entries = refl;
  waiting = sym (append-nil (map (keyed_in post.tid) p.waiting.items));
}

-- what was gathered is the last entry
pub a_rest : (post : Post) (p p' : PartSoFar) (stamp : ℕ) → (p.steps ≡ 0 → ⊥) → stamp ≡ max p.last 0 + 1 → TellsGathered post stamp p p' → TellsRest post p p'
a_rest post p p' stamp some is told =
    let next : stamp ≡ p.last + 1 = omega (arith, is) in
    record {
      entry = Some (gathered_entry post stamp p);
      is_last = (some, record { thread = refl; steps = refl; note = refl; events = refl; checks = refl; stamp_is = next });
      inside = record { round = refl; era = refl };
      last = told.last ∙ next;
      entries = told.entries;
      waiting = ap (map (keyed_in post.tid)) told.waiting
          ∙ (map-append (keyed_in post.tid) p.waiting.items (waits_at stamp p.found.waiting.items)
          ∙ ap (λ (xs : List Keyed). map (keyed_in post.tid) p.waiting.items ++ xs) (keyed_waits post.tid stamp p.found.waiting.items));
    }

keep_rest : (post : Post) (told : List Tagged) (p p' : PartSoFar) (x : TellsRest post p p') → KeepsTold post told p →
    (o : Option Entry) → x.entry ≡ o → KeepsTold post (with_last told (gathered_in p).awaits o) p'
keep_rest post told p p' x k None e = record {
  entries = x.entries ∙ (ap (with_entry p.entries) e ∙ k.entries);
  waiting = x.waiting ∙ (ap (λ (o : Option Entry). map (keyed_in post.tid) p.waiting.items ++ keyed_with o (gathered_in p).awaits) e
      ∙ (append-nil (map (keyed_in post.tid) p.waiting.items) ∙ k.waiting));
  inside = subst (Each (IsIn post.round post.era)) (sym (x.entries ∙ ap (with_entry p.entries) e)) k.inside;
}
keep_rest post told p p' x k (Some entry) e =
    keep_more post told p p' (record { entry = entry; awaited = (gathered_in p).awaits }) k (x.entries ∙ ap (with_entry p.entries) e)
    (x.waiting ∙ ap (λ (o : Option Entry). map (keyed_in post.tid) p.waiting.items ++ keyed_with o (gathered_in p).awaits) e)
    (subst (IsInside post) e x.inside)

-- a part that may end is made
pub ended : (file : List ℕ) (limits : Limits) (post : Post) (before : Stamped Hand) (log new : Log) (now : Hand) (p p' : PartSoFar) (given : ℕ) (tried : Option Try) →
    Stands file limits post before log now p nothing → TellsRest post p p' → new ≡ log ++ try_items tried → now.given ≡ None →
    Stops file limits post.tid given (steps_in p) now tried → HasMade file limits post given before new tried now p'
ended file limits post before log new now p p' given tried a x log_is begun stops =
    let made : steps_in p ≡ made_so_far a.told (gathered_in p) = ap (λ (es : List Entry). sum_by (λ (e : Entry). e.steps) es + p.steps) a.keeps.entries in
    record {
      told = with_last a.told (gathered_in p).awaits x.entry;
      part = subst (λ (n : ℕ). TellsPart file limits post.era post.tid given before new (with_last a.told (gathered_in p).awaits x.entry)
          (is_some tried) (with_stamp now n)) (sym x.last)
          (finish file limits post.era post.tid before log new a.told a.found now p.last (gathered_in p) given tried x.entry a.so_far x.is_last log_is begun
          (subst (λ (n : ℕ). Stops file limits post.tid given n now tried) made stops));
      keeps = keep_rest post a.told p p' x a.keeps x.entry refl;
    }
