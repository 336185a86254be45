-- What a worker keeps of what it told, with one more entry.
use Rattle.std.proofs.Common.{◌≡◌, ℕ, ◌+◌, List, [], ◌∷◌, ◌++◌, append-nil, refl, ap, sym, subst, ◌∙◌, arith}
use Rattle.std.specs.Prelude.{map, sum_by}
use Rattle.std.proofs.lemmas.List.{map-append}
use Rattle.std.proofs.lemmas.List.Concat.{flat_map-append}
use Rattle.std.proofs.lemmas.List.Sums.{sum_by-append}
use Rattle.run_record.specs.declared.entry.DeskNote.{DeskNote}
use Rattle.run_record.specs.declared.entry.Entry.{Entry}
use Rattle.run_record.specs.declared.limits.Limits.{Limits}
use Rattle.turn_orders.specs.Lists.{Each}
use Rattle.turn_orders.specs.LineUp.{Stamped}
use Rattle.placed_detector.specs.Standing.{Hand}
use Rattle.turn_orders.proofs.Members.{each_append}
use Rattle.turn_histories.specs.Rounds.{IsIn}
use Rattle.part_races.specs.Rounds.{Tagged}
use Rattle.part_races.specs.Sorting.{Keyed, keyed_of, all_keyed}
use Rattle.part_growth.specs.Growth.{Gathered, SoFar, nothing, nothing_gathered}
use Rattle.part_growth.proofs.Growing.{begins_so_far}
use Rattle.part_workers.specs.declared.part.Post.{Post}
use Rattle.part_workers.specs.declared.part.PartSoFar.{PartSoFar}
use Rattle.part_workers.specs.Parts.{gathered_in, keyed_in, KeepsTold, note_entry}
use Rattle.part_workers.specs.Turns.{with_note}
use Rattle.part_workers.specs.Standing.{Stands, steps_in}

module _ (post : Post) where
  -- one more entry, with its accesses that await
  pub keep_more : (told : List Tagged) (p p' : PartSoFar) (x : Tagged) → KeepsTold post told p → p'.entries ≡ p.entries ++ x.entry ∷ [] →
      map (keyed_in post.tid) p'.waiting.items ≡ map (keyed_in post.tid) p.waiting.items ++ keyed_of x → IsIn post.round post.era x.entry →
      KeepsTold post (told ++ x ∷ []) p'
  keep_more told p p' x k entries waiting inside = record {
    entries = entries ∙ (ap (λ (es : List Entry). es ++ x.entry ∷ []) k.entries ∙ sym (map-append (λ (y : Tagged). y.entry) told (x ∷ [])));
    waiting = waiting ∙ (ap (λ (xs : List Keyed). xs ++ keyed_of x) k.waiting
        ∙ (ap (λ (xs : List Keyed). all_keyed told ++ xs) (sym (append-nil (keyed_of x))) ∙ sym (flat_map-append keyed_of told (x ∷ []))));
    inside = subst (Each (IsIn post.round post.era)) (sym entries)
        (each_append (IsIn post.round post.era) p.entries (x.entry ∷ []) k.inside (inside, tt));
  }

  -- the entry of a slot, of which nothing awaits
  pub keep_note : (told : List Tagged) (p p' : PartSoFar) (note : DeskNote) → KeepsTold post told p → p' ≡ with_note post note p'.last p →
      KeepsTold post (told ++ record { entry = note_entry post note p'.last; awaited = [] } ∷ []) p'
  keep_note told p p' note k e =
      keep_more told p p' (record { entry = note_entry post note p'.last; awaited = [] }) k (ap (λ (q : PartSoFar). q.entries) e)
      (ap (λ (q : PartSoFar). map (keyed_in post.tid) q.waiting.items) e ∙ sym (append-nil (map (keyed_in post.tid) p.waiting.items)))
      (record { round = refl; era = refl })

-- ---- how many instructions

pub steps_more : (p p' : PartSoFar) (e : Entry) → p'.entries ≡ p.entries ++ e ∷ [] → steps_in p' + p.steps ≡ steps_in p + e.steps + p'.steps
steps_more p p' e q =
    let a = ap (sum_by (λ (x : Entry). x.steps)) q ∙ sum_by-append (λ (x : Entry). x.steps) p.entries (e ∷ []) in
    omega (arith, a)

-- ---- the beginning

pub first_stands : (file : List ℕ) (limits : Limits) (post : Post) (before : Stamped Hand) (p : PartSoFar) → p.entries ≡ [] → p.waiting.items ≡ [] →
    gathered_in p ≡ nothing_gathered → p.last ≡ before.last → Stands file limits post before [] before.state p nothing
first_stands file limits post before p entries waiting gathered last = record {
  told = [];
  found = before.state;
  so_far = subst (λ (g : Gathered). SoFar file limits post.era post.tid before [] [] before.state before.state p.last g nothing) (sym gathered)
      (subst (λ (n : ℕ). SoFar file limits post.era post.tid before [] [] before.state before.state n nothing_gathered nothing) (sym last)
      (begins_so_far file limits post.era post.tid before));
  keeps = record {
    entries = entries;
    waiting = ap (map (keyed_in post.tid)) waiting;
    inside = subst (Each (IsIn post.round post.era)) (sym entries) tt;
  };
}
