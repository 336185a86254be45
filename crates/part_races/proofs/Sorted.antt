-- The accesses that all workers of a round told, sorted by stamp and thread, are what the round awaits.
use Rattle.std.proofs.Common.{◌≡◌, ◌<◌, ◌+◌, ℕ, suc, Option, None, Some, List, [], ◌∷◌, ◌++◌, length, inl, inr, refl, sym, ap, ap₂, subst, ◌∙◌, arith}
use Rattle.std.specs.Prelude.{map, IsPermutation, AllPairs, slice_index_or}
use Rattle.std.specs.List.{AllZip, flat_map}
use Rattle.std.specs.List.Sorted.{apply_swaps, SwapsInRange}
use Rattle.std.proofs.lemmas.List.{map-append, length-map}
use Rattle.run_record.specs.declared.entry.Entry.{Entry}
use Rattle.run_record.specs.declared.limits.Limits.{Limits}
use Rattle.run_record.specs.Order.{Precedes, entries_in}
use Rattle.bare_machine.specs.Step.{desk}
use Rattle.turn_orders.specs.Lists.{Each, In, InOrder}
use Rattle.turn_orders.specs.Machine.{State}
use Rattle.turn_orders.specs.LineUp.{Stamped}
use Rattle.shared_table.specs.declared.object.Object.{Object}
use Rattle.shared_table.specs.declared.view.Layout.{Layout}
use Rattle.placed_detector.specs.Standing.{Hand}
use Rattle.deed_histories.specs.Lines.{HandDeed, entries_of}
use Rattle.deed_histories.proofs.Permuted.{map_swaps}
use Rattle.table_deeds.specs.Objects.{hand_deeds}
use Rattle.hart_parts.specs.Parts.{Part, Rest, at_last_object, rest_entries, part_entries}
use Rattle.hart_parts.specs.Rounds.{PartRound, IsPartRound}
use Rattle.part_races.specs.Rounds.{Tagged, entries_tagged, TellsAwaited, TellsRest, TellsRaces, RoundAwaits}
use Rattle.part_races.specs.Sorting.{Keyed, all_keyed, awaited_in, AreSorted}
use Rattle.part_races.proofs.Parts.{low}
use Rattle.part_races.proofs.Sorting.{sorted_is}

each_at : {X : Type 0} (P : X → Type 0) (xs : List X) (d : X) → ((j : ℕ) → j < length xs → P (slice_index_or xs j d)) → Each P xs
each_at P [] d f = tt
each_at P (x ∷ xs) d f = (f 0 (omega arith), each_at P xs d (λ j l. f (suc j) (omega arith)))

in_order : {X : Type 0} (R : X → X → Type 0) (xs : List X) → AllPairs R xs → InOrder R xs
in_order R [] a = tt
in_order R (x ∷ xs) a = (
  each_at (R x) xs x (λ j l. a 0 (suc j) x (omega arith) (omega arith)),
  in_order R xs (λ i j d lt l. a (suc i) (suc j) d (omega arith) (omega arith)),
)

module _ (file : List ℕ) (limits : Limits) (era : ℕ) where
  deeds_entries : (ds : List HandDeed) (xs : List Tagged) → AllZip (TellsAwaited file limits era) ds xs → entries_tagged xs ≡ entries_of ds
  deeds_entries [] [] z = refl
  deeds_entries [] (x ∷ xs) z = absurd z
  deeds_entries (d ∷ ds) [] z = absurd z
  deeds_entries (d ∷ ds) (x ∷ xs) z = ap₂ (λ (e : Entry) (es : List Entry). e ∷ es) z.0.entry (deeds_entries ds xs z.1)

  module _ (lay : Layout) (round : ℕ) (m : State (Stamped Hand) Object) (r : PartRound) (h : IsPartRound file limits lay round era m r) where
    -- the entries of what a worker told
    rest_told : (p : Part) → In p r.parts → (o : Option Rest) (xs : List Tagged) → TellsRest file limits era p.thread (at_last_object p) o xs →
        entries_tagged xs ≡ rest_entries o
    rest_told p i None xs t = ap entries_tagged t
    rest_told p i (Some q) xs t =
        let k = desk + 1 + p.thread in
        let one = t.2 (m.value k) (h.private k (omega arith)) (low file limits era lay round m r h p i) in
        ap entries_tagged t.1 ∙ ap (λ (e : Entry). e ∷ []) one.entry

    part_told : (p : Part) → In p r.parts → (xs : List Tagged) → TellsRaces file limits era p xs → entries_tagged xs ≡ part_entries file limits p
    part_told p i xs t =
        ap entries_tagged t.all
        ∙ (map-append (λ (x : Tagged). x.entry) t.at_objects t.behind
        ∙ ap₂ (λ (es fs : List Entry). es ++ fs) (deeds_entries (hand_deeds file limits p.deeds) t.at_objects t.deeds)
        (rest_told p i p.rest t.behind t.rest))

    all_told : (ps : List Part) (told : List (List Tagged)) → ((p : Part) → In p ps → In p r.parts) → AllZip (TellsRaces file limits era) ps told →
        entries_tagged (flat_map (λ (xs : List Tagged). xs) told) ≡ entries_in (map (part_entries file limits) ps)
    all_told [] [] f z = refl
    all_told [] (xs ∷ told) f z = absurd z
    all_told (p ∷ ps) [] f z = absurd z
    all_told (p ∷ ps) (xs ∷ told) f z =
        map-append (λ (x : Tagged). x.entry) xs (flat_map (λ (ys : List Tagged). ys) told)
        ∙ ap₂ (λ (es fs : List Entry). es ++ fs) (part_told p (f p (inl refl)) xs z.0) (all_told ps told (λ q i. f q (inr i)) z.1)

    pub sorted_round : (told : List (List Tagged)) (keys : List Keyed) → AllZip (TellsRaces file limits era) r.parts told →
        AreSorted (all_keyed (flat_map (λ (xs : List Tagged). xs) told)) keys → RoundAwaits file limits era r (awaited_in keys)
    sorted_round told keys z s =
        let all = flat_map (λ (xs : List Tagged). xs) told in
        let list = apply_swaps all h.merged.moves in
        let same = all_told r.parts told (λ p i. i) z in
        let entry_in : Tagged → Entry = λ x. x.entry in
        let long : length (entries_in (map (part_entries file limits) r.parts)) ≡ length all =
        ap (λ (es : List Entry). length es) (sym same) ∙ length-map all entry_in in
        let moved : IsPermutation all list = record
        { moves = h.merged.moves; below = subst (λ (n : ℕ). SwapsInRange n h.merged.moves) long h.merged.below; is = refl } in
        let entries : entries_tagged list ≡ r.entries = map_swaps entry_in all h.merged.moves
        ∙ (ap (λ (es : List Entry). apply_swaps es h.merged.moves) same ∙ sym h.merged.is) in
        record {
          told = told;
          of_parts = z;
          sorted = list;
          merged = moved;
          entries = entries;
          awaited_are = sorted_is all list keys moved (subst (InOrder Precedes) (sym entries) (in_order Precedes r.entries h.ordered)) s;
        }
