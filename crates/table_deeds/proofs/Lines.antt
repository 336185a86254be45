-- Deeds at objects line up as those at what the objects keep.
use Rattle.std.proofs.Common.{◌≡◌, ℕ, List, [], ◌∷◌, inl, inr, refl, sym, ap, subst, ◌∙◌, eqb-true}
use Rattle.std.specs.Prelude.{◌==◌}
use Rattle.std.proofs.lemmas.Bool.{cases_Bool}
use mathlib.Core.Path.{fun_ext}
use mathlib.Core.Logic.{dite}
use native.Mathlib.Decide.{ℕ_discrete}
use Rattle.run_record.specs.declared.limits.Limits.{Limits}
use Rattle.shared_table.specs.declared.object.Object.{Object}
use Rattle.turn_orders.specs.Machine.{State, but}
use Rattle.turn_orders.specs.LineUp.{Stamped, of_thread, of_place, LocalsFollow, ValuesFollow}
use Rattle.turn_orders.proofs.Members.{filter_here, filter_not}
use Rattle.turn_orders.proofs.Functions.{but_here, but_else}
use Rattle.woven_turns.specs.Weave.{LinesUp}
use Rattle.woven_turns.specs.Following.{left_by, left_after}
use Rattle.placed_detector.specs.Standing.{Hand, Held}
use Rattle.deed_histories.specs.Lines.{HandDeed}
use Rattle.table_deeds.specs.Objects.{ObjectDeed, hand_deed, hand_deeds, held_in, held_at}

module _ (file : List ℕ) (limits : Limits) where
  locals_follow : (t : ℕ) (ds : List ObjectDeed) (l : Stamped Hand) → LocalsFollow l (of_thread t ds) →
      LocalsFollow l (of_thread t (hand_deeds file limits ds))
  locals_follow t [] l f = tt
  locals_follow t (d ∷ ds) l f = elim (cases_Bool (d.call.thread == t)) [
    | inl its ↦
        let g = subst (LocalsFollow l) (filter_here (λ (e : ObjectDeed). e.call.thread == t) d ds its) f in
        subst (LocalsFollow l) (sym (filter_here (λ (e : HandDeed). e.call.thread == t) (hand_deed file limits d) (hand_deeds file limits ds) its))
        (g.0, locals_follow t ds d.local_left g.1)
    | inr other ↦
        subst (LocalsFollow l) (sym (filter_not (λ (e : HandDeed). e.call.thread == t) (hand_deed file limits d) (hand_deeds file limits ds) other))
        (locals_follow t ds l (subst (LocalsFollow l) (filter_not (λ (e : ObjectDeed). e.call.thread == t) d ds other) f))
  ]

  values_follow : (k : ℕ) (ds : List ObjectDeed) (x : Object) → ValuesFollow x (of_place k ds) →
      ValuesFollow (held_in file limits k x) (of_place k (hand_deeds file limits ds))
  values_follow k [] x f = tt
  values_follow k (d ∷ ds) x f =
      let is_at = λ (e : HandDeed). e.call.place == k in
      elim (cases_Bool (d.call.place == k)) [
        | inl its ↦
            let at_k : k ≡ d.call.place = sym (eqb-true d.call.place k its) in
            let g = subst (ValuesFollow x) (filter_here (λ (e : ObjectDeed). e.call.place == k) d ds its) f in
            subst (ValuesFollow (held_in file limits k x)) (sym (filter_here is_at (hand_deed file limits d) (hand_deeds file limits ds) its)) (
              ap (held_in file limits k) g.0 ∙ ap (λ (j : ℕ). held_in file limits j d.found) at_k,
              subst (λ (j : ℕ). ValuesFollow (held_in file limits j d.left) (of_place k (hand_deeds file limits ds))) at_k (values_follow k ds d.left g.1),
            )
        | inr other ↦
            subst (ValuesFollow (held_in file limits k x)) (sym (filter_not is_at (hand_deed file limits d) (hand_deeds file limits ds) other))
            (values_follow k ds x (subst (ValuesFollow x) (filter_not (λ (e : ObjectDeed). e.call.place == k) d ds other) f))
      ]

  pub lines_up : (m : State (Stamped Hand) Object) (ds : List ObjectDeed) → LinesUp m ds →
      LinesUp (held_at file limits m) (hand_deeds file limits ds)
  lines_up m ds h = record {
    locals = λ t. locals_follow t ds (m.local t) (h.locals t);
    values = λ k. values_follow k ds (m.value k) (h.values k);
  }

  -- what a place keeps after a deed at p that left x there
  kept_there : (values : ℕ → Object) (p : ℕ) (x : Object) →
      but (λ k. held_in file limits k (values k)) p (held_in file limits p x) ≡ (λ k. held_in file limits k (but values p x k))
  kept_there values p x = fun_ext (λ k. dite (ℕ_discrete k p)
      (λ e. but_here (λ j. held_in file limits j (values j)) p k (held_in file limits p x) e
      ∙ (ap (λ (j : ℕ). held_in file limits j x) (sym e) ∙ ap (held_in file limits k) (sym (but_here values p k x e))))
      (λ ne. but_else (λ j. held_in file limits j (values j)) p k (held_in file limits p x) ne
      ∙ ap (held_in file limits k) (sym (but_else values p k x ne))))

  one_left : (m : State (Stamped Hand) Object) (d : ObjectDeed) →
      left_by (held_at file limits m) (hand_deed file limits d) ≡ held_at file limits (left_by m d)
  one_left m d = ap (λ (v : ℕ → Stamped Held). record { local = but m.local d.call.thread d.local_left; value = v })
      (kept_there m.value d.call.place d.left)

  pub all_left : (m : State (Stamped Hand) Object) (ds : List ObjectDeed) →
      left_after (held_at file limits m) (hand_deeds file limits ds) ≡ held_at file limits (left_after m ds)
  all_left m [] = refl
  all_left m (d ∷ ds) =
      ap (λ (c : State (Stamped Hand) (Stamped Held)). left_after c (hand_deeds file limits ds)) (one_left m d) ∙ all_left (left_by m d) ds
