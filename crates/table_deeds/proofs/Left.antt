-- The state that deeds leave, thread by thread and place by place.
use Rattle.std.proofs.Common.{◌≡◌, ℕ, List, [], ◌∷◌, inl, inr, refl, sym, ap, ◌∙◌, eqb-true}
use Rattle.std.specs.Prelude.{◌==◌}
use Rattle.std.proofs.lemmas.Bool.{cases_Bool, eqb-false}
use Rattle.turn_orders.specs.Machine.{State}
use Rattle.turn_orders.specs.LineUp.{Deed, of_thread, of_place, last_local, last_value}
use Rattle.turn_orders.proofs.Members.{filter_here, filter_not}
use Rattle.turn_orders.proofs.Functions.{but_here, but_else}
use Rattle.woven_turns.specs.Following.{left_by, left_after}

module _ {L O A T : Type 0} where
  pub local_left_is : (m : State L O) (t : ℕ) (ds : List (Deed L O A T)) → (left_after m ds).local t ≡ last_local (m.local t) (of_thread t ds)
  local_left_is m t [] = refl
  local_left_is m t (d ∷ ds) = elim (cases_Bool (d.call.thread == t)) [
    | inl its ↦
        local_left_is (left_by m d) t ds
        ∙ (ap (λ (l : L). last_local l (of_thread t ds)) (but_here m.local d.call.thread t d.local_left (sym (eqb-true d.call.thread t its)))
        ∙ ap (last_local (m.local t)) (sym (filter_here (λ (e : Deed L O A T). e.call.thread == t) d ds its)))
    | inr other ↦
        local_left_is (left_by m d) t ds
        ∙ (ap (λ (l : L). last_local l (of_thread t ds))
        (but_else m.local d.call.thread t d.local_left (λ e. eqb-false d.call.thread t other (sym e)))
        ∙ ap (last_local (m.local t)) (sym (filter_not (λ (e : Deed L O A T). e.call.thread == t) d ds other)))
  ]

  pub value_left_is : (m : State L O) (k : ℕ) (ds : List (Deed L O A T)) → (left_after m ds).value k ≡ last_value (m.value k) (of_place k ds)
  value_left_is m k [] = refl
  value_left_is m k (d ∷ ds) = elim (cases_Bool (d.call.place == k)) [
    | inl its ↦
        value_left_is (left_by m d) k ds
        ∙ (ap (λ (x : O). last_value x (of_place k ds)) (but_here m.value d.call.place k d.left (sym (eqb-true d.call.place k its)))
        ∙ ap (last_value (m.value k)) (sym (filter_here (λ (e : Deed L O A T). e.call.place == k) d ds its)))
    | inr other ↦
        value_left_is (left_by m d) k ds
        ∙ (ap (λ (x : O). last_value x (of_place k ds))
        (but_else m.value d.call.place k d.left (λ e. eqb-false d.call.place k other (sym e)))
        ∙ ap (last_value (m.value k)) (sym (filter_not (λ (e : Deed L O A T). e.call.place == k) d ds other)))
  ]
