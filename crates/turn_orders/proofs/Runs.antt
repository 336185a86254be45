-- A line-up is a run of the machine.
use Rattle.std.proofs.Common.{◌≡◌, ◌≢◌, ℕ, Bool, cond, List, [], ◌∷◌, refl, sym, ap, subst, ◌∙◌, eq-eqb, ne_eqb}
use Rattle.std.specs.Prelude.{◌==◌}
use mathlib.Core.Logic.{dite}
use native.Mathlib.Decide.{ℕ_discrete}
use Rattle.std.specs.Prelude.{map}
use Rattle.turn_orders.specs.Machine.{Outcome, State, Turn, but, outcome, next, after, tells}
use Rattle.turn_orders.specs.LineUp.{Deed, calls, of_thread, of_place, LocalsFollow, ValuesFollow, last_local, last_value, IsLineUp}
use Rattle.turn_orders.proofs.Functions.{but_here, but_else}
use Rattle.turn_orders.proofs.Members.{filter_here, filter_not}

module _ {L O A T : Type 0} (turn : Turn L O A T) where
  -- each deed finds in the run what it found
  pub line_step : (m : State L O) (d : Deed L O A T) (ds : List (Deed L O A T)) → IsLineUp turn m (d ∷ ds)
      → (m.local d.call.thread ≡ d.local_found) × (m.value d.call.place ≡ d.found) × (outcome turn m d.call ≡ record { local = d.local_left; value = d.left; told = d.told }) × IsLineUp turn (next turn m d.call) ds
  line_step m d ds h = (here, there, did, record { turns = h.turns.1; locals = locals; values = values })
    where
      mine : LocalsFollow (m.local d.call.thread) (d ∷ of_thread d.call.thread ds)
      mine = subst (LocalsFollow (m.local d.call.thread)) (filter_here (λ (e : Deed L O A T). e.call.thread == d.call.thread) d ds (eq-eqb d.call.thread d.call.thread refl)) (h.locals d.call.thread)

      value_stamp : ValuesFollow (m.value d.call.place) (d ∷ of_place d.call.place ds)
      value_stamp = subst (ValuesFollow (m.value d.call.place)) (filter_here (λ (e : Deed L O A T). e.call.place == d.call.place) d ds (eq-eqb d.call.place d.call.place refl)) (h.values d.call.place)

      here : m.local d.call.thread ≡ d.local_found
      here = mine.0

      there : m.value d.call.place ≡ d.found
      there = value_stamp.0

      did : outcome turn m d.call ≡ record { local = d.local_left; value = d.left; told = d.told }
      did = ap (λ (l : L). turn d.call.thread d.call.act l (m.value d.call.place)) here ∙ (ap (turn d.call.thread d.call.act d.local_found) there ∙ h.turns.0)

      locals : (u : ℕ) → LocalsFollow ((next turn m d.call).local u) (of_thread u ds)
      locals u = dite (ℕ_discrete u d.call.thread)
          (λ e. subst (λ (l : L). LocalsFollow l (of_thread u ds)) (sym (but_here m.local d.call.thread u (outcome turn m d.call).local e ∙ ap (λ (o : Outcome L O T). o.local) did)) (subst (λ (v : ℕ). LocalsFollow d.local_left (of_thread v ds)) (sym e) mine.1))
          (λ ne. subst (λ (l : L). LocalsFollow l (of_thread u ds)) (sym (but_else m.local d.call.thread u (outcome turn m d.call).local ne))
          (subst (LocalsFollow (m.local u)) (filter_not (λ (e : Deed L O A T). e.call.thread == u) d ds (ne_eqb d.call.thread u (λ e. ne (sym e)))) (h.locals u)))

      values : (k : ℕ) → ValuesFollow ((next turn m d.call).value k) (of_place k ds)
      values k = dite (ℕ_discrete k d.call.place)
          (λ e. subst (λ (x : O). ValuesFollow x (of_place k ds)) (sym (but_here m.value d.call.place k (outcome turn m d.call).value e ∙ ap (λ (o : Outcome L O T). o.value) did)) (subst (λ (v : ℕ). ValuesFollow d.left (of_place v ds)) (sym e) value_stamp.1))
          (λ ne. subst (λ (x : O). ValuesFollow x (of_place k ds)) (sym (but_else m.value d.call.place k (outcome turn m d.call).value ne))
          (subst (ValuesFollow (m.value k)) (filter_not (λ (e : Deed L O A T). e.call.place == k) d ds (ne_eqb d.call.place k (λ e. ne (sym e)))) (h.values k)))

  pub told_same : (m : State L O) (ds : List (Deed L O A T)) → IsLineUp turn m ds → tells turn m (calls ds) ≡ map (λ (d : Deed L O A T). d.told) ds
  told_same m [] h = refl
  told_same m (d ∷ ds) h =
      let s = line_step m d ds h in
      ap (λ (o : Outcome L O T). o.told ∷ tells turn (next turn m d.call) (calls ds)) s.2 ∙ ap (λ (l : List T). d.told ∷ l) (told_same (next turn m d.call) ds s.3)

  -- where the run ends
  pub ends_local : (m : State L O) (ds : List (Deed L O A T)) → IsLineUp turn m ds → (t : ℕ) → (after turn m (calls ds)).local t ≡ last_local (m.local t) (of_thread t ds)
  ends_local m [] h t = refl
  ends_local m (d ∷ ds) h t =
      let s = line_step m d ds h in
      ends_local (next turn m d.call) ds s.3 t ∙ dite (ℕ_discrete t d.call.thread)
      (λ e. ap (λ (l : L). last_local l (of_thread t ds)) (but_here m.local d.call.thread t (outcome turn m d.call).local e ∙ ap (λ (o : Outcome L O T). o.local) s.2)
      ∙ ap (last_local (m.local t)) (sym (filter_here (λ (f : Deed L O A T). f.call.thread == t) d ds (eq-eqb d.call.thread t (sym e)))))
      (λ ne. ap (λ (l : L). last_local l (of_thread t ds)) (but_else m.local d.call.thread t (outcome turn m d.call).local ne)
      ∙ ap (last_local (m.local t)) (sym (filter_not (λ (f : Deed L O A T). f.call.thread == t) d ds (ne_eqb d.call.thread t (λ e. ne (sym e))))))

  pub ends_value : (m : State L O) (ds : List (Deed L O A T)) → IsLineUp turn m ds → (k : ℕ) → (after turn m (calls ds)).value k ≡ last_value (m.value k) (of_place k ds)
  ends_value m [] h k = refl
  ends_value m (d ∷ ds) h k =
      let s = line_step m d ds h in
      ends_value (next turn m d.call) ds s.3 k ∙ dite (ℕ_discrete k d.call.place)
      (λ e. ap (λ (x : O). last_value x (of_place k ds)) (but_here m.value d.call.place k (outcome turn m d.call).value e ∙ ap (λ (o : Outcome L O T). o.value) s.2)
      ∙ ap (last_value (m.value k)) (sym (filter_here (λ (f : Deed L O A T). f.call.place == k) d ds (eq-eqb d.call.place k (sym e)))))
      (λ ne. ap (λ (x : O). last_value x (of_place k ds)) (but_else m.value d.call.place k (outcome turn m d.call).value ne)
      ∙ ap (last_value (m.value k)) (sym (filter_not (λ (f : Deed L O A T). f.call.place == k) d ds (ne_eqb d.call.place k (λ e. ne (sym e))))))
