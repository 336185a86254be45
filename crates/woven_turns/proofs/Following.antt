-- A machine that follows the deeds of another one, deed by deed.
use Rattle.std.proofs.Common.{◌≡◌, ◌≢◌, ℕ, Bool, cond, List, [], ◌∷◌, ◌++◌, refl, sym, ap, subst, ◌∙◌, eq-eqb, ne_eqb}
use Rattle.std.specs.Prelude.{◌==◌}
use Rattle.std.specs.List.{AllZip}
use mathlib.Core.Logic.{dite}
use native.Mathlib.Decide.{ℕ_discrete}
use Rattle.turn_orders.specs.Lists.{Each}
use Rattle.turn_orders.specs.Machine.{Call, State, Turn, but, outcome, next, after}
use Rattle.turn_orders.specs.LineUp.{Deed, calls, of_thread, of_place, LocalsFollow, ValuesFollow, IsLineUp}
use Rattle.turn_orders.proofs.Functions.{but_here, but_else}
use Rattle.turn_orders.proofs.Members.{filter_here, filter_not}
use Rattle.woven_turns.specs.Weave.{LinesUp}
use Rattle.woven_turns.specs.Following.{left_by, left_after, deed_of, call_of, deeds_of, Follows, FollowsAll, FollowsEach}

-- ---- the deeds that were told

module _ {L O A T : Type 0} (m : State L O) (d : Deed L O A T) (ds : List (Deed L O A T)) (h : LinesUp m (d ∷ ds)) where
  mine : LocalsFollow (m.local d.call.thread) (d ∷ of_thread d.call.thread ds)
  mine = subst (LocalsFollow (m.local d.call.thread)) (filter_here (λ (e : Deed L O A T). e.call.thread == d.call.thread) d ds (eq-eqb d.call.thread d.call.thread refl)) (h.locals d.call.thread)

  its : ValuesFollow (m.value d.call.place) (d ∷ of_place d.call.place ds)
  its = subst (ValuesFollow (m.value d.call.place)) (filter_here (λ (e : Deed L O A T). e.call.place == d.call.place) d ds (eq-eqb d.call.place d.call.place refl)) (h.values d.call.place)

  pub found_local : m.local d.call.thread ≡ d.local_found
  found_local = mine.0

  pub found_value : m.value d.call.place ≡ d.found
  found_value = its.0

  locals : (u : ℕ) → LocalsFollow ((left_by m d).local u) (of_thread u ds)
  locals u = dite (ℕ_discrete u d.call.thread)
      (λ e. subst (λ (l : L). LocalsFollow l (of_thread u ds)) (sym (but_here m.local d.call.thread u d.local_left e)) (subst (λ (v : ℕ). LocalsFollow d.local_left (of_thread v ds)) (sym e) mine.1))
      (λ ne. subst (λ (l : L). LocalsFollow l (of_thread u ds)) (sym (but_else m.local d.call.thread u d.local_left ne))
      (subst (LocalsFollow (m.local u)) (filter_not (λ (e : Deed L O A T). e.call.thread == u) d ds (ne_eqb d.call.thread u (λ e. ne (sym e)))) (h.locals u)))

  values : (k : ℕ) → ValuesFollow ((left_by m d).value k) (of_place k ds)
  values k = dite (ℕ_discrete k d.call.place)
      (λ e. subst (λ (x : O). ValuesFollow x (of_place k ds)) (sym (but_here m.value d.call.place k d.left e)) (subst (λ (v : ℕ). ValuesFollow d.left (of_place v ds)) (sym e) its.1))
      (λ ne. subst (λ (x : O). ValuesFollow x (of_place k ds)) (sym (but_else m.value d.call.place k d.left ne))
      (subst (ValuesFollow (m.value k)) (filter_not (λ (e : Deed L O A T). e.call.place == k) d ds (ne_eqb d.call.place k (λ e. ne (sym e)))) (h.values k)))

  pub rest_lines : LinesUp (left_by m d) ds
  rest_lines = record { locals = locals; values = values }

-- ---- the machine that follows

module _ {L O A T : Type 0} (turn : Turn L O A T) (m : State L O) (c : Call A) (ds : List (Deed L O A T)) (h : IsLineUp turn (next turn m c) ds) where
  abbrev one : Deed L O A T
  one = deed_of turn m c

  first_locals : (u : ℕ) → LocalsFollow (m.local u) (of_thread u (one ∷ ds))
  first_locals u = dite (ℕ_discrete u c.thread)
      (λ e. subst (LocalsFollow (m.local u)) (sym (filter_here (λ (f : Deed L O A T). f.call.thread == u) one ds (eq-eqb c.thread u (sym e))))
      (ap m.local e, subst (λ (l : L). LocalsFollow l (of_thread u ds)) (but_here m.local c.thread u (outcome turn m c).local e) (h.locals u)))
      (λ ne. subst (LocalsFollow (m.local u)) (sym (filter_not (λ (f : Deed L O A T). f.call.thread == u) one ds (ne_eqb c.thread u (λ e. ne (sym e)))))
      (subst (λ (l : L). LocalsFollow l (of_thread u ds)) (but_else m.local c.thread u (outcome turn m c).local ne) (h.locals u)))

  first_values : (k : ℕ) → ValuesFollow (m.value k) (of_place k (one ∷ ds))
  first_values k = dite (ℕ_discrete k c.place)
      (λ e. subst (ValuesFollow (m.value k)) (sym (filter_here (λ (f : Deed L O A T). f.call.place == k) one ds (eq-eqb c.place k (sym e))))
      (ap m.value e, subst (λ (x : O). ValuesFollow x (of_place k ds)) (but_here m.value c.place k (outcome turn m c).value e) (h.values k)))
      (λ ne. subst (ValuesFollow (m.value k)) (sym (filter_not (λ (f : Deed L O A T). f.call.place == k) one ds (ne_eqb c.place k (λ e. ne (sym e)))))
      (subst (λ (x : O). ValuesFollow x (of_place k ds)) (but_else m.value c.place k (outcome turn m c).value ne) (h.values k)))

  pub first_line : IsLineUp turn m (one ∷ ds)
  first_line = record { turns = (refl, h.turns); locals = first_locals; values = first_values }

-- ---- all deeds of a line

module _ {L O A T M P B U : Type 0} (turn : Turn M P B U) (act_of : Deed L O A T → B) where
  pub deeds_on : (n : State M P) (xs ys : List (Deed L O A T)) → deeds_of turn act_of n (xs ++ ys) ≡ deeds_of turn act_of n xs ++ deeds_of turn act_of (after turn n (calls (deeds_of turn act_of n xs))) ys
  deeds_on n [] ys = refl
  deeds_on n (d ∷ ds) ys =
      let c : Call B = call_of turn act_of d in
      ap (λ (rest : List (Deed M P B U)). deed_of turn n c ∷ rest) (deeds_on (next turn n c) ds ys)

  module _ {G : Type 0} (Matches : Deed L O A T → Deed M P B U → Type 0) (Stands : State L O → State M P → G → Type 0) (IsMade : Deed L O A T → Type 0) (step : FollowsEach turn act_of Matches Stands IsMade) where
    pub follows_all : (xs : List (Deed L O A T)) (m : State L O) (n : State M P) (g : G) → LinesUp m xs → Each IsMade xs → Stands m n g → FollowsAll turn act_of Matches Stands m n xs
    follows_all [] m n g h made r = record { matches = tt; line = record { turns = tt; locals = λ t. tt; values = λ k. tt }; kept = g; stands = r }
    follows_all (d ∷ ds) m n g h made r =
        let one = step m n g d r made.0 (found_local m d ds h) (found_value m d ds h) in
        let c : Call B = call_of turn act_of d in
        let rest = follows_all ds (left_by m d) (next turn n c) one.kept (rest_lines m d ds h) made.1 one.stands in
        record { matches = (one.matches, rest.matches); line = first_line turn n c (deeds_of turn act_of (next turn n c) ds) rest.line; kept = rest.kept; stands = rest.stands }
