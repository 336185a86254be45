-- What the stamps of a sorted list are.
use Rattle.std.proofs.Common.{◌≡◌, ℕ, ◌≤◌, max, List, [], ◌∷◌, ◌++◌, ap, subst, ◌∙◌, arith}
use Rattle.std.specs.Prelude.{◌==◌}
use Rattle.turn_orders.specs.Lists.{Each}
use Rattle.turn_orders.specs.Machine.{State, Turn, next, after}
use Rattle.turn_orders.specs.LineUp.{Deed, calls, of_thread, of_place, LocalsFollow, ValuesFollow, last_local, last_value, IsTurn, IsLineUp, Draws, greatest, IsStampedAfter}
use Rattle.turn_orders.proofs.Members.{filter_each, filter_append, each_parts}
use Rattle.turn_orders.proofs.Runs.{line_step, ends_local, ends_value}
use Rattle.turn_orders.proofs.Sorting.{drawn_local, drawn_place}

module _ {L O A T : Type 0} (turn : Turn L O A T) where
  -- the deed at a place of the list
  pub line_at : (m : State L O) (early : List (Deed L O A T)) (d : Deed L O A T) (late : List (Deed L O A T)) → IsLineUp turn m (early ++ d ∷ late)
      → IsLineUp turn (after turn m (calls early)) (d ∷ late)
  line_at m [] d late h = h
  line_at m (e ∷ early) d late h = line_at (next turn m e.call) early d late (line_step turn m e (early ++ d ∷ late) h).3

  -- each found is the state after the ones before it
  pub found_at : (m : State L O) (early : List (Deed L O A T)) (d : Deed L O A T) (late : List (Deed L O A T)) → IsLineUp turn m (early ++ d ∷ late)
      → ((after turn m (calls early)).local d.call.thread ≡ d.local_found) × ((after turn m (calls early)).value d.call.place ≡ d.found) × IsTurn turn d
  found_at m early d late h =
      let r = line_at m early d late h in
      let s = line_step turn (after turn m (calls early)) d late r in
      (s.0, s.1, r.turns.0)

  pub locals_parts : (l : L) (xs ys : List (Deed L O A T)) → LocalsFollow l (xs ++ ys) → LocalsFollow l xs × LocalsFollow (last_local l xs) ys
  locals_parts l [] ys h = (tt, h)
  locals_parts l (x ∷ xs) ys h = let r = locals_parts x.local_left xs ys h.1 in ((h.0, r.0), r.1)

  pub values_parts : (x : O) (xs ys : List (Deed L O A T)) → ValuesFollow x (xs ++ ys) → ValuesFollow x xs × ValuesFollow (last_value x xs) ys
  values_parts x [] ys h = (tt, h)
  values_parts x (d ∷ xs) ys h = let r = values_parts d.left xs ys h.1 in ((h.0, r.0), r.1)

  pub front_line : (m : State L O) (early late : List (Deed L O A T)) → IsLineUp turn m (early ++ late) → IsLineUp turn m early
  front_line m early late h = record {
    turns = (each_parts (IsTurn turn) early late h.turns).0;
    locals = λ t. (locals_parts (m.local t) (of_thread t early) (of_thread t late) (subst (LocalsFollow (m.local t)) (filter_append (λ (e : Deed L O A T). e.call.thread == t) early late) (h.locals t))).0;
    values = λ k. (values_parts (m.value k) (of_place k early) (of_place k late) (subst (ValuesFollow (m.value k)) (filter_append (λ (e : Deed L O A T). e.call.place == k) early late) (h.values k))).0;
  }

  module _ (local_stamp : L → ℕ) (value_stamp : O → ℕ) (w : Draws turn local_stamp value_stamp) where
    own_last : (l : L) (ds : List (Deed L O A T)) → Each (IsTurn turn) ds → LocalsFollow l ds → local_stamp (last_local l ds) ≡ max (local_stamp l) (greatest local_stamp ds)
    own_last l [] h f = omega arith
    own_last l (d ∷ ds) h f =
        let r = own_last d.local_left ds h.1 f.1 in
        let e = drawn_local turn local_stamp value_stamp w d h.0 in
        let q = ap local_stamp f.0 in
        omega arith

    its_last : (x : O) (ds : List (Deed L O A T)) → Each (IsTurn turn) ds → ValuesFollow x ds → value_stamp (last_value x ds) ≡ max (value_stamp x) (greatest local_stamp ds)
    its_last x [] h f = omega arith
    its_last x (d ∷ ds) h f =
        let r = its_last d.left ds h.1 f.1 in
        let e = drawn_local turn local_stamp value_stamp w d h.0 in
        let g = drawn_place turn local_stamp value_stamp w d h.0 in
        let q = ap value_stamp f.0 in
        omega arith

    front : (m : State L O) (early late : List (Deed L O A T)) → IsLineUp turn m (early ++ late) → ((t : ℕ) → local_stamp ((after turn m (calls early)).local t) ≡ max (local_stamp (m.local t)) (greatest local_stamp (of_thread t early))) × ((k : ℕ) → value_stamp ((after turn m (calls early)).value k) ≡ max (value_stamp (m.value k)) (greatest local_stamp (of_place k early)))
    front m early late h =
        let l = front_line m early late h in (
          (λ t. ap local_stamp (ends_local turn m early l t) ∙ own_last (m.local t) (of_thread t early) (filter_each (IsTurn turn) (λ (e : Deed L O A T). e.call.thread == t) early l.turns) (l.locals t)),
          (λ k. ap value_stamp (ends_value turn m early l k) ∙ its_last (m.value k) (of_place k early) (filter_each (IsTurn turn) (λ (e : Deed L O A T). e.call.place == k) early l.turns) (l.values k)),
        )

    pub stamped : (m : State L O) (base : ℕ) (early : List (Deed L O A T)) (d : Deed L O A T) (late : List (Deed L O A T)) → ((t : ℕ) → local_stamp (m.local t) ≡ base) → ((k : ℕ) → value_stamp (m.value k) ≤ base)
        → IsLineUp turn m (early ++ d ∷ late) → IsStampedAfter local_stamp base early d
    stamped m base early d late a b h =
        let s = found_at m early d late h in
        let f = front m early (d ∷ late) h in
        let e = drawn_local turn local_stamp value_stamp w d s.2 in
        let p = ap local_stamp s.0 in
        let q = ap value_stamp s.1 in
        let x = f.0 d.call.thread in
        let y = f.1 d.call.place in
        let u = a d.call.thread in
        let v = b d.call.place in
        omega arith
