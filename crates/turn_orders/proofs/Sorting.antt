-- Sorted by stamps, the deeds of a line-up are a line-up.
use Rattle.std.proofs.Common.{◌≡◌, ℕ, ◌+◌, ◌<◌, ◌≤◌, max, List, [], ◌∷◌, ◌⊎◌, inl, inr, refl, sym, ap, subst, ◌∙◌, arith}
use mathlib.Core.Path.{fun_ext}
use Rattle.std.specs.Prelude.{◌==◌}
use Rattle.turn_orders.specs.Lists.{Each, In, InOrder, SameMembers}
use Rattle.turn_orders.specs.Machine.{Outcome, State, Turn, after}
use Rattle.turn_orders.specs.LineUp.{Deed, calls, of_thread, of_place, LocalsFollow, ValuesFollow, last_local, last_value, IsTurn, IsLineUp, Draws, stamp, Before, IsSorted}
use Rattle.turn_orders.proofs.Members.{filter_each, filter_order, same_filter, same_list, at_member, all_members}
use Rattle.turn_orders.proofs.Runs.{ends_local, ends_value}

module _ {L O A T : Type 0} (turn : Turn L O A T) (local_stamp : L → ℕ) (value_stamp : O → ℕ) where
  abbrev Lower : Deed L O A T → Deed L O A T → Type 0
  Lower d e = stamp local_stamp d < stamp local_stamp e

  -- what a deed of a turn says of stamps
  pub drawn_local : Draws turn local_stamp value_stamp → (d : Deed L O A T) → IsTurn turn d → local_stamp d.local_left ≡ max (local_stamp d.local_found) (value_stamp d.found) + 1
  drawn_local w d h = ap (λ (o : Outcome L O T). local_stamp o.local) (sym h) ∙ w.in_local d.call.thread d.call.act d.local_found d.found

  pub drawn_place : Draws turn local_stamp value_stamp → (d : Deed L O A T) → IsTurn turn d → value_stamp d.left ≡ local_stamp d.local_left
  drawn_place w d h = ap (λ (o : Outcome L O T). value_stamp o.value) (sym h) ∙ (w.in_place d.call.thread d.call.act d.local_found d.found ∙ sym (drawn_local w d h))

  above : (n m : ℕ) (ds : List (Deed L O A T)) → n ≤ m → Each (λ d. m < stamp local_stamp d) ds → Each (λ d. n < stamp local_stamp d) ds
  above n m [] l h = tt
  above n m (d ∷ ds) l h = (let a = h.0 in omega arith, above n m ds l h.1)

  -- along a thread stamps rise
  pub rise_local : Draws turn local_stamp value_stamp → (l : L) (ds : List (Deed L O A T)) → Each (IsTurn turn) ds → LocalsFollow l ds → Each (λ d. local_stamp l < stamp local_stamp d) ds × InOrder Lower ds
  rise_local w l [] h f = (tt, tt)
  rise_local w l (d ∷ ds) h f =
      let e = drawn_local w d h.0 in
      let q = ap local_stamp f.0 in
      let r = rise_local w d.local_left ds h.1 f.1 in
      let lt : local_stamp l < stamp local_stamp d = omega arith in
      let le : local_stamp l ≤ local_stamp d.local_left = omega arith in
      ((lt, above (local_stamp l) (local_stamp d.local_left) ds le r.0), (r.0, r.1))

  -- and along a place
  pub rise_place : Draws turn local_stamp value_stamp → (x : O) (ds : List (Deed L O A T)) → Each (IsTurn turn) ds → ValuesFollow x ds → Each (λ d. value_stamp x < stamp local_stamp d) ds × InOrder Lower ds
  rise_place w x [] h f = (tt, tt)
  rise_place w x (d ∷ ds) h f =
      let e = drawn_local w d h.0 in
      let g = drawn_place w d h.0 in
      let q = ap value_stamp f.0 in
      let r = rise_place w d.left ds h.1 f.1 in
      let lt : value_stamp x < stamp local_stamp d = omega arith in
      let le : value_stamp x ≤ value_stamp d.left = omega arith in
      let le' : local_stamp d.local_left ≤ value_stamp d.left = omega arith in
      ((lt, above (value_stamp x) (value_stamp d.left) ds le r.0), (above (local_stamp d.local_left) (value_stamp d.left) ds le' r.0, r.1))

  lower_one : (d e : Deed L O A T) → Lower d e → Lower e d → ⊥
  lower_one d e a b = omega arith

  -- in a sorted list, entries that can't have one stamp are in the order of stamps
  sorted_lower : (ds : List (Deed L O A T)) → IsSorted local_stamp ds → ((d e : Deed L O A T) → In d ds → In e ds → Before local_stamp d e → Lower d e) → InOrder Lower ds
  sorted_lower [] s f = tt
  sorted_lower (d ∷ ds) s f = (
    all_members (Lower d) ds (λ e i. f d e (inl refl) (inr i) (at_member (Before local_stamp d) e ds s.0 i)),
    sorted_lower ds s.1 (λ a b i j. f a b (inr i) (inr j)),
  )

  -- two members of a list in order of stamps have two stamps, or are one
  one_of : (ds : List (Deed L O A T)) → InOrder Lower ds → (d e : Deed L O A T) → In d ds → In e ds → Lower d e ⊎ (Lower e d ⊎ (d ≡ e))
  one_of [] h d e i j = absurd i
  one_of (x ∷ xs) h d e (inl p) (inl q) = inr (inr (p ∙ sym q))
  one_of (x ∷ xs) h d e (inl p) (inr j) = inl (subst (λ (z : Deed L O A T). Lower z e) (sym p) (at_member (Lower x) e xs h.0 j))
  one_of (x ∷ xs) h d e (inr i) (inl q) = inr (inl (subst (λ (z : Deed L O A T). Lower z d) (sym q) (at_member (Lower x) d xs h.0 i)))
  one_of (x ∷ xs) h d e (inr i) (inr j) = one_of xs h.1 d e i j

  before_lower : (d e : Deed L O A T) → Before local_stamp d e → Lower d e ⊎ (Lower e d ⊎ (d ≡ e)) → Lower d e
  before_lower d e b (inl a) = a
  before_lower d e (inl a) (inr (inl c)) = a
  before_lower d e (inr a) (inr (inl c)) = absurd (let p = a.0 in omega arith)
  before_lower d e (inl a) (inr (inr q)) = a
  before_lower d e (inr a) (inr (inr q)) = absurd (let p = a.1 in let r = ap (λ (z : Deed L O A T). z.call.thread) q in omega arith)

  module _ (m : State L O) (xs ys : List (Deed L O A T)) (w : Draws turn local_stamp value_stamp) (h : IsLineUp turn m xs) (s : IsSorted local_stamp ys) (same : SameMembers xs ys) where
    xs_thread : (t : ℕ) → InOrder Lower (of_thread t xs)
    xs_thread t = (rise_local w (m.local t) (of_thread t xs) (filter_each (IsTurn turn) (λ (e : Deed L O A T). e.call.thread == t) xs h.turns) (h.locals t)).1

    xs_place : (k : ℕ) → InOrder Lower (of_place k xs)
    xs_place k = (rise_place w (m.value k) (of_place k xs) (filter_each (IsTurn turn) (λ (e : Deed L O A T). e.call.place == k) xs h.turns) (h.values k)).1

    pub same_thread : (t : ℕ) → of_thread t xs ≡ of_thread t ys
    same_thread t =
        let mem = same_filter (λ (e : Deed L O A T). e.call.thread == t) xs ys same in
        same_list Lower lower_one (of_thread t xs) (of_thread t ys) (xs_thread t)
        (sorted_lower (of_thread t ys) (filter_order (Before local_stamp) (λ (e : Deed L O A T). e.call.thread == t) ys s)
        (λ d e i j b. before_lower d e b (one_of (of_thread t xs) (xs_thread t) d e ((mem d).1 i) ((mem e).1 j))))
        mem

    pub same_place : (k : ℕ) → of_place k xs ≡ of_place k ys
    same_place k =
        let mem = same_filter (λ (e : Deed L O A T). e.call.place == k) xs ys same in
        same_list Lower lower_one (of_place k xs) (of_place k ys) (xs_place k)
        (sorted_lower (of_place k ys) (filter_order (Before local_stamp) (λ (e : Deed L O A T). e.call.place == k) ys s)
        (λ d e i j b. before_lower d e b (one_of (of_place k xs) (xs_place k) d e ((mem d).1 i) ((mem e).1 j))))
        mem

    pub sorted_line : IsLineUp turn m ys
    sorted_line = record {
      turns = all_members (IsTurn turn) ys (λ d i. at_member (IsTurn turn) d xs h.turns ((same d).1 i));
      locals = λ t. subst (LocalsFollow (m.local t)) (same_thread t) (h.locals t);
      values = λ k. subst (ValuesFollow (m.value k)) (same_place k) (h.values k);
    }

    pub same_end : after turn m (calls ys) ≡ after turn m (calls xs)
    same_end =
        let l : (after turn m (calls ys)).local ≡ (after turn m (calls xs)).local = fun_ext (λ t. ends_local turn m ys sorted_line t ∙ (ap (last_local (m.local t)) (sym (same_thread t)) ∙ sym (ends_local turn m xs h t))) in
        let v : (after turn m (calls ys)).value ≡ (after turn m (calls xs)).value = fun_ext (λ k. ends_value turn m ys sorted_line k ∙ (ap (last_value (m.value k)) (sym (same_place k)) ∙ sym (ends_value turn m xs h k))) in
        λ i. record { local = l i; value = v i }
