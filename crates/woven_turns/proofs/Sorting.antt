-- Deeds that drew stamps, sorted by them, are those of each thread and those at each place in the order in which they were made.
use Rattle.std.proofs.Common.{◌≡◌, ℕ, ◌<◌, ◌≤◌, List, [], ◌∷◌, ◌⊎◌, inl, inr, refl, sym, ap, subst, ◌∙◌, arith}
use Rattle.std.specs.Prelude.{◌==◌, filter, Bool}
use Rattle.turn_orders.specs.Lists.{Each, In, InOrder, SameMembers}
use Rattle.turn_orders.specs.Machine.{State, Turn}
use Rattle.turn_orders.specs.LineUp.{Deed, of_thread, of_place, LocalsFollow, ValuesFollow, IsTurn, IsLineUp, Draws, stamp, Before, IsSorted}
use Rattle.turn_orders.proofs.Members.{filter_each, filter_order, same_filter, same_list, at_member, all_members}
use Rattle.turn_orders.proofs.Sorting.{drawn_local, drawn_place}
use Rattle.woven_turns.specs.Weave.{LinesUp}
use Rattle.woven_turns.specs.Turns.{DrewStamp}

module _ {L O A T : Type 0} (local_stamp : L → ℕ) (value_stamp : O → ℕ) where
  -- the deed has the lesser stamp
  abbrev pub Lower : Deed L O A T → Deed L O A T → Type 0
  Lower d e = stamp local_stamp d < stamp local_stamp e

  abbrev pub Drew : Deed L O A T → Type 0
  Drew = DrewStamp local_stamp value_stamp

  above : (n m : ℕ) (ds : List (Deed L O A T)) → n ≤ m → Each (λ d. m < stamp local_stamp d) ds → Each (λ d. n < stamp local_stamp d) ds
  above n m [] l h = tt
  above n m (d ∷ ds) l h = (let a = h.0 in omega arith, above n m ds l h.1)

  -- along a thread stamps rise
  pub rise_local : (l : L) (ds : List (Deed L O A T)) → Each Drew ds → LocalsFollow l ds → Each (λ d. local_stamp l < stamp local_stamp d) ds × InOrder Lower ds
  rise_local l [] h f = (tt, tt)
  rise_local l (d ∷ ds) h f =
      let e = h.0.above_local in
      let q = ap local_stamp f.0 in
      let r = rise_local d.local_left ds h.1 f.1 in
      let lt : local_stamp l < stamp local_stamp d = omega arith in
      let le : local_stamp l ≤ local_stamp d.local_left = omega arith in
      ((lt, above (local_stamp l) (local_stamp d.local_left) ds le r.0), (r.0, r.1))

  -- and along a place
  pub rise_place : (x : O) (ds : List (Deed L O A T)) → Each Drew ds → ValuesFollow x ds → Each (λ d. value_stamp x < stamp local_stamp d) ds × InOrder Lower ds
  rise_place x [] h f = (tt, tt)
  rise_place x (d ∷ ds) h f =
      let e = h.0.above_value in
      let g = h.0.same in
      let q = ap value_stamp f.0 in
      let r = rise_place d.left ds h.1 f.1 in
      let lt : value_stamp x < stamp local_stamp d = omega arith in
      let le : value_stamp x ≤ value_stamp d.left = omega arith in
      let le' : local_stamp d.local_left ≤ value_stamp d.left = omega arith in
      ((lt, above (value_stamp x) (value_stamp d.left) ds le r.0), (above (local_stamp d.local_left) (value_stamp d.left) ds le' r.0, r.1))

  lower_one : (d e : Deed L O A T) → Lower d e → Lower e d → ⊥
  lower_one d e a b = omega arith

  -- in a sorted list, deeds that can't have one stamp are in the order of stamps
  sorted_lower : (ds : List (Deed L O A T)) → IsSorted local_stamp ds → ((d e : Deed L O A T) → In d ds → In e ds → Before local_stamp d e → Lower d e) → InOrder Lower ds
  sorted_lower [] s f = tt
  sorted_lower (d ∷ ds) s f = (
    all_members (Lower d) ds (λ e i. f d e (inl refl) (inr i) (at_member (Before local_stamp d) e ds s.0 i)),
    sorted_lower ds s.1 (λ a b i j. f a b (inr i) (inr j)),
  )

  -- two members of a list in order of stamps have two stamps, or are one
  one_of : (ds : List (Deed L O A T)) → InOrder Lower ds → (d e : Deed L O A T) → In d ds → In e ds → Lower d e ⊎ (Lower e d ⊎ (d ≡ e))
  one_of [] h d e i j = absurd i
  one_of (x ∷ xs) h d e (inl p) (inl q) = inr (inr (p ∙ sym q))
  one_of (x ∷ xs) h d e (inl p) (inr j) = inl (subst (λ (z : Deed L O A T). Lower z e) (sym p) (at_member (Lower x) e xs h.0 j))
  one_of (x ∷ xs) h d e (inr i) (inl q) = inr (inl (subst (λ (z : Deed L O A T). Lower z d) (sym q) (at_member (Lower x) d xs h.0 i)))
  one_of (x ∷ xs) h d e (inr i) (inr j) = one_of xs h.1 d e i j

  before_lower : (d e : Deed L O A T) → Before local_stamp d e → Lower d e ⊎ (Lower e d ⊎ (d ≡ e)) → Lower d e
  before_lower d e b (inl a) = a
  before_lower d e (inl a) (inr (inl c)) = a
  before_lower d e (inr a) (inr (inl c)) = absurd (let p = a.0 in omega arith)
  before_lower d e (inl a) (inr (inr q)) = a
  before_lower d e (inr a) (inr (inr q)) = absurd (let p = a.1 in let r = ap (λ (z : Deed L O A T). z.call.thread) q in omega arith)

  -- deeds in the order of stamps, and a sorted list of the same
  pub same_order : (p : Deed L O A T → Bool) (xs ys : List (Deed L O A T)) → InOrder Lower (filter p xs) → IsSorted local_stamp ys → SameMembers xs ys → filter p xs ≡ filter p ys
  same_order p xs ys o s same =
      let mem = same_filter p xs ys same in
      same_list Lower lower_one (filter p xs) (filter p ys) o
      (sorted_lower (filter p ys) (filter_order (Before local_stamp) p ys s)
      (λ d e i j b. before_lower d e b (one_of (filter p xs) o d e ((mem d).1 i) ((mem e).1 j))))
      mem

  module _ (m : State L O) (xs ys : List (Deed L O A T)) (w : Each Drew xs) (h : LinesUp m xs) (s : IsSorted local_stamp ys) (same : SameMembers xs ys) where
    pub same_thread : (t : ℕ) → of_thread t xs ≡ of_thread t ys
    same_thread t = same_order (λ (e : Deed L O A T). e.call.thread == t) xs ys (rise_local (m.local t) (of_thread t xs) (filter_each Drew (λ (e : Deed L O A T). e.call.thread == t) xs w) (h.locals t)).1 s same

    pub same_place : (k : ℕ) → of_place k xs ≡ of_place k ys
    same_place k = same_order (λ (e : Deed L O A T). e.call.place == k) xs ys (rise_place (m.value k) (of_place k xs) (filter_each Drew (λ (e : Deed L O A T). e.call.place == k) xs w) (h.values k)).1 s same

    pub sorted_line : LinesUp m ys
    sorted_line = record {
      locals = λ t. subst (LocalsFollow (m.local t)) (same_thread t) (h.locals t);
      values = λ k. subst (ValuesFollow (m.value k)) (same_place k) (h.values k);
    }

  -- the turn of a machine that draws stamps does so
  pub turn_drew : (turn : Turn L O A T) (d : Deed L O A T) → Draws turn local_stamp value_stamp → IsTurn turn d → Drew d
  turn_drew turn d w h =
      let e = drawn_local turn local_stamp value_stamp w d h in
      record { same = drawn_place turn local_stamp value_stamp w d h; above_local = omega arith; above_value = omega arith }

-- where each deed is a turn of a machine, it is the machine's line-up
pub machine_line : {L O A T : Type 0} (turn : Turn L O A T) (m : State L O) (ds : List (Deed L O A T)) → Each (IsTurn turn) ds → LinesUp m ds → IsLineUp turn m ds
machine_line turn m ds h w = record { turns = h; locals = w.locals; values = w.values }
