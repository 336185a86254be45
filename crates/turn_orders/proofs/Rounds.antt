-- Round after round.
use Rattle.std.proofs.Common.{◌≡◌, ℕ, ◌<◌, ◌≤◌, List, [], ◌∷◌, inl, inr, refl, sym, ap, subst, arith, eq-eqb}
use Rattle.std.specs.Prelude.{◌==◌}
use Rattle.turn_orders.specs.Lists.{Each, In}
use Rattle.turn_orders.specs.Machine.{State, Turn}
use Rattle.turn_orders.specs.LineUp.{Deed, of_thread, IsTurn, IsLineUp, Draws, stamp, Before, IsSorted, greatest, IsStampedAfter}
use Rattle.turn_orders.specs.Rounds.{Round, IsRound, AreRounds, AreStamped, Follows, top, made_end, listed_end, last_made, last_listed, history}
use Rattle.turn_orders.proofs.Members.{at_member, all_members, filter_each, in_filter, order_append, each_append}
use Rattle.turn_orders.proofs.Runs.{told_same}
use Rattle.turn_orders.proofs.Sorting.{sorted_line, same_end, rise_local}
use Rattle.turn_orders.proofs.Stamps.{stamped}

module _ {L O A T B : Type 0} (turn : Turn L O A T) (between : ℕ → B → State L O → State L O) (local_stamp : L → ℕ) (value_stamp : O → ℕ) (w : Draws turn local_stamp value_stamp) where
  line_of : (m : State L O) (r : Round L O A T B) → IsRound turn between local_stamp value_stamp m r → IsLineUp turn m r.listed
  line_of m r h = sorted_line turn local_stamp value_stamp m r.made r.listed w h.line h.sorted h.same

  -- the greatest stamp up to the round's end
  abbrev high : Round L O A T B → ℕ
  high r = top turn between local_stamp value_stamp r

  -- the next round's first state
  abbrev made : State L O → Round L O A T B → State L O
  made m r = made_end turn between local_stamp value_stamp m r

  abbrev listed : State L O → Round L O A T B → State L O
  listed m r = listed_end turn between local_stamp value_stamp m r

  pub follows : (base : ℕ) (m : State L O) (rs : List (Round L O A T B)) → AreRounds turn between local_stamp value_stamp base m rs
      → Follows turn between local_stamp value_stamp m rs × (last_listed turn between local_stamp value_stamp m rs ≡ last_made turn between local_stamp value_stamp m rs)
  follows base m [] h = (tt, refl)
  follows base m (r ∷ rs) (q, h, hs) =
      let same : listed m r ≡ made m r = ap (between (high r) r.ends) (same_end turn local_stamp value_stamp m r.made r.listed w h.line h.sorted h.same) in
      let rest = follows (high r) (made m r) rs hs in
      let back = λ (z : State L O). Follows turn between local_stamp value_stamp z rs × (last_listed turn between local_stamp value_stamp z rs ≡ last_made turn between local_stamp value_stamp (made m r) rs) in
      let both = subst back (sym same) rest in
      ((told_same turn m r.listed (line_of m r h), both.0), both.1)

  pub are_stamped : (base : ℕ) (m : State L O) (rs : List (Round L O A T B)) → AreRounds turn between local_stamp value_stamp base m rs → AreStamped turn between local_stamp value_stamp base rs
  are_stamped base m [] h = tt
  are_stamped base m (r ∷ rs) (q, h, hs) = (
    (λ early d late e.
        subst (λ (b : ℕ). IsStampedAfter local_stamp b early d) q
        (stamped turn local_stamp value_stamp w m r.base early d late h.start.threads h.start.places (subst (IsLineUp turn m) e (line_of m r h)))),
    are_stamped (high r) (made m r) rs hs,
  )

  most : (d : Deed L O A T) (ds : List (Deed L O A T)) → In d ds → stamp local_stamp d ≤ greatest local_stamp ds
  most d [] i = absurd i
  most d (e ∷ ds) (inl q) = let p = ap (stamp local_stamp) q in omega arith
  most d (e ∷ ds) (inr i) = let p = most d ds i in omega arith

  higher : (m : State L O) (r : Round L O A T B) → IsRound turn between local_stamp value_stamp m r → (d : Deed L O A T) → In d r.listed → r.base < stamp local_stamp d
  higher m r h d i =
      let l = line_of m r h in
      let p = λ (e : Deed L O A T). e.call.thread == d.call.thread in
      let up = rise_local turn local_stamp value_stamp w (m.local d.call.thread) (of_thread d.call.thread r.listed) (filter_each (IsTurn turn) p r.listed l.turns) (l.locals d.call.thread) in
      let here = at_member (λ (e : Deed L O A T). local_stamp (m.local d.call.thread) < stamp local_stamp e) d (of_thread d.call.thread r.listed) up.0 (in_filter p d r.listed i (eq-eqb d.call.thread d.call.thread refl)) in
      let s = h.start.threads d.call.thread in
      omega arith

  -- the whole history is sorted
  pub all_sorted : (base : ℕ) (m : State L O) (rs : List (Round L O A T B)) → AreRounds turn between local_stamp value_stamp base m rs
      → IsSorted local_stamp (history turn between local_stamp value_stamp rs) × Each (λ d. base < stamp local_stamp d) (history turn between local_stamp value_stamp rs)
  all_sorted base m [] h = (tt, tt)
  all_sorted base m (r ∷ rs) (q, h, hs) =
      let rest = all_sorted (high r) (made m r) rs hs in
      let late = history turn between local_stamp value_stamp rs in (
        order_append (Before local_stamp) r.listed late h.sorted rest.0
            (λ d e i j. inl (let a = most d r.listed i in let b = at_member (λ (x : Deed L O A T). high r < stamp local_stamp x) e late rest.1 j in omega arith)),
        each_append (λ (d : Deed L O A T). base < stamp local_stamp d) r.listed late
            (all_members (λ (d : Deed L O A T). base < stamp local_stamp d) r.listed (λ d i. let a = higher m r h d i in omega arith))
            (all_members (λ (d : Deed L O A T). base < stamp local_stamp d) late (λ d j. let b = at_member (λ (x : Deed L O A T). high r < stamp local_stamp x) d late rest.1 j in omega arith)),
      )
