-- The turns of deeds in a past, and what the order of a sorted list says of them.
use Rattle.std.proofs.Common.{◌≡◌, ℕ, ◌+◌, ◌<◌, List, [], ◌∷◌, ◌++◌, length, None, Some, inl, inr, refl, sym, ap, ◌∙◌, subst, arith, eq-eqb}
use Rattle.std.specs.Prelude.{◌==◌}
use mathlib.Core.Logic.{dite}
use native.Mathlib.Decide.{ℕ_discrete}
use Rattle.shared_table.specs.declared.object.Object.{Object}
use Rattle.shared_table.specs.declared.view.Layout.{Layout}
use Rattle.shared_table.specs.declared.view.Item.{Item}
use Rattle.shared_table.specs.declared.view.Item.TheVariants.{Split, Join, Take, Give, Load, Store}
use Rattle.shared_table.specs.Layouts.{objects_of}
use Rattle.shared_table.specs.Past.{Past, Turns, turns_at, turns_of, log_of, Lawful}
use Rattle.shared_table.proofs.Pasts.{if_here, if_else}
use Rattle.turn_orders.specs.Lists.{Each, In, InOrder, SameMembers}
use Rattle.turn_orders.specs.Machine.{State}
use Rattle.turn_orders.specs.LineUp.{Deed, of_place, stamp, IsSorted}
use Rattle.turn_orders.proofs.Members.{filter_here, filter_append, filter_each, each_parts, at_member, in_filter}
use Rattle.woven_turns.specs.Steps.{Stands, Raises, AllRaise}
use Rattle.woven_turns.specs.Weave.{Tags, IsTagged, weave, Worked}
use Rattle.woven_turns.specs.Turns.{DrewStamp, TurnOf}
use Rattle.woven_turns.proofs.Standing.{step_by, stands_len, stands_more, stands_further, lawful_at, given_before_taken}
use Rattle.woven_turns.proofs.Weaving.{in_parts, in_right, AreTagged, place_deeds, place_all, tagged, public_woven}
use Rattle.woven_turns.proofs.Sorting.{Lower, rise_place, same_order}

module _ (lay : Layout) where
  -- who has the open turn took it
  pub taken_at : (k n : ℕ) (past : Past) → Lawful lay past → (turns_of lay k past).by ≡ Some n → (e : Past) × Stands past e (n, Take k ((turns_of lay k past).done + 1))
  taken_at k n [] h q = absurd (cc)
  taken_at k n ((m, Split j) ∷ past) h q = let r = taken_at k n past h.2 q in (r.0, inr r.1)
  taken_at k n ((m, Join j) ∷ past) h q = let r = taken_at k n past h.2 q in (r.0, inr r.1)
  taken_at k n ((m, Load c w) ∷ past) h q = let r = taken_at k n past h.2 q in (r.0, inr r.1)
  taken_at k n ((m, Store c w) ∷ past) h q = let r = taken_at k n past h.2 q in (r.0, inr r.1)
  taken_at k n ((m, Take j i) ∷ past) h q = let st : Turns = turns_of lay k past in dite (ℕ_discrete j k)
      (λ e. let s : turns_of lay k ((m, Take j i) ∷ past) ≡ turns_at st.done st.value (Some m) = if_here j k (turns_at st.done st.value (Some m)) st e in
      let by : Some m ≡ Some n = sym (ap (λ (z : Turns). z.by) s) ∙ q in
      let same : m ≡ n = cc in
      let num : i ≡ st.done + 1 = subst (λ (z : ℕ). i ≡ (turns_of lay z past).done + 1) e h.1.2 in
      let num' : i ≡ (turns_of lay k ((m, Take j i) ∷ past)).done + 1 = num ∙ ap (λ (z : Turns). z.done + 1) (sym s) in
      (past, inl (ap (λ (z : ℕ). step_by z (Take j i)) same ∙ (ap (λ (z : ℕ). step_by n (Take z i)) e ∙ ap (λ (z : ℕ). step_by n (Take k z)) num'), refl)))
      (λ o. let s = if_else j k (turns_at st.done st.value (Some m)) st o in
      let r = taken_at k n past h.2 (sym (ap (λ (z : Turns). z.by) s) ∙ q) in
      (r.0, inr (subst (λ (z : Turns). Stands past r.0 (n, Take k (z.done + 1))) (sym s) r.1)))
  taken_at k n ((m, Give j i f l) ∷ past) h q = let st : Turns = turns_of lay k past in dite (ℕ_discrete j k)
      (λ e. absurd (let s = ap (λ (z : Turns). z.by) (if_here j k (turns_at (st.done + 1) (Some l) None) st e) in let t : None ≡ Some n = sym s ∙ q in cc))
      (λ o. let s = if_else j k (turns_at (st.done + 1) (Some l) None) st o in
      let r = taken_at k n past h.2 (sym (ap (λ (z : Turns). z.by) s) ∙ q) in
      (r.0, inr (subst (λ (z : Turns). Stands past r.0 (n, Take k (z.done + 1))) (sym s) r.1)))

  -- each give ends a turn
  pub turn_at : (past e : Past) (k n i : ℕ) (f l : Object) → Lawful lay past → Stands past e (n, Give k i f l) → (t : Past) × Stands past t (n, Take k i) × (length t < length e)
  turn_at past e k n i f l h s =
      let a = lawful_at lay past e (n, Give k i f l) h s in
      let t = taken_at k n e a.1 a.0.1 in
      let t' : Stands e t.0 (n, Take k i) = subst (λ (z : ℕ). Stands e t.0 (n, Take k z)) (sym a.0.2) t.1 in
      (t.0, stands_further past e t.0 (n, Give k i f l) (n, Take k i) s t', stands_len e t.0 (n, Take k i) t')

  module _ {L A T : Type 0} (tag : Tags L A T) where
    -- a deed at an item is that of a give
    tagged_give : (x : Item) (ds : List (Deed L Object A T)) (d : Deed L Object A T) → IsTagged x ds → In d ds → (i : ℕ) × (x ≡ Give d.call.place i d.found d.left)
    tagged_give (Give k i f l) [] d t j = absurd j
    tagged_give (Give k i f l) (e ∷ (e' ∷ ds)) d t j = absurd t
    tagged_give (Give k i f l) (e ∷ []) d t (inr j) = absurd j
    tagged_give (Give k i f l) (e ∷ []) d t (inl q) = (i, ap (λ (z : ℕ). Give z i f l) (sym (ap (λ (z : Deed L Object A T). z.call.place) q ∙ t.0)) ∙ (ap (λ (z : Object). Give d.call.place i z l) (sym (ap (λ (z : Deed L Object A T). z.found) q ∙ t.1)) ∙ ap (λ (z : Object). Give d.call.place i d.found z) (sym (ap (λ (z : Deed L Object A T). z.left) q ∙ t.2))))
    tagged_give (Take k i) ds d t j = absurd (subst (In d) t j)
    tagged_give (Split m) ds d t j = absurd (subst (In d) t j)
    tagged_give (Join m) ds d t j = absurd (subst (In d) t j)
    tagged_give (Load c w) ds d t j = absurd (subst (In d) t j)
    tagged_give (Store c w) ds d t j = absurd (subst (In d) t j)

    give_of : (d : Deed L Object A T) (past : Past) → AreTagged tag past → In d (weave tag past) → (n : ℕ) × (i : ℕ) × (e : Past) × Stands past e (n, Give d.call.place i d.found d.left) × In d (tag n (length (log_of n e)))
    give_of d [] t i = absurd i
    give_of d (x ∷ past) t i = elim (in_parts d (weave tag past) (tag x.0 (length (log_of x.0 past))) i) [
      | inl j ↦ let r = give_of d past t.1 j in (r.0, r.1, r.2, inr r.3, r.4)
      | inr j ↦ let r = tagged_give x.1 (tag x.0 (length (log_of x.0 past))) d t.0 j in (x.0, r.0, past, inl (ap (step_by x.0) r.1, refl), j)
    ]

    -- each woven deed has its turn
    pub turn_of : (d : Deed L Object A T) (early late : Past) → Lawful lay (late ++ early) → AreTagged tag late → In d (weave tag late) → TurnOf tag early late d
    turn_of d early late h t i =
        let g = give_of d late t i in
        let s = stands_more late early g.2 (g.0, Give d.call.place g.1 d.found d.left) g.3 in
        let k = turn_at (late ++ early) (g.2 ++ early) d.call.place g.0 g.1 d.found d.left h s in
        record { seat = g.0; number = g.1; taken = k.0; made = g.2; take = k.1; give = g.3; told = g.4; order = k.2 }

    module _ (local_stamp : L → ℕ) (value_stamp : Object → ℕ) where
      raises : (x : Item) (ds : List (Deed L Object A T)) → IsTagged x ds → Each (DrewStamp local_stamp value_stamp) ds → Raises value_stamp x
      raises (Give k i f l) [] t w = let q = ap value_stamp t in omega arith
      raises (Give k i f l) (d ∷ []) t w = let a = w.0.same in let b = w.0.above_value in let p = ap value_stamp t.1 in let q = ap value_stamp t.2 in omega arith
      raises (Give k i f l) (d ∷ (e ∷ ds)) t w = absurd t
      raises (Take k i) ds t w = tt
      raises (Split m) ds t w = tt
      raises (Join m) ds t w = tt
      raises (Load c v) ds t w = tt
      raises (Store c v) ds t w = tt

      -- where deeds draw stamps, no give lowers its object's
      pub all_raise : (late : Past) → AreTagged tag late → Each (DrewStamp local_stamp value_stamp) (weave tag late) → AllRaise value_stamp late
      all_raise [] t w = tt
      all_raise (x ∷ late) t w =
          let p = each_parts (DrewStamp local_stamp value_stamp) (weave tag late) (tag x.0 (length (log_of x.0 late))) w in
          (raises x.1 (tag x.0 (length (log_of x.0 late))) t.0 p.1, all_raise late t.1 p.0)

      module _ (m : State L Object) (early late : Past) (seat : ℕ → ℕ) (alone : List (Deed L Object A T)) (h : Lawful lay (late ++ early)) (w : Worked lay m early late tag seat alone) (drew : Each (DrewStamp local_stamp value_stamp) (weave tag late)) where
        marks : AreTagged tag late
        marks = tagged tag lay m early late seat alone w

        -- the deeds of an object are in a sorted list as they were made
        pub listed_place : (ys : List (Deed L Object A T)) (k : ℕ) → IsSorted local_stamp ys → SameMembers (weave tag late ++ alone) ys → k < objects_of lay → (of_place k ys ≡ of_place k (weave tag late)) × InOrder (Lower local_stamp value_stamp) (of_place k (weave tag late))
        listed_place ys k sorted same lt =
            let follow = (place_deeds tag lay k (m.value k) early late h marks (w.values k lt)).0 in
            let rise = (rise_place local_stamp value_stamp (m.value k) (of_place k (weave tag late)) (filter_each (DrewStamp local_stamp value_stamp) (λ (e : Deed L Object A T). e.call.place == k) (weave tag late) drew) follow).1 in
            let all = place_all tag lay m early late seat alone w k lt in
            (sym (same_order local_stamp value_stamp (λ (e : Deed L Object A T). e.call.place == k) (weave tag late ++ alone) ys (subst (InOrder (Lower local_stamp value_stamp)) (sym all) rise) sorted same) ∙ all, rise)

        tail_order : (R : Deed L Object A T → Deed L Object A T → Type 0) (us vs : List (Deed L Object A T)) → InOrder R (us ++ vs) → InOrder R vs
        tail_order R [] vs o = o
        tail_order R (u ∷ us) vs o = tail_order R us vs o.1

        -- of two deeds of one object that follow one another in the sorted list, the first one's turn was over before the second one's began
        pub given_order : (a b c : List (Deed L Object A T)) (d e : Deed L Object A T) → IsSorted local_stamp (a ++ d ∷ (b ++ e ∷ c)) → SameMembers (weave tag late ++ alone) (a ++ d ∷ (b ++ e ∷ c))
            → d.call.place ≡ e.call.place → (x : TurnOf tag early late d) (y : TurnOf tag early late e) → length (x.made ++ early) < length y.taken
        given_order a b c d e sorted same q x y = less
          where
            public : d.call.place < objects_of lay
            public = (lawful_at lay (late ++ early) (x.made ++ early) (x.seat, Give d.call.place x.number d.found d.left) h (stands_more late early x.made (x.seat, Give d.call.place x.number d.found d.left) x.give)).0.0

            d_in : In d (a ++ d ∷ (b ++ e ∷ c))
            d_in = in_right d a (d ∷ (b ++ e ∷ c)) (inl refl)

            e_in : In e (a ++ d ∷ (b ++ e ∷ c))
            e_in = in_right e a (d ∷ (b ++ e ∷ c)) (inr (in_right e b (e ∷ c) (inl refl)))

            drew_at : (z : Deed L Object A T) → z.call.place < objects_of lay → In z (a ++ d ∷ (b ++ e ∷ c)) → DrewStamp local_stamp value_stamp z
            drew_at z lt i = at_member (DrewStamp local_stamp value_stamp) z (weave tag late) drew (public_woven tag lay m early late seat alone w (a ++ d ∷ (b ++ e ∷ c)) z same lt i)

            rising : InOrder (Lower local_stamp value_stamp) (of_place d.call.place (a ++ d ∷ (b ++ e ∷ c)))
            rising = let r = listed_place (a ++ d ∷ (b ++ e ∷ c)) d.call.place sorted same public in subst (InOrder (Lower local_stamp value_stamp)) (sym r.0) r.1

            split : of_place d.call.place (a ++ d ∷ (b ++ e ∷ c)) ≡ of_place d.call.place a ++ d ∷ of_place d.call.place (b ++ e ∷ c)
            split = filter_append (λ (z : Deed L Object A T). z.call.place == d.call.place) a (d ∷ (b ++ e ∷ c)) ∙ ap (λ (z : List (Deed L Object A T)). of_place d.call.place a ++ z) (filter_here (λ (z : Deed L Object A T). z.call.place == d.call.place) d (b ++ e ∷ c) (eq-eqb d.call.place d.call.place refl))

            lower : stamp local_stamp d < stamp local_stamp e
            lower =
                let o = tail_order (Lower local_stamp value_stamp) (of_place d.call.place a) (d ∷ of_place d.call.place (b ++ e ∷ c)) (subst (InOrder (Lower local_stamp value_stamp)) split rising) in
                at_member (λ (v : Deed L Object A T). stamp local_stamp d < stamp local_stamp v) e (of_place d.call.place (b ++ e ∷ c)) o.0
                (in_filter (λ (z : Deed L Object A T). z.call.place == d.call.place) e (b ++ e ∷ c) (in_right e b (e ∷ c) (inl refl)) (eq-eqb e.call.place d.call.place (sym q)))

            left_lower : value_stamp d.left < value_stamp e.left
            left_lower =
                let r = (drew_at d public d_in).same in
                let s = (drew_at e (subst (λ (z : ℕ). z < objects_of lay) q public) e_in).same in
                let l = lower in omega arith

            less : length (x.made ++ early) < length y.taken
            less = given_before_taken lay value_stamp early late x.made y.made y.taken d.call.place x.seat y.seat x.number y.number d.found d.left e.found e.left h (all_raise late marks drew) x.give
                (subst (λ (z : ℕ). Stands late y.made (y.seat, Give z y.number e.found e.left)) (sym q) y.give)
                (subst (λ (z : ℕ). Stands (late ++ early) y.taken (y.seat, Take z y.number)) (sym q) y.take) left_lower
