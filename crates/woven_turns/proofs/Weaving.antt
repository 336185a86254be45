-- The deeds of a past line up.
use Rattle.std.proofs.Common.{◌≡◌, ◌≢◌, ℕ, suc, ◌+◌, ◌<◌, ◌≤◌, Bool, true, false, List, [], ◌∷◌, ◌++◌, length, None, Some, ◌⊎◌, inl, inr, refl, sym, ap, ◌∙◌, subst, arith, append-nil, eq-eqb, ne_eqb}
use Rattle.std.specs.Prelude.{◌==◌, filter}
use Rattle.std.proofs.lemmas.Bool.{cases_lt}
use mathlib.Core.Logic.{dite}
use mathlib.Core.Option.{some}
use native.Mathlib.Decide.{ℕ_discrete}
use lib.ListN.{get_elem?}
use Rattle.atomic_table.proofs.Lists.{at_longer, at_last}
use Rattle.shared_table.specs.declared.object.Object.{Object}
use Rattle.shared_table.specs.declared.view.Layout.{Layout}
use Rattle.shared_table.specs.declared.view.Item.{Item}
use Rattle.shared_table.specs.declared.view.Item.TheVariants.{Split, Join, Take, Give, Load, Store}
use Rattle.shared_table.specs.Layouts.{objects_of}
use Rattle.shared_table.specs.Past.{Slot, Log, Past, Turns, turns_at, turns_of, log_of, Allowed, Lawful}
use Rattle.shared_table.proofs.Pasts.{if_here, if_else, log_mine, log_else}
use Rattle.turn_orders.specs.Lists.{Each, In, SameMembers}
use Rattle.turn_orders.specs.Machine.{State}
use Rattle.turn_orders.specs.LineUp.{Deed, of_thread, of_place, LocalsFollow, ValuesFollow, last_value}
use Rattle.turn_orders.proofs.Members.{filter_here, filter_not, filter_append, each_append, at_member, all_members}
use Rattle.woven_turns.specs.Weave.{Tags, LinesUp, IsTagged, weave, first_deeds, WasTold, IsSeatOfThread, Worked}

module _ {X : Type 0} where
  filter_all : (p : X → Bool) (xs : List X) → Each (λ x. p x ≡ true) xs → filter p xs ≡ xs
  filter_all p [] h = refl
  filter_all p (x ∷ xs) h = filter_here p x xs h.0 ∙ ap (λ (z : List X). x ∷ z) (filter_all p xs h.1)

  filter_none : (p : X → Bool) (xs : List X) → Each (λ x. p x ≡ false) xs → filter p xs ≡ []
  filter_none p [] h = refl
  filter_none p (x ∷ xs) h = filter_not p x xs h.0 ∙ filter_none p xs h.1

  len_more : (xs : List X) (x : X) → length (xs ++ x ∷ []) ≡ suc (length xs)
  len_more [] x = refl
  len_more (y ∷ xs) x = ap suc (len_more xs x)

  pub in_parts : (x : X) (xs ys : List X) → In x (xs ++ ys) → In x xs ⊎ In x ys
  in_parts x [] ys i = inr i
  in_parts x (y ∷ xs) ys (inl e) = inl (inl e)
  in_parts x (y ∷ xs) ys (inr i) = elim (in_parts x xs ys i) [ inl j ↦ inl (inr j) | inr j ↦ inr j ]

  pub in_left : (x : X) (xs ys : List X) → In x xs → In x (xs ++ ys)
  in_left x [] ys i = absurd i
  in_left x (y ∷ xs) ys (inl e) = inl e
  in_left x (y ∷ xs) ys (inr i) = inr (in_left x xs ys i)

  pub in_right : (x : X) (xs ys : List X) → In x ys → In x (xs ++ ys)
  in_right x [] ys i = i
  in_right x (y ∷ xs) ys i = inr (in_right x xs ys i)

module _ {L A T : Type 0} (tag : Tags L A T) where
  -- each step of the past has its deeds
  abbrev pub AreTagged : Past → Type 0
  AreTagged [] = Unit {0}
  AreTagged (x ∷ past) = IsTagged x.1 (tag x.0 (length (log_of x.0 past))) × AreTagged past

  -- what is told log by log is told step by step
  pub are_tagged : (past : Past) → ((n j : ℕ) (x : Item) → get_elem? (log_of n past) j ≡ some x → IsTagged x (tag n j)) → AreTagged past
  are_tagged [] h = tt
  are_tagged ((m, x) ∷ past) h = (
    h m (length (log_of m past)) x (ap (λ (z : Log). get_elem? z (length (log_of m past))) (log_mine past m x) ∙ at_last (log_of m past) x (length (log_of m past)) refl),
    are_tagged past (λ n j y e. dite (ℕ_discrete m n)
        (λ q. h n j y (ap (λ (z : Log). get_elem? z j) (if_here m n (log_of n past ++ x ∷ []) (log_of n past) q) ∙ at_longer (log_of n past) (x ∷ []) j y e))
        (λ o. h n j y (ap (λ (z : Log). get_elem? z j) (log_else past m n x o) ∙ e))),
  )

  -- the woven deeds are those that seats told
  pub woven_told : (d : Deed L Object A T) (past : Past) → In d (weave tag past) → WasTold tag past d
  woven_told d [] i = absurd i
  woven_told d ((m, x) ∷ past) i = elim (in_parts d (weave tag past) (tag m (length (log_of m past))) i) [
    | inl j ↦ let r = woven_told d past j in record { seat = r.seat; index = r.index; within = longer r.seat r.index r.within; told = r.told }
    | inr j ↦ record { seat = m; index = length (log_of m past); within = let e = ap length (log_mine past m x) ∙ len_more (log_of m past) x in omega arith; told = j }
  ]
    where
      longer : (n j : ℕ) → j < length (log_of n past) → j < length (log_of n ((m, x) ∷ past))
      longer n j lt = dite (ℕ_discrete m n)
          (λ q. let e = ap length (if_here m n (log_of n past ++ x ∷ []) (log_of n past) q) ∙ len_more (log_of n past) x in omega arith)
          (λ o. let e = ap length (log_else past m n x o) in omega arith)

  pub told_woven : (d : Deed L Object A T) (past : Past) → WasTold tag past d → In d (weave tag past)
  told_woven d [] r = absurd (let l = r.within in omega arith)
  told_woven d ((m, x) ∷ past) r = dite (ℕ_discrete m r.seat)
      (λ q. mine q (told_woven d past) (cases_lt r.index (length (log_of r.seat past))))
      (λ o. let e = ap length (log_else past m r.seat x o) in let l = r.within in
      in_left d (weave tag past) (tag m (length (log_of m past))) (told_woven d past (record { seat = r.seat; index = r.index; within = omega arith; told = r.told })))
    where
      mine : m ≡ r.seat → (WasTold tag past d → In d (weave tag past)) → ((r.index < length (log_of r.seat past)) ⊎ (length (log_of r.seat past) ≤ r.index)) → In d (weave tag past ++ tag m (length (log_of m past)))
      mine q rest (inl lt) = in_left d (weave tag past) (tag m (length (log_of m past))) (rest (record { seat = r.seat; index = r.index; within = lt; told = r.told }))
      mine q rest (inr ge) =
          let e = ap length (if_here m r.seat (log_of r.seat past ++ x ∷ []) (log_of r.seat past) q) ∙ len_more (log_of r.seat past) x in
          let l = r.within in
          let at : r.index ≡ length (log_of r.seat past) = omega arith in
          in_right d (weave tag past) (tag m (length (log_of m past)))
          (subst (λ (z : ℕ). In d (tag z (length (log_of z past)))) (sym q) (subst (λ (z : ℕ). In d (tag r.seat z)) at r.told))

  -- any property of the deeds that seats told is one of the woven deeds
  pub woven_each : (Says : Deed L Object A T → Type 0) (past : Past) → ((n j : ℕ) → j < length (log_of n past) → Each Says (tag n j)) → Each Says (weave tag past)
  woven_each Says past f = all_members Says (weave tag past) (λ d i. let r = woven_told d past i in at_member Says d (tag r.seat r.index) (f r.seat r.index r.within) r.told)

  -- the deeds of a thread are those of its seat, in the order of its log
  pub thread_deeds : (t n : ℕ) → IsSeatOfThread tag t n → (past : Past) → of_thread t (weave tag past) ≡ first_deeds (tag n) (length (log_of n past))
  thread_deeds t n s [] = refl
  thread_deeds t n s ((m, x) ∷ past) =
      filter_append (λ (d : Deed L Object A T). d.call.thread == t) (weave tag past) (tag m (length (log_of m past)))
      ∙ dite (ℕ_discrete m n)
      (λ e. subst (λ (z : ℕ). of_thread t (weave tag past) ++ of_thread t (tag z (length (log_of z past))) ≡ first_deeds (tag n) (length (log_of n ((z, x) ∷ past)))) (sym e)
      (ap (λ (z : List (Deed L Object A T)). z ++ of_thread t (tag n (length (log_of n past)))) (thread_deeds t n s past)
      ∙ (ap (λ (z : List (Deed L Object A T)). first_deeds (tag n) (length (log_of n past)) ++ z) (filter_all (λ (d : Deed L Object A T). d.call.thread == t) (tag n (length (log_of n past))) (s.mine (length (log_of n past))))
      ∙ sym (ap (first_deeds (tag n)) (ap length (log_mine past n x) ∙ len_more (log_of n past) x)))))
      (λ o. ap (λ (z : List (Deed L Object A T)). of_thread t (weave tag past) ++ z) (filter_none (λ (d : Deed L Object A T). d.call.thread == t) (tag m (length (log_of m past))) (s.others m (length (log_of m past)) o))
      ∙ (append-nil (of_thread t (weave tag past)) ∙ (thread_deeds t n s past ∙ sym (ap (λ (z : Log). first_deeds (tag n) (length z)) (log_else past m n x o)))))

  values_more : (x : Object) (xs ys : List (Deed L Object A T)) → ValuesFollow x xs → ValuesFollow (last_value x xs) ys → ValuesFollow x (xs ++ ys)
  values_more x [] ys h k = k
  values_more x (d ∷ xs) ys h k = (h.0, values_more d.left xs ys h.1 k)

  last_more : (x : Object) (xs ys : List (Deed L Object A T)) → last_value x (xs ++ ys) ≡ last_value (last_value x xs) ys
  last_more x [] ys = refl
  last_more x (d ∷ xs) ys = last_more d.left xs ys

  -- what holds of object k after some deeds
  abbrev Good : Object → Slot → List (Deed L Object A T) → Type 0
  Good x0 v ds = ValuesFollow x0 ds × (v ≡ Some (last_value x0 ds))

  abbrev here : ℕ → Deed L Object A T → Bool
  here k d = d.call.place == k

  -- an item without deeds that leaves the value
  still : (k : ℕ) (x0 : Object) (v v' : Slot) (ds es : List (Deed L Object A T)) → es ≡ [] → v' ≡ v → Good x0 v (of_place k ds) → Good x0 v' (of_place k (ds ++ es))
  still k x0 v v' ds es e q g = subst (λ (z : List (Deed L Object A T)). Good x0 v' (of_place k (ds ++ z))) (sym e) (subst (λ (z : List (Deed L Object A T)). Good x0 v' (of_place k z)) (sym (append-nil ds)) (g.0, q ∙ g.1))

  some_same : (x y : Object) → Some x ≡ Some y → x ≡ y
  some_same x y e = cc

  -- a deed at k
  moved : (k : ℕ) (x0 f l : Object) (v v' : Slot) (ds : List (Deed L Object A T)) (d : Deed L Object A T) → d.call.place ≡ k → d.found ≡ f → d.left ≡ l → v ≡ Some f → v' ≡ Some l → Good x0 v (of_place k ds) → Good x0 v' (of_place k (ds ++ d ∷ []))
  moved k x0 f l v v' ds d p a b q r g =
      let e = filter_append (here k) ds (d ∷ []) ∙ ap (λ (z : List (Deed L Object A T)). of_place k ds ++ z) (filter_here (here k) d [] (eq-eqb d.call.place k p)) in
      let w : last_value x0 (of_place k ds) ≡ d.found = some_same (last_value x0 (of_place k ds)) d.found (sym g.1 ∙ (q ∙ ap Some (sym a))) in
      subst (Good x0 v') (sym e) (values_more x0 (of_place k ds) (d ∷ []) g.0 (w, tt), r ∙ (ap Some (sym b) ∙ ap Some (sym (last_more x0 (of_place k ds) (d ∷ [])))))

  -- a deed elsewhere
  aside : (k : ℕ) (x0 : Object) (v v' : Slot) (ds : List (Deed L Object A T)) (d : Deed L Object A T) → d.call.place ≢ k → v' ≡ v → Good x0 v (of_place k ds) → Good x0 v' (of_place k (ds ++ d ∷ []))
  aside k x0 v v' ds d p q g =
      let e = filter_append (here k) ds (d ∷ []) ∙ (ap (λ (z : List (Deed L Object A T)). of_place k ds ++ z) (filter_not (here k) d [] (ne_eqb d.call.place k p)) ∙ append-nil (of_place k ds)) in
      subst (Good x0 v') (sym e) (g.0, q ∙ g.1)

  module _ (lay : Layout) where
    item_good : (k n : ℕ) (x : Item) (past : Past) (x0 : Object) (ds es : List (Deed L Object A T)) → Allowed lay past n x → IsTagged x es → Good x0 (turns_of lay k past).value (of_place k ds) → Good x0 (turns_of lay k ((n, x) ∷ past)).value (of_place k (ds ++ es))
    item_good k n (Split m) past x0 ds es a t g = still k x0 (turns_of lay k past).value (turns_of lay k past).value ds es t refl g
    item_good k n (Join m) past x0 ds es a t g = still k x0 (turns_of lay k past).value (turns_of lay k past).value ds es t refl g
    item_good k n (Load c w) past x0 ds es a t g = still k x0 (turns_of lay k past).value (turns_of lay k past).value ds es t refl g
    item_good k n (Store c w) past x0 ds es a t g = still k x0 (turns_of lay k past).value (turns_of lay k past).value ds es t refl g
    item_good k n (Take j i) past x0 ds es a t g = still k x0 (turns_of lay k past).value (turns_of lay k ((n, Take j i) ∷ past)).value ds es t same g
      where
        same : (turns_of lay k ((n, Take j i) ∷ past)).value ≡ (turns_of lay k past).value
        same = let st : Turns = turns_of lay k past in dite (ℕ_discrete j k)
            (λ e. ap (λ (z : Turns). z.value) (if_here j k (turns_at st.done st.value (Some n)) st e))
            (λ o. ap (λ (z : Turns). z.value) (if_else j k (turns_at st.done st.value (Some n)) st o))
    item_good k n (Give j i f l) past x0 ds [] a t g = still k x0 (turns_of lay k past).value (turns_of lay k ((n, Give j i f l) ∷ past)).value ds [] refl same g
      where
        same : (turns_of lay k ((n, Give j i f l) ∷ past)).value ≡ (turns_of lay k past).value
        same = let st : Turns = turns_of lay k past in dite (ℕ_discrete j k)
            (λ e. ap (λ (z : Turns). z.value) (if_here j k (turns_at (st.done + 1) (Some l) None) st e) ∙ (ap Some (sym t) ∙ sym (subst (λ (z : ℕ). (turns_of lay z past).value ≡ Some f) e a.3)))
            (λ o. ap (λ (z : Turns). z.value) (if_else j k (turns_at (st.done + 1) (Some l) None) st o))
    item_good k n (Give j i f l) past x0 ds (d ∷ []) a t g = let st : Turns = turns_of lay k past in dite (ℕ_discrete j k)
        (λ e. moved k x0 f l (turns_of lay k past).value (turns_of lay k ((n, Give j i f l) ∷ past)).value ds d (t.0 ∙ e) t.1 t.2 (subst (λ (z : ℕ). (turns_of lay z past).value ≡ Some f) e a.3) (ap (λ (z : Turns). z.value) (if_here j k (turns_at (st.done + 1) (Some l) None) st e)) g)
        (λ o. aside k x0 (turns_of lay k past).value (turns_of lay k ((n, Give j i f l) ∷ past)).value ds d (λ q. o (sym t.0 ∙ q)) (ap (λ (z : Turns). z.value) (if_else j k (turns_at (st.done + 1) (Some l) None) st o)) g)
    item_good k n (Give j i f l) past x0 ds (d ∷ (e ∷ es)) a t g = absurd t

    -- each deed at object k found what the one before left, and the last left what is there
    pub place_deeds : (k : ℕ) (x0 : Object) (early late : Past) → Lawful lay (late ++ early) → AreTagged late → (turns_of lay k early).value ≡ Some x0 → Good x0 (turns_of lay k (late ++ early)).value (of_place k (weave tag late))
    place_deeds k x0 early [] h t e = (tt, e)
    place_deeds k x0 early (x ∷ late) h t e = item_good k x.0 x.1 (late ++ early) x0 (weave tag late) (tag x.0 (length (log_of x.0 late))) h.1 t.0 (place_deeds k x0 early late h.2 t.1 e)

    pub none_at : (k : ℕ) (ds : List (Deed L Object A T)) → Each (λ (d : Deed L Object A T). d.call.place ≢ k) ds → of_place k ds ≡ []
    none_at k ds h = filter_none (here k) ds (all_members (λ (d : Deed L Object A T). (d.call.place == k) ≡ false) ds (λ d i. ne_eqb d.call.place k (at_member (λ (d : Deed L Object A T). d.call.place ≢ k) d ds h i)))

    -- a deed of an item stands at an object's place
    item_public : (n : ℕ) (x : Item) (past : Past) (ds : List (Deed L Object A T)) → Allowed lay past n x → IsTagged x ds → Each (λ (d : Deed L Object A T). d.call.place < objects_of lay) ds
    item_public n (Give k i f l) past [] a t = tt
    item_public n (Give k i f l) past (d ∷ (e ∷ ds)) a t = absurd t
    item_public n (Give k i f l) past (d ∷ []) a t = (subst (λ (z : ℕ). z < objects_of lay) (sym t.0) a.0, tt)
    item_public n (Take k i) past ds a t = subst (Each (λ (d : Deed L Object A T). d.call.place < objects_of lay)) (sym t) tt
    item_public n (Split m) past ds a t = subst (Each (λ (d : Deed L Object A T). d.call.place < objects_of lay)) (sym t) tt
    item_public n (Join m) past ds a t = subst (Each (λ (d : Deed L Object A T). d.call.place < objects_of lay)) (sym t) tt
    item_public n (Load c w) past ds a t = subst (Each (λ (d : Deed L Object A T). d.call.place < objects_of lay)) (sym t) tt
    item_public n (Store c w) past ds a t = subst (Each (λ (d : Deed L Object A T). d.call.place < objects_of lay)) (sym t) tt

    pub woven_public : (early late : Past) → Lawful lay (late ++ early) → AreTagged late → Each (λ (d : Deed L Object A T). d.call.place < objects_of lay) (weave tag late)
    woven_public early [] h t = tt
    woven_public early (x ∷ late) h t = each_append (λ (d : Deed L Object A T). d.call.place < objects_of lay) (weave tag late) (tag x.0 (length (log_of x.0 late)))
        (woven_public early late h.2 t.1) (item_public x.0 x.1 (late ++ early) (tag x.0 (length (log_of x.0 late))) h.1 t.0)

    -- and so at no private place
    pub none_private : (k : ℕ) (early late : Past) → objects_of lay ≤ k → Lawful lay (late ++ early) → AreTagged late → of_place k (weave tag late) ≡ []
    none_private k early late le h t = none_at k (weave tag late) (all_members (λ (d : Deed L Object A T). d.call.place ≢ k) (weave tag late)
        (λ d i e. let q = at_member (λ (d : Deed L Object A T). d.call.place < objects_of lay) d (weave tag late) (woven_public early late h t) i in omega arith))

    module _ (m : State L Object) (early late : Past) (seat : ℕ → ℕ) (alone : List (Deed L Object A T)) (w : Worked lay m early late tag seat alone) where
      pub tagged : AreTagged late
      tagged = are_tagged late w.tagged

      -- the deeds of an object are all woven
      pub place_all : (k : ℕ) → k < objects_of lay → of_place k (weave tag late ++ alone) ≡ of_place k (weave tag late)
      place_all k lt = filter_append (here k) (weave tag late) alone
          ∙ (ap (λ (z : List (Deed L Object A T)). of_place k (weave tag late) ++ z) (none_at k alone (all_members (λ (d : Deed L Object A T). d.call.place ≢ k) alone
          (λ d i e. let q = at_member (λ (d : Deed L Object A T). objects_of lay ≤ d.call.place) d alone w.private i in omega arith)))
          ∙ append-nil (of_place k (weave tag late)))

      -- what an object is after the round
      pub value_after : (k : ℕ) → k < objects_of lay → Lawful lay (late ++ early) → (turns_of lay k (late ++ early)).value ≡ Some (last_value (m.value k) (of_place k (weave tag late)))
      value_after k lt h = (place_deeds k (m.value k) early late h tagged (w.values k lt)).1

      pub thread_all : (t : ℕ) → of_thread t (weave tag late ++ alone) ≡ first_deeds (tag (seat t)) (length (log_of (seat t) late)) ++ of_thread t alone
      thread_all t = filter_append (λ (d : Deed L Object A T). d.call.thread == t) (weave tag late) alone ∙ ap (λ (z : List (Deed L Object A T)). z ++ of_thread t alone) (thread_deeds t (seat t) (w.seats t) late)

      -- the deeds of a round, in the order of the past and then those that used no object
      pub round_line : Lawful lay (late ++ early) → LinesUp m (weave tag late ++ alone)
      round_line h = record {
        locals = λ t. subst (LocalsFollow (m.local t)) (sym (thread_all t)) (w.locals t);
        values = λ k. elim (cases_lt k (objects_of lay)) [
          | inl lt ↦ subst (ValuesFollow (m.value k)) (sym (place_all k lt)) (place_deeds k (m.value k) early late h tagged (w.values k lt)).0
          | inr le ↦ subst (ValuesFollow (m.value k)) (sym (filter_append (here k) (weave tag late) alone ∙ ap (λ (z : List (Deed L Object A T)). z ++ of_place k alone) (none_private k early late le h tagged))) (w.private_values k le)
        ];
      }

      -- a deed of an object that is listed is woven
      pub public_woven : (ys : List (Deed L Object A T)) (d : Deed L Object A T) → SameMembers (weave tag late ++ alone) ys → d.call.place < objects_of lay → In d ys → In d (weave tag late)
      public_woven ys d same lt i = elim (in_parts d (weave tag late) alone ((same d).1 i)) [
        | inl j ↦ j
        | inr j ↦ absurd (let r = at_member (λ (v : Deed L Object A T). objects_of lay ≤ v.call.place) d alone w.private j in omega arith)
      ]
