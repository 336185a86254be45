-- The deeds that were made before a turn, and the place of the turn in a sorted list, also of one without a deed.
use Rattle.std.proofs.Common.{◌≡◌, ℕ, zero, suc, ◌≤◌, Bool, List, [], ◌∷◌, ◌++◌, length, Some, inl, inr, refl, sym, ap, ◌∙◌, subst, arith, append_assoc, append-nil, eq-eqb}
use Rattle.std.specs.Prelude.{◌==◌, filter}
use Rattle.std.proofs.lemmas.Bool.{cases_Bool, cases_lt}
use Rattle.shared_table.specs.declared.object.Object.{Object}
use Rattle.shared_table.specs.declared.view.Layout.{Layout}
use Rattle.shared_table.specs.declared.view.Item.{Item}
use Rattle.shared_table.specs.declared.view.Item.TheVariants.{Give}
use Rattle.shared_table.specs.Layouts.{objects_of}
use Rattle.shared_table.specs.Past.{Past, log_of, Lawful}
use Rattle.turn_orders.specs.Lists.{Each, In, SameMembers}
use Rattle.turn_orders.specs.Machine.{State}
use Rattle.turn_orders.specs.LineUp.{Deed, of_thread, of_place, LocalsFollow, ValuesFollow, last_value, IsSorted}
use Rattle.turn_orders.proofs.Members.{filter_here, filter_not, filter_append, filter_in, in_filter}
use Rattle.woven_turns.specs.Steps.{Stands}
use Rattle.woven_turns.specs.Weave.{Tags, LinesUp, weave, first_deeds, Worked}
use Rattle.woven_turns.specs.Turns.{DrewStamp, PlaceInList}
use Rattle.woven_turns.proofs.Standing.{lawful_at, tail_suffix, stands_more}
use Rattle.woven_turns.proofs.Items.{log_grows}
use Rattle.woven_turns.proofs.Weaving.{AreTagged, thread_deeds, told_woven, place_deeds, none_private, tagged}
use Rattle.woven_turns.proofs.Given.{listed_place}

pub record Cut {X : Type 0} (p : X → Bool) (xs us vs : List X) : Type 0 where
  pub front : List X
  pub back : List X
  pub whole : xs ≡ front ++ back
  pub first : filter p front ≡ us
  pub second : filter p back ≡ vs

-- a cut of the kept ones is a cut of the list
cut : {X : Type 0} (p : X → Bool) (xs us vs : List X) → filter p xs ≡ us ++ vs → Cut p xs us vs
cut p [] [] vs e = record { front = []; back = []; whole = refl; first = refl; second = e }
cut p [] (u ∷ us) vs e = absurd (cc)
cut p (x ∷ xs) [] vs e = record { front = []; back = x ∷ xs; whole = refl; first = refl; second = e }
cut {X} p (x ∷ xs) (u ∷ us) vs e = elim (cases_Bool (p x)) [
  | inl t ↦
      let q : x ∷ filter p xs ≡ u ∷ (us ++ vs) = sym (filter_here p x xs t) ∙ e in
      let h : x ≡ u = cc in
      let r : filter p xs ≡ us ++ vs = cc in
      let c = cut p xs us vs r in
      record { front = x ∷ c.front; back = c.back; whole = ap (λ (z : List X). x ∷ z) c.whole; first = filter_here p x c.front t ∙ (ap (λ (z : X). z ∷ filter p c.front) h ∙ ap (λ (z : List X). u ∷ z) c.first); second = c.second }
  | inr f ↦
      let c = cut p xs (u ∷ us) vs (sym (filter_not p x xs f) ∙ e) in
      record { front = x ∷ c.front; back = c.back; whole = ap (λ (z : List X). x ∷ z) c.whole; first = filter_not p x c.front f ∙ c.first; second = c.second }
]

locals_front : {L O A T : Type 0} (l : L) (xs ys : List (Deed L O A T)) → LocalsFollow l (xs ++ ys) → LocalsFollow l xs
locals_front l [] ys h = tt
locals_front l (x ∷ xs) ys h = (h.0, locals_front x.local_left xs ys h.1)

module _ {L A T : Type 0} (tag : Tags L A T) (lay : Layout) where
  -- what is woven after a step comes after what was woven before it
  woven_parts : (k : ℕ) (late e : Past) (y : ℕ × Item) → Stands late e y → (rest : List (Deed L Object A T)) × (of_place k (weave tag late) ≡ of_place k (weave tag e) ++ rest)
  woven_parts k [] e y s = absurd s
  woven_parts k (x ∷ late) e y (inl q) =
      let ds = tag x.0 (length (log_of x.0 late)) in
      (of_place k ds, filter_append (λ (d : Deed L Object A T). d.call.place == k) (weave tag late) ds ∙ ap (λ (z : Past). of_place k (weave tag z) ++ of_place k ds) q.1)
  woven_parts k (x ∷ late) e y (inr s) =
      let ds = tag x.0 (length (log_of x.0 late)) in
      let r = woven_parts k late e y s in
      (r.0 ++ of_place k ds, filter_append (λ (d : Deed L Object A T). d.call.place == k) (weave tag late) ds ∙ (ap (λ (z : List (Deed L Object A T)). z ++ of_place k ds) r.1 ∙ append_assoc (of_place k (weave tag e)) r.0 (of_place k ds)))

  first_parts : (f : ℕ → List (Deed L Object A T)) (i j : ℕ) → i ≤ j → (rest : List (Deed L Object A T)) × (first_deeds f j ≡ first_deeds f i ++ rest)
  first_parts f i zero le = let e : 0 ≡ i = omega arith in ([], ap (first_deeds f) e ∙ sym (append-nil (first_deeds f i)))
  first_parts f i (suc j) le = elim (cases_lt i (suc j)) [
    | inl lt ↦ let r = first_parts f i j (omega arith) in (r.0 ++ f j, ap (λ (z : List (Deed L Object A T)). z ++ f j) r.1 ∙ append_assoc (first_deeds f i) r.0 (f j))
    | inr ge ↦ let e : suc j ≡ i = omega arith in ([], ap (first_deeds f) e ∙ sym (append-nil (first_deeds f i)))
  ]

  tagged_before : (late e : Past) (y : ℕ × Item) → AreTagged tag late → Stands late e y → AreTagged tag e
  tagged_before [] e y t s = absurd s
  tagged_before (x ∷ late) e y t (inl q) = subst (AreTagged tag) q.1 t.1
  tagged_before (x ∷ late) e y t (inr s) = tagged_before late e y t.1 s

  module _ (m : State L Object) (early late e : Past) (seat : ℕ → ℕ) (alone : List (Deed L Object A T)) (h : Lawful lay (late ++ early)) (w : Worked lay m early late tag seat alone) where
    module _ (y : ℕ × Item) (st : Stands late e y) where
      marks : AreTagged tag e
      marks = tagged_before late e y (tagged tag lay m early late seat alone w) st

      pub lawful_before : Lawful lay (e ++ early)
      lawful_before = (lawful_at lay (late ++ early) (e ++ early) y h (stands_more late early e y st)).1

      -- what was made before a step lines up
      pub so_far : LinesUp m (weave tag e)
      so_far = record {
        locals = λ t.
            let r = first_parts (tag (seat t)) (length (log_of (seat t) e)) (length (log_of (seat t) late)) (log_grows (seat t) e late (tail_suffix late e y st)) in
            let a = locals_front (m.local t) (first_deeds (tag (seat t)) (length (log_of (seat t) late))) (of_thread t alone) (w.locals t) in
            let b = locals_front (m.local t) (first_deeds (tag (seat t)) (length (log_of (seat t) e))) r.0 (subst (LocalsFollow (m.local t)) r.1 a) in
            subst (LocalsFollow (m.local t)) (sym (thread_deeds tag t (seat t) (w.seats t) e)) b;
        values = λ k. elim (cases_lt k (objects_of lay)) [
          | inl lt ↦ (place_deeds tag lay k (m.value k) early e lawful_before marks (w.values k lt)).0
          | inr le ↦ subst (ValuesFollow (m.value k)) (sym (none_private tag lay k early e le lawful_before marks)) tt
        ];
      }

    -- each turn, also one without a deed, found what the deeds of its object that were made before it left
    pub found_before : (n k i : ℕ) (f l : Object) → Stands late e (n, Give k i f l) → last_value (m.value k) (of_place k (weave tag e)) ≡ f
    found_before n k i f l st =
        let at = lawful_at lay (late ++ early) (e ++ early) (n, Give k i f l) h (stands_more late early e (n, Give k i f l) st) in
        let good = place_deeds tag lay k (m.value k) early e at.1 (marks (n, Give k i f l) st) (w.values k at.0.0) in
        is_same (last_value (m.value k) (of_place k (weave tag e))) f (sym good.1 ∙ at.0.3)
      where
        is_same : (x y : Object) → Some x ≡ Some y → x ≡ y
        is_same x y q = cc

    pub place_in_list : (local_stamp : L → ℕ) (value_stamp : Object → ℕ) (ys : List (Deed L Object A T)) (n k i : ℕ) (f l : Object)
        → Each (DrewStamp local_stamp value_stamp) (weave tag late) → IsSorted local_stamp ys → SameMembers (weave tag late ++ alone) ys → Stands late e (n, Give k i f l) → PlaceInList m tag e ys k f
    place_in_list local_stamp value_stamp ys n k i f l drew sorted same st =
        let at = lawful_at lay (late ++ early) (e ++ early) (n, Give k i f l) h (stands_more late early e (n, Give k i f l) st) in
        let parts = woven_parts k late e (n, Give k i f l) st in
        let all = (listed_place lay tag local_stamp value_stamp m early late seat alone h w drew ys k sorted same at.0.0).0 ∙ parts.1 in
        let c = cut (λ (z : Deed L Object A T). z.call.place == k) ys (of_place k (weave tag e)) parts.0 all in
        record {
          front = c.front;
          back = c.back;
          whole = c.whole;
          before = c.first;
          value = ap (last_value (m.value k)) c.first ∙ found_before n k i f l st;
          none_missing = λ d t q. (filter_in (λ (z : Deed L Object A T). z.call.place == k) d c.front
              (subst (In d) (sym c.first) (in_filter (λ (z : Deed L Object A T). z.call.place == k) d (weave tag e) (told_woven tag d e t) (eq-eqb d.call.place k q)))).0;
        }
