-- Which part has a seat, and which a thread.
use Rattle.std.proofs.Common.{◌≡◌, ◌≢◌, ◌<◌, ◌≤◌, ◌⊎◌, ◌+◌, ℕ, suc, Bool, true, false, cond, List, [], ◌∷◌, ◌++◌, length, inl, inr, refl, sym, ap, subst, ◌∙◌, arith, append-nil, eq-eqb, ne_eqb}
use Rattle.std.specs.Prelude.{◌==◌, slice_get, map, Option, Some, None}
use mathlib.Core.Logic.{dite}
use native.Mathlib.Decide.{ℕ_discrete}
use Rattle.bare_machine.specs.Step.{desk}
use Rattle.turn_orders.specs.Lists.{Each, In}
use Rattle.turn_orders.specs.Machine.{State}
use Rattle.turn_orders.specs.LineUp.{Stamped, of_thread}
use Rattle.turn_orders.proofs.Members.{at_member, all_members, filter_append}
use Rattle.shared_table.specs.declared.object.Object.{Object}
use Rattle.shared_table.proofs.Pasts.{if_here, if_else}
use Rattle.woven_turns.specs.Weave.{IsSeatOfThread}
use Rattle.placed_detector.specs.Standing.{Hand}
use Rattle.table_deeds.specs.Objects.{ObjectDeed}
use Rattle.table_deeds.specs.Listing.{AreApart}
use Rattle.hart_parts.specs.Parts.{Part, Rest, at_last_object, rest_deeds}
use Rattle.hart_parts.specs.Rounds.{tags_along, tag_from, seat_from, alone_of}
use Rattle.hart_parts.proofs.Tags.{in_tags}

abbrev pub threads_of : List Part → List ℕ
threads_of ps = map (λ (p : Part). p.thread) ps

-- ---- seats

-- the part with the seat of that number, where the first has the seat `first`
pub record HasSeat (first : ℕ) (ps : List Part) (n : ℕ) : Type 0 where
  pub index : ℕ
  pub part : Part
  pub at : slice_get ps index ≡ Some part
  pub member : In part ps
  pub number : n ≡ first + index
  pub within : index < length ps
  pub tells : (j : ℕ) → tag_from first ps n j ≡ tags_along part.deeds part.log j

-- the seat is no part's, and tells nothing
pub record HasNone (first : ℕ) (ps : List Part) (n : ℕ) : Type 0 where
  pub outside : first ≤ n → n < first + length ps → ⊥
  pub tells : (j : ℕ) → tag_from first ps n j ≡ []

first_seat : (first : ℕ) (p : Part) (ps : List Part) (n : ℕ) → n ≡ first → HasSeat first (p ∷ ps) n
first_seat first p ps n e = record {
  index = 0;
  part = p;
  at = refl;
  member = inl refl;
  number = omega (arith, e);
  within = omega arith;
  tells = λ j. if_here n first (tags_along p.deeds p.log j) (tag_from (first + 1) ps n j) e;
}

later_seat : (first : ℕ) (p : Part) (ps : List Part) (n : ℕ) → n ≢ first → HasSeat (first + 1) ps n → HasSeat first (p ∷ ps) n
later_seat first p ps n ne h =
    let number = h.number in
    let within = h.within in
    record {
      index = suc h.index;
      part = h.part;
      at = h.at;
      member = inr h.member;
      number = omega (arith, number);
      within = omega (arith, within);
      tells = λ j. if_else n first (tags_along p.deeds p.log j) (tag_from (first + 1) ps n j) ne ∙ h.tells j;
    }

no_seat : (first : ℕ) (p : Part) (ps : List Part) (n : ℕ) → n ≢ first → HasNone (first + 1) ps n → HasNone first (p ∷ ps) n
no_seat first p ps n ne h = record {
  outside = λ low high. h.outside (omega arith) (omega arith);
  tells = λ j. if_else n first (tags_along p.deeds p.log j) (tag_from (first + 1) ps n j) ne ∙ h.tells j;
}

-- a seat is that of a part, or tells nothing
pub seat_cases : (first : ℕ) (ps : List Part) (n : ℕ) → HasSeat first ps n ⊎ HasNone first ps n
seat_cases first [] n = inr (record { outside = λ low high. omega arith; tells = λ j. refl })
seat_cases first (p ∷ ps) n = dite (ℕ_discrete n first)
    (λ e. inl (first_seat first p ps n e))
    (λ ne. elim (seat_cases (first + 1) ps n) [
      | inl h ↦ inl (later_seat first p ps n ne h)
      | inr h ↦ inr (no_seat first p ps n ne h)
    ])

-- ---- the deeds of a seat

-- the deeds of each part are of its thread
abbrev pub AreOwn : Part → Type 0
AreOwn p = Each (λ (d : ObjectDeed). d.call.thread ≡ p.thread) p.deeds

-- what seats tell is of a thread that has a part
pub told_of : (P : ℕ → Type 0) (first : ℕ) (ps : List Part) (n j : ℕ) → Each AreOwn ps → Each P (threads_of ps) →
    Each (λ (d : ObjectDeed). P d.call.thread) (tag_from first ps n j)
told_of P first [] n j own each = tt
told_of P first (p ∷ ps) n j own each =
    let Is = λ (d : ObjectDeed). P d.call.thread in
    dite (ℕ_discrete n first)
    (λ e. subst (Each Is) (sym (if_here n first (tags_along p.deeds p.log j) (tag_from (first + 1) ps n j) e))
    (all_members Is (tags_along p.deeds p.log j) (λ d i.
    subst P (sym (at_member (λ (x : ObjectDeed). x.call.thread ≡ p.thread) d p.deeds own.0 (in_tags p.deeds p.log j d i))) each.0)))
    (λ ne. subst (Each Is) (sym (if_else n first (tags_along p.deeds p.log j) (tag_from (first + 1) ps n j) ne))
    (told_of P (first + 1) ps n j own.1 each.1))

seat_is : (first : ℕ) (ps : List Part) (t : ℕ) → (seat_from first ps t ≡ 0) ⊎ (first ≤ seat_from first ps t)
seat_is first [] t = inl refl
seat_is first (p ∷ ps) t = dite (ℕ_discrete p.thread t)
    (λ e. inr (let same = if_here p.thread t first (seat_from (first + 1) ps t) e in omega (arith, same)))
    (λ ne. let same = if_else p.thread t first (seat_from (first + 1) ps t) ne in elim (seat_is (first + 1) ps t) [
      | inl q ↦ inl (same ∙ q)
      | inr l ↦ inr (omega (arith, same, l))
    ])

later_is_other : (first : ℕ) (ps : List Part) (t : ℕ) → 0 < first → seat_from (first + 1) ps t ≢ first
later_is_other first ps t some e = elim (seat_is (first + 1) ps t) [
  | inl q ↦ omega (arith, some, e, q)
  | inr l ↦ omega (arith, e, l)
]

each_test : (P Q : ℕ → Type 0) (ds : List ObjectDeed) → ((t : ℕ) → P t → Q t) → Each (λ (d : ObjectDeed). P d.call.thread) ds →
    Each (λ (d : ObjectDeed). Q d.call.thread) ds
each_test P Q [] f h = tt
each_test P Q (d ∷ ds) f h = (f d.call.thread h.0, each_test P Q ds f h.1)

-- the deeds of a thread are told by its seat alone
pub seat_of_thread : (first : ℕ) (ps : List Part) (t : ℕ) → 0 < first → Each AreOwn ps → AreApart (threads_of ps) →
    IsSeatOfThread (tag_from first ps) t (seat_from first ps t)
seat_of_thread first [] t some own apart = record { mine = λ j. tt; others = λ m j ne. tt }
seat_of_thread first (p ∷ ps) t some own apart =
    let Mine = λ (u : ℕ). (u == t) ≡ true in
    let Other = λ (u : ℕ). (u == t) ≡ false in
    let of_first : (n j : ℕ) → n ≡ first → tag_from first (p ∷ ps) n j ≡ tags_along p.deeds p.log j =
    λ n j e. if_here n first (tags_along p.deeds p.log j) (tag_from (first + 1) ps n j) e in
    let of_others : (n j : ℕ) → n ≢ first → tag_from first (p ∷ ps) n j ≡ tag_from (first + 1) ps n j =
    λ n j ne. if_else n first (tags_along p.deeds p.log j) (tag_from (first + 1) ps n j) ne in
    let owned : (P : ℕ → Type 0) (j : ℕ) → P p.thread → Each (λ (d : ObjectDeed). P d.call.thread) (tags_along p.deeds p.log j) =
    λ P j h. all_members (λ (d : ObjectDeed). P d.call.thread) (tags_along p.deeds p.log j) (λ d i.
    subst P (sym (at_member (λ (x : ObjectDeed). x.call.thread ≡ p.thread) d p.deeds own.0 (in_tags p.deeds p.log j d i))) h) in
    dite (ℕ_discrete p.thread t)
    (λ e. let seat = if_here p.thread t first (seat_from (first + 1) ps t) e in
    subst (IsSeatOfThread (tag_from first (p ∷ ps)) t) (sym seat) (record {
      mine = λ j. subst (Each (λ (d : ObjectDeed). Mine d.call.thread)) (sym (of_first first j refl)) (owned Mine j (eq-eqb p.thread t e));
      others = λ m j ne. subst (Each (λ (d : ObjectDeed). Other d.call.thread)) (sym (of_others m j ne))
          (each_test (λ (u : ℕ). p.thread ≢ u) Other (tag_from (first + 1) ps m j) (λ u no. ne_eqb u t (λ q. no (e ∙ sym q)))
          (told_of (λ (u : ℕ). p.thread ≢ u) (first + 1) ps m j own.1 apart.0));
    }))
    (λ ne. let seat = if_else p.thread t first (seat_from (first + 1) ps t) ne in
    let others = seat_of_thread (first + 1) ps t (omega arith) own.1 apart.1 in
    let n = seat_from (first + 1) ps t in
    subst (IsSeatOfThread (tag_from first (p ∷ ps)) t) (sym seat) (record {
      mine = λ j. subst (Each (λ (d : ObjectDeed). Mine d.call.thread)) (sym (of_others n j (later_is_other first ps t some))) (others.mine j);
      others = λ m j no. dite (ℕ_discrete m first)
          (λ e. subst (Each (λ (d : ObjectDeed). Other d.call.thread)) (sym (of_first m j e)) (owned Other j (ne_eqb p.thread t ne)))
          (λ o. subst (Each (λ (d : ObjectDeed). Other d.call.thread)) (sym (of_others m j o)) (others.others m j no));
    }))

-- ---- threads

-- the deed of a part behind its objects
abbrev pub rest_of : State (Stamped Hand) Object → Part → List ObjectDeed
rest_of m p = rest_deeds p.thread (at_last_object p) (m.value (desk + 1 + p.thread)) p.rest

-- the thread has that part
pub record HasPart (m : State (Stamped Hand) Object) (first : ℕ) (ps : List Part) (t : ℕ) : Type 0 where
  pub index : ℕ
  pub part : Part
  pub at : slice_get ps index ≡ Some part
  pub member : In part ps
  pub mine : part.thread ≡ t
  pub seat : seat_from first ps t ≡ first + index
  pub tells : (j : ℕ) → tag_from first ps (first + index) j ≡ tags_along part.deeds part.log j
  pub alone : of_thread t (alone_of m ps) ≡ rest_of m part

-- the thread has no part, and no deed
pub record HasNoPart (m : State (Stamped Hand) Object) (first : ℕ) (ps : List Part) (t : ℕ) : Type 0 where
  pub nobody : Each (λ (p : Part). p.thread ≢ t) ps
  pub seat : seat_from first ps t ≡ 0
  pub alone : of_thread t (alone_of m ps) ≡ []

module _ (m : State (Stamped Hand) Object) where
  rest_here : (p : Part) (t : ℕ) → p.thread ≡ t → of_thread t (rest_of m p) ≡ rest_of m p
  rest_here p t e = go p.rest
    where
      go : (r : Option Rest) → of_thread t (rest_deeds p.thread (at_last_object p) (m.value (desk + 1 + p.thread)) r)
          ≡ rest_deeds p.thread (at_last_object p) (m.value (desk + 1 + p.thread)) r
      go None = refl
      go (Some r) = ap (λ (b : Bool). cond b (rest_deeds p.thread (at_last_object p) (m.value (desk + 1 + p.thread)) (Some r)) []) (eq-eqb p.thread t e)

  rest_elsewhere : (p : Part) (t : ℕ) → p.thread ≢ t → of_thread t (rest_of m p) ≡ []
  rest_elsewhere p t ne = go p.rest
    where
      go : (r : Option Rest) → of_thread t (rest_deeds p.thread (at_last_object p) (m.value (desk + 1 + p.thread)) r) ≡ []
      go None = refl
      go (Some r) = ap (λ (b : Bool). cond b (rest_deeds p.thread (at_last_object p) (m.value (desk + 1 + p.thread)) (Some r)) []) (ne_eqb p.thread t ne)

  none_alone : (ps : List Part) (t : ℕ) → Each (λ (p : Part). p.thread ≢ t) ps → of_thread t (alone_of m ps) ≡ []
  none_alone [] t h = refl
  none_alone (p ∷ ps) t h =
      filter_append (λ (d : ObjectDeed). d.call.thread == t) (rest_of m p) (alone_of m ps)
      ∙ (ap (λ (ds : List ObjectDeed). ds ++ of_thread t (alone_of m ps)) (rest_elsewhere p t h.0) ∙ none_alone ps t h.1)

  none_of : (ps : List Part) (t u : ℕ) → t ≡ u → Each (λ (v : ℕ). t ≢ v) (threads_of ps) → Each (λ (p : Part). p.thread ≢ u) ps
  none_of [] t u e h = tt
  none_of (p ∷ ps) t u e h = ((λ q. h.0 (e ∙ sym q)), none_of ps t u e h.1)

  first_part : (first : ℕ) (p : Part) (ps : List Part) (t : ℕ) → p.thread ≡ t → Each (λ (v : ℕ). p.thread ≢ v) (threads_of ps) →
      HasPart m first (p ∷ ps) t
  first_part first p ps t e apart = record {
    index = 0;
    part = p;
    at = refl;
    member = inl refl;
    mine = e;
    seat = if_here p.thread t first (seat_from (first + 1) ps t) e ∙ omega arith;
    tells = λ j. if_here (first + 0) first (tags_along p.deeds p.log j) (tag_from (first + 1) ps (first + 0) j) (omega arith);
    alone =
        filter_append (λ (d : ObjectDeed). d.call.thread == t) (rest_of m p) (alone_of m ps)
        ∙ (ap (λ (ds : List ObjectDeed). ds ++ of_thread t (alone_of m ps)) (rest_here p t e)
        ∙ (ap (λ (ds : List ObjectDeed). rest_of m p ++ ds) (none_alone ps t (none_of ps p.thread t e apart)) ∙ append-nil (rest_of m p)));
  }

  alone_later : (p : Part) (ps : List Part) (t : ℕ) → p.thread ≢ t → of_thread t (alone_of m (p ∷ ps)) ≡ of_thread t (alone_of m ps)
  alone_later p ps t ne =
      filter_append (λ (d : ObjectDeed). d.call.thread == t) (rest_of m p) (alone_of m ps)
      ∙ ap (λ (ds : List ObjectDeed). ds ++ of_thread t (alone_of m ps)) (rest_elsewhere p t ne)

  later_part : (first : ℕ) (p : Part) (ps : List Part) (t : ℕ) → p.thread ≢ t → HasPart m (first + 1) ps t → HasPart m first (p ∷ ps) t
  later_part first p ps t ne h =
      let same : first + 1 + h.index ≡ first + suc h.index = omega arith in
      record {
        index = suc h.index;
        part = h.part;
        at = h.at;
        member = inr h.member;
        mine = h.mine;
        seat = if_else p.thread t first (seat_from (first + 1) ps t) ne ∙ (h.seat ∙ same);
        tells = λ j.
            if_else (first + suc h.index) first (tags_along p.deeds p.log j) (tag_from (first + 1) ps (first + suc h.index) j) (λ q. omega (arith, q))
            ∙ subst (λ (n : ℕ). tag_from (first + 1) ps n j ≡ tags_along h.part.deeds h.part.log j) same (h.tells j);
        alone = alone_later p ps t ne ∙ h.alone;
      }

  -- a thread has a part, or no deed
  pub part_cases : (first : ℕ) (ps : List Part) (t : ℕ) → AreApart (threads_of ps) → HasPart m first ps t ⊎ HasNoPart m first ps t
  part_cases first [] t apart = inr (record { nobody = tt; seat = refl; alone = refl })
  part_cases first (p ∷ ps) t apart = dite (ℕ_discrete p.thread t)
      (λ e. inl (first_part first p ps t e apart.0))
      (λ ne. elim (part_cases (first + 1) ps t apart.1) [
        | inl h ↦ inl (later_part first p ps t ne h)
        | inr h ↦ inr (record {
          nobody = (ne, h.nobody);
          seat = if_else p.thread t first (seat_from (first + 1) ps t) ne ∙ h.seat;
          alone = alone_later p ps t ne ∙ h.alone;
        })
      ])
