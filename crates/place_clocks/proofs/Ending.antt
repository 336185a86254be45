-- What an End does to the desk and to the slots' owners.
use Rattle.std.proofs.Common.{◌≡◌, ◌≢◌, ℕ, Bool, true, false, cond, List, [], ◌∷◌, ◌++◌, ◌⊎◌, inl, inr, Option, Some, None, refl, sym, ap, subst, ◌∙◌, eq-eqb, ne_eqb, arith}
use Rattle.std.specs.Prelude.{◌&&◌, max, nat_lt, option_map}
use Rattle.std.proofs.lemmas.Bool.{cases_Bool}
use mathlib.Core.Logic.{dite}
use native.Mathlib.Decide.{ℕ_discrete}
use Rattle.run_record.specs.declared.event.Event.TheVariants.{End}
use Rattle.run_record.specs.declared.entry.Label.{Label}
use Rattle.run_laws.specs.Moments.{Does}
use Rattle.run_laws.specs.Labels.{holds, given_back}
use Rattle.run_laws.specs.Clocks.{Of, Left, Ended}
use Rattle.turn_orders.specs.Lists.{In, InOrder}
use Rattle.turn_orders.specs.Machine.{but}
use Rattle.turn_orders.proofs.Functions.{but_here, but_else, but_each}
use Rattle.turn_orders.proofs.Members.{order_append}
use Rattle.place_clocks.specs.Places.{Clock, Desk}
use Rattle.place_clocks.specs.Turns.{joined, slot_left, ended_after}
use Rattle.place_clocks.specs.Holds.{Whole, IsSound, HasDesk, label_with, label_in, whole_next}
use Rattle.place_clocks.proofs.Choices.{if_yes, if_no, if_true, if_false, max_zero, zero_max}
use Rattle.place_clocks.proofs.Owned.{owner_before, ends_unowned}
use Rattle.place_clocks.proofs.Spots.{spot_stays}
use Rattle.place_clocks.proofs.Keeping.{given_kept}

in_parts : {X : Type 0} (x : X) (xs ys : List X) → In x (xs ++ ys) → In x xs ⊎ In x ys
in_parts x [] ys i = inr i
in_parts x (y ∷ xs) ys (inl e) = inl (inl e)
in_parts x (y ∷ xs) ys (inr i) = elim (in_parts x xs ys i) [ inl j ↦ inl (inr j) | inr j ↦ inr j ]

one_member : {X : Type 0} (x y : X) → In x (y ∷ []) → x ≡ y
one_member x y (inl e) = e
one_member x y (inr i) = absurd i

-- another slot than the one that is given back waited before
waited : (given : Bool) (queue : List ℕ) (s r : ℕ) → In r (cond given (queue ++ s ∷ []) queue) → r ≢ s → In r queue
waited true queue s r i ne = elim (in_parts r queue (s ∷ []) i) [ inl j ↦ j | inr j ↦ absurd (ne (one_member r s j)) ]
waited false queue s r i ne = i

cond_zero : (b : Bool) → cond {A = ℕ} b 0 0 ≡ 0
cond_zero true = refl
cond_zero false = refl

module _ (g slots : ℕ) (w : Whole) (t : ℕ) (sound : IsSound w) where
  abbrev after : Whole
  after = whole_next g slots w (Does t End)

  -- the queue after it, where the thread held this slot
  queue_is : (o : Option ℕ) → w.labels.slot_of t ≡ o → after.queue ≡ given_back g w.labels.epoch o w.queue
  queue_is o z = ap (λ (x : Option ℕ). given_back g w.labels.epoch x w.queue) z

  -- an End raises no epoch
  same_epoch : (s : ℕ) → after.labels.epoch s ≡ w.labels.epoch s
  same_epoch s = let z = cond_zero (holds (w.labels.slot_of t) s && nat_lt (w.labels.epoch s) g) in omega arith

  holds_is : (o : Option ℕ) (s : ℕ) → w.labels.slot_of t ≡ o → holds (w.labels.slot_of t) s ≡ holds o s
  holds_is o s z = ap (λ (x : Option ℕ). holds x s) z

  -- ---- the desk

  module _ (d : Desk) (h : HasDesk w d) (clock : Clock) (same : (s : ℕ) → clock s ≡ w.clocks.thread t s) where
    ended_is : (u r : ℕ) → but d.ended t (joined (d.ended t) clock) u r ≡ after.clocks.spot (Of (Ended u)) r
    ended_is u r = but_each (λ v c. c r ≡ after.clocks.spot (Of (Ended v)) r) d.ended t (joined (d.ended t) clock)
        (ap (λ (n : ℕ). max n (clock r)) (h.ended t r) ∙ (ap (max (w.clocks.spot (Of (Ended t)) r)) (same r) ∙ ap (max (w.clocks.spot (Of (Ended t)) r)) (sym (if_yes t t (w.clocks.thread t r) 0 refl))))
        (λ v ne. h.ended v r ∙ (sym (max_zero (w.clocks.spot (Of (Ended v)) r)) ∙ ap (max (w.clocks.spot (Of (Ended v)) r)) (sym (if_no t v (w.clocks.thread t r) 0 (λ q. ne (sym q)))))) u

    left_else : (s r : ℕ) → holds (w.labels.slot_of t) s ≡ false → d.left s r ≡ after.clocks.spot (Left s) r
    left_else s r n = h.left s r ∙ sym (spot_stays g w.labels w.clocks t End (Left s) r n n)

    desk_by : (o : Option ℕ) → w.labels.slot_of t ≡ o → HasDesk after (ended_after t clock (slot_left g (option_map (label_with w.labels) o) clock d))
    desk_by None z = record {
      era = h.era;
      queue = h.queue ∙ sym (queue_is None z);
      last = λ s i. h.last s (subst (In s) (queue_is None z) i) ∙ sym (same_epoch s);
      left = λ s r. left_else s r (holds_is None s z);
      given = λ u r. h.given u r ∙ sym (given_kept g slots w t End (λ v. refl) u r);
      ended = ended_is;
    }
    desk_by (Some s) z = record {
      era = h.era;
      queue = ap (λ (q : List ℕ). cond (nat_lt (w.labels.epoch s) g) (q ++ s ∷ []) q) h.queue ∙ sym (queue_is (Some s) z);
      last = λ r i. dite (ℕ_discrete r s)
          (λ q. but_here d.last s r (w.labels.epoch s) q ∙ (ap w.labels.epoch (sym q) ∙ sym (same_epoch r)))
          (λ ne. but_else d.last s r (w.labels.epoch s) ne ∙ (h.last r (waited (nat_lt (w.labels.epoch s) g) w.queue s r (subst (In r) (queue_is (Some s) z) i) ne) ∙ sym (same_epoch r)));
      left = λ x r. but_each (λ v c. c r ≡ after.clocks.spot (Left v) r) d.left s clock
          (let here : holds (w.labels.slot_of t) s ≡ true = holds_is (Some s) s z ∙ eq-eqb s s refl in
          same r ∙ (sym (zero_max (w.clocks.thread t r))
          ∙ (ap (λ (n : ℕ). max n (w.clocks.thread t r)) (sym (if_true (holds (w.labels.slot_of t) s) 0 (w.clocks.spot (Left s) r) here))
          ∙ ap (max (cond (holds (w.labels.slot_of t) s) 0 (w.clocks.spot (Left s) r))) (sym (if_true (holds (w.labels.slot_of t) s) (w.clocks.thread t r) 0 here)))))
          (λ v ne. left_else v r (holds_is (Some s) v z ∙ ne_eqb s v (λ q. ne (sym q)))) x;
      given = λ u r. h.given u r ∙ sym (given_kept g slots w t End (λ v. refl) u r);
      ended = ended_is;
    }

    pub desk_ended : (label : Option Label) → label ≡ label_in w.labels t → HasDesk after (ended_after t clock (slot_left g label clock d))
    desk_ended label e = subst (λ (x : Option Label). HasDesk after (ended_after t clock (slot_left g x clock d))) (sym e) (desk_by (w.labels.slot_of t) refl)

  -- ---- owners

  unowned_by : (o : Option ℕ) → w.labels.slot_of t ≡ o → (u s : ℕ) → after.labels.slot_of u ≡ Some s → In s after.queue → ⊥
  unowned_by None z u s a i = sound.unowned u s (owner_before g w.labels t End u s a) (subst (In s) (queue_is None z) i)
  unowned_by (Some r) z u s a i =
      let before = owner_before g w.labels t End u s a in
      dite (ℕ_discrete s r)
      (λ q.
      let one : u ≡ t = sound.one_owner u t s before (z ∙ ap Some (sym q)) in
      let gone : after.labels.slot_of t ≡ None = ends_unowned g w.labels t End refl in
      let still : after.labels.slot_of t ≡ Some s = ap after.labels.slot_of (sym one) ∙ a in
      let clash : Some s ≡ None = sym still ∙ gone in
      absurd (cc))
      (λ ne. sound.unowned u s before (waited (nat_lt (w.labels.epoch r) g) w.queue r s (subst (In s) (queue_is (Some r) z) i) ne))

  free_else : (s : ℕ) → holds (w.labels.slot_of t) s ≡ false → In s w.queue → after.labels.free s ≡ true
  free_else s n i = if_false (holds (w.labels.slot_of t) s && true) (nat_lt (w.labels.epoch s) g) (w.labels.free s) (ap (λ (b : Bool). b && true) n) ∙ sound.free s i

  free_by : (o : Option ℕ) → w.labels.slot_of t ≡ o → (s : ℕ) → In s after.queue → after.labels.free s ≡ true
  free_by None z s i = free_else s (holds_is None s z) (subst (In s) (queue_is None z) i)
  free_by (Some r) z s i = dite (ℕ_discrete s r) (λ q. given_free q (cases_Bool (nat_lt (w.labels.epoch r) g)))
      (λ ne. free_else s (holds_is (Some r) s z ∙ ne_eqb r s (λ q. ne (sym q))) (waited (nat_lt (w.labels.epoch r) g) w.queue r s (subst (In s) (queue_is (Some r) z) i) ne))
    where
      given_free : s ≡ r → (nat_lt (w.labels.epoch r) g ≡ true) ⊎ (nat_lt (w.labels.epoch r) g ≡ false) → after.labels.free s ≡ true
      given_free q (inl y) =
          let here : holds (w.labels.slot_of t) s ≡ true = holds_is (Some r) s z ∙ eq-eqb r s (sym q) in
          if_true (holds (w.labels.slot_of t) s && true) (nat_lt (w.labels.epoch s) g) (w.labels.free s) (ap (λ (b : Bool). b && true) here) ∙ (ap (λ (k : ℕ). nat_lt (w.labels.epoch k) g) q ∙ y)
      given_free q (inr n) =
          let j : In s w.queue = subst (In s) (queue_is (Some r) z ∙ if_false (nat_lt (w.labels.epoch r) g) (w.queue ++ r ∷ []) w.queue n) i in
          absurd (sound.unowned t s (z ∙ ap Some (sym q)) j)

  once_by : (o : Option ℕ) → w.labels.slot_of t ≡ o → InOrder (λ (a b : ℕ). a ≢ b) (given_back g w.labels.epoch o w.queue)
  once_by None z = sound.once
  once_by (Some r) z = go (nat_lt (w.labels.epoch r) g)
    where
      go : (b : Bool) → InOrder (λ (a b : ℕ). a ≢ b) (cond b (w.queue ++ r ∷ []) w.queue)
      go true = order_append (λ (a b : ℕ). a ≢ b) w.queue (r ∷ []) sound.once (tt, tt) (λ x y i j q. sound.unowned t x (z ∙ ap Some (sym (q ∙ one_member y r j))) i)
      go false = sound.once

  pub sound_ended : IsSound after
  sound_ended = record {
    one_owner = λ u x s a b. sound.one_owner u x s (owner_before g w.labels t End u s a) (owner_before g w.labels t End x s b);
    unowned = unowned_by (w.labels.slot_of t) refl;
    free = free_by (w.labels.slot_of t) refl;
    once = once_by (w.labels.slot_of t) refl;
  }
