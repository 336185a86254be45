-- What an attachment does: the thread takes the slot at the queue's front.
use Rattle.std.proofs.Common.{◌≡◌, ◌≢◌, ◌+◌, ℕ, Bool, true, false, cond, List, ◌∷◌, ◌⊎◌, inl, inr, Option, Some, None, refl, sym, ap, subst, ◌∙◌}
use Rattle.std.specs.Prelude.{◌==◌, ◌&&◌, max, option_map, is_none, drop}
use mathlib.Core.Logic.{dite}
use native.Mathlib.Decide.{ℕ_discrete}
use Rattle.run_record.specs.declared.entry.Label.{Label}
use Rattle.run_record.specs.declared.entry.DeskNote.TheVariants.{Attach}
use Rattle.run_laws.specs.Moments.{Notes}
use Rattle.run_laws.specs.Labels.{Labels, can_attach, attach_labels}
use Rattle.run_laws.specs.Clocks.{Of, Left, Given, attach_clocks}
use Rattle.turn_orders.specs.Lists.{In, InOrder}
use Rattle.turn_orders.specs.Machine.{but}
use Rattle.turn_orders.proofs.Functions.{but_each}
use Rattle.turn_orders.proofs.Members.{at_member}
use Rattle.place_clocks.specs.Places.{Clock, Own, Desk}
use Rattle.place_clocks.specs.Turns.{given_after}
use Rattle.place_clocks.specs.Holds.{Whole, IsSound, HasOwn, HasDesk, label_with, label_in, whole_next}
use Rattle.place_clocks.proofs.Choices.{if_yes, if_no}

-- a thread without a label holds no slot
no_slot_by : (l : Labels) (o : Option ℕ) → option_map (label_with l) o ≡ None → o ≡ None
no_slot_by l None e = refl
no_slot_by l (Some s) e = absurd (cc)

pub no_slot : (l : Labels) (t : ℕ) → label_in l t ≡ None → l.slot_of t ≡ None
no_slot l t e = no_slot_by l (l.slot_of t) e

module _ (g slots : ℕ) (w : Whole) (t s : ℕ) (rest : List ℕ) (sound : IsSound w) (none : w.labels.slot_of t ≡ None) (front : w.queue ≡ s ∷ rest) where
  abbrev after : Whole
  after = record { labels = attach_labels w.labels t s; clocks = attach_clocks w.labels w.clocks t s; queue = rest }

  in_front : In s w.queue
  in_front = subst (In s) (sym front) (inl refl)

  in_rest : (r : ℕ) → In r rest → In r w.queue
  in_rest r i = subst (In r) (sym front) (inr i)

  apart : (r : ℕ) → In r rest → r ≢ s
  apart r i q = let o : InOrder (λ (a b : ℕ). a ≢ b) (s ∷ rest) = subst (InOrder (λ (a b : ℕ). a ≢ b)) front sound.once in at_member (λ (b : ℕ). s ≢ b) r rest o.0 i (sym q)

  can : can_attach w.labels t s ≡ true
  can = ap (λ (o : Option ℕ). is_none o && w.labels.free s) none ∙ sound.free s in_front

  -- the law's whole after the note
  pub next_is : (label : Label) → label.sid ≡ s → whole_next g slots w (Notes t (Attach label)) ≡ after
  next_is label e =
      let test : can_attach w.labels t label.sid ≡ true = ap (can_attach w.labels t) e ∙ can in
      ap (λ (b : Bool). record { labels = cond b (attach_labels w.labels t label.sid) w.labels; clocks = cond b (attach_clocks w.labels w.clocks t label.sid) w.clocks; queue = drop 1 w.queue }) test
      ∙ (ap (λ (r : ℕ). record { labels = attach_labels w.labels t r; clocks = attach_clocks w.labels w.clocks t r; queue = drop 1 w.queue }) e
      ∙ ap (λ (q : List ℕ). record { labels = attach_labels w.labels t s; clocks = attach_clocks w.labels w.clocks t s; queue = drop 1 q }) front)

  -- ---- threads

  other_by : (o : Option ℕ) → ((r : ℕ) → o ≡ Some r → r ≢ s) → option_map (label_with w.labels) o ≡ option_map (label_with after.labels) o
  other_by None apart = refl
  other_by (Some r) apart = ap (λ (n : ℕ). Some (record { sid = r; epoch = n; era = w.labels.era })) (sym (if_no r s (w.labels.epoch r + 1) (w.labels.epoch r) (apart r refl)))

  other_label : (u : ℕ) → u ≢ t → label_in w.labels u ≡ label_in after.labels u
  other_label u ne =
      other_by (w.labels.slot_of u) (λ r o q. sound.unowned u s (o ∙ ap Some q) in_front)
      ∙ ap (option_map (label_with after.labels)) (sym (if_no u t (Some s) (w.labels.slot_of u) ne))

  given_is : (d : Desk) → ((r : ℕ) → d.given t r ≡ w.clocks.spot (Of (Given t)) r) → (o : Option Clock) → ((c : Clock) → o ≡ Some c → (r : ℕ) → c r ≡ w.clocks.spot (Of (Given t)) r)
      → (c : Clock) → given_after t o d ≡ Some c → (r : ℕ) → c r ≡ w.clocks.spot (Of (Given t)) r
  given_is d h None k c e r = let q : d.given t ≡ c = cc in ap (λ (f : Clock). f r) (sym q) ∙ h r
  given_is d h (Some x) k c e r = k c e r

  pub own_taken : (own : ℕ → Own) (d : Desk) → HasOwn w own → HasDesk w d →
      HasOwn after (but own t (record { label = Some (record { sid = s; epoch = d.last s + 1; era = d.era }); clock = λ r. cond (r == s) (d.last s + 1) (max ((own t).clock r) (d.left s r)); given = given_after t (own t).given d }))
  own_taken own d h k = record {
    label = but_each (λ u o. o.label ≡ label_in after.labels u) own t new
        (ap (λ (n : ℕ). Some (record { sid = s; epoch = n + 1; era = d.era })) (k.last s in_front)
        ∙ (ap (λ (n : ℕ). Some (record { sid = s; epoch = w.labels.epoch s + 1; era = n })) k.era
        ∙ (ap (λ (n : ℕ). Some (record { sid = s; epoch = n; era = w.labels.era })) (sym (if_yes s s (w.labels.epoch s + 1) (w.labels.epoch s) refl))
        ∙ ap (option_map (label_with after.labels)) (sym (if_yes t t (Some s) (w.labels.slot_of t) refl)))))
        (λ u ne. h.label u ∙ other_label u ne);
    clock = λ u r. but_each (λ v o. o.clock r ≡ after.clocks.thread v r) own t new
        (ap (λ (n : ℕ). cond (r == s) (n + 1) (max ((own t).clock r) (d.left s r))) (k.last s in_front)
        ∙ (ap (λ (n : ℕ). cond (r == s) (w.labels.epoch s + 1) (max n (d.left s r))) (h.clock t r)
        ∙ (ap (λ (n : ℕ). cond (r == s) (w.labels.epoch s + 1) (max (w.clocks.thread t r) n)) (k.left s r)
        ∙ sym (if_yes t t (cond (r == s) (w.labels.epoch s + 1) (max (w.clocks.thread t r) (w.clocks.spot (Left s) r))) (w.clocks.thread t r) refl))))
        (λ v ne. h.clock v r ∙ sym (if_no v t (cond (r == s) (w.labels.epoch s + 1) (max (w.clocks.thread t r) (w.clocks.spot (Left s) r))) (w.clocks.thread v r) ne)) u;
    given = but_each (λ u o. (c : Clock) → o.given ≡ Some c → (r : ℕ) → c r ≡ w.clocks.spot (Of (Given u)) r) own t new
        (given_is d (k.given t) (own t).given (h.given t))
        (λ u ne. h.given u);
  }
    where
      new : Own
      new = record { label = Some (record { sid = s; epoch = d.last s + 1; era = d.era }); clock = λ r. cond (r == s) (d.last s + 1) (max ((own t).clock r) (d.left s r)); given = given_after t (own t).given d }

  -- ---- the desk

  pub desk_taken : (d : Desk) → HasDesk w d → HasDesk after (record d { queue = rest })
  desk_taken d k = record {
    era = k.era;
    queue = refl;
    last = λ r i. k.last r (in_rest r i) ∙ sym (if_no r s (w.labels.epoch r + 1) (w.labels.epoch r) (apart r i));
    left = k.left;
    given = k.given;
    ended = k.ended;
  }

  -- ---- owners

  -- the slot's owner is the thread, and the others are as before
  owner_by : (u r : ℕ) → after.labels.slot_of u ≡ Some r → ((u ≡ t) × (s ≡ r)) ⊎ (w.labels.slot_of u ≡ Some r)
  owner_by u r e = dite (ℕ_discrete u t)
      (λ q. let here : Some s ≡ Some r = sym (if_yes u t (Some s) (w.labels.slot_of u) q) ∙ e in inl (q, cc))
      (λ ne. inr (sym (if_no u t (Some s) (w.labels.slot_of u) ne) ∙ e))

  one_by : (u x r : ℕ) → ((u ≡ t) × (s ≡ r)) ⊎ (w.labels.slot_of u ≡ Some r) → ((x ≡ t) × (s ≡ r)) ⊎ (w.labels.slot_of x ≡ Some r) → u ≡ x
  one_by u x r (inl a) (inl b) = a.0 ∙ sym b.0
  one_by u x r (inl a) (inr b) = absurd (sound.unowned x s (b ∙ ap Some (sym a.1)) in_front)
  one_by u x r (inr a) (inl b) = absurd (sound.unowned u s (a ∙ ap Some (sym b.1)) in_front)
  one_by u x r (inr a) (inr b) = sound.one_owner u x r a b

  unowned_by : (u r : ℕ) → ((u ≡ t) × (s ≡ r)) ⊎ (w.labels.slot_of u ≡ Some r) → In r rest → ⊥
  unowned_by u r (inl a) i = apart r i (sym a.1)
  unowned_by u r (inr a) i = sound.unowned u r a (in_rest r i)

  pub sound_taken : IsSound after
  sound_taken = record {
    one_owner = λ u x r a b. one_by u x r (owner_by u r a) (owner_by x r b);
    unowned = λ u r a i. unowned_by u r (owner_by u r a) i;
    free = λ r i. if_no r s false (w.labels.free r) (apart r i) ∙ sound.free r (in_rest r i);
    once = (let o : InOrder (λ (a b : ℕ). a ≢ b) (s ∷ rest) = subst (InOrder (λ (a b : ℕ). a ≢ b)) front sound.once in o.1);
  }
