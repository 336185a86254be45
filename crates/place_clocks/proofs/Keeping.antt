-- What an event does to each part of the agreement: threads, channels, the desk, and the slots' owners.
use Rattle.std.proofs.Common.{◌≡◌, ◌≢◌, ◌+◌, ℕ, Bool, true, false, Option, Some, refl, sym, ap, subst, ◌∙◌, arith}
use Rattle.std.specs.Prelude.{◌&&◌, max, nat_lt}
use Rattle.run_record.specs.declared.event.Event.{Event}
use Rattle.run_record.specs.declared.event.Part.{Part}
use Rattle.run_record.specs.declared.entry.Label.{Label}
use Rattle.run_laws.specs.Moments.{Does}
use Rattle.run_laws.specs.Labels.{holds, is_end, raised, given_back, event_labels}
use Rattle.run_laws.specs.Clocks.{Of, Channel, Given, Ended, taken_from, left_at, is_place, clock_at, event_clocks}
use Rattle.turn_orders.specs.Lists.{In, InOrder}
use Rattle.turn_orders.specs.Machine.{but}
use Rattle.turn_orders.proofs.Functions.{but_each}
use Rattle.place_clocks.specs.Places.{Clock, Own, Stripe, Desk, Value}
use Rattle.place_clocks.specs.Turns.{label_after, raised_by, taken, own_after}
use Rattle.place_clocks.specs.Holds.{Whole, IsSound, HasOwn, HasChannels, HasDesk, label_in, whole_next}
use Rattle.place_clocks.proofs.Choices.{if_yes, if_no, if_false}
use Rattle.place_clocks.proofs.Owned.{not_raised, own_label, own_raised, other_label, owner_before}
use Rattle.place_clocks.proofs.Spots.{spot_stays, left_stays, IsQuiet, SparesChannel}

module _ (g slots : ℕ) (w : Whole) (t : ℕ) (e : Event) where
  abbrev after : Whole
  after = whole_next g slots w (Does t e)

  -- ---- threads

  -- what creators left for threads that have taken it stays
  abbrev pub KeepsGiven : (ℕ → Own) → Type 0
  KeepsGiven own = (u : ℕ) (c : Clock) → (own u).given ≡ Some c → (s : ℕ) → (event_clocks g w.labels w.clocks t e).spot (Of (Given u)) s ≡ w.clocks.spot (Of (Given u)) s

  pub own_kept : (own : ℕ → Own) → HasOwn w own → IsSound w → (v : Value) → ((s : ℕ) → taken e (own t) v s ≡ clock_at w.clocks (taken_from t e) s) → KeepsGiven own → HasOwn after (but own t (own_after g e (own t) v))
  own_kept own h sound v takes stays = record {
    label = but_each (λ u o. o.label ≡ label_in (event_labels g w.labels t e) u) own t (own_after g e (own t) v)
        (ap (λ (z : Option Label). label_after g z e) (h.label t) ∙ own_label g w.labels t e)
        (λ u ne. h.label u ∙ other_label g w.labels t e u ne (λ s a b. ne (sound.one_owner u t s a b)));
    clock = λ u s. but_each (λ v o. o.clock s ≡ (event_clocks g w.labels w.clocks t e).thread v s) own t (own_after g e (own t) v)
        (ap (λ (z : ℕ). max z (taken e (own t) v s) + raised_by g (own t).label e s) (h.clock t s)
        ∙ (ap (λ (z : ℕ). max (w.clocks.thread t s) z + raised_by g (own t).label e s) (takes s)
        ∙ (ap (λ (z : Option Label). max (w.clocks.thread t s) (clock_at w.clocks (taken_from t e) s) + raised_by g z e s) (h.label t)
        ∙ (ap (λ (z : ℕ). max (w.clocks.thread t s) (clock_at w.clocks (taken_from t e) s) + z) (own_raised g w.labels t e s)
        ∙ sym (if_yes t t (max (w.clocks.thread t s) (clock_at w.clocks (taken_from t e) s) + raised g w.labels t e s) (w.clocks.thread t s) refl)))))
        (λ x ne. h.clock x s ∙ sym (if_no x t (max (w.clocks.thread t s) (clock_at w.clocks (taken_from t e) s) + raised g w.labels t e s) (w.clocks.thread x s) ne)) u;
    given = but_each (λ u o. (c : Clock) → o.given ≡ Some c → (s : ℕ) → c s ≡ (event_clocks g w.labels w.clocks t e).spot (Of (Given u)) s) own t (own_after g e (own t) v)
        (λ c q s. h.given t c q s ∙ sym (stays t c q s))
        (λ u ne c q s. h.given u c q s ∙ sym (stays u c q s));
  }

  -- ---- channels

  pub channels_kept : (stripes : ℕ → Stripe) → HasChannels w stripes → ((a : ℕ) (p : Part) → SparesChannel t e a p) → HasChannels after stripes
  channels_kept stripes h spares a p s = h a p s ∙ sym (spot_stays g w.labels w.clocks t e (Of (Channel a p)) s (spares a p).kept (spares a p).not_left)

  -- ---- the desk

  -- a slot that waits keeps its epoch
  pub waits : IsSound w → (s : ℕ) → In s w.queue → (event_labels g w.labels t e).epoch s ≡ w.labels.epoch s
  waits sound s i = let z = not_raised g w.labels.epoch e (w.labels.slot_of t) s (λ q. sound.unowned t s q i) in omega arith

  same_queue : is_end e ≡ false → after.queue ≡ w.queue
  same_queue n = if_false (is_end e) (given_back g w.labels.epoch (w.labels.slot_of t) w.queue) w.queue n

  pub desk_kept : (d : Desk) → HasDesk w d → IsSound w → is_end e ≡ false → ((u : ℕ) → is_place (left_at t e) (Ended u) ≡ false) → (given : ℕ → Clock) →
      ((u r : ℕ) → given u r ≡ (event_clocks g w.labels w.clocks t e).spot (Of (Given u)) r) → HasDesk after (record d { given = given })
  desk_kept d h sound no_end not_ended given given_is = record {
    era = h.era;
    queue = h.queue ∙ sym (same_queue no_end);
    last = λ s i. let j : In s w.queue = subst (In s) (same_queue no_end) i in h.last s j ∙ sym (waits sound s j);
    left = λ s r. h.left s r ∙ sym (left_stays g w.labels w.clocks t e no_end s r);
    given = given_is;
    ended = λ u r. h.ended u r ∙ sym (spot_stays g w.labels w.clocks t e (Of (Ended u)) r refl (not_ended u));
  }

  pub given_kept : ((u : ℕ) → is_place (left_at t e) (Given u) ≡ false) → (u r : ℕ) → (event_clocks g w.labels w.clocks t e).spot (Of (Given u)) r ≡ w.clocks.spot (Of (Given u)) r
  given_kept not_given u r = spot_stays g w.labels w.clocks t e (Of (Given u)) r refl (not_given u)

  pub desk_quiet : (d : Desk) → HasDesk w d → IsSound w → IsQuiet t e → HasDesk after d
  desk_quiet d h sound q = desk_kept d h sound q.no_end q.not_ended d.given (λ u r. h.given u r ∙ sym (given_kept q.not_given u r))

  -- ---- owners

  pub sound_kept : IsSound w → is_end e ≡ false → IsSound after
  sound_kept sound n = record {
    one_owner = λ u x s a b. sound.one_owner u x s (owner_before g w.labels t e u s a) (owner_before g w.labels t e x s b);
    unowned = λ u s a i. sound.unowned u s (owner_before g w.labels t e u s a) (subst (In s) (same_queue n) i);
    free = λ s i. if_false (holds (w.labels.slot_of t) s && is_end e) (nat_lt (w.labels.epoch s) g) (w.labels.free s) (no (holds (w.labels.slot_of t) s)) ∙ sound.free s (subst (In s) (same_queue n) i);
    once = subst (InOrder (λ (a b : ℕ). a ≢ b)) (sym (same_queue n)) sound.once;
  }
    where
      no : (b : Bool) → (b && is_end e) ≡ false
      no true = n
      no false = refl
