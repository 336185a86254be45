-- What a new table keeps is what the laws of workers begin with.
use Rattle.std.proofs.Common.{◌≡◌, ◌<◌, ◌≤◌, ℕ, Bool, false, cond, ltb, List, [], inl, inr, refl, sym, ap, subst, ◌∙◌, arith, ne_eqb, ltb-true, ltb-false}
use Rattle.std.proofs.lemmas.Bool.{lt-ltb, cases_Bool}
use mathlib.Core.Logic.{dite}
use native.Mathlib.Decide.{ℕ_discrete}
use Rattle.std.specs.Prelude.{Some}
use Rattle.run_record.specs.declared.limits.Limits.{Limits}
use Rattle.guest_memory.specs.declared.reservations.Reservation.{Reservation}
use Rattle.bare_machine.specs.Step.{desk}
use Rattle.turn_orders.specs.Machine.{State}
use Rattle.turn_orders.specs.LineUp.{Stamped}
use Rattle.place_turns.specs.Places.{of_desk, of_stripe, of_nobody}
use Rattle.place_turns.specs.Wholes.{first_value, first_stripe, first_desk}
use Rattle.slot_desk.specs.Desks.{lives_of}
use Rattle.slot_desk.specs.Steps.{new_desk}
use Rattle.shared_table.specs.declared.object.Object.{Object}
use Rattle.shared_table.specs.declared.object.Object.TheVariants.{Stripe, Desk}
use Rattle.shared_table.specs.declared.object.DeskState.{DeskState}
use Rattle.shared_table.specs.Layouts.{IsFirstStripe, IsFirstDesk}
use Rattle.hart_steps.specs.Desks.{desk_value}
use Rattle.hart_steps.specs.Stripes.{stripe_value}
use Rattle.hart_steps.proofs.StripeLemmas.{first_is}
use Rattle.placed_detector.specs.Standing.{Hand}
use Rattle.deed_histories.specs.Rounds.{AreFirstStamped}
use Rattle.table_deeds.specs.Objects.{part_in, sync_in, slots_in, last_in, held_at, IsFirstPrivate, AreFirstObjects}

not_below : (k : ℕ) → desk ≤ k → ltb k desk ≡ false
not_below k above = elim (cases_Bool (ltb k desk)) [
  | inl e ↦ let l = ltb-true k desk e in absurd (omega arith)
  | inr e ↦ e
]

first_at : (file : List ℕ) (k : ℕ) → k < desk → first_value file k ≡ of_stripe (first_stripe file)
first_at file k l =
    ap (λ (b : Bool). cond b (of_desk (first_desk file)) (cond (ltb k desk) (of_stripe (first_stripe file)) of_nobody)) (ne_eqb k desk (λ q. omega arith))
    ∙ ap (λ (b : Bool). cond b (of_stripe (first_stripe file)) of_nobody) (lt-ltb k desk l)

nobody_at : (file : List ℕ) (k : ℕ) → desk < k → first_value file k ≡ of_nobody
nobody_at file k l =
    ap (λ (b : Bool). cond b (of_desk (first_desk file)) (cond (ltb k desk) (of_stripe (first_stripe file)) of_nobody)) (ne_eqb k desk (λ q. omega arith))
    ∙ ap (λ (b : Bool). cond b (of_stripe (first_stripe file)) of_nobody) (not_below k (omega arith))

module _ (file : List ℕ) (limits : Limits) where
  stripe_part : (k : ℕ) (x : Object) → k < desk → IsFirstStripe file limits k (Some x) → part_in file k x ≡ first_value file k
  stripe_part k (Desk d) l f = absurd f
  stripe_part k (Stripe s) l f =
      ap (λ (b : Bool). cond b (stripe_value file k s.value.words s.value.reserved) of_nobody) (lt-ltb k desk l)
      ∙ (ap (λ (rs : List Reservation). stripe_value file k s.value.words rs) f.2
      ∙ (first_is file s.value.words k (record { each = f.1 }) ∙ sym (first_at file k l)))

  desk_part : (x : Object) → IsFirstDesk file limits (Some x) → part_in file desk x ≡ first_value file desk
  desk_part (Stripe s) f = absurd f
  desk_part (Desk d) f = ap (λ (s : DeskState). desk_value s.machine (lives_of s.desk)) f

  private_part : (k : ℕ) (x : Object) → desk < k → IsFirstPrivate limits x → part_in file k x ≡ first_value file k
  private_part k (Desk d) l f = absurd f
  private_part k (Stripe s) l f =
      ap (λ (b : Bool). cond b (stripe_value file k s.value.words s.value.reserved) of_nobody) (not_below k (omega arith)) ∙ sym (nobody_at file k l)

  -- a property of a place and its object holds of each, where it holds of the three sorts
  by_sort : (P : ℕ → Object → Type 0) → ((k : ℕ) (x : Object) → k < desk → IsFirstStripe file limits k (Some x) → P k x) →
      ((x : Object) → IsFirstDesk file limits (Some x) → P desk x) → ((k : ℕ) (x : Object) → desk < k → IsFirstPrivate limits x → P k x) →
      (m : State (Stamped Hand) Object) → AreFirstObjects file limits m → (k : ℕ) → P k (m.value k)
  by_sort P stripe the_desk private m are k = dite (ℕ_discrete k desk)
      (λ e. subst (λ (j : ℕ). P j (m.value j)) (sym e) (the_desk (m.value desk) are.desk_is))
      (λ ne. elim (cases_Bool (ltb k desk)) [
        | inl b ↦ let l = ltb-true k desk b in stripe k (m.value k) l (are.stripes k l)
        | inr b ↦ let l : desk < k = grind (arith, ltb-false k desk b, ne) in private k (m.value k) l (are.private k l)
      ])

  stripe_sync : (k : ℕ) (x : Object) → k < desk → IsFirstStripe file limits k (Some x) →
      ((sync_in limits x).objects ≡ []) × ((sync_in limits x).slots ≡ limits.slots) × (last_in x ≡ 0)
  stripe_sync k (Desk d) l f = absurd f
  stripe_sync k (Stripe s) l f = (f.4, f.3, f.5)

  desk_sync : (x : Object) → IsFirstDesk file limits (Some x) →
      ((sync_in limits x).objects ≡ []) × ((sync_in limits x).slots ≡ limits.slots) × (last_in x ≡ 0)
  desk_sync (Stripe s) f = absurd f
  desk_sync (Desk d) f = (refl, refl, ap (λ (s : DeskState). s.last) f)

  private_sync : (k : ℕ) (x : Object) → desk < k → IsFirstPrivate limits x →
      ((sync_in limits x).objects ≡ []) × ((sync_in limits x).slots ≡ limits.slots) × (last_in x ≡ 0)
  private_sync k (Desk d) l f = absurd f
  private_sync k (Stripe s) l f = (f.1, f.0, f.2)

  desk_slots : (x : Object) → IsFirstDesk file limits (Some x) → slots_in limits x ≡ new_desk limits
  desk_slots (Stripe s) f = absurd f
  desk_slots (Desk d) f = ap (λ (s : DeskState). s.desk) f

  pub first_kept : (m : State (Stamped Hand) Object) → AreFirstObjects file limits m → AreFirstStamped file limits (held_at file limits m)
  first_kept m are =
      let parts = by_sort (λ k x. part_in file k x ≡ first_value file k) stripe_part desk_part private_part m are in
      let syncs = by_sort (λ k x. ((sync_in limits x).objects ≡ []) × ((sync_in limits x).slots ≡ limits.slots) × (last_in x ≡ 0))
      stripe_sync desk_sync private_sync m are in
      record {
        first = record {
          hands = λ t. ap (λ (l : Stamped Hand). l.state) (are.hands t);
          bare = parts;
          objects = λ k. (syncs k).0;
          slots = λ k. (syncs k).1;
          desk_is = desk_slots (m.value desk) are.desk_is;
        };
        threads = λ t. ap (λ (l : Stamped Hand). l.last) (are.hands t);
        places = λ k. (syncs k).2;
      }
