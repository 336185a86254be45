-- What the first round begins with.
use Rattle.std.proofs.Common.{◌≡◌, ◌<◌, ◌≤◌, ◌⊎◌, ℕ, List, [], inl, inr, refl, sym, ap, subst, ◌∙◌, arith}
use Rattle.std.specs.Prelude.{◌==◌, if◌then◌else◌, Option, Some, None}
use Rattle.std.proofs.lemmas.Bool.{cases_lt}
use Rattle.run_record.specs.declared.limits.Limits.{Limits}
use Rattle.bare_machine.specs.Step.{desk}
use Rattle.turn_orders.specs.Machine.{State}
use Rattle.turn_orders.specs.LineUp.{Stamped, with_stamp}
use Rattle.shared_table.specs.declared.object.DeskState.{DeskState}
use Rattle.shared_table.specs.declared.object.Object.{Object}
use Rattle.shared_table.specs.declared.object.Object.TheVariants.{Stripe, Desk}
use Rattle.shared_table.specs.declared.view.Layout.{Layout}
use Rattle.shared_table.specs.Layouts.{first_of, IsFirstStripe, IsFirstDesk}
use Rattle.shared_table.proofs.Pasts.{if_here, if_else}
use Rattle.placed_detector.specs.Standing.{Hand}
use Rattle.placed_detector.specs.First.{first_hand}
use Rattle.table_deeds.specs.Objects.{last_in, IsFirstPrivate, AreFirstObjects}
use Rattle.table_deeds.specs.Rounds.{HasObjects}
use Rattle.table_deeds.proofs.Opening.{laid_out}
use Rattle.hart_parts.specs.Parts.{IsPrivate}
use Rattle.part_runs.proofs.Next.{no_rounds}
use Rattle.made_rounds.specs.Made.{first_stand}
use Rattle.made_rounds.specs.Known.{IsSetUp}
use Rattle.made_rounds.proofs.Reached.{Reached}

stripe_last : (file : List ℕ) (limits : Limits) (k : ℕ) (x : Object) → IsFirstStripe file limits k (Some x) → last_in x ≤ 0
stripe_last file limits k (Stripe s) h = let e = h.5 in omega (arith, e)
stripe_last file limits k (Desk d) h = absurd h

desk_last : (file : List ℕ) (limits : Limits) (x : Object) → IsFirstDesk file limits (Some x) → last_in x ≤ 0
desk_last file limits (Desk d) h = let e : d.value.last ≡ 0 = ap (λ (y : DeskState). y.last) h in omega (arith, e)
desk_last file limits (Stripe s) h = absurd h

pub private_last : (limits : Limits) (x : Object) → IsFirstPrivate limits x → last_in x ≤ 0
private_last limits (Stripe s) h = let e = h.2 in omega (arith, e)
private_last limits (Desk d) h = absurd h

pub private_is : (limits : Limits) (x : Object) → IsFirstPrivate limits x → IsPrivate limits x
private_is limits (Stripe s) h = (h.0, h.1)
private_is limits (Desk d) h = absurd h

pub stripe_private : (file : List ℕ) (limits : Limits) (k : ℕ) (x : Object) → IsFirstStripe file limits k (Some x) → IsFirstPrivate limits x
stripe_private file limits k (Stripe s) h = (h.3, h.4, h.5)
stripe_private file limits k (Desk d) h = absurd h

module _ (file : List ℕ) (limits : Limits) (lay : Layout) (first : Object) (up : IsSetUp file limits lay first) where
  pub there : (k : ℕ) (o : Option Object) → IsFirstStripe file limits k o → (y : Object) × (o ≡ Some y)
  there k None h = absurd h
  there k (Some y) h = (y, refl)

  pub stripe_there : (k : ℕ) → k < desk → (y : Object) × (first_of lay k ≡ Some y)
  stripe_there k l = there k (first_of lay k) (up.laid_out.stripes k l)

  -- a stripe that nobody else sees is as stripe 0 begins
  pub some_low : 0 < desk
  some_low = omega arith

  abbrev pub unseen : Object
  unseen = (stripe_there 0 some_low).0

  pub pick : (k : ℕ) → (k < desk) ⊎ (desk ≤ k) → Object
  pick k (inl l) = (stripe_there k l).0
  pick k (inr g) = if k == desk then first else unseen

  pick_low : (k : ℕ) (d : (k < desk) ⊎ (desk ≤ k)) → k < desk → first_of lay k ≡ Some (pick k d)
  unfolding pick
  pick_low k (inl l) low = (stripe_there k l).1
  pick_low k (inr g) low = absurd (omega (arith, g, low))

  pick_desk : (k : ℕ) (d : (k < desk) ⊎ (desk ≤ k)) → k ≡ desk → pick k d ≡ first
  unfolding pick
  pick_desk k (inl l) e = absurd (omega (arith, l, e))
  pick_desk k (inr g) e = if_here k desk first unseen e

  pick_private : (k : ℕ) (d : (k < desk) ⊎ (desk ≤ k)) → desk < k → IsFirstPrivate limits (pick k d)
  unfolding pick
  pick_private k (inl l) high = absurd (omega (arith, l, high))
  pick_private k (inr g) high =
      let s = stripe_there 0 some_low in
      subst (IsFirstPrivate limits) (sym (if_else k desk first unseen (λ e. absurd (omega (arith, e, high)))))
      (stripe_private file limits 0 s.0 (subst (IsFirstStripe file limits 0) s.1 (up.laid_out.stripes 0 some_low)))

  -- the table as it begins
  abbrev pub begins : State (Stamped Hand) Object
  begins = record { local = λ t. with_stamp (first_hand limits t) 0; value = λ k. pick k (cases_lt k desk) }

  has : HasObjects lay [] begins
  has k below = elim (cases_lt k desk) [
    | inl l ↦ pick_low k (cases_lt k desk) l
    | inr g ↦
        let size = up.laid_out.objects in
        let e : k ≡ desk = omega (arith, g, below, size) in
        ap (first_of lay) e ∙ (up.first_desk ∙ ap Some (sym (pick_desk k (cases_lt k desk) e)))
  ]

  privates : (k : ℕ) → desk < k → IsFirstPrivate limits (begins.value k)
  privates k l = pick_private k (cases_lt k desk) l

  first_is : AreFirstObjects file limits begins
  first_is = laid_out lay file limits begins up.laid_out has (λ t. refl) privates

  places : (k : ℕ) → last_in (begins.value k) ≤ 0
  places k = elim (cases_lt k desk) [
    | inl l ↦ stripe_last file limits k (begins.value k) (first_is.stripes k l)
    | inr g ↦ elim (cases_lt desk k) [
      | inl l ↦ private_last limits (begins.value k) (privates k l)
      | inr l ↦
          let e : k ≡ desk = omega (arith, g, l) in
          subst (λ (j : ℕ). last_in (begins.value j) ≤ 0) (sym e) (desk_last file limits (begins.value desk) first_is.desk_is)
    ]
  ]

  pub first_reached : Reached file limits lay begins [] [] (first_stand limits first)
  first_reached = record {
    rs = [];
    rounds = no_rounds file limits lay [] begins up.limits_are up.accepted first_is tt tt;
    dues = tt;
    entries = refl;
    same = tt;
    between = [];
    quiet = tt;
    past_is = refl;
    locals = λ t. refl;
    desk_is = pick_desk desk (cases_lt desk desk) refl;
    round = refl;
    era = refl;
    last_era = refl;
    base = refl;
    remaining = refl;
    objects = has;
    stamps = record { threads = λ t. refl; places = places };
    private = λ k l. private_is limits (begins.value k) (privates k l);
    begun = λ t. refl;
    some_seat = omega arith;
    seats = refl;
    joined = λ n ne l. absurd (ne (omega (arith, l)));
  }
