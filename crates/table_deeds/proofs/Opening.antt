-- What a table has when a round begins.
use Rattle.std.proofs.Common.{◌≡◌, ◌≢◌, ◌<◌, ℕ, Bool, cond, List, [], ◌∷◌, sym, ap, subst, ◌∙◌, arith, ne_eqb}
use Rattle.std.specs.Prelude.{◌+◌, Some, None}
use mathlib.Core.Logic.{dite}
use native.Mathlib.Decide.{ℕ_discrete}
use Rattle.run_record.specs.declared.limits.Limits.{Limits}
use Rattle.bare_machine.specs.Step.{desk}
use Rattle.turn_orders.specs.Machine.{State}
use Rattle.turn_orders.specs.LineUp.{Stamped, with_stamp}
use Rattle.shared_table.specs.declared.object.Object.{Object}
use Rattle.shared_table.specs.declared.view.Layout.{Layout}
use Rattle.shared_table.specs.declared.view.Item.TheVariants.{Take, Give}
use Rattle.shared_table.specs.Layouts.{objects_of, IsLaidOut, IsFirstStripe, IsFirstDesk}
use Rattle.shared_table.specs.Past.{Past, turns_of, turns_at, turns_after}
use Rattle.placed_detector.specs.Standing.{Hand}
use Rattle.placed_detector.specs.First.{first_hand}
use Rattle.table_deeds.specs.Objects.{IsFirstPrivate, AreFirstObjects}
use Rattle.table_deeds.specs.Rounds.{HasObjects, IsNextState}

module _ (lay : Layout) where
  pub laid_out : (file : List ℕ) (limits : Limits) (m : State (Stamped Hand) Object) → IsLaidOut file limits lay → HasObjects lay [] m →
      ((t : ℕ) → m.local t ≡ with_stamp (first_hand limits t) 0) → ((k : ℕ) → desk < k → IsFirstPrivate limits (m.value k)) → AreFirstObjects file limits m
  laid_out file limits m laid has hands private = record {
    hands = hands;
    stripes = λ k l.
        let below : k < objects_of lay = grind (arith, laid.objects, l) in
        subst (IsFirstStripe file limits k) (has k below) (laid.stripes k l);
    desk_is =
        let below : desk < objects_of lay = grind (arith, laid.objects) in
        subst (IsFirstDesk file limits) (has desk below) laid.desk;
    private = private;
  }

  -- a turn of the desk changes nothing else
  after_turn : (past : Past) (n i j : ℕ) (found left : Object) (k : ℕ) → k ≢ desk →
      (turns_of lay k ((n, Give desk j found left) ∷ (n, Take desk i) ∷ past)).value ≡ (turns_of lay k past).value
  after_turn past n i j found left k ne =
      let st = turns_of lay k past in
      let taken = turns_after k n (Take desk i) st in
      ap (λ (b : Bool). (cond b (turns_at (taken.done + 1) (Some left) None) taken).value) (ne_eqb desk k (λ e. ne (sym e)))
      ∙ ap (λ (b : Bool). (cond b (turns_at st.done st.value (Some n)) st).value) (ne_eqb desk k (λ e. ne (sym e)))

  pub between : (past : Past) (n i j : ℕ) (found left : Object) (m next : State (Stamped Hand) Object) (era stamp : ℕ) (ends : Bool) →
      HasObjects lay past m → IsNextState m next era stamp ends → next.value desk ≡ left →
      HasObjects lay ((n, Give desk j found left) ∷ (n, Take desk i) ∷ past) next
  between past n i j found left m next era stamp ends has h is k below = dite (ℕ_discrete k desk)
      (λ e. subst (λ (p : ℕ). (turns_of lay p ((n, Give desk j found left) ∷ (n, Take desk i) ∷ past)).value ≡ Some (next.value p)) (sym e)
      (ap Some (sym is)))
      (λ ne. after_turn past n i j found left k ne ∙ (has k below ∙ ap Some (sym (h.others k ne))))
