-- The stamps that threads and places have after a round.
use Rattle.std.proofs.Common.{◌≡◌, ◌≤◌, ℕ, max, Bool, true, false, List, [], ◌∷◌, sym, ap, subst, ◌∙◌, arith}
use mathlib.Core.Logic.{dite}
use native.Mathlib.Decide.{ℕ_discrete}
use Rattle.run_record.specs.declared.limits.Limits.{Limits}
use Rattle.bare_machine.specs.Step.{desk}
use Rattle.turn_orders.specs.Lists.{Each}
use Rattle.turn_orders.specs.Machine.{State}
use Rattle.turn_orders.specs.LineUp.{Stamped, greatest}
use Rattle.turn_orders.proofs.Members.{at_member, all_members}
use Rattle.turn_orders.proofs.Functions.{but_here, but_else}
use Rattle.turn_orders.proofs.Permuted.{same_members}
use Rattle.shared_table.specs.declared.object.DeskState.{DeskState}
use Rattle.shared_table.specs.declared.object.Object.{Object}
use Rattle.shared_table.specs.declared.object.Object.TheVariants.{Stripe, Desk}
use Rattle.shared_table.specs.declared.view.Layout.{Layout}
use Rattle.woven_turns.specs.Following.{left_by, left_after}
use Rattle.placed_detector.specs.Standing.{Hand}
use Rattle.deed_histories.specs.Lines.{HandDeed, IsHandDeed}
use Rattle.deed_histories.specs.Rounds.{hand_stamp}
use Rattle.table_deeds.specs.Objects.{ObjectDeed, hand_deed, hand_deeds, last_in}
use Rattle.table_deeds.specs.Rounds.{TableRound, made_in, hands_in, last_stamp, IsNextDesk, IsTableRound, HaveStamps}
use Rattle.table_deeds.proofs.Rounds.{one_round}

-- a bound of what deeds left is one of what is left after them
left_within : (m : State (Stamped Hand) Object) (ds : List ObjectDeed) (k most : ℕ) → last_in (m.value k) ≤ most →
    Each (λ (d : ObjectDeed). last_in d.left ≤ most) ds → last_in ((left_after m ds).value k) ≤ most
left_within m [] k most b h = b
left_within m (d ∷ ds) k most b h =
    let here : last_in ((left_by m d).value k) ≤ most = dite (ℕ_discrete k d.call.place)
    (λ e. subst (λ (x : Object). last_in x ≤ most) (sym (but_here m.value d.call.place k d.left e)) h.0)
    (λ ne. subst (λ (x : Object). last_in x ≤ most) (sym (but_else m.value d.call.place k d.left ne)) b) in
    left_within (left_by m d) ds k most here h.1

none_greater : (ds : List HandDeed) → Each (λ (d : HandDeed). d.local_left.last ≤ greatest hand_stamp ds) ds
none_greater [] = tt
none_greater (d ∷ ds) = (
  grind (arith),
  all_members (λ (e : HandDeed). e.local_left.last ≤ greatest hand_stamp (d ∷ ds)) ds
      (λ e i. let less = at_member (λ (x : HandDeed). x.local_left.last ≤ greatest hand_stamp ds) e ds (none_greater ds) i in grind (arith, less)),
)

of_hands : (file : List ℕ) (limits : Limits) (P : HandDeed → Type 0) (ds : List ObjectDeed) → Each P (hand_deeds file limits ds) →
    Each (λ (d : ObjectDeed). P (hand_deed file limits d)) ds
of_hands file limits P [] h = tt
of_hands file limits P (d ∷ ds) h = (h.0, of_hands file limits P ds h.1)

desk_keeps : (ends : Bool) (x y : Object) → IsNextDesk ends x y → last_in y ≡ last_in x
desk_keeps true (Desk d) (Desk e) q = ap (λ (s : DeskState). s.last) q
desk_keeps false (Desk d) (Desk e) q = ap (λ (s : DeskState). s.last) q
desk_keeps ends (Desk d) (Stripe s) q = absurd q
desk_keeps ends (Stripe s) y q = absurd q

module _ (file : List ℕ) (limits : Limits) (lay : Layout) (round era : ℕ) (m : State (Stamped Hand) Object) (r : TableRound)
    (h : IsTableRound file limits lay round era m r) where
  abbrev most : ℕ
  most = last_stamp r

  each_within : Each (λ (d : HandDeed). d.left.last ≤ most) (hands_in file limits r)
  each_within =
      let one = one_round file limits lay round era m r h in
      let listed = one.it.listed in
      let top : max r.base (greatest hand_stamp listed) ≡ most =
      ap (λ (n : ℕ). max n (greatest hand_stamp listed)) (sym one.base_is) ∙ one.top_is in
      subst (Each (λ (d : HandDeed). d.left.last ≤ most)) one.made_is
      (all_members (λ (d : HandDeed). d.left.last ≤ most) one.it.made (λ d i.
      let is = at_member (IsHandDeed file limits era) d one.it.made one.is_round.deeds i in
      let low = at_member (λ (x : HandDeed). x.local_left.last ≤ greatest hand_stamp listed) d listed (none_greater listed)
      ((same_members one.it.made listed one.is_round.permuted d).0 i) in
      grind (arith, low, top, is.left_there)))

  left_most : (k : ℕ) → last_in ((left_after m (made_in r)).value k) ≤ most
  left_most k =
      let before = h.stamps.places k in
      left_within m (made_in r) k most (grind (arith, before)) (of_hands file limits (λ (d : HandDeed). d.left.last ≤ most) (made_in r) each_within)

  pub next_stamps : HaveStamps r.next most
  next_stamps = record {
    threads = λ t. ap (λ (l : Stamped Hand). l.last) (h.onward.threads t);
    places = λ k. dite (ℕ_discrete k desk)
        (λ e. subst (λ (j : ℕ). last_in (r.next.value j) ≤ most) (sym e)
        (subst (λ (n : ℕ). n ≤ most) (sym (desk_keeps r.ends ((left_after m (made_in r)).value desk) (r.next.value desk) h.onward.desk_is)) (left_most desk)))
        (λ ne. subst (λ (x : Object). last_in x ≤ most) (sym (h.onward.others k ne)) (left_most k));
  }
