-- One round more is found in a past.
use Rattle.std.proofs.Common.{◌≡◌, ◌≢◌, ◌<◌, ◌≤◌, ◌+◌, ◌-◌, ℕ, Bool, true, false, List, [], ◌∷◌, ◌++◌, length, inl, inr, refl, sym, ap, ap₂, subst, ◌∙◌, arith, append-nil}
use Rattle.std.specs.Prelude.{◌==◌, slice_get, Option, Some, None}
use Rattle.std.proofs.lemmas.Bool.{cases_lt}
use mathlib.Core.Logic.{dite}
use mathlib.Core.Option.{some}
use native.Mathlib.Decide.{ℕ_discrete}
use lib.ListN.{get_elem?}
use Rattle.run_record.specs.declared.limits.Limits.{Limits}
use Rattle.bare_machine.specs.Step.{desk}
use Rattle.turn_orders.specs.Lists.{Each, In}
use Rattle.turn_orders.specs.Machine.{State, but}
use Rattle.turn_orders.specs.LineUp.{Stamped, with_stamp, of_place, last_value}
use Rattle.turn_orders.proofs.Functions.{but_here, but_else}
use Rattle.turn_orders.proofs.Members.{at_member, each_append, filter_append}
use Rattle.shared_table.specs.declared.object.DeskState.{DeskState}
use Rattle.shared_table.specs.declared.object.Object.{Object}
use Rattle.shared_table.specs.declared.object.Object.TheVariants.{Stripe, Desk}
use Rattle.shared_table.specs.declared.view.Layout.{Layout}
use Rattle.shared_table.specs.declared.view.Item.{Item}
use Rattle.shared_table.specs.declared.view.Item.TheVariants.{Join}
use Rattle.shared_table.specs.Layouts.{objects_of, IsLaidOut}
use Rattle.shared_table.specs.Past.{Log, Past, turns_of, log_of, logs_of, Lawful}
use Rattle.shared_table.specs.Laws.{splits_in}
use Rattle.shared_table.proofs.Pasts.{if_here, if_else, fresh_log}
use Rattle.shared_table.proofs.PastLaws.{IsJoined, join_last, earlier, kept_log}
use Rattle.woven_turns.specs.Weave.{Tags, IsTagged, weave}
use Rattle.woven_turns.specs.Following.{left_by, left_after}
use Rattle.woven_turns.proofs.Weaving.{in_right, AreTagged, are_tagged, place_deeds, none_at, woven_public}
use Rattle.woven_turns.proofs.Cutting.{log_append}
use Rattle.placed_detector.specs.Standing.{Hand}
use Rattle.deed_histories.specs.Lines.{Tells}
use Rattle.table_deeds.specs.Objects.{ObjectDeed}
use Rattle.table_deeds.specs.Rounds.{last_stamp, HasObjects, HaveStamps, next_hand, IsNextDesk, IsNextState}
use Rattle.table_deeds.proofs.Left.{value_left_is}
use Rattle.table_deeds.proofs.Stamps.{next_stamps}
use Rattle.hart_parts.specs.Parts.{Part, Rest, at_last_object, left_in, IsPrivate, restamped, rest_deed, rest_deeds, IsPart}
use Rattle.hart_parts.specs.Rounds.{PartRound, tag_from, alone_of, table_round, IsPartRound}
use Rattle.hart_parts.proofs.Tags.{item_told}
use Rattle.hart_parts.proofs.Seats.{seat_cases}
use Rattle.hart_parts.proofs.Rounds.{round_is}
use Rattle.whole_parts.specs.Dues.{HasDesk, IsDueRound, AreDueRounds, state_after_rounds}
use Rattle.cell_loads.specs.Pasts as pasts
use Rattle.cell_loads.specs.Pasts.{TouchesNone, AreQuiet, GoesOn}
use Rattle.part_races.specs.Rounds.{era_after}
use Rattle.part_runs.specs.Next.{past_through, IsNextRound}
use Rattle.part_runs.specs.Runs.{AreRounds}
use Rattle.part_runs.specs.Ends.{at_end}
use Rattle.part_runs.proofs.Next.{next_rounds, dues_then}
use Rattle.part_runs.proofs.Left.{part_at_end, other_at_end}
use Rattle.made_rounds.specs.Made.{MadeRound, Stand, after_parts, base_after, IsMade}
use Rattle.made_rounds.specs.Logs.{round_items, HasPartLogs}
use Rattle.made_rounds.proofs.Pasts.{at_place, none_here, nothing_first, joined_of, more_seats}
use Rattle.made_rounds.proofs.Items.{IsPlain, plain_round, round_splits, in_round, slice_below}
use Rattle.made_rounds.proofs.Reached.{Reached}

-- ---- lists of parts and deeds

pub each_more : {X : Type 0} (P Q : X → Type 0) (xs : List X) → ((x : X) → P x → Q x) → Each P xs → Each Q xs
each_more P Q [] f h = tt
each_more P Q (x ∷ xs) f h = (f x h.0, each_more P Q xs f h.1)

-- what holds of the deed without an object of each part
each_alone : (m : State (Stamped Hand) Object) (P : ObjectDeed → Type 0)
    → ((p : Part) (r : Rest) → P (rest_deed p.thread (at_last_object p) (m.value (desk + 1 + p.thread)) r)) → (ps : List Part) → Each P (alone_of m ps)
each_alone m P f [] = tt
each_alone m P f (p ∷ ps) =
    each_append P (rest_deeds p.thread (at_last_object p) (m.value (desk + 1 + p.thread)) p.rest) (alone_of m ps) (go p.rest) (each_alone m P f ps)
  where
    go : (o : Option Rest) → Each P (rest_deeds p.thread (at_last_object p) (m.value (desk + 1 + p.thread)) o)
    go None = tt
    go (Some r) = (f p r, tt)

-- what a thread has after parts
parts_end : (f g : ℕ → Stamped Hand) (t : ℕ) (ps : List Part) → ((p : Part) → In p ps → f p.thread ≡ left_in p) →
    (((p : Part) → In p ps → p.thread ≡ t → ⊥) → f t ≡ g t) → f t ≡ after_parts ps g t
parts_end f g t [] own other = other (λ p i e. absurd i)
parts_end f g t (p ∷ ps) own other = dite (ℕ_discrete p.thread t)
    (λ e. ap f (sym e) ∙ (own p (inl refl) ∙ sym (if_here p.thread t (left_in p) (after_parts ps g t) e)))
    (λ ne.
    parts_end f g t ps (λ q i. own q (inr i)) (λ none. other (λ q i e. elim i [
      | inl a ↦ ne (ap (λ (y : Part). y.thread) (sym a) ∙ e)
      | inr j ↦ none q j e
    ]))
    ∙ sym (if_else p.thread t (left_in p) (after_parts ps g t) ne))

parts_begun : (g : ℕ → Stamped Hand) (t : ℕ) (ps : List Part) → Each (λ (p : Part). (left_in p).state.given ≡ None) ps → (g t).state.given ≡ None →
    (after_parts ps g t).state.given ≡ None
parts_begun g t [] h own = own
parts_begun g t (p ∷ ps) h own = dite (ℕ_discrete p.thread t)
    (λ e. ap (λ (l : Stamped Hand). l.state.given) (if_here p.thread t (left_in p) (after_parts ps g t) e) ∙ h.0)
    (λ ne. ap (λ (l : Stamped Hand). l.state.given) (if_else p.thread t (left_in p) (after_parts ps g t) ne) ∙ parts_begun g t ps h.1 own)

next_begun : (era : ℕ) (ends : Bool) (l : Hand) → (next_hand era ends l).given ≡ l.given
next_begun era true l = refl
next_begun era false l = refl

restamped_private : (limits : Limits) (x : Object) (n : ℕ) → IsPrivate limits x → IsPrivate limits (restamped x n)
restamped_private limits (Stripe s) n h = h
restamped_private limits (Desk d) n h = absurd h

-- places behind the desk stay private
private_left : (limits : Limits) (m : State (Stamped Hand) Object) (ds : List ObjectDeed) (k : ℕ) → desk < k → IsPrivate limits (m.value k) →
    Each (λ (d : ObjectDeed). desk < d.call.place → IsPrivate limits d.left) ds → IsPrivate limits ((left_after m ds).value k)
private_left limits m [] k l was h = was
private_left limits m (d ∷ ds) k l was h =
    let here : IsPrivate limits ((left_by m d).value k) = dite (ℕ_discrete k d.call.place)
    (λ e. subst (IsPrivate limits) (sym (but_here m.value d.call.place k d.left e)) (h.0 (subst (λ (j : ℕ). desk < j) e l)))
    (λ ne. subst (IsPrivate limits) (sym (but_else m.value d.call.place k d.left ne)) was) in
    private_left limits (left_by m d) ds k l here h.1

desk_made : (limits : Limits) (x : Object) (d : DeskState) → HasDesk x d → pasts.made_in limits x ≡ d.desk.made
desk_made limits (Desk o) d q = ap (λ (y : DeskState). y.desk.made) q
desk_made limits (Stripe o) d q = absurd q

-- ---- the round

-- A round that was made is found behind these rounds: `y` is the desk as the next round finds it.
pub record Found (file : List ℕ) (limits : Limits) (lay : Layout) (m : State (Stamped Hand) Object) (early late : Past) (xs : List MadeRound)
    (s : Stand) (h : Reached file limits lay m early xs s) (x : MadeRound) (y : Object) : Type 0 where
  pub r : PartRound
  pub parts_are : r.parts ≡ x.parts
  pub entries_are : r.entries ≡ x.entries
  pub is : IsPartRound file limits lay s.round s.era (state_after_rounds m h.rs) r
  pub rounds : AreRounds file limits lay (late ++ early) m (h.rs ++ r ∷ [])
  pub dues : AreDueRounds limits limits.steps m (h.rs ++ r ∷ [])
  pub past_is : r.late ++ r.early ≡ late ++ early
  pub ends : r.ends ≡ x.ends
  pub locals : (t : ℕ) → (at_end m h.rs r).local t ≡ after_parts x.parts s.locals t
  pub objects : HasObjects lay (late ++ early) (at_end m h.rs r)
  pub desk_found : (at_end m h.rs r).value desk ≡ x.found
  pub next : IsNextState (at_end m h.rs r) r.next s.era (base_after s x) x.ends
  pub desk_next : r.next.value desk ≡ y
  pub stamps : HaveStamps r.next (base_after s x)
  pub last : last_stamp (table_round (state_after_rounds m h.rs) r) ≡ base_after s x
  pub private : (k : ℕ) → desk < k → IsPrivate limits (r.next.value k)
  pub begun : (t : ℕ) → (r.next.local t).state.given ≡ None

module _ (file : List ℕ) (limits : Limits) (lay : Layout) (laid : IsLaidOut file limits lay) (m : State (Stamped Hand) Object)
    (early late after : Past) (xs : List MadeRound) (s : Stand) (h : Reached file limits lay m early xs s) (x : MadeRound)
    (is : IsMade file limits s x) (law : Lawful lay (after ++ (late ++ early))) (own : log_of 0 late ≡ round_items x) where
  abbrev st : State (Stamped Hand) Object
  st = state_after_rounds m h.rs

  law_end : Lawful lay (late ++ early)
  law_end = earlier lay after (late ++ early) law

  law_early : Lawful lay early
  law_early = earlier lay late early law_end

  pub count_end : length (logs_of (late ++ early)) ≡ s.seat + length x.parts
  count_end =
      more_seats lay late early law_end
      ∙ ap₂ (λ (a b : ℕ). a + b) h.seats (ap (λ (l : Log). length (splits_in l)) own ∙ round_splits x)

  -- ---- logs

  seat_joined : (i : ℕ) → i < length x.parts → (l : Log) × IsJoined lay (late ++ early) (x.first_seat + i) l
  seat_joined i l =
      let n = x.first_seat + i in
      let there : In (Join n) (log_of 0 (late ++ early)) =
      subst (In (Join n)) (ap (λ (z : Log). log_of 0 early ++ z) (sym own) ∙ sym (log_append 0 late early))
      (in_right (Join n) (log_of 0 early) (round_items x) (in_round x i l)) in
      joined_of lay (late ++ early) n law_end there

  -- all seats that were made by then are joined
  pub joined_end : (n : ℕ) → n ≢ 0 → n < s.seat + length x.parts → (l : Log) × IsJoined lay (late ++ early) n l
  joined_end n ne below = elim (cases_lt n s.seat) [
    | inl l ↦ let k = h.joined n ne l in (k.0, (join_last lay late early n k.0 law_end k.1).1)
    | inr l ↦
        let first = is.seats in
        let i = n - x.first_seat in
        let same : x.first_seat + i ≡ n = omega (arith, l, first) in
        let k = seat_joined i (omega (arith, below, l, first)) in
        (k.0, subst (λ (z : ℕ). IsJoined lay (late ++ early) z k.0) same k.1)
  ]

  -- no other seat than those of the parts makes a step of its own
  other_items : (n j : ℕ) (i : Item) → (x.first_seat ≤ n → n < x.first_seat + length x.parts → ⊥) → get_elem? (log_of n late) j ≡ some i → IsPlain i
  other_items n j i outside e = dite (ℕ_discrete n 0)
      (λ z. at_place IsPlain (round_items x) j i (plain_round x)
      (ap (λ (l : Log). get_elem? l j) (sym own) ∙ (ap (λ (k : ℕ). get_elem? (log_of k late) j) (sym z) ∙ e)))
      (λ ne. absurd (none_here (log_of n late) j i (elim (cases_lt n s.seat) [
        | inl l ↦ let k = h.joined n ne l in (join_last lay late early n k.0 law_end k.1).0
        | inr l ↦
            let first = is.seats in
            let high : s.seat + length x.parts ≤ n = (elim (cases_lt n (x.first_seat + length x.parts)) [
              | inl low ↦ absurd (outside (omega (arith, l, first)) low)
              | inr top ↦ omega (arith, top, first)
            ]) in
            let count = count_end in
            (nothing_first (log_of n early) (log_of n late)
            (sym (log_append n late early) ∙ fresh_log lay (late ++ early) n law_end (omega (arith, high, count)))).1
      ]) e))

  module _ (y : Object) (logs : HasPartLogs (logs_of (after ++ (late ++ early))) x) (found : (turns_of lay desk (late ++ early)).value ≡ Some x.found)
      (onward : IsNextDesk x.ends x.found y) where
    seat_log : (i : ℕ) (p : Part) → slice_get x.parts i ≡ Some p → log_of (x.first_seat + i) late ≡ p.log
    seat_log i p e =
        let n = x.first_seat + i in
        let at = logs i p e in
        let kept = kept_log lay (after ++ (late ++ early)) n p.log law at in
        let low = h.seats in
        let first = is.seats in
        let fresh = fresh_log lay early n law_early (omega (arith, low, first)) in
        let j = seat_joined i (slice_below x.parts i p e) in
        let gone = (join_last lay after (late ++ early) n j.0 law j.1).0 in
        let whole : log_of n (after ++ (late ++ early)) ≡ log_of n late =
        log_append n after (late ++ early)
        ∙ (ap₂ (λ (a b : Log). a ++ b) (log_append n late early) gone
        ∙ (append-nil (log_of n early ++ log_of n late) ∙ ap (λ (a : Log). a ++ log_of n late) fresh)) in
        sym (kept ∙ whole)

    -- ---- deeds

    abbrev tag : Tags (Stamped Hand) (Unit {0}) Tells
    tag = tag_from x.first_seat x.parts

    abbrev alone : List ObjectDeed
    alone = alone_of st x.parts

    abbrev made : List ObjectDeed
    made = weave tag late ++ alone

    abbrev left : State (Stamped Hand) Object
    left = left_after st made

    tagged : (n j : ℕ) (i : Item) → get_elem? (log_of n late) j ≡ some i → IsTagged i (tag n j)
    tagged n j i e = elim (seat_cases x.first_seat x.parts n) [
      | inl q ↦
          let log_is : log_of n late ≡ q.part.log = ap (λ (k : ℕ). log_of k late) q.number ∙ seat_log q.index q.part q.at in
          subst (IsTagged i) (sym (q.tells j))
          (item_told q.part j i (at_member (IsPart file limits s.era) q.part x.parts is.parts q.member).log_is
          (ap (λ (l : Log). get_elem? l j) (sym log_is) ∙ e))
      | inr q ↦ subst (IsTagged i) (sym (q.tells j)) (other_items n j i q.outside e).1
    ]

    are : AreTagged tag late
    are = are_tagged tag late tagged

    objects_are : objects_of lay ≡ desk + 1
    objects_are = laid.objects

    alone_behind : Each (λ (d : ObjectDeed). objects_of lay ≤ d.call.place) alone
    alone_behind =
        let size = objects_are in
        each_alone st (λ (d : ObjectDeed). objects_of lay ≤ d.call.place) (λ p r. omega (arith, size)) x.parts

    -- the table has the objects that the round's deeds left
    objects_end : HasObjects lay (late ++ early) left
    objects_end k below =
        let good = place_deeds tag lay k (st.value k) early late law_end are (h.objects k below) in
        let none : of_place k alone ≡ [] = none_at tag lay k alone
        (each_more (λ (d : ObjectDeed). objects_of lay ≤ d.call.place) (λ (d : ObjectDeed). d.call.place ≢ k) alone
        (λ d l e. absurd (omega (arith, l, e, below))) alone_behind) in
        let here : of_place k made ≡ of_place k (weave tag late) =
        filter_append (λ (d : ObjectDeed). d.call.place == k) (weave tag late) alone
        ∙ (ap (λ (ds : List ObjectDeed). of_place k (weave tag late) ++ ds) none ∙ append-nil (of_place k (weave tag late))) in
        good.1 ∙ ap Some (ap (last_value (st.value k)) (sym here) ∙ sym (value_left_is st k made))

    desk_end : left.value desk ≡ x.found
    desk_end =
        let size = objects_are in
        let e : Some (left.value desk) ≡ Some x.found = sym (objects_end desk (omega (arith, size))) ∙ found in
        let q : left.value desk ≡ x.found = cc in
        q

    private_end : (k : ℕ) → desk < k → IsPrivate limits (left.value k)
    private_end k l = private_left limits st made k l (h.private k l)
        (each_append (λ (d : ObjectDeed). desk < d.call.place → IsPrivate limits d.left) (weave tag late) alone
        (each_more (λ (d : ObjectDeed). d.call.place < objects_of lay) (λ (d : ObjectDeed). desk < d.call.place → IsPrivate limits d.left) (weave tag late)
        (λ d low high. let size = objects_are in absurd (omega (arith, low, high, size))) (woven_public tag lay early late law_end are))
        (each_alone st (λ (d : ObjectDeed). desk < d.call.place → IsPrivate limits d.left)
        (λ p r q.
        restamped_private limits (st.value (desk + 1 + p.thread)) ((at_last_object p).last + 1) (h.private (desk + 1 + p.thread) (omega arith))) x.parts))

    -- ---- the round

    abbrev next : State (Stamped Hand) Object
    next = record {
      local = λ t. with_stamp (next_hand s.era x.ends (left.local t).state) (base_after s x);
      value = but left.value desk y;
    }

    abbrev r : PartRound
    r = record {
      early = early;
      late = late;
      parts = x.parts;
      first_seat = x.first_seat;
      entries = x.entries;
      base = s.base;
      ends = x.ends;
      next = next;
    }

    desk_next : next.value desk ≡ y
    desk_next = but_here left.value desk desk y refl

    next_is : IsNextState left next s.era (base_after s x) x.ends
    next_is = record {
      threads = λ t. refl;
      others = λ k ne. but_else left.value desk k y ne;
      desk_is = subst (λ (o : Object). IsNextDesk x.ends o (next.value desk)) (sym desk_end) (subst (IsNextDesk x.ends x.found) (sym desk_next) onward);
    }

    some_first : 0 < x.first_seat
    some_first = let first = is.seats in let some_seat = h.some_seat in omega (arith, first, some_seat)

    round_here : IsPartRound file limits lay s.round s.era st r
    round_here = record {
      stamps = h.stamps;
      lawful = law_end;
      objects = objects_are;
      values = h.objects;
      private = h.private;
      begun = h.begun;
      opening = some_first;
      parts = is.parts;
      before =
          each_more (λ (p : Part). p.before ≡ s.locals p.thread) (λ (p : Part). p.before ≡ st.local p.thread) x.parts
          (λ p e. e ∙ sym (h.locals p.thread)) is.before;
      apart = is.apart;
      logs = seat_log;
      others = λ n j i no e. (other_items n j i (λ a b. no (a, b)) e).1;
      merged = is.merged;
      ordered = is.ordered;
      inside = is.inside;
      onward = next_is;
    }

    goes_on : GoesOn limits (past_through [] h.rs) st r
    goes_on = record {
      between = h.between;
      quiet = h.quiet;
      early = h.past_is;
      others = λ n j i no e. (other_items n j i (λ a b. no (a, b)) e).0;
      born =
          let made_is : pasts.made_in limits (st.value desk) ≡ is.opened.desk.made =
          ap (pasts.made_in limits) h.desk_is ∙ desk_made limits s.desk is.opened is.at_desk in
          each_more (λ (p : Part). p.thread < is.opened.desk.made) (λ (p : Part). p.thread < pasts.made_in limits (st.value desk)) x.parts
          (λ p l. omega (arith, l, made_is)) is.born;
    }

    next_round : IsNextRound file limits lay m h.rs r
    next_round = record {
      base = h.base;
      round =
          subst (λ (n : ℕ). IsPartRound file limits lay n (era_after 0 h.rs) st r) h.round
          (subst (λ (e : ℕ). IsPartRound file limits lay s.round e st r) h.era round_here);
      goes_on = goes_on;
    }

    rounds_then : AreRounds file limits lay (late ++ early) m (h.rs ++ r ∷ [])
    rounds_then = next_rounds file limits lay early m h.rs r h.rounds next_round

    due : IsDueRound limits s.remaining st r
    due = record {
      opened = is.opened;
      at_desk = subst (λ (o : Object). HasDesk o is.opened) (sym h.desk_is) is.at_desk;
      goes_on = is.goes_on;
      some_live = is.some_live;
      threads = is.threads;
      shares = is.shares;
      some_given = is.some_given;
      ends_is = is.ends_is;
    }

    dues_more : AreDueRounds limits limits.steps m (h.rs ++ r ∷ [])
    dues_more = dues_then limits limits.steps m h.rs r h.dues (subst (λ (n : ℕ). IsDueRound limits n st r) h.remaining due)

    locals_end : (t : ℕ) → left.local t ≡ after_parts x.parts s.locals t
    locals_end t = parts_end left.local s.locals t x.parts
        (λ p i. part_at_end file limits lay (late ++ early) m h.rs r rounds_then p i)
        (λ none. other_at_end file limits lay (late ++ early) m h.rs r rounds_then t none ∙ h.locals t)

    begun_next : (t : ℕ) → (next.local t).state.given ≡ None
    begun_next t =
        next_begun s.era x.ends (left.local t).state
        ∙ (ap (λ (l : Stamped Hand). l.state.given) (locals_end t)
        ∙ parts_begun s.locals t x.parts (each_more (IsPart file limits s.era) (λ (p : Part). (left_in p).state.given ≡ None) x.parts (λ p q. q.begun) is.parts)
        (ap (λ (l : Stamped Hand). l.state.given) (sym (h.locals t)) ∙ h.begun t))

    pub find_round : Found file limits lay m early late xs s h x y
    find_round = record {
      r = r;
      parts_are = refl;
      entries_are = refl;
      is = round_here;
      rounds = rounds_then;
      dues = dues_more;
      past_is = refl;
      ends = refl;
      locals = locals_end;
      objects = objects_end;
      desk_found = desk_end;
      next = next_is;
      desk_next = desk_next;
      stamps = next_stamps file limits lay s.round s.era st (table_round st r) (round_is file limits lay s.round s.era st r round_here);
      last = refl;
      private = λ k l. subst (IsPrivate limits) (sym (but_else left.value desk k y (λ e. absurd (omega (arith, l, e))))) (private_end k l);
      begun = begun_next;
    }
