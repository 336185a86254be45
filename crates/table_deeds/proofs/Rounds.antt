-- Rounds at the table are rounds of what its objects keep.
use Rattle.std.proofs.Common.{◌≡◌, ℕ, ◌+◌, max, Bool, true, false, cond, List, [], ◌∷◌, refl, sym, ap, ap₂, subst, ◌∙◌}
use Rattle.std.specs.Prelude.{map, take}
use mathlib.Core.Path.{fun_ext}
use mathlib.Core.Logic.{dite}
use native.Mathlib.Decide.{ℕ_discrete}
use Rattle.run_record.specs.declared.limits.Limits.{Limits}
use Rattle.run_record.specs.declared.entry.Entry.{Entry}
use Rattle.bare_machine.specs.Step.{desk}
use Rattle.turn_orders.specs.Lists.{Each}
use Rattle.turn_orders.specs.Machine.{State}
use Rattle.turn_orders.specs.LineUp.{Stamped, with_stamp, plain, greatest}
use Rattle.turn_orders.proofs.Members.{each_append, at_member, all_members}
use Rattle.turn_orders.proofs.Permuted.{same_members}
use Rattle.turn_orders.proofs.Functions.{but_here, but_else}
use Rattle.slot_desk.specs.Desks.{ThreadContents, lives_of}
use Rattle.slot_desk.specs.Steps.{forgotten, after_reset}
use Rattle.shared_table.specs.declared.object.DeskState.{DeskState}
use Rattle.shared_table.specs.declared.object.Object.{Object}
use Rattle.shared_table.specs.declared.object.Object.TheVariants.{Stripe, Desk}
use Rattle.shared_table.specs.declared.view.Layout.{Layout}
use Rattle.hart_steps.specs.Desks.{desk_value}
use Rattle.woven_turns.specs.Weave.{weave}
use Rattle.woven_turns.specs.Following.{left_after}
use Rattle.woven_turns.proofs.Weaving.{woven_each, round_line}
use Rattle.turn_histories.specs.Rounds.{IsIn}
use Rattle.placed_detector.specs.Standing.{Hand, Held}
use Rattle.deed_histories.specs.Lines.{HandDeed, IsHandDeed, entries_of}
use Rattle.deed_histories.specs.Rounds.{HandRound, IsHandRound, AreHandRounds, between, hands_after, hand_stamp, top}
use Rattle.table_deeds.specs.Objects.{ObjectDeed, hand_deed, hand_deeds, held_in, held_at}
use Rattle.table_deeds.specs.Rounds.{TableRound, made_in, hands_in, greatest_in, last_stamp, IsNextDesk, IsNextState, IsTableRound, AreTableRounds, AreKept}
use Rattle.table_deeds.proofs.Lines.{lines_up, all_left}
use Rattle.table_deeds.proofs.Listing.{listing}
use Rattle.table_deeds.proofs.Parts.{parts_of_listed}

lives_kept : (ts : List ThreadContents) → map (λ (t : ThreadContents). t.lives) (map forgotten ts) ≡ map (λ (t : ThreadContents). t.lives) ts
lives_kept [] = refl
lives_kept (t ∷ ts) = ap (λ (bs : List Bool). t.lives ∷ bs) (lives_kept ts)

module _ (file : List ℕ) (limits : Limits) where
  abbrev Objects : Type 0
  Objects = State (Stamped Hand) Object

  -- what the desk keeps
  abbrev kept_by : DeskState → Stamped Held
  kept_by d = with_stamp (record {
    bare = desk_value d.machine (lives_of d.desk);
    sync = record { slots = limits.slots; objects = []; spare = 0 };
    desk = d.desk;
  }) d.last

  -- what a place has, in an era that begins
  abbrev in_era : Stamped Held → Stamped Held
  in_era x = with_stamp (record (x.state) { desk = after_reset x.state.desk }) x.last

  era_kept : (d : DeskState) → kept_by (record d { desk = after_reset d.desk }) ≡ in_era (kept_by d)
  era_kept d = ap (λ (bs : List Bool). with_stamp (record {
    bare = desk_value d.machine (take d.desk.made bs);
    sync = record { slots = limits.slots; objects = []; spare = 0 };
    desk = after_reset d.desk;
  }) d.last) (lives_kept d.desk.threads)

  same_desk : (x y : Object) → IsNextDesk false x y → held_in file limits desk y ≡ held_in file limits desk x
  same_desk (Desk d) (Desk e) q = ap kept_by q
  same_desk (Desk d) (Stripe s) q = absurd q
  same_desk (Stripe s) y q = absurd q

  era_desk : (x y : Object) → IsNextDesk true x y → held_in file limits desk y ≡ in_era (held_in file limits desk x)
  era_desk (Desk d) (Desk e) q = ap kept_by q ∙ era_kept d.value
  era_desk (Desk d) (Stripe s) q = absurd q
  era_desk (Stripe s) y q = absurd q

  -- what each place has when the next round begins
  next_place : (m next : Objects) (era stamp : ℕ) (ends : Bool) → IsNextState m next era stamp ends → (k : ℕ) →
      held_in file limits k (next.value k) ≡ (between era stamp ends (held_at file limits m)).value k
  next_place m next era stamp false h k = dite (ℕ_discrete k desk)
      (λ e. subst (λ (j : ℕ). held_in file limits j (next.value j) ≡ held_in file limits j (m.value j)) (sym e)
      (same_desk (m.value desk) (next.value desk) h.desk_is))
      (λ ne. ap (held_in file limits k) (h.others k ne))
  next_place m next era stamp true h k =
      let before : ℕ → Held = (plain (held_at file limits m)).value in
      let reset : Held = record (before desk) { desk = after_reset (before desk).desk } in
      dite (ℕ_discrete k desk)
      (λ e. subst (λ (j : ℕ). held_in file limits j (next.value j) ≡ in_era (held_in file limits j (m.value j))) (sym e)
      (era_desk (m.value desk) (next.value desk) h.desk_is)
      ∙ ap (λ (x : Held). with_stamp x (held_in file limits k (m.value k)).last)
      (subst (λ (j : ℕ). (in_era (held_in file limits j (m.value j))).state ≡ reset) (sym e) refl ∙ sym (but_here before desk k reset e)))
      (λ ne. ap (held_in file limits k) (h.others k ne)
      ∙ ap (λ (x : Held). with_stamp x (held_in file limits k (m.value k)).last) (sym (but_else before desk k reset ne)))

  next_thread : (m next : Objects) (era stamp : ℕ) (ends : Bool) → IsNextState m next era stamp ends → (t : ℕ) →
      next.local t ≡ (between era stamp ends (held_at file limits m)).local t
  next_thread m next era stamp false h t = h.threads t
  next_thread m next era stamp true h t = h.threads t

  next_held : (m next : Objects) (era stamp : ℕ) (ends : Bool) → IsNextState m next era stamp ends →
      held_at file limits next ≡ between era stamp ends (held_at file limits m)
  next_held m next era stamp ends h =
      ap (λ (f : ℕ → Stamped Hand). record { local = f; value = (held_at file limits next).value }) (fun_ext (next_thread m next era stamp ends h))
      ∙ ap (λ (f : ℕ → Stamped Held). record { local = (between era stamp ends (held_at file limits m)).local; value = f })
      (fun_ext (next_place m next era stamp ends h))

  module _ (lay : Layout) where
    each_hand : (era : ℕ) (ds : List ObjectDeed) → Each (λ (d : ObjectDeed). IsHandDeed file limits era (hand_deed file limits d)) ds →
        Each (IsHandDeed file limits era) (hand_deeds file limits ds)
    each_hand era [] h = tt
    each_hand era (d ∷ ds) h = (h.0, each_hand era ds h.1)

    -- the round as the laws of workers have it
    pub record OneRound (round era : ℕ) (m : Objects) (r : TableRound) : Type 0 where
      pub it : HandRound
      pub made_is : it.made ≡ hands_in file limits r
      pub base_is : it.base ≡ r.base
      pub ends_is : it.ends ≡ r.ends
      pub is_round : IsHandRound file limits round era (held_at file limits m) it
      pub entries : entries_of it.listed ≡ r.entries
      pub top_is : top it ≡ last_stamp r
      pub after_it : hands_after era (held_at file limits m) it ≡ held_at file limits r.next

    greatest_same : (era : ℕ) (ds : List HandDeed) → Each (IsHandDeed file limits era) ds → greatest hand_stamp ds ≡ greatest_in (entries_of ds)
    greatest_same era [] h = refl
    greatest_same era (d ∷ ds) h =
        ap (λ (n : ℕ). max n (greatest hand_stamp ds)) (sym h.0.entry_stamp) ∙ ap (max d.told.entry.stamp) (greatest_same era ds h.1)

    pub one_round : (round era : ℕ) (m : Objects) (r : TableRound) → IsTableRound file limits lay round era m r → OneRound round era m r
    one_round round era m r h =
        let made = hands_in file limits r in
        let line = lines_up file limits m (made_in r) (round_line r.tag lay m r.early r.late r.seat r.alone h.worked h.lawful) in
        let is_deed = λ (d : ObjectDeed). IsHandDeed file limits era (hand_deed file limits d) in
        let woven = woven_each r.tag is_deed r.late h.deeds in
        let deeds = each_hand era (made_in r) (each_append is_deed (weave r.tag r.late) r.alone woven h.last_deeds) in
        let l = listing file limits era made r.workers r.entries deeds h.apart h.known h.merged h.ordered in
        let it : HandRound = record { made = made; listed = l.listed; base = r.base; ends = r.ends } in
        let each = all_members (IsHandDeed file limits era) l.listed
        (λ d i. at_member (IsHandDeed file limits era) d made deeds ((same_members made l.listed l.permuted d).1 i)) in
        let top_is : top it ≡ last_stamp r = ap (max r.base) (greatest_same era l.listed each ∙ ap greatest_in l.entries) in
        record {
          it = it;
          made_is = refl;
          base_is = refl;
          ends_is = refl;
          is_round = record {
            threads = h.stamps.threads;
            places = h.stamps.places;
            line = line;
            deeds = deeds;
            permuted = l.permuted;
            sorted = l.sorted;
            inside = subst (Each (IsIn round era)) (sym l.entries) h.inside;
            parts = parts_of_listed file limits era (held_at file limits m) made line deeds h.parts l.listed l.permuted l.sorted;
            begun = λ ends t. ap (λ (c : State (Stamped Hand) (Stamped Held)). (c.local t).state.given) (all_left file limits m (made_in r)) ∙ h.begun ends t;
          };
          entries = l.entries;
          top_is = top_is;
          after_it =
              ap (λ (n : ℕ). between era n r.ends (left_after (held_at file limits m) made)) top_is
              ∙ (ap (between era (last_stamp r) r.ends) (all_left file limits m (made_in r))
              ∙ sym (next_held (left_after m (made_in r)) r.next era (last_stamp r) r.ends h.onward));
        }

    pub all_rounds : (rs : List TableRound) (round era base : ℕ) (m : Objects) → AreTableRounds file limits lay round era base m rs →
        AreKept file limits round era base m rs
    all_rounds [] round era base m h = record { rounds = []; are = tt; entries = refl }
    all_rounds (r ∷ rs) round era base m h =
        let one = one_round round era m r h.1 in
        let others = all_rounds rs (round + 1) (cond r.ends (era + 1) era) (last_stamp r) r.next h.2 in
        let rest : AreHandRounds file limits (round + 1) (cond r.ends (era + 1) era) (top one.it) (hands_after era (held_at file limits m) one.it) others.rounds =
        subst (λ (c : State (Stamped Hand) (Stamped Held)).
        AreHandRounds file limits (round + 1) (cond r.ends (era + 1) era) (top one.it) c others.rounds) (sym one.after_it)
        (subst (λ (n : ℕ). AreHandRounds file limits (round + 1) (cond r.ends (era + 1) era) n (held_at file limits r.next) others.rounds)
        (sym one.top_is) others.are) in
        record {
          rounds = one.it ∷ others.rounds;
          are = (
            one.base_is ∙ h.0,
            one.is_round,
            subst (λ (b : Bool). AreHandRounds file limits (round + 1) (cond b (era + 1) era) (top one.it)
                (hands_after era (held_at file limits m) one.it) others.rounds) (sym one.ends_is) rest,
          );
          entries = ap₂ (λ (es : List Entry) (ess : List (List Entry)). es ∷ ess) one.entries others.entries;
        }
