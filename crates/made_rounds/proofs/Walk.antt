-- All rounds that were made are found in a past, one after another.
use Rattle.std.proofs.Common.{◌≡◌, ◌<◌, ◌+◌, ◌-◌, ℕ, Bool, cond, List, [], ◌∷◌, ◌++◌, length, refl, sym, ap, ap₂, subst, ◌∙◌, arith, append_assoc, append-nil, length-append}
use Rattle.std.specs.Prelude.{Some}
use Rattle.std.specs.List.{AllZip}
use Rattle.std.proofs.lemmas.List.{map-append}
use Rattle.run_record.specs.declared.entry.Entry.{Entry}
use Rattle.run_record.specs.declared.limits.Limits.{Limits}
use Rattle.run_laws.specs.Rounds.{steps_in}
use Rattle.bare_machine.specs.Step.{desk}
use Rattle.turn_orders.specs.Lists.{Each}
use Rattle.turn_orders.specs.Machine.{State}
use Rattle.turn_orders.specs.LineUp.{Stamped, with_stamp}
use Rattle.shared_table.specs.declared.object.Object.{Object}
use Rattle.shared_table.specs.declared.view.Layout.{Layout}
use Rattle.shared_table.specs.declared.view.Item.TheVariants.{Take, Give}
use Rattle.shared_table.specs.Layouts.{IsLaidOut}
use Rattle.shared_table.specs.Past.{Log, Past, Turns, turns_at, turns_of, log_of, logs_of, Lawful}
use Rattle.shared_table.specs.Laws.{splits_in}
use Rattle.shared_table.proofs.Pasts.{if_here}
use Rattle.shared_table.proofs.PastLaws.{join_last, earlier}
use Rattle.placed_detector.specs.Standing.{Hand}
use Rattle.table_deeds.specs.Rounds.{HasObjects, HaveStamps, next_hand, IsNextDesk}
use Rattle.table_deeds.proofs.Opening.{between}
use Rattle.hart_parts.specs.Parts.{IsPrivate}
use Rattle.hart_parts.specs.Rounds.{PartRound}
use Rattle.whole_parts.specs.Dues.{state_after_rounds}
use Rattle.part_runs.specs.Ends.{at_end}
use Rattle.part_runs.proofs.Next.{state_then, era_then, base_then, past_then, remaining_then, last_then, later_rounds}
use Rattle.made_rounds.specs.Made.{MadeRound, Stand, base_after, stand_after, stand_of, IsMade, AreMade}
use Rattle.made_rounds.specs.Logs.{round_items, turn_items, own_items, HasPartLogs}
use Rattle.made_rounds.proofs.Pasts.{cut_own, OnlyOpening, only_opening, two_steps}
use Rattle.made_rounds.proofs.Reached.{IsSame, Reached}
use Rattle.made_rounds.proofs.Step.{Found, find_round, count_end, joined_end}

zip_then : {X Y : Type 0} (R : X → Y → Type 0) (xs : List X) (ys : List Y) (x : X) (y : Y) → AllZip R xs ys → R x y → AllZip R (xs ++ x ∷ []) (ys ++ y ∷ [])
zip_then R [] [] x y h one = (one, tt)
zip_then R [] (b ∷ ys) x y h one = absurd h
zip_then R (a ∷ xs) [] x y h one = absurd h
zip_then R (a ∷ xs) (b ∷ ys) x y h one = (h.0, zip_then R xs ys x y h.1 one)

-- the desk as a turn found it, where nothing but the turn stands behind
pub turn_found : (lay : Layout) (past : Past) (i j : ℕ) (found left : Object) → Lawful lay ((0, Give desk j found left) ∷ (0, Take desk i) ∷ past) →
    (turns_of lay desk past).value ≡ Some found
turn_found lay past i j found left law =
    let st : Turns = turns_of lay desk past in
    sym (ap (λ (t : Turns). t.value) (if_here desk desk (turns_at st.done st.value (Some 0)) st refl)) ∙ law.1.3

module _ (file : List ℕ) (limits : Limits) (lay : Layout) (laid : IsLaidOut file limits lay) (m : State (Stamped Hand) Object) where
  module _ (early late after : Past) (xs : List MadeRound) (s : Stand) (h : Reached file limits lay m early xs s) (x : MadeRound)
      (is : IsMade file limits s x) (onward : IsNextDesk x.ends x.found x.left)
      (law : Lawful lay ((after ++ (0, Give desk x.turn x.found x.left) ∷ (0, Take desk x.turn) ∷ []) ++ (late ++ early))) (own : log_of 0 late ≡ round_items x)
      (logs : HasPartLogs (logs_of ((after ++ (0, Give desk x.turn x.found x.left) ∷ (0, Take desk x.turn) ∷ []) ++ (late ++ early))) x) where
    abbrev turn : Past
    turn = (0, Give desk x.turn x.found x.left) ∷ (0, Take desk x.turn) ∷ []

    law_turn : Lawful lay (turn ++ (late ++ early))
    law_turn = earlier lay after (turn ++ (late ++ early)) (subst (Lawful lay) (append_assoc after turn (late ++ early)) law)

    found : (turns_of lay desk (late ++ early)).value ≡ Some x.found
    found = turn_found lay (late ++ early) x.turn x.turn x.found x.left law_turn

    f : Found file limits lay m early late xs s h x x.left
    f = find_round file limits lay laid m early late (after ++ turn) xs s h x is law own x.left logs found onward

    abbrev rs : List PartRound
    rs = h.rs ++ f.r ∷ []

    state_is : state_after_rounds m rs ≡ f.r.next
    state_is = state_then m h.rs f.r

    seats_now : length (logs_of (turn ++ (late ++ early))) ≡ s.seat + length x.parts
    seats_now = count_end file limits lay laid m early late (after ++ turn) xs s h x is law own

    -- the round and its turn of the desk are found
    pub next_reached : Reached file limits lay m (turn ++ (late ++ early)) (xs ++ x ∷ []) (stand_after s x)
    next_reached = record {
      rs = rs;
      rounds = later_rounds file limits lay turn (late ++ early) m rs f.rounds (tt, (tt, tt)) law_turn;
      dues = f.dues;
      entries =
          map-append (λ (r : PartRound). r.entries) h.rs (f.r ∷ [])
          ∙ (ap₂ (λ (a b : List (List Entry)). a ++ b) h.entries (ap (λ (es : List Entry). es ∷ []) f.entries_are)
          ∙ sym (map-append (λ (y : MadeRound). y.entries) xs (x ∷ [])));
      same = zip_then IsSame h.rs xs f.r x h.same (f.parts_are, f.ends);
      between = turn;
      quiet = (tt, (tt, tt));
      past_is = ap (λ (p : Past). turn ++ p) (sym (past_then [] h.rs f.r ∙ f.past_is));
      locals = λ t.
          ap (λ (n : State (Stamped Hand) Object). n.local t) state_is ∙ (f.next.threads t
          ∙ ap (λ (l : Stamped Hand). with_stamp (next_hand s.era x.ends l.state) (base_after s x)) (f.locals t));
      desk_is = ap (λ (n : State (Stamped Hand) Object). n.value desk) state_is ∙ f.desk_next;
      round = let count = h.round in omega (arith, count, length-append h.rs (f.r ∷ []));
      era = ap₂ (λ (b : Bool) (e : ℕ). cond b (e + 1) e) (sym f.ends) h.era ∙ sym (era_then 0 h.rs f.r);
      last_era = h.era ∙ sym (last_then 0 0 h.rs f.r);
      base = sym (base_then 0 m h.rs f.r ∙ f.last);
      remaining =
          ap₂ (λ (n : ℕ) (es : List Entry). n - steps_in es) h.remaining (sym f.entries_are) ∙ sym (remaining_then limits.steps h.rs f.r);
      objects =
          subst (HasObjects lay (turn ++ (late ++ early))) (sym state_is)
          (between lay (late ++ early) 0 x.turn x.turn x.found x.left (at_end m h.rs f.r) f.r.next s.era (base_after s x) x.ends f.objects f.next f.desk_next);
      stamps = subst (λ (n : State (Stamped Hand) Object). HaveStamps n (base_after s x)) (sym state_is) f.stamps;
      private = λ k l. subst (λ (n : State (Stamped Hand) Object). IsPrivate limits (n.value k)) (sym state_is) (f.private k l);
      begun = λ t. ap (λ (n : State (Stamped Hand) Object). (n.local t).state.given) state_is ∙ f.begun t;
      some_seat = let low = h.some_seat in omega (arith, low);
      seats = seats_now;
      joined = λ n ne l.
          let j = joined_end file limits lay laid m early late (after ++ turn) xs s h x is law own n ne l in
          (j.0, (join_last lay turn (late ++ early) n j.0 law_turn j.1).1);
    }

  -- ---- one after another

  -- a past in which these rounds are found, and what of the opening seat's log stands behind them
  pub record Walked (whole : Past) (behind : Log) (xs : List MadeRound) (s : Stand) : Type 0 where
    pub early : Past
    pub after : Past
    pub whole_is : whole ≡ after ++ early
    pub behind_is : log_of 0 after ≡ behind
    pub reached : Reached file limits lay m early xs s

  pub walk : (xs done : List MadeRound) (early after : Past) (s : Stand) (behind : Log) → Reached file limits lay m early done s →
      AreMade file limits s xs → Lawful lay (after ++ early) → log_of 0 after ≡ own_items xs ++ behind →
      Each (HasPartLogs (logs_of (after ++ early))) xs → Walked (after ++ early) behind (done ++ xs) (stand_of s xs)
  walk [] done early after s behind h made law own logs = record {
    early = early;
    after = after;
    whole_is = refl;
    behind_is = own;
    reached = subst (λ (xs : List MadeRound). Reached file limits lay m early xs s) (sym (append-nil done)) h;
  }
  walk (x ∷ xs) done early after s behind h made law own logs =
      let items : log_of 0 after ≡ round_items x ++ (turn_items x ++ (own_items xs ++ behind)) =
      own ∙ (append_assoc (round_items x ++ turn_items x) (own_items xs) behind
      ∙ append_assoc (round_items x) (turn_items x) (own_items xs ++ behind)) in
      let c = cut_own lay after (round_items x) (turn_items x ++ (own_items xs ++ behind)) items in
      let b = cut_own lay c.late (turn_items x) (own_items xs ++ behind) c.behind_is in
      let late : Past = c.early in
      let rest : Past = b.late in
      let turn : Past = (0, Give desk x.turn x.found x.left) ∷ (0, Take desk x.turn) ∷ [] in
      let w : after ++ early ≡ (rest ++ b.early) ++ (late ++ early) =
      ap (λ (p : Past). p ++ early) (c.whole ∙ ap (λ (p : Past). p ++ late) b.whole) ∙ append_assoc (rest ++ b.early) late early in
      let law_w : Lawful lay ((rest ++ b.early) ++ (late ++ early)) = subst (Lawful lay) w law in
      let law_t : Lawful lay (b.early ++ (late ++ early)) =
      earlier lay rest (b.early ++ (late ++ early)) (subst (Lawful lay) (append_assoc rest b.early (late ++ early)) law_w) in
      let count = count_end file limits lay laid m early late (rest ++ b.early) done s h x made.0 law_w c.first_is in
      let only : OnlyOpening b.early = only_opening lay b.early (late ++ early) law_t (ap splits_in b.first_is)
      (λ n ne l. joined_end file limits lay laid m early late (rest ++ b.early) done s h x made.0 law_w c.first_is n ne (subst (λ (k : ℕ). n < k) count l)) in
      let t : b.early ≡ turn = two_steps b.early (Take desk x.turn) (Give desk x.turn x.found x.left) only b.first_is in
      let v : after ++ early ≡ (rest ++ turn) ++ (late ++ early) = w ∙ ap (λ (p : Past). (rest ++ p) ++ (late ++ early)) t in
      let next = next_reached early late rest done s h x made.0 made.1 (subst (Lawful lay) v law) c.first_is
      (subst (λ (p : Past). HasPartLogs (logs_of p) x) v logs.0) in
      let u : after ++ early ≡ rest ++ (turn ++ (late ++ early)) = v ∙ append_assoc rest turn (late ++ early) in
      let all = walk xs (done ++ x ∷ []) (turn ++ (late ++ early)) rest (stand_after s x) behind next made.2 (subst (Lawful lay) u law) b.behind_is
      (subst (λ (p : Past). Each (HasPartLogs (logs_of p)) xs) u logs.1) in
      record {
        early = all.early;
        after = all.after;
        whole_is = u ∙ all.whole_is;
        behind_is = all.behind_is;
        reached = subst (λ (ys : List MadeRound). Reached file limits lay m all.early ys (stand_of s (x ∷ xs))) (append_assoc done (x ∷ []) xs) all.reached;
      }
