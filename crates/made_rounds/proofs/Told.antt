-- What is told at a round's end.
use Rattle.std.proofs.Common.{◌≡◌, ◌<◌, ◌+◌, ℕ, Bool, cond, Some, List, [], ◌∷◌, ◌++◌, get_or, refl, sym, ap, ap₂, subst, ◌∙◌, append_assoc}
use Rattle.std.specs.Prelude.{map, All}
use Rattle.std.specs.List.{AllZip}
use Rattle.run_record.specs.declared.entry.Entry.{Entry}
use Rattle.run_record.specs.declared.limits.Limits.{Limits}
use Rattle.run_laws.specs.Moments.{Moment, moments}
use Rattle.report_laws.specs.Awaited.{Awaited}
use Rattle.slot_desk.specs.Desks.{DeskContents}
use Rattle.bare_machine.specs.Step.{desk}
use Rattle.turn_orders.specs.Machine.{State}
use Rattle.turn_orders.specs.LineUp.{Stamped}
use Rattle.turn_histories.specs.Rounds.{all_entries}
use Rattle.shared_table.specs.declared.object.DeskState.{DeskState}
use Rattle.shared_table.specs.declared.object.Object.{Object}
use Rattle.shared_table.specs.declared.object.Object.TheVariants.{Stripe, Desk}
use Rattle.shared_table.specs.declared.view.Layout.{Layout}
use Rattle.shared_table.specs.declared.view.Item.TheVariants.{Take}
use Rattle.shared_table.specs.Layouts.{IsLaidOut}
use Rattle.shared_table.specs.Past.{Past, Turns, turns_at, turns_of, logs_of, Lawful}
use Rattle.shared_table.specs.Laws.{splits_in}
use Rattle.shared_table.proofs.Pasts.{if_here}
use Rattle.detector.specs.Told.{CanBeSought, side_in}
use Rattle.trace_parts.specs.Held.{HeldTrace}
use Rattle.placed_detector.specs.Standing.{Hand}
use Rattle.table_deeds.specs.Rounds.{last_stamp, next_desk, IsNextDesk}
use Rattle.hart_parts.specs.Parts.{Part}
use Rattle.hart_parts.specs.Rounds.{PartRound, table_round, ArePartRounds}
use Rattle.whole_parts.specs.Dues.{HasDesk, state_after_rounds}
use Rattle.part_races.specs.Rounds.{TellsRaces, RoundAwaits, AllAwait}
use Rattle.part_races.specs.Sorting.{Keyed, awaited_in}
use Rattle.part_races.proofs.Sorted.{sorted_round}
use Rattle.part_races.proofs.More.{one_more_round}
use Rattle.part_runs.specs.Runs.{entries_of_rounds}
use Rattle.part_runs.specs.Told.{AwaitRoundEnd}
use Rattle.part_runs.specs.Ends.{at_end, trace_of, IsTellable}
use Rattle.part_runs.proofs.Ends.{all_tellable}
use Rattle.part_runs.proofs.Awaits.{told_awaits}
use Rattle.made_rounds.specs.Made.{MadeRound, Stand, first_stand, stand_after, entries_of_made}
use Rattle.made_rounds.specs.Logs.{round_items, HasPartLogs}
use Rattle.made_rounds.specs.Known.{stand_behind, IsAtRoundEnd, at_round_end, TellsRound, TellAll}
use Rattle.made_rounds.proofs.Pasts.{Cut, cut_own, OnlyOpening, only_opening, one_step}
use Rattle.made_rounds.proofs.Reached.{IsSame}
use Rattle.made_rounds.proofs.Step.{Found, find_round, count_end, joined_end}
use Rattle.made_rounds.proofs.Walk.{Walked}
use Rattle.made_rounds.proofs.First.{begins}
use Rattle.made_rounds.proofs.Found.{walked}

-- the desk as an era may begin
next_object : (ends : Bool) (o : Object) (d : DeskState) → HasDesk o d → (y : Object) × IsNextDesk ends o y
next_object ends (Desk o) d h = (Desk (record o { value = next_desk ends o.value }), refl)
next_object ends (Stripe o) d h = absurd h

-- only the traces count
tellable_there : (file : List ℕ) (limits : Limits) (h : List Moment) (m n : State (Stamped Hand) Object) (d : DeskContents) (one : Awaited) →
    ((t : ℕ) → m.local t ≡ n.local t) → IsTellable file limits h m d one → IsTellable file limits h n d one
tellable_there file limits h m n d one same k =
    let traces : (t : ℕ) → trace_of m t ≡ trace_of n t = (λ t. ap (λ (l : Stamped Hand). l.state.watched.trace) (same t)) in
    record {
      owner = k.owner;
      some = λ t o e. k.some t o (ap (λ (x : HeldTrace). x.held) (traces t) ∙ e);
      sought = λ t o. subst (λ (x : HeldTrace). CanBeSought file x one.granule one.word) (traces t) (k.sought t o);
      tells = λ t side o e. k.tells t side o (e ∙ ap (λ (x : HeldTrace). side_in file x one.granule one.word t) (sym (traces t)));
    }

-- what all earlier rounds await
all_await : (file : List ℕ) (limits : Limits) (lay : Layout) (rs : List PartRound) (xs : List MadeRound) (kss : List (List Keyed)) (s : Stand)
    (round era base : ℕ) (m : State (Stamped Hand) Object) → ArePartRounds file limits lay round era base m rs → AllZip IsSame rs xs → s.era ≡ era →
    TellAll file limits s xs kss → AllAwait file limits era rs (map awaited_in kss)
all_await file limits lay [] [] [] s round era base m are same e tell = tt
all_await file limits lay [] [] (k ∷ kss) s round era base m are same e tell = absurd tell
all_await file limits lay [] (x ∷ xs) kss s round era base m are same e tell = absurd same
all_await file limits lay (r ∷ rs) [] kss s round era base m are same e tell = absurd same
all_await file limits lay (r ∷ rs) (x ∷ xs) [] s round era base m are same e tell = absurd tell
all_await file limits lay (r ∷ rs) (x ∷ xs) (k ∷ kss) s round era base m are same e tell =
    let one = tell.0 in
    let here = sorted_round file limits era lay round m r are.1 one.told k
    (subst (λ (ps : List Part). AllZip (TellsRaces file limits era) ps one.told) (sym same.0.0)
    (subst (λ (n : ℕ). AllZip (TellsRaces file limits n) x.parts one.told) e one.of_parts)) one.sorted in (
      here,
      all_await file limits lay rs xs kss (stand_after s x) (round + 1) (cond r.ends (era + 1) era) (last_stamp (table_round m r)) r.next are.2 same.1
          (ap₂ (λ (b : Bool) (n : ℕ). cond b (n + 1) n) (sym same.0.1) e) tell.1,
    )

module _ (file : List ℕ) (limits : Limits) (lay : Layout) (past : Past) (first : Object) (xs : List MadeRound) (x : MadeRound) (d : DeskState)
    (h : IsAtRoundEnd file limits lay past first xs x d) where
  abbrev s : Stand
  s = stand_behind limits first xs

  abbrev m : State (Stamped Hand) Object
  m = begins file limits lay first h.before.set_up

  abbrev laid : IsLaidOut file limits lay
  laid = h.before.set_up.laid_out

  w : Walked file limits lay laid m past (round_items x ++ Take desk x.turn ∷ []) xs s
  w = walked file limits lay past first xs h.before (round_items x ++ Take desk x.turn ∷ []) h.logs.own_is h.logs.earlier

  c : Cut w.after (round_items x) (Take desk x.turn ∷ [])
  c = cut_own lay w.after (round_items x) (Take desk x.turn ∷ []) w.behind_is

  abbrev late : Past
  late = c.early

  whole : past ≡ c.late ++ (late ++ w.early)
  whole = w.whole_is ∙ (ap (λ (p : Past). p ++ w.early) c.whole ∙ append_assoc c.late late w.early)

  law : Lawful lay (c.late ++ (late ++ w.early))
  law = subst (Lawful lay) whole h.before.lawful

  only : OnlyOpening c.late
  only = only_opening lay c.late (late ++ w.early) law (ap splits_in c.behind_is)
      (λ n ne l. joined_end file limits lay laid m w.early late c.late xs s w.reached x h.round law c.first_is n ne
      (subst (λ (k : ℕ). n < k) (count_end file limits lay laid m w.early late c.late xs s w.reached x h.round law c.first_is) l))

  found : (turns_of lay desk (late ++ w.early)).value ≡ Some x.found
  found =
      let st : Turns = turns_of lay desk (late ++ w.early) in
      let there : past ≡ (0, Take desk x.turn) ∷ (late ++ w.early) =
      whole ∙ ap (λ (p : Past). p ++ (late ++ w.early)) (one_step c.late (Take desk x.turn) only c.behind_is) in
      sym (ap (λ (t : Turns). t.value) (if_here desk desk (turns_at st.done st.value (Some 0)) st refl))
      ∙ subst (λ (p : Past). (turns_of lay desk p).value ≡ Some x.found) there h.found

  next : (y : Object) × IsNextDesk x.ends x.found y
  next = next_object x.ends x.found d h.at_desk

  f : Found file limits lay m w.early late xs s w.reached x next.0
  f = find_round file limits lay laid m w.early late c.late xs s w.reached x h.round law c.first_is next.0
      (subst (λ (p : Past). HasPartLogs (logs_of p) x) whole h.logs.parts) found next.1

  abbrev rs : List PartRound
  rs = w.reached.rs

  before_is : entries_of_rounds rs ≡ entries_of_made xs
  before_is = ap all_entries w.reached.entries

  -- what awaits the round's end can be told
  pub tells_end : (awaited : List Awaited) → AwaitRoundEnd limits (entries_of_made xs) x.entries awaited →
      All (IsTellable file limits (moments (entries_of_made xs ++ x.entries)) (at_round_end s x) d.desk) awaited
  tells_end awaited awaits =
      let there = subst (λ (es : List Entry). AwaitRoundEnd limits es f.r.entries awaited) (sym before_is)
      (subst (λ (es : List Entry). AwaitRoundEnd limits (entries_of_made xs) es awaited) (sym f.entries_are) awaits) in
      let all = all_tellable file limits lay (late ++ w.early) m rs f.r d f.rounds (subst (λ (o : Object). HasDesk o d) (sym f.desk_found) h.at_desk)
      awaited there in
      let same : entries_of_rounds rs ++ f.r.entries ≡ entries_of_made xs ++ x.entries = ap₂ (λ (a b : List Entry). a ++ b) before_is f.entries_are in
      λ i y l.
      tellable_there file limits (moments (entries_of_made xs ++ x.entries)) (at_end m rs f.r) (at_round_end s x) d.desk (get_or awaited i y) f.locals
      (subst (λ (es : List Entry). IsTellable file limits (moments es) (at_end m rs f.r) d.desk (get_or awaited i y)) same (all i y l))

  -- what the workers told awaits it
  pub awaits_end : (earlier : List (List Keyed)) (keys : List Keyed) → TellAll file limits (first_stand limits first) xs earlier →
      TellsRound file limits s.era x keys → AwaitRoundEnd limits (entries_of_made xs) x.entries (awaited_in keys)
  awaits_end earlier keys tell one =
      let here : RoundAwaits file limits s.era f.r (awaited_in keys) =
      sorted_round file limits s.era lay s.round (state_after_rounds m rs) f.r f.is one.told keys
      (subst (λ (ps : List Part). AllZip (TellsRaces file limits s.era) ps one.told) (sym f.parts_are) one.of_parts) one.sorted in
      let before = all_await file limits lay rs xs earlier (first_stand limits first) 0 0 0 m w.reached.rounds.parts w.reached.same refl tell in
      let all = one_more_round file limits 0 rs f.r (map awaited_in earlier) (awaited_in keys) before
      (subst (λ (n : ℕ). RoundAwaits file limits n f.r (awaited_in keys)) w.reached.era here) in
      let told = told_awaits file limits lay (late ++ w.early) m rs f.r (map awaited_in earlier) (awaited_in keys) f.rounds all in
      subst (λ (es : List Entry). AwaitRoundEnd limits es x.entries (awaited_in keys)) before_is
      (subst (λ (es : List Entry). AwaitRoundEnd limits (entries_of_rounds rs) es (awaited_in keys)) f.entries_are told)
