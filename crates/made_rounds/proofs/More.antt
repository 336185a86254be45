-- What is known of rounds and logs goes on by one more.
use Rattle.std.proofs.Common.{◌≡◌, ◌+◌, ℕ, List, [], ◌∷◌, ◌++◌, length, refl, sym, ap, subst, ◌∙◌, append_assoc, append-nil}
use Rattle.std.specs.Prelude.{map, slice_get, Some, None}
use mathlib.Core.Option.{some}
use lib.ListN.{get_elem?}
use Rattle.run_record.specs.declared.entry.Entry.{Entry}
use Rattle.run_record.specs.declared.limits.Limits.{Limits}
use Rattle.bare_machine.specs.Step.{desk}
use Rattle.turn_orders.proofs.Members.{each_append}
use Rattle.shared_table.specs.declared.view.View.{View}
use Rattle.shared_table.specs.declared.view.Item.TheVariants.{Take, Give}
use Rattle.shared_table.specs.Past.{Log}
use Rattle.shared_table.specs.Rounds.{Grown}
use Rattle.shared_table.proofs.Pasts.{some_below}
use Rattle.table_deeds.specs.Rounds.{IsNextDesk}
use Rattle.hart_parts.specs.Parts.{Part}
use Rattle.hart_parts.specs.Rounds.{PartRound}
use Rattle.part_races.specs.Sorting.{Keyed}
use Rattle.part_runs.specs.Told.{RoundReports, IsToldRound, AreToldRounds}
use Rattle.made_rounds.specs.Made.{MadeRound, Stand, stand_after, stand_of, IsMade, AreMade, entries_of_made}
use Rattle.made_rounds.specs.Logs.{round_items, turn_items, own_items, HasPartLogs, HaveLogs, HaveRoundLogs}
use Rattle.made_rounds.specs.Known.{TellsRound, TellAll, AreToldMade}
use Rattle.made_rounds.proofs.Step.{each_more}

pub stand_then : (s : Stand) (xs : List MadeRound) (x : MadeRound) → stand_of s (xs ++ x ∷ []) ≡ stand_after (stand_of s xs) x
stand_then s [] x = refl
stand_then s (y ∷ xs) x = stand_then (stand_after s y) xs x

pub entries_more : (xs : List MadeRound) (x : MadeRound) → entries_of_made (xs ++ x ∷ []) ≡ entries_of_made xs ++ x.entries
entries_more [] x = append-nil x.entries
entries_more (y ∷ xs) x = ap (λ (es : List Entry). y.entries ++ es) (entries_more xs x) ∙ sym (append_assoc y.entries (entries_of_made xs) x.entries)

own_more : (xs : List MadeRound) (x : MadeRound) → own_items (xs ++ x ∷ []) ≡ own_items xs ++ (round_items x ++ turn_items x)
own_more [] x = append-nil (round_items x ++ turn_items x)
own_more (y ∷ xs) x =
    ap (λ (l : Log). (round_items y ++ turn_items y) ++ l) (own_more xs x)
    ∙ sym (append_assoc (round_items y ++ turn_items y) (own_items xs) (round_items x ++ turn_items x))

module _ (file : List ℕ) (limits : Limits) where
  pub made_more : (s : Stand) (xs : List MadeRound) (x : MadeRound) → AreMade file limits s xs → IsMade file limits (stand_of s xs) x →
      IsNextDesk x.ends x.found x.left → AreMade file limits s (xs ++ x ∷ [])
  made_more s [] x made is next = (is, next, tt)
  made_more s (y ∷ xs) x made is next = (made.0, made.1, made_more (stand_after s y) xs x made.2 is next)

  pub races_more : (s : Stand) (xs : List MadeRound) (kss : List (List Keyed)) (x : MadeRound) (keys : List Keyed) → TellAll file limits s xs kss →
      TellsRound file limits (stand_of s xs).era x keys → TellAll file limits s (xs ++ x ∷ []) (kss ++ keys ∷ [])
  races_more s [] [] x keys tell one = (one, tt)
  races_more s [] (k ∷ kss) x keys tell one = absurd tell
  races_more s (y ∷ xs) [] x keys tell one = absurd tell
  races_more s (y ∷ xs) (k ∷ kss) x keys tell one = (tell.0, races_more (stand_after s y) xs kss x keys tell.1 one)

  pub told_more : (xs : List MadeRound) (ts : List RoundReports) (x : MadeRound) (t : RoundReports) (before : List Entry) →
      AreToldMade file limits before xs ts →
      IsToldRound file limits (before ++ entries_of_made xs) x.entries t → AreToldMade file limits before (xs ++ x ∷ []) (ts ++ t ∷ [])
  told_more [] [] x t before told one = (subst (λ (es : List Entry). IsToldRound file limits es x.entries t) (append-nil before) one, tt)
  told_more [] (u ∷ ts) x t before told one = absurd told
  told_more (y ∷ xs) [] x t before told one = absurd told
  told_more (y ∷ xs) (u ∷ ts) x t before told one = (
    told.0,
    told_more xs ts x t (before ++ y.entries) told.1
        (subst (λ (es : List Entry). IsToldRound file limits es x.entries t) (sym (append_assoc before y.entries (entries_of_made xs))) one),
  )

  -- rounds with the same entries were told of as well
  pub told_same : (rs : List PartRound) (xs : List MadeRound) (ts : List RoundReports) (before : List Entry) →
      map (λ (r : PartRound). r.entries) rs ≡ map (λ (x : MadeRound). x.entries) xs → AreToldMade file limits before xs ts →
      AreToldRounds file limits before rs ts
  told_same [] [] [] before e told = tt
  told_same [] [] (t ∷ ts) before e told = absurd told
  told_same [] (x ∷ xs) ts before e told = absurd (cc)
  told_same (r ∷ rs) [] ts before e told = absurd (cc)
  told_same (r ∷ rs) (x ∷ xs) [] before e told = absurd told
  told_same (r ∷ rs) (x ∷ xs) (t ∷ ts) before e told =
      let head : r.entries ≡ x.entries = cc in
      let tails : map (λ (r : PartRound). r.entries) rs ≡ map (λ (x : MadeRound). x.entries) xs = cc in (
        subst (λ (es : List Entry). IsToldRound file limits before es t) (sym head) told.0,
        told_same rs xs ts (before ++ r.entries) tails (subst (λ (es : List Entry). AreToldMade file limits (before ++ es) xs ts) (sym head) told.1),
      )

-- ---- logs

pub logs_round : (s : Stand) (xs : List MadeRound) (x : MadeRound) (v w : View) → HaveLogs v.logs v.log s xs None → x.first_seat ≡ (stand_of s xs).seat →
    Grown (length x.parts) v w → w.log ≡ v.log ++ round_items x →
    ((i : ℕ) (p : Part) → slice_get x.parts i ≡ Some p → get_elem? w.logs (length v.logs + i) ≡ some (Some p.log)) → HaveRoundLogs w.logs w.log s xs x None
logs_round s xs x v w h seat grown own parts = record {
  own_is =
      own ∙ (ap (λ (l : Log). l ++ round_items x) (h.own_is ∙ append-nil (own_items xs))
      ∙ ap (λ (l : Log). own_items xs ++ l) (sym (append-nil (round_items x))));
  earlier =
      each_more (HasPartLogs v.logs) (HasPartLogs w.logs) xs
      (λ y had i p e. grown.1 (y.first_seat + i) (some_below v.logs (y.first_seat + i) (Some p.log) (had i p e)) ∙ had i p e) h.parts;
  parts = λ i p e. ap (λ (n : ℕ). get_elem? w.logs (n + i)) (seat ∙ sym h.count) ∙ parts i p e;
  count = grown.0 ∙ ap (λ (n : ℕ). n + length x.parts) h.count;
}

pub logs_taken : (s : Stand) (xs : List MadeRound) (x : MadeRound) (v : View) → HaveRoundLogs v.logs v.log s xs x None →
    HaveRoundLogs v.logs (v.log ++ Take desk x.turn ∷ []) s xs x (Some x.turn)
logs_taken s xs x v h = record {
  own_is =
      ap (λ (l : Log). l ++ Take desk x.turn ∷ []) h.own_is ∙ (append_assoc (own_items xs) (round_items x ++ []) (Take desk x.turn ∷ [])
      ∙ ap (λ (l : Log). own_items xs ++ l) (append_assoc (round_items x) [] (Take desk x.turn ∷ [])));
  earlier = h.earlier;
  parts = h.parts;
  count = h.count;
}

pub logs_given : (s : Stand) (xs : List MadeRound) (x : MadeRound) (v : View) → HaveRoundLogs v.logs v.log s xs x (Some x.turn) →
    HaveLogs v.logs (v.log ++ Give desk x.turn x.found x.left ∷ []) s (xs ++ x ∷ []) None
logs_given s xs x v h =
    let give : Log = Give desk x.turn x.found x.left ∷ [] in
    record {
      own_is =
          ap (λ (l : Log). l ++ give) h.own_is ∙ (append_assoc (own_items xs) (round_items x ++ Take desk x.turn ∷ []) give
          ∙ (ap (λ (l : Log). own_items xs ++ l) (append_assoc (round_items x) (Take desk x.turn ∷ []) give)
          ∙ (sym (own_more xs x) ∙ sym (append-nil (own_items (xs ++ x ∷ []))))));
      parts = each_append (HasPartLogs v.logs) xs (x ∷ []) h.earlier (h.parts, tt);
      count = h.count ∙ ap (λ (t : Stand). t.seat) (sym (stand_then s xs x));
    }
