-- The reports that are told at rounds' ends are found.
use Rattle.std.proofs.Common.{◌≡◌, ℕ, suc, ◌+◌, ◌-◌, ◌≤◌, inl, inr, Bool, Option, List, [], ◌∷◌, ◌++◌, length, length-append, append_assoc, zero-add, subst, sym, refl, ap, ◌∙◌, arith}
use Rattle.std.specs.Prelude.{fold, replicate}
use Rattle.std.specs.List.{list_any}
use Rattle.std.proofs.lemmas.Bool.{cases_Bool}
use Rattle.std.proofs.lemmas.List.{append-nil}
use Rattle.std.proofs.lemmas.List.Sums.{fold-append}
use Rattle.run_record.specs.declared.entry.Entry.{Entry}
use Rattle.run_record.specs.declared.limits.Limits.{Limits}
use Rattle.run_record.specs.declared.report.Report.{Report}
use Rattle.run_record.specs.declared.plan.Turn.{Turn}
use Rattle.run_record.specs.declared.finished.Finished.{Finished}
use Rattle.elf_image.specs.File.{granule_of, granule_address}
use Rattle.run_laws.specs.Moments.{Moment, NewEra, moments, moments_from, moments_in, last_era}
use Rattle.run_laws.specs.Faithful.{AtOnce, needs_slot, state_after}
use Rattle.run_laws.specs.Lawful.{IsLawful, IsWholeRun}
use Rattle.run_laws.specs.Reports.{Finds, Start, Quiet, Race, Kept, kept_after, kept_of, is_equal}
use Rattle.run_laws.proofs.MomentsLaw.{moments_from-append}
use Rattle.machine_laws.specs.Machine.{bare_of}
use Rattle.report_laws.proofs.NextRound.{round_found}
use Rattle.report_text.specs.Offers.{offers}
use Rattle.whole_runs.specs.Told.{Told}
use Rattle.whole_runs.specs.Run.{IsRun, kept_in}
use Rattle.whole_runs.proofs.Runs.{is_run}
use Rattle.whole_parts.proofs.Whole.{whole}
use Rattle.whole_parts.proofs.Opened.{tells_then}
use Rattle.turn_orders.specs.Machine.{State}
use Rattle.turn_orders.specs.LineUp.{Stamped}
use Rattle.shared_table.specs.declared.object.DeskState.{DeskState}
use Rattle.shared_table.specs.declared.object.Object.{Object}
use Rattle.shared_table.specs.declared.view.Layout.{Layout}
use Rattle.shared_table.specs.Past.{Past}
use Rattle.placed_detector.specs.Standing.{Hand}
use Rattle.hart_parts.specs.Rounds.{PartRound}
use Rattle.part_runs.specs.Runs.{entries_of_rounds, AreRounds, AreAllRounds}
use Rattle.part_runs.specs.Told.{RoundReports, IsToldRound, AreToldRounds, all_told}
use Rattle.part_runs.proofs.Sound.{addresses, lawful}
use Rattle.part_runs.proofs.Firsts.{entries_then, inside_last, inside_before, sound_so_far}

-- ---- moments

-- no era begins before the last one goes on
pub same_era : (round : ℕ) (es : List Entry) → moments_in round (last_era es) es ≡ moments es
same_era round es =
    let z : last_era es - last_era es ≡ 0 = omega arith in
    ap (λ (n : ℕ). moments es ++ replicate n (record { entry = length es; round = round; item = NewEra; checks = [] })) z ∙ append-nil (moments es)

-- the moments of more entries
abbrev pub later_moments : List Entry → List Entry → List Moment
later_moments es part = moments_from (last_era es) (length es) part

pub cut_plain : (es part : List Entry) → moments (es ++ part) ≡ moments es ++ later_moments es part
cut_plain es part = moments_from-append 0 0 es part ∙ ap (λ (i : ℕ). moments es ++ moments_from (last_era es) i part) (zero-add (length es))

pub cut_same : (round : ℕ) (es part : List Entry) → moments (es ++ part) ≡ moments_in round (last_era es) es ++ later_moments es part
cut_same round es part = cut_plain es part ∙ ap (λ (ms : List Moment). ms ++ later_moments es part) (sym (same_era round es))

-- ---- round after round

-- these reports are those of the entries
abbrev FindsAll : List ℕ → Limits → List Entry → List Report → Type 0
FindsAll file limits es found = Finds limits (granule_address file) (moments es) (length (moments es)) found

module _ (file : List ℕ) (limits : Limits) (lay : Layout) (past : Past) (m : State (Stamped Hand) Object) where
  found_next : (xs : List PartRound) (r : PartRound) (ys : List PartRound) (x : RoundReports) (found : List Report) →
      AreRounds file limits lay past m (xs ++ r ∷ ys) → IsToldRound file limits (entries_of_rounds xs) r.entries x →
      FindsAll file limits (entries_of_rounds xs) found → FindsAll file limits (entries_of_rounds xs ++ r.entries) (found ++ x.told)
  found_next xs r ys x found all told f =
      let es = entries_of_rounds xs in
      let inside = inside_last file limits lay xs r ys 0 0 0 m all.parts in
      let earlier = inside_before file limits lay xs (r ∷ ys) 0 0 0 m all.parts in
      let awaits = told.awaits in
      let tells = told.tells in
      round_found limits (granule_of file) (needs_slot (bare_of file limits.harts) (es ++ r.entries)) es r.entries (0 + length xs) (last_era es)
      (later_moments es r.entries)
      (sound_so_far file limits lay past m xs r ys all) (cut_same (0 + length xs) es r.entries) (granule_address file) (addresses file all.accepted) earlier
      (λ i e l. (inside.1 i e l).0) found f x.awaited (rw (same_era (0 + length xs) es) awaits) x.told tells

  found_all : (ys xs : List PartRound) (ts : List RoundReports) (found : List Report) →
      AreRounds file limits lay past m (xs ++ ys) → AreToldRounds file limits (entries_of_rounds xs) ys ts →
      FindsAll file limits (entries_of_rounds xs) found → FindsAll file limits (entries_of_rounds (xs ++ ys)) (found ++ all_told ts)
  found_all [] xs [] found all told f =
      subst (λ (zs : List PartRound). FindsAll file limits (entries_of_rounds zs) (found ++ [])) (sym (append-nil xs))
      (subst (FindsAll file limits (entries_of_rounds xs)) (sym (append-nil found)) f)
  found_all (y ∷ ys) xs (t ∷ ts) found all told f =
      let more = found_next xs y ys t found all told.0 f in
      let then = append_assoc xs (y ∷ []) ys in
      let rest = found_all ys (xs ++ y ∷ []) ts (found ++ t.told)
      (subst (AreRounds file limits lay past m) (sym then) all)
      (subst (λ (es : List Entry). AreToldRounds file limits es ys ts) (sym (entries_then xs y)) told.1)
      (subst (λ (es : List Entry). FindsAll file limits es (found ++ t.told)) (sym (entries_then xs y)) more)
      in
      subst (λ (zs : List PartRound). FindsAll file limits (entries_of_rounds zs) (found ++ all_told (t ∷ ts))) then
      (subst (FindsAll file limits (entries_of_rounds ((xs ++ y ∷ []) ++ ys))) (append_assoc found t.told (all_told ts)) rest)
  found_all [] xs (t ∷ ts) found all told f = absurd told
  found_all (y ∷ ys) xs [] found all told f = absurd told

  -- the reports told at all rounds' ends are those of the history
  pub found_whole : (rs : List PartRound) (ts : List RoundReports) → AreRounds file limits lay past m rs → AreToldRounds file limits [] rs ts →
      FindsAll file limits (entries_of_rounds rs) (all_told ts)
  found_whole rs ts all told = found_all rs [] ts [] all told Start

-- ---- how many are offered

few_found : (limits : Limits) (address_of : ℕ → ℕ) (h : List Moment) (n : ℕ) (found : List Report) → Finds limits address_of h n found → length found ≤ n
few_found limits address_of h _ _ Start = omega arith
few_found limits address_of h _ _ (Quiet {n = n} {found = found} f none) = let l = few_found limits address_of h n found f in omega (arith, l)
few_found limits address_of h _ _ (Race {n = n} {found = found} check word report f candidate is) =
    let l = few_found limits address_of h n found f in
    omega (arith, l, length-append found (report ∷ []))

module _ (meets : Option (List ℕ) → Option (List ℕ) → Bool) where
  one_offer : (k : Kept) (r : Report) → offers (kept_after meets k r) ≡ suc (offers k)
  one_offer k r = elim (cases_Bool (meets r.mine.stack r.previous.stack)) [
    | inl met ↦ (rw met (omega arith))
    | inr unmet ↦ (elim (cases_Bool (list_any (is_equal r) k.reports)) [
      | inl equal ↦ (rw (unmet, equal) (omega arith))
      | inr other ↦ (rw (unmet, other) (omega (arith, length-append k.reports (r ∷ []))))
    ])
  ]

  all_offers : (rs : List Report) (k : Kept) → offers (fold (kept_after meets) k rs) ≡ offers k + length rs
  all_offers [] k = omega arith
  all_offers (r ∷ rs) k = let a = all_offers rs (kept_after meets k r) in let b = one_offer k r in omega (arith, a, b)

-- ---- a run

-- all reports of the rounds' entries were offered
pub offered : (file : List ℕ) (limits : Limits) (lay : Layout) (past : Past) (m : State (Stamped Hand) Object) (rs : List PartRound)
    (ts : List RoundReports) (meets : Option (List ℕ) → Option (List ℕ) → Bool) → AreRounds file limits lay past m rs →
    AreToldRounds file limits [] rs ts → Told meets file limits (entries_of_rounds rs) (kept_of meets (all_told ts))
offered file limits lay past m rs ts meets all told =
    let finds = found_whole file limits lay past m rs ts all told in
    let h = moments (entries_of_rounds rs) in
    record {
      found = all_told ts;
      finds = finds;
      kept = refl;
      counted =
          (let few = few_found limits (granule_address file) h (length h) (all_told ts) finds in
          let n = all_offers meets (all_told ts) (record { reports = []; suppressed = 0; equal = 0 }) in
          omega (arith, few, n));
    }

all_told_then : (ts : List RoundReports) (x : RoundReports) → all_told (ts ++ x ∷ []) ≡ all_told ts ++ x.told
all_told_then [] x = append-nil x.told
all_told_then (t ∷ ts) x = ap (λ (rs : List Report). t.told ++ rs) (all_told_then ts x) ∙ sym (append_assoc t.told (all_told ts) x.told)

-- the reports of one round more are offered behind those before
pub kept_then : (meets : Option (List ℕ) → Option (List ℕ) → Bool) (ts : List RoundReports) (x : RoundReports) →
    kept_of meets (all_told (ts ++ x ∷ [])) ≡ fold (kept_after meets) (kept_of meets (all_told ts)) x.told
kept_then meets ts x =
    ap (kept_of meets) (all_told_then ts x)
    ∙ fold-append (kept_after meets) (record { reports = []; suppressed = 0; equal = 0 }) (all_told ts) x.told

module _ (file : List ℕ) (limits : Limits) (lay : Layout) (past : Past) (m : State (Stamped Hand) Object) (rs : List PartRound) (plan : List Turn)
    (closed : DeskState) (ts : List RoundReports) (meets : Option (List ℕ) → Option (List ℕ) → Bool) (f : Finished)
    (all : AreAllRounds file limits lay past m rs closed f.last) (told : AreToldRounds file limits [] rs ts) where
  pub run_of : f.history.entries ≡ entries_of_rounds rs → kept_in f ≡ kept_of meets (all_told ts) → f.output ≡ closed.machine.output →
      IsRun AtOnce file limits plan meets f
  run_of entries kept output =
      let so = all.rounds in
      let w = so.limits_are.watcher in
      let back = sym entries in
      let tells = tells_then file limits so.accepted lay m rs closed w so.first so.parts all.over.at_desk in
      is_run AtOnce file limits plan meets f w.few_slots so.limits_are.some_epochs w.few_epochs so.accepted
      (subst (λ (es : List Entry). IsLawful AtOnce limits plan (bare_of file limits.harts) (granule_of file) es) back
      (lawful file limits lay past m rs plan closed f.last all))
      (subst (λ (es : List Entry). IsWholeRun AtOnce limits plan (bare_of file limits.harts) es f.last) back
      (whole file limits so.accepted lay plan m rs w so.first so.parts all.dues closed f.last all.over))
      (subst (λ (es : List Entry). Told meets file limits es (kept_in f)) back
      (subst (Told meets file limits (entries_of_rounds rs)) (sym kept) (offered file limits lay past m rs ts meets so told)))
      (output ∙ (tells.output_is ∙ ap (λ (es : List Entry). (state_after (bare_of file limits.harts) es).output) back))
