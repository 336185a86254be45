-- What the workers of a round told of its races awaits its end.
use Rattle.std.proofs.Common.{◌≡◌, ℕ, zero, suc, ◌+◌, ◌-◌, ◌<◌, ◌≤◌, cond, List, [], ◌∷◌, ◌++◌, length, length-append, sym, ap, subst, ◌∙◌, arith}
use Rattle.std.specs.Prelude.{All}
use Rattle.std.proofs.lemmas.List.{append-nil}
use Rattle.run_record.specs.declared.entry.Entry.{Entry}
use Rattle.run_record.specs.declared.limits.Limits.{Limits}
use Rattle.run_laws.specs.Moments.{Moment, moment_at, moments, moments_in, last_era, era_moments}
use Rattle.report_laws.specs.Awaited.{Awaited, Collects, Begin, Unchecked, Ordered, Unordered}
use Rattle.turn_orders.specs.Lists.{Each}
use Rattle.turn_orders.specs.Machine.{State}
use Rattle.turn_orders.specs.LineUp.{Stamped}
use Rattle.turn_histories.specs.Rounds.{IsIn}
use Rattle.shared_table.specs.declared.object.Object.{Object}
use Rattle.shared_table.specs.declared.view.Layout.{Layout}
use Rattle.shared_table.specs.Past.{Past}
use Rattle.placed_detector.specs.Standing.{Hand}
use Rattle.table_deeds.specs.Rounds.{last_stamp}
use Rattle.hart_parts.specs.Rounds.{PartRound, table_round, ArePartRounds}
use Rattle.whole_parts.proofs.Dues.{all_of_each}
use Rattle.part_races.specs.Rounds.{AllAwait, era_after}
use Rattle.part_races.proofs.Histories.{round_collects}
use Rattle.part_runs.specs.Runs.{entries_of_rounds, AreRounds}
use Rattle.part_runs.specs.Told.{AwaitRoundEnd}
use Rattle.part_runs.proofs.Owned.{in_round, cut, eras_unchecked, none_collected}
use Rattle.part_runs.proofs.Ends.{no_era_since}

-- ---- where nothing is checked before

module _ (g : ℕ) (h : List Moment) (from : ℕ) where
  none_yet : (d : ℕ) → ((k : ℕ) → from ≤ k → k < from + d → (moment_at h k).checks ≡ []) → Collects g h from (from + d) []
  none_yet zero quiet = let z : from ≡ from + 0 = omega arith in subst (λ (n : ℕ). Collects g h from n []) z Begin
  none_yet (suc d) quiet =
      let z : suc (from + d) ≡ from + suc d = omega arith in
      subst (λ (n : ℕ). Collects g h from n []) z
      (Unchecked (none_yet d (λ k l m. quiet k l (omega (arith, m)))) (quiet (from + d) (omega arith) (omega arith)))

  module _ (start : ℕ) (later : from ≤ start) (quiet : (k : ℕ) → from ≤ k → k < start → (moment_at h k).checks ≡ []) where
    -- what is collected from a later position on is so from there
    collected_earlier : (n : ℕ) (ws : List Awaited) → Collects g h start n ws → Collects g h from n ws
    collected_earlier _ _ Begin =
        let z : from + (start - from) ≡ start = omega (arith, later) in
        subst (λ (n : ℕ). Collects g h from n []) z (none_yet (start - from) (λ k l m. quiet k l (omega (arith, m, z))))
    collected_earlier _ _ (Unchecked {n = n} {waiting = ws} c none) = Unchecked (collected_earlier n ws c) none
    collected_earlier _ _ (Ordered {n = n} {waiting = ws} t a c made none) = Ordered t a (collected_earlier n ws c) made none
    collected_earlier _ _ (Unordered {n = n} {waiting = ws} check word t a c made some) = Unordered check word t a (collected_earlier n ws c) made some

-- ---- a round's end

-- what is collected with the eras that begin before a round awaits its end
await_end : (limits : Limits) (before part : List Entry) (round era : ℕ) (awaited : List Awaited) → Each (IsIn round era) part →
    Collects limits.epochs (moments_in round era (before ++ part)) (length (moments_in round era before))
    (length (moments_in round era (before ++ part))) awaited →
    AwaitRoundEnd limits before part awaited
await_end limits before [] round era awaited inside c =
    let g = limits.epochs in
    let h = moments_in round era (before ++ []) in
    let long : length h ≡ length (moments_in round era before) = ap (λ (es : List Entry). length (moments_in round era es)) (append-nil before) in
    let none = (none_collected g h (length (moments_in round era before)) (length h) awaited c (λ k l m. absurd (omega (arith, l, m, long)))).0 in
    let now = moments (before ++ []) in
    let same : length (moments before) ≡ length now = ap (λ (es : List Entry). length (moments es)) (sym (append-nil before)) in
    subst (Collects g now (length (moments before)) (length now)) (sym none) (subst (λ (n : ℕ). Collects g now (length (moments before)) n []) same Begin)
await_end limits before (e ∷ es) round era awaited inside c =
    let g = limits.epochs in
    let each = all_of_each (IsIn round era) (e ∷ es) inside in
    let h = moments (before ++ e ∷ es) in
    let start = length (moments_in round era before) in
    let now : All (λ (y : Entry). (y.round ≡ round) × (y.era ≡ era)) (e ∷ es) = λ i x l. ((each i x l).round, (each i x l).era) in
    let there = cut round era before e es now in
    let eras = length-append (moments before) (era_moments (last_era before) (length before) round era) in
    let quiet : (k : ℕ) → length (moments before) ≤ k → k < start → (moment_at h k).checks ≡ [] =
    λ k l m. ap (λ (x : List Moment). (moment_at x k).checks) there ∙ eras_unchecked round era before (in_round round era before e es now) k l m in
    collected_earlier g h (length (moments before)) start (omega (arith, eras)) quiet (length h) awaited
    (subst (λ (ms : List Moment). Collects g ms start (length ms) awaited) (no_era_since round era before e es (λ i x l. (each i x l).era)) c)

module _ (file : List ℕ) (limits : Limits) (lay : Layout) where
  -- the last round's entries are of its number and era
  inside_at : (xs : List PartRound) (r : PartRound) (round era base : ℕ) (m : State (Stamped Hand) Object) →
      ArePartRounds file limits lay round era base m (xs ++ r ∷ []) → Each (IsIn (round + length xs) (era_after era xs)) r.entries
  inside_at [] r round era base m are =
      let z : round ≡ round + 0 = omega arith in
      subst (λ (n : ℕ). Each (IsIn n era) r.entries) z are.1.inside
  inside_at (x ∷ xs) r round era base m are =
      let z : round + 1 + length xs ≡ round + length (x ∷ xs) = omega arith in
      subst (λ (n : ℕ). Each (IsIn n (era_after era (x ∷ xs))) r.entries) z
      (inside_at xs r (round + 1) (cond x.ends (era + 1) era) (last_stamp (table_round m x)) x.next are.2)

-- what is collected from where a round begins awaits its end
pub round_awaits : (file : List ℕ) (limits : Limits) (lay : Layout) (past : Past) (m : State (Stamped Hand) Object) (rs : List PartRound) (r : PartRound)
    (awaited : List Awaited) → AreRounds file limits lay past m (rs ++ r ∷ []) →
    let before = entries_of_rounds rs in
    let h = moments_in (length rs) (era_after 0 rs) (before ++ r.entries) in
    Collects limits.epochs h (length (moments_in (length rs) (era_after 0 rs) before)) (length h) awaited →
    AwaitRoundEnd limits before r.entries awaited
round_awaits file limits lay past m rs r awaited all c =
    let z : 0 + length rs ≡ length rs = omega arith in
    await_end limits (entries_of_rounds rs) r.entries (length rs) (era_after 0 rs) awaited
    (subst (λ (n : ℕ). Each (IsIn n (era_after 0 rs)) r.entries) z (inside_at file limits lay rs r 0 0 0 m all.parts)) c

-- so what all workers of a round told awaits its end
pub told_awaits : (file : List ℕ) (limits : Limits) (lay : Layout) (past : Past) (m : State (Stamped Hand) Object) (rs : List PartRound) (r : PartRound)
    (told : List (List Awaited)) (awaited : List Awaited) → AreRounds file limits lay past m (rs ++ r ∷ []) →
    AllAwait file limits 0 (rs ++ r ∷ []) (told ++ awaited ∷ []) → AwaitRoundEnd limits (entries_of_rounds rs) r.entries awaited
told_awaits file limits lay past m rs r told awaited all await =
    round_awaits file limits lay past m rs r awaited all
    (round_collects file limits lay m all.limits_are.watcher all.first all.accepted rs r told awaited all.parts await (length rs))
