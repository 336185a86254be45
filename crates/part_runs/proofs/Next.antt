-- Rounds go on by one more.
use Rattle.std.proofs.Common.{◌≡◌, ℕ, ◌+◌, ◌-◌, cond, Ok, List, [], ◌∷◌, ◌++◌, append_assoc, length, refl, sym, ap, subst, ◌∙◌, arith}
use Rattle.std.proofs.lemmas.List.{append-nil}
use Rattle.run_record.specs.declared.entry.Entry.{Entry}
use Rattle.run_record.specs.declared.limits.Limits.{Limits}
use Rattle.elf_image.specs.File.{image_of}
use Rattle.run_laws.specs.Rounds.{steps_in}
use Rattle.turn_orders.specs.Machine.{State}
use Rattle.turn_orders.proofs.Members.{each_append}
use Rattle.turn_orders.specs.LineUp.{Stamped}
use Rattle.shared_table.specs.declared.object.Object.{Object}
use Rattle.shared_table.specs.declared.view.Layout.{Layout}
use Rattle.shared_table.specs.declared.view.Item.{Item}
use Rattle.shared_table.specs.Past.{Past, Lawful}
use Rattle.placed_detector.specs.Standing.{Hand}
use Rattle.table_deeds.specs.Objects.{AreFirstObjects}
use Rattle.table_deeds.specs.Rounds.{last_stamp}
use Rattle.hart_parts.specs.Rounds.{PartRound, table_round, IsPartRound, ArePartRounds}
use Rattle.whole_parts.specs.Dues.{IsDueRound, AreDueRounds, state_after_rounds, remaining_after, era_of_last}
use Rattle.cell_loads.specs.Pasts.{TouchesNone, AreQuiet, GoesOn, ArePasts}
use Rattle.part_races.specs.Rounds.{era_after}
use Rattle.part_runs.specs.Runs.{entries_of_rounds, AreRoundLimits, AreRounds}
use Rattle.part_runs.specs.Told.{RoundReports, IsToldRound, AreToldRounds}
use Rattle.part_runs.specs.Next.{next_base, past_through, IsNextRound}

-- ---- what comes after one more

pub state_then : (m : State (Stamped Hand) Object) (rs : List PartRound) (r : PartRound) → state_after_rounds m (rs ++ r ∷ []) ≡ r.next
state_then m [] r = refl
state_then m (x ∷ xs) r = state_then x.next xs r

pub era_then : (era : ℕ) (rs : List PartRound) (r : PartRound) → era_after era (rs ++ r ∷ []) ≡ cond r.ends (era_after era rs + 1) (era_after era rs)
era_then era [] r = refl
era_then era (x ∷ xs) r = era_then (cond x.ends (era + 1) era) xs r

pub base_then : (base : ℕ) (m : State (Stamped Hand) Object) (rs : List PartRound) (r : PartRound) →
    next_base base m (rs ++ r ∷ []) ≡ last_stamp (table_round (state_after_rounds m rs) r)
base_then base m [] r = refl
base_then base m (x ∷ xs) r = base_then (last_stamp (table_round m x)) x.next xs r

pub past_then : (before : Past) (rs : List PartRound) (r : PartRound) → past_through before (rs ++ r ∷ []) ≡ r.late ++ r.early
past_then before [] r = refl
past_then before (x ∷ xs) r = past_then (x.late ++ x.early) xs r

pub remaining_then : (remaining : ℕ) (rs : List PartRound) (r : PartRound) →
    remaining_after remaining (rs ++ r ∷ []) ≡ remaining_after remaining rs - steps_in r.entries
remaining_then remaining [] r = refl
remaining_then remaining (x ∷ xs) r = remaining_then (remaining - steps_in x.entries) xs r

-- the era of the last of some rounds is that of the one more
pub last_then : (before era : ℕ) (rs : List PartRound) (r : PartRound) → era_of_last before era (rs ++ r ∷ []) ≡ era_after era rs
last_then before era [] r = refl
last_then before era (x ∷ xs) r = last_then era (cond x.ends (era + 1) era) xs r

-- ---- what holds of them

module _ (file : List ℕ) (limits : Limits) (lay : Layout) where
  parts_then : (rs : List PartRound) (r : PartRound) (round era base : ℕ) (m : State (Stamped Hand) Object) →
      ArePartRounds file limits lay round era base m rs → r.base ≡ next_base base m rs →
      IsPartRound file limits lay (round + length rs) (era_after era rs) (state_after_rounds m rs) r →
      ArePartRounds file limits lay round era base m (rs ++ r ∷ [])
  parts_then [] r round era base m are base_is one =
      let z : round + 0 ≡ round = omega arith in
      (base_is, subst (λ (n : ℕ). IsPartRound file limits lay n era m r) z one, record {})
  parts_then (x ∷ xs) r round era base m are base_is one =
      let z : round + length (x ∷ xs) ≡ round + 1 + length xs = omega arith in
      let rest = subst (λ (n : ℕ). IsPartRound file limits lay n (era_after era (x ∷ xs)) (state_after_rounds m (x ∷ xs)) r) z one in
      (are.0, are.1, parts_then xs r (round + 1) (cond x.ends (era + 1) era) (last_stamp (table_round m x)) x.next are.2 base_is rest)

  pasts_then : (past before : Past) (m : State (Stamped Hand) Object) (rs : List PartRound) (r : PartRound) → ArePasts limits past before m rs →
      GoesOn limits (past_through before rs) (state_after_rounds m rs) r → ArePasts limits (r.late ++ r.early) before m (rs ++ r ∷ [])
  pasts_then past before m [] r are one = (one, ([], record {}, refl))
  pasts_then past before m (x ∷ xs) r are one = (are.0, pasts_then past (x.late ++ x.early) x.next xs r are.1 one)

  -- the rounds with the next one
  pub next_rounds : (past : Past) (m : State (Stamped Hand) Object) (rs : List PartRound) (r : PartRound) → AreRounds file limits lay past m rs →
      IsNextRound file limits lay m rs r → AreRounds file limits lay (r.late ++ r.early) m (rs ++ r ∷ [])
  next_rounds past m rs r all next =
      let z : 0 + length rs ≡ length rs = omega arith in
      record {
        limits_are = all.limits_are;
        accepted = all.accepted;
        first = all.first;
        parts = parts_then rs r 0 0 0 m all.parts next.base
            (subst (λ (n : ℕ). IsPartRound file limits lay n (era_after 0 rs) (state_after_rounds m rs) r) (sym z) next.round);
        lawful = next.round.lawful;
        pasts = pasts_then past [] m rs r all.pasts next.goes_on;
      }

  -- before the first round
  pub no_rounds : (past : Past) (m : State (Stamped Hand) Object) → AreRoundLimits limits → image_of file ≡ Ok file → AreFirstObjects file limits m →
      Lawful lay past → AreQuiet past → AreRounds file limits lay past m []
  no_rounds past m limits_are accepted first lawful quiet = record {
    limits_are = limits_are;
    accepted = accepted;
    first = first;
    parts = record {};
    lawful = lawful;
    pasts = (past, quiet, sym (append-nil past));
  }

  still_quiet : (between past before : Past) (m : State (Stamped Hand) Object) (rs : List PartRound) → AreQuiet between → ArePasts limits past before m rs →
      ArePasts limits (between ++ past) before m rs
  still_quiet between past before m [] quiet are = (
    between ++ are.0,
    each_append (λ (x : ℕ × Item). TouchesNone x.1) between are.0 quiet are.1,
    ap (λ (p : Past). between ++ p) are.2 ∙ sym (append_assoc between are.0 before),
  )
  still_quiet between past before m (x ∷ xs) quiet are = (are.0, still_quiet between past (x.late ++ x.early) x.next xs quiet are.1)

  -- steps behind them that are at no cell change nothing
  pub later_rounds : (between past : Past) (m : State (Stamped Hand) Object) (rs : List PartRound) → AreRounds file limits lay past m rs → AreQuiet between →
      Lawful lay (between ++ past) → AreRounds file limits lay (between ++ past) m rs
  later_rounds between past m rs all quiet lawful = record {
    limits_are = all.limits_are;
    accepted = all.accepted;
    first = all.first;
    parts = all.parts;
    lawful = lawful;
    pasts = still_quiet between past [] m rs quiet all.pasts;
  }

-- the reports told of one more
pub told_then : (file : List ℕ) (limits : Limits) (rs : List PartRound) (ts : List RoundReports) (r : PartRound) (x : RoundReports) (before : List Entry) →
    AreToldRounds file limits before rs ts → IsToldRound file limits (before ++ entries_of_rounds rs) r.entries x →
    AreToldRounds file limits before (rs ++ r ∷ []) (ts ++ x ∷ [])
told_then file limits [] [] r x before told one = (subst (λ (es : List Entry). IsToldRound file limits es r.entries x) (append-nil before) one, record {})
told_then file limits (y ∷ ys) (t ∷ ts) r x before told one = (
  told.0,
  told_then file limits ys ts r x (before ++ y.entries) told.1
      (subst (λ (es : List Entry). IsToldRound file limits es r.entries x) (sym (append_assoc before y.entries (entries_of_rounds ys))) one),
)
told_then file limits [] (t ∷ ts) r x before told one = absurd told
told_then file limits (y ∷ ys) [] r x before told one = absurd told

-- and what is due
pub dues_then : (limits : Limits) (remaining : ℕ) (m : State (Stamped Hand) Object) (rs : List PartRound) (r : PartRound) → AreDueRounds limits remaining m rs →
    IsDueRound limits (remaining_after remaining rs) (state_after_rounds m rs) r → AreDueRounds limits remaining m (rs ++ r ∷ [])
dues_then limits remaining m [] r dues one = (one, record {})
dues_then limits remaining m (x ∷ xs) r dues one = (dues.0, dues_then limits (remaining - steps_in x.entries) x.next xs r dues.1 one)
