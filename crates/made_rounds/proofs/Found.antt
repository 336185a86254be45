-- The rounds that stand in a past, where they are all that were made.
use Rattle.std.proofs.Common.{◌≡◌, ◌<◌, ℕ, List, [], ◌++◌, refl, sym, ap, subst, ◌∙◌, append-nil}
use Rattle.std.specs.Prelude.{Option, Some, None}
use Rattle.run_record.specs.declared.limits.Limits.{Limits}
use Rattle.turn_orders.specs.Lists.{Each}
use Rattle.shared_table.specs.declared.object.Object.{Object}
use Rattle.shared_table.specs.declared.view.Layout.{Layout}
use Rattle.shared_table.specs.Past.{Log, Past, log_of, logs_of, Lawful}
use Rattle.shared_table.specs.Laws.{splits_in}
use Rattle.cell_loads.specs.Pasts.{TouchesNone, AreQuiet}
use Rattle.part_runs.specs.Runs.{AreRounds}
use Rattle.part_runs.proofs.Next.{later_rounds}
use Rattle.made_rounds.specs.Made.{MadeRound, first_stand}
use Rattle.made_rounds.specs.Logs.{own_items, begun_turn, HasPartLogs, HaveLogs}
use Rattle.made_rounds.specs.Known.{HaveBeenMade, stand_behind, HaveRounds}
use Rattle.made_rounds.proofs.Pasts.{OnlyOpening, only_opening, quiet_alone}
use Rattle.made_rounds.proofs.Walk.{Walked, walk}
use Rattle.made_rounds.proofs.First.{begins, first_reached}

begun_splits : (taken : Option ℕ) → splits_in (begun_turn taken) ≡ []
begun_splits None = refl
begun_splits (Some n) = refl

begun_quiet : (taken : Option ℕ) → Each TouchesNone (begun_turn taken)
begun_quiet None = tt
begun_quiet (Some n) = (tt, tt)

module _ (file : List ℕ) (limits : Limits) (lay : Layout) (past : Past) (first : Object) (xs : List MadeRound)
    (h : HaveBeenMade file limits lay past first xs) where
  -- the rounds, with what of the opening seat's log stands behind them
  pub walked : (behind : Log) → log_of 0 past ≡ own_items xs ++ behind → Each (HasPartLogs (logs_of past)) xs →
      Walked file limits lay h.set_up.laid_out (begins file limits lay first h.set_up) past behind xs (stand_behind limits first xs)
  walked behind own logs =
      let whole : past ≡ past ++ [] = sym (append-nil past) in
      let up = h.set_up in
      let m = begins file limits lay first up in
      let w = walk file limits lay up.laid_out m xs [] [] past (first_stand limits first) behind (first_reached file limits lay first up) h.made
      (subst (Lawful lay) whole h.lawful) own (subst (λ (p : Past). Each (HasPartLogs (logs_of p)) xs) whole logs) in
      record { early = w.early; after = w.after; whole_is = whole ∙ w.whole_is; behind_is = w.behind_is; reached = w.reached }

  module _ (taken : Option ℕ) (logs : HaveLogs (logs_of past) (log_of 0 past) (first_stand limits first) xs taken) where
    w : Walked file limits lay h.set_up.laid_out (begins file limits lay first h.set_up) past (begun_turn taken) xs (stand_behind limits first xs)
    w = walked (begun_turn taken) logs.own_is logs.parts

    law : Lawful lay (w.after ++ w.early)
    law = subst (Lawful lay) w.whole_is h.lawful

    only : OnlyOpening w.after
    only = only_opening lay w.after w.early law (ap splits_in w.behind_is ∙ begun_splits taken)
        (λ n ne l. w.reached.joined n ne (subst (λ (k : ℕ). n < k) w.reached.seats l))

    quiet : AreQuiet w.after
    quiet = quiet_alone w.after only (subst (Each TouchesNone) (sym w.behind_is) (begun_quiet taken))

    pub have_rounds : HaveRounds file limits lay past xs (stand_behind limits first xs)
    have_rounds =
        let m = begins file limits lay first h.set_up in
        let r = w.reached in
        record {
          begins = m;
          rounds = r.rs;
          are =
              subst (λ (p : Past). AreRounds file limits lay p m r.rs) (sym w.whole_is)
              (later_rounds file limits lay w.after w.early m r.rs r.rounds quiet law);
          dues = r.dues;
          entries = r.entries;
          locals = r.locals;
          desk_is = r.desk_is;
          count = sym r.round;
          era_is = sym r.era;
          last_era = sym r.last_era;
          base = sym r.base;
          remaining = sym r.remaining;
        }
