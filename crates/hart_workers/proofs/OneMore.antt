-- One more round, whatever turn of the desk comes behind it.
use Rattle.std.proofs.Common.{◌≡◌, ℕ, List, ◌++◌, length, sym, ap, subst, ◌∙◌}
use Rattle.std.specs.Prelude.{◌+◌, ◌<◌, ◌↔◌, IsPermutation, map, slice_get, is_some, None, Some}
use Rattle.std.specs.List.{list_any}
use mathlib.Core.Option.{some}
use lib.ListN.{get_elem?}
use Rattle.run_record.specs.declared.limits.Limits.{Limits}
use Rattle.run_record.specs.Order.{AreOrdered, entries_in}
use Rattle.turn_orders.specs.Lists.{Each, In}
use Rattle.turn_histories.specs.Rounds.{IsIn}
use Rattle.shared_table.specs.declared.object.Object.{Object}
use Rattle.shared_table.specs.declared.view.View.{View}
use Rattle.shared_table.specs.Past.{Log}
use Rattle.shared_table.specs.Rounds.{splits_from, joins_from, Grown}
use Rattle.table_deeds.specs.Listing.{AreApart}
use Rattle.hart_parts.specs.Parts.{Part, part_entries, IsPart}
use Rattle.whole_parts.specs.Dues.{LivesBy}
use Rattle.made_rounds.specs.Made.{Stand, first_stand, IsMade}
use Rattle.made_rounds.specs.Logs.{HaveLogs, HaveRoundLogs}
use Rattle.made_rounds.proofs.More.{logs_round}
use Rattle.hart_workers.specs.declared.rounds.Rounds.{Rounds}
use Rattle.hart_workers.specs.Standing.{SoFar, stand_in, HasReading, Merged, round_with}
use Rattle.hart_workers.proofs.Mapped.{each_mapped}

-- What is known of merged parts before their logs: each was made from where the rounds before it left all, by a thread that lived, with
-- the share that was read.
pub record ArePartsMerged (file : List ℕ) (limits : Limits) (s : Stand) (live : List ℕ) (share : ℕ) (m : Merged) : Type 0 where
  pub seat : m.first_seat ≡ s.seat
  pub parts : Each (IsPart file limits s.era) m.parts
  pub before : Each (λ (p : Part). p.before ≡ s.locals p.thread) m.parts
  pub threads : map (λ (p : Part). p.thread) m.parts ≡ live
  pub shares : Each (λ (p : Part). p.given ≡ share) m.parts
  pub merged : IsPermutation (entries_in (map (part_entries file limits) m.parts)) m.entries
  pub ordered : AreOrdered m.entries
  pub inside : Each (IsIn s.round s.era) m.entries
  pub ends_is : m.ends ≡ list_any (λ (p : Part). is_some p.tried) m.parts

module _ (file : List ℕ) (limits : Limits) where
  pub round_made : (x : SoFar) (r : Rounds) (m : Merged) → HasReading limits x r → r.reading.end ≡ None →
      ArePartsMerged file limits (stand_in limits x) r.reading.live.items r.reading.share m →
      (turn : ℕ) (found left : Object) → IsMade file limits (stand_in limits x) (round_with m turn found left)
  round_made x r m reading due h turn found left =
      let d = reading.read.goes_on due in
      record {
        seats = h.seat;
        parts = h.parts;
        before = h.before;
        apart = subst AreApart (sym h.threads) reading.read.apart;
        merged = h.merged;
        ordered = h.ordered;
        inside = h.inside;
        opened = reading.desk_state;
        at_desk = reading.at_desk;
        goes_on = d.goes_on;
        some_live = d.some_live;
        threads = λ t. subst (λ (ts : List ℕ). In t ts ↔ LivesBy reading.desk_state t) (sym h.threads) (reading.read.living t);
        born =
            each_mapped (λ (t : ℕ). t < reading.desk_state.desk.made) (λ (p : Part). p.thread) m.parts
            (subst (Each (λ (t : ℕ). t < reading.desk_state.desk.made)) (sym h.threads) reading.read.born);
        shares = subst (λ (n : ℕ). Each (λ (p : Part). p.given ≡ n) m.parts) d.share_of_each h.shares;
        some_given = subst (λ (n : ℕ). 0 < n) d.share_of_each d.some_given;
        ends_is = h.ends_is;
      }

  -- the logs that the opening seat then has
  pub round_logs : (x : SoFar) (m : Merged) (v w : View) (before : ℕ) →
      HaveLogs v.logs v.log (first_stand limits x.first) x.rounds None → m.first_seat ≡ (stand_in limits x).seat →
      length m.parts ≡ before → Grown before v w → w.log ≡ v.log ++ (splits_from (length v.logs) before ++ joins_from (length v.logs) before) →
      ((i : ℕ) (p : Part) → slice_get m.parts i ≡ Some p → get_elem? w.logs (length v.logs + i) ≡ some (Some p.log)) →
      (turn : ℕ) (found left : Object) → HaveRoundLogs w.logs w.log (first_stand limits x.first) x.rounds (round_with m turn found left) None
  round_logs x m v w before logs seat count grown own parts turn found left =
      let y = round_with m turn found left in
      let from : length v.logs ≡ m.first_seat = logs.count ∙ sym seat in
      logs_round (first_stand limits x.first) x.rounds y v w logs seat (subst (λ (n : ℕ). Grown n v w) (sym count) grown)
      (own ∙ ap (λ (l : Log). v.log ++ l)
      (ap (λ (k : ℕ). splits_from k before ++ joins_from k before) from
      ∙ ap (λ (n : ℕ). splits_from m.first_seat n ++ joins_from m.first_seat n) (sym count))) parts
