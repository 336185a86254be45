-- The parts of a round that workers made.
use Rattle.std.specs.Prelude.{◌≡◌, ◌+◌, ℕ, List, length, map, slice_get, is_some, Some}
use Rattle.std.specs.List.{AllZip, flat_map}
use mathlib.Core.Option.{some}
use lib.ListN.{get_elem?}
use Rattle.run_record.specs.declared.limits.Limits.{Limits}
use Rattle.run_record.specs.Order.{entries_in}
use Rattle.turn_orders.specs.Lists.{Each}
use Rattle.turn_histories.specs.Rounds.{IsIn}
use Rattle.shared_table.specs.declared.view.View.{View}
use Rattle.hart_parts.specs.Parts.{Part, left_in, part_entries, IsPart}
use Rattle.part_races.specs.Rounds.{Tagged, TellsRaces}
use Rattle.part_races.specs.Sorting.{all_keyed}
use Rattle.part_workers.specs.declared.worker.HartWorker.{HartWorker}
use Rattle.part_workers.specs.Works.{leaves_with, IsKept}
use Rattle.made_rounds.specs.Made.{Stand}
use Rattle.hart_workers.specs.declared.crew.Due.{Due}
use Rattle.hart_workers.specs.Crews.{logs_from, waiting_from}

-- the round that is due from there on, with that share of each thread
pub record IsDueAt (s : Stand) (due : Due) : Type 0 where
  pub round : due.round ≡ s.round
  pub era : due.era ≡ s.era
  pub base : due.base ≡ s.base

module _ {G : Type 0} where
  -- The workers made these parts of the round that was due, one each and in their order, with the seats that came next.
  pub record ArePartsOf (file : List ℕ) (limits : Limits) (s : Stand) (share : ℕ) (v w : View) (before after : List (HartWorker G))
      (parts : List Part) : Type 0 where
    pub count : length parts ≡ length before
    pub are_parts : Each (IsPart file limits s.era) parts
    pub threads : map (λ (p : Part). p.thread) parts ≡ map (λ (x : HartWorker G). x.post.tid) before
    pub same : map (λ (x : HartWorker G). x.post.tid) after ≡ map (λ (x : HartWorker G). x.post.tid) before
    pub before_are : Each (λ (p : Part). p.before ≡ s.locals p.thread) parts
    pub shares : Each (λ (p : Part). p.given ≡ share) parts
    pub logs : (i : ℕ) (p : Part) → slice_get parts i ≡ Some p → get_elem? w.logs (length v.logs + i) ≡ some (Some p.log)
    pub starved : map (λ (p : Part). is_some p.tried) parts ≡ map (λ (x : HartWorker G). x.starved) after
    pub left : AllZip (λ (p : Part) (x : HartWorker G). left_in p ≡ leaves_with x.state x.part.last) parts after
    pub entries : map (part_entries file limits) parts ≡ logs_from after
    pub inside : Each (IsIn s.round s.era) (entries_in (logs_from after))
    pub told : List (List Tagged)
    pub races : AllZip (TellsRaces file limits s.era) parts told
    pub waits : all_keyed (flat_map (λ (ts : List Tagged). ts) told) ≡ waiting_from after
    pub kept : Each (λ (x : HartWorker G). IsKept limits x.state × (x.state.watcher.era ≡ s.era)) after
