-- Behind a round of hired workers the run is at its end, whatever turn of the desk comes.
use Rattle.std.proofs.Common.{◌≡◌, ℕ, Bool, List, [], ◌++◌, length, refl, sym, ap, subst, ◌∙◌}
use Rattle.std.specs.Prelude.{All, IsPermutation, map, is_some, None, Option}
use Rattle.run_record.specs.declared.entry.Entry.{Entry}
use Rattle.run_record.specs.declared.limits.Limits.{Limits}
use Rattle.run_record.specs.Order.{AreOrdered, AreDistinct, entries_in}
use Rattle.run_laws.specs.Reports.{Kept}
use Rattle.turn_histories.specs.Rounds.{IsIn}
use Rattle.shared_table.specs.declared.view.Layout.{Layout}
use Rattle.shared_table.specs.declared.view.View.{View}
use Rattle.shared_table.specs.Rounds.{splits_from, joins_from, HasRound}
use Rattle.shared_table.specs.Layouts.{SharedTable}
use Rattle.table_deeds.specs.Listing.{AreApart}
use Rattle.hart_parts.specs.Parts.{Part, part_entries}
use Rattle.part_races.specs.Sorting.{Keyed, AreSorted}
use Rattle.hart_turns.specs.declared.slots.ThreadState.{ThreadState}
use Rattle.part_workers.specs.declared.part.Post.{Post}
use Rattle.part_workers.specs.declared.worker.HartWorker.{HartWorker}
use Rattle.part_workers.specs.Works.{Works}
use Rattle.made_rounds.proofs.Distinct.{all_ordered, distinct}
use Rattle.hart_workers.specs.declared.crew.Crew.{Crew}
use Rattle.hart_workers.specs.declared.crew.Due.{Due}
use Rattle.hart_workers.specs.Crews.{IsHired, Hires, TakesBack, logs_from}
use Rattle.hart_workers.specs.Parts.{IsDueAt, ArePartsOf}
use Rattle.hart_workers.proofs.Idle.{idle_behind, traces_behind}
use Rattle.hart_workers.proofs.MadeParts.{made_parts}
use Rattle.hart_workers.specs.declared.rounds.Rounds.{Rounds}
use Rattle.hart_workers.specs.Standing.{SoFar, stand_in, StandsAs, IsBetween, Merged, round_with, MergedRound, IsMergedEnd}
use Rattle.hart_workers.proofs.Mapped.{each_moved, any_alike, mapped_with}
use Rattle.hart_workers.proofs.OneMore.{ArePartsMerged, round_made, round_logs}

-- the round that is due, as the coordinator has it
abbrev pub due_in : Rounds → Due
due_in r = record { round = r.round; era = r.era; share = r.reading.share; base = r.base }

pub due_at : (limits : Limits) (x : SoFar) (r : Rounds) → StandsAs limits x r → IsDueAt (stand_in limits x) (due_in r)
due_at limits x r stands = record { round = stands.round; era = stands.era; base = stands.base }

module _ {G : Type 0} (file : List ℕ) (limits : Limits) where
  abbrev tids : List (HartWorker G) → List ℕ
  tids ws = map (λ (w : HartWorker G). w.post.tid) ws

  -- Hired workers did their parts of the round that was due, and were taken back.
  pub record AreBack (r : Rounds) (crew : Crew) (table : SharedTable) (v w : View) (between : List (Option ThreadState))
      (before after : List (HartWorker G)) (logs : List (List Entry)) (pending : List Keyed) (starved : Bool) : Type 0 where
    pub hires : Hires file limits (due_in r) r.crew.states.items r.reading.live.items between before
    pub round : HasRound Works table v w before after
    pub back : TakesBack between crew.states.items after [] logs [] pending starved

  pub are_back : (r : Rounds) (crew : Crew) (table : SharedTable) (v w : View) (between : List (Option ThreadState))
      (before after : List (HartWorker G)) (live : List ℕ) (none logs : List (List Entry)) (nobody pending : List Keyed) (starved : Bool) →
      live ≡ r.reading.live.items → none ≡ [] → nobody ≡ [] → Hires file limits (due_in r) r.crew.states.items live between before →
      HasRound Works table v w before after → TakesBack between crew.states.items after none logs nobody pending starved →
      AreBack r crew table v w between before after logs pending starved
  are_back r crew table v w between before after live none logs nobody pending starved same empty quiet hires round back = record {
    hires = subst (λ (ts : List ℕ). Hires file limits (due_in r) r.crew.states.items ts between before) same hires;
    round = round;
    back =
        subst (λ (l : List (List Entry)). TakesBack between crew.states.items after l logs [] pending starved) empty
        (subst (λ (k : List Keyed). TakesBack between crew.states.items after none logs k pending starved) quiet back);
  }

  pub hired_threads : (due : Due) (old between : List (Option ThreadState)) (live : List ℕ) (ws : List (HartWorker G)) →
      Hires file limits due old live between ws → tids ws ≡ live
  hired_threads due old between live ws hires =
      mapped_with (IsHired file limits due old) (λ (w : HartWorker G). w.post.tid) live ws
      (λ (t : ℕ) (w : HartWorker G) h. ap (λ (p : Post). p.tid) h.post) hires.workers

  -- what is known of the parts that hired workers made, when their logs are merged
  pub parts_merged : (x : SoFar) (r : Rounds) (v w : View) (old between new : List (Option ThreadState)) (before after : List (HartWorker G))
      (parts : List Part) (logs : List (List Entry)) (pending : List Keyed) (starved : Bool) (entries : List Entry) → StandsAs limits x r →
      Hires file limits (due_in r) old r.reading.live.items between before →
      ArePartsOf file limits (stand_in limits x) r.reading.share v w before after parts →
      TakesBack between new after [] logs [] pending starved → IsPermutation (entries_in logs) entries → AreOrdered entries →
      ArePartsMerged file limits (stand_in limits x) r.reading.live.items r.reading.share
      (record { parts = parts; first_seat = (stand_in limits x).seat; entries = entries; ends = starved })
  parts_merged x r v w old between new before after parts logs pending starved entries stands hires made back moved ordered =
      let s = stand_in limits x in
      let logs_are : logs ≡ map (part_entries file limits) parts = back.logs_are ∙ sym made.entries in
      record {
        seat = refl;
        parts = made.are_parts;
        before = made.before_are;
        threads = made.threads ∙ hired_threads (due_in r) old between r.reading.live.items before hires;
        shares = made.shares;
        merged = subst (λ (ls : List (List Entry)). IsPermutation (entries_in ls) entries) logs_are moved;
        ordered = ordered;
        inside =
            each_moved (IsIn s.round s.era) (entries_in (logs_from after)) entries
            (subst (λ (ls : List (List Entry)). IsPermutation (entries_in ls) entries) back.logs_are moved) made.inside;
        ends_is =
            back.starved_is
            ∙ sym (any_alike (λ (p : Part). is_some p.tried) (λ (y : HartWorker G). y.starved) parts after made.starved);
      }

  -- there are parts that the workers made
  pub parts_of : (meets : Option (List ℕ) → Option (List ℕ) → Bool) (lay : Layout) (kept : Kept) (r : Rounds) (crew : Crew) (table : SharedTable)
      (u v w : View) (between : List (Option ThreadState)) (before after : List (HartWorker G)) (logs : List (List Entry)) (pending : List Keyed)
      (starved : Bool) → (h : IsBetween meets file limits lay u r kept) → AreBack r crew table v w between before after logs pending starved →
      (parts : List Part) × ArePartsOf file limits (stand_in limits h.so_far) r.reading.share v w before after parts
  parts_of meets lay kept r crew table u v w between before after logs pending starved h b =
      made_parts file limits (stand_in limits h.so_far) (due_in r) r.crew.states.items (due_at limits h.so_far r h.stands) h.idle table
      r.reading.live.items v w before after b.hires.workers b.round b.back.fine

  -- no two entries of their logs have the same stamp and thread
  pub logs_distinct : (meets : Option (List ℕ) → Option (List ℕ) → Bool) (lay : Layout) (kept : Kept) (r : Rounds) (crew : Crew)
      (table : SharedTable) (u v w : View) (between : List (Option ThreadState)) (before after : List (HartWorker G)) (logs : List (List Entry))
      (pending : List Keyed) (starved : Bool) → IsBetween meets file limits lay u r kept →
      AreBack r crew table v w between before after logs pending starved → AreDistinct (entries_in logs)
  logs_distinct meets lay kept r crew table u v w between before after logs pending starved h b =
      let x = h.so_far in
      let parts = parts_of meets lay kept r crew table u v w between before after logs pending starved h b in
      let made = parts.1 in
      let threads = made.threads ∙ hired_threads (due_in r) r.crew.states.items between r.reading.live.items before b.hires in
      subst (λ (ls : List (List Entry)). AreDistinct (entries_in ls)) (sym (b.back.logs_are ∙ sym made.entries))
      (distinct file limits lay x.first h.known.set_up (stand_in limits x).era parts.0 made.are_parts
      (subst AreApart (sym threads) h.reading.read.apart))

  -- the entries of each are in order
  pub logs_ordered : (meets : Option (List ℕ) → Option (List ℕ) → Bool) (lay : Layout) (kept : Kept) (r : Rounds) (crew : Crew)
      (table : SharedTable) (u v w : View) (between : List (Option ThreadState)) (before after : List (HartWorker G)) (logs : List (List Entry))
      (pending : List Keyed) (starved : Bool) → IsBetween meets file limits lay u r kept →
      AreBack r crew table v w between before after logs pending starved → All AreOrdered logs
  logs_ordered meets lay kept r crew table u v w between before after logs pending starved h b =
      let x = h.so_far in
      let parts = parts_of meets lay kept r crew table u v w between before after logs pending starved h b in
      let made = parts.1 in
      subst (All AreOrdered) (sym (b.back.logs_are ∙ sym made.entries))
      (all_ordered file limits lay x.first h.known.set_up (stand_in limits x).era parts.0 made.are_parts)

  -- What is known behind the workers' part of a round, where the run was between two rounds.
  pub at_end : (meets : Option (List ℕ) → Option (List ℕ) → Bool) (lay : Layout) (kept : Kept) (r : Rounds) (crew : Crew) (table : SharedTable)
      (v w : View) (between : List (Option ThreadState)) (before after : List (HartWorker G)) (logs : List (List Entry)) (pending : List Keyed)
      (made : MergedRound) → IsBetween meets file limits lay v r kept → r.reading.end ≡ None →
      AreBack r crew table v w between before after logs pending made.starved →
      w.log ≡ v.log ++ (splits_from (length v.logs) (length before) ++ joins_from (length v.logs) (length before)) →
      AreSorted pending made.pending → IsPermutation (entries_in logs) made.entries → AreOrdered made.entries →
      IsMergedEnd meets file limits lay w (record r { crew = crew }) made kept
  at_end meets lay kept r crew table v w between before after logs pending made h due b own sorted moved ordered =
      let x = h.so_far in
      let s = stand_in limits x in
      let found = parts_of meets lay kept r crew table v v w between before after logs pending made.starved h b in
      let parts = found.0 in
      let are = found.1 in
      let m : Merged = record { parts = parts; first_seat = s.seat; entries = made.entries; ends = made.starved } in
      let known =
      parts_merged x r v w r.crew.states.items between crew.states.items before after parts logs pending made.starved made.entries h.stands b.hires
      are b.back moved ordered in
      record {
        so_far = x;
        known = h.known;
        kept_is = h.kept_is;
        stands = record {
          round = h.stands.round;
          era = h.stands.era;
          last_era = h.stands.last_era;
          base = h.stands.base;
          remaining = h.stands.remaining;
          entries = h.stands.entries;
        };
        merged = m;
        entries = refl;
        starved = refl;
        more = λ turn found left.
            let y = round_with m turn found left in
            record {
              made = round_made file limits x r m h.reading due known turn found left;
              logs = round_logs file limits x m v w (length before) h.logs refl are.count b.round.grown own are.logs turn found left;
              races = record {
                told = are.told;
                of_parts = are.races;
                sorted = subst (λ (ks : List Keyed). AreSorted ks made.pending) (b.back.pending_are ∙ sym are.waits) sorted;
              };
              idle =
                  idle_behind file limits s r.reading.share v w before after y are (due_in r) r.crew.states.items between crew.states.items
                  r.reading.live.items b.hires [] logs [] pending made.starved b.back h.idle;
              traces =
                  traces_behind file limits s r.reading.share v w before after y are (due_in r) r.crew.states.items between crew.states.items
                  r.reading.live.items b.hires [] logs [] pending made.starved b.back h.idle;
            };
      }
