-- A worker's part that was made, as the layer above has it.
use Rattle.std.proofs.Common.{◌≡◌, Bool, length, None, refl, ap, subst}
use Rattle.turn_orders.specs.LineUp.{Stamped, with_stamp}
use Rattle.race_core.specs.Watched.{Watched, in_era}
use Rattle.shared_table.specs.Past.{Log}
use Rattle.placed_detector.specs.Standing.{Hand}
use Rattle.part_races.specs.Telling.{TellsPart}
use Rattle.hart_turns.specs.declared.slots.ThreadState.{ThreadState}
use Rattle.hart_turns.specs.Hearing.{at_rest}
use Rattle.hart_turns.specs.Slots.{local_in, hand_of}
use Rattle.part_workers.specs.declared.part.PartSoFar.{PartSoFar}
use Rattle.part_workers.specs.declared.worker.HartWorker.{HartWorker}
use Rattle.part_workers.specs.Rest.{TellsRest}
use Rattle.part_workers.specs.Shares.{HasStopped}
use Rattle.part_workers.specs.Works.{begins, leaves_with, Makes}
use Rattle.part_workers.proofs.Resting.{ended}

module _ {G : Type 0} (w : HartWorker G) (log : Log) (v : Watched) (t : ThreadState) (p q : PartSoFar) (starved : Bool) where
  abbrev arrived_state : ThreadState
  arrived_state = record { hart = w.state.hart; watcher = v }

  abbrev before : Stamped Hand
  before = with_stamp (hand_of arrived_state None) w.part.last

  pub made_part : v ≡ in_era w.state.watcher w.post.era → HasStopped w.image.now w.limits.now w.post w.share before log t p starved → TellsRest w.post p q →
      length t.watcher.clock ≡ w.limits.now.slots → Makes w log (record w { state = t; part = q; starved = starved })
  made_part entered x rest clock =
      let h = ended w.image.now w.limits.now w.post before x.made log (hand_of t None) p q w.share x.tried x.stands rest x.log_is refl x.stops in
      let same : before ≡ begins w.post.era w.state w.part.last =
      ap (λ (z : Watched). with_stamp (record { bare = local_in w.state.hart; watched = at_rest z; given = None }) w.part.last) entered in
      record {
        told = h.told;
        part = subst (λ (b : Stamped Hand). TellsPart w.image.now w.limits.now w.post.era w.post.tid w.share b log h.told starved (leaves_with t q.last)) same
            (subst (λ (b : Bool). TellsPart w.image.now w.limits.now w.post.era w.post.tid w.share before log h.told b (leaves_with t q.last)) x.starved_is h.part);
        keeps = h.keeps;
        kept = record { clock = clock; greatest = x.of_part.greatest; began = x.of_part.began };
        era = x.of_part.era;
      }
