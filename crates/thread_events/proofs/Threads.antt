-- A thread makes a moment: what stands for it and for the others is put side by side.
use Rattle.std.proofs.Common.{◌≡◌, ◌≢◌, ℕ, suc, Bool, List, [], ◌∷◌, ◌++◌, length, ap, sym, subst, ◌∙◌}
use Rattle.run_record.specs.declared.limits.Limits.{Limits}
use Rattle.run_laws.specs.Moments.{Moment, items, IsBy}
use Rattle.run_laws.specs.Present.{labels_now, clocks_now}
use Rattle.slot_desk.specs.Desks.{DeskContents}
use Rattle.slot_desk.specs.History.{IsDeskAt}
use Rattle.sync_slab.specs.Objects.{SyncObjects}
use Rattle.sync_slab.specs.Channels.{KeepsChannels}
use Rattle.race_core.specs.Watched.{Watched}
use Rattle.race_core.specs.History.{IsWatcherAt, AttachesWithin, era_now}
use Rattle.race_core.proofs.StillLaws.{other}
use Rattle.race_core.proofs.BeyondLaws.{within_push}
use Rattle.turn_orders.specs.Machine.{but}
use Rattle.turn_orders.proofs.Functions.{but_each}
use Rattle.thread_events.specs.Standing.{Kept, is_kept_at, AreSettled, Stands}
use Rattle.thread_events.proofs.Longer.{desk_now, era_stays, by_one, no_era}

pub thread_stands :
    (limits : Limits) (keeper : ℕ → ℕ) (leaving after : ℕ → Bool) (h : List Moment) (m : Moment) (x : Kept) (t : ℕ) (desk : DeskContents) (objects : ℕ → SyncObjects) (w : Watched) →
    Stands limits keeper leaving h x → IsBy t m.item → AttachesWithin limits.slots m.item →
    IsDeskAt limits.epochs limits.slots (items (h ++ m ∷ [])) (suc (length h)) desk →
    ((k : ℕ) → KeepsChannels (is_kept_at keeper k) (era_now limits.epochs h) (clocks_now limits.epochs (h ++ m ∷ [])) (objects k)) →
    ((k : ℕ) → (objects k).slots ≡ limits.slots) →
    IsWatcherAt limits (h ++ m ∷ []) t w → AreSettled after (labels_now limits.epochs (h ++ m ∷ [])) desk →
    Stands limits keeper after (h ++ m ∷ []) (record { desk = desk; objects = objects; watchers = but x.watchers t w })
thread_stands limits keeper leaving after h m x t desk objects w s by fits desk_at keeps slots watcher settled = record {
  desk = desk_now limits.epochs limits.slots h m desk desk_at;
  objects = λ k. subst (λ (era : ℕ). KeepsChannels (is_kept_at keeper k) era (clocks_now limits.epochs (h ++ m ∷ [])) (objects k)) (sym (era_stays limits.epochs h m (no_era t m.item by))) (keeps k);
  object_slots = slots;
  watchers = but_each (λ (u : ℕ) (v : Watched). IsWatcherAt limits (h ++ m ∷ []) u v) x.watchers t w watcher
      (λ u ne. other limits h m u (x.watchers u) (s.watchers u) (by_one t u m.item by ne) (no_era t m.item by));
  settled = settled;
  within = within_push limits.epochs limits.slots h m s.within fits;
}
