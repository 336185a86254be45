-- A detector at the beginning.
use Rattle.std.proofs.Common.{◌≡◌, ℕ, zero, suc, ◌+◌, ◌*◌, Some, None, [], ◌∷◌, get_or, refl, subst}
use Rattle.std.specs.Prelude.{replicate}
use Rattle.std.proofs.Math.ListN.{length-replicate}
use Rattle.run_record.specs.declared.limits.Limits.{Limits}
use Rattle.run_laws.specs.Moments.{items}
use Rattle.run_laws.specs.Labels.{labels}
use Rattle.run_laws.specs.Clocks.{clocks}
use Rattle.slot_desk.specs.declared.slot.Attachment.{Attachment}
use Rattle.slot_desk.specs.Desks.{no_slot, fresh_slot}
use Rattle.slot_desk.specs.Steps.{new_desk}
use Rattle.slot_desk.proofs.HistoryLaw.{at_first}
use Rattle.sync_slab.specs.Channels.{everywhere}
use Rattle.sync_slab.proofs.ChannelLaws.{keeps-empty}
use Rattle.race_core.specs.Watched.{AreWatcherLimits, new_watched}
use Rattle.race_core.specs.History.{IsWatcherAt}
use Rattle.report_laws.specs.Awaited.{Begin}
use Rattle.detector.specs.Detected.{Detected}
use Rattle.detector.specs.Stands.{Stands}
use Rattle.detector.proofs.Laws.{first_watcher, within_first}

at_zero : (n i : ℕ) → ◌≡◌ {A = ℕ} (get_or (replicate n 0) i 0) 0
at_zero zero i = refl
at_zero (suc n) zero = refl
at_zero (suc n) (suc i) = at_zero n i

none_owned : (n slots sid : ℕ) (a : Attachment) → (get_or (replicate n (fresh_slot slots)) sid no_slot).owner ≡ Some a → ⊥
none_owned zero slots sid a q = cc
none_owned (suc n) slots zero a q = cc
none_owned (suc n) slots (suc sid) a q = none_owned n slots sid a q

pub stands_first :
    (granules : ℕ) (limits : Limits) (d : Detected) → AreWatcherLimits limits → d.limits ≡ limits → d.era ≡ 0 → d.desk ≡ new_desk limits → d.objects.objects ≡ [] → d.objects.slots ≡ limits.slots →
    d.watchers ≡ new_watched 0 limits ∷ [] → d.shadow ≡ replicate (4 * granules) 0 → d.waiting ≡ [] → Stands granules limits 0 None [] d
unfolding labels clocks
stands_first granules limits d ranges limits_are era desk objects slots watchers shadow waiting = record {
  limits_are = limits_are;
  era = era;
  desk = rw desk (at_first limits (items []));
  objects = keeps-empty everywhere d.era d.objects objects;
  object_slots = slots;
  watchers = λ t. rw (watchers, limits_are) (subst (IsWatcherAt limits [] t) (alone t) (first_watcher limits [] t ranges (λ i by. by)));
  settled = λ sid a owner. absurd (none_owned limits.slots limits.slots sid a (rw desk at owner));
  as_many = rw (watchers, desk) refl;
  within = within_first limits.epochs limits.slots;
  shadow = record {
    whole = rw shadow (length-replicate (4 * granules) 0);
    last = λ granule cell a b. rw shadow (at_zero (4 * granules) (4 * granule + cell));
    within = λ granule cell a b some. absurd (some (rw shadow (at_zero (4 * granules) (4 * granule + cell))));
  };
  waiting = rw waiting Begin;
}
  where
    alone : (t : ℕ) → new_watched t limits ≡ get_or (new_watched 0 limits ∷ []) t (new_watched t limits)
    alone zero = refl
    alone (suc t) = refl
