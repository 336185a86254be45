-- A detector stands alike after moments that are alike.
use Rattle.std.proofs.Common.{◌≡◌, ℕ, zero, suc, ◌<◌, ◌≤◌, Option, List, [], ◌∷◌, length, refl, sym, ap, subst, ◌∙◌}
use Rattle.std.specs.Prelude.{option_map}
use Rattle.run_record.specs.declared.entry.Label.{Label}
use Rattle.run_record.specs.declared.limits.Limits.{Limits}
use Rattle.run_laws.specs.Moments.{Moment, items}
use Rattle.run_laws.specs.Labels.{Labels}
use Rattle.run_laws.specs.Clocks.{Clocks}
use Rattle.run_laws.specs.Window.{TraceEvent}
use Rattle.run_laws.specs.Present.{labels_now, label_now, clocks_now}
use Rattle.turn_laws.specs.Going.{AreAlike}
use Rattle.turn_laws.proofs.AlikeLaw.{labels-alike, clocks-alike, trace-alike, frames-alike, locks-alike, cell-alike}
use Rattle.slot_desk.specs.History.{IsDeskAt}
use Rattle.slot_desk.proofs.HistoryLaw.{at_agrees}
use Rattle.sync_slab.specs.Channels.{KeepsChannels, everywhere}
use Rattle.trace_parts.specs.Held.{Holds}
use Rattle.race_core.specs.Watched.{Watched}
use Rattle.race_core.specs.History.{IsWatcherAt, IsWithin, era_now}
use Rattle.report_laws.specs.Awaited.{Begin}
use Rattle.detector.specs.Detected.{Detected, watcher_of}
use Rattle.thread_events.specs.Standing.{AreSettled}
use Rattle.detector.specs.Stands.{Stands, IsShadow, is_leaving}

pub same_length : (h k : List Moment) → AreAlike h k → length h ≡ length k
same_length [] [] a = refl
same_length [] (y ∷ ys) a = absurd a
same_length (x ∷ xs) [] a = absurd a
same_length (x ∷ xs) (y ∷ ys) a = ap suc (same_length xs ys a.1)

same_items : (h k : List Moment) (i : ℕ) → AreAlike h k → items h i ≡ items k i
same_items [] [] i a = refl
same_items [] (y ∷ ys) i a = absurd a
same_items (x ∷ xs) [] i a = absurd a
same_items (x ∷ xs) (y ∷ ys) zero a = a.0.0
same_items (x ∷ xs) (y ∷ ys) (suc i) a = same_items xs ys i a.1

module _ (limits : Limits) (h k : List Moment) (a : AreAlike h k) where
  labels_are : labels_now limits.epochs h ≡ labels_now limits.epochs k
  labels_are = labels-alike limits.epochs h k a

  clocks_are : clocks_now limits.epochs h ≡ clocks_now limits.epochs k
  clocks_are = clocks-alike limits.epochs h k a

  era_is : era_now limits.epochs h ≡ era_now limits.epochs k
  era_is = ap (λ (l : Labels). l.era) labels_are

  label_is : (t : ℕ) → label_now limits.epochs h t ≡ label_now limits.epochs k t
  label_is t = ap (λ (l : Labels). option_map {U = Label} (λ (s : ℕ). record { sid = s; epoch = l.epoch s; era = l.era }) (l.slot_of t)) labels_are

  desk_alike : (g n : ℕ) (d : Detected) → IsDeskAt g n (items h) (length h) d.desk → IsDeskAt g n (items k) (length k) d.desk
  desk_alike g n d at = subst (λ (i : ℕ). IsDeskAt g n (items k) i d.desk) (same_length h k a) (at_agrees g n (items h) (items k) (length h) d.desk (λ j l. same_items h k j a) at)

  watcher_alike : (t : ℕ) (w : Watched) → IsWatcherAt limits h t w → IsWatcherAt limits k t w
  watcher_alike t w at = record {
    in_range = at.in_range;
    tid = at.tid;
    greatest = at.greatest;
    slots = at.slots;
    part_words = at.part_words;
    parts = at.parts;
    frames = at.frames ∙ frames-alike h k t a;
    locks = at.locks ∙ locks-alike h k t a;
    trace = subst (λ (xs : List TraceEvent). Holds w.trace xs) (trace-alike limits.epochs h k t a) at.trace;
    era = subst (λ (n : ℕ). w.era ≤ n) era_is at.era;
    label = λ e. at.label (e ∙ sym era_is) ∙ label_is t;
    clock = λ e r. at.clock (e ∙ sym era_is) r ∙ ap (λ (c : Clocks). c.thread t r) clocks_are;
    no_label = λ l. sym (label_is t) ∙ at.no_label (subst (λ (n : ℕ). w.era < n) (sym era_is) l);
    no_clock = λ l r. ap (λ (c : Clocks). c.thread t r) (sym clocks_are) ∙ at.no_clock (subst (λ (n : ℕ). w.era < n) (sym era_is) l) r;
    slot = at.slot;
    epoch = at.epoch;
  }

  shadow_alike : (granules slots : ℕ) (shadow : List ℕ) → IsShadow granules slots h shadow → IsShadow granules slots k shadow
  shadow_alike granules slots shadow s = record {
    whole = s.whole;
    last = λ granule cell l m. s.last granule cell l m ∙ cell-alike h k granule cell a;
    within = s.within;
  }

  -- where what waited is dropped, it stands alike
  pub stands_alike : (granules from : ℕ) (leaving : Option ℕ) (d : Detected) → Stands granules limits from leaving h d → Stands granules limits (length k) leaving k (record d { waiting = [] })
  stands_alike granules from leaving d s = record {
    limits_are = s.limits_are;
    era = s.era ∙ era_is;
    desk = desk_alike limits.epochs limits.slots d s.desk;
    objects = subst (λ (c : Clocks). KeepsChannels everywhere d.era c d.objects) clocks_are s.objects;
    object_slots = s.object_slots;
    watchers = λ t. watcher_alike t (watcher_of d t) (s.watchers t);
    settled = subst (λ (l : Labels). AreSettled (is_leaving leaving) l d.desk) labels_are s.settled;
    as_many = s.as_many;
    within = subst (λ (l : Labels). IsWithin limits.slots l (clocks_now limits.epochs k)) labels_are (subst (λ (c : Clocks). IsWithin limits.slots (labels_now limits.epochs h) c) clocks_are s.within);
    shadow = shadow_alike granules limits.slots d.shadow s.shadow;
    waiting = Begin;
  }
