-- What a detector keeps, as the laws of events have it: the objects of all addresses are at one place.
use Rattle.std.proofs.Common.{◌≡◌, ℕ, zero, suc, ◌<◌, ◌⊎◌, inl, inr, ◌==◌, ◌&&◌, ◌||◌, Bool, true, false, cond, Option, Some, None, List, [], ◌∷◌, ◌++◌, length, refl, ap, sym, subst, ◌∙◌, eqb-true}
use Rattle.std.specs.Prelude.{map, is_some, option_map}
use Rattle.std.proofs.lemmas.List.{get_or-set_same, get_or-set_other}
use mathlib.Core.Logic.{dite}
use native.Mathlib.Decide.{ℕ_discrete}
use Rattle.run_record.specs.declared.event.Event.{Event}
use Rattle.run_record.specs.declared.event.Event.TheVariants as events
use Rattle.run_record.specs.declared.entry.Label.{Label}
use Rattle.run_record.specs.declared.limits.Limits.{Limits}
use Rattle.run_laws.specs.Moments.{Does, Moment, items}
use Rattle.run_laws.specs.Labels.{raises}
use Rattle.run_laws.specs.Clocks.{Clocks}
use Rattle.run_laws.specs.Present.{clocks_now}
use Rattle.slot_desk.specs.Desks.{DeskContents, thread_of, slot_of}
use Rattle.slot_desk.specs.History.{IsDeskAt}
use Rattle.sync_slab.specs.Objects.{SyncObject, SyncObjects}
use Rattle.sync_slab.specs.Channels.{KeepsChannels, everywhere}
use Rattle.sync_slab.proofs.ChannelLaws.{keeps-empty}
use Rattle.race_core.specs.Watched.{Watched, new_watched}
use Rattle.race_core.specs.History.{IsWatcherAt, era_now}
use Rattle.turn_orders.specs.Machine.{but}
use Rattle.turn_orders.proofs.Functions.{but_here, but_else}
use Rattle.report_laws.specs.Awaited.{Collects}
use Rattle.thread_events.specs.Standing as laws
use Rattle.thread_events.specs.Standing.{Kept, is_kept_at}
use Rattle.thread_events.specs.Heard.{IsGoing as Going, IsGiven, IfBegin, IsAtKeeper, IsGranted, ObjectsAfter, watcher_after, desk_after, kept_after, leaving_after, lost_label}
use Rattle.thread_events.proofs.All.{event_stands}
use Rattle.hart_events.specs.Events.{lost_after}
use Rattle.detector.specs.Detected.{Detected, watcher_of, with_watcher, IsGoing}
use Rattle.detector.specs.Stands.{Stands, IsShadow, is_leaving, awaited}

-- ---- what is kept where

abbrev pub one_place : ℕ → ℕ
one_place addr = 0

abbrev pub objects_at : SyncObjects → ℕ → SyncObjects
objects_at set zero = set
objects_at set (suc k) = record { slots = set.slots; objects = []; spare = 0 }

abbrev pub kept_of : Detected → Kept
kept_of d = record { desk = d.desk; objects = objects_at d.objects; watchers = watcher_of d }

-- a place that keeps no address
no_object : (o : SyncObject) → ◌≡◌ {A = Option SyncObject} None (Some o) → ⊥
no_object o q = cc

kept_nowhere : (k addr : ℕ) → is_kept_at one_place (suc k) addr ≡ true → ⊥
kept_nowhere k addr q = let z = eqb-true 0 (suc k) q in absurd (cc)

keeps_none : (era k slots : ℕ) (c : Clocks) → KeepsChannels (is_kept_at one_place (suc k)) era c (record { slots = slots; objects = []; spare = 0 })
keeps_none era k slots c = record {
  objects = (keeps-empty everywhere era (record { slots = slots; objects = []; spare = 0 }) refl).objects;
  clocks = λ addr part q. absurd (kept_nowhere k addr q);
  eras = λ addr part o q. absurd (no_object o q);
}

pub to_kept : (granules : ℕ) (limits : Limits) (from : ℕ) (leaving : Option ℕ) (h : List Moment) (d : Detected) → Stands granules limits from leaving h d → laws.Stands limits one_place (is_leaving leaving) h (kept_of d)
to_kept granules limits from leaving h d s = record {
  desk = s.desk;
  objects = keeps;
  object_slots = slots;
  watchers = s.watchers;
  settled = s.settled;
  within = s.within;
}
  where
    keeps : (k : ℕ) → KeepsChannels (is_kept_at one_place k) (era_now limits.epochs h) (clocks_now limits.epochs h) (objects_at d.objects k)
    keeps zero = subst (λ (era : ℕ). KeepsChannels everywhere era (clocks_now limits.epochs h) d.objects) s.era s.objects
    keeps (suc k) = keeps_none (era_now limits.epochs h) k d.objects.slots (clocks_now limits.epochs h)

    slots : (k : ℕ) → (objects_at d.objects k).slots ≡ limits.slots
    slots zero = s.object_slots
    slots (suc k) = s.object_slots

-- so each detector stands that keeps what stands
pub from_kept :
    (granules : ℕ) (limits : Limits) (from : ℕ) (leaving : Option ℕ) (test : ℕ → Bool) (h : List Moment) (x : Kept) (d : Detected) → laws.Stands limits one_place test h x →
    d.limits ≡ limits → d.era ≡ era_now limits.epochs h → x.desk ≡ d.desk → x.objects 0 ≡ d.objects → ((u : ℕ) → x.watchers u ≡ watcher_of d u) → ((u : ℕ) → test u ≡ true → is_leaving leaving u ≡ true) →
    length d.watchers ≡ d.desk.made → IsShadow granules limits.slots h d.shadow → Collects limits.epochs h from (length h) (map awaited d.waiting) → Stands granules limits from leaving h d
from_kept granules limits from leaving test h x d s limits_are era desk objects watchers leaves as_many shadow waiting = record {
  limits_are = limits_are;
  era = era;
  desk = subst (λ (y : DeskContents). IsDeskAt limits.epochs limits.slots (items h) (length h) y) desk s.desk;
  objects = subst (λ (e : ℕ). KeepsChannels everywhere e (clocks_now limits.epochs h) d.objects) (sym era) (subst (λ (y : SyncObjects). KeepsChannels everywhere (era_now limits.epochs h) (clocks_now limits.epochs h) y) objects (s.objects 0));
  object_slots = ap (λ (y : SyncObjects). y.slots) (sym objects) ∙ s.object_slots 0;
  watchers = λ u. subst (IsWatcherAt limits h u) (watchers u) (s.watchers u);
  settled = λ sid a owner. elim (s.settled sid a (ap (λ (y : DeskContents). (slot_of y sid).owner) desk ∙ owner)) [ inl q ↦ inl (leaves a.tid q) | inr held ↦ inr held ];
  as_many = as_many;
  within = s.within;
  shadow = shadow;
  waiting = waiting;
}

-- the watchers after one of them has changed
pub watcher-set : (d : Detected) (t u : ℕ) (w : Watched) → t < length d.watchers →
    ((u ≡ t) × (watcher_of (with_watcher d t w) u ≡ w)) ⊎ ((u ≡ t → ⊥) × (watcher_of (with_watcher d t w) u ≡ watcher_of d u))
watcher-set d t u w l = dite (ℕ_discrete u t)
    (λ e. inl (e, ap (λ (v : ℕ). watcher_of (with_watcher d t w) v) e ∙ get_or-set_same d.watchers t w (new_watched t d.limits) l))
    (λ ne. inr (ne, get_or-set_other d.watchers t u w (new_watched u d.limits) ne))

-- one watcher is another one
pub watcher_but : (d : Detected) (t : ℕ) (w : Watched) → t < length d.watchers → (u : ℕ) → but (watcher_of d) t w u ≡ watcher_of (with_watcher d t w) u
watcher_but d t w l u = dite (ℕ_discrete u t)
    (λ e. but_here (watcher_of d) t u w e ∙ sym (ap (λ (v : ℕ). watcher_of (with_watcher d t w) v) e ∙ get_or-set_same d.watchers t w (new_watched t d.limits) l))
    (λ ne. but_else (watcher_of d) t u w ne ∙ sym (get_or-set_other d.watchers t u w (new_watched u d.limits) ne))

-- ---- an event

-- who is to leave after it
abbrev pub leaves_by : ℕ → Event → Watched → Option ℕ
leaves_by t e w = option_map (λ (l : Label). t) (lost_after e w)

leaves_is : (t : ℕ) (w : Watched) (u : ℕ) (b : Bool) (o : Option Label) → false || ((u == t) && (b && is_some o)) ≡ true → is_leaving (option_map (λ (l : Label). t) (cond b o None)) u ≡ true
leaves_is t w u false o q = go (u == t) q
  where
    go : (c : Bool) → c && false ≡ true → false ≡ true
    go true z = z
    go false z = z
leaves_is t w u true None q = go (u == t) q
  where
    go : (c : Bool) → c && false ≡ true → false ≡ true
    go true z = z
    go false z = z
leaves_is t w u true (Some l) q = go (u == t) q
  where
    go : (c : Bool) → c && true ≡ true → c ≡ true
    go true z = refl
    go false z = z

module _ (granules : ℕ) (limits : Limits) (from : ℕ) (h : List Moment) (m : Moment) (d after : Detected) (t : ℕ) (s : Stands granules limits from None h d) (going : IsGoing d t) where
  abbrev w : Watched
  w = watcher_of d t

  abbrev pub going_on : Going limits h w
  going_on = record { present = going.era ∙ s.era; label = going.label; labelled = going.labelled }

  given : (e : Event) → IfBegin e (IsGiven limits h t (thread_of d.desk t).told)
  given events.Begin = record { long = s.desk.desk.told.long t; known = λ r l. s.desk.desk.told.given t r l going.alive }
  given _ = tt

  at_it : (e : Event) → IsAtKeeper one_place 0 e
  at_it (events.Acquire addr part) = refl
  at_it (events.Release addr part replaces) = refl
  at_it (events.Destroy addr) = refl
  at_it (events.Clear addr) = refl
  at_it _ = tt

  pub stands_event :
      (e : Event) → m.item ≡ Does t e → IsGranted d.desk t e → ObjectsAfter w.era w.clock e d.objects after.objects →
      after.limits ≡ d.limits → after.era ≡ era_now limits.epochs (h ++ m ∷ []) → desk_after d.desk t w.clock e ≡ after.desk →
      ((u : ℕ) → but (watcher_of d) t (watcher_after (thread_of d.desk t).told d.objects d.desk e w) u ≡ watcher_of after u) →
      length after.watchers ≡ after.desk.made → IsShadow granules limits.slots (h ++ m ∷ []) after.shadow → Collects limits.epochs (h ++ m ∷ []) from (length (h ++ m ∷ [])) (map awaited after.waiting) →
      Stands granules limits from (leaves_by t e w) (h ++ m ∷ []) after
  stands_event e made granted changed limits_are era desk watchers as_many shadow waiting =
      from_kept granules limits from (leaves_by t e w) (leaving_after (is_leaving None) t e w) (h ++ m ∷ []) (kept_after (kept_of d) 0 t (thread_of d.desk t).told e after.objects) after
      (event_stands limits one_place (is_leaving None) h m (kept_of d) 0 t (thread_of d.desk t).told after.objects (to_kept granules limits from None h d s) going_on e made (given e) (at_it e) granted changed)
      (limits_are ∙ s.limits_are) era desk refl watchers (λ u q. leaves_is t w u (raises e == 1) (lost_label w) q) as_many shadow waiting
