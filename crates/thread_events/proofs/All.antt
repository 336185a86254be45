-- After each event all stands.
use Rattle.std.proofs.Common.{◌≡◌, ◌≢◌, ℕ, suc, ◌⊎◌, inl, inr, ◌==◌, ◌&&◌, ◌||◌, Bool, true, false, cond, Option, Some, None, List, [], ◌∷◌, ◌++◌, length, refl, ap, sym, subst, ◌∙◌, arith, eq-eqb}
use Rattle.run_record.specs.declared.event.Event.{Event}
use Rattle.run_record.specs.declared.event.Event.TheVariants as events
use Rattle.run_record.specs.declared.event.Part.{Part}
use Rattle.run_record.specs.declared.limits.Limits.{Limits}
use Rattle.run_laws.specs.Moments.{Does, Moment, items}
use Rattle.run_laws.specs.Labels.{raises, is_end}
use Rattle.run_laws.specs.Clocks.{Clocks, event_clocks, taken_from}
use Rattle.run_laws.specs.Present.{labels_now, clocks_now}
use Rattle.slot_desk.specs.Steps as desks
use Rattle.slot_desk.specs.History.{IsDeskAt}
use Rattle.sync_slab.specs.Objects.{SyncObjects, Puts, AreObjects}
use Rattle.sync_slab.specs.Channels.{KeepsChannels}
use Rattle.sync_slab.proofs.ChannelLaws.{keeps-elsewhere, release_joined, release_replaced, destroyed, cleared}
use Rattle.race_core.specs.Watched.{Watched, noted}
use Rattle.race_core.specs.History.{IsWatcherAt, era_now}
use Rattle.turn_orders.specs.Machine.{but}
use Rattle.turn_orders.proofs.Functions.{but_each, but_same}
use Rattle.thread_events.specs.Standing.{Kept, is_kept_at, AreSettled, Stands}
use Rattle.thread_events.specs.Heard.{IsGoing, IsGiven, IfBegin, IsAtKeeper, IsGranted, ObjectsAfter, released, watcher_after, desk_after, kept_after, leaving_after, lost_label}
use Rattle.thread_events.proofs.Threads.{thread_stands}
use Rattle.thread_events.proofs.Events.{its_clock, by_it, fits, clocks_event, desk_stays, settled_stays, keeps_else, still_watcher, begun_watcher, joined_watcher, acquired_watcher}
use Rattle.thread_events.proofs.Raises.{raising_watcher, settled_raising, created_desk, created_owners, ended_desk, ended_watcher, settled_ended}

module _ (limits : Limits) (keeper : ℕ → ℕ) (leaving : ℕ → Bool) (h : List Moment) (m : Moment) (x : Kept) (k t : ℕ) (given : Option (List ℕ)) (set : SyncObjects) (s : Stands limits keeper leaving h x) (going : IsGoing limits h (x.watchers t)) where
  abbrev w : Watched
  w = x.watchers t

  abbrev later : List Moment
  later = h ++ m ∷ []

  watcher_then : (e : Event) → m.item ≡ Does t e → IfBegin e (IsGiven limits h t given) → IsAtKeeper keeper k e → IsGranted x.desk t e → IsWatcherAt limits later t (watcher_after given (x.objects k) x.desk e w)
  watcher_then events.Begin made is at granted = begun_watcher limits keeper leaving h m x t events.Begin s going made given is refl
  watcher_then (events.Create child) made is at granted = raising_watcher limits keeper leaving h m x t (events.Create child) s going made refl refl
  watcher_then events.End made is at granted = ended_watcher limits keeper leaving h m x t events.End s going made refl granted
  watcher_then (events.Join of) made is at granted = joined_watcher limits keeper leaving h m x t (events.Join of) s going made of granted refl
  watcher_then (events.Enter pc) made is at granted = still_watcher limits keeper leaving h m x t (events.Enter pc) s made refl refl refl
  watcher_then events.Leave made is at granted = still_watcher limits keeper leaving h m x t events.Leave s made refl refl refl
  watcher_then (events.Lock addr read) made is at granted = still_watcher limits keeper leaving h m x t (events.Lock addr read) s made refl refl refl
  watcher_then (events.Unlock addr read) made is at granted = still_watcher limits keeper leaving h m x t (events.Unlock addr read) s made refl refl refl
  watcher_then (events.Acquire addr part) made is at granted = acquired_watcher limits keeper leaving h m x t (events.Acquire addr part) s going made k addr part at refl
  watcher_then (events.Release addr part replaces) made is at granted = raising_watcher limits keeper leaving h m x t (events.Release addr part replaces) s going made refl refl
  watcher_then (events.Destroy addr) made is at granted = still_watcher limits keeper leaving h m x t (events.Destroy addr) s made refl refl refl
  watcher_then (events.Access place addr size read atomic) made is at granted = still_watcher limits keeper leaving h m x t (events.Access place addr size read atomic) s made refl refl refl
  watcher_then (events.Put value count) made is at granted = still_watcher limits keeper leaving h m x t (events.Put value count) s made refl refl refl
  watcher_then (events.Clear addr) made is at granted = still_watcher limits keeper leaving h m x t (events.Clear addr) s made refl refl refl

  -- ---- the desk

  plain_desk : (e : Event) → m.item ≡ Does t e → (e ≡ events.End → ⊥) → ((child : ℕ) → e ≡ events.Create child → ⊥) → IsDeskAt limits.epochs limits.slots (items later) (suc (length h)) x.desk
  plain_desk e made = desk_stays limits keeper leaving h m x t e s made

  desk_then : (e : Event) → m.item ≡ Does t e → IsGranted x.desk t e → IsDeskAt limits.epochs limits.slots (items later) (suc (length h)) (desk_after x.desk t w.clock e)
  desk_then (events.Create child) made granted = created_desk limits keeper leaving h m x t (events.Create child) s going made child refl granted
  desk_then events.End made granted = ended_desk limits keeper leaving h m x t events.End s going made refl granted
  desk_then events.Begin made granted = plain_desk events.Begin made (λ q. cc) (λ c q. cc)
  desk_then (events.Join of) made granted = plain_desk (events.Join of) made (λ q. cc) (λ c q. cc)
  desk_then (events.Enter pc) made granted = plain_desk (events.Enter pc) made (λ q. cc) (λ c q. cc)
  desk_then events.Leave made granted = plain_desk events.Leave made (λ q. cc) (λ c q. cc)
  desk_then (events.Lock addr read) made granted = plain_desk (events.Lock addr read) made (λ q. cc) (λ c q. cc)
  desk_then (events.Unlock addr read) made granted = plain_desk (events.Unlock addr read) made (λ q. cc) (λ c q. cc)
  desk_then (events.Acquire addr part) made granted = plain_desk (events.Acquire addr part) made (λ q. cc) (λ c q. cc)
  desk_then (events.Release addr part replaces) made granted = plain_desk (events.Release addr part replaces) made (λ q. cc) (λ c q. cc)
  desk_then (events.Destroy addr) made granted = plain_desk (events.Destroy addr) made (λ q. cc) (λ c q. cc)
  desk_then (events.Access place addr size read atomic) made granted = plain_desk (events.Access place addr size read atomic) made (λ q. cc) (λ c q. cc)
  desk_then (events.Put value count) made granted = plain_desk (events.Put value count) made (λ q. cc) (λ c q. cc)
  desk_then (events.Clear addr) made granted = plain_desk (events.Clear addr) made (λ q. cc) (λ c q. cc)

  -- ---- who is to leave

  -- an event that raises nothing
  as_before : (e : Event) (desk : Rattle.slot_desk.specs.Desks.DeskContents) → raises e ≡ 0 → AreSettled leaving (labels_now limits.epochs later) desk → AreSettled (leaving_after leaving t e w) (labels_now limits.epochs later) desk
  as_before e desk no_raise settled sid a owner = elim (settled sid a owner) [ inl leaves ↦ inl (rw leaves refl) | inr held ↦ inr held ]

  plain_settled : (e : Event) → m.item ≡ Does t e → raises e ≡ 0 → is_end e ≡ false → AreSettled (leaving_after leaving t e w) (labels_now limits.epochs later) x.desk
  plain_settled e made no_raise no_last = as_before e x.desk no_raise (settled_stays limits keeper leaving h m x t e s made no_raise no_last)

  settled_then : (e : Event) → m.item ≡ Does t e → IsGranted x.desk t e → AreSettled (leaving_after leaving t e w) (labels_now limits.epochs later) (desk_after x.desk t w.clock e)
  settled_then (events.Create child) made granted = settled_raising limits keeper leaving h m x t (events.Create child) s going made refl (desks.after_create x.desk w.clock) (created_owners limits keeper leaving h m x t (events.Create child) s going made)
  settled_then (events.Release addr part replaces) made granted = settled_raising limits keeper leaving h m x t (events.Release addr part replaces) s going made refl x.desk (λ sid. refl)
  settled_then events.End made granted = as_before events.End (desks.after_end x.desk t w.clock) refl (settled_ended limits keeper leaving h m x t events.End s going made refl granted)
  settled_then events.Begin made granted = plain_settled events.Begin made refl refl
  settled_then (events.Join of) made granted = plain_settled (events.Join of) made refl refl
  settled_then (events.Enter pc) made granted = plain_settled (events.Enter pc) made refl refl
  settled_then events.Leave made granted = plain_settled events.Leave made refl refl
  settled_then (events.Lock addr read) made granted = plain_settled (events.Lock addr read) made refl refl
  settled_then (events.Unlock addr read) made granted = plain_settled (events.Unlock addr read) made refl refl
  settled_then (events.Acquire addr part) made granted = plain_settled (events.Acquire addr part) made refl refl
  settled_then (events.Destroy addr) made granted = plain_settled (events.Destroy addr) made refl refl
  settled_then (events.Access place addr size read atomic) made granted = plain_settled (events.Access place addr size read atomic) made refl refl
  settled_then (events.Put value count) made granted = plain_settled (events.Put value count) made refl refl
  settled_then (events.Clear addr) made granted = plain_settled (events.Clear addr) made refl refl

  -- ---- the objects of the event's place

  abbrev clocks_by : Event → Clocks
  clocks_by e = event_clocks limits.epochs (labels_now limits.epochs h) (clocks_now limits.epochs h) t e

  -- an event that changes no object
  same_objects : (e : Event) → set ≡ x.objects k → Rattle.sync_slab.specs.Channels.IsElsewhere (is_kept_at keeper k) e → KeepsChannels (is_kept_at keeper k) (era_now limits.epochs h) (clocks_by e) set
  same_objects e same elsewhere = subst (KeepsChannels (is_kept_at keeper k) (era_now limits.epochs h) (clocks_by e)) (sym same)
      (keeps-elsewhere limits.epochs (labels_now limits.epochs h) (is_kept_at keeper k) (era_now limits.epochs h) t e (clocks_now limits.epochs h) (x.objects k) elsewhere (s.objects k))

  its_known : (e : Event) → m.item ≡ Does t e → Rattle.race_core.specs.History.IsClock w.clock ((clocks_now limits.epochs h).thread t)
  its_known e made = its_clock limits keeper leaving h m x t e s going made

  release_objects : (addr : ℕ) (part : Part) (replaces : Bool) → m.item ≡ Does t (events.Release addr part replaces) → Puts (x.objects k) set (released (x.objects k) (era_now limits.epochs h) w.clock addr part replaces) → AreObjects set →
      KeepsChannels (is_kept_at keeper k) (era_now limits.epochs h) (clocks_by (events.Release addr part replaces)) set
  release_objects addr part true made puts objects =
      release_replaced limits.epochs (labels_now limits.epochs h) (is_kept_at keeper k) (era_now limits.epochs h) t addr part (clocks_now limits.epochs h) (x.objects k) set w.clock (s.objects k) (its_known (events.Release addr part true) made) puts objects
  release_objects addr part false made puts objects =
      release_joined limits.epochs (labels_now limits.epochs h) (is_kept_at keeper k) (era_now limits.epochs h) t addr part (clocks_now limits.epochs h) (x.objects k) set w.clock (s.objects k) ((s.watchers t).slots ∙ sym (s.object_slots k)) (its_known (events.Release addr part false) made) puts objects

  objects_here : (e : Event) → m.item ≡ Does t e → ObjectsAfter (era_now limits.epochs h) w.clock e (x.objects k) set → KeepsChannels (is_kept_at keeper k) (era_now limits.epochs h) (clocks_by e) set
  objects_here (events.Release addr part replaces) made after = release_objects addr part replaces made after.0 after.1
  objects_here (events.Destroy addr) made after = destroyed limits.epochs (labels_now limits.epochs h) (is_kept_at keeper k) (era_now limits.epochs h) t addr (clocks_now limits.epochs h) (x.objects k) set (s.objects k) after.0 after.1
  objects_here (events.Clear addr) made after = cleared limits.epochs (labels_now limits.epochs h) (is_kept_at keeper k) (era_now limits.epochs h) t addr (clocks_now limits.epochs h) (x.objects k) set (s.objects k) after.0 after.1
  objects_here events.Begin made after = same_objects events.Begin after tt
  objects_here (events.Create child) made after = same_objects (events.Create child) after tt
  objects_here events.End made after = same_objects events.End after tt
  objects_here (events.Join of) made after = same_objects (events.Join of) after tt
  objects_here (events.Enter pc) made after = same_objects (events.Enter pc) after tt
  objects_here events.Leave made after = same_objects events.Leave after tt
  objects_here (events.Lock addr read) made after = same_objects (events.Lock addr read) after tt
  objects_here (events.Unlock addr read) made after = same_objects (events.Unlock addr read) after tt
  objects_here (events.Acquire addr part) made after = same_objects (events.Acquire addr part) after tt
  objects_here (events.Access place addr size read atomic) made after = same_objects (events.Access place addr size read atomic) after tt
  objects_here (events.Put value count) made after = same_objects (events.Put value count) after tt

  same_slots : (e : Event) → ObjectsAfter (era_now limits.epochs h) w.clock e (x.objects k) set → set.slots ≡ (x.objects k).slots
  same_slots (events.Release addr part replaces) after = after.0.slots
  same_slots (events.Destroy addr) after = after.0.slots
  same_slots (events.Clear addr) after = after.0.slots
  same_slots events.Begin after = ap (λ (y : SyncObjects). y.slots) after
  same_slots (events.Create child) after = ap (λ (y : SyncObjects). y.slots) after
  same_slots events.End after = ap (λ (y : SyncObjects). y.slots) after
  same_slots (events.Join of) after = ap (λ (y : SyncObjects). y.slots) after
  same_slots (events.Enter pc) after = ap (λ (y : SyncObjects). y.slots) after
  same_slots events.Leave after = ap (λ (y : SyncObjects). y.slots) after
  same_slots (events.Lock addr read) after = ap (λ (y : SyncObjects). y.slots) after
  same_slots (events.Unlock addr read) after = ap (λ (y : SyncObjects). y.slots) after
  same_slots (events.Acquire addr part) after = ap (λ (y : SyncObjects). y.slots) after
  same_slots (events.Access place addr size read atomic) after = ap (λ (y : SyncObjects). y.slots) after
  same_slots (events.Put value count) after = ap (λ (y : SyncObjects). y.slots) after

  -- ---- all of it

  pub event_stands : (e : Event) → m.item ≡ Does t e → IfBegin e (IsGiven limits h t given) → IsAtKeeper keeper k e → IsGranted x.desk t e → ObjectsAfter w.era w.clock e (x.objects k) set → Stands limits keeper (leaving_after leaving t e w) later (kept_after x k t given e set)
  event_stands e made is at granted changed =
      let after : ObjectsAfter (era_now limits.epochs h) w.clock e (x.objects k) set = subst (λ (era : ℕ). ObjectsAfter era w.clock e (x.objects k) set) going.present changed in
      thread_stands limits keeper leaving (leaving_after leaving t e w) h m x t (desk_after x.desk t w.clock e) (but x.objects k set) (watcher_after given (x.objects k) x.desk e w) s
      (by_it limits keeper leaving h m x t e s made) (fits limits keeper leaving h m x t e s made) (desk_then e made granted)
      (but_each (λ (j : ℕ) (y : SyncObjects). KeepsChannels (is_kept_at keeper j) (era_now limits.epochs h) (clocks_now limits.epochs later) y) x.objects k set
      (subst (λ (c : Clocks). KeepsChannels (is_kept_at keeper k) (era_now limits.epochs h) c set) (sym (clocks_event limits keeper leaving h m x t e s made)) (objects_here e made after))
      (keeps_else limits keeper leaving h m x t e s made k at))
      (but_each (λ (j : ℕ) (y : SyncObjects). y.slots ≡ limits.slots) x.objects k set (same_slots e after ∙ s.object_slots k) (λ j ne. s.object_slots j))
      (watcher_then e made is at granted) (settled_then e made granted)

-- a thread that puts bytes on the output needs no label, and nothing changes
pub put_stands : (limits : Limits) (keeper : ℕ → ℕ) (leaving : ℕ → Bool) (h : List Moment) (m : Moment) (x : Kept) (t value count : ℕ) → Stands limits keeper leaving h x → m.item ≡ Does t (events.Put value count) → Stands limits keeper leaving (h ++ m ∷ []) x
put_stands limits keeper leaving h m x t value count s made =
    let e : Event = events.Put value count in
    subst (λ (ws : ℕ → Watched). Stands limits keeper leaving (h ++ m ∷ []) (record x { watchers = ws })) (but_same x.watchers t)
    (thread_stands limits keeper leaving leaving h m x t x.desk x.objects (x.watchers t) s (by_it limits keeper leaving h m x t e s made) (fits limits keeper leaving h m x t e s made)
    (desk_stays limits keeper leaving h m x t e s made (λ q. cc) (λ c q. cc))
    (λ k. subst (λ (c : Clocks). KeepsChannels (is_kept_at keeper k) (era_now limits.epochs h) c (x.objects k)) (sym (clocks_event limits keeper leaving h m x t e s made))
    (keeps-elsewhere limits.epochs (labels_now limits.epochs h) (is_kept_at keeper k) (era_now limits.epochs h) t e (clocks_now limits.epochs h) (x.objects k) tt (s.objects k)))
    s.object_slots (still_watcher limits keeper leaving h m x t e s made refl refl refl) (settled_stays limits keeper leaving h m x t e s made refl refl))
