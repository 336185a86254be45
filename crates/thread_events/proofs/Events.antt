-- What holds of the thread's clock and label at an event, and the watcher after an event that raises no epoch.
use Rattle.std.proofs.Common.{◌≡◌, ◌≢◌, ℕ, suc, ◌+◌, ◌<◌, ◌≤◌, ◌⊎◌, inl, inr, ◌==◌, ◌&&◌, Bool, true, false, cond, max, Option, Some, None, List, [], ◌∷◌, ◌++◌, length, get_or, refl, ap, sym, subst, ◌∙◌, arith, eqb-true, eq-eqb, ne_eqb}
use Rattle.std.specs.Prelude.{slice_index, nat_lt}
use Rattle.std.proofs.lemmas.Bool.{cases_lt}
use Rattle.std.proofs.lemmas.List.{get_or_past}
use Rattle.run_record.specs.declared.event.Event.{Event}
use Rattle.run_record.specs.declared.event.Event.TheVariants as events
use Rattle.run_record.specs.declared.event.Part.{Part}
use Rattle.run_record.specs.declared.limits.Limits.{Limits}
use Rattle.run_laws.specs.Moments.{Item, Does, Moment, items, IsBy}
use Rattle.run_laws.specs.Labels.{Labels, next_labels, event_labels, slot_after, raises, is_end, raised, holds}
use Rattle.run_laws.specs.Clocks.{Clocks, next_clocks, event_clocks, taken_from, clock_at, Given, Ended, Of}
use Rattle.run_laws.specs.Present.{labels_now, label_now, clocks_now}
use Rattle.run_laws.proofs.PresentLaw.{clocks_now-push, labels_now-push}
use Rattle.vector_clock.specs.Clocks.{joined}
use Rattle.vector_clock.proofs.ClockLaws.{length-joined, get_or-joined}
use Rattle.slot_desk.specs.declared.answers.Joined.TheVariants.{Done}
use Rattle.slot_desk.specs.Desks.{DeskContents, thread_of}
use Rattle.slot_desk.specs.Steps as desks
use Rattle.slot_desk.specs.History.{IsDeskAt, Tells, epoch_told}
use Rattle.slot_desk.proofs.HistoryLaw.{at_event, clock_joined}
use Rattle.sync_slab.specs.Objects.{SyncObjects, clock_in}
use Rattle.sync_slab.specs.Channels.{KeepsChannels, IsElsewhere}
use Rattle.sync_slab.proofs.ChannelLaws.{keeps-elsewhere, acquired, length-clock_in}
use Rattle.race_core.specs.Watched.{Watched, with_clock, noted}
use Rattle.race_core.specs.History.{IsWatcherAt, IsClock, AttachesWithin, era_now}
use Rattle.race_core.proofs.EventLaws.{taking, still}
use Rattle.race_core.proofs.BeyondLaws.{within_push}
use Rattle.thread_events.specs.Standing.{Kept, is_kept_at, AreSettled, Stands}
use Rattle.thread_events.specs.Heard.{IsGoing, IsGiven, IsAtKeeper, watcher_after}
use Rattle.thread_events.proofs.Longer.{desk_before, item-seam, clocks_before}

-- a clock of n slots that tells what is known of each of them is the whole clock, where nothing is known of others
pub whole_clock : (n : ℕ) (clock : List ℕ) (known : ℕ → ℕ) → length clock ≡ n → ((r : ℕ) → r < n → known r ≡ slice_index clock r) → ((r : ℕ) → n ≤ r → known r ≡ 0) → IsClock clock known
whole_clock n clock known long tells beyond r = elim (cases_lt r n) [ inl below ↦ sym (tells r below) | inr over ↦ get_or_past clock r 0 (omega arith) ∙ sym (beyond r over) ]

-- a clock that another one joins, if any
pub long_told : (n : ℕ) (clock : List ℕ) (o : Option (List ℕ)) → ((other : List ℕ) → o ≡ Some other → length other ≡ n) → length clock ≡ n → length (desks.joined_told clock o) ≡ n
long_told n clock None all long = long
long_told n clock (Some other) all long = length-joined clock other (long ∙ sym (all other refl)) ∙ long

long_joined : (n of : ℕ) (desk : DeskContents) (clock : List ℕ) → ((tid : ℕ) (other : List ℕ) → (thread_of desk tid).told ≡ Some other → length other ≡ n) → length clock ≡ n → length (desks.clock_after_join desk of clock) ≡ n
long_joined n of desk clock all long = go (nat_lt of desk.made) (thread_of desk of).lives
  where
    go : (a b : Bool) → length (cond a (cond b clock (desks.joined_told clock (thread_of desk of).told)) clock) ≡ n
    go true true = long
    go true false = long_told n clock (thread_of desk of).told (all of) long
    go false b = long

module _ (limits : Limits) (keeper : ℕ → ℕ) (leaving : ℕ → Bool) (h : List Moment) (m : Moment) (x : Kept) (t : ℕ) (e : Event) (s : Stands limits keeper leaving h x) (made : m.item ≡ Does t e) where
  pub by_it : IsBy t m.item
  by_it = subst (IsBy t) (sym made) refl

  pub at_item : items (h ++ m ∷ []) (length h) ≡ Does t e
  at_item = item-seam h m ∙ made

  pub clocks_event : clocks_now limits.epochs (h ++ m ∷ []) ≡ event_clocks limits.epochs (labels_now limits.epochs h) (clocks_now limits.epochs h) t e
  clocks_event = clocks_now-push limits.epochs h m ∙ ap (next_clocks limits.epochs (labels_now limits.epochs h) (clocks_now limits.epochs h)) made

  pub labels_event : labels_now limits.epochs (h ++ m ∷ []) ≡ event_labels limits.epochs (labels_now limits.epochs h) t e
  labels_event = labels_now-push limits.epochs h m ∙ ap (next_labels limits.epochs (labels_now limits.epochs h)) made

  -- no attachment
  fits_item : (item : Item) → item ≡ Does t e → AttachesWithin limits.slots item
  fits_item (Does u f) same = tt
  fits_item _ same = absurd (cc)

  pub fits : AttachesWithin limits.slots m.item
  fits = fits_item m.item made

  -- ---- the desk and the slots

  pub desk_there : IsDeskAt limits.epochs limits.slots (items (h ++ m ∷ [])) (length h) x.desk
  desk_there = desk_before limits.epochs limits.slots h m x.desk s.desk

  pub desk_stays : (e ≡ events.End → ⊥) → ((child : ℕ) → e ≡ events.Create child → ⊥) → IsDeskAt limits.epochs limits.slots (items (h ++ m ∷ [])) (suc (length h)) x.desk
  desk_stays no_end no_create = at_event limits.epochs limits.slots (items (h ++ m ∷ [])) (length h) x.desk t e desk_there at_item no_end no_create

  same_slot : (o : Option ℕ) → raises e ≡ 0 → is_end e ≡ false → slot_after limits.epochs (labels_now limits.epochs h).epoch o e ≡ o
  same_slot None no_raise no_last = refl
  same_slot (Some r) no_raise no_last = rw (no_last, eq-eqb (raises e) 0 no_raise) refl

  slots_stay : raises e ≡ 0 → is_end e ≡ false → (u : ℕ) → (labels_now limits.epochs (h ++ m ∷ [])).slot_of u ≡ (labels_now limits.epochs h).slot_of u
  slots_stay no_raise no_last u = ap (λ (l : Labels). l.slot_of u) labels_event ∙ go (u == t) refl
    where
      go : (b : Bool) → u == t ≡ b → cond b (slot_after limits.epochs (labels_now limits.epochs h).epoch ((labels_now limits.epochs h).slot_of t) e) ((labels_now limits.epochs h).slot_of u) ≡ (labels_now limits.epochs h).slot_of u
      go true q = same_slot ((labels_now limits.epochs h).slot_of t) no_raise no_last ∙ ap (labels_now limits.epochs h).slot_of (sym (eqb-true u t q))
      go false q = refl

  pub settled_stays : raises e ≡ 0 → is_end e ≡ false → AreSettled leaving (labels_now limits.epochs (h ++ m ∷ [])) x.desk
  settled_stays no_raise no_last sid a owner = elim (s.settled sid a owner) [ inl leaves ↦ inl leaves | inr held ↦ inr (slots_stay no_raise no_last a.tid ∙ held) ]

  -- ---- objects of other places

  elsewhere : (k : ℕ) (f : Event) → IsAtKeeper keeper k f → (j : ℕ) → j ≢ k → IsElsewhere (is_kept_at keeper j) f
  elsewhere k (events.Release addr part replaces) at j ne = ne_eqb (keeper addr) j (λ q. ne (sym q ∙ sym at))
  elsewhere k (events.Destroy addr) at j ne = ne_eqb (keeper addr) j (λ q. ne (sym q ∙ sym at))
  elsewhere k (events.Clear addr) at j ne = ne_eqb (keeper addr) j (λ q. ne (sym q ∙ sym at))
  elsewhere k _ at j ne = tt

  pub keeps_else : (k : ℕ) → IsAtKeeper keeper k e → (j : ℕ) → j ≢ k → KeepsChannels (is_kept_at keeper j) (era_now limits.epochs h) (clocks_now limits.epochs (h ++ m ∷ [])) (x.objects j)
  keeps_else k at j ne =
      subst (λ (c : Clocks). KeepsChannels (is_kept_at keeper j) (era_now limits.epochs h) c (x.objects j)) (sym clocks_event)
      (keeps-elsewhere limits.epochs (labels_now limits.epochs h) (is_kept_at keeper j) (era_now limits.epochs h) t e (clocks_now limits.epochs h) (x.objects j) (elsewhere k e at j ne) (s.objects j))

  pub still_watcher : raises e ≡ 0 → is_end e ≡ false → taken_from t e ≡ None → IsWatcherAt limits (h ++ m ∷ []) t (noted (x.watchers t) e)
  still_watcher no_raise no_last alone = still limits h m t (x.watchers t) (s.watchers t) e made no_raise no_last alone

-- of a thread with a label
module _ (limits : Limits) (keeper : ℕ → ℕ) (leaving : ℕ → Bool) (h : List Moment) (m : Moment) (x : Kept) (t : ℕ) (e : Event) (s : Stands limits keeper leaving h x) (going : IsGoing limits h (x.watchers t)) (made : m.item ≡ Does t e) where
  abbrev w : Watched
  w = x.watchers t

  abbrev later : List Moment
  later = h ++ m ∷ []

  pub its_label : w.label ≡ label_now limits.epochs h t
  its_label = (s.watchers t).label going.present

  pub its_clock : IsClock w.clock ((clocks_now limits.epochs h).thread t)
  its_clock = (s.watchers t).clock going.present

  -- ---- what the thread knows after the event

  thread_event : (r : ℕ) → (clocks_now limits.epochs later).thread t r ≡ max ((clocks_now limits.epochs h).thread t r) (clock_at (clocks_now limits.epochs h) (taken_from t e) r) + raised limits.epochs (labels_now limits.epochs h) t e r
  thread_event r = ap (λ (k : Clocks). k.thread t r) (clocks_event limits keeper leaving h m x t e s made) ∙ own (t == t) (eq-eqb t t refl)
    where
      own : (b : Bool) → b ≡ true → cond b (max ((clocks_now limits.epochs h).thread t r) (clock_at (clocks_now limits.epochs h) (taken_from t e) r) + raised limits.epochs (labels_now limits.epochs h) t e r) ((clocks_now limits.epochs h).thread t r) ≡ max ((clocks_now limits.epochs h).thread t r) (clock_at (clocks_now limits.epochs h) (taken_from t e) r) + raised limits.epochs (labels_now limits.epochs h) t e r
      own true q = refl
      own false q = absurd (cc)

  not_raised : raises e ≡ 0 → (r : ℕ) → raised limits.epochs (labels_now limits.epochs h) t e r ≡ 0
  not_raised no_raise r = go (holds ((labels_now limits.epochs h).slot_of t) r && nat_lt ((labels_now limits.epochs h).epoch r) limits.epochs)
    where
      go : (b : Bool) → cond b (raises e) 0 ≡ 0
      go true = no_raise
      go false = refl

  taken : raises e ≡ 0 → (r : ℕ) → (clocks_now limits.epochs later).thread t r ≡ max ((clocks_now limits.epochs h).thread t r) (clock_at (clocks_now limits.epochs h) (taken_from t e) r)
  taken no_raise r = let a = thread_event r in let b = not_raised no_raise r in omega arith

  pub tells_now : Tells limits.slots w.clock ((clocks_now limits.epochs h).thread t)
  tells_now r l = sym (its_clock r)

  -- beyond the slots nothing is known
  beyond : (r : ℕ) → limits.slots ≤ r → (clocks_now limits.epochs later).thread t r ≡ 0
  beyond r l = (within_push limits.epochs limits.slots h m s.within (fits limits keeper leaving h m x t e s made)).thread t r l

  -- ---- the watcher

  taking_watcher : (clock : List ℕ) → raises e ≡ 0 → is_end e ≡ false → length clock ≡ limits.slots → IsClock clock ((clocks_now limits.epochs later).thread t) → noted (with_clock w clock) e ≡ with_clock w clock → IsWatcherAt limits later t (with_clock w clock)
  taking_watcher clock no_raise no_last long known same = subst (IsWatcherAt limits later t) same (taking limits h m t w (s.watchers t) e clock made no_raise no_last going.present long known)

  -- it begins
  pub begun_watcher : (given : Option (List ℕ)) → IsGiven limits h t given → e ≡ events.Begin → IsWatcherAt limits later t (with_clock w (desks.joined_told w.clock given))
  begun_watcher given is e_is =
      taking_watcher (desks.joined_told w.clock given) (rw e_is refl) (rw e_is refl) long (whole_clock limits.slots (desks.joined_told w.clock given) ((clocks_now limits.epochs later).thread t) long known beyond) (rw e_is refl)
    where
      long : length (desks.joined_told w.clock given) ≡ limits.slots
      long = long_told limits.slots w.clock given is.long (s.watchers t).slots

      joined_is : (o : Option (List ℕ)) (r : ℕ) → ((clock : List ℕ) → o ≡ Some clock → length clock ≡ limits.slots) → r < limits.slots → max (slice_index w.clock r) (epoch_told o r) ≡ slice_index (desks.joined_told w.clock o) r
      joined_is None r all below = omega arith
      joined_is (Some c) r all below = sym (get_or-joined w.clock c r ((s.watchers t).slots ∙ sym (all c refl)))

      known : (r : ℕ) → r < limits.slots → (clocks_now limits.epochs later).thread t r ≡ slice_index (desks.joined_told w.clock given) r
      known r below =
          taken (rw e_is refl) r
          ∙ (ap (λ (f : Event). max ((clocks_now limits.epochs h).thread t r) (clock_at (clocks_now limits.epochs h) (taken_from t f) r)) e_is
          ∙ (let a = its_clock r in let b = is.known r below in let c = joined_is given r is.long below in omega arith))

  -- it joins an ended thread
  pub joined_watcher : (of : ℕ) → desks.join_answer x.desk of ≡ Done → e ≡ events.Join of → IsWatcherAt limits later t (with_clock w (desks.clock_after_join x.desk of w.clock))
  joined_watcher of done e_is =
      taking_watcher (desks.clock_after_join x.desk of w.clock) (rw e_is refl) (rw e_is refl) long (whole_clock limits.slots (desks.clock_after_join x.desk of w.clock) ((clocks_now limits.epochs later).thread t) long known beyond) (rw e_is refl)
    where
      long : length (desks.clock_after_join x.desk of w.clock) ≡ limits.slots
      long = long_joined limits.slots of x.desk w.clock s.desk.desk.told.long (s.watchers t).slots

      known : (r : ℕ) → r < limits.slots → (clocks_now limits.epochs later).thread t r ≡ slice_index (desks.clock_after_join x.desk of w.clock) r
      known r below =
          taken (rw e_is refl) r
          ∙ (ap (λ (f : Event). max ((clocks_now limits.epochs h).thread t r) (clock_at (clocks_now limits.epochs h) (taken_from t f) r)) e_is
          ∙ (ap (λ (c : Clocks). max ((clocks_now limits.epochs h).thread t r) (c.spot (Of (Ended of)) r)) (sym (clocks_before limits.epochs h m))
          ∙ clock_joined limits.epochs limits.slots (items later) (length h) x.desk of w.clock ((clocks_now limits.epochs h).thread t) (desk_there limits keeper leaving h m x t e s made) done (s.watchers t).slots tells_now r below))

  -- it takes in what was released
  pub acquired_watcher : (k addr : ℕ) (part : Part) → k ≡ keeper addr → e ≡ events.Acquire addr part → IsWatcherAt limits later t (with_clock w (joined w.clock (clock_in (x.objects k) w.era addr part)))
  acquired_watcher k addr part at e_is =
      subst (λ (era : ℕ). IsWatcherAt limits later t (with_clock w (joined w.clock (clock_in (x.objects k) era addr part)))) (sym going.present)
      (taking_watcher (joined w.clock (clock_in (x.objects k) (era_now limits.epochs h) addr part)) (rw e_is refl) (rw e_is refl) long known (rw e_is refl))
    where
      era : ℕ
      era = era_now limits.epochs h

      as_long : length w.clock ≡ (x.objects k).slots
      as_long = (s.watchers t).slots ∙ sym (s.object_slots k)

      long : length (joined w.clock (clock_in (x.objects k) era addr part)) ≡ limits.slots
      long = length-joined w.clock (clock_in (x.objects k) era addr part) (as_long ∙ sym (length-clock_in (x.objects k) era addr part (s.objects k).objects)) ∙ (s.watchers t).slots

      known : IsClock (joined w.clock (clock_in (x.objects k) era addr part)) ((clocks_now limits.epochs later).thread t)
      known r =
          acquired limits.epochs (labels_now limits.epochs h) (is_kept_at keeper k) era t addr part (clocks_now limits.epochs h) (x.objects k) w.clock (s.objects k) (eq-eqb (keeper addr) k (sym at)) as_long its_clock r
          ∙ ap (λ (c : Clocks). c.thread t r) (sym ((clocks_event limits keeper leaving h m x t e s made) ∙ ap (event_clocks limits.epochs (labels_now limits.epochs h) (clocks_now limits.epochs h) t) e_is))
