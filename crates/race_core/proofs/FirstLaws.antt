-- A thread that did nothing yet.
use Rattle.std.proofs.Common.{◌≡◌, ℕ, zero, suc, Bool, true, false, if◌then◌else◌, Option, None, List, [], ◌∷◌, ◌++◌, length, take, slice_index, replicate, refl, sym, ap, ap₂, subst, ◌∙◌, arith, ne_eqb}
use Rattle.std.specs.Prelude.{option_map, filter_map, fold}
use Rattle.std.specs.List.{cons_option}
use Rattle.std.proofs.Math.Seq.{take-length}
use Rattle.std.proofs.lemmas.List.{length-replicate}
use Rattle.run_record.specs.declared.event.Event.{Event}
use Rattle.run_record.specs.declared.entry.DeskNote.TheVariants.{Nothing, Attach, Leave}
use Rattle.run_record.specs.declared.limits.Limits.{Limits}
use Rattle.run_laws.specs.Moments.{Item, Does, Notes, NewEra, Past, Moment, items, IsBy}
use Rattle.run_laws.specs.Labels.{Labels, labels, next_labels, attach_labels, can_attach}
use Rattle.run_laws.specs.Clocks.{Clocks, clocks, next_clocks, attach_clocks}
use Rattle.run_laws.specs.Stacks.{event_by, frames_after, locks_after}
use Rattle.run_laws.specs.Window.{TraceEvent, traced_by, trace_before}
use Rattle.run_laws.specs.Present.{labels_now, label_now}
use Rattle.trace_parts.specs.Held.{Holds}
use Rattle.race_core.specs.Watched.{AreWatcherLimits, new_trace, new_watched}
use Rattle.race_core.specs.History.{IsWatcherAt}

-- an item that isn't the thread's gives it no label and no clock
slot_next : (g : ℕ) (l : Labels) (item : Item) (t : ℕ) → (IsBy t item → ⊥) → l.slot_of t ≡ None → (next_labels g l item).slot_of t ≡ None
slot_next g l (Does u e) t d none = rw (ne_eqb t u (λ z. d (sym z))) none
slot_next g l (Notes u (Attach m)) t d none = go (can_attach l u m.sid)
  where
    go : (c : Bool) → (if c then attach_labels l u m.sid else l).slot_of t ≡ None
    go true = rw (ne_eqb t u (λ z. d (sym z))) none
    go false = none
slot_next g l (Notes u Nothing) t d none = none
slot_next g l (Notes u (Leave m)) t d none = none
slot_next g l NewEra t d none = refl
slot_next g l Past t d none = none

thread_next : (g : ℕ) (l : Labels) (k : Clocks) (item : Item) (t r : ℕ) → (IsBy t item → ⊥) → k.thread t r ≡ 0 → (next_clocks g l k item).thread t r ≡ 0
thread_next g l k (Does u e) t r d none = rw (ne_eqb t u (λ z. d (sym z))) none
thread_next g l k (Notes u (Attach m)) t r d none = go (can_attach l u m.sid)
  where
    go : (c : Bool) → (if c then attach_clocks l k u m.sid else k).thread t r ≡ 0
    go true = rw (ne_eqb t u (λ z. d (sym z))) none
    go false = none
thread_next g l k (Notes u Nothing) t r d none = none
thread_next g l k (Notes u (Leave m)) t r d none = none
thread_next g l k NewEra t r d none = refl
thread_next g l k Past t r d none = none

traced_none : (g : ℕ) (h : ℕ → Item) (n t : ℕ) (item : Item) → (IsBy t item → ⊥) → traced_by g h n t item ≡ []
traced_none g h n t (Does u e) d = rw (ne_eqb u t d) refl
traced_none g h n t (Notes u (Attach m)) d = rw (ne_eqb u t d) refl
traced_none g h n t (Notes u Nothing) d = refl
traced_none g h n t (Notes u (Leave m)) d = refl
traced_none g h n t NewEra d = refl
traced_none g h n t Past d = refl

no_slot : (g : ℕ) (h : ℕ → Item) (t : ℕ) → ((i : ℕ) → IsBy t (h i) → ⊥) → (n : ℕ) → (labels g h n).slot_of t ≡ None
unfolding labels
no_slot g h t d zero = refl
no_slot g h t d (suc n) = slot_next g (labels g h n) (h n) t (d n) (no_slot g h t d n)

no_clock : (g : ℕ) (h : ℕ → Item) (t r : ℕ) → ((i : ℕ) → IsBy t (h i) → ⊥) → (n : ℕ) → (clocks g h n).thread t r ≡ 0
unfolding clocks
no_clock g h t r d zero = refl
no_clock g h t r d (suc n) = thread_next g (labels g h n) (clocks g h n) (h n) t r (d n) (no_clock g h t r d n)

no_trace : (g : ℕ) (h : ℕ → Item) (t : ℕ) → ((i : ℕ) → IsBy t (h i) → ⊥) → (n : ℕ) → trace_before g h n t ≡ []
no_trace g h t d zero = refl
no_trace g h t d (suc n) = ap₂ (λ (xs ys : List TraceEvent). xs ++ ys) (no_trace g h t d n) (traced_none g h n t (h n) (d n))

no_event : (t : ℕ) (item : Item) → (IsBy t item → ⊥) → event_by t item ≡ None
no_event t (Does u e) d = rw (ne_eqb u t d) refl
no_event t (Notes u note) d = refl
no_event t NewEra d = refl
no_event t Past d = refl

no_events : (h : List Moment) (t : ℕ) → ((i : ℕ) → IsBy t (items h i) → ⊥) → filter_map (λ (m : Moment). event_by t m.item) h ≡ []
no_events [] t d = refl
no_events (m ∷ h) t d = ap₂ (λ (o : Option Event) (es : List Event). cons_option o es) (no_event t m.item (d 0)) (no_events h t (λ i. d (suc i)))

no_events_now : (h : List Moment) (t : ℕ) → ((i : ℕ) → IsBy t (items h i) → ⊥) → filter_map (λ (m : Moment). event_by t m.item) (take (length h) h) ≡ []
no_events_now h t d = ap (filter_map (λ (m : Moment). event_by t m.item)) (take-length h) ∙ no_events h t d

all_zero : (n r : ℕ) → slice_index (replicate n 0) r ≡ 0
all_zero zero r = refl
all_zero (suc n) zero = refl
all_zero (suc n) (suc r) = all_zero n r

take_none : (n : ℕ) → take n (let xs : List (List TraceEvent) = [] in xs) ≡ []
take_none zero = refl
take_none (suc n) = refl

holds_none : (limits : Limits) → Holds (new_trace limits) []
holds_none limits = record { parts_held = sym (take_none limits.parts); ends = tt; none_yet = λ e. refl; counted = refl }

pub first : (limits : Limits) (h : List Moment) (t : ℕ) → AreWatcherLimits limits → ((i : ℕ) → IsBy t (items h i) → ⊥) → IsWatcherAt limits h t (new_watched t limits)
first limits h t range d =
    let g = limits.epochs in
    let lost : label_now g h t ≡ None = ap (option_map (λ (s : ℕ). record { sid = s; epoch = (labels_now g h).epoch s; era = (labels_now g h).era })) (no_slot g (items h) t d (length h)) in
    record {
      in_range = range;
      tid = refl;
      greatest = refl;
      slots = length-replicate limits.slots 0;
      part_words = refl;
      parts = refl;
      frames = sym (ap (fold frames_after []) (no_events_now h t d));
      locks = sym (ap (fold locks_after []) (no_events_now h t d));
      trace = subst (Holds (new_trace limits)) (sym (no_trace g (items h) t d (length h))) (holds_none limits);
      era = omega arith;
      label = λ e. sym lost;
      clock = λ e r. all_zero limits.slots r ∙ sym (no_clock g (items h) t r d (length h));
      no_label = λ l. lost;
      no_clock = λ l r. no_clock g (items h) t r d (length h);
      slot = λ l f. absurd (cc);
      epoch = λ l f. absurd (cc);
    }
