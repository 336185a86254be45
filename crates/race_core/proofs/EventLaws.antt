-- A watcher goes on with its thread's events.
use Rattle.std.proofs.Common.{◌≡◌, ◌<◌, ◌≤◌, ◌+◌, ◌⊎◌, ℕ, Bool, true, false, if◌then◌else◌, Option, Some, None, List, [], ◌∷◌, ◌++◌, length, slice_index, set, refl, sym, ap, ap₂, subst, ◌∙◌, inl, inr, arith}
use Rattle.std.specs.Prelude.{option_map, option_to_list}
use Rattle.std.proofs.lemmas.Bool.{cases_eq, lt-ltb}
use Rattle.std.proofs.lemmas.Grind.{get_or-set_at}
use Rattle.std.proofs.lemmas.List.{get_or-set_other, length-set}
use Rattle.run_record.specs.declared.event.Event.{Event}
use Rattle.run_record.specs.declared.event.Event.TheVariants.{End}
use Rattle.run_record.specs.declared.entry.DeskNote.TheVariants.{Attach}
use Rattle.run_record.specs.declared.entry.Label.{Label}
use Rattle.run_record.specs.declared.limits.Limits.{Limits}
use Rattle.run_record.specs.declared.report.KeptLock.{KeptLock}
use Rattle.run_laws.specs.Moments.{Item, Does, Notes, NewEra, Moment, items}
use Rattle.run_laws.specs.Labels.{Labels, raises, is_end, next_labels, raised as run_raised}
use Rattle.run_laws.specs.Clocks.{taken_from}
use Rattle.run_laws.specs.Stacks.{event_by, frames_after, locks_after}
use Rattle.run_laws.specs.Window.{TraceEvent, Labelled, Traced, is_traced}
use Rattle.run_laws.specs.Present.{labels_now, label_now, clocks_now, trace_now}
use Rattle.run_laws.proofs.PresentLaw.{labels_now-push}
use Rattle.run_laws.proofs.LabelLaw.{label_parts}
use Rattle.trace_parts.specs.Held.{HeldTrace, Holds, pushed}
use Rattle.trace_parts.proofs.HoldLaws.{holds-push}
use Rattle.race_core.specs.Watched.{Watched, noted, labelled, unlabelled, with_clock, next_epoch, next_label, raised_to, raised}
use Rattle.race_core.specs.History.{era_now, IsClock, IsWatcherAt}
use Rattle.race_core.proofs.OwnLaws.{known_at}
use Rattle.race_core.proofs.FrameLaws.{era_same, frames_none, locks_none, frames_event, locks_event, nothing_more, trace_era, trace_attach, trace_quiet, trace_raised}
use Rattle.race_core.proofs.LabelSteps.{label_push, clock_push, label_quiet, label_end, clock_by, clock_quiet, Raises, raising, raised_one, raised_spent, raised_elsewhere, label_raised, label_spent}

abbrev trace_with : HeldTrace → Bool → Event → HeldTrace
trace_with trace b e = if b then pushed trace (Traced e) else trace

words_with : (trace : HeldTrace) (b : Bool) (e : Event) → (trace_with trace b e).part_words ≡ trace.part_words
words_with trace true e = refl
words_with trace false e = refl

parts_with : (trace : HeldTrace) (b : Bool) (e : Event) → (trace_with trace b e).parts ≡ trace.parts
parts_with trace true e = refl
parts_with trace false e = refl

holds_with : (trace : HeldTrace) (b : Bool) (e : Event) (events : List TraceEvent) → 1 ≤ trace.parts → Holds trace events → Holds (trace_with trace b e) (events ++ (if b then Traced e ∷ [] else []))
holds_with trace true e events one at = holds-push trace events (Traced e) one at
holds_with trace false e events one at = subst (Holds trace) (sym (nothing_more events)) at

does_no_era : (t : ℕ) (e : Event) (item : Item) → item ≡ Does t e → item ≡ NewEra → ⊥
does_no_era t e item is z = cc

module _ (limits : Limits) (h : List Moment) (m : Moment) (t : ℕ) (w : Watched) (at : IsWatcherAt limits h t w) where
  some_parts : 1 ≤ w.trace.parts
  some_parts = omega (arith, at.parts, at.in_range.least_parts)

  -- an event that neither raises the epoch nor ends the thread
  quiet_event :
      (e : Event) (clock : List ℕ) → m.item ≡ Does t e → raises e ≡ 0 → is_end e ≡ false → length clock ≡ limits.slots →
      (w.era ≡ era_now limits.epochs h → IsClock clock ((clocks_now limits.epochs (h ++ m ∷ [])).thread t)) →
      (w.era < era_now limits.epochs h → (r : ℕ) → (clocks_now limits.epochs (h ++ m ∷ [])).thread t r ≡ 0) →
      IsWatcherAt limits (h ++ m ∷ []) t (noted (with_clock w clock) e)
  quiet_event e clock is quiet goes_on long known unknown =
      let g = limits.epochs in
      let era = era_same g h m (does_no_era t e m.item is) in
      let same = label_push g h m t (Does t e) is ∙ label_quiet g (labels_now g h) t e quiet goes_on in
      record {
        in_range = at.in_range;
        tid = at.tid;
        greatest = at.greatest;
        slots = long;
        part_words = words_with w.trace (is_traced e) e ∙ at.part_words;
        parts = parts_with w.trace (is_traced e) e ∙ at.parts;
        frames = sym (frames_event h m t e is ∙ ap (λ (fs : List ℕ). frames_after fs e) (sym at.frames));
        locks = sym (locks_event h m t e is ∙ ap (λ (ls : List KeptLock). locks_after ls e) (sym at.locks));
        trace = subst (Holds (trace_with w.trace (is_traced e) e)) (sym (trace_quiet g h m t e is quiet)) (holds_with w.trace (is_traced e) e (trace_now g h t) some_parts at.trace);
        era = omega (arith, at.era, era);
        label = λ p. at.label (p ∙ era) ∙ sym same;
        clock = λ p. known (p ∙ era);
        no_label = λ l. same ∙ at.no_label (omega (arith, era));
        no_clock = λ l. unknown (omega (arith, era));
        slot = at.slot;
        epoch = at.epoch;
      }

  pub taking : (e : Event) (clock : List ℕ) → m.item ≡ Does t e → raises e ≡ 0 → is_end e ≡ false → w.era ≡ era_now limits.epochs h →
      length clock ≡ limits.slots → IsClock clock ((clocks_now limits.epochs (h ++ m ∷ [])).thread t) → IsWatcherAt limits (h ++ m ∷ []) t (noted (with_clock w clock) e)
  taking e clock is quiet goes_on present long known = quiet_event e clock is quiet goes_on long (λ p. known) (λ l. absurd (omega arith))

  pub still : (e : Event) → m.item ≡ Does t e → raises e ≡ 0 → is_end e ≡ false → taken_from t e ≡ None → IsWatcherAt limits (h ++ m ∷ []) t (noted w e)
  still e is quiet goes_on none =
      let g = limits.epochs in
      quiet_event e w.clock is quiet goes_on at.slots
      (λ p r. at.clock p r ∙ sym (clock_push g h m t r (Does t e) is ∙ clock_quiet g (labels_now g h) (clocks_now g h) t e r none quiet))
      (λ l r. clock_push g h m t r (Does t e) is ∙ clock_quiet g (labels_now g h) (clocks_now g h) t e r none quiet ∙ at.no_clock l r)

  -- the thread ends
  pub ends : m.item ≡ Does t End → IsWatcherAt limits (h ++ m ∷ []) t (unlabelled (noted w End))
  ends is =
      let g = limits.epochs in
      let era = era_same g h m (does_no_era t End m.item is) in
      let lost = label_push g h m t (Does t End) is ∙ label_end g (labels_now g h) t in
      let same : (r : ℕ) → (clocks_now g (h ++ m ∷ [])).thread t r ≡ (clocks_now g h).thread t r = λ r. clock_push g h m t r (Does t End) is ∙ clock_quiet g (labels_now g h) (clocks_now g h) t End r refl refl in
      record {
        in_range = at.in_range;
        tid = at.tid;
        greatest = at.greatest;
        slots = at.slots;
        part_words = at.part_words;
        parts = at.parts;
        frames = at.frames ∙ sym (frames_event h m t End is);
        locks = at.locks ∙ sym (locks_event h m t End is);
        trace = subst (Holds w.trace) (sym (trace_quiet g h m t End is refl ∙ nothing_more (trace_now g h t))) at.trace;
        era = omega (arith, at.era, era);
        label = λ p. sym lost;
        clock = λ p r. at.clock (p ∙ era) r ∙ sym (same r);
        no_label = λ l. lost;
        no_clock = λ l r. same r ∙ at.no_clock (omega (arith, era)) r;
        slot = λ l f. absurd (cc);
        epoch = λ l f. absurd (cc);
      }

  -- an era begins
  pub begins : m.item ≡ NewEra → IsWatcherAt limits (h ++ m ∷ []) t w
  begins is =
      let g = limits.epochs in
      let era : era_now g (h ++ m ∷ []) ≡ era_now g h + 1 = ap (λ (l : Labels). l.era) (labels_now-push g h m) ∙ ap (λ (i : Item). (next_labels g (labels_now g h) i).era) is in
      let before : w.era ≤ era_now g h = at.era in
      record {
        in_range = at.in_range;
        tid = at.tid;
        greatest = at.greatest;
        slots = at.slots;
        part_words = at.part_words;
        parts = at.parts;
        frames = at.frames ∙ sym (frames_none h m t (ap (event_by t) is));
        locks = at.locks ∙ sym (locks_none h m t (ap (event_by t) is));
        trace = subst (Holds w.trace) (sym (trace_era g h m t is)) at.trace;
        era = omega arith;
        label = λ p. absurd (omega arith);
        clock = λ p. absurd (omega arith);
        no_label = λ l. label_push g h m t NewEra is;
        no_clock = λ l r. clock_push g h m t r NewEra is;
        slot = at.slot;
        epoch = at.epoch;
      }

  -- the thread takes a slot
  pub attaches :
      (label : Label) (clock : List ℕ) → m.item ≡ Notes t (Attach label) → w.era ≡ era_now limits.epochs h → label_now limits.epochs (h ++ m ∷ []) t ≡ Some label →
      label.sid < limits.slots → 1 ≤ label.epoch → label.epoch ≤ limits.epochs → length clock ≡ limits.slots → IsClock clock ((clocks_now limits.epochs (h ++ m ∷ [])).thread t) →
      IsWatcherAt limits (h ++ m ∷ []) t (labelled (with_clock w clock) label)
  attaches label clock is present has within low high long known =
      let g = limits.epochs in
      let era = era_same g h m (λ z. let y = sym is ∙ z in absurd (cc)) in
      record {
        in_range = at.in_range;
        tid = at.tid;
        greatest = at.greatest;
        slots = long;
        part_words = at.part_words;
        parts = at.parts;
        frames = at.frames ∙ sym (frames_none h m t (ap (event_by t) is));
        locks = at.locks ∙ sym (locks_none h m t (ap (event_by t) is));
        trace = subst (Holds (pushed w.trace (Labelled label))) (sym (trace_attach g h m t label is)) (holds-push w.trace (trace_now g h t) (Labelled label) some_parts at.trace);
        era = omega (arith, at.era, era);
        label = λ p. sym has;
        clock = λ p. known;
        no_label = λ l. absurd (omega (arith, era));
        no_clock = λ l. absurd (omega (arith, era));
        slot = λ l f. let z : label ≡ l = cc in subst (λ (x : Label). x.sid < limits.slots) z within;
        epoch = λ l f. let z : label ≡ l = cc in subst (λ (x : Label). (1 ≤ x.epoch) × (x.epoch ≤ limits.epochs)) z (low, high);
      }

  module _ (e : Event) (label : Label) (is : m.item ≡ Does t e) (one : raises e ≡ 1) (present : w.era ≡ era_now limits.epochs h) (has : w.label ≡ Some label) where
    one_era : era_now limits.epochs (h ++ m ∷ []) ≡ era_now limits.epochs h
    one_era = era_same limits.epochs h m (does_no_era t e m.item is)

    kind : Raises t e
    kind = raising t e one

    own : ((labels_now limits.epochs h).slot_of t ≡ Some label.sid) × ((labels_now limits.epochs h).epoch label.sid ≡ label.epoch) × ((labels_now limits.epochs h).era ≡ label.era)
    own = label_parts limits.epochs (items h) (length h) t label (sym (at.label present) ∙ has)

    own_epoch : (clocks_now limits.epochs h).thread t label.sid ≡ label.epoch
    own_epoch = (known_at limits.epochs (items h) (length h)).own t label.sid own.0 ∙ own.1

    clock_after : (r : ℕ) → (clocks_now limits.epochs (h ++ m ∷ [])).thread t r ≡ (clocks_now limits.epochs h).thread t r + run_raised limits.epochs (labels_now limits.epochs h) t e r
    clock_after r = clock_push limits.epochs h m t r (Does t e) is ∙ clock_by limits.epochs (labels_now limits.epochs h) (clocks_now limits.epochs h) t e r kind.takes_none

    same_trace : (noted w e).trace ≡ w.trace
    same_trace = ap (λ (b : Bool). trace_with w.trace b e) kind.untraced

    -- the epoch rises
    pub rises : label.epoch < limits.epochs → IsWatcherAt limits (h ++ m ∷ []) t (raised (noted w e))
    rises below = subst (λ (o : Option Label). IsWatcherAt limits (h ++ m ∷ []) t (raised_to (noted w e) o)) (sym next) to
      where
        next : next_label w.greatest w.label ≡ Some (next_epoch label)
        next = ap₂ next_label at.greatest has ∙ ap (λ (b : Bool). if b then Some (next_epoch label) else None) (lt-ltb label.epoch limits.epochs below)

        low : (labels_now limits.epochs h).epoch label.sid < limits.epochs
        low = omega (arith, own.1)

        has_next : label_now limits.epochs (h ++ m ∷ []) t ≡ Some (next_epoch label)
        has_next =
            label_push limits.epochs h m t (Does t e) is
            ∙ label_raised limits.epochs (labels_now limits.epochs h) t e label.sid own.0 one kind.goes_on low (label.epoch + 1) label.era (ap (λ (n : ℕ). n + 1) (sym own.1)) (sym own.2)

        within : label.sid < length w.clock
        within = let s = at.slot label has in let n = at.slots in omega arith

        known : (r : ℕ) → (r ≡ label.sid) ⊎ (r ≡ label.sid → ⊥) → slice_index (set w.clock label.sid (label.epoch + 1)) r ≡ (clocks_now limits.epochs (h ++ m ∷ [])).thread t r
        known r (inl q) =
            let a = get_or-set_at w.clock label.sid r (label.epoch + 1) 0 q within in
            let b = ap (λ (x : ℕ). (clocks_now limits.epochs (h ++ m ∷ [])).thread t x) q in
            let d = clock_after label.sid in
            let f = raised_one limits.epochs (labels_now limits.epochs h) t e label.sid own.0 one low in
            let o = own_epoch in
            omega arith
        known r (inr d) =
            let a = get_or-set_other w.clock label.sid r (label.epoch + 1) 0 d in
            let b = at.clock present r in
            let c = clock_after r in
            let f = raised_elsewhere limits.epochs (labels_now limits.epochs h) t e label.sid r own.0 d in
            omega arith

        to : IsWatcherAt limits (h ++ m ∷ []) t (raised_to (noted w e) (Some (next_epoch label)))
        to =
            let g = limits.epochs in
            record {
              in_range = at.in_range;
              tid = at.tid;
              greatest = at.greatest;
              slots = length-set w.clock label.sid (label.epoch + 1) ∙ at.slots;
              part_words = words_with w.trace (is_traced e) e ∙ at.part_words;
              parts = parts_with w.trace (is_traced e) e ∙ at.parts;
              frames = sym (frames_event h m t e is ∙ ap (λ (fs : List ℕ). frames_after fs e) (sym at.frames));
              locks = sym (locks_event h m t e is ∙ ap (λ (ls : List KeptLock). locks_after ls e) (sym at.locks));
              trace =
                  subst (λ (x : HeldTrace). Holds (pushed x (Labelled (next_epoch label))) (trace_now g (h ++ m ∷ []) t)) (sym same_trace)
                  (subst (Holds (pushed w.trace (Labelled (next_epoch label)))) (sym (trace_raised g h m t e is one kind.untraced ∙ ap (λ (o : Option Label). trace_now g h t ++ option_to_list (option_map Labelled o)) has_next)) (holds-push w.trace (trace_now g h t) (Labelled (next_epoch label)) some_parts at.trace));
              era = omega (arith, at.era, one_era);
              label = λ p. sym has_next;
              clock = λ p r. known r (cases_eq r label.sid);
              no_label = λ l. absurd (omega (arith, one_era));
              no_clock = λ l. absurd (omega (arith, one_era));
              slot = λ l f. let z : next_epoch label ≡ l = cc in subst (λ (x : Label). x.sid < limits.slots) z (at.slot label has);
              epoch = λ l f. let z : next_epoch label ≡ l = cc in subst (λ (x : Label). (1 ≤ x.epoch) × (x.epoch ≤ limits.epochs)) z (omega arith, omega arith);
            }

    -- the greatest epoch is over
    pub spent : limits.epochs ≤ label.epoch → IsWatcherAt limits (h ++ m ∷ []) t (unlabelled (noted w e))
    spent over =
        let g = limits.epochs in
        record {
          in_range = at.in_range;
          tid = at.tid;
          greatest = at.greatest;
          slots = at.slots;
          part_words = words_with w.trace (is_traced e) e ∙ at.part_words;
          parts = parts_with w.trace (is_traced e) e ∙ at.parts;
          frames = sym (frames_event h m t e is ∙ ap (λ (fs : List ℕ). frames_after fs e) (sym at.frames));
          locks = sym (locks_event h m t e is ∙ ap (λ (ls : List KeptLock). locks_after ls e) (sym at.locks));
          trace =
              subst (λ (x : HeldTrace). Holds x (trace_now g (h ++ m ∷ []) t)) (sym same_trace)
              (subst (Holds w.trace) (sym (trace_raised g h m t e is one kind.untraced ∙ ap (λ (o : Option Label). trace_now g h t ++ option_to_list (option_map Labelled o)) lost ∙ nothing_more (trace_now g h t))) at.trace);
          era = omega (arith, at.era, one_era);
          label = λ p. sym lost;
          clock = λ p r. at.clock present r ∙ sym (same r (cases_eq r label.sid));
          no_label = λ l. lost;
          no_clock = λ l. absurd (omega (arith, one_era));
          slot = λ l f. absurd (cc);
          epoch = λ l f. absurd (cc);
        }
      where
        high : limits.epochs ≤ (labels_now limits.epochs h).epoch label.sid
        high = omega (arith, own.1)

        lost : label_now limits.epochs (h ++ m ∷ []) t ≡ None
        lost = label_push limits.epochs h m t (Does t e) is ∙ label_spent limits.epochs (labels_now limits.epochs h) t e label.sid own.0 one kind.goes_on high

        same : (r : ℕ) → (r ≡ label.sid) ⊎ (r ≡ label.sid → ⊥) → (clocks_now limits.epochs (h ++ m ∷ [])).thread t r ≡ (clocks_now limits.epochs h).thread t r
        same r (inl q) =
            let f = raised_spent limits.epochs (labels_now limits.epochs h) t e r (own.0 ∙ ap Some (sym q)) (subst (λ (x : ℕ). limits.epochs ≤ (labels_now limits.epochs h).epoch x) (sym q) high) in
            let c = clock_after r in
            omega arith
        same r (inr d) =
            let f = raised_elsewhere limits.epochs (labels_now limits.epochs h) t e label.sid r own.0 d in
            let c = clock_after r in
            omega arith
