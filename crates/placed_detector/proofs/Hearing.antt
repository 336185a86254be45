-- All events of an instruction, one after another: all that is kept stands after them, and their moments are right.
use Rattle.std.proofs.Common.{◌≡◌, ℕ, suc, ◌+◌, ◌≤◌, Option, Some, None, List, [], ◌∷◌, ◌++◌, length, append_assoc, append-nil, refl, ap, sym, subst, ◌∙◌, arith}
use Rattle.std.specs.Prelude.{option_map, ◌%◌}
use Rattle.std.specs.List.{AllZip}
use Rattle.std.proofs.Math.Seq.{get_or-append_seam}
use Rattle.run_record.specs.declared.event.Event.{Event}
use Rattle.run_record.specs.declared.entry.Check.{Check}
use Rattle.run_record.specs.declared.entry.Label.{Label}
use Rattle.run_record.specs.declared.limits.Limits.{Limits}
use Rattle.elf_image.specs.File.{granule_of}
use Rattle.run_laws.specs.Moments.{Does, Past, Moment, moment_at, items}
use Rattle.run_laws.specs.Accesses.{Access, Part, parts_of, access_of}
use Rattle.run_laws.specs.Labels.{Labels, label_of, next_labels}
use Rattle.run_laws.specs.Checks.{AreChecks, StoresRightly}
use Rattle.run_laws.specs.Checks as checks_of
use Rattle.run_laws.specs.Window.{TraceEvent, trace_before}
use Rattle.run_laws.specs.Present.{labels_now, label_now}
use Rattle.run_laws.proofs.PresentLaw.{labels_now-push, labels_stay, trace_stay}
use Rattle.turn_orders.specs.Lists.{Each}
use Rattle.place_clocks.specs.Holds.{label_in}
use Rattle.place_clocks.specs.Turns.{label_after}
use Rattle.place_clocks.proofs.Owned.{own_label}
use Rattle.watched_turns.specs.Checking.{Loads}
use Rattle.watched_turns.specs.Turns.{IsLabelled, AreLabelled}
use Rattle.watched_turns.specs.Right.{AreLoaded, AreEvents}
use Rattle.race_core.specs.Watched.{Watched}
use Rattle.thread_events.specs.Standing.{Kept}
use Rattle.placed_detector.specs.Instructions.{Beside, ChecksPart, ChecksAccess, HearsEvents, AreHeard}
use Rattle.placed_detector.proofs.Fitting.{Elsewhere, Stood, one_heard}

pub elsewhere_twice : (k t : ℕ) (x y z : Kept) → Elsewhere k t x y → Elsewhere k t y z → Elsewhere k t x z
elsewhere_twice k t x y z a b = record {
  watchers = λ u ne. b.watchers u ne ∙ a.watchers u ne;
  objects = λ j ne. b.objects j ne ∙ a.objects j ne;
  desk_stays = λ ne. b.desk_stays ne ∙ a.desk_stays ne;
}

-- ---- the moment of one event

module _ (file : List ℕ) (limits : Limits) (k t : ℕ) (given : ℕ → Option (Option (List ℕ))) (h : List Moment) (m : Moment) (ms : List Moment) (x : Kept)
    (b : Beside) (s : Stood limits k t given h x b) where
  abbrev g : ℕ
  g = limits.epochs

  abbrev n : ℕ
  n = length h

  abbrev whole : List Moment
  whole = h ++ m ∷ ms

  le : length h ≤ length h
  le = omega arith

  pub at_seam : moment_at whole n ≡ m
  at_seam = get_or-append_seam h m ms (record { entry = 0; round = 0; item = Past; checks = [] })

  label_here : b.watched.label ≡ label_now g h t
  label_here = sym (ap (λ (w : Watched). w.label) s.fits.watched) ∙ (s.stands.watchers t).label (ap (λ (w : Watched). w.era) s.fits.watched ∙ s.era)

  label_then : label_of g (items whole) n t ≡ b.watched.label
  label_then =
      ap (λ (l : Labels). option_map {U = Label} (λ (r : ℕ). record { sid = r; epoch = l.epoch r; era = l.era }) (l.slot_of t))
      (labels_stay g h (m ∷ ms) n le)
      ∙ sym label_here

  count_then : b.watched.trace.count % 4 ≡ length (trace_before g (items whole) n t) % 4
  count_then =
      ap (λ (w : Watched). w.trace.count % 4) (sym s.fits.watched)
      ∙ ap (λ (c : ℕ). c % 4) ((s.stands.watchers t).trace.counted ∙ ap (λ (xs : List TraceEvent). length xs) (sym (trace_stay g h (m ∷ ms) n t le)))

  parts_checked : (l : Label) (a : Access) → b.watched.label ≡ Some l → (parts : List Part) (cs : List Check) → AllZip (ChecksPart b.watched l a) parts cs →
      AllZip (checks_of.ChecksPart g whole n t a) parts cs
  parts_checked l a is [] [] z = tt
  parts_checked l a is [] (c ∷ rest) z = absurd z
  parts_checked l a is (p ∷ parts) [] z = absurd z
  parts_checked l a is (p ∷ parts) (c ∷ rest) z = (
    record { label = l; labelled = label_then ∙ is; granule = z.0.granule; word = z.0.word; turn = z.0.turn ∙ count_then; four = z.0.four },
    parts_checked l a is parts rest z.1,
  )

  pub access_checked : (o : Option Access) → ChecksAccess file b.watched o m.checks → AreChecks g (granule_of file) whole n t o
  access_checked None z = ap (λ (y : Moment). y.checks) at_seam ∙ z
  access_checked (Some a) z = subst (λ (y : Moment). AllZip (checks_of.ChecksPart g whole n t a) (parts_of (granule_of file) a) y.checks) (sym at_seam)
      (parts_checked z.0 a z.1 (parts_of (granule_of file) a) m.checks z.2)

  pub access_labelled : (o : Option Access) → ChecksAccess file b.watched o m.checks → IsLabelled (label_now g h t) o
  access_labelled None z = go (label_now g h t)
    where
      go : (l : Option Label) → IsLabelled l None
      go None = tt
      go (Some l) = tt
  access_labelled (Some a) z = subst (λ (l : Option Label). IsLabelled l (Some a)) (sym (sym label_here ∙ z.1)) tt

-- ---- all of them

pub record HeardAll (file : List ℕ) (limits : Limits) (k t : ℕ) (given : ℕ → Option (Option (List ℕ))) (loads : Loads) (i : ℕ) (h : List Moment)
    (ms : List Moment) (x : Kept) (es : List Event) (c : Beside) : Type 0 where
  pub then : Kept
  pub stood : Stood limits k t given (h ++ ms) then c
  pub elsewhere : Elsewhere k t x then
  pub right : AreEvents file limits.epochs (h ++ ms) t loads (length h) i es
  pub labelled : AreLabelled limits.epochs (label_now limits.epochs h t) es

module _ (file : List ℕ) (limits : Limits) (k t : ℕ) (given : ℕ → Option (Option (List ℕ))) (loads : Loads) where
  pub all_heard : (i : ℕ) (es : List Event) (css : List (List Check)) (ms : List Moment) (h : List Moment) (x : Kept) (b c : Beside) →
      Stood limits k t given h x b → HearsEvents file k t loads i es css b c → AreHeard t ms es css → HeardAll file limits k t given loads i h ms x es c
  all_heard i [] [] [] h x b c s hears are = record {
    then = x;
    stood = subst (λ (y : List Moment). Stood limits k t given y x c) (sym (append-nil h)) (subst (Stood limits k t given h x) hears s);
    elsewhere = record { watchers = λ u ne. refl; objects = λ j ne. refl; desk_stays = λ ne. refl };
    right = tt;
    labelled = tt;
  }
  all_heard i (e ∷ es) (cs ∷ css) (m ∷ ms) h x b c s hears are =
      let made : m.item ≡ Does t e = are.0.item in
      let mine : ChecksAccess file b.watched (access_of e) m.checks = subst (ChecksAccess file b.watched (access_of e)) (sym are.0.checks_are) hears.2 in
      let one = one_heard limits k t given h m x b hears.0 s e made hears.1 in
      let rest = all_heard (i + 1) es css ms (h ++ m ∷ []) one.then hears.0 c one.stood hears.5 are.1 in
      let whole : (h ++ m ∷ []) ++ ms ≡ h ++ m ∷ ms = append_assoc h (m ∷ []) ms in
      let long : length (h ++ m ∷ []) ≡ suc (length h) = Rattle.thread_events.proofs.Longer.length-push h m in
      let seam = at_seam file limits k t given h m ms x b s in
      let after : label_after limits.epochs (label_now limits.epochs h t) e ≡ label_now limits.epochs (h ++ m ∷ []) t =
      own_label limits.epochs (labels_now limits.epochs h) t e ∙ ap (λ (l : Labels). label_in l t)
      (sym (labels_now-push limits.epochs h m ∙ ap (next_labels limits.epochs (labels_now limits.epochs h)) made)) in
      record {
        then = rest.then;
        stood = subst (λ (y : List Moment). Stood limits k t given y rest.then c) whole rest.stood;
        elsewhere = elsewhere_twice k t x one.then rest.then one.elsewhere rest.elsewhere;
        right = (
          ap (λ (y : Moment). y.item) seam ∙ made,
          access_checked file limits k t given h m ms x b s (access_of e) mine,
          subst (λ (y : Moment). Each StoresRightly y.checks) (sym seam) (subst (Each StoresRightly) (sym are.0.checks_are) hears.3),
          subst (λ (y : Moment). AreLoaded (loads i) 0 y.checks) (sym seam) (subst (AreLoaded (loads i) 0) (sym are.0.checks_are) hears.4),
          subst (λ (y : List Moment). AreEvents file limits.epochs y t loads (suc (length h)) (i + 1) es) whole
              (subst (λ (j : ℕ). AreEvents file limits.epochs ((h ++ m ∷ []) ++ ms) t loads j (i + 1) es) long rest.right),
        );
        labelled = (
          access_labelled file limits k t given h m ms x b s (access_of e) mine,
          subst (λ (l : Option Label). AreLabelled limits.epochs l es) (sym after) rest.labelled,
        );
      }
  all_heard i [] [] (m ∷ ms) h x b c s hears are = absurd are
  all_heard i [] (cs ∷ css) ms h x b c s hears are = absurd hears
  all_heard i (e ∷ es) [] ms h x b c s hears are = absurd hears
  all_heard i (e ∷ es) (cs ∷ css) [] h x b c s hears are = absurd are
