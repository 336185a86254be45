-- What stands after moments depends on their items and checks alone.
use Rattle.std.proofs.Common.{◌≡◌, ℕ, zero, suc, ◌+◌, ◌-◌, ◌<◌, ◌≤◌, List, [], ◌∷◌, ◌++◌, append_assoc, length, refl, sym, ap, ap₂, ◌∙◌, arith}
use Rattle.std.specs.Prelude.{fold, flat_map, filter_map, replicate}
use Rattle.std.specs.List.{cons_option}
use Rattle.std.proofs.Math.Seq.{take-length}
use Rattle.std.proofs.lemmas.List.{replicate_more}
use Rattle.run_record.specs.declared.entry.DeskNote.TheVariants.{Nothing, Attach, Leave}
use Rattle.run_record.specs.declared.entry.Check.{Check}
use Rattle.run_record.specs.declared.event.Event.{Event}
use Rattle.run_record.specs.declared.entry.Entry.{Entry}
use Rattle.run_laws.specs.Moments.{Item, Does, Notes, NewEra, Past, Moment, items, moments, moments_in, last_era, era_moments}
use Rattle.run_laws.specs.Labels.{labels}
use Rattle.run_laws.specs.Clocks.{clocks}
use Rattle.run_laws.specs.Labels.{queue}
use Rattle.run_laws.specs.Window.{TraceEvent, traced_by, trace_before}
use Rattle.run_laws.specs.Stacks.{event_by, frames_after, locks_after}
use Rattle.run_laws.specs.Loads.{cell_after}
use Rattle.run_laws.specs.Present.{labels_now, queue_now, clocks_now, trace_now, frames_now, locks_now, cell_now}
use Rattle.run_laws.proofs.PresentLaw.{labels_agree, clocks_agree, queue_agree}
use Rattle.turn_laws.specs.Going.{AreAlike, era_moment}

same_length : (h k : List Moment) → AreAlike h k → length h ≡ length k
same_length [] [] a = refl
same_length [] (y ∷ ys) a = absurd a
same_length (x ∷ xs) [] a = absurd a
same_length (x ∷ xs) (y ∷ ys) a = ap suc (same_length xs ys a.1)

same_items : (h k : List Moment) (i : ℕ) → AreAlike h k → items h i ≡ items k i
same_items [] [] i a = refl
same_items [] (y ∷ ys) i a = absurd a
same_items (x ∷ xs) [] i a = absurd a
same_items (x ∷ xs) (y ∷ ys) zero a = a.0.0
same_items (x ∷ xs) (y ∷ ys) (suc i) a = same_items xs ys i a.1

pub labels-alike : (g : ℕ) (h k : List Moment) → AreAlike h k → labels_now g h ≡ labels_now g k
labels-alike g h k a = labels_agree g (items h) (items k) (length h) (λ i l. same_items h k i a) ∙ ap (labels g (items k)) (same_length h k a)

pub clocks-alike : (g : ℕ) (h k : List Moment) → AreAlike h k → clocks_now g h ≡ clocks_now g k
clocks-alike g h k a = clocks_agree g (items h) (items k) (length h) (λ i l. same_items h k i a) ∙ ap (clocks g (items k)) (same_length h k a)

pub queue-alike : (g slots : ℕ) (h k : List Moment) → AreAlike h k → queue_now g slots h ≡ queue_now g slots k
queue-alike g slots h k a = queue_agree g slots (items h) (items k) (length h) (λ i l. same_items h k i a) ∙ ap (queue g slots (items k)) (same_length h k a)

trace_agree : (g : ℕ) (h k : ℕ → Item) (n t : ℕ) → ((i : ℕ) → i < n → h i ≡ k i) → trace_before g h n t ≡ trace_before g k n t
trace_agree g h k zero t e = refl
trace_agree g h k (suc n) t e =
    let l : labels g h (suc n) ≡ labels g k (suc n) = labels_agree g h k (suc n) e in
    let r = trace_agree g h k n t (λ i l. e i (omega arith)) in
    ap₂ (λ (xs ys : List TraceEvent). xs ++ ys) r (traced_agree g h k n t (h n) l ∙ ap (traced_by g k n t) (e n (omega arith)))
  where
    traced_agree : (g : ℕ) (h k : ℕ → Item) (n t : ℕ) (it : Item) → labels g h (suc n) ≡ labels g k (suc n) → traced_by g h n t it ≡ traced_by g k n t it
    traced_agree g h k n t (Does u e) l = rw l refl
    traced_agree g h k n t (Notes u Nothing) l = refl
    traced_agree g h k n t (Notes u (Attach a)) l = refl
    traced_agree g h k n t (Notes u (Leave a)) l = refl
    traced_agree g h k n t NewEra l = refl
    traced_agree g h k n t Past l = refl

pub trace-alike : (g : ℕ) (h k : List Moment) (t : ℕ) → AreAlike h k → trace_now g h t ≡ trace_now g k t
trace-alike g h k t a = trace_agree g (items h) (items k) (length h) t (λ i l. same_items h k i a) ∙ ap (λ n. trace_before g (items k) n t) (same_length h k a)

same_events : (t : ℕ) (h k : List Moment) → AreAlike h k → filter_map (λ (m : Moment). event_by t m.item) h ≡ filter_map (λ (m : Moment). event_by t m.item) k
same_events t [] [] a = refl
same_events t [] (y ∷ ys) a = absurd a
same_events t (x ∷ xs) [] a = absurd a
same_events t (x ∷ xs) (y ∷ ys) a = ap₂ (λ (it : Item) (es : List Event). cons_option (event_by t it) es) a.0.0 (same_events t xs ys a.1)

same_checks : (h k : List Moment) → AreAlike h k → flat_map (λ (m : Moment). m.checks) h ≡ flat_map (λ (m : Moment). m.checks) k
same_checks [] [] a = refl
same_checks [] (y ∷ ys) a = absurd a
same_checks (x ∷ xs) [] a = absurd a
same_checks (x ∷ xs) (y ∷ ys) a = ap₂ (λ (cs ds : List Check). cs ++ ds) a.0.1 (same_checks xs ys a.1)

pub frames-alike : (h k : List Moment) (t : ℕ) → AreAlike h k → frames_now h t ≡ frames_now k t
frames-alike h k t a = rw (take-length h, take-length k) (ap (fold frames_after []) (same_events t h k a))

pub locks-alike : (h k : List Moment) (t : ℕ) → AreAlike h k → locks_now h t ≡ locks_now k t
locks-alike h k t a = rw (take-length h, take-length k) (ap (fold locks_after []) (same_events t h k a))

pub cell-alike : (h k : List Moment) (granule cell : ℕ) → AreAlike h k → cell_now h granule cell ≡ cell_now k granule cell
cell-alike h k granule cell a = rw (take-length h, take-length k) (ap (fold (cell_after granule cell) 0) (same_checks h k a))

alike-append : (h x y : List Moment) → AreAlike x y → AreAlike (h ++ x) (h ++ y)
alike-append [] x y a = a
alike-append (m ∷ h) x y a = ((refl, refl), alike-append h x y a)

alike_news : (n i round other : ℕ) → AreAlike (replicate n (record { entry = i; round = round; item = NewEra; checks = [] })) (replicate n (record { entry = i; round = other; item = NewEra; checks = [] }))
alike_news zero i round other = tt
alike_news (suc n) i round other = ((refl, refl), alike_news n i round other)

pub alike-rounds : (round other era : ℕ) (entries : List Entry) → AreAlike (moments_in round era entries) (moments_in other era entries)
alike-rounds round other era entries =
    alike-append (moments entries) (era_moments (last_era entries) (length entries) round era) (era_moments (last_era entries) (length entries) other era)
    (alike_news (era - last_era entries) (length entries) round other)

pub one_more_era : (round era : ℕ) (entries : List Entry) → last_era entries ≤ era → moments_in round (era + 1) entries ≡ moments_in round era entries ++ era_moment (length entries) round ∷ []
one_more_era round era entries l =
    let z : era + 1 - last_era entries ≡ era - last_era entries + 1 = omega arith in
    ap (λ n. moments entries ++ replicate n (era_moment (length entries) round)) z
    ∙ (ap (λ (ms : List Moment). moments entries ++ ms) (sym (replicate_more (era - last_era entries) (era_moment (length entries) round)))
    ∙ sym (append_assoc (moments entries) (era_moments (last_era entries) (length entries) round era) (era_moment (length entries) round ∷ [])))
