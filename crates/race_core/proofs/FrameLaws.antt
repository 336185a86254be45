-- What a moment leaves as it was, and what it makes of a thread's stack, locks and trace.
use Rattle.std.proofs.Common.{◌≡◌, ◌<◌, ◌≤◌, ◌==◌, ℕ, suc, Bool, true, false, if◌then◌else◌, Option, Some, None, List, [], ◌∷◌, ◌++◌, length, refl, sym, ap, subst, ◌∙◌, arith, eq-eqb, ne_eqb, length-append}
use Rattle.std.specs.Prelude.{filter_map, fold, option_map, option_to_list}
use Rattle.std.specs.List.{cons_option}
use Rattle.std.proofs.Math.Seq.{get_or-append_seam}
use Rattle.run_record.specs.declared.event.Event.{Event}
use Rattle.run_record.specs.declared.entry.DeskNote.TheVariants.{Nothing, Attach, Leave}
use Rattle.run_record.specs.declared.entry.Label.{Label}
use Rattle.run_laws.specs.Moments.{Item, Does, Notes, NewEra, Past, Moment, items}
use Rattle.run_laws.specs.Labels.{Labels, label_of, next_labels, raises, can_attach, attach_labels}
use Rattle.run_laws.specs.Clocks.{Clocks, clocks, ChangesThread}
use Rattle.run_laws.specs.Stacks.{event_by, frames_after, locks_after}
use Rattle.run_laws.specs.Window.{TraceEvent, Labelled, Traced, is_traced, traced_by}
use Rattle.run_laws.specs.Present.{labels_now, label_now, clocks_now, trace_now, frames_now, locks_now}
use Rattle.run_laws.proofs.PresentLaw.{labels_now-push, trace_now-push, frames_now-push, locks_now-push, labels_stay, clocks_stay}
use Rattle.run_laws.proofs.FrameLaw.{label_frame, thread_frame}
use Rattle.race_core.specs.History.{era_now}

pub one_more : (h : List Moment) (m : Moment) → length (h ++ m ∷ []) ≡ suc (length h)
one_more h m = omega (arith, length-append h (m ∷ []))

-- what happens at the seam
pub seam : (h : List Moment) (m : Moment) → items (h ++ m ∷ []) (length h) ≡ m.item
seam h m = ap (λ (x : Moment). x.item) (get_or-append_seam h m [] (record { entry = 0; round = 0; item = Past; checks = [] }))

only_seam : (h : List Moment) (m : Moment) (t : ℕ) → (ChangesThread t m.item → ⊥) → (k : ℕ) → length h ≤ k → k < suc (length h) → ChangesThread t (items (h ++ m ∷ []) k) → ⊥
only_seam h m t d k low high c = let e : k ≡ length h = omega arith in d (subst (ChangesThread t) (ap (items (h ++ m ∷ [])) e ∙ seam h m) c)

label_at : (g : ℕ) (h : List Moment) (m : Moment) (t : ℕ) → label_of g (items (h ++ m ∷ [])) (length h) t ≡ label_now g h t
label_at g h m t = ap (λ (l : Labels). option_map (λ (s : ℕ). record { sid = s; epoch = l.epoch s; era = l.era }) (l.slot_of t)) (labels_stay g h (m ∷ []) (length h) (omega arith))

-- what leaves the thread's label and clock as they were
pub label_same : (g : ℕ) (h : List Moment) (m : Moment) (t : ℕ) → (ChangesThread t m.item → ⊥) → label_now g (h ++ m ∷ []) t ≡ label_now g h t
label_same g h m t d =
    ap (λ (n : ℕ). label_of g (items (h ++ m ∷ [])) n t) (one_more h m) ∙ label_frame g (items (h ++ m ∷ [])) (length h) (suc (length h)) t (omega arith) (only_seam h m t d) ∙ label_at g h m t

pub clock_same : (g : ℕ) (h : List Moment) (m : Moment) (t r : ℕ) → (ChangesThread t m.item → ⊥) → (clocks_now g (h ++ m ∷ [])).thread t r ≡ (clocks_now g h).thread t r
clock_same g h m t r d =
    ap (λ (n : ℕ). (clocks g (items (h ++ m ∷ [])) n).thread t r) (one_more h m) ∙ thread_frame g (items (h ++ m ∷ [])) (length h) (suc (length h)) t r (omega arith) (only_seam h m t d)
    ∙ ap (λ (k : Clocks). k.thread t r) (clocks_stay g h (m ∷ []) (length h) (omega arith))

-- an era begins at a NewEra alone
era_kept : (g : ℕ) (l : Labels) (item : Item) → (item ≡ NewEra → ⊥) → (next_labels g l item).era ≡ l.era
era_kept g l (Does t e) d = refl
era_kept g l (Notes t (Attach m)) d = go (can_attach l t m.sid)
  where
    go : (c : Bool) → (if c then attach_labels l t m.sid else l).era ≡ l.era
    go true = refl
    go false = refl
era_kept g l (Notes t Nothing) d = refl
era_kept g l (Notes t (Leave m)) d = refl
era_kept g l NewEra d = absurd (d refl)
era_kept g l Past d = refl

pub era_same : (g : ℕ) (h : List Moment) (m : Moment) → (m.item ≡ NewEra → ⊥) → era_now g (h ++ m ∷ []) ≡ era_now g h
era_same g h m d = ap (λ (l : Labels). l.era) (labels_now-push g h m) ∙ era_kept g (labels_now g h) m.item d

-- the events of another thread
no_event : (t : ℕ) (item : Item) → (ChangesThread t item → ⊥) → event_by t item ≡ None
no_event t (Does u e) d = rw (ne_eqb u t (λ z. d (sym z))) refl
no_event t (Notes u note) d = refl
no_event t NewEra d = refl
no_event t Past d = refl

events_of : ℕ → Moment → List Event
events_of t m = filter_map (λ (m : Moment). event_by t m.item) (m ∷ [])

abbrev events_if : Option Event → List Event
events_if o = cons_option o []

pub frames_none : (h : List Moment) (m : Moment) (t : ℕ) → event_by t m.item ≡ None → frames_now (h ++ m ∷ []) t ≡ frames_now h t
frames_none h m t e = frames_now-push h m t ∙ ap (λ (o : Option Event). fold frames_after (frames_now h t) (events_if o)) e

pub locks_none : (h : List Moment) (m : Moment) (t : ℕ) → event_by t m.item ≡ None → locks_now (h ++ m ∷ []) t ≡ locks_now h t
locks_none h m t e = locks_now-push h m t ∙ ap (λ (o : Option Event). fold locks_after (locks_now h t) (events_if o)) e

pub frames_event : (h : List Moment) (m : Moment) (t : ℕ) (e : Event) → m.item ≡ Does t e → frames_now (h ++ m ∷ []) t ≡ frames_after (frames_now h t) e
frames_event h m t e is =
    frames_now-push h m t ∙ ap (λ (o : Option Event). fold frames_after (frames_now h t) (events_if o)) (ap (event_by t) is ∙ own_event t e)
  where
    own_event : (t : ℕ) (e : Event) → event_by t (Does t e) ≡ Some e
    own_event t e = rw (eq-eqb t t refl) refl

pub locks_event : (h : List Moment) (m : Moment) (t : ℕ) (e : Event) → m.item ≡ Does t e → locks_now (h ++ m ∷ []) t ≡ locks_after (locks_now h t) e
locks_event h m t e is =
    locks_now-push h m t ∙ ap (λ (o : Option Event). fold locks_after (locks_now h t) (events_if o)) (ap (event_by t) is ∙ own_event t e)
  where
    own_event : (t : ℕ) (e : Event) → event_by t (Does t e) ≡ Some e
    own_event t e = rw (eq-eqb t t refl) refl

-- the trace
none_traced : (g : ℕ) (h : ℕ → Item) (n t : ℕ) (item : Item) → (ChangesThread t item → ⊥) → traced_by g h n t item ≡ []
none_traced g h n t (Does u e) d = rw (ne_eqb u t (λ z. d (sym z))) refl
none_traced g h n t (Notes u (Attach m)) d = rw (ne_eqb u t (λ z. d (sym z))) refl
none_traced g h n t (Notes u Nothing) d = refl
none_traced g h n t (Notes u (Leave m)) d = refl
none_traced g h n t NewEra d = refl
none_traced g h n t Past d = refl

pub nothing_more : (xs : List TraceEvent) → xs ++ [] ≡ xs
nothing_more [] = refl
nothing_more (x ∷ xs) = ap (λ (ys : List TraceEvent). x ∷ ys) (nothing_more xs)

pub trace_none : (g : ℕ) (h : List Moment) (m : Moment) (t : ℕ) → (ChangesThread t m.item → ⊥) → trace_now g (h ++ m ∷ []) t ≡ trace_now g h t
trace_none g h m t d =
    trace_now-push g h m t ∙ ap (λ (es : List TraceEvent). trace_now g h t ++ es) (none_traced g (items (h ++ m ∷ [])) (length h) t m.item d) ∙ nothing_more (trace_now g h t)

pub trace_era : (g : ℕ) (h : List Moment) (m : Moment) (t : ℕ) → m.item ≡ NewEra → trace_now g (h ++ m ∷ []) t ≡ trace_now g h t
trace_era g h m t is =
    trace_now-push g h m t ∙ ap (λ (item : Item). trace_now g h t ++ traced_by g (items (h ++ m ∷ [])) (length h) t item) is ∙ nothing_more (trace_now g h t)

pub trace_attach : (g : ℕ) (h : List Moment) (m : Moment) (t : ℕ) (l : Label) → m.item ≡ Notes t (Attach l) → trace_now g (h ++ m ∷ []) t ≡ trace_now g h t ++ Labelled l ∷ []
trace_attach g h m t l is =
    trace_now-push g h m t ∙ ap (λ (item : Item). trace_now g h t ++ traced_by g (items (h ++ m ∷ [])) (length h) t item) is
    ∙ ap (λ (b : Bool). trace_now g h t ++ (if b then Labelled l ∷ [] else [])) (eq-eqb t t refl)

-- what an event adds to the trace: itself, and then the label, if its epoch rose
pub trace_event : (g : ℕ) (h : List Moment) (m : Moment) (t : ℕ) (e : Event) → m.item ≡ Does t e →
    trace_now g (h ++ m ∷ []) t ≡ trace_now g h t ++ ((if is_traced e then Traced e ∷ [] else []) ++ (if raises e == 1 then option_to_list (option_map Labelled (label_now g (h ++ m ∷ []) t)) else []))
trace_event g h m t e is =
    trace_now-push g h m t ∙ ap (λ (item : Item). trace_now g h t ++ traced_by g (items (h ++ m ∷ [])) (length h) t item) is
    ∙ ap (λ (b : Bool). trace_now g h t ++ (if b then (if is_traced e then Traced e ∷ [] else []) ++ (if raises e == 1 then option_to_list (option_map Labelled (label_of g (items (h ++ m ∷ [])) (suc (length h)) t)) else []) else [])) (eq-eqb t t refl)
    ∙ ap (λ (n : ℕ). trace_now g h t ++ ((if is_traced e then Traced e ∷ [] else []) ++ (if raises e == 1 then option_to_list (option_map Labelled (label_of g (items (h ++ m ∷ [])) n t)) else []))) (sym (one_more h m))

pub trace_quiet : (g : ℕ) (h : List Moment) (m : Moment) (t : ℕ) (e : Event) → m.item ≡ Does t e → raises e ≡ 0 →
    trace_now g (h ++ m ∷ []) t ≡ trace_now g h t ++ (if is_traced e then Traced e ∷ [] else [])
trace_quiet g h m t e is quiet =
    trace_event g h m t e is
    ∙ ap (λ (n : ℕ). trace_now g h t ++ ((if is_traced e then Traced e ∷ [] else []) ++ (if n == 1 then option_to_list (option_map Labelled (label_now g (h ++ m ∷ []) t)) else []))) quiet
    ∙ ap (λ (es : List TraceEvent). trace_now g h t ++ es) (nothing_more (if is_traced e then Traced e ∷ [] else []))

pub trace_raised : (g : ℕ) (h : List Moment) (m : Moment) (t : ℕ) (e : Event) → m.item ≡ Does t e → raises e ≡ 1 → is_traced e ≡ false →
    trace_now g (h ++ m ∷ []) t ≡ trace_now g h t ++ option_to_list (option_map Labelled (label_now g (h ++ m ∷ []) t))
trace_raised g h m t e is one untraced =
    trace_event g h m t e is
    ∙ ap (λ (n : ℕ). trace_now g h t ++ ((if is_traced e then Traced e ∷ [] else []) ++ (if n == 1 then option_to_list (option_map Labelled (label_now g (h ++ m ∷ []) t)) else []))) one
    ∙ ap (λ (b : Bool). trace_now g h t ++ ((if b then Traced e ∷ [] else []) ++ option_to_list (option_map Labelled (label_now g (h ++ m ∷ []) t)))) untraced
