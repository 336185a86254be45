-- What stands before a position in a thread's trace: its stack, its locks and, where it has one, its label.
use Rattle.std.proofs.Common.{◌≡◌, ℕ, zero, suc, ◌+◌, ◌<◌, ◌≤◌, ◌==◌, ◌⊎◌, if◌then◌else◌, Option, Some, None, List, [], ◌∷◌, ◌++◌, length, take, refl, sym, ap, subst, inl, inr, ◌∙◌, arith, eq-eqb, ne_eqb}
use Rattle.std.specs.Prelude.{fold, filter_map, option_map, option_to_list}
use Rattle.std.proofs.lemmas.Bool.{cases_eq}
use Rattle.std.proofs.lemmas.List.Sums.{fold-append}
use Rattle.std.proofs.lemmas.List.Elements.{filter_map-append}
use Rattle.std.proofs.Math.Seq.{take-suc}
use Rattle.run_record.specs.declared.event.Event.{Event}
use Rattle.run_record.specs.declared.event.Event.TheVariants.{Create, Release, Access, Enter, Leave, Lock, Unlock}
use Rattle.run_record.specs.declared.entry.DeskNote.TheVariants as notes
use Rattle.run_record.specs.declared.entry.Label.{Label}
use Rattle.run_laws.specs.Moments.{Item, Does, Notes, NewEra, Past, Moment, moment_at, items}
use Rattle.run_laws.specs.Labels.{Labels, raises, new_era, next_labels, labels, label_of}
use Rattle.run_laws.specs.Clocks.{ChangesThread}
use Rattle.run_laws.specs.Stacks.{event_by, events_before, frames_after, frames, locks_after, kept_locks}
use Rattle.run_laws.specs.Window.{TraceEvent, Labelled, Traced, is_traced, traced_by, trace_before}
use Rattle.run_laws.proofs.FrameLaw.{label_frame}
use Rattle.run_laws.proofs.SlotInvariant.{labels-next}
use Rattle.trace_parts.specs.Snapshot.{Snapshot, nothing_yet, snapshot_after, after_all}
use Rattle.report_laws.proofs.TakenLabels.{Takes, label_kept}

-- an event's trace events, where the label after it is given
abbrev pub traced_own : Event → Option Label → List TraceEvent
traced_own e label = (if is_traced e then Traced e ∷ [] else []) ++ (if raises e == 1 then option_to_list (option_map Labelled label) else [])

-- they change stack and locks as the event does
own_frames : (s : Snapshot) (e : Event) (o : Option Label) → (after_all s (traced_own e o)).frames ≡ frames_after s.frames e
own_frames s (Create c) None = refl
own_frames s (Create c) (Some l) = refl
own_frames s (Release a p r) None = refl
own_frames s (Release a p r) (Some l) = refl
own_frames s (Access p a z r m) o = refl
own_frames s (Enter f) o = refl
own_frames s Leave o = refl
own_frames s (Lock a r) o = refl
own_frames s (Unlock a r) o = refl
own_frames s _ o = refl

own_locks : (s : Snapshot) (e : Event) (o : Option Label) → (after_all s (traced_own e o)).locks ≡ locks_after s.locks e
own_locks s (Create c) None = refl
own_locks s (Create c) (Some l) = refl
own_locks s (Release a p r) None = refl
own_locks s (Release a p r) (Some l) = refl
own_locks s (Access p a z r m) o = refl
own_locks s (Enter f) o = refl
own_locks s Leave o = refl
own_locks s (Lock a r) o = refl
own_locks s (Unlock a r) o = refl
own_locks s _ o = refl

-- and the label is the one that was raised to, or the one before
own_label : (s : Snapshot) (e : Event) (o : Option Label) → ((raises e ≡ 1) × ((l : Label) → o ≡ Some l → (after_all s (traced_own e o)).label ≡ Some l)) ⊎ ((raises e ≡ 0) × ((after_all s (traced_own e o)).label ≡ s.label))
own_label s (Create c) None = inl (refl, λ l q. absurd (cc))
own_label s (Create c) (Some m) = inl (refl, λ l q. q)
own_label s (Release a p r) None = inl (refl, λ l q. absurd (cc))
own_label s (Release a p r) (Some m) = inl (refl, λ l q. q)
own_label s (Access p a z r m) o = inr (refl, refl)
own_label s (Enter f) o = inr (refl, refl)
own_label s Leave o = inr (refl, refl)
own_label s (Lock a r) o = inr (refl, refl)
own_label s (Unlock a r) o = inr (refl, refl)
own_label s _ o = inr (refl, refl)

abbrev pub standing : ℕ → List Moment → ℕ → ℕ → Snapshot
standing g h n u = after_all nothing_yet (trace_before g (items h) n u)

-- Before position n stand the thread's stack and locks, and its label where it has one.
pub record Stands (g : ℕ) (h : List Moment) (n u : ℕ) : Type 0 where
  pub frames : (standing g h n u).frames ≡ frames h n u
  pub locks : (standing g h n u).locks ≡ kept_locks h n u
  pub label : (l : Label) → label_of g (items h) n u ≡ Some l → (standing g h n u).label ≡ Some l

pub standing-suc : (g : ℕ) (h : List Moment) (n u : ℕ) → standing g h (suc n) u ≡ after_all (standing g h n u) (traced_by g (items h) n u (items h n))
standing-suc g h n u = fold-append snapshot_after nothing_yet (trace_before g (items h) n u) (traced_by g (items h) n u (items h n))

past : Moment
past = record { entry = 0; round = 0; item = Past; checks = [] }

one_event : (t : ℕ) (m : Moment) → filter_map (λ (m : Moment). event_by t m.item) (m ∷ []) ≡ option_to_list (event_by t m.item)
one_event t m = go (event_by t m.item)
  where
    go : (o : Option Event) → Rattle.std.specs.List.cons_option o [] ≡ option_to_list o
    go None = refl
    go (Some e) = refl

events-suc : (h : List Moment) (n u : ℕ) → n < length h → events_before h (suc n) u ≡ events_before h n u ++ option_to_list (event_by u (items h n))
unfolding past
events-suc h n u l =
    ap (filter_map (λ (m : Moment). event_by u m.item)) (take-suc h n past l)
    ∙ (filter_map-append (λ (m : Moment). event_by u m.item) (take n h) (moment_at h n ∷ [])
    ∙ ap (λ (es : List Event). events_before h n u ++ es) (one_event u (moment_at h n)))

frames-suc : (h : List Moment) (n u : ℕ) → n < length h → frames h (suc n) u ≡ fold frames_after (frames h n u) (option_to_list (event_by u (items h n)))
frames-suc h n u l = ap (fold frames_after []) (events-suc h n u l) ∙ fold-append frames_after [] (events_before h n u) (option_to_list (event_by u (items h n)))

locks-suc : (h : List Moment) (n u : ℕ) → n < length h → kept_locks h (suc n) u ≡ fold locks_after (kept_locks h n u) (option_to_list (event_by u (items h n)))
locks-suc h n u l = ap (fold locks_after []) (events-suc h n u l) ∙ fold-append locks_after [] (events_before h n u) (option_to_list (event_by u (items h n)))

-- one item more
module _ (g : ℕ) (h : List Moment) (u : ℕ) (attached : (n : ℕ) (l : Label) → items h n ≡ Notes u (notes.Attach l) → Takes g (items h) n u l) where
  -- an item of another thread, or none
  still : (n : ℕ) → n < length h → (it : Item) → items h n ≡ it → (ChangesThread u it → ⊥) → traced_by g (items h) n u it ≡ [] → event_by u it ≡ None → Stands g h n u → Stands g h (suc n) u
  still n l it is other none nothing s =
      let next : standing g h (suc n) u ≡ standing g h n u = standing-suc g h n u ∙ ap (λ (x : Item). after_all (standing g h n u) (traced_by g (items h) n u x)) is ∙ ap (after_all (standing g h n u)) none in
      let event : event_by u (items h n) ≡ None = ap (event_by u) is ∙ nothing in
      let label : label_of g (items h) (suc n) u ≡ label_of g (items h) n u = label_frame g (items h) n (suc n) u (omega arith) (λ k a b c. other (subst (ChangesThread u) is (subst (λ x. ChangesThread u (items h x)) (same k n a b) c))) in
      record {
        frames = ap (λ (x : Snapshot). x.frames) next ∙ s.frames ∙ sym (frames-suc h n u l ∙ ap (λ (o : Option Event). fold frames_after (frames h n u) (option_to_list o)) event);
        locks = ap (λ (x : Snapshot). x.locks) next ∙ s.locks ∙ sym (locks-suc h n u l ∙ ap (λ (o : Option Event). fold locks_after (kept_locks h n u) (option_to_list o)) event);
        label = λ m e. ap (λ (x : Snapshot). x.label) next ∙ s.label m (sym label ∙ e);
      }
    where
      same : (k n : ℕ) → n ≤ k → k < suc n → k ≡ n
      same k n a b = omega arith

  own : (n : ℕ) → n < length h → (e : Event) → items h n ≡ Does u e → Stands g h n u → Stands g h (suc n) u
  own n l e is s =
      let now : standing g h (suc n) u ≡ after_all (standing g h n u) (traced_own e (label_of g (items h) (suc n) u)) = standing-suc g h n u ∙ ap (λ (x : Item). after_all (standing g h n u) (traced_by g (items h) n u x)) is ∙ rw (eq-eqb u u refl) refl in
      let event : event_by u (items h n) ≡ Some e = ap (event_by u) is ∙ rw (eq-eqb u u refl) refl in
      record {
        frames = ap (λ (x : Snapshot). x.frames) now ∙ own_frames (standing g h n u) e (label_of g (items h) (suc n) u) ∙ ap (λ fs. frames_after fs e) s.frames ∙ sym (frames-suc h n u l ∙ ap (λ (o : Option Event). fold frames_after (frames h n u) (option_to_list o)) event);
        locks = ap (λ (x : Snapshot). x.locks) now ∙ own_locks (standing g h n u) e (label_of g (items h) (suc n) u) ∙ ap (λ ks. locks_after ks e) s.locks ∙ sym (locks-suc h n u l ∙ ap (λ (o : Option Event). fold locks_after (kept_locks h n u) (option_to_list o)) event);
        label = λ m q. ap (λ (x : Snapshot). x.label) now ∙ elim (own_label (standing g h n u) e (label_of g (items h) (suc n) u)) [
          | inl w ↦ w.1 m q
          | inr w ↦ w.1 ∙ s.label m (label_kept g (items h) n u e is m w.0 q)
        ];
      }

  own_attach : (n : ℕ) → n < length h → (m : Label) → items h n ≡ Notes u (notes.Attach m) → Stands g h n u → Stands g h (suc n) u
  own_attach n l m is s =
      let now : standing g h (suc n) u ≡ snapshot_after (standing g h n u) (Labelled m) = standing-suc g h n u ∙ ap (λ (x : Item). after_all (standing g h n u) (traced_by g (items h) n u x)) is ∙ rw (eq-eqb u u refl) refl in
      let event : event_by u (items h n) ≡ None = ap (event_by u) is in
      record {
        frames = ap (λ (x : Snapshot). x.frames) now ∙ s.frames ∙ sym (frames-suc h n u l ∙ ap (λ (o : Option Event). fold frames_after (frames h n u) (option_to_list o)) event);
        locks = ap (λ (x : Snapshot). x.locks) now ∙ s.locks ∙ sym (locks-suc h n u l ∙ ap (λ (o : Option Event). fold locks_after (kept_locks h n u) (option_to_list o)) event);
        label = λ k q. ap (λ (x : Snapshot). x.label) now ∙ (sym (attached n m is).has ∙ q);
      }

  new_label : (n : ℕ) → n < length h → items h n ≡ NewEra → Stands g h n u → Stands g h (suc n) u
  new_label n l is s =
      let next : standing g h (suc n) u ≡ standing g h n u = standing-suc g h n u ∙ ap (λ (x : Item). after_all (standing g h n u) (traced_by g (items h) n u x)) is in
      let event : event_by u (items h n) ≡ None = ap (event_by u) is in
      let after : labels g (items h) (suc n) ≡ new_era ((labels g (items h) n).era + 1) = labels-next g (items h) n ∙ ap (next_labels g (labels g (items h) n)) is in
      let none : label_of g (items h) (suc n) u ≡ None = ap (option_map (λ (s : ℕ). record { sid = s; epoch = (labels g (items h) (suc n)).epoch s; era = (labels g (items h) (suc n)).era })) (ap (λ (x : Labels). x.slot_of u) after) in
      record {
        frames = ap (λ (x : Snapshot). x.frames) next ∙ s.frames ∙ sym (frames-suc h n u l ∙ ap (λ (o : Option Event). fold frames_after (frames h n u) (option_to_list o)) event);
        locks = ap (λ (x : Snapshot). x.locks) next ∙ s.locks ∙ sym (locks-suc h n u l ∙ ap (λ (o : Option Event). fold locks_after (kept_locks h n u) (option_to_list o)) event);
        label = λ m e. absurd (let z = sym none ∙ e in cc);
      }

  step : (n : ℕ) → n < length h → (it : Item) → items h n ≡ it → Stands g h n u → Stands g h (suc n) u
  step n l (Does v e) is s = elim (cases_eq v u) [
    | inl q ↦ own n l e (is ∙ ap (λ x. Does x e) q) s
    | inr d ↦ still n l (Does v e) is (λ c. d (sym c)) (rw (ne_eqb v u d) refl) (rw (ne_eqb v u d) refl) s
  ]
  step n l (Notes v (notes.Attach m)) is s = elim (cases_eq v u) [
    | inl q ↦ own_attach n l m (is ∙ ap (λ x. Notes x (notes.Attach m)) q) s
    | inr d ↦ still n l (Notes v (notes.Attach m)) is (λ c. d (sym c)) (rw (ne_eqb v u d) refl) refl s
  ]
  step n l (Notes v (notes.Leave m)) is s = still n l (Notes v (notes.Leave m)) is (λ c. c) refl refl s
  step n l (Notes v notes.Nothing) is s = still n l (Notes v notes.Nothing) is (λ c. c) refl refl s
  step n l NewEra is s = new_label n l is s
  step n l Past is s = still n l Past is (λ c. c) refl refl s

  pub stands : (n : ℕ) → n ≤ length h → Stands g h n u
  unfolding labels
  stands zero l = record { frames = refl; locks = refl; label = λ m e. absurd (cc) }
  stands (suc n) l = step n (omega arith) (items h n) refl (stands n (omega arith))
