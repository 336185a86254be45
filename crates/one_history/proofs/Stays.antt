-- What stays at an entry that leaves its thread's label.
use Rattle.std.proofs.Common.{◌≡◌, ℕ, ◌+◌, ◌==◌, ◌||◌, if◌then◌else◌, Bool, true, false, Option, Some, None, List, [], ◌∷◌, ◌++◌, append_assoc, map, refl, sym, ap, ◌∙◌, eqb-true}
use Rattle.std.specs.Prelude.{All, nat_lt}
use Rattle.std.specs.List.{enumerate_from}
use Rattle.std.proofs.lemmas.List.{append-nil}
use Rattle.std.proofs.lemmas.List.Elements.{All-head, All-tail}
use Rattle.run_record.specs.declared.event.Event.{Event}
use Rattle.run_record.specs.declared.entry.DeskNote.TheVariants.{Nothing}
use Rattle.run_record.specs.declared.entry.Entry.{Entry}
use Rattle.run_laws.specs.Moments.{Does, Notes, Moment, entry_moments, event_moment}
use Rattle.run_laws.specs.Labels.{Labels, raises, slot_after, given_back, next_labels, next_queue}
use Rattle.run_laws.specs.Present.{labels_now, queue_now}
use Rattle.run_laws.proofs.PresentLaw.{labels_now-push, queue_now-push}
use Rattle.one_history.specs.Reached.{LeavesLabel}

-- the label that the thread has, and the queue, stay at an entry that leaves it
module _ (g slots t : ℕ) where
  abbrev Stays : List Moment → List Moment → Type 0
  Stays k h = ((labels_now g k).slot_of t ≡ (labels_now g h).slot_of t) × (queue_now g slots k ≡ queue_now g slots h)

  slot_kept : (epoch : ℕ → ℕ) (o : Option ℕ) (e : Event) → LeavesLabel e → slot_after g epoch o e ≡ o
  slot_kept epoch None e a = refl
  slot_kept epoch (Some s) e a =
      ap (λ b. if b then None else (if (raises e == 0) || nat_lt (epoch s) g then Some s else None)) a.1
      ∙ ap (λ r. if (r == 0) || nat_lt (epoch s) g then Some s else None) a.0

  one_event : (h : List Moment) (m : Moment) (u : ℕ) (e : Event) → m.item ≡ Does u e → LeavesLabel e → Stays (h ++ m ∷ []) h
  one_event h m u e q a = (
    ap (λ (l : Labels). l.slot_of t) (labels_now-push g h m ∙ ap (next_labels g (labels_now g h)) q) ∙ slot (t == u) refl,
    queue_now-push g slots h m ∙ (ap (λ it. next_queue g slots (labels_now g h) it (queue_now g slots h)) q
        ∙ ap (λ b. if b then given_back g (labels_now g h).epoch ((labels_now g h).slot_of u) (queue_now g slots h) else queue_now g slots h) a.1),
  )
    where
      slot : (b : Bool) → (t == u) ≡ b → (if b then slot_after g (labels_now g h).epoch ((labels_now g h).slot_of u) e else (labels_now g h).slot_of t) ≡ (labels_now g h).slot_of t
      slot true b = slot_kept (labels_now g h).epoch ((labels_now g h).slot_of u) e a ∙ ap (labels_now g h).slot_of (sym (eqb-true t u b))
      slot false b = refl

  events_stay : (h : List Moment) (i : ℕ) (x : Entry) (n : ℕ) (es : List Event) → All LeavesLabel es → Stays (h ++ map (event_moment i x) (enumerate_from n es)) h
  events_stay h i x n [] a = (ap (λ (ms : List Moment). (labels_now g ms).slot_of t) (append-nil h), ap (queue_now g slots) (append-nil h))
  events_stay h i x n (e ∷ es) a =
      let m = event_moment i x (n, e) in
      let tail = map (event_moment i x) (enumerate_from (n + 1) es) in
      let first = one_event h m x.tid e refl (All-head LeavesLabel e es a) in
      let more = events_stay (h ++ m ∷ []) i x (n + 1) es (All-tail LeavesLabel e es a) in
      let same = append_assoc h (m ∷ []) tail in
      (ap (λ (ms : List Moment). (labels_now g ms).slot_of t) (sym same) ∙ (more.0 ∙ first.0), ap (queue_now g slots) (sym same) ∙ (more.1 ∙ first.1))

  pub entry_stays : (h : List Moment) (i : ℕ) (x : Entry) → x.note ≡ Nothing → All LeavesLabel x.events → Stays (h ++ entry_moments i x) h
  entry_stays h i x q a =
      let m : Moment = record { entry = i; round = x.round; item = Notes x.tid x.note; checks = [] } in
      let tail = map (event_moment i x) (enumerate_from 0 x.events) in
      let it : m.item ≡ Notes x.tid Nothing = ap (Notes x.tid) q in
      let more = events_stay (h ++ m ∷ []) i x 0 x.events a in
      let same = append_assoc h (m ∷ []) tail in (
        ap (λ (ms : List Moment). (labels_now g ms).slot_of t) (sym same) ∙ (more.0 ∙ ap (λ (l : Labels). l.slot_of t) (labels_now-push g h m ∙ ap (next_labels g (labels_now g h)) it)),
        ap (queue_now g slots) (sym same) ∙ (more.1 ∙ (queue_now-push g slots h m ∙ ap (λ it. next_queue g slots (labels_now g h) it (queue_now g slots h)) it)),
      )
