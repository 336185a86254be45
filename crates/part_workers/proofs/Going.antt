-- What stays as it is while a thread makes instructions: its watcher's greatest epoch; and that it has begun.
use Rattle.std.proofs.Common.{◌≡◌, ℕ, ◌+◌, Bool, true, false, List, [], ◌∷◌, Option, Some, None, refl, ap, sym, ◌∙◌}
use Rattle.run_record.specs.declared.entry.Check.{Check}
use Rattle.run_record.specs.declared.entry.Label.{Label}
use Rattle.run_record.specs.declared.event.Event.{Event}
use Rattle.run_record.specs.declared.event.Event.TheVariants as events
use Rattle.bare_machine.specs.declared.thread.Thread.{Thread}
use Rattle.bare_machine.specs.Requests.{Request, done, returned, touch, operate, put, create, join, stop, request}
use Rattle.place_turns.specs.Places.{Local, Value, desk_in}
use Rattle.place_turns.specs.Turns.{Turned, served, create_turn, is_full}
use Rattle.slot_desk.specs.Desks.{DeskContents}
use Rattle.sync_slab.specs.Objects.{SyncObjects}
use Rattle.race_core.specs.Watched.{Watched, next_label, raised_to}
use Rattle.thread_events.specs.Heard.{watcher_after, raised_or_lost_to}
use Rattle.watched_turns.specs.Checking.{Loads}
use Rattle.placed_detector.specs.Standing.{Held}
use Rattle.placed_detector.specs.Instructions.{Beside, told_in, HearsEvents, MakesInstruction}
use Rattle.hart_steps.specs.declared.hart.Hart.{Hart}
use Rattle.hart_turns.specs.Makes.{hand_at}

-- ---- the greatest epoch

raised_greatest : (w : Watched) (o : Option Label) → (raised_to w o).greatest ≡ w.greatest
raised_greatest w None = refl
raised_greatest w (Some l) = refl

lost_greatest : (w : Watched) (o : Option Label) → (raised_or_lost_to w o).greatest ≡ w.greatest
lost_greatest w None = refl
lost_greatest w (Some l) = raised_greatest w (next_label w.greatest w.label)

after_greatest : (given : Option (List ℕ)) (set : SyncObjects) (d : DeskContents) (e : Event) (w : Watched) →
    (watcher_after given set d e w).greatest ≡ w.greatest
after_greatest given set d events.Begin w = refl
after_greatest given set d (events.Create child) w = lost_greatest w (next_label w.greatest w.label)
after_greatest given set d events.End w = refl
after_greatest given set d (events.Join of) w = refl
after_greatest given set d (events.Acquire addr part) w = refl
after_greatest given set d (events.Release addr part replaces) w = lost_greatest w (next_label w.greatest w.label)
after_greatest given set d (events.Destroy addr) w = refl
after_greatest given set d (events.Clear addr) w = refl
after_greatest given set d (events.Access place addr size read atomic) w = refl
after_greatest given set d (events.Enter frame) w = refl
after_greatest given set d events.Leave w = refl
after_greatest given set d (events.Lock addr read) w = refl
after_greatest given set d (events.Unlock addr read) w = refl
after_greatest given set d (events.Put value count) w = refl

heard_greatest : (file : List ℕ) (k t : ℕ) (loads : Loads) (i : ℕ) (es : List Event) (css : List (List Check)) (old new : Beside) →
    HearsEvents file k t loads i es css old new → new.watched.greatest ≡ old.watched.greatest
heard_greatest file k t loads i [] [] old new h = ap (λ (b : Beside). b.watched.greatest) (sym h)
heard_greatest file k t loads i [] (cs ∷ css) old new h = absurd h
heard_greatest file k t loads i (e ∷ es) [] old new h = absurd h
heard_greatest file k t loads i (e ∷ es) (cs ∷ css) old new h =
    heard_greatest file k t loads (i + 1) es css h.0 new h.5
    ∙ (ap (λ (w : Watched). w.greatest) h.1.watched ∙ after_greatest (told_in old.given) old.sync old.desk e old.watched)

-- ---- a thread that has begun

abbrev began_in : Option Thread → Bool
began_in None = true
began_in (Some x) = x.began

began_served : (harts t : ℕ) (l : Local) (v : Value) (x : Thread) (r : Request) → began_in (served harts t l v x r).local.thread ≡ true
began_served harts t l v x (done r) = refl
began_served harts t l v x (returned call answer object) = refl
began_served harts t l v x (touch i effect addr n) = refl
began_served harts t l v x (operate call addr size n) = refl
began_served harts t l v x (put word count) = refl
began_served harts t l v x (create pc argument stack) = go (is_full harts (desk_in v))
  where
    go : (b : Bool) → began_in (create_turn l (desk_in v) x pc argument stack b).local.thread ≡ true
    go true = refl
    go false = refl
began_served harts t l v x (join n) = refl
began_served harts t l v x (stop end) = refl

module _ (file : List ℕ) (harts era t k : ℕ) (loads : Loads) (es : List Event) (css : List (List Check)) (h left : Hart) (w w' : Watched)
    (given given' : Option (Option (List ℕ))) (place place' : Held)
    (m : MakesInstruction file harts era t k loads es css (hand_at h w given) (hand_at left w' given') place place') where
  pub greatest_stays : w'.greatest ≡ w.greatest
  greatest_stays = heard_greatest file k t loads 0 es css _ _ m.heard

  pub began_then : left.thread.began ≡ true
  began_then = sym (ap (λ (r : Turned). began_in r.local.thread) m.stepped) ∙ began_served harts t (hand_at h w given).bare place.bare h.thread (request file t h.thread)
