-- What the detector makes of one event.
use Rattle.std.specs.Prelude.{◌≡◌, ℕ, true, List, [], ◌∷◌, ◌++◌, length, All, Option, Some, None, option_map}
use Rattle.run_record.specs.declared.event.Event.{Event}
use Rattle.run_record.specs.declared.event.Event.TheVariants as events
use Rattle.run_record.specs.declared.entry.Check.{Check}
use Rattle.run_record.specs.declared.entry.Label.{Label}
use Rattle.run_record.specs.declared.limits.Limits.{Limits}
use Rattle.elf_image.specs.File.{granule_of, granules_of}
use Rattle.run_laws.specs.Moments.{Does, Moment}
use Rattle.run_laws.specs.Present.{label_now}
use Rattle.slot_desk.specs.declared.answers.Created.TheVariants.{Thread}
use Rattle.slot_desk.specs.declared.answers.Joined.TheVariants.{Done}
use Rattle.slot_desk.specs.Desks.{thread_of}
use Rattle.slot_desk.specs.Steps as desks
use Rattle.race_core.specs.Watched.{CanBeNoted}
use Rattle.turn_laws.specs.Going.{spent_by, AreRightNow}
use Rattle.thread_events.specs.Heard.{desk_after}
use Rattle.detector.specs.Detected.{Detected, watcher_of, IsLeaving}
use Rattle.detector.specs.Stands.{Stands}

-- what the event asks of the desk: a thread is created that may live, and one is joined that has ended; and of the watcher
abbrev pub CanHear : Detected → ℕ → Event → Type 0
CanHear d t (events.Create child) = (desks.created d.desk ≡ Thread child) × ((thread_of (desks.after_create d.desk (watcher_of d t).clock) t).lives ≡ true)
CanHear d t (events.Join ended) = desks.join_answer d.desk ended ≡ Done
CanHear d t e = CanBeNoted (length (watcher_of d t).frames) e

-- The thread's event is heard. Checks are added for it, which stand rightly; the detector stands as the history leaves it with
-- the event; and what is told to be spent is the label that the event spends.
pub record Hears (file : List ℕ) (limits : Limits) (old new : Detected) (t place : ℕ) (e : Event) (before after : List Check) (spent : Option Label) : Type 0 where
  pub added : List Check
  pub checks_are : after ≡ before ++ added
  pub of_event : All (λ (c : Check). c.event ≡ place) added
  pub right :
      (from : ℕ) (h : List Moment) → Stands (granules_of file) limits from None h old →
      AreRightNow limits.epochs (granule_of file) h t e added
  pub stands :
      (from : ℕ) (h : List Moment) (m : Moment) → Stands (granules_of file) limits from None h old → m.item ≡ Does t e → m.checks ≡ added →
      Stands (granules_of file) limits from (option_map (λ (l : Label). t) spent) (h ++ m ∷ []) new
  pub spent_is :
      (from : ℕ) (h : List Moment) → Stands (granules_of file) limits from None h old → spent ≡ spent_by limits.epochs (label_now limits.epochs h t) e
  pub desk : new.desk ≡ desk_after old.desk t (watcher_of old t).clock e
  pub leaves : (from : ℕ) (h : List Moment) (l : Label) → Stands (granules_of file) limits from None h old → spent ≡ Some l → IsLeaving new t l
