-- Whole instructions of a thread: what it asked for is served, and the events are heard.
use Rattle.std.specs.Prelude.{◌≡◌, ℕ, List, map, Option, Some, None}
use Rattle.run_record.specs.declared.entry.Check.{Check}
use Rattle.run_record.specs.declared.entry.Label.{Label}
use Rattle.run_record.specs.declared.event.Event.{Event}
use Rattle.run_record.specs.declared.limits.Limits.{Limits}
use Rattle.bare_machine.specs.declared.request.Request.{Request}
use Rattle.bare_machine.specs.declared.request.Request.TheVariants as kinds
use Rattle.race_core.specs.Watched.{Watched}
use Rattle.race_core.specs.declared.watcher.Candidate.{Candidate}
use Rattle.detector.specs.Stands.{awaited}
use Rattle.shared_table.specs.declared.object.Object.{Object}
use Rattle.shared_table.specs.declared.view.Layout.{Layout}
use Rattle.shared_table.specs.Past.{IsSoundSlot}
use Rattle.shared_table.specs.Steps.{Mine}
use Rattle.table_deeds.specs.Objects.{held_in, last_in}
use Rattle.turn_histories.specs.Entries.{next_object}
use Rattle.hart_steps.specs.declared.hart.Hart.{Hart}
use Rattle.hart_steps.specs.Asked.{Asks}
use Rattle.hart_steps.specs.Harts.{local_of}
use Rattle.placed_detector.specs.Standing.{Hand, Held}
use Rattle.deed_histories.specs.Deeds.{Made}
use Rattle.part_races.specs.Awaits.{AwaitsInstruction}
use Rattle.hart_turns.specs.Hearing.{at_rest}
use Rattle.hart_turns.specs.Instructions.{loads_of, given_after_all, AreGivenAs, HearsAll}

-- a number that no object has
abbrev pub nowhere : ℕ
nowhere = 65

-- the request is served without an object
abbrev pub UsesNothing : Request → Type 0
UsesNothing kinds.Done = Unit {0}
UsesNothing (kinds.Return r) = r.object ≡ None
UsesNothing _ = ⊥

-- a thread that has arrived, as the laws of workers have it
abbrev pub hand_at : Hart → Watched → Option (Option (List ℕ)) → Hand
hand_at h w given = record { bare = local_of h; watched = at_rest w; given = given }

-- the instruction, as the laws of workers have it: its events with the checks of each, and what these loaded
abbrev pub made_of : List Event → List (List Check) → Made
made_of es checks = record { loads = loads_of checks; events = es; checks = checks }

-- The thread was h when it asked, and made the instruction without an object, at whatever place and whatever that has.
pub record MakesAlone (file : List ℕ) (limits : Limits) (t : ℕ) (clock : List ℕ) (base : ℕ) (r : Request) (asked left : Hart) (w w' : Watched) (es : List Event)
    (before after : List Check) (waited waiting : List Candidate) (old new : Mine) (spent : Option Label) : Type 0 where
  pub hears : HearsAll file limits nowhere t clock es base w w' None None before after waited waiting old new spent
  pub makes :
      (found : Hart) → Asks file t found asked r → (harts k : ℕ) (held : Held) (given : Option (Option (List ℕ))) → AreGivenAs limits.slots given clock es →
      AwaitsInstruction file harts w.era t k (made_of es hears.added) (hand_at found w given) (hand_at left w' (given_after_all given es)) held held
      (map awaited hears.found)
  pub without_object : (found : Hart) → Asks file t found asked r → next_object file t (Some found.thread) ≡ None

-- The same at stripe k of a table with that layout: the thread found the stripe as the first place has it, and left it as the second does.
pub record MakesAtStripe (file : List ℕ) (limits : Limits) (lay : Layout) (k t : ℕ) (clock : List ℕ) (base : ℕ) (r : Request) (asked left : Hart) (w w' : Watched)
    (place place' : Option Object) (es : List Event) (before after : List Check) (waited waiting : List Candidate) (old new : Mine)
    (spent : Option Label) : Type 0 where
  pub served : Option Object
  pub hears : HearsAll file limits k t clock es base w w' served place' before after waited waiting old new spent
  pub makes :
      (x y : Object) → place ≡ Some x → place' ≡ Some y → (found : Hart) → Asks file t found asked r → (harts : ℕ) (given : Option (Option (List ℕ))) →
      AreGivenAs limits.slots given clock es →
      AwaitsInstruction file harts w.era t k (made_of es hears.added) (hand_at found w given) (hand_at left w' (given_after_all given es))
      (held_in file limits k x).state (held_in file limits k y).state (map awaited hears.found)
  pub object : (found : Hart) → Asks file t found asked r → next_object file t (Some found.thread) ≡ Some k
  pub last_is : (x y : Object) → place ≡ Some x → place' ≡ Some y → last_in y ≡ last_in x
  pub sound : IsSoundSlot lay k place'
