-- An instruction that is made at the desk.
use Rattle.std.specs.Prelude.{◌≡◌, ℕ, List, map, Option, Some, IsSome}
use Rattle.run_record.specs.declared.entry.Check.{Check}
use Rattle.run_record.specs.declared.entry.Label.{Label}
use Rattle.run_record.specs.declared.event.Event.{Event}
use Rattle.run_record.specs.declared.limits.Limits.{Limits}
use Rattle.bare_machine.specs.declared.request.Request.{Request}
use Rattle.bare_machine.specs.declared.request.Request.TheVariants as kinds
use Rattle.bare_machine.specs.Step.{desk}
use Rattle.race_core.specs.Watched.{Watched}
use Rattle.race_core.specs.declared.watcher.Candidate.{Candidate}
use Rattle.detector.specs.Stands.{awaited}
use Rattle.slot_desk.specs.Desks.{DeskContents, held_of}
use Rattle.shared_table.specs.declared.object.Object.{Object}
use Rattle.shared_table.specs.declared.object.Object.TheVariants.{Desk as InDesk}
use Rattle.shared_table.specs.declared.view.Layout.{Layout}
use Rattle.shared_table.specs.Past.{IsDeskOf, HasThreads, IsSoundSlot}
use Rattle.shared_table.specs.Steps.{Mine}
use Rattle.table_deeds.specs.Objects.{held_in, last_in}
use Rattle.turn_histories.specs.Entries.{next_object}
use Rattle.hart_steps.specs.declared.hart.Hart.{Hart}
use Rattle.hart_steps.specs.Asked.{Asks}
use Rattle.part_races.specs.Awaits.{AwaitsInstruction}
use Rattle.hart_turns.specs.Places.{HasAllMade}
use Rattle.hart_turns.specs.Instructions.{given_after_all, AreGivenAs, HearsAll}
use Rattle.hart_turns.specs.Serves.{ServedAtDesk}
use Rattle.hart_turns.specs.Makes.{hand_at, made_of}

-- ---- the desk while a turn is made there

-- the desk for these limits, whose machine has made each thread of which its slots have heard, and maybe more
abbrev pub IsLoose : Limits → Option Object → Type 0
IsLoose limits (Some (InDesk d)) = IsDeskOf limits d.value.desk × HasAllMade d.value
IsLoose limits _ = ⊥

-- the desk for these limits, with as many threads at its machine as at its slots
abbrev pub IsWhole : Limits → Option Object → Type 0
IsWhole limits (Some (InDesk d)) = IsDeskOf limits d.value.desk × HasThreads d.value
IsWhole limits _ = ⊥

-- a thread that stops holds a slot
abbrev pub MayUse : DeskContents → ℕ → Request → Type 0
MayUse d t (kinds.Stop end) = IsSome (held_of d t)
MayUse d t _ = Unit {0}

-- ---- an instruction there

-- The object is the desk and stays that, where the request was served.
abbrev pub ServedInDesk : ℕ → ℕ → Request → Hart → Hart → Option Object → Option Object → List Event → Type 0
ServedInDesk harts t r asked left (Some (InDesk d)) (Some (InDesk d')) es = MayUse d.value.desk t r × ServedAtDesk harts t r asked left d.value d'.value es
ServedInDesk harts t r asked left _ _ es = ⊥

-- The request was served at the desk, and the events were heard there.
pub record HeardAtDesk (file : List ℕ) (limits : Limits) (t : ℕ) (clock : List ℕ) (base : ℕ) (r : Request) (asked left : Hart) (w w' : Watched)
    (place place' : Option Object) (es : List Event) (before after : List Check) (waited waiting : List Candidate) (old new : Mine) (spent : Option Label) : Type 0 where
  pub served : Option Object
  pub serves : ServedInDesk limits.harts t r asked left place served es
  pub hears : HearsAll file limits desk t clock es base w w' served place' before after waited waiting old new spent

-- Thread t was h when it asked, and made the instruction at the desk of a table with that layout: it found the desk as the first place has it, and left it as
-- the second does. Which threads live then is what the machine's turn leaves and what the slots have heard.
pub record MakesAtDesk (file : List ℕ) (limits : Limits) (lay : Layout) (t : ℕ) (clock : List ℕ) (base : ℕ) (r : Request) (asked left : Hart) (w w' : Watched)
    (place place' : Option Object) (es : List Event) (before after : List Check) (waited waiting : List Candidate) (old new : Mine) (spent : Option Label) : Type 0 where
  pub served : Option Object
  pub hears : HearsAll file limits desk t clock es base w w' served place' before after waited waiting old new spent
  pub makes :
      (x y : Object) → place ≡ Some x → place' ≡ Some y → (found : Hart) → Asks file t found asked r → (given : Option (Option (List ℕ))) →
      AreGivenAs limits.slots given clock es →
      AwaitsInstruction file limits.harts w.era t desk (made_of es hears.added) (hand_at found w given) (hand_at left w' (given_after_all given es))
      (held_in file limits desk x).state (held_in file limits desk y).state (map awaited hears.found)
  pub object : (found : Hart) → Asks file t found asked r → next_object file t (Some found.thread) ≡ Some desk
  pub last_is : (x y : Object) → place ≡ Some x → place' ≡ Some y → last_in y ≡ last_in x
  pub sound : IsSoundSlot lay desk place'
