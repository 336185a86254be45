-- Steps without events, and steps of a thread that may have no slot.
use Rattle.std.specs.Prelude.{◌≡◌, ℕ, Bool, true, false, List, [], length, Option, is_some}
use Rattle.run_record.specs.declared.event.Event.{Event}
use Rattle.bare_machine.specs.declared.plain.Plain.{Plain}
use Rattle.bare_machine.specs.declared.plain.Plain.TheVariants.{Nothing, Registers, Word}
use Rattle.bare_machine.specs.declared.machine.Stepped.{Stepped}
use Rattle.bare_machine.specs.declared.machine.Stepped.TheVariants.{Made, NeedsSlot}
use Rattle.bare_machine.specs.World.{World}
use Rattle.bare_machine.specs.Step.{step}
use Rattle.bare_machine.specs.Preview.{needs_slot}

-- a step of the thread without events, for which it needs no slot, and whether it uses an object
pub record IsPlainStep (file : List ℕ) (tid : ℕ) (old new : World) (uses : Bool) : Type 0 where
  pub object : Option ℕ
  pub uses_is : uses ≡ is_some object
  pub step_is : step file old tid ≡ record { world = new; events = []; object = object }
  pub needless : needs_slot file old tid ≡ false
  pub memory_stays : length new.memory.words ≡ length old.memory.words

-- what was made of the thread's next instruction
abbrev pub MakesPlain : List ℕ → ℕ → World → Plain → World → Type 0
MakesPlain file tid old Nothing new = new ≡ old
MakesPlain file tid old Registers new = IsPlainStep file tid old new false
MakesPlain file tid old Word new = IsPlainStep file tid old new true

-- the thread's step, where it has a slot or needs none
pub record MakesStep (file : List ℕ) (tid : ℕ) (has_slot : Bool) (old new : World) (events : List Event) (object : Option ℕ) : Type 0 where
  pub step_is : step file old tid ≡ record { world = new; events = events; object = object }
  pub needless : has_slot ≡ false → needs_slot file old tid ≡ false

-- the step isn't made for want of a slot
pub record LacksSlot (file : List ℕ) (tid : ℕ) (has_slot : Bool) (old new : World) : Type 0 where
  pub stays : new ≡ old
  pub needy : needs_slot file old tid ≡ true
  pub slotless : has_slot ≡ false

-- how the step of a thread went
abbrev pub Steps : List ℕ → ℕ → Bool → World → Stepped → World → List Event → Type 0
Steps file tid has_slot old (Made object) new events = MakesStep file tid has_slot old new events object
Steps file tid has_slot old NeedsSlot new events = LacksSlot file tid has_slot old new
