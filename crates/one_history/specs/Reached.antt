-- The states that a bare machine comes to, and which instructions leave labels as they are.
use Rattle.std.specs.Prelude.{◌≡◌, ℕ, true, false, All, None}
use Rattle.run_record.specs.declared.event.Event.{Event}
use Rattle.run_laws.specs.Labels.{raises, is_end}
use Rattle.run_laws.specs.Faithful.{Bare}

-- the machine comes to the state: by the instructions of living threads, in some order
pub data ComesTo {S : Type 0} (bare : Bare S) : S → Type 0 where
  Begins : ComesTo bare bare.start
  Goes : (s : S) (t : ℕ) → ComesTo bare s → bare.lives s t ≡ true → ComesTo bare (bare.step s t).state

-- the event neither raises its thread's epoch nor ends the thread
abbrev pub LeavesLabel : Event → Type 0
LeavesLabel e = (raises e ≡ 0) × (is_end e ≡ false)

-- an instruction that uses no object has only such events
abbrev pub LeaveLabels : {S : Type 0} → Bare S → Type 0
LeaveLabels {S} bare = (s : S) (t : ℕ) → ComesTo bare s → bare.lives s t ≡ true → (bare.step s t).object ≡ None → All LeavesLabel (bare.step s t).events
