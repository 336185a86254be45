-- Which events a thread tells that begins.
use Rattle.std.specs.Prelude.{◌≡◌, Bool, true, false, List, ◌∷◌, All}
use Rattle.run_record.specs.declared.event.Event.{Event}
use Rattle.run_record.specs.declared.event.Event.TheVariants.{Begin}

abbrev pub is_begin : Event → Bool
is_begin Begin = true
is_begin _ = false

-- the event begins no thread
abbrev pub IsLater : Event → Type 0
IsLater e = is_begin e ≡ false

-- a thread that had begun begins with none of the events, and else with the first of them alone
abbrev pub BeginsFirst : Bool → List Event → Type 0
BeginsFirst true es = All IsLater es
BeginsFirst false es = (rest : List Event) × (es ≡ Begin ∷ rest) × All IsLater rest
