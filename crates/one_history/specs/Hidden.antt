-- A machine that hides the objects of its instructions, and two lawful histories of it that differ.
use Rattle.std.specs.Prelude.{ℕ, false, List, [], ◌∷◌, None}
use Rattle.run_record.specs.declared.event.Event.TheVariants.{Begin, End, Enter, Release}
use Rattle.run_record.specs.declared.event.Part.TheVariants.{Main}
use Rattle.run_record.specs.declared.entry.DeskNote.TheVariants.{Attach, Leave}
use Rattle.run_record.specs.declared.entry.Entry.{Entry}
use Rattle.run_record.specs.declared.limits.Limits.{Limits}
use Rattle.run_laws.specs.Faithful.{Bare}
use Rattle.run_laws.specs.Scripts.{Line, scripted}
use Rattle.run_laws.specs.Rows.{usual, at, label, noted, makes}

-- one slot of two epochs
abbrev pub one_slot : Limits
one_slot = record usual { harts = 1; slots = 1; epochs = 2 }

-- two releases spend the slot's epochs, and two more instructions need a slot
abbrev pub two_releases : List (List Line)
two_releases =
    (at 0 (Begin ∷ []) ∷ at 1 (Release 0x1000000 Main false ∷ []) ∷ at 2 (Release 0x1000000 Main false ∷ []) ∷ at 3 (Enter 0x10010 ∷ []) ∷ at 4 (End ∷ []) ∷ []) ∷ []

-- the scripts' machine, but that no instruction tells the object that it uses
abbrev pub hidden : List (List Line) → Bare (List ℕ)
hidden scripts = record (scripted scripts) { step = λ s t. record ((scripted scripts).step s t) { object = None } }

-- the thread goes on after its label is spent, and leaves it at the end
abbrev pub left_late : List Entry
left_late =
    noted 0 0 1 0 (Attach (label 0 1 0))
    ∷ makes 0 0 2 0 5 (Begin ∷ Release 0x1000000 Main false ∷ Release 0x1000000 Main false ∷ Enter 0x10010 ∷ End ∷ []) []
    ∷ noted 0 0 3 0 (Leave (label 0 2 0))
    ∷ []

-- it leaves its label where it is spent, finds no slot in that round, and goes on in the next era
abbrev pub left_early : List Entry
left_early =
    noted 0 0 1 0 (Attach (label 0 1 0))
    ∷ makes 0 0 2 0 3 (Begin ∷ Release 0x1000000 Main false ∷ Release 0x1000000 Main false ∷ []) []
    ∷ noted 0 0 3 0 (Leave (label 0 2 0))
    ∷ noted 1 1 4 0 (Attach (label 0 1 1))
    ∷ makes 1 1 5 0 2 (Enter 0x10010 ∷ End ∷ []) []
    ∷ []
