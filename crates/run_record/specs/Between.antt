-- An entry between those of the labels that its thread took and left.
use Rattle.std.specs.Prelude.{ℕ, ◌+◌, List, [], ◌∷◌, ◌++◌, length, Option, option_map, option_to_list}
use Rattle.run_record.specs.declared.event.Event.{Event}
use Rattle.run_record.specs.declared.entry.Check.{Check}
use Rattle.run_record.specs.declared.entry.Label.{Label}
use Rattle.run_record.specs.declared.entry.DeskNote.{DeskNote}
use Rattle.run_record.specs.declared.entry.DeskNote.TheVariants.{Nothing, Attach, Leave}
use Rattle.run_record.specs.declared.entry.Entry.{Entry}
use Rattle.run_record.specs.declared.flat.Head.{Head}
use Rattle.run_record.specs.Flat.{entry_of}

-- an entry without instructions
abbrev pub note_entry : Head → ℕ → DeskNote → Entry
note_entry h stamp note = entry_of (record h { stamp = stamp; steps = 0 }) note [] []

-- the entry of the label that was taken, if one was
abbrev pub attach_entries : Head → Option Label → List Entry
attach_entries h attached = option_to_list (option_map (λ (l : Label). note_entry h h.stamp (Attach l)) attached)

-- the entry of the label that was left, if one was
abbrev pub leave_entries : Head → ℕ → Option Label → List Entry
leave_entries h stamp left = option_to_list (option_map (λ (l : Label). note_entry h stamp (Leave l)) left)

-- all of them, with stamps from the head's on
abbrev pub entries_between : Head → Option Label → List Event → List Check → Option Label → List Entry
entries_between h attached events checks left =
    let stamp = h.stamp + length (attach_entries h attached) in
    attach_entries h attached ++ (entry_of (record h { stamp = stamp }) Nothing events checks ∷ leave_entries h (stamp + 1) left)
