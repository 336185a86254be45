-- The text of a plan.
use Rattle.std.specs.Prelude.{ℕ, ◌==◌, ◌&&◌, Bool, List, Option, Some, None, is_some, length, nat_le}
use Rattle.std.specs.List.{after_first, before_first, filter_map, list_all, slice_split}
use Rattle.clap.specs.Walk.{Text}
use Rattle.run_record.specs.declared.plan.Turn.{Turn}
use Rattle.command_words.specs.Numbers.{number_of}

-- the byte is `:`
abbrev pub is_colon : ℕ → Bool
is_colon byte = byte == 58

-- the byte is `,`
abbrev pub is_comma : ℕ → Bool
is_comma byte = byte == 44

-- a turn of a thread and a number of instructions, where both are there
abbrev pub turn_from : Option ℕ → Option ℕ → Option Turn
turn_from (Some tid) (Some steps) = Some (record { tid = tid; steps = steps })
turn_from _ _ = None

-- the turn that a text `T:N` tells: at most N instructions of thread T
unfoldable pub turn_of : Text → Option Turn
turn_of text = turn_from (number_of 4 0 1023 (before_first is_colon text)) (number_of 8 1 8000000 (after_first is_colon text))

-- the parts of a text between commas, of which there is one at least
abbrev pub pieces_of : Text → List Text
pieces_of text = slice_split is_comma text

-- the text is 1 to 4,096 turns joined by commas
unfoldable pub is_plan : Text → Bool
is_plan text = nat_le (length (pieces_of text)) 4096 && list_all (λ piece. is_some (turn_of piece)) (pieces_of text)

-- the turns of a plan's text, in order
unfoldable pub turns_of : Text → List Turn
turns_of text = filter_map turn_of (pieces_of text)
