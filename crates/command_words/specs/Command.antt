-- The command of `clap` that reads the words of the command line.
use Rattle.std.specs.Prelude.{Bool, true, List, [], ◌∷◌, Some, codes, fold}
use Rattle.clap.specs.Matches.{found_of}
use Rattle.clap.specs.Walk.{Row, Rule, Text, is_empty, rows_of}
use Rattle.clap.specs.declared.parser.matches.ArgMatches.{ArgMatches}
use Rattle.clap.specs.Simple.{App, matches_of, new_app, new_rule, on_top, with_rule}
use Rattle.clap.specs.Faults.{fault_of}

-- `--name TEXT` and `--name=TEXT`, at most once
abbrev pub option_rule : Text → Rule
option_rule name = record (new_rule name) { long = Some name }

-- the command with one more option
abbrev pub with_option : App → Text → App
with_option app name = with_rule app (option_rule name)

-- the names of all options
abbrev pub option_names : List Text
option_names = codes "harts" ∷ codes "slots" ∷ codes "epochs" ∷ codes "steps" ∷ codes "quantum" ∷ codes "parts"
    ∷ codes "part-words" ∷ codes "plan" ∷ codes "suppressions" ∷ codes "seed" ∷ codes "size" ∷ []

-- a command without arguments, whose words have no program's name before them
abbrev pub bare_app : App
bare_app = on_top (λ s. record s { no_binary_name = true }) (new_app (codes "tsanrun"))

-- the first word that is no option, which must be there
abbrev pub command_rule : Rule
command_rule = record (new_rule (codes "command")) { required = true }

-- the command that is read: a word for the command, perhaps one for a file, and the options
unfoldable pub tool_app : App
tool_app = fold with_option (with_rule (with_rule bare_app command_rule) (new_rule (codes "file"))) option_names

-- what a parse read of the command's own arguments
abbrev pub rows_read : ArgMatches → List Row
rows_read m = rows_of (found_of m)

-- `clap` takes the words: it finds no fault in them
unfoldable pub is_taken : List Text → Bool
is_taken words = is_empty (fault_of tool_app words)

-- what `clap` reads in the words
unfoldable pub matches : List Text → List Row
matches words = matches_of tool_app words
