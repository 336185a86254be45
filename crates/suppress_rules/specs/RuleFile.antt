-- The rules that a file gives, or its first fault.
use Rattle.std.specs.Prelude.{ℕ, ◌+◌, ◌==◌, ◌||◌, Bool, if◌then◌else◌, List, [], ◌∷◌, ◌++◌, length, reverse, codes, Option, Some, None, Result, Ok, Err}
use Rattle.std.specs.List.{list_any, before_first, after_first, slice_split, starts_with}
use Rattle.std.specs.Str.{bytes_eq, is_utf8}
use Rattle.suppress_rules.specs.declared.rule.Kind.{Kind}
use Rattle.suppress_rules.specs.declared.rule.Kind.TheVariants.{Race, RaceTop, NeverMet}
use Rattle.suppress_rules.specs.declared.rule.Rule.{Rule}
use Rattle.suppress_rules.specs.declared.fault.RuleFault.{RuleFault}
use Rattle.suppress_rules.specs.declared.fault.RuleFault.TheVariants.{NoColon, UnknownType, NotUtf8}

-- a space, a tab or a carriage return
abbrev pub is_blank : ℕ → Bool
is_blank b = (b == 32) || ((b == 9) || (b == 13))

-- a line without the blanks at its beginning
abbrev pub trimmed_start : List ℕ → List ℕ
trimmed_start [] = []
trimmed_start (b ∷ line) = if is_blank b then trimmed_start line else b ∷ line

-- a line without the blanks at both ends
abbrev pub trimmed : List ℕ → List ℕ
trimmed line = reverse (trimmed_start (reverse (trimmed_start line)))

-- a trimmed line without a rule: an empty one, or one that begins with `#`
abbrev pub is_skipped : List ℕ → Bool
is_skipped line = (length line == 0) || starts_with ◌==◌ line (codes "#")

-- `:`
abbrev pub is_colon : ℕ → Bool
is_colon b = b == 58

abbrev pub is_newline : ℕ → Bool
is_newline b = b == 10

-- the kind of rule that a type stands for
abbrev pub kind_of : List ℕ → Option Kind
kind_of name =
    if bytes_eq name (codes "race") then Some Race else
    (if bytes_eq name (codes "race_top") then Some RaceTop else
    (if bytes_eq name (codes "thread") || (bytes_eq name (codes "mutex") || (bytes_eq name (codes "signal") || (bytes_eq name (codes "deadlock") || bytes_eq name (codes "called_from_lib"))))
    then Some NeverMet else None))

-- the rule of a kind, if it is known
abbrev pub typed_rule : ℕ → Option Kind → List ℕ → Result (Option Rule) RuleFault
typed_rule number None pattern = Err (UnknownType number)
typed_rule number (Some kind) pattern = Ok (Some (record { kind = kind; pattern = pattern }))

-- what the trimmed line of this number gives: nothing, a rule, or a fault
abbrev pub rule_in : ℕ → List ℕ → Result (Option Rule) RuleFault
rule_in number line =
    if is_skipped line then Ok None else
    (if list_any is_colon line then typed_rule number (kind_of (before_first is_colon line)) (after_first is_colon line) else Err (NoColon number))

-- these rules, and then those of the lines below, unless these have a fault
abbrev pub prepended : List Rule → Result (List Rule) RuleFault → Result (List Rule) RuleFault
prepended rules (Ok more) = Ok (rules ++ more)
prepended rules (Err fault) = Err fault

-- what a line gives, and then what the lines below it give
abbrev pub line_then : Result (Option Rule) RuleFault → Result (List Rule) RuleFault → Result (List Rule) RuleFault
line_then (Err fault) below = Err fault
line_then (Ok None) below = below
line_then (Ok (Some rule)) below = prepended (rule ∷ []) below

-- the rules of lines, of which the first has this number
abbrev pub rules_from : ℕ → List (List ℕ) → Result (List Rule) RuleFault
rules_from number [] = Ok []
rules_from number (line ∷ lines) = line_then (rule_in number (trimmed line)) (rules_from (number + 1) lines)

-- the parts of a file between its newlines
abbrev pub lines_of : List ℕ → List (List ℕ)
lines_of bytes = slice_split is_newline bytes

-- the rules of a file, or its first fault: lines are numbered from 1
abbrev pub rules_of : List ℕ → Result (List Rule) RuleFault
rules_of bytes = if is_utf8 bytes then rules_from 1 (lines_of bytes) else Err NotUtf8
