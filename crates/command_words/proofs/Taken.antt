-- What the clauses of `clap` say of the tool's command.
use Rattle.std.proofs.Common.{◌≡◌, ◌∙◌, inl, inr, true, false, List, [], ◌∷◌, refl, ap, rules, sym}
use Rattle.clap.specs.Walk.{Text, is_empty, rows_of}
use Rattle.clap.specs.Simple.{App, HasMatchesOf, is_simple, matches_of}
use Rattle.clap.specs.Faults.{fault_of, is_simple_and_free}
use Rattle.clap.specs.Kinds.{HasKind, IsAmong, Kinds}
use Rattle.clap.specs.Values.{kind_of}
use Rattle.clap.specs.Matches.{found_of}
use Rattle.clap.specs.declared.error.Error.{Error}
use Rattle.clap.specs.declared.error.kind.ErrorKind.{ErrorKind}
use Rattle.clap.specs.declared.error.kind.ErrorKind.TheVariants as kind
use Rattle.clap.specs.declared.parser.matches.ArgMatches.{ArgMatches}
use Rattle.clap.proofs.OnLiterals.{clap_on_literals}
use Rattle.command_words.specs.Command.{is_taken, matches, tool_app}

pub tool_is_simple : is_simple tool_app ≡ true
unfolding tool_app clap_on_literals
tool_is_simple = refl

pub tool_is_free : is_simple_and_free tool_app ≡ true
unfolding tool_app clap_on_literals
tool_is_free = refl

-- the parse of the tool's command succeeds: it takes the words
pub taken : (app : App) (words : List Text) → app ≡ tool_app → (is_simple_and_free app ≡ true → fault_of app words ≡ []) → is_taken words ≡ true
unfolding is_taken
taken app words is none = ap is_empty (ap (λ a. fault_of a words) (sym is) ∙ none (ap is_simple_and_free is ∙ tool_is_free))

-- its matches are those of the definition
pub matched : (app : App) (words : List Text) (m : ArgMatches) → app ≡ tool_app → HasMatchesOf app words m → rows_of (found_of m) ≡ matches words
unfolding matches
matched app words m is has = (has (ap is_simple is ∙ tool_is_simple)).0 ∙ ap (λ a. matches_of a words) is

some_kind : (k : ErrorKind) (kinds : Kinds) → IsAmong k kinds → is_empty kinds ≡ false
some_kind k [] h = absurd h
some_kind k (x ∷ rest) h = search rules

-- the parse fails for another cause than memory: the words are refused
pub not_taken : (app : App) (words : List Text) (e : Error) → app ≡ tool_app → (is_simple_and_free app ≡ true → HasKind (fault_of app words) e)
    → (kind_of e ≡ kind.OutOfMemory → ⊥) → is_taken words ≡ false
unfolding is_taken
not_taken app words e is fails other = elim (fails (ap is_simple_and_free is ∙ tool_is_free)) [
  | inl none ↦ absurd (other none)
  | inr among ↦ ap (λ a. is_empty (fault_of a words)) (sym is) ∙ some_kind (kind_of e) _ among
]
