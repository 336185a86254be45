-- An option's text behind `=` and as a word of its own: what `clap` makes of the two.
use Rattle.std.proofs.Common.{◌≡◌, ◌≢◌, ◌∙◌, ◌++◌, ◌∷◌, ℕ, Bool, true, false, List, [], Option, Some, None, Err, arith, ap, ap₂, codes, if◌then◌else◌, nat_eq, refl, sym}
use Rattle.std.specs.Option.{is_some, option_map_or}
use Rattle.std.specs.Str.{bytes_eq}
use Rattle.std.proofs.lemmas.Bool.Decides.{nat_tests}
use Rattle.clap.specs.Faults.{check_fault, defaults_fault, entered_fault, flag_word_fault, bundle_fault, settle_fault, step_fault, turn_fault, walk_fault}
use Rattle.clap.specs.Kinds.{Kinds, or_else}
use Rattle.clap.specs.Lexer.{long_of, short_of}
use Rattle.clap.specs.Simple.{Shape, built, entered}
use Rattle.clap.specs.Walk.{Held, Row, Rule, Step, Text, Walk, after_step, finished, is_empty, long_or_other, nothing_held, option, plain_word, settled, short_or_plain, trailing, walk, walk_from, walked, word_met}
use Rattle.clap.specs.Values.{reading_of}
use Rattle.clap.specs.declared.builder.value_parser.ValueParser.TheVariants as vp
use Rattle.clap.specs.declared.parser.matches.ValueSource.TheVariants.{CommandLine}
use Rattle.clap.proofs.OnLiterals.{clap_on_literals}
use Rattle.command_words.specs.Command.{is_taken, matches, tool_app}
use Rattle.command_words.specs.Requests.{request_from, request_of}
use Rattle.command_words.specs.declared.request.UsageFault.TheVariants as fault

-- ---- a word that is no flag

record IsNoFlag (word : Text) : Type 0 where
  no_end : bytes_eq word (45 ∷ 45 ∷ []) ≡ false
  no_long : long_of word ≡ None
  no_short : short_of word ≡ None

no_hyphen : (first : ℕ) → first ≢ 45 → nat_eq first 45 ≡ false
no_hyphen first h = grind (arith, nat_tests)

no_flag : (first : ℕ) (rest : Text) → first ≢ 45 → IsNoFlag (first ∷ rest)
no_flag first rest h =
    let e = no_hyphen first h in
    record { no_end = rw e refl; no_long = rw e refl; no_short = rw e refl }

-- the walk waits for the text of an option
abbrev waits_for : Held → Text → Walk
waits_for h id = record { held = h; waiting = option id; position = 2; is_trailing = false; stopped = None }

abbrev took : List Rule → Held → Text → Text → Walk
took c h id word = after_step c word (waits_for h id) (plain_word c (option id) word h).0 (plain_word c (option id) word h).1

plain_met : (c : List Rule) (h : Held) (id word : Text) → IsNoFlag word → word_met c [] false (option id) 2 word h ≡ plain_word c (option id) word h
plain_met c h id word none =
    ap (λ (b : Bool). if b then (h, trailing 2) else long_or_other c (option id) word (long_of word) h) none.no_end
    ∙ ap (λ (o : Option (Text × Option Text)). long_or_other c (option id) word o h) none.no_long
    ∙ ap (λ (o : Option Text). short_or_plain c (option id) word o h) none.no_short

plain_walked : (c : List Rule) (h : Held) (id word : Text) → IsNoFlag word → walked c [] (waits_for h id) word ≡ took c h id word
unfolding walked
plain_walked c h id word none = ap (λ (met : Held × Step). after_step c word (waits_for h id) met.0 met.1) (plain_met c h id word none)

plain_fault : (s : Shape) (h : Held) (id word : Text) → IsNoFlag word → turn_fault s [] (waits_for h id) word ≡ step_fault s 2 h (plain_word s.rules (option id) word h).1
plain_fault s h id word none =
    ap₂ (λ (kinds : Kinds) (met : Held × Step). or_else kinds (step_fault s 2 met.0 met.1))
    (ap (λ (b : Bool). if b then [] else flag_word_fault s.rules s.args_override_self (long_of word) word h) none.no_end
    ∙ ap (λ (o : Option (Text × Option Text)). flag_word_fault s.rules s.args_override_self o word h) none.no_long
    ∙ ap (λ (o : Option Text). option_map_or (λ flags. bundle_fault s.rules s.args_override_self flags h) o []) none.no_short)
    (plain_met s.rules h id word none)

-- ---- the tool's command

abbrev top : Shape
top = (built tool_app).top

abbrev start : Walk
start = walk_from nothing_held

abbrev gen : Text
gen = codes "gen"

abbrev flag_of : Text → Text
flag_of name = codes "--" ++ name

-- the faults of a parse, by where its walk ends and by the faults on the way
abbrev faults_after : Walk → Kinds → Kinds
faults_after w kinds =
    or_else kinds (or_else (entered_fault (built tool_app) w.stopped) (or_else (settle_fault top.rules top.args_override_self w.held)
    (or_else (defaults_fault (settled top.rules w.held).rows top.rules) (check_fault top (finished top.rules w.held) (is_some (entered (built tool_app) w.stopped))))))

taken_is : (words : List Text) → is_taken words ≡ is_empty (faults_after (walk top.rules [] nothing_held words) (walk_fault top [] start words))
unfolding is_taken tool_app clap_on_literals
taken_is words = refl

matches_are : (words : List Text) → matches words ≡ finished top.rules (walk top.rules [] nothing_held words).held
unfolding matches tool_app clap_on_literals
matches_are words = refl

-- the walk over an option's name and its text as two words
walk_is : (name : Text) (h : Held) (first : ℕ) (rest : Text) → first ≢ 45 → walked top.rules [] (walked top.rules [] start gen) (flag_of name) ≡ waits_for h name
    → walk top.rules [] nothing_held (gen ∷ flag_of name ∷ (first ∷ rest) ∷ []) ≡ took top.rules h name (first ∷ rest)
walk_is name h first rest ne waits = ap (λ (w : Walk). walked top.rules [] w (first ∷ rest)) waits ∙ plain_walked top.rules h name (first ∷ rest) (no_flag first rest ne)

walk_faults : (name : Text) (h : Held) (first : ℕ) (rest : Text) → first ≢ 45 → walked top.rules [] (walked top.rules [] start gen) (flag_of name) ≡ waits_for h name
    → turn_fault top [] start gen ≡ [] → turn_fault top [] (walked top.rules [] start gen) (flag_of name) ≡ []
    → step_fault top 2 h (plain_word top.rules (option name) (first ∷ rest) h).1 ≡ [] → walk_fault top [] start (gen ∷ flag_of name ∷ (first ∷ rest) ∷ []) ≡ []
unfolding walk_fault
walk_faults name h first rest ne waits one two three =
    ap₂ or_else one (ap₂ or_else two (ap (λ (kinds : Kinds). or_else kinds []) (ap (λ (w : Walk). turn_fault top [] w (first ∷ rest)) waits
    ∙ plain_fault top h name (first ∷ rest) (no_flag first rest ne) ∙ three)))

-- what is held after an option's name
abbrev pub held_after : Text → Held
held_after name = (walked top.rules [] (walked top.rules [] start gen) (flag_of name)).held

-- the rows of `gen` and an option's text
abbrev pub rows_with : Text → Text → List Row
rows_with name text = record { id = codes "command"; values = gen ∷ []; count = None; source = Some CommandLine; reading = reading_of vp.String }
    ∷ record { id = name; values = text ∷ []; count = None; source = Some CommandLine; reading = reading_of vp.String } ∷ []

-- what is known of an option by computing
pub record IsOption (name : Text) (h : Held) : Type 0 where
  pub waits : walked top.rules [] (walked top.rules [] start gen) (flag_of name) ≡ waits_for h name
  pub fault : turn_fault top [] (walked top.rules [] start gen) (flag_of name) ≡ []
  pub takes : (first : ℕ) (rest : Text) → step_fault top 2 h (plain_word top.rules (option name) (first ∷ rest) h).1 ≡ []
  pub faultless : (first : ℕ) (rest : Text) → faults_after (took top.rules h name (first ∷ rest)) [] ≡ []
  pub rows_apart : (first : ℕ) (rest : Text) → finished top.rules (took top.rules h name (first ∷ rest)).held ≡ rows_with name (first ∷ rest)
  pub taken : (first : ℕ) (rest : Text) → is_taken (gen ∷ (flag_of name ++ codes "=" ++ (first ∷ rest)) ∷ []) ≡ true
  pub rows_together : (first : ℕ) (rest : Text) → matches (gen ∷ (flag_of name ++ codes "=" ++ (first ∷ rest)) ∷ []) ≡ rows_with name (first ∷ rest)

gen_fault : turn_fault top [] start gen ≡ []
unfolding tool_app clap_on_literals
gen_fault = refl

pub same_request : (name : Text) (h : Held) → IsOption name h → (first : ℕ) (rest : Text) → first ≢ 45
    → request_of (gen ∷ (flag_of name ++ codes "=" ++ (first ∷ rest)) ∷ []) ≡ request_of (gen ∷ flag_of name ∷ (first ∷ rest) ∷ [])
unfolding request_of
same_request name h known first rest ne =
    let ends = walk_is name h first rest ne known.waits in
    let faults = walk_faults name h first rest ne known.waits gen_fault known.fault (known.takes first rest) in
    let two = gen ∷ flag_of name ∷ (first ∷ rest) ∷ [] in
    let taken : is_taken two ≡ is_taken (gen ∷ (flag_of name ++ codes "=" ++ (first ∷ rest)) ∷ []) =
    taken_is two ∙ ap₂ (λ (w : Walk) (kinds : Kinds). is_empty (faults_after w kinds)) ends faults ∙ ap is_empty (known.faultless first rest) ∙ sym (known.taken first rest) in
    let matched : matches two ≡ matches (gen ∷ (flag_of name ++ codes "=" ++ (first ∷ rest)) ∷ []) =
    matches_are two ∙ ap (λ (w : Walk). finished top.rules w.held) ends ∙ known.rows_apart first rest ∙ sym (known.rows_together first rest) in
    sym (ap₂ (λ (b : Bool) (rows : List Row). if b then request_from rows else Err fault.Words) taken matched)
