-- How a plan's text is read.
use Rattle.std.proofs.Common.{ℕ, ◌≡◌, ◌≤◌, ◌<◌, ◌+◌, ◌∙◌, ◌&&◌, Bool, true, false, List, [], ◌∷◌, ◌++◌, Option, Some, None, ap, ap₂, arith, get_or, length, refl, sym, take, take_all, Bor, map, drop_of_length-le, le-leb, nat_le, leb-true, subst}
use Rattle.std.specs.List.{All, after_first, before_first, cons_option, filter_map, list_all, position_or_len}
use Rattle.std.specs.Option.{is_some}
use Rattle.std.proofs.lemmas.Bool.Decides.{nat_tests}
use Rattle.std.proofs.lemmas.List.{get_or-map, length-map, take_more}
use Rattle.std.proofs.lemmas.List.Elements.{filter_map-append}
use Rattle.std.proofs.lemmas.List.Elements.{All-cons, All-nil}
use Rattle.std.proofs.lemmas.List.Folds.{list_all_at, list_all_more}
use Rattle.clap.specs.Walk.{Text}
use Rattle.run_record.specs.declared.plan.Turn.{Turn}
use Rattle.command_words.proofs.NumberLaws.{both, number_of_range}
use Rattle.command_words.specs.Numbers.{number_of}
use Rattle.command_words.specs.Requests.{AreTurns, IsTurn}
use Rattle.command_words.specs.Plans.{is_colon, is_plan, pieces_of, turn_from, turn_of, turns_of}

-- ---- one turn

empty_number : number_of 8 1 8000000 [] ≡ None
unfolding number_of
empty_number = refl

no_steps : (tid : Option ℕ) → turn_from tid None ≡ None
no_steps None = refl
no_steps (Some n) = refl

pub no_colon : (text : Text) → position_or_len is_colon text ≡ length text → None ≡ turn_of text
unfolding turn_of
no_colon text h =
    let past : length text ≤ position_or_len is_colon text + 1 = omega arith in
    let nothing : after_first is_colon text ≡ [] = drop_of_length-le text past in
    sym (ap (turn_from (number_of 4 0 1023 (before_first is_colon text))) (ap (number_of 8 1 8000000) nothing ∙ empty_number) ∙ no_steps _)

-- the parts round the colon are read
pub turn_read : (text a b : Text) (tid steps : Option ℕ) → a ≡ before_first is_colon text → b ≡ after_first is_colon text
    → tid ≡ number_of 4 0 1023 a → steps ≡ number_of 8 1 8000000 b → turn_from tid steps ≡ turn_of text
unfolding turn_of
turn_read text a b tid steps before after tid_is steps_is = ap₂ turn_from (tid_is ∙ ap (number_of 4 0 1023) before) (steps_is ∙ ap (number_of 8 1 8000000) after)

-- ---- all turns

abbrev pub is_turn : Text → Bool
is_turn piece = is_some (turn_of piece)

-- what is known after the first i pieces
pub record ReadsTo (pieces : List Text) (i : ℕ) (turns : List Turn) : Type 0 where
  pub turns_are : turns ≡ filter_map turn_of (take i pieces)
  pub all_are : list_all is_turn (take i pieces) ≡ true

pub one_more : (pieces : List Text) (i : ℕ) (turns next : List Turn) (turn : Turn) → i < length pieces → Some turn ≡ turn_of (get_or pieces i [])
    → next ≡ turns ++ turn ∷ [] → ReadsTo pieces i turns → ReadsTo pieces (i + 1) next
one_more pieces i turns next turn lt is pushed so_far = record {
  turns_are = pushed
      ∙ ap₂ (λ (seen : List Turn) (last : Option Turn). seen ++ cons_option last []) so_far.turns_are is
      ∙ sym (ap (filter_map turn_of) (take_more pieces i [] lt) ∙ filter_map-append turn_of (take i pieces) (get_or pieces i [] ∷ []));
  all_are = list_all_more is_turn pieces i [] lt ∙ rw (so_far.all_are, ← is) refl;
}

past_the_most : (n : ℕ) → 4096 < n → nat_le n 4096 ≡ false
past_the_most n h = grind (arith, nat_tests)

right_false : (a b : Bool) → b ≡ false → (a && b) ≡ false
right_false true b h = h
right_false false b h = refl

-- the texts of pieces
abbrev pub texts_of : List (Bor Text) → List Text
texts_of items = map (λ piece. piece.now) items

pub one_more_piece : (items : List (Bor Text)) (i : ℕ) (d : Bor Text) (turns next : List Turn) (turn : Turn) → i < length items → Some turn ≡ turn_of (get_or items i d).now
    → next ≡ turns ++ turn ∷ [] → ReadsTo (texts_of items) i turns → ReadsTo (texts_of items) (i + 1) next
one_more_piece items i d turns next turn lt is pushed so_far =
    one_more (texts_of items) i turns next turn (rw (length-map items (λ (piece : Bor Text). piece.now)) lt)
    (is ∙ ap turn_of (sym (get_or-map (λ (piece : Bor Text). piece.now) items i d [] lt))) pushed so_far

pub plan_read : (text : Text) (items : List (Bor Text)) (i : ℕ) (turns : List Turn) → texts_of items ≡ pieces_of text → length items ≤ 4096 → length items ≤ i
    → ReadsTo (texts_of items) i turns → (is_plan text ≡ true) × (turns ≡ turns_of text)
unfolding is_plan turns_of
plan_read text items i turns are few end so_far =
    let pieces = texts_of items in
    let same : length pieces ≡ length items = length-map items (λ (piece : Bor Text). piece.now) in
    let whole : take i pieces ≡ pieces = take_all i pieces (rw same end) in
    let all : list_all is_turn (pieces_of text) ≡ true = ap (list_all is_turn) (sym are ∙ sym whole) ∙ so_far.all_are in
    let few_pieces : nat_le (length (pieces_of text)) 4096 ≡ true = le-leb _ _ (rw (← are, same) few) in
    (rw (few_pieces, all) refl, so_far.turns_are ∙ ap (filter_map turn_of) (whole ∙ are))

pub too_many : (text : Text) (items : List (Bor Text)) → texts_of items ≡ pieces_of text → 4096 < length items → is_plan text ≡ false
unfolding is_plan
too_many text items are many =
    let same : length (pieces_of text) ≡ length items = ap length (sym are) ∙ length-map items (λ (piece : Bor Text). piece.now) in
    let more : 4096 < length (pieces_of text) = rw same many in
    rw (past_the_most (length (pieces_of text)) more) refl

pub no_turn : (text : Text) (items : List (Bor Text)) (i : ℕ) (d : Bor Text) → texts_of items ≡ pieces_of text → i < length items
    → None ≡ turn_of (get_or items i d).now → is_plan text ≡ false
unfolding is_plan
no_turn text items i d are lt is =
    let pieces = texts_of items in
    let inside : i < length pieces = rw (length-map items (λ (piece : Bor Text). piece.now)) lt in
    let none : None ≡ turn_of (get_or pieces i []) = is ∙ ap turn_of (sym (get_or-map (λ (piece : Bor Text). piece.now) items i d [] lt)) in
    right_false _ _ (ap (list_all is_turn) (sym are) ∙ list_all_at is_turn pieces i [] inside (ap is_some (sym none)))

-- ---- ranges

turn_in_range : (tid steps : Option ℕ) (turn : Turn) → ((n : ℕ) → tid ≡ Some n → (0 ≤ n) × (n ≤ 1023)) → ((n : ℕ) → steps ≡ Some n → (1 ≤ n) × (n ≤ 8000000))
    → turn_from tid steps ≡ Some turn → IsTurn turn
turn_in_range None steps turn low high h = cc
turn_in_range (Some n) None turn low high h = cc
turn_in_range (Some n) (Some m) turn low high h =
    let same : ◌≡◌ {A = Turn} (record { tid = n; steps = m }) turn = cc in
    subst IsTurn same (record { few_threads = (low n refl).1; some_steps = (high m refl).0; few_steps = (high m refl).1 })

is_in_range : (text : Text) (turn : Turn) → turn_of text ≡ Some turn → IsTurn turn
unfolding turn_of
is_in_range text turn h =
    turn_in_range (number_of 4 0 1023 (before_first is_colon text)) (number_of 8 1 8000000 (after_first is_colon text)) turn
    (λ n e. number_of_range 4 0 1023 n (before_first is_colon text) e) (λ n e. number_of_range 8 1 8000000 n (after_first is_colon text) e) h

one_in_range : (o : Option Turn) (rest : List Turn) → ((turn : Turn) → o ≡ Some turn → IsTurn turn) → All IsTurn rest → All IsTurn (cons_option o rest)
one_in_range None rest one others = others
one_in_range (Some turn) rest one others = All-cons IsTurn turn rest (one turn refl) others

each_in_range : (pieces : List Text) → All IsTurn (filter_map turn_of pieces)
each_in_range [] = All-nil IsTurn
each_in_range (piece ∷ rest) = one_in_range (turn_of piece) (filter_map turn_of rest) (is_in_range piece) (each_in_range rest)

one_at_most : (o : Option Turn) (rest : List Turn) (n : ℕ) → length rest ≤ n → length (cons_option o rest) ≤ n + 1
one_at_most None rest n h = omega arith
one_at_most (Some turn) rest n h = omega arith

no_more : (pieces : List Text) → length (filter_map turn_of pieces) ≤ length pieces
no_more [] = omega arith
no_more (piece ∷ rest) =
    let h = one_at_most (turn_of piece) (filter_map turn_of rest) (length rest) (no_more rest) in
    omega (arith, h)

-- the turns of a plan's text are in their ranges
pub are_turns : (text : Text) → is_plan text ≡ true → AreTurns (turns_of text)
unfolding is_plan turns_of
are_turns text h =
    let few : length (pieces_of text) ≤ 4096 = leb-true _ _ (both (nat_le (length (pieces_of text)) 4096) _ h).0 in
    let less : length (filter_map turn_of (pieces_of text)) ≤ length (pieces_of text) = no_more (pieces_of text) in
    record { few = omega arith; each = each_in_range (pieces_of text) }

pub no_turns : AreTurns []
no_turns = record { few = omega arith; each = All-nil IsTurn }
