-- A piece that is taken at its first place leaves the most for what follows.
use Rattle.std.proofs.Common.{◌≡◌, ℕ, ◌-◌, ◌==◌, ◌&&◌, ◌||◌, Bool, true, false, cond, List, [], ◌∷◌, ◌++◌, length, drop, Option, Some, None, is_some, refl, sym, ap, ◌∙◌, inl, inr, arith, length-drop, suc, zero, not, option_map}
use Rattle.std.proofs.lemmas.Bool.{cases_Bool, and_parts, or_cases, or_right, cases_lt, false_from_ne_true, ne_eqb}
use Rattle.std.proofs.lemmas.List.Elements.{All-head, All-tail}
use Rattle.std.proofs.lemmas.Slice.Eq.{bytes_eq-Decides}
use Rattle.std.specs.List.{starts_with, ends_with}
use Rattle.std.specs.Str.{bytes_eq}
use Rattle.suppress_rules.specs.Patterns.{some_end, matches_body}
use Rattle.suppress_rules.specs.Pieces.{after_piece}
use Rattle.suppress_rules.specs.Texts.{text_view, behind, ends_there}
use Rattle.suppress_rules.specs.declared.parts.Text.{Text}
use Rattle.suppress_rules.proofs.CutLaws.{Lacks}

-- no byte of the piece is a star
abbrev pub IsPiece : List ℕ → Type 0
IsPiece piece = Lacks 42 piece

and_assoc : (x y z : Bool) → (x && (y && z)) ≡ ((x && y) && z)
and_assoc true y z = refl
and_assoc false y z = refl

or_absorb : (x y : Bool) → (y ≡ true → x ≡ true) → (x || y) ≡ x
or_absorb true y h = refl
or_absorb false true h = sym (h refl)
or_absorb false false h = refl

or_none : (x y : Bool) → y ≡ false → (x || y) ≡ x
or_none x y e = or_absorb x y (λ t. cc)

-- what is left where nothing is
pub drop-nil : (n : ℕ) → drop {A = ℕ} n [] ≡ []
drop-nil zero = refl
drop-nil (suc n) = refl

some_end-same : (f g : List ℕ → Bool) → ((t : List ℕ) → f t ≡ g t) → (text : List ℕ) → some_end f text ≡ some_end g text
some_end-same f g h [] = h []
some_end-same f g h (c ∷ text) = (λ i. h (c ∷ text) i || some_end-same f g h text i)

-- an end of an end is an end
one_less : (test : List ℕ → Bool) (n : ℕ) (text : List ℕ) → some_end test (drop (suc n) text) ≡ true → some_end test (drop n text) ≡ true
one_less test zero [] h = h
one_less test zero (c ∷ text) h = or_right (test (c ∷ text)) (some_end test text) h
one_less test (suc n) [] h = h
one_less test (suc n) (c ∷ text) h = one_less test n text h

-- a piece before a star
pub piece_then : (bound : Bool) (piece rest text : List ℕ) → IsPiece piece →
    matches_body bound (piece ++ 42 ∷ rest) text ≡ (starts_with ◌==◌ text piece && some_end (matches_body bound rest) (drop (length piece) text))
piece_then bound [] rest text h = refl
piece_then bound (b ∷ piece) rest [] h = let e : (b == 42) ≡ false = All-head (λ x. (x == 42) ≡ false) b piece h in rw e refl
piece_then bound (b ∷ piece) rest (c ∷ text) h =
    let e : (b == 42) ≡ false = All-head (λ x. (x == 42) ≡ false) b piece h in
    rw e (ap (λ r. (b == c) && r) (piece_then bound piece rest text (All-tail (λ x. (x == 42) ≡ false) b piece h))
    ∙ and_assoc (b == c) (starts_with ◌==◌ text piece) (some_end (matches_body bound rest) (drop (length piece) text)))

-- a last piece whose end is bound
pub whole_piece : (piece text : List ℕ) → IsPiece piece → matches_body true piece text ≡ bytes_eq piece text
whole_piece [] [] h = refl
whole_piece [] (c ∷ text) h = ne_eqb (suc (length text)) 0 (λ e. cc)
whole_piece (b ∷ piece) [] h = let e : (b == 42) ≡ false = All-head (λ x. (x == 42) ≡ false) b piece h in rw e refl
whole_piece (b ∷ piece) (c ∷ text) h =
    let e : (b == 42) ≡ false = All-head (λ x. (x == 42) ≡ false) b piece h in
    rw e (ap (λ r. (b == c) && r) (whole_piece piece text (All-tail (λ x. (x == 42) ≡ false) b piece h)))

-- a last piece after which anything may follow
pub open_piece : (piece text : List ℕ) → IsPiece piece → matches_body false piece text ≡ starts_with ◌==◌ text piece
open_piece [] text h = refl
open_piece (b ∷ piece) [] h = let e : (b == 42) ≡ false = All-head (λ x. (x == 42) ≡ false) b piece h in rw e refl
open_piece (b ∷ piece) (c ∷ text) h =
    let e : (b == 42) ≡ false = All-head (λ x. (x == 42) ≡ false) b piece h in
    rw e (ap (λ r. (b == c) && r) (open_piece piece text (All-tail (λ x. (x == 42) ≡ false) b piece h)))

-- wherever the piece is taken, what follows it stands in what follows its first place
later_place : (bound : Bool) (piece rest text : List ℕ) → IsPiece piece → some_end (matches_body bound (piece ++ 42 ∷ rest)) text ≡ true →
    some_end (matches_body bound rest) (drop (length piece) text) ≡ true
later_place bound piece rest [] p h =
    (and_parts (starts_with ◌==◌ [] piece) (some_end (matches_body bound rest) (drop (length piece) [])) (sym (piece_then bound piece rest [] p) ∙ h)).1
later_place bound piece rest (c ∷ text) p h =
    elim (or_cases (matches_body bound (piece ++ 42 ∷ rest) (c ∷ text)) (some_end (matches_body bound (piece ++ 42 ∷ rest)) text) h) [
      | inl here ↦ (and_parts (starts_with ◌==◌ (c ∷ text) piece) (some_end (matches_body bound rest) (drop (length piece) (c ∷ text))) (sym (piece_then bound piece rest (c ∷ text) p) ∙ here)).1
      | inr later ↦ one_less (matches_body bound rest) (length piece) (c ∷ text) (later_place bound piece rest text p later)
    ]

-- some end of what is left passes, if there is something left
abbrev pub then_some_end : (List ℕ → Bool) → Option (List ℕ) → Bool
then_some_end test None = false
then_some_end test (Some after) = some_end test after

at_end : (s : Bool) (test : List ℕ → Bool) (left : List ℕ) → left ≡ [] → (s && some_end test left) ≡ then_some_end test (cond s (Some []) None)
at_end true test left e = ap (some_end test) e
at_end false test left e = refl

at_byte : (s : Bool) (test : List ℕ → Bool) (left : List ℕ) (y : Bool) (later : Option (List ℕ)) → (y ≡ true → some_end test left ≡ true) → y ≡ then_some_end test later →
    ((s && some_end test left) || y) ≡ then_some_end test (cond s (Some left) later)
at_byte true test left y later h e = or_absorb (some_end test left) y h
at_byte false test left y later h e = e

-- the first place is enough
pub first_place : (bound : Bool) (piece rest text : List ℕ) → IsPiece piece →
    some_end (matches_body bound (piece ++ 42 ∷ rest)) text ≡ then_some_end (matches_body bound rest) (after_piece piece text)
first_place bound piece rest [] p =
    piece_then bound piece rest [] p ∙ at_end (starts_with ◌==◌ [] piece) (matches_body bound rest) (drop (length piece) []) (drop-nil (length piece))
first_place bound piece rest (c ∷ text) p =
    ap (λ x. x || some_end (matches_body bound (piece ++ 42 ∷ rest)) text) (piece_then bound piece rest (c ∷ text) p)
    ∙ at_byte (starts_with ◌==◌ (c ∷ text) piece) (matches_body bound rest) (drop (length piece) (c ∷ text)) (some_end (matches_body bound (piece ++ 42 ∷ rest)) text) (after_piece piece text)
    (λ later. one_less (matches_body bound rest) (length piece) (c ∷ text) (later_place bound piece rest text p later))
    (first_place bound piece rest text p)

at_last : (s : Bool) (left : List ℕ) → s ≡ is_some (cond s (Some left) None)
at_last true left = refl
at_last false left = refl

some_place : (piece text : List ℕ) → some_end (λ t. starts_with ◌==◌ t piece) text ≡ is_some (after_piece piece text)
some_place piece [] = at_last (starts_with ◌==◌ [] piece) []
some_place piece (c ∷ text) =
    elim (starts_with ◌==◌ (c ∷ text) piece) as (λ s. (s || some_end (λ t. starts_with ◌==◌ t piece) text) ≡ is_some (cond s (Some (drop (length piece) (c ∷ text))) (after_piece piece text))) [
      | true ↦ refl
      | false ↦ some_place piece text
    ]

-- a last piece somewhere
pub open_end : (piece text : List ℕ) → IsPiece piece → some_end (matches_body false piece) text ≡ is_some (after_piece piece text)
open_end piece text p = some_end-same (matches_body false piece) (λ t. starts_with ◌==◌ t piece) (λ t. open_piece piece t p) text ∙ some_place piece text

differs : (xs ys : List ℕ) → (length xs ≡ length ys → ⊥) → bytes_eq xs ys ≡ false
differs xs ys h = false_from_ne_true (bytes_eq xs ys) (λ e. h (ap length ((bytes_eq-Decides xs ys).0 e)))

last_place : (piece text : List ℕ) → some_end (bytes_eq piece) text ≡ ends_with ◌==◌ text piece
last_place piece [] = ap (bytes_eq piece) (sym (drop-nil (0 - length piece)))
last_place piece (c ∷ text) =
    elim (cases_lt (length text) (length piece)) [
      | inl short ↦
          let at : suc (length text) - length piece ≡ 0 = omega arith in
          let rest : bytes_eq piece (drop (length text - length piece) text) ≡ false = differs piece (drop (length text - length piece) text) (λ e. omega (arith, e, length-drop (length text - length piece) text)) in
          ap (λ r. bytes_eq piece (c ∷ text) || r) (last_place piece text ∙ rest) ∙ or_none (bytes_eq piece (c ∷ text)) false refl ∙ ap (λ n. bytes_eq piece (drop n (c ∷ text))) (sym at)
      | inr long ↦
          let at : suc (length text) - length piece ≡ suc (length text - length piece) = omega arith in
          let here : bytes_eq piece (c ∷ text) ≡ false = differs piece (c ∷ text) (λ e. omega (arith, e)) in
          ap (λ r. r || some_end (bytes_eq piece) text) here ∙ last_place piece text ∙ ap (λ n. bytes_eq piece (drop n (c ∷ text))) (sym at)
    ]

-- a last piece at the end
pub bound_end : (piece text : List ℕ) → IsPiece piece → some_end (matches_body true piece) text ≡ ends_with ◌==◌ text piece
bound_end piece text p = some_end-same (matches_body true piece) (bytes_eq piece) (λ t. whole_piece piece t p) text ∙ last_place piece text

-- a step over a piece and the star after it
pub past_piece : (bound : Bool) (pattern text piece rest after : List ℕ) → pattern ≡ piece ++ 42 ∷ rest → IsPiece piece → Some after ≡ after_piece piece text →
    some_end (matches_body bound rest) after ≡ some_end (matches_body bound pattern) text
past_piece bound pattern text piece rest after cut p found =
    ap (then_some_end (matches_body bound rest)) found ∙ sym (first_place bound piece rest text p) ∙ ap (λ q. some_end (matches_body bound q) text) (sym cut)

-- no step over a piece
pub no_piece : (bound : Bool) (pattern text piece rest : List ℕ) → pattern ≡ piece ++ 42 ∷ rest → IsPiece piece → None ≡ after_piece piece text →
    false ≡ some_end (matches_body bound pattern) text
no_piece bound pattern text piece rest cut p missing =
    ap (then_some_end (matches_body bound rest)) missing ∙ sym (first_place bound piece rest text p) ∙ ap (λ q. some_end (matches_body bound q) text) (sym cut)

-- ---- what the code answers

at_here : (s : Bool) (test : List ℕ → Bool) (left : List ℕ) → (s && some_end test left) ≡ then_some_end test (cond s (Some left) None)
at_here true test left = refl
at_here false test left = refl

piece_behind : (bound : Bool) (piece rest text : List ℕ) → IsPiece piece → matches_body bound (piece ++ 42 ∷ rest) text ≡ then_some_end (matches_body bound rest) (behind piece text)
piece_behind bound piece rest text p = piece_then bound piece rest text p ∙ at_here (starts_with ◌==◌ text piece) (matches_body bound rest) (drop (length piece) text)

-- where there is a star
pub star_found : (bound : Bool) (pattern text piece rest after : List ℕ) → pattern ≡ piece ++ 42 ∷ rest → IsPiece piece → Some after ≡ behind piece text →
    some_end (matches_body bound rest) after ≡ matches_body bound pattern text
star_found bound pattern text piece rest after cut p found =
    ap (then_some_end (matches_body bound rest)) found ∙ sym (piece_behind bound piece rest text p) ∙ ap (λ q. matches_body bound q text) (sym cut)

pub star_missing : (bound : Bool) (pattern text piece rest : List ℕ) → pattern ≡ piece ++ 42 ∷ rest → IsPiece piece → None ≡ behind piece text →
    false ≡ matches_body bound pattern text
star_missing bound pattern text piece rest cut p missing =
    ap (then_some_end (matches_body bound rest)) missing ∙ sym (piece_behind bound piece rest text p) ∙ ap (λ q. matches_body bound q text) (sym cut)

-- where there is none
last_behind : (bound : Bool) (piece text : List ℕ) → IsPiece piece → matches_body bound piece text ≡ ends_there bound (behind piece text)
last_behind bound [] text h = refl
last_behind bound (b ∷ piece) [] h = let e : (b == 42) ≡ false = All-head (λ x. (x == 42) ≡ false) b piece h in rw e refl
last_behind bound (b ∷ piece) (c ∷ text) h =
    let e : (b == 42) ≡ false = All-head (λ x. (x == 42) ≡ false) b piece h in
    rw e (one (b == c) (starts_with ◌==◌ text piece) (drop (length piece) text) (last_behind bound piece text (All-tail (λ x. (x == 42) ≡ false) b piece h)))
  where
    one : (s t : Bool) (left : List ℕ) {m : Bool} → m ≡ ends_there bound (cond t (Some left) None) → (s && m) ≡ ends_there bound (cond (s && t) (Some left) None)
    one true t left e = e
    one false t left e = refl

pub last_found : (bound : Bool) (pattern text after : List ℕ) → IsPiece pattern → Some after ≡ behind pattern text → (not bound || (length after == 0)) ≡ matches_body bound pattern text
last_found bound pattern text after p found = ap (ends_there bound) found ∙ sym (last_behind bound pattern text p)

pub open_is : (bound left : Bool) → bound ≡ false → not bound ≡ (not bound || left)
open_is true left h = absurd (cc)
open_is false left h = refl

pub bound_is : (bound left : Bool) → bound ≡ true → left ≡ (not bound || left)
bound_is true left h = refl
bound_is false left h = absurd (cc)

pub last_missing : (bound : Bool) (pattern text : List ℕ) → IsPiece pattern → None ≡ behind pattern text → false ≡ matches_body bound pattern text
last_missing bound pattern text p missing = ap (ends_there bound) missing ∙ sym (last_behind bound pattern text p)

-- ---- the search for a piece

piece_here : (piece text : List ℕ) → starts_with ◌==◌ text piece ≡ true → Some (drop (length piece) text) ≡ after_piece piece text
piece_here piece [] e = rw e (ap Some (drop-nil (length piece)))
piece_here piece (c ∷ text) e = rw e refl

pub piece_found : (piece text after : List ℕ) → Some after ≡ behind piece text → Some after ≡ after_piece piece text
piece_found piece text after h =
    elim (cases_Bool (starts_with ◌==◌ text piece)) [
      | inl here ↦ (rw here at h) ∙ piece_here piece text here
      | inr away ↦ absurd (let e = rw away at h in cc)
    ]

-- that a piece was found doesn't depend on what follows it
pub found : (o : Option Text) → is_some o ≡ is_some (option_map text_view o)
found None = refl
found (Some x) = refl
