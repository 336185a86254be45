-- The owner of a place among the functions' ranges is the function over it.
use Rattle.std.proofs.Common.{◌≡◌, ℕ, ltb, List, [], ◌∷◌, map, Option, Some, None, refl, ap, ◌∙◌, inl, inr}
use Rattle.std.specs.Option.{option_map}
use Rattle.std.proofs.lemmas.Bool.{cases_Bool}
use Rattle.symbol_lines.specs.declared.spans.Owner.{Owner}
use Rattle.symbol_lines.specs.Spans.{better, owner_among}
use Rattle.symbol_lines.specs.Symbols.{Symbol, holds, later, function_over, name_at, name_in}
use Rattle.symbol_lines.specs.Kept.{function_span}

abbrev pub function_owner : Symbol → Owner
function_owner f = record { rank = f.start; item = f.name }

later_is : (f : Symbol) (o : Option Symbol) → better (Some (function_owner f)) (option_map function_owner o) ≡ Some (function_owner (later f o))
later_is f None = refl
later_is f (Some g) =
    elim (cases_Bool (ltb f.start g.start)) [
      | inl above ↦ rw above refl
      | inr below ↦ rw below refl
    ]

pub owner_is : (fs : List Symbol) (p : ℕ) → owner_among (map function_span fs) p ≡ option_map function_owner (function_over fs p)
owner_is [] p = refl
owner_is (f ∷ fs) p =
    elim (cases_Bool (holds f p)) [
      | inl here ↦ rw (here, owner_is fs p) (later_is f (function_over fs p))
      | inr away ↦ rw away (owner_is fs p)
    ]

-- the name of an owner
abbrev pub name_of_owner : List ℕ → Option Owner → List ℕ
name_of_owner strings None = []
name_of_owner strings (Some o) = name_at strings o.item

name_same : (strings : List ℕ) (o : Option Symbol) → name_of_owner strings (option_map function_owner o) ≡ name_in strings o
name_same strings None = refl
name_same strings (Some f) = refl

pub name_found : (strings : List ℕ) (fs : List Symbol) (p : ℕ) (o : Option Owner) → o ≡ owner_among (map function_span fs) p → name_of_owner strings o ≡ name_in strings (function_over fs p)
name_found strings fs p o is = ap (name_of_owner strings) (is ∙ owner_is fs p) ∙ name_same strings (function_over fs p)
