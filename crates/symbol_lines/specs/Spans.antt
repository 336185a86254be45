-- Ranges of addresses that may overlap, and which of them has a place.
use Rattle.std.specs.Prelude.{ℕ, ◌+◌, ◌<◌, ◌≤◌, ◌&&◌, Bool, nat_lt, nat_le, if◌then◌else◌, List, [], ◌∷◌, length, slice_index_or, Option, Some, None}
use Rattle.symbol_lines.specs.declared.spans.Span.{Span}
use Rattle.symbol_lines.specs.declared.spans.Owner.{Owner}
use Rattle.symbol_lines.specs.declared.spans.Step.{Step}

-- the place stands in the range
abbrev pub covers : Span → ℕ → Bool
covers s place = nat_le s.start place && nat_lt place (s.start + s.size)

-- of two owners the one of greater rank, and the first where the ranks are the same
abbrev pub better : Option Owner → Option Owner → Option Owner
better None second = second
better (Some a) None = Some a
better (Some a) (Some b) = if nat_lt a.rank b.rank then Some b else Some a

-- the owner of a range, at the places that it has
abbrev pub own : Span → ℕ → Option Owner
own s place = if covers s place then Some (record { rank = s.rank; item = s.item }) else None

-- the owner of a place: of the ranges that have it the one of greatest rank, and the first of these
abbrev pub owner_among : List Span → ℕ → Option Owner
owner_among [] place = None
owner_among (s ∷ ss) place = better (own s place) (owner_among ss place)

-- what a table of steps says of a place: the owner of the last step at or below it, and otherwise this one
abbrev pub owner_from : Option Owner → List Step → ℕ → Option Owner
owner_from owner [] place = owner
owner_from owner (s ∷ ss) place = owner_from (if nat_le s.from place then s.owner else owner) ss place

abbrev pub owner_at : List Step → ℕ → Option Owner
owner_at steps place = owner_from None steps place

-- step i of the first table isn't above any of the second from step j on
pub record IsNext (first : List Step) (i : ℕ) (second : List Step) (j : ℕ) : Type 0 where
  pub in_range : i < length first
  pub low : (k : ℕ) (d : Step) → j ≤ k → k < length second → (slice_index_or first i d).from ≤ (slice_index_or second k d).from
