-- What is known of a code place.
use Rattle.std.specs.Prelude.{ℕ, List}

-- the function's name, the file and the line; empty texts and 0 where nothing is known
pub record FrameText : Type 0 where
  pub name : List ℕ
  pub file : List ℕ
  pub line : ℕ
