-- Numbers in the words of the command line.
use Rattle.std.specs.Prelude.{ℕ, ◌&&◌, Bool, List, [], ◌∷◌, Option, Some, None, codes, is_some, length, nat_le, unwrap_or, if◌then◌else◌}
use Rattle.std.specs.List.{list_all}
use Rattle.std.specs.Option.{option_map_or}
use Rattle.std.specs.Char.{is_ascii_digit}
use Rattle.std.specs.Str.Parse.{digits_value}
use Rattle.clap.specs.Walk.{Row, Text, first_of}
use Rattle.run_record.specs.declared.limits.Limits.{Limits}

-- the text is 1 to so many decimal digits
abbrev pub is_numeral : ℕ → Text → Bool
is_numeral digits text = nat_le 1 (length text) && (nat_le (length text) digits && list_all is_ascii_digit text)

-- a number is from the least to the most
abbrev pub is_between : ℕ → ℕ → ℕ → Bool
is_between least most number = nat_le least number && nat_le number most

-- the number that the text writes in 1 to so many decimal digits, if it is one from the least to the most
unfoldable pub number_of : ℕ → ℕ → ℕ → Text → Option ℕ
number_of digits least most text =
    if is_numeral digits text && is_between least most (digits_value 10 text) then Some (digits_value 10 text) else None

-- an option that takes a number: its range, and the number where the words don't give it
pub record NumberOption : Type 0 where
  pub name : Text
  pub least : ℕ
  pub most : ℕ
  pub default : ℕ

-- how many threads may live at once
abbrev pub harts : NumberOption
harts = record { name = codes "harts"; least = 1; most = 64; default = 4 }

-- how many slots there are
abbrev pub slots : NumberOption
slots = record { name = codes "slots"; least = 1; most = 255; default = 255 }

-- the greatest epoch of a slot
abbrev pub epochs : NumberOption
epochs = record { name = codes "epochs"; least = 2; most = 16383; default = 16383 }

-- how many instructions all threads together may make
abbrev pub steps : NumberOption
steps = record { name = codes "steps"; least = 1; most = 8000000; default = 1000000 }

-- the instructions of a thread in one round
abbrev pub quantum : NumberOption
quantum = record { name = codes "quantum"; least = 1; most = 10000; default = 1000 }

-- how many parts of a thread's trace are held
abbrev pub parts : NumberOption
parts = record { name = codes "parts"; least = 2; most = 64; default = 8 }

-- the words of one part
abbrev pub part_words : NumberOption
part_words = record { name = codes "part-words"; least = 64; most = 4096; default = 512 }

-- what the random numbers of a made program begin with
abbrev pub seed : NumberOption
seed = record { name = codes "seed"; least = 0; most = 4294967295; default = 1 }

-- the operations of each thread of a made program
abbrev pub size : NumberOption
size = record { name = codes "size"; least = 0; most = 10000; default = 1000 }

-- all options that take a number
abbrev pub number_options : List NumberOption
number_options = harts ∷ slots ∷ epochs ∷ steps ∷ quantum ∷ parts ∷ part_words ∷ seed ∷ size ∷ []

-- the text that the words give for an argument
abbrev pub given : List Row → Text → Option Text
given rows name = first_of name rows

-- the option's number, unless its text is out of form or of range
unfoldable pub number_in : List Row → NumberOption → Option ℕ
number_in rows option = option_map_or (number_of 10 option.least option.most) (given rows option.name) (Some option.default)

-- each option that takes a number has one
unfoldable pub has_numbers : List Row → Bool
has_numbers rows = list_all (λ option. is_some (number_in rows option)) number_options

-- the option's number, where it has one
abbrev pub number : List Row → NumberOption → ℕ
number rows option = unwrap_or (number_in rows option) 0

-- the limits that the words give, by the defaults where they give none
unfoldable pub limits_in : List Row → Limits
limits_in rows = record {
  harts = number rows harts;
  slots = number rows slots;
  epochs = number rows epochs;
  steps = number rows steps;
  quantum = number rows quantum;
  parts = number rows parts;
  part_words = number rows part_words;
}

-- the limits where the words give none
abbrev pub default_limits : Limits
default_limits = record {
  harts = harts.default;
  slots = slots.default;
  epochs = epochs.default;
  steps = steps.default;
  quantum = quantum.default;
  parts = parts.default;
  part_words = part_words.default;
}
