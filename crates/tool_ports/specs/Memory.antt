-- Files and sinks in memory, which fail by lists of numbers.
use Rattle.std.specs.Prelude.{◌≡◌, ℕ, ◌+◌, ◌-◌, ◌^◌, ◌==◌, ◌<◌, min, nat_lt, Bool, true, if◌then◌else◌, List, [], ◌∷◌, ◌++◌, length, take, Option, Some, None, Result, Ok, Err, is_some}
use Rattle.std.specs.List.{list_any}
use Rattle.std.specs.Option.{option_map_or}
use Rattle.std.specs.declared.vec.Vec.{Vec}
use Rattle.std.specs.declared.alloc.Global.{Global}
use Rattle.tool_ports.specs.declared.files.FileFault.{FileFault}
use Rattle.tool_ports.specs.declared.files.FileFault.TheVariants.{Failed, TooLong, NoMemory}
use Rattle.tool_ports.specs.Ports.{file_named}

-- counts stop at the greatest number of 64 bits
abbrev pub next : ℕ → ℕ
next count = min (count + 1) (2 ^ 64 - 1)

-- the files in order, the numbers of the reads that are to fail, and what the reads so far left
pub record FilesInMemory : Type 0 where
  pub files : List (List ℕ × List ℕ)
  pub fails : List ℕ
  pub reads : ℕ
  pub faults : ℕ
  pub failed : List ℕ

abbrev pub is_refused : FilesInMemory → Bool
is_refused m = list_any (λ (number : ℕ). number == next m.reads) m.fails

-- The next read finds the file's bytes, unless its number is listed or no file has the name.
abbrev pub found : FilesInMemory → List ℕ → Option (List ℕ)
found m name = if is_refused m then None else file_named name m.files

abbrev pub read_once : FilesInMemory → FilesInMemory
read_once m = record m { reads = next m.reads }

-- what a read answers and leaves: each read is counted, also where memory runs out
abbrev pub Answers : FilesInMemory → FilesInMemory → List ℕ → ℕ → Result (Vec ℕ Global) FileFault → Type 0
Answers old new name limit (Ok v) = (found old name ≡ Some v.items) × (new ≡ read_once old)
Answers old new name limit (Err TooLong) = ((bytes : List ℕ) × (found old name ≡ Some bytes) × (limit < length bytes)) × (new ≡ read_once old)
Answers old new name limit (Err Failed) = (found old name ≡ None) × (new ≡ record (read_once old) { faults = next old.faults; failed = name })
Answers old new name limit (Err NoMemory) = new ≡ read_once old

-- the bytes that were put, the room for them, the puts that are to fail with how many bytes they take, and what the puts so far left
pub record SinkInMemory : Type 0 where
  pub bytes : List ℕ
  pub room : ℕ
  pub fails : List (ℕ × ℕ)
  pub puts : ℕ
  pub faults : ℕ

-- how many bytes the put of that number takes at most, where it is listed; of pairs with one number the first counts
abbrev pub cut_at : ℕ → List (ℕ × ℕ) → Option ℕ
cut_at number [] = None
cut_at number (fail ∷ fails) = if fail.0 == number then Some fail.1 else cut_at number fails

abbrev pub cut : SinkInMemory → Option ℕ
cut m = cut_at (next m.puts) m.fails

abbrev pub left : SinkInMemory → ℕ
left m = m.room - length m.bytes

-- The next put fails where it is listed, and where its bytes don't fit.
abbrev pub fails_next : SinkInMemory → List ℕ → Bool
fails_next m bytes = if is_some (cut m) then true else nat_lt (left m) (length bytes)

-- how many of the bytes it takes
abbrev pub taken : SinkInMemory → List ℕ → ℕ
taken m bytes = min (option_map_or (λ (n : ℕ). min n (left m)) (cut m) (left m)) (length bytes)

abbrev pub put_once : SinkInMemory → List ℕ → SinkInMemory
put_once m bytes = record m { bytes = m.bytes ++ take (taken m bytes) bytes; puts = next m.puts; faults = if fails_next m bytes then next m.faults else m.faults }
