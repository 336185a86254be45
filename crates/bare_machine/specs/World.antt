-- What the bare machine keeps: its threads and memory.
use Rattle.std.specs.Prelude.{◌≡◌, ℕ, List, [], ◌∷◌, length, map, Bool, true, false, Option, None, slice_get, count_by}
use Rattle.std.specs.List.{range_with_len}
use Rattle.std.specs.Option.{option_map_or}
use Rattle.run_record.specs.declared.finished.GuestEnd.{GuestEnd}
use Rattle.rv_exec.specs.Registers.{fresh, put}
use Rattle.elf_image.specs.File.{entry, granules_of, initial_word}
use Rattle.bare_machine.specs.declared.thread.Thread.{Thread}
use Rattle.bare_machine.specs.Memory.{GuestMemory}

pub record World : Type 0 where
  -- the threads by number
  pub threads : List Thread
  -- how many threads may live at once
  pub harts : ℕ
  pub memory : GuestMemory
  -- the bytes that were put
  pub output : List ℕ
  -- the first exit or fault
  pub ended : Option GuestEnd

-- a thread before its first instruction: its argument is in x10, its stack's end in x2
abbrev pub new_thread : ℕ → ℕ → ℕ → Thread
new_thread pc argument stack = record { regs = put (put (fresh pc) 2 stack) 10 argument; lives = true; began = false; depth = 0 }

-- memory as the file has it
abbrev pub initial_memory : List ℕ → GuestMemory
initial_memory file = record { words = map (initial_word file) (range_with_len 0 (granules_of file)); reservations = [] }

-- the main thread at the entry address
abbrev pub start : List ℕ → ℕ → World
start file harts = record { threads = new_thread (entry file) 0 0x80000000 ∷ []; harts = harts; memory = initial_memory file; output = []; ended = None }

-- how many of the threads live
abbrev pub count_living : List Thread → ℕ
count_living threads = count_by (λ (t : Thread). t.lives) threads

abbrev pub lives : World → ℕ → Bool
lives w tid = option_map_or (λ (t : Thread). t.lives) (slice_get w.threads tid) false

-- the machine was made for this file: it has a word for each granule
abbrev pub HasMemory : List ℕ → World → Type 0
HasMemory file w = length w.memory.words ≡ granules_of file
