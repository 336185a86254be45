-- The threads of a machine, so far as events tell of them.
use Rattle.std.specs.Prelude.{◌≡◌, ◌≤◌, ℕ, ◌+◌, ◌-◌, ◌==◌, ◌||◌, nat_le, Bool, true, false, if◌then◌else◌, length, count_by, slice_get}
use Rattle.std.specs.Option.{option_map_or}
use Rattle.run_record.specs.declared.event.Event.{Event}
use Rattle.run_record.specs.declared.event.Event.TheVariants.{Begin, Create, End, Enter, Leave}
use Rattle.run_laws.specs.Numbers.{up_from}
use Rattle.bare_machine.specs.declared.thread.Thread.{Thread}
use Rattle.bare_machine.specs.World.{World, lives}

-- How many threads were made, and of each number whether its thread lives, whether it has made an instruction,
-- and how many functions it has entered and not left.
pub record Threads : Type 0 where
  pub made : ℕ
  pub lives : ℕ → Bool
  pub began : ℕ → Bool
  pub depth : ℕ → ℕ

abbrev pub began : World → ℕ → Bool
began w t = option_map_or (λ (x : Thread). x.began) (slice_get w.threads t) false

abbrev pub depth : World → ℕ → ℕ
depth w t = option_map_or (λ (x : Thread). x.depth) (slice_get w.threads t) 0

abbrev pub threads_in : World → Threads
threads_in w = record { made = length w.threads; lives = lives w; began = began w; depth = depth w }

-- how many live
abbrev pub living : Threads → ℕ
living threads = count_by threads.lives (up_from 0 threads.made)

-- as many live as may, or as many were made as can be
abbrev pub is_full : ℕ → Threads → Bool
is_full harts threads = nat_le harts (living threads) || (threads.made == 1024)

-- the same, but for one number
abbrev pub but : {X : Type 0} → (ℕ → X) → ℕ → X → ℕ → X
but f t x u = if u == t then x else f u

-- The threads after an event of thread t. A new thread has no function entered.
abbrev pub threads_after : ℕ → Threads → Event → Threads
threads_after t threads Begin = record threads { began = but threads.began t true }
threads_after t threads (Create n) = record threads { made = threads.made + 1; lives = but threads.lives n true }
threads_after t threads End = record threads { lives = but threads.lives t false }
threads_after t threads (Enter frame) = record threads { depth = but threads.depth t (threads.depth t + 1) }
threads_after t threads Leave = record threads { depth = but threads.depth t (threads.depth t - 1) }
threads_after t threads _ = threads

-- a number of which no thread was made
pub record IsUnmade (threads : Threads) (u : ℕ) : Type 0 where
  pub lives : threads.lives u ≡ false
  pub began : threads.began u ≡ false
  pub depth : threads.depth u ≡ 0

-- What holds of threads at all times: at most 1,024 were made, at most so many live, and nothing is told of others.
pub record AreThreads (harts : ℕ) (threads : Threads) : Type 0 where
  pub few_made : threads.made ≤ 1024
  pub few_live : living threads ≤ harts
  pub unmade : (u : ℕ) → threads.made ≤ u → IsUnmade threads u
