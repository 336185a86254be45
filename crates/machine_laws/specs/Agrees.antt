-- When a desk tells of the same threads as the machine.
use Rattle.std.specs.Prelude.{◌≡◌, ℕ, length}
use Rattle.slot_desk.specs.Desks.{DeskContents, thread_of}
use Rattle.machine_laws.specs.Threads.{Threads, AreThreads}

pub record Agrees (harts : ℕ) (threads : Threads) (d : DeskContents) : Type 0 where
  pub are_threads : AreThreads harts threads
  pub harts_are : d.harts ≡ harts
  pub made_are : d.made ≡ threads.made
  pub lives_are : (u : ℕ) → (thread_of d u).lives ≡ threads.lives u
  pub all_threads : length d.threads ≡ 1024
