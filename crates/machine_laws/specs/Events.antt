-- Which events a thread may make, one after another, in one instruction.
use Rattle.std.specs.Prelude.{◌≡◌, ◌<◌, ◌≤◌, ℕ, ◌==◌, ◌||◌, not, Bool, true, false, List, [], ◌∷◌}
use Rattle.run_record.specs.declared.event.Event.{Event}
use Rattle.run_record.specs.declared.event.Event.TheVariants as events
use Rattle.run_laws.specs.Labels.{raises, is_end}
use Rattle.run_laws.specs.Window.{is_traced}
use Rattle.machine_laws.specs.Threads.{Threads, is_full, threads_after}

-- a thread is created only where one more may live; it has the next number
pub record IsCreation (harts : ℕ) (threads : Threads) (n : ℕ) : Type 0 where
  pub next : n ≡ threads.made
  pub below : n < 1024
  pub room : is_full harts threads ≡ false

-- a thread is joined only after its end
pub record IsJoining (threads : Threads) (n : ℕ) : Type 0 where
  pub made : n < threads.made
  pub ended : threads.lives n ≡ false

pub record IsSize (size : ℕ) : Type 0 where
  pub some : 1 ≤ size
  pub few : size ≤ 65536

-- what the event itself asks of the threads before it
abbrev pub MayMake : ℕ → Threads → ℕ → Event → Type 0
MayMake harts threads t (events.Create n) = IsCreation harts threads n
MayMake harts threads t (events.Join n) = IsJoining threads n
MayMake harts threads t (events.Enter frame) = threads.depth t < 4096
MayMake harts threads t (events.Access place addr size read atomic) = IsSize size
MayMake harts threads t _ = Unit {0}

abbrev pub is_begin : Event → Bool
is_begin events.Begin = true
is_begin _ = false

-- no event of the same instruction follows one that raises the epoch, nor an End
abbrev pub is_last : Event → Bool
is_last e = (raises e == 1) || is_end e

-- With these threads before, thread t may make the event, and then the rest. It lives, and its first event is Begin,
-- which no other is.
pub record IsAllowed (harts : ℕ) (threads : Threads) (t : ℕ) (e : Event) (rest : List Event) : Type 0 where
  pub alive : threads.lives t ≡ true
  pub first : is_begin e ≡ not (threads.began t)
  pub may : MayMake harts threads t e
  pub last : is_last e ≡ true → rest ≡ []

-- each event is allowed with the threads after the events before it
abbrev pub AreAllowed : ℕ → Threads → ℕ → List Event → Type 0
AreAllowed harts threads t [] = Unit {0}
AreAllowed harts threads t (e ∷ rest) = IsAllowed harts threads t e rest × AreAllowed harts (threads_after t threads e) t rest

-- the event is traced, or its thread's new label is
abbrev pub is_pushed : Event → Bool
is_pushed e = is_traced e || (raises e == 1)

-- it is an output
abbrev pub is_put : Event → Bool
is_put (events.Put value count) = true
is_put _ = false

-- It reaches no clock and no other thread. All events of an instruction without an object are such.
abbrev pub is_local : Event → Bool
is_local events.Begin = true
is_local (events.Enter frame) = true
is_local events.Leave = true
is_local (events.Access place addr size read atomic) = true
is_local _ = false
