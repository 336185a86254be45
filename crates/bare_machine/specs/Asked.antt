-- What a request of the code says, and what holds of one.
use Rattle.std.specs.Prelude.{◌≡◌, ℕ, ◌≤◌, ◌<◌, List, Option, Some, slice_get, unwrap_or, slice_set, slice_index}
use Rattle.run_record.specs.declared.event.Event.{Event}
use Rattle.rv_decode.specs.Table.{IsInstr}
use Rattle.rv_exec.specs.Registers.{Registers}
use Rattle.rv_exec.specs.Meaning.{meaning}
use Rattle.rv_exec.specs.Effects.{IsPlaced, TellsAtomic}
use Rattle.elf_image.specs.File.{granules_of}
use Rattle.guest_memory.specs.Fields.{IsField}
use Rattle.entry_calls.specs.declared.call.Call.{Call}
use Rattle.entry_calls.specs.declared.call.Call.TheVariants as calls
use Rattle.entry_calls.specs.declared.call.Outcome.{Outcome}
use Rattle.entry_calls.specs.Calls.{IsCall}
use Rattle.entry_calls.specs.Effects.{IsAnswered}
use Rattle.bare_machine.specs.declared.thread.Thread.{Thread}
use Rattle.bare_machine.specs.declared.request.Return.{Return}
use Rattle.bare_machine.specs.declared.request.Touch.{Touch}
use Rattle.bare_machine.specs.declared.request.Operation.{Operation}
use Rattle.bare_machine.specs.declared.request.Request.{Request}
use Rattle.bare_machine.specs.declared.request.Request.TheVariants as kinds
use Rattle.guest_memory.specs.Reservations.{stands}
use Rattle.bare_machine.specs.Memory.{GuestMemory, offset, touched, reserved, written}
use Rattle.bare_machine.specs.World.{World}
use Rattle.bare_machine.specs.Requests as requests
use Rattle.bare_machine.specs.Step.{Step, with_registers}

-- the request of a thread that has these registers now
abbrev pub asked : Registers → Request → requests.Request
asked r kinds.Done = requests.done r
asked r (kinds.Return q) = requests.returned q.call q.answer q.object
asked r (kinds.Touch q) = requests.touch q.instr q.effect q.addr q.granule
asked r (kinds.Operate q) = requests.operate q.call q.addr q.size q.granule
asked r (kinds.Put word count) = requests.put word count
asked r (kinds.Create pc argument stack) = requests.create pc argument stack
asked r (kinds.Join of) = requests.join of
asked r (kinds.Stop end) = requests.stop end

-- unless the instruction is done, its thread is as it was
abbrev pub Keeps : Request → Thread → Thread → Type 0
Keeps kinds.Done old new = Unit {0}
Keeps _ old new = new ≡ old

abbrev pub IsUndone : Request → Type 0
IsUndone kinds.Done = ⊥
IsUndone _ = Unit {0}

-- the functions that are entered and not left stay countable
abbrev pub IsRoom : Call → ℕ → Type 0
IsRoom (calls.Enter pc) depth = depth < 4096
IsRoom _ depth = Unit {0}

-- any outcome with this answer may be told of the call
abbrev pub IsReturn : Return → Type 0
IsReturn r = (o : Outcome) → o.answer ≡ unwrap_or r.answer 0 → IsAnswered r.call o

-- the instruction's effect is one that memory can serve
pub record IsTouch (r : Touch) : Type 0 where
  pub instr : IsInstr r.instr
  pub placed : IsPlaced r.effect
  pub atomic : TellsAtomic (meaning r.instr.op) r.effect

-- the bytes lie in one granule, and any outcome may be told of the call
pub record IsOperation (r : Operation) : Type 0 where
  pub placed : IsField (offset r.addr) r.size
  pub call : IsCall r.call
  pub answered : (o : Outcome) → IsAnswered r.call o

-- what holds of each request that an instruction comes to
abbrev pub IsSound : Request → Type 0
IsSound kinds.Done = Unit {0}
IsSound (kinds.Return r) = IsReturn r
IsSound (kinds.Touch r) = IsTouch r
IsSound (kinds.Operate r) = IsOperation r
IsSound (kinds.Put word count) = count ≤ 8
IsSound (kinds.Create pc argument stack) = Unit {0}
IsSound (kinds.Join of) = Unit {0}
IsSound (kinds.Stop end) = Unit {0}

-- its thread may go so deep
abbrev pub IsShallow : Request → ℕ → Type 0
IsShallow (kinds.Return r) depth = IsRoom r.call depth
IsShallow _ depth = Unit {0}

-- the granule that is used is one of the file's
abbrev pub IsWithin : List ℕ → Request → Type 0
IsWithin file (kinds.Touch r) = r.granule < granules_of file
IsWithin file (kinds.Operate r) = r.granule < granules_of file
IsWithin file _ = Unit {0}

-- and one of so many
abbrev pub IsBelow : ℕ → Request → Type 0
IsBelow granules (kinds.Touch r) = r.granule < granules
IsBelow granules (kinds.Operate r) = r.granule < granules
IsBelow granules _ = Unit {0}

-- from the old world the thread's step, as `of` says it of the thread as it is, is this one
abbrev pub Takes : World → World → ℕ → List Event → Option ℕ → (Thread → Step) → Type 0
Takes old new tid events object of = (t : Thread) → slice_get old.threads tid ≡ Some t → of t ≡ record { world = new; events = events; object = object }

-- from the old memory an instruction gets this value, and leaves the new one
abbrev pub IsTouched : ℕ → GuestMemory → GuestMemory → Touch → ℕ → Type 0
IsTouched tid old new r value =
    let made = touched r.instr.op r.effect (slice_index old.words r.granule) (stands old.reservations tid r.granule) in
    (value ≡ made.value) × (new ≡ written (reserved old tid r.granule r.effect) r.granule made.written)

-- the thread has asked: unless its instruction is done, the world is as it was
pub record Asks (file : List ℕ) (old new : World) (tid : ℕ) (t : Thread) (r : Request) : Type 0 where
  pub thread : Thread
  pub world : new ≡ record old { threads = slice_set old.threads tid thread }
  pub is : thread ≡ with_registers t thread.regs
  pub value : asked thread.regs r ≡ requests.request file tid t
  pub kept : Keeps r t thread
