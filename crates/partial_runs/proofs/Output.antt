-- The output grows with each instruction.
use Rattle.std.proofs.Common.{ℕ, zero, suc, Bool, true, false, cond, List, [], ◌∷◌, ◌++◌, Option, Some, None, sym, subst, length, take, slice_get}
use Rattle.std.specs.Prelude.{fold}
use Rattle.std.specs.Int.{w64, to_le_bytes}
use Rattle.std.proofs.lemmas.List.Sums.{fold-append}
use Rattle.run_record.specs.declared.entry.Entry.{Entry}
use Rattle.entry_calls.specs.declared.call.Call.TheVariants as calls
use Rattle.bare_machine.specs.declared.thread.Thread.{Thread}
use Rattle.bare_machine.specs.World.{World, new_thread}
use Rattle.bare_machine.specs.Requests.{Request, done, returned, touch, operate, put, create, join, stop, request}
use Rattle.bare_machine.specs.Step.{step, serve, thread_step, is_full, desk_returns, minus}
use Rattle.run_laws.specs.Faithful.{after, state_after}
use Rattle.machine_laws.specs.Machine.{bare_of}
use Rattle.partial_runs.specs.Starts.{BeginsWith}
use Rattle.partial_runs.proofs.Lists.{begins_itself, begins_push, begins_twice}

module _ (file : List ℕ) where
  create_grows : (w : World) (t : ℕ) (x : Thread) (pc argument stack : ℕ) (full : Bool) →
      BeginsWith (cond full (desk_returns w t x (calls.Create pc argument stack) (minus 11))
      (desk_returns (record w { threads = w.threads ++ new_thread pc argument stack ∷ [] }) t x (calls.Create pc argument stack)
      (length w.threads))).world.output w.output
  create_grows w t x pc argument stack true = begins_itself w.output
  create_grows w t x pc argument stack false = begins_itself w.output

  serve_grows : (w : World) (t : ℕ) (x : Thread) (r : Request) → BeginsWith (serve w t x r).world.output w.output
  serve_grows w t x (done regs) = begins_itself w.output
  serve_grows w t x (returned call answer object) = begins_itself w.output
  serve_grows w t x (touch i effect addr g) = begins_itself w.output
  serve_grows w t x (operate call addr size g) = begins_itself w.output
  serve_grows w t x (put word count) = begins_push w.output (take count (to_le_bytes w64 word))
  serve_grows w t x (create pc argument stack) = create_grows w t x pc argument stack (is_full w)
  serve_grows w t x (join of) = begins_itself w.output
  serve_grows w t x (stop end) = begins_itself w.output

  thread_grows : (w : World) (t : ℕ) (o : Option Thread) → BeginsWith (thread_step file w t o).world.output w.output
  thread_grows w t None = begins_itself w.output
  thread_grows w t (Some x) = serve_grows w t x (request file t x)

  step_grows : (w : World) (t : ℕ) → BeginsWith (step file w t).world.output w.output
  step_grows w t = thread_grows w t (slice_get w.threads t)

  module _ (harts : ℕ) where
    after_grows : (w : World) (t n : ℕ) → BeginsWith (after (bare_of file harts) w t n).output w.output
    after_grows w t zero = begins_itself w.output
    after_grows w t (suc n) = begins_twice (step_grows (after (bare_of file harts) w t n) t) (after_grows w t n)

    entries_grow : (w : World) (es : List Entry) →
        BeginsWith (fold (λ (s : World) (e : Entry). after (bare_of file harts) s e.tid e.steps) w es).output w.output
    entries_grow w [] = begins_itself w.output
    entries_grow w (e ∷ es) = begins_twice (entries_grow (after (bare_of file harts) w e.tid e.steps) es) (after_grows w e.tid e.steps)

    -- the output of a history begins that of each longer one
    pub output_grows : (start later : List Entry) →
        BeginsWith (state_after (bare_of file harts) (start ++ later)).output (state_after (bare_of file harts) start).output
    output_grows start later =
        subst (λ (w : World). BeginsWith w.output (state_after (bare_of file harts) start).output)
        (sym (fold-append (λ (s : World) (e : Entry). after (bare_of file harts) s e.tid e.steps) (bare_of file harts).start start later))
        (entries_grow (state_after (bare_of file harts) start) later)
