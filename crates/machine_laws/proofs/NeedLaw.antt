-- An instruction that needs no slot has no event but an output.
use Rattle.std.proofs.Common.{not, ◌≡◌, ℕ, Bool, true, false, List, [], ◌++◌, slice_get, Option, Some, None, refl, sym, unwrap_or}
use Rattle.std.specs.List.{list_all}
use Rattle.std.proofs.lemmas.Bool.{or_parts}
use Rattle.run_record.specs.declared.event.Event.{Event}
use Rattle.entry_calls.specs.declared.call.Call.{Call}
use Rattle.entry_calls.specs.declared.call.Call.TheVariants as calls
use Rattle.entry_calls.specs.declared.call.Outcome.{Outcome}
use Rattle.entry_calls.specs.Effects as by_call
use Rattle.entry_calls.specs.Effects.{events_by}
use Rattle.bare_machine.specs.declared.thread.Thread.{Thread}
use Rattle.bare_machine.specs.World.{World}
use Rattle.bare_machine.specs.Requests.{Request, done, returned, touch, put, needs, request}
use Rattle.bare_machine.specs.Step.{Step, step, serve, thread_step, first_events, outcome}
use Rattle.bare_machine.specs.Preview.{thread_needs, needs_slot}
use Rattle.machine_laws.specs.Events.{is_put}

abbrev OnlyPuts : Step → Type 0
OnlyPuts s = list_all is_put s.events ≡ true

after_first : (x : Thread) (es : List Event) → x.began ≡ true → list_all is_put es ≡ true → list_all is_put (first_events x ++ es) ≡ true
after_first x es began puts = rw began puts

call_puts : (c : Call) (o : Outcome) → by_call.needs c ≡ false → list_all is_put (events_by c o) ≡ true
call_puts (calls.Put word count) o n = refl
call_puts calls.Yield o n = refl
call_puts calls.MutexCreate o n = refl
call_puts calls.Fence o n = refl
call_puts _ o n = absurd (cc)

served_puts : (w : World) (t : ℕ) (x : Thread) (r : Request) → x.began ≡ true → needs r ≡ false → OnlyPuts (serve w t x r)
served_puts w t x (done r) began n = after_first x [] began refl
served_puts w t x (returned call answer object) began n = after_first x (events_by call (outcome x false (unwrap_or answer 0))) began (call_puts call _ n)
served_puts w t x (touch i effect addr g) began n = after_first x [] began refl
served_puts w t x (put word count) began n = after_first x _ began refl
served_puts w t x _ began n = absurd (cc)

not_false : (b : Bool) → not b ≡ false → b ≡ true
not_false true e = refl
not_false false e = sym e

thread_puts : (file : List ℕ) (w : World) (t : ℕ) (o : Option Thread) → thread_needs file t o ≡ false → OnlyPuts (thread_step file w t o)
thread_puts file w t None n = refl
thread_puts file w t (Some x) n =
    let parts = or_parts (not x.began) (needs (request file t x)) n in
    served_puts w t x (request file t x) (not_false x.began parts.0) parts.1

pub needs_is : (file : List ℕ) (w : World) (t : ℕ) → needs_slot file w t ≡ false → list_all is_put (step file w t).events ≡ true
needs_is file w t n = thread_puts file w t (slice_get w.threads t) n
