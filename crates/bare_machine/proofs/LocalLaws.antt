-- Instructions that touch registers alone are steps without events and objects.
use Rattle.std.proofs.Common.{◌≡◌, ℕ, zero, suc, true, false, List, [], ◌∷◌, ◌++◌, Option, Some, None, slice_get, slice_set, refl, ap, sym, ◌∙◌, subst, Bool, not, arith}
use Rattle.std.specs.Prelude.{◌||◌, option_and_then, if◌then◌else◌}
use Rattle.run_record.specs.declared.event.Event.TheVariants.{Begin}
use Rattle.rv_decode.specs.declared.instr.Instr.{Instr}
use Rattle.rv_decode.specs.Table.{instr_of}
use Rattle.rv_exec.specs.declared.exec.Effect.{Effect}
use Rattle.rv_exec.specs.declared.exec.Effect.TheVariants as effects
use Rattle.rv_exec.specs.Registers.{Registers}
use Rattle.rv_exec.specs.Meaning.{done_by}
use Rattle.elf_image.specs.File.{word_at}
use Rattle.guest_code.specs.Locals.{registers_where, registers_of, local, locals}
use Rattle.bare_machine.specs.declared.thread.Thread.{Thread}
use Rattle.bare_machine.specs.World.{World}
use Rattle.bare_machine.specs.Requests.{Request, done, needs, effect_request, instruction_request, word_request, request}
use Rattle.bare_machine.specs.Preview.{thread_needs}
use Rattle.bare_machine.specs.Step.{serve, thread_step, with_registers, first_events}
use Rattle.bare_machine.specs.Locals.{IsLocalStep, AreLocalSteps, NoStep, OneMore, MakesLocals}
use Rattle.bare_machine.proofs.StepLemmas.{within, get_set, set_set, set_same}

-- ---- one instruction

module _ (file : List ℕ) (tid : ℕ) (t : Thread) (r : Registers) where
  effect_local : (i : Instr) (effect : Effect) (q : Registers) → registers_where effect q ≡ Some r → effect_request file tid (record t { regs = q }) i effect ≡ done r
  effect_local i effects.Local q h = let e : q ≡ r = cc in ap done e
  effect_local i _ q h = absurd (cc)

  instr_local : (o : Option Instr) → option_and_then (λ (i : Instr). registers_of (done_by i.op i t.regs)) o ≡ Some r → instruction_request file tid t o ≡ done r
  instr_local None h = absurd (cc)
  instr_local (Some i) h = let d = done_by i.op i t.regs in effect_local i d.effect d.registers h

  word_local : (o : Option ℕ) → option_and_then (λ (i : Instr). registers_of (done_by i.op i t.regs)) (option_and_then instr_of o) ≡ Some r → word_request file tid t o ≡ done r
  word_local None h = absurd (cc)
  word_local (Some word) h = instr_local (instr_of word) h

  pub request_local : local file t.regs ≡ Some r → request file tid t ≡ done r
  unfolding request
  request_local h = word_local (word_at file t.regs.pc) h

-- ---- one step

module _ (file : List ℕ) (tid : ℕ) (w : World) (t : Thread) (r : Registers) (here : slice_get w.threads tid ≡ Some t) (began : t.began ≡ true) (is : local file t.regs ≡ Some r) where
  abbrev after : World
  after = record w { threads = slice_set w.threads tid (with_registers t r) }

  same : record t { regs = r; began = true } ≡ with_registers t r
  same = ap (λ (b : Bool). record t { regs = r; began = b }) (sym began)

  pub local_step : IsLocalStep file tid w after
  local_step = record {
    step_is =
        ap (thread_step file w tid) here
        ∙ (ap (serve w tid t) (request_local file tid t r is)
        ∙ (ap (λ (u : Thread). record { world = record w { threads = slice_set w.threads tid u }; events = first_events t ++ []; object = None }) same
        ∙ ap (λ (b : Bool). record { world = after; events = (if b then [] else Begin ∷ []) ++ []; object = None }) began));
    needless = ap (thread_needs file tid) here ∙ (ap (λ (q : Request). not t.began || needs q) (request_local file tid t r is) ∙ ap (λ (b : Bool). not b || false) began);
    memory_stays = refl;
  }

-- ---- so many

module _ (file : List ℕ) (tid : ℕ) (w : World) (t : Thread) (here : slice_get w.threads tid ≡ Some t) (began : t.began ≡ true) where
  abbrev with : Registers → World
  with r = record w { threads = slice_set w.threads tid (with_registers t r) }

  none_made : (r : Registers) → r ≡ t.regs → AreLocalSteps file tid w zero (with r)
  none_made r e =
      subst (AreLocalSteps file tid w zero)
      (ap (λ (ts : List Thread). record w { threads = ts }) (sym (set_same w.threads tid t here)) ∙ ap with (sym e)) NoStep

  one_more : (n : ℕ) (q r : Registers) → AreLocalSteps file tid w n (with q) → local file q ≡ Some r → AreLocalSteps file tid w (suc n) (with r)
  one_more n q r so_far is =
      OneMore n (with q) (with r) so_far
      (subst (IsLocalStep file tid (with q)) (ap (λ (ts : List Thread). record w { threads = ts }) (set_set w.threads tid (with_registers t q) (with_registers t r)))
      (local_step file tid (with q) (with_registers t q) r (get_set w.threads tid (with_registers t q) (within w.threads tid t here)) began is))

  next_made : (n : ℕ) (r : Registers) → ((q : Registers) → locals file n t.regs ≡ Some q → AreLocalSteps file tid w n (with q)) → (o : Option Registers) → locals file n t.regs ≡ o → option_and_then (local file) o ≡ Some r → AreLocalSteps file tid w (suc n) (with r)
  next_made n r so_far None e h = absurd (cc)
  next_made n r so_far (Some q) e h = one_more n q r (so_far q e) h

  pub locals_made : (n : ℕ) (r : Registers) → locals file n t.regs ≡ Some r → AreLocalSteps file tid w n (with r)
  unfolding locals
  locals_made zero r e = none_made r (let f : r ≡ t.regs = cc in f)
  locals_made (suc n) r e = next_made n r (λ q. locals_made n q) (locals file n t.regs) refl e

-- where none is made, the thread stays as it is
pub locals_none : (file : List ℕ) (tid : ℕ) (w : World) (t : Thread) → slice_get w.threads tid ≡ Some t → AreLocalSteps file tid w zero (record w { threads = slice_set w.threads tid t })
locals_none file tid w t here = subst (AreLocalSteps file tid w zero) (ap (λ (ts : List Thread). record w { threads = ts }) (sym (set_same w.threads tid t here))) NoStep

pub makes_none : (file : List ℕ) (t : Thread) → MakesLocals file t zero t
unfolding locals
makes_none file t = record { thread = refl; registers = refl; began = λ some. absurd (omega arith) }
