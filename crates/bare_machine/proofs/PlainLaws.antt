-- Steps without events: instructions of registers, loads and stores.
use Rattle.std.proofs.Common.{◌≡◌, ◌≢◌, ℕ, true, false, Bool, List, [], ◌++◌, ◌∷◌, length, Option, Some, None, slice_get, slice_set, refl, ap, ap₂, sym, ◌∙◌, subst, not}
use Rattle.std.specs.Prelude.{◌||◌, option_and_then, if◌then◌else◌, slice_index}
use Rattle.run_record.specs.declared.event.Event.TheVariants.{Begin}
use Rattle.rv_decode.specs.declared.instr.Instr.{Instr}
use Rattle.rv_decode.specs.Table.{instr_of}
use Rattle.rv_exec.specs.declared.exec.Effect.{Effect}
use Rattle.rv_exec.specs.declared.exec.Effect.TheVariants.{Local, Load, Store, Amo, Reserve, Conditional, Call, Fault}
use Rattle.rv_exec.specs.Effects.{KeepsUnlessDone}
use Rattle.rv_exec.specs.Registers.{Registers}
use Rattle.rv_exec.specs.Meaning.{Done, done_by, finished_by}
use Rattle.elf_image.specs.File.{word_at, granule_of, constant_word}
use Rattle.guest_memory.specs.Fields.{field, with_field}
use Rattle.guest_memory.specs.Reservations.{stands}
use Rattle.guest_code.specs.Decoded.{IsKnown}
use Rattle.guest_code.specs.Locals.{registers_of}
use Rattle.bare_machine.specs.declared.thread.Thread.{Thread}
use Rattle.bare_machine.specs.Memory.{GuestMemory, offset, stripe, touched, reserved, written}
use Rattle.bare_machine.specs.World.{World}
use Rattle.bare_machine.specs.Requests.{Request, touch, needs, effect_request, instruction_request, request_at, word_request, request}
use Rattle.bare_machine.specs.Preview.{thread_needs}
use Rattle.bare_machine.specs.Step.{serve, thread_step, with_registers, first_events}
use Rattle.bare_machine.specs.Plain.{IsPlainStep}
use Rattle.bare_machine.proofs.StepLemmas.{set_same}
use Rattle.bare_machine.proofs.LocalLaws.{local_step}

-- ---- the request of a decoded instruction

module _ (file : List ℕ) (tid : ℕ) (t : Thread) (i : Instr) where
  word_known : (o : Option ℕ) → option_and_then instr_of o ≡ Some i → word_request file tid t o ≡ instruction_request file tid t (Some i)
  word_known None h = absurd (cc)
  word_known (Some word) h = ap (instruction_request file tid t) h

  pub request_known : IsKnown file t.regs.pc i → request file tid t ≡ instruction_request file tid t (Some i)
  unfolding request
  request_known known = word_known (word_at file t.regs.pc) known.instr_is

  pub request_done : (d : Done) → IsKnown file t.regs.pc i → done_by i.op i t.regs ≡ d → request file tid t ≡ effect_request file tid (record t { regs = d.registers }) i d.effect
  request_done d known is = request_known known ∙ ap (λ (x : Done). effect_request file tid (record t { regs = x.registers }) i x.effect) is

pub known_at : (file : List ℕ) (pc at : ℕ) (i : Instr) → pc ≡ at → IsKnown file pc i → IsKnown file at i
known_at file pc at i same known = subst (λ (x : ℕ). IsKnown file x i) same known

pub granule_there : (file image : List ℕ) (a g : ℕ) → image ≡ file → Some g ≡ granule_of image a → granule_of file a ≡ Some g
granule_there file image a g same found = ap (λ (f : List ℕ). granule_of f a) (sym same) ∙ sym found

-- ---- what a thread makes of it

module _ (file : List ℕ) (tid : ℕ) (w : World) (t : Thread) (m : GuestMemory) (here : slice_get w.threads tid ≡ Some t) (memory_is : w.memory ≡ m) where
  abbrev after : Thread → GuestMemory → World
  after u n = record w { threads = slice_set w.threads tid u; memory = n }

  pub nothing_made : (u : Thread) → u ≡ t → after u m ≡ w
  nothing_made u same =
      ap (λ (x : Thread). after x m) same
      ∙ (ap (λ (ts : List Thread). record w { threads = ts; memory = m }) (set_same w.threads tid t here)
      ∙ ap (λ (x : GuestMemory). record w { memory = x }) (sym memory_is))

  module _ (began : t.began ≡ true) (i : Instr) (known : IsKnown file t.regs.pc i) where
    pub registers_made : (r : Registers) → done_by i.op i t.regs ≡ record { registers = r; effect = Local } → IsPlainStep file tid w (after (with_registers t r) m) false
    registers_made r is =
        let one = local_step file tid w t r here began (ap (option_and_then (λ (x : Instr). registers_of (done_by x.op x t.regs))) known.instr_is ∙ ap registers_of is) in
        record {
          object = None;
          uses_is = refl;
          step_is = one.step_is ∙ ap (λ (x : GuestMemory). record { world = after (with_registers t r) x; events = []; object = None }) memory_is;
          needless = one.needless;
          memory_stays = ap (λ (x : GuestMemory). length x.words) (sym memory_is);
        }

    -- it touches a granule
    module _ (effect : Effect) (addr g : ℕ) (asks : request file tid t ≡ touch i effect addr g) (n : GuestMemory) (r : Registers) where
      abbrev word : ℕ
      word = slice_index w.memory.words g

      touches :
          n ≡ written (reserved w.memory tid g effect) g (touched i.op effect word (stands w.memory.reservations tid g)).written →
          r ≡ finished_by i.op i t.regs (touched i.op effect word (stands w.memory.reservations tid g)).value →
          length n.words ≡ length m.words → IsPlainStep file tid w (after (with_registers t r) n) true
      touches n_is r_is same = record {
        object = Some (stripe addr);
        uses_is = refl;
        step_is =
            ap (thread_step file w tid) here
            ∙ (ap (serve w tid t) asks
            ∙ (ap (λ (x : GuestMemory). record { world = after (record t { regs = finished_by i.op i t.regs (touched i.op effect word (stands w.memory.reservations tid g)).value; began = true }) x; events = first_events t ++ []; object = Some (stripe addr) }) (sym n_is)
            ∙ (ap (λ (x : Registers). record { world = after (record t { regs = x; began = true }) n; events = first_events t ++ []; object = Some (stripe addr) }) (sym r_is)
            ∙ (ap (λ (b : Bool). record { world = after (record t { regs = r; began = b }) n; events = first_events t ++ []; object = Some (stripe addr) }) (sym began)
            ∙ ap (λ (b : Bool). record { world = after (with_registers t r) n; events = (if b then [] else Begin ∷ []) ++ []; object = Some (stripe addr) }) began))));
        needless = ap (thread_needs file tid) here ∙ (ap (λ (q : Request). not t.began || needs q) asks ∙ ap (λ (b : Bool). not b || false) began);
        memory_stays = same ∙ ap (λ (x : GuestMemory). length x.words) (sym memory_is);
      }

    pub word_loaded : (q : Registers) (addr size g value : ℕ) (r : Registers) → done_by i.op i t.regs ≡ record { registers = q; effect = Load addr size } → q ≡ t.regs → granule_of file addr ≡ Some g →
        value ≡ field (slice_index m.words g) (offset addr) size → r ≡ finished_by i.op i q value → IsPlainStep file tid w (after (with_registers t r) m) true
    word_loaded q addr size g value r is same granule value_is r_is =
        touches (Load addr size) addr g
        (request_done file tid t i (record { registers = q; effect = Load addr size }) known is ∙ ap (λ (o : Option ℕ). request_at tid (record t { regs = q }) i (Load addr size) addr o (constant_word file addr)) granule)
        m r (sym memory_is)
        (r_is ∙ (ap₂ (finished_by i.op i) same value_is ∙ ap (λ (x : GuestMemory). finished_by i.op i t.regs (field (slice_index x.words g) (offset addr) size)) (sym memory_is)))
        refl

    pub word_stored : (q : Registers) (addr size value g stored : ℕ) (n : GuestMemory) (r : Registers) → done_by i.op i t.regs ≡ record { registers = q; effect = Store addr size value } → q ≡ t.regs → granule_of file addr ≡ Some g →
        stored ≡ with_field (slice_index m.words g) (offset addr) size value → n ≡ written m g (Some stored) → length n.words ≡ length m.words → r ≡ finished_by i.op i q 0 → IsPlainStep file tid w (after (with_registers t r) n) true
    word_stored q addr size value g stored n r is same granule stored_is n_is long r_is =
        touches (Store addr size value) addr g
        (request_done file tid t i (record { registers = q; effect = Store addr size value }) known is ∙ ap (λ (o : Option ℕ). request_at tid (record t { regs = q }) i (Store addr size value) addr o (constant_word file addr)) granule)
        n r
        (n_is ∙ (ap (λ (x : ℕ). written m g (Some x)) stored_is ∙ ap (λ (x : GuestMemory). written x g (Some (with_field (slice_index x.words g) (offset addr) size value))) (sym memory_is)))
        (r_is ∙ ap (λ (x : Registers). finished_by i.op i x 0) same)
        long

-- ---- registers that stay

pub same_registers : (t : Thread) (r : Registers) → r ≡ t.regs → with_registers t r ≡ t
same_registers t r is = ap (with_registers t) is

pub kept_registers : (e : Effect) (old new : Registers) → KeepsUnlessDone e old new → e ≢ Local → new ≡ old
kept_registers Local old new kept other = absurd (other refl)
kept_registers (Load a n) old new kept other = kept
kept_registers (Store a n v) old new kept other = kept
kept_registers (Amo a n arg) old new kept other = kept
kept_registers (Reserve a n) old new kept other = kept
kept_registers (Conditional a n v) old new kept other = kept
kept_registers Call old new kept other = kept
kept_registers (Fault f) old new kept other = kept
