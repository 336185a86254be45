-- A part grows by instructions that touch registers alone.
use Rattle.std.proofs.Common.{◌≡◌, inl, ℕ, zero, suc, ◌+◌, Bool, true, false, not, Option, Some, None, List, [], ◌∷◌, ◌++◌, append-nil, refl, ap, ap₂, sym, subst, ◌∙◌, arith}
use Rattle.std.specs.Prelude.{◌||◌, option_and_then, if◌then◌else◌}
use Rattle.run_record.specs.declared.event.Event.TheVariants.{Begin}
use Rattle.run_record.specs.declared.limits.Limits.{Limits}
use Rattle.run_record.specs.declared.event.Event.{Event}
use Rattle.run_record.specs.declared.entry.Check.{Check}
use Rattle.run_record.specs.declared.entry.Label.{Label}
use Rattle.report_laws.specs.Awaited.{Awaited}
use Rattle.rv_exec.specs.Registers.{Registers}
use Rattle.guest_code.specs.Locals.{local, locals}
use Rattle.bare_machine.specs.declared.thread.Thread.{Thread}
use Rattle.bare_machine.specs.Requests.{Request, needs, object_of}
use Rattle.bare_machine.specs.Step.{with_registers}
use Rattle.bare_machine.specs.Locals.{MakesLocals}
use Rattle.bare_machine.specs.Preview.{thread_needs}
use Rattle.bare_machine.proofs.LocalLaws.{request_local}
use Rattle.turn_orders.specs.LineUp.{Stamped}
use Rattle.place_turns.specs.Places.{Local, Value}
use Rattle.place_turns.specs.Turns.{steps, served, bare_turn}
use Rattle.place_turns.specs.Places.{IsAt}
use Rattle.turn_histories.specs.Entries.{next_object}
use Rattle.shared_table.specs.Past.{Log}
use Rattle.placed_detector.specs.Standing.{Hand}
use Rattle.deed_histories.specs.Deeds.{Made}
use Rattle.part_races.specs.Rounds.{Tagged}
use Rattle.part_growth.specs.Growth.{Gathered, MakesLocal, gathered_with, IsPlain, ArePlain, with_bare, gathered_more, Owing, nothing, needy, leave_of, IsPaidBy, SoFar}
use Rattle.part_growth.proofs.Awaiting.{quiet_one}
use Rattle.part_growth.proofs.Growing.{local_grows}

-- an instruction without events or checks
abbrev plain_made : Made
plain_made = record { loads = λ i n j. 0; events = []; checks = [] }

-- ---- they are gathered

module _ (file : List ℕ) (limits : Limits) (era t : ℕ) where
  plain_is_local : (now : Hand) (bare : Local) → now.watched.era ≡ era → IsPlain file limits.harts t now.bare bare →
      MakesLocal file limits.harts era t plain_made now (with_bare now bare)
  plain_is_local now bare present p = record {
    instruction = λ k held. record {
      present = present;
      at = record {
        thread = p.alive.thread;
        arrived = p.alive.arrived;
        place = subst (IsAt k) (sym (ap (next_object file t) (sym p.alive.arrived) ∙ p.without_object)) tt;
      };
      stepped = p.turned held.bare;
      heard = refl;
    };
    alive = p.alive;
    without_object = p.without_object;
    local_events = tt;
  }

  -- they pay nothing
  pays_nothing : (now : Hand) (owed : Owing) → thread_needs file t now.bare.thread ≡ false → IsPaidBy file t now owed owed
  pays_nothing now nothing without = refl
  pays_nothing now needy without = inl (refl, λ q. absurd (let r = without in cc))
  pays_nothing now (leave_of l) without = refl

  one_gathered : (g : Gathered) → gathered_with g [] [] [] ≡ gathered_more g 1
  one_gathered g = ap₂ (λ (es : List Event) (cs : List Check). record { steps = g.steps + 1; events = es; checks = cs; awaits = g.awaits ++ [] })
      (append-nil g.events) (append-nil g.checks)
      ∙ ap (λ (ws : List Awaited). record { steps = g.steps + 1; events = g.events; checks = g.checks; awaits = ws }) (append-nil g.awaits)

  more_gathered : (g : Gathered) (n : ℕ) → gathered_more (gathered_more g n) 1 ≡ gathered_more g (suc n)
  more_gathered g n = let e : g.steps + n + 1 ≡ g.steps + suc n = omega arith in
      ap (λ (m : ℕ). record { steps = m; events = g.events; checks = g.checks; awaits = g.awaits }) e

  none_gathered : (g : Gathered) → g ≡ gathered_more g 0
  none_gathered g = let e : g.steps ≡ g.steps + 0 = omega arith in
      ap (λ (m : ℕ). record { steps = m; events = g.events; checks = g.checks; awaits = g.awaits }) e

  -- one more
  plain_grows : (before : Stamped Hand) (log : Log) (told : List Tagged) (found now : Hand) (last : ℕ) (g : Gathered) (owed : Owing) (bare : Local) →
      SoFar file limits era t before log told found now last g owed → now.watched.era ≡ era → ((l : Label) → owed ≡ leave_of l → ⊥) →
      IsPlain file limits.harts t now.bare bare → SoFar file limits era t before log told found (with_bare now bare) last (gathered_more g 1) owed
  plain_grows before log told found now last g owed bare s present unspent p =
      subst (λ (h : Gathered). SoFar file limits era t before log told found (with_bare now bare) last h owed) (one_gathered g)
      (local_grows file limits era t before log log told found now (with_bare now bare) last g owed owed plain_made [] s (plain_is_local now bare present p)
      (quiet_one file limits era t plain_made now (with_bare now bare) (plain_is_local now bare present p) refl) tt (sym (append-nil log))
      (λ q. absurd (let r = p.without_need in cc)) unspent (pays_nothing now owed p.without_need))

  -- so many instructions that touch registers alone are gathered
  pub plain_grow : (before : Stamped Hand) (log : Log) (told : List Tagged) (found now : Hand) (last : ℕ) (g : Gathered) (owed : Owing) (n : ℕ)
      (bare : Local) →
      SoFar file limits era t before log told found now last g owed → now.watched.era ≡ era → ((l : Label) → owed ≡ leave_of l → ⊥) →
      ArePlain file limits.harts t n now.bare bare → SoFar file limits era t before log told found (with_bare now bare) last (gathered_more g n) owed
  plain_grow before log told found now last g owed zero bare s present unspent p =
      subst (λ (b : Local). SoFar file limits era t before log told found (with_bare now b) last (gathered_more g 0) owed) p
      (subst (λ (h : Gathered). SoFar file limits era t before log told found now last h owed) (none_gathered g) s)
  plain_grow before log told found now last g owed (suc n) bare s present unspent p =
      subst (λ (h : Gathered). SoFar file limits era t before log told found (with_bare now bare) last h owed) (more_gathered g n)
      (plain_grows before log told found (with_bare now p.0) last (gathered_more g n) owed bare
      (plain_grow before log told found now last g owed n p.0 s present unspent p.1) present unspent p.2)

-- ---- instructions of a file that touch registers alone

module _ (file : List ℕ) (harts t : ℕ) (x : Thread) (reserved : Option ℕ) (lives : x.lives ≡ true) (began : x.began ≡ true) where
  abbrev own : Registers → Local
  own r = record { thread = Some (with_registers x r); reserved = reserved }

  one_turned : (q r : Registers) → local file q ≡ Some r → (v : Value) → bare_turn file harts t steps (own q) v ≡ record { local = own r; value = v; told = [] }
  one_turned q r is v =
      ap (served harts t (own q) v (with_registers x q)) (request_local file t (with_registers x q) r is)
      ∙ (ap (λ (b : Bool). record {
        local = record (own q) { thread = Some (record x { regs = r; began = true }) };
        value = v;
        told = (if b then [] else Begin ∷ []) ++ [];
      }) began
      ∙ ap (λ (b : Bool). record { local = record (own q) { thread = Some (record x { regs = r; began = b }) }; value = v; told = [] }) (sym began))

  one_plain : (q r : Registers) → local file q ≡ Some r → IsPlain file harts t (own q) (own r)
  one_plain q r is = record {
    alive = record { thread = with_registers x q; arrived = refl; lives = lives };
    without_object = ap object_of (request_local file t (with_registers x q) r is);
    without_need = ap (λ (z : Request). not x.began || needs z) (request_local file t (with_registers x q) r is) ∙ ap (λ (b : Bool). not b || false) began;
    turned = one_turned q r is;
  }

  next_plain : (n : ℕ) (r : Registers) → ((q : Registers) → locals file n x.regs ≡ Some q → ArePlain file harts t n (own x.regs) (own q)) →
      (o : Option Registers) →
      locals file n x.regs ≡ o → option_and_then (local file) o ≡ Some r → ArePlain file harts t (suc n) (own x.regs) (own r)
  next_plain n r so_far None e is = absurd (cc)
  next_plain n r so_far (Some q) e is = (own q, so_far q e, one_plain q r is)

  plain_made_by : (n : ℕ) (r : Registers) → locals file n x.regs ≡ Some r → ArePlain file harts t n (own x.regs) (own r)
  unfolding locals
  plain_made_by zero r e = let f : x.regs ≡ r = cc in ap own f
  plain_made_by (suc n) r e = next_plain n r (λ q. plain_made_by n q) (locals file n x.regs) refl e

-- The instructions of a thread that lives, which a file's code makes in a row.
pub plain_locals : (file : List ℕ) (harts t n : ℕ) (old new : Thread) (reserved : Option ℕ) → old.lives ≡ true → MakesLocals file old n new →
    ArePlain file harts t n (record { thread = Some old; reserved = reserved }) (record { thread = Some new; reserved = reserved })
unfolding locals
plain_locals file harts t zero old new reserved lives made =
    let f : old.regs ≡ new.regs = same_some old.regs new.regs made.registers in
    ap (λ (y : Thread). record { thread = Some y; reserved = reserved }) (ap (with_registers old) f ∙ sym made.thread)
  where
    same_some : (a b : Registers) → Some a ≡ Some b → a ≡ b
    same_some a b q = cc
plain_locals file harts t (suc n) old new reserved lives made =
    subst (λ (y : Thread). ArePlain file harts t (suc n) (record { thread = Some old; reserved = reserved }) (record { thread = Some y; reserved = reserved }))
    (sym made.thread)
    (plain_made_by file harts t old reserved lives (made.began (omega arith)) (suc n) new.regs made.registers)
