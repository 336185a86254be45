-- Whether an access is the sought one, and what is told of it.
use Rattle.std.proofs.Common.{◌≡◌, ℕ, ◌∷◌, ◌==◌, ◌&&◌, Bool, true, false, if◌then◌else◌, List, Option, Some, None, refl, sym, ◌∙◌, ap}
use Rattle.std.proofs.lemmas.Bool.{eq-eqb, ne_eqb}
use Rattle.run_record.specs.declared.entry.Label.{Label}
use Rattle.run_record.specs.declared.report.KeptLock.{KeptLock}
use Rattle.run_laws.specs.Accesses.{Access as Announced}
use Rattle.run_laws.specs.Words.{word_of}
use Rattle.trace_parts.specs.declared.event.TraceEvent.{TraceEvent}
use Rattle.trace_parts.specs.declared.event.TraceEvent.TheVariants.{Access}
use Rattle.trace_parts.specs.declared.restored.Restored.{Restored}
use Rattle.trace_parts.specs.declared.restored.Restored.TheVariants.{Found}
use Rattle.trace_parts.specs.Spelling.{told}
use Rattle.trace_parts.specs.Snapshot.{Snapshot}
use Rattle.trace_parts.specs.Sought.{access, mask_at, leaves_word, is_under, told_if}

-- by its mask, an access with bytes there
pub left_some : (l : Label) (address word mask : ℕ) (under : Bool) (a : Announced) (b : Bool) → mask ≡ mask_at a address → under ≡ true → (mask ≡ 0 → ⊥) → b ≡ (word_of mask l a.read a.atomic == word) → b ≡ (under && leaves_word l address word a)
left_some l address word mask under a b m is some h =
    let e : (mask == 0) ≡ false = ne_eqb mask 0 some in
    rw (is, ← m, e) h

-- and one without
pub left_none : (l : Label) (address word mask : ℕ) (under : Bool) (a : Announced) → mask ≡ mask_at a address → under ≡ true → mask ≡ 0 → false ≡ (under && leaves_word l address word a)
left_none l address word mask under a m is none =
    let e : (mask == 0) ≡ true = eq-eqb mask 0 none in
    rw (is, ← m, e) refl

by_test_none : (b : Bool) (x : Restored) → false ≡ b → None ≡ (if b then Some x else None)
by_test_none b x h = rw (← h) refl

by_test_some : (b : Bool) (x : Restored) → true ≡ b → Some x ≡ (if b then Some x else None)
by_test_some b x h = rw (← h) refl

-- nothing is told of another access
pub told_none : (l : Label) (address word : ℕ) (s : Snapshot) (e : TraceEvent) (place addr size : ℕ) (read atomic under : Bool) → e ≡ Access place addr size read atomic → under ≡ is_under l s.label → false ≡ (under && leaves_word l address word (access place addr size read atomic)) → None ≡ told_if l address word s (told e)
told_none l address word s e place addr size read atomic under is same other =
    by_test_none (is_under l s.label && leaves_word l address word (access place addr size read atomic)) (Found place addr size (place ∷ s.frames) s.locks) (other ∙ ap (λ (b : Bool). b && leaves_word l address word (access place addr size read atomic)) same)
    ∙ ap (λ (f : TraceEvent). told_if l address word s (told f)) (sym is)

-- the sought access is told with its stack and locks
pub told_some :
    (l : Label) (address word : ℕ) (s : Snapshot) (e : TraceEvent) (place addr size : ℕ) (read atomic under : Bool) (found : Restored) → e ≡ Access place addr size read atomic → under ≡ is_under l s.label →
    true ≡ (under && leaves_word l address word (access place addr size read atomic)) → found ≡ Found place addr size (place ∷ s.frames) s.locks → Some found ≡ told_if l address word s (told e)
told_some l address word s e place addr size read atomic under found is same it told_so =
    ap Some told_so
    ∙ by_test_some (is_under l s.label && leaves_word l address word (access place addr size read atomic)) (Found place addr size (place ∷ s.frames) s.locks) (it ∙ ap (λ (b : Bool). b && leaves_word l address word (access place addr size read atomic)) same)
    ∙ ap (λ (f : TraceEvent). told_if l address word s (told f)) (sym is)
