-- The desk as it begins.
use Rattle.std.proofs.Common.{◌≡◌, ℕ, zero, suc, true, false, List, refl, sym, ap, ◌∙◌}
use Rattle.std.specs.Prelude.{◌↔◌, Option, Some, None, replicate, slice_index_or}
use Rattle.run_record.specs.declared.limits.Limits.{Limits}
use Rattle.elf_image.specs.File.{entry}
use Rattle.bare_machine.specs.Step.{desk}
use Rattle.machine_desk.specs.Desks.{first_desk}
use Rattle.slot_desk.specs.Desks.{DeskContents, no_thread, thread_of}
use Rattle.slot_desk.specs.Steps.{new_desk}
use Rattle.shared_table.specs.declared.object.DeskState.{DeskState}
use Rattle.shared_table.specs.declared.object.Object.{Object}
use Rattle.shared_table.specs.declared.object.Object.TheVariants.{Stripe, Desk}
use Rattle.shared_table.specs.declared.view.Layout.{Layout}
use Rattle.shared_table.specs.Layouts.{first_of, IsLaidOut, IsFirstDesk}
use Rattle.whole_parts.specs.Dues.{HasDesk, LivesBy}

there : (file : List ℕ) (limits : Limits) (o : Option Object) → IsFirstDesk file limits o →
    (first : Object) × (o ≡ Some first) × HasDesk first (record { desk = new_desk limits; machine = first_desk (entry file); last = 0 })
there file limits None h = absurd h
there file limits (Some (Stripe s)) h = absurd h
there file limits (Some (Desk d)) h = (Desk d, refl, h)

pub first_there : (file : List ℕ) (limits : Limits) (lay : Layout) → IsLaidOut file limits lay →
    (first : Object) × (first_of lay desk ≡ Some first) × HasDesk first (record { desk = new_desk limits; machine = first_desk (entry file); last = 0 })
first_there file limits lay laid = there file limits (first_of lay desk) laid.desk

nobody : (n i : ℕ) → (slice_index_or (replicate n no_thread) i no_thread).lives ≡ false
nobody zero i = refl
nobody (suc n) zero = refl
nobody (suc n) (suc i) = nobody n i

lives_then : (limits : Limits) (t : ℕ) → (thread_of (new_desk limits) t).lives ≡ true → t ≡ 0
lives_then limits zero h = refl
lives_then limits (suc t) h = absurd (let e : true ≡ false = sym h ∙ nobody 1023 t in cc)

pub main_lives : (limits : Limits) (d : DeskState) (t : ℕ) → d.desk ≡ new_desk limits → LivesBy d t ↔ (t ≡ 0)
main_lives limits d t e = (
  λ h. lives_then limits t (ap (λ (c : DeskContents). (thread_of c t).lives) (sym e) ∙ h),
  λ z. ap (λ (c : DeskContents). (thread_of c t).lives) e ∙ ap (λ (n : ℕ). (thread_of (new_desk limits) n).lives) z,
)
