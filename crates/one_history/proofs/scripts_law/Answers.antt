use Rattle.std.proofs.Common.{◌≡◌, ℕ, if◌then◌else◌, Option, Some, None, List, [], ◌∷◌, refl}
use Rattle.std.specs.Prelude.{All, is_some}
use Rattle.std.proofs.lemmas.List.Elements.{All-nil, All-cons}
use Rattle.run_record.specs.declared.event.Event.{Event}
use Rattle.run_record.specs.declared.event.Event.TheVariants as events
use Rattle.run_laws.specs.Scripts.{object_for, object_in}
use Rattle.one_history.specs.Reached.{LeavesLabel}
use Rattle.one_history.proofs.scripts_law.Goals as goal

without_object : (e : Event) → object_for e ≡ None → LeavesLabel e
without_object events.Begin q = (refl, refl)
without_object (events.Create child) q = absurd cc
without_object events.End q = absurd cc
without_object (events.Join child) q = (refl, refl)
without_object (events.Enter frame) q = (refl, refl)
without_object events.Leave q = (refl, refl)
without_object (events.Lock addr read) q = (refl, refl)
without_object (events.Unlock addr read) q = (refl, refl)
without_object (events.Acquire addr part) q = (refl, refl)
without_object (events.Release addr part replaces) q = absurd cc
without_object (events.Destroy addr) q = (refl, refl)
without_object (events.Clear addr) q = (refl, refl)
without_object (events.Access place addr size read atomic) q = (refl, refl)
without_object (events.Put value count) q = (refl, refl)

all_without : (es : List Event) → object_in es ≡ None → All LeavesLabel es
all_without [] q = All-nil LeavesLabel
all_without (e ∷ es) q = go (all_without es) (object_for e) refl q
  where
    go : (object_in es ≡ None → All LeavesLabel es) → (o : Option ℕ) → object_for e ≡ o → (if is_some o then o else object_in es) ≡ None → All LeavesLabel (e ∷ es)
    go rest None r q = All-cons LeavesLabel e es (without_object e r) (rest q)
    go rest (Some n) r q = absurd cc

pub returns : goal.returns
returns c = λ scripts s t comes lives none. all_without _ none
