-- What a thread that begins was given.
use Rattle.std.proofs.Common.{◌≡◌, ℕ, Bool, true, false, List, [], ◌∷◌, Option, None, refl, ap, sym, subst, ◌∙◌}
use Rattle.std.specs.Prelude.{All}
use Rattle.std.proofs.lemmas.List.Elements.{All-head, All-tail}
use Rattle.run_record.specs.declared.event.Event.{Event}
use Rattle.run_record.specs.declared.event.Event.TheVariants as events
use Rattle.run_record.specs.declared.limits.Limits.{Limits}
use Rattle.placed_detector.specs.Instructions.{given_after}
use Rattle.hart_turns.specs.Places.{IsGivenAs}
use Rattle.hart_turns.specs.Instructions.{given_after_all, AreGivenAs}
use Rattle.part_workers.specs.Begin.{IsLater, BeginsFirst}
use Rattle.part_workers.specs.Turns.{IsGivenIn}
use Rattle.part_workers.specs.Standing.{IsGivenTo}

-- an event that begins no thread takes nothing
later_as : (slots : ℕ) (given : Option (Option (List ℕ))) (clock : List ℕ) (e : Event) → IsLater e → IsGivenAs slots given clock e
later_as slots given clock events.Begin h = absurd (let r : true ≡ false = h in cc)
later_as slots given clock (events.Access place addr size read atomic) h = tt
later_as slots given clock (events.Acquire addr part) h = tt
later_as slots given clock (events.Release addr part replaces) h = tt
later_as slots given clock (events.Destroy addr) h = tt
later_as slots given clock (events.Clear addr) h = tt
later_as slots given clock (events.Create child) h = tt
later_as slots given clock (events.Join of) h = tt
later_as slots given clock events.End h = tt
later_as slots given clock (events.Enter frame) h = tt
later_as slots given clock events.Leave h = tt
later_as slots given clock (events.Lock addr read) h = tt
later_as slots given clock (events.Unlock addr read) h = tt
later_as slots given clock (events.Put value count) h = tt

later_keeps : (given : Option (Option (List ℕ))) (e : Event) → IsLater e → given_after e given ≡ given
later_keeps given events.Begin h = absurd (let r : true ≡ false = h in cc)
later_keeps given (events.Access place addr size read atomic) h = refl
later_keeps given (events.Acquire addr part) h = refl
later_keeps given (events.Release addr part replaces) h = refl
later_keeps given (events.Destroy addr) h = refl
later_keeps given (events.Clear addr) h = refl
later_keeps given (events.Create child) h = refl
later_keeps given (events.Join of) h = refl
later_keeps given events.End h = refl
later_keeps given (events.Enter frame) h = refl
later_keeps given events.Leave h = refl
later_keeps given (events.Lock addr read) h = refl
later_keeps given (events.Unlock addr read) h = refl
later_keeps given (events.Put value count) h = refl

-- nor do many
all_later : (slots : ℕ) (given : Option (Option (List ℕ))) (clock : List ℕ) (es : List Event) → All IsLater es → AreGivenAs slots given clock es
all_later slots given clock [] h = tt
all_later slots given clock (e ∷ es) h =
    let first = All-head IsLater e es h in (
      later_as slots given clock e first,
      subst (λ (g : Option (Option (List ℕ))). AreGivenAs slots g clock es) (sym (later_keeps given e first)) (all_later slots given clock es (All-tail IsLater e es h)),
    )

all_keep : (given : Option (Option (List ℕ))) (es : List Event) → All IsLater es → given_after_all given es ≡ given
all_keep given [] h = refl
all_keep given (e ∷ es) h =
    ap (λ (g : Option (Option (List ℕ))). given_after_all g es) (later_keeps given e (All-head IsLater e es h)) ∙ all_keep given es (All-tail IsLater e es h)

-- the events of an instruction find what was given to the thread
pub are_given : (limits : Limits) (began : Bool) (given : Option (Option (List ℕ))) (clock : List ℕ) (es : List Event) →
    BeginsFirst began es → IsGivenTo began given → IsGivenIn limits given clock → AreGivenAs limits.slots given clock es
are_given limits true given clock es b g i = all_later limits.slots given clock es b
are_given limits false given clock es b g i =
    subst (AreGivenAs limits.slots given clock) (sym b.1) ((g.0, g.1, i g.0 g.1), all_later limits.slots None clock b.0 b.2)

-- and leave nothing of it
pub none_given : (began : Bool) (given : Option (Option (List ℕ))) (es : List Event) → BeginsFirst began es → IsGivenTo began given →
    given_after_all given es ≡ None
none_given true given es b g = all_keep given es b ∙ g
none_given false given es b g = ap (given_after_all given) b.1 ∙ all_keep None b.0 b.2
