-- The events of one instruction, made one after another by its thread.
use Rattle.std.proofs.Common.{◌≡◌, ℕ, Bool, true, false, List, [], ◌∷◌, Option, Some, None, refl, ap, subst, ◌∙◌}
use Rattle.std.specs.Prelude.{map, is_some}
use Rattle.std.specs.List.{flat_map}
use Rattle.run_record.specs.declared.event.Event.{Event}
use Rattle.run_record.specs.declared.event.Event.TheVariants as events
use Rattle.run_laws.specs.Moments.{Item, Does}
use Rattle.bare_machine.specs.Step.{desk}
use Rattle.turn_orders.specs.Machine.{State, next, after, tells, single, singles}
use Rattle.turn_orders.proofs.Functions.{but_each}
use Rattle.place_turns.specs.Places.{IsAt}
use Rattle.place_clocks.specs.Places.{Clock, Own, Value}
use Rattle.place_clocks.specs.Turns.{does, own_after, clock_turn}
use Rattle.place_clocks.specs.Holds.{HasTaken, MayDo, AllMay}
use Rattle.joint_turns.proofs.Suits.{Suits, AllSuit}

-- which threads have taken what their creators left
abbrev pub Taken : State Own Value → (ℕ → Bool) → Type 0
Taken m arrived = (u : ℕ) → is_some (m.local u).given ≡ arrived u

has_clock : (o : Own) → is_some o.given ≡ true → HasTaken o
has_clock o e = by_given o.given refl e
  where
    by_given : (x : Option Clock) → o.given ≡ x → is_some x ≡ true → HasTaken o
    by_given None q y = absurd (cc)
    by_given (Some c) q y = record { clock = c; is = q }

has_none_by : (x : Option Clock) → is_some x ≡ false → x ≡ None
has_none_by None e = refl
has_none_by (Some c) e = absurd (cc)

module _ (g t k made : ℕ) (object : Option ℕ) (arrived : ℕ → Bool) (here : arrived t ≡ true) (place : IsAt k object) (fresh : k ≡ desk → arrived made ≡ false) where
  -- an event that suits the object may be made at its place
  may_do : (m : State Own Value) → Taken m arrived → (e : Event) → Suits object made e → MayDo m t k e
  may_do m taken events.Begin s = has_clock (m.local t) (taken t ∙ here)
  may_do m taken (events.Create n) s =
      let at : k ≡ desk = subst (IsAt k) s.0 place in
      (at, has_none_by (m.local n).given (taken n ∙ (ap arrived s.1 ∙ fresh at)))
  may_do m taken events.End s = subst (IsAt k) s place
  may_do m taken (events.Join n) s = subst (IsAt k) s place
  may_do m taken (events.Acquire addr part) s = subst (IsAt k) s place
  may_do m taken (events.Release addr part replaces) s = subst (IsAt k) s place
  may_do m taken (events.Destroy addr) s = subst (IsAt k) s place
  may_do m taken (events.Clear addr) s = subst (IsAt k) s place
  may_do m taken (events.Enter frame) s = tt
  may_do m taken events.Leave s = tt
  may_do m taken (events.Lock addr read) s = tt
  may_do m taken (events.Unlock addr read) s = tt
  may_do m taken (events.Access at addr size read atomic) s = tt
  may_do m taken (events.Put value count) s = tt

  -- an event leaves what was taken
  taken_next : (m : State Own Value) → Taken m arrived → (e : Event) → Taken (next (clock_turn g) m (single t k (does e))) arrived
  taken_next m taken e u = but_each (λ v o. is_some o.given ≡ arrived v) m.local t (own_after g e (m.local t) (m.value k)) (taken t) (λ v ne. taken v) u

  pub all_may : (m : State Own Value) → Taken m arrived → (es : List Event) → AllSuit object made es → AllMay g m (singles t k (map does es))
  all_may m taken [] s = tt
  all_may m taken (e ∷ es) s = (may_do m taken e s.0, all_may (next (clock_turn g) m (single t k (does e))) (taken_next m taken e) es s.1)

  pub taken_after : (m : State Own Value) → Taken m arrived → (es : List Event) → Taken (after (clock_turn g) m (singles t k (map does es))) arrived
  taken_after m taken [] = taken
  taken_after m taken (e ∷ es) = taken_after (next (clock_turn g) m (single t k (does e))) (taken_next m taken e) es

-- they tell themselves
pub told_events : (g t k : ℕ) (m : State Own Value) (es : List Event) → flat_map (λ (items : List Item). items) (tells (clock_turn g) m (singles t k (map does es))) ≡ map (Does t) es
told_events g t k m [] = refl
told_events g t k m (e ∷ es) = ap (λ (items : List Item). Does t e ∷ items) (told_events g t k (next (clock_turn g) m (single t k (does e))) es)
