-- Instructions of one thread, from the first on.
use Rattle.std.proofs.Common.{◌≡◌, ℕ, zero, suc, List, [], ◌∷◌, ◌++◌, refl, sym, ap, ap₂, ◌∙◌}
use Rattle.std.proofs.lemmas.List.{append_assoc, append-nil}
use Rattle.run_record.specs.declared.event.Event.{Event}
use Rattle.run_laws.specs.Faithful.{Bare, after, events_made}

module _ {S : Type 0} (bare : Bare S) (t : ℕ) where
  pub after_first : (s : S) (n : ℕ) → after bare s t (suc n) ≡ after bare (bare.step s t).state t n
  after_first s zero = refl
  after_first s (suc n) = ap (λ (z : S). (bare.step z t).state) (after_first s n)

  pub events_first : (s : S) (n : ℕ) → events_made bare s t (suc n) ≡ (bare.step s t).events ++ events_made bare (bare.step s t).state t n
  events_first s zero = sym (append-nil (bare.step s t).events)
  events_first s (suc n) =
      ap₂ (λ (xs ys : List Event). xs ++ ys) (events_first s n) (ap (λ (z : S). (bare.step z t).events) (after_first s n))
      ∙ append_assoc (bare.step s t).events (events_made bare (bare.step s t).state t n) (bare.step (after bare (bare.step s t).state t n) t).events
