-- Which clocks an event leaves as they are.
use Rattle.std.proofs.Common.{◌≡◌, ◌≢◌, ℕ, Bool, false, cond, refl, sym, ap, ◌∙◌, ne_eqb}
use Rattle.std.specs.Prelude.{◌&&◌, max}
use Rattle.run_record.specs.declared.event.Event.{Event}
use Rattle.run_record.specs.declared.event.Event.TheVariants as events
use Rattle.run_record.specs.declared.event.Part.{Part}
use Rattle.run_record.specs.declared.event.Part.TheVariants.{Main}
use Rattle.run_laws.specs.HappensBefore.{same_part, ends_channel}
use Rattle.run_laws.specs.Labels.{Labels, holds, is_end}
use Rattle.run_laws.specs.Clocks.{Clocks, Spot, Left, Channel, Given, Ended, left_at, is_place, leaves, empties, event_clocks}
use Rattle.place_clocks.proofs.Choices.{if_false, and_false, max_zero}

module _ (g : ℕ) (l : Labels) (k : Clocks) (t : ℕ) (e : Event) where
  pub spot_stays : (y : Spot) (r : ℕ) → empties l t e y ≡ false → leaves l t e y ≡ false → (event_clocks g l k t e).spot y r ≡ k.spot y r
  spot_stays y r a b =
      ap (λ (n : ℕ). max n (cond (leaves l t e y) (k.thread t r) 0)) (if_false (empties l t e y) 0 (k.spot y r) a)
      ∙ (ap (λ (n : ℕ). max (k.spot y r) n) (if_false (leaves l t e y) (k.thread t r) 0 b) ∙ max_zero (k.spot y r))

  -- only an End leaves a clock in a slot
  pub left_stays : is_end e ≡ false → (s r : ℕ) → (event_clocks g l k t e).spot (Left s) r ≡ k.spot (Left s) r
  left_stays n s r =
      let none : (is_end e && holds (l.slot_of t) s) ≡ false = ap (λ (b : Bool). b && holds (l.slot_of t) s) n in
      spot_stays (Left s) r none none

-- The event neither creates a thread nor ends one.
pub record IsQuiet (t : ℕ) (e : Event) : Type 0 where
  pub no_end : is_end e ≡ false
  pub not_given : (u : ℕ) → is_place (left_at t e) (Given u) ≡ false
  pub not_ended : (u : ℕ) → is_place (left_at t e) (Ended u) ≡ false

-- The event neither leaves a clock at the channel nor ends it.
pub record SparesChannel (t : ℕ) (e : Event) (a : ℕ) (p : Part) : Type 0 where
  pub kept : ends_channel a p e ≡ false
  pub not_left : is_place (left_at t e) (Channel a p) ≡ false

-- one of another address
pub release_spares : (t b : ℕ) (q : Part) (replaces : Bool) (a : ℕ) (p : Part) → a ≢ b → SparesChannel t (events.Release b q replaces) a p
release_spares t b q replaces a p ne = record {
  kept = ap (λ (z : Bool). replaces && (z && same_part p q)) (ne_eqb a b ne) ∙ and_false replaces;
  not_left = ap (λ (z : Bool). z && same_part q p) (ne_eqb b a (λ e. ne (sym e)));
}

pub destroy_spares : (t b a : ℕ) (p : Part) → a ≢ b → SparesChannel t (events.Destroy b) a p
destroy_spares t b a p ne = record { kept = ne_eqb a b ne; not_left = refl }

pub clear_spares : (t b a : ℕ) (p : Part) → a ≢ b → SparesChannel t (events.Clear b) a p
clear_spares t b a p ne = record { kept = ap (λ (z : Bool). z && same_part p Main) (ne_eqb a b ne); not_left = refl }
