-- What an event does to labels: those of its thread and those of the others.
use Rattle.std.proofs.Common.{◌≡◌, ◌≢◌, ◌+◌, ℕ, Bool, true, false, cond, Option, Some, None, refl, sym, ap, ◌∙◌, eq-eqb, ne_eqb, eqb-true, arith}
use Rattle.std.specs.Prelude.{◌==◌, ◌&&◌, ◌||◌, nat_lt, option_map}
use mathlib.Core.Logic.{dite}
use native.Mathlib.Decide.{ℕ_discrete}
use Rattle.run_record.specs.declared.event.Event.{Event}
use Rattle.run_record.specs.declared.entry.Label.{Label}
use Rattle.run_laws.specs.Labels.{Labels, holds, is_end, raises, raised, slot_after, event_labels}
use Rattle.place_clocks.specs.Turns.{label_after, raised_by}
use Rattle.place_clocks.specs.Holds.{label_with, label_in}
use Rattle.place_clocks.proofs.Choices.{if_yes, if_no, if_false}

-- by how much slot s is raised where the thread holds this one
abbrev raised_at : ℕ → (ℕ → ℕ) → Event → Option ℕ → ℕ → ℕ
raised_at g epoch e o s = cond (holds o s && nat_lt (epoch s) g) (raises e) 0

-- the thread doesn't hold the slot
pub not_held : (o : Option ℕ) (s : ℕ) → o ≢ Some s → holds o s ≡ false
not_held None s n = refl
not_held (Some r) s n = ne_eqb r s (λ e. n (ap Some e))

pub held : (o : Option ℕ) (s : ℕ) → holds o s ≡ true → o ≡ Some s
held None s h = absurd (cc)
held (Some r) s h = ap Some (eqb-true r s h)

pub not_raised : (g : ℕ) (epoch : ℕ → ℕ) (e : Event) (o : Option ℕ) (s : ℕ) → o ≢ Some s → raised_at g epoch e o s ≡ 0
not_raised g epoch e o s n = if_false (holds o s && nat_lt (epoch s) g) (raises e) 0 (ap (λ (b : Bool). b && nat_lt (epoch s) g) (not_held o s n))

module _ (g : ℕ) (l : Labels) (t : ℕ) (e : Event) where
  -- ---- its thread

  slot_is : (event_labels g l t e).slot_of t ≡ slot_after g l.epoch (l.slot_of t) e
  slot_is = if_yes t t (slot_after g l.epoch (l.slot_of t) e) (l.slot_of t) refl

  abbrev with_raised : Option ℕ → ℕ → Label
  with_raised o s = record { sid = s; epoch = l.epoch s + raised_at g l.epoch e o s; era = l.era }

  own_by : (o : Option ℕ) → label_after g (option_map (label_with l) o) e ≡ option_map (with_raised o) (slot_after g l.epoch o e)
  own_by None = refl
  own_by (Some s) = go (is_end e) ((raises e == 0) || nat_lt (l.epoch s) g)
    where
      here : l.epoch s + cond (nat_lt (l.epoch s) g) (raises e) 0 ≡ l.epoch s + cond ((s == s) && nat_lt (l.epoch s) g) (raises e) 0
      here = ap (λ (b : Bool). l.epoch s + cond (b && nat_lt (l.epoch s) g) (raises e) 0) (sym (eq-eqb s s refl))

      go : (a b : Bool) →
          cond a None (cond b (Some (record { sid = s; epoch = l.epoch s + cond (nat_lt (l.epoch s) g) (raises e) 0; era = l.era })) None)
          ≡ option_map (with_raised (Some s)) (cond a None (cond b (Some s) None))
      go true b = refl
      go false true = ap (λ (n : ℕ). Some (record { sid = s; epoch = n; era = l.era })) here
      go false false = refl

  pub own_label : label_after g (label_in l t) e ≡ label_in (event_labels g l t e) t
  own_label = own_by (l.slot_of t) ∙ ap (option_map (with_raised (l.slot_of t))) (sym slot_is)

  raised_with : (o : Option ℕ) (s : ℕ) → raised_by g (option_map (label_with l) o) e s ≡ raised_at g l.epoch e o s
  raised_with None s = refl
  raised_with (Some r) s = dite (ℕ_discrete r s)
      (λ q. ap (λ (k : ℕ). cond ((r == s) && nat_lt (l.epoch k) g) (raises e) 0) q)
      (λ ne. if_false ((r == s) && nat_lt (l.epoch r) g) (raises e) 0 (ap (λ (b : Bool). b && nat_lt (l.epoch r) g) (ne_eqb r s ne))
      ∙ sym (if_false ((r == s) && nat_lt (l.epoch s) g) (raises e) 0 (ap (λ (b : Bool). b && nat_lt (l.epoch s) g) (ne_eqb r s ne))))

  pub own_raised : (s : ℕ) → raised_by g (label_in l t) e s ≡ raised g l t e s
  own_raised s = raised_with (l.slot_of t) s

  -- ---- other threads

  pub other_slot : (u : ℕ) → u ≢ t → (event_labels g l t e).slot_of u ≡ l.slot_of u
  other_slot u ne = if_no u t (slot_after g l.epoch (l.slot_of t) e) (l.slot_of u) ne

  other_by : (o : Option ℕ) → ((s : ℕ) → o ≡ Some s → l.slot_of t ≢ Some s) → option_map (label_with l) o ≡ option_map (label_with (event_labels g l t e)) o
  other_by None apart = refl
  other_by (Some s) apart =
      let z = not_raised g l.epoch e (l.slot_of t) s (apart s refl) in
      let same : l.epoch s ≡ l.epoch s + raised g l t e s = omega arith in
      ap (λ (n : ℕ). Some (record { sid = s; epoch = n; era = l.era })) same

  pub other_label : (u : ℕ) → u ≢ t → ((s : ℕ) → l.slot_of u ≡ Some s → l.slot_of t ≢ Some s) → label_in l u ≡ label_in (event_labels g l t e) u
  other_label u ne apart = other_by (l.slot_of u) apart ∙ ap (option_map (label_with (event_labels g l t e))) (sym (other_slot u ne))

  -- a slot's owner after the event was its owner before
  owner_by : (o : Option ℕ) (s : ℕ) → slot_after g l.epoch o e ≡ Some s → o ≡ Some s
  owner_by None s h = absurd (cc)
  owner_by (Some r) s h = go (is_end e) ((raises e == 0) || nat_lt (l.epoch r) g) h
    where
      go : (a b : Bool) → cond a None (cond b (Some r) None) ≡ Some s → Some r ≡ Some s
      go true b q = absurd (cc)
      go false true q = q
      go false false q = absurd (cc)

  pub owner_before : (u s : ℕ) → (event_labels g l t e).slot_of u ≡ Some s → l.slot_of u ≡ Some s
  owner_before u s h = dite (ℕ_discrete u t)
      (λ q. let at : slot_after g l.epoch (l.slot_of t) e ≡ Some s = sym slot_is ∙ (ap (event_labels g l t e).slot_of (sym q) ∙ h) in ap l.slot_of q ∙ owner_by (l.slot_of t) s at)
      (λ ne. sym (other_slot u ne) ∙ h)

  -- a thread that ends owns none
  ended_by : (o : Option ℕ) → is_end e ≡ true → slot_after g l.epoch o e ≡ None
  ended_by None y = refl
  ended_by (Some r) y = ap (λ (a : Bool). cond a None (cond ((raises e == 0) || nat_lt (l.epoch r) g) (Some r) None)) y

  pub ends_unowned : is_end e ≡ true → (event_labels g l t e).slot_of t ≡ None
  ends_unowned y = slot_is ∙ ended_by (l.slot_of t) y
