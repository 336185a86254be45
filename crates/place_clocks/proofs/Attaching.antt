-- What a thread that attaches tells.
use Rattle.std.proofs.Common.{◌≡◌, ◌+◌, ℕ, List, [], ◌∷◌, ◌⊎◌, inl, inr, None, refl, sym, ap, subst, ◌∙◌}
use Rattle.run_laws.specs.Moments.{Item}
use Rattle.run_laws.specs.Labels.{labels, queue}
use Rattle.bare_machine.specs.Step.{desk}
use Rattle.turn_orders.specs.Lists.{In}
use Rattle.turn_orders.specs.Machine.{State}
use Rattle.place_clocks.specs.Places.{Own, Value, desk_of}
use Rattle.place_clocks.specs.Turns.{attaches, attached, clock_turn}
use Rattle.place_clocks.specs.Holds.{HasClocks, whole_at, IsAttachment, FindsNone}
use Rattle.place_clocks.proofs.Taking.{no_slot}

module _ (g slots : ℕ) (h : ℕ → Item) (n : ℕ) (m : State Own Value) (t : ℕ) (k : HasClocks (whole_at g slots h n) m) (none : (m.local t).label ≡ None) where
  taking : (waiting : List ℕ) → (desk_of m).queue ≡ waiting →
      FindsNone g slots h n (attached t (m.local t) (desk_of m) waiting (m.value desk)).told ⊎ IsAttachment g slots h n t (attached t (m.local t) (desk_of m) waiting (m.value desk)).told
  taking [] e = inl (record { empty = sym k.at_desk.queue ∙ e; nothing = refl })
  taking (s ∷ rest) e =
      let front : queue g slots h n ≡ s ∷ rest = sym k.at_desk.queue ∙ e in
      let waits : In s (queue g slots h n) = subst (In s) (sym front) (inl refl) in
      inr (record {
        label = record { sid = s; epoch = (desk_of m).last s + 1; era = (desk_of m).era };
        rest = rest;
        tells = refl;
        unlabelled = no_slot (labels g h n) t (sym (k.own.label t) ∙ none);
        front = front;
        new_epoch = ap (λ (e : ℕ). e + 1) (k.at_desk.last s waits);
        present_era = k.at_desk.era;
      })

pub attaching : (g slots : ℕ) (h : ℕ → Item) (n : ℕ) (m : State Own Value) (t : ℕ) → HasClocks (whole_at g slots h n) m → (m.local t).label ≡ None →
    FindsNone g slots h n (clock_turn g t attaches (m.local t) (m.value desk)).told ⊎ IsAttachment g slots h n t (clock_turn g t attaches (m.local t) (m.value desk)).told
attaching g slots h n m t k none = taking g slots h n m t k none (desk_of m).queue refl
