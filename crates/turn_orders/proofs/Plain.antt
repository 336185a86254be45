-- A machine with stamps does what the one without does.
use Rattle.std.proofs.Common.{◌≡◌, ℕ, List, [], ◌∷◌, refl, sym, ap, ◌∙◌}
use mathlib.Core.Path.{fun_ext}
use mathlib.Core.Logic.{dite}
use native.Mathlib.Decide.{ℕ_discrete}
use Rattle.std.specs.Prelude.{map}
use Rattle.turn_orders.specs.Machine.{Call, State, Turn, but, outcome, next, after, tells}
use Rattle.turn_orders.specs.LineUp.{Draws, Stamped, stamped, plain}
use Rattle.turn_orders.proofs.Functions.{but_here, but_else}

module _ {L O A T : Type 0} (turn : Turn L O A T) where
  pub stamped_draws : Draws (stamped turn) (λ l. l.last) (λ x. x.last)
  stamped_draws = record { in_local = λ t a l x. refl; in_place = λ t a l x. refl }

  but_state : {X : Type 0} (f : ℕ → Stamped X) (i j : ℕ) (x : Stamped X) → (but f i x j).state ≡ but (λ k. (f k).state) i x.state j
  but_state f i j x = dite (ℕ_discrete j i)
      (λ e. ap (λ z. z.state) (but_here f i j x e) ∙ sym (but_here (λ k. (f k).state) i j x.state e))
      (λ ne. ap (λ z. z.state) (but_else f i j x ne) ∙ sym (but_else (λ k. (f k).state) i j x.state ne))

  pub plain_next : (m : State (Stamped L) (Stamped O)) (c : Call A) → plain (next (stamped turn) m c) ≡ next turn (plain m) c
  plain_next m c = λ i. record {
    local = fun_ext (λ t. but_state m.local c.thread t (outcome (stamped turn) m c).local) i;
    value = fun_ext (λ k. but_state m.value c.place k (outcome (stamped turn) m c).value) i;
  }

  pub plain_after : (m : State (Stamped L) (Stamped O)) (cs : List (Call A)) → plain (after (stamped turn) m cs) ≡ after turn (plain m) cs
  plain_after m [] = refl
  plain_after m (c ∷ cs) = plain_after (next (stamped turn) m c) cs ∙ ap (λ (z : State L O). after turn z cs) (plain_next m c)

  pub plain_tells : (m : State (Stamped L) (Stamped O)) (cs : List (Call A)) → map (λ (s : Stamped T). s.state) (tells (stamped turn) m cs) ≡ tells turn (plain m) cs
  plain_tells m [] = refl
  plain_tells m (c ∷ cs) = ap (λ (z : List T). (outcome turn (plain m) c).told ∷ z) (plain_tells (next (stamped turn) m c) cs ∙ ap (λ (z : State L O). tells turn z cs) (plain_next m c))
