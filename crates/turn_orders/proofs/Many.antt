-- An entry of several acts is those acts one after another.
use Rattle.std.proofs.Common.{◌≡◌, ℕ, List, [], ◌∷◌, ◌++◌, refl, sym, ap, ◌∙◌}
use mathlib.Core.Path.{fun_ext}
use mathlib.Core.Logic.{dite}
use native.Mathlib.Decide.{ℕ_discrete}
use Rattle.std.specs.List.{flat_map}
use Rattle.turn_orders.specs.Machine.{Outcome, Call, State, Turn, but, outcome, next, after, tells, many, single, singles, acts}
use Rattle.turn_orders.proofs.Functions.{but_here, but_twice, but_same}

module _ {L O A T : Type 0} (turn : Turn L O A T) where
  -- the later acts find what the first left
  rest_is : (m : State L O) (t k : ℕ) (a : A) (rest : List A)
      → many turn t rest ((next turn m (single t k a)).local t) ((next turn m (single t k a)).value k) ≡ many turn t rest (turn t a (m.local t) (m.value k)).local (turn t a (m.local t) (m.value k)).value
  rest_is m t k a rest =
      ap (λ (l : L). many turn t rest l ((next turn m (single t k a)).value k)) (but_here m.local t t (turn t a (m.local t) (m.value k)).local refl)
      ∙ ap (many turn t rest (turn t a (m.local t) (m.value k)).local) (but_here m.value k k (turn t a (m.local t) (m.value k)).value refl)

  pub many_next : (m : State L O) (t k : ℕ) (more : List A) → next (many turn) m (single t k more) ≡ after turn m (singles t k more)
  many_next m t k [] = λ i. record { local = but_same m.local t i; value = but_same m.value k i }
  many_next m t k (a ∷ more) = sym both ∙ many_next (next turn m (single t k a)) t k more
    where
      locals : but (but m.local t (turn t a (m.local t) (m.value k)).local) t (many turn t more ((next turn m (single t k a)).local t) ((next turn m (single t k a)).value k)).local ≡ but m.local t (many turn t more (turn t a (m.local t) (m.value k)).local (turn t a (m.local t) (m.value k)).value).local
      locals = but_twice m.local t (turn t a (m.local t) (m.value k)).local (many turn t more ((next turn m (single t k a)).local t) ((next turn m (single t k a)).value k)).local ∙ ap (λ (o : Outcome L O (List T)). but m.local t o.local) (rest_is m t k a more)

      values : but (but m.value k (turn t a (m.local t) (m.value k)).value) k (many turn t more ((next turn m (single t k a)).local t) ((next turn m (single t k a)).value k)).value ≡ but m.value k (many turn t more (turn t a (m.local t) (m.value k)).local (turn t a (m.local t) (m.value k)).value).value
      values = but_twice m.value k (turn t a (m.local t) (m.value k)).value (many turn t more ((next turn m (single t k a)).local t) ((next turn m (single t k a)).value k)).value ∙ ap (λ (o : Outcome L O (List T)). but m.value k o.value) (rest_is m t k a more)

      both : next (many turn) (next turn m (single t k a)) (single t k more) ≡ next (many turn) m (single t k (a ∷ more))
      both = λ i. record { local = locals i; value = values i }

  after_append : (m : State L O) (bs cs : List (Call A)) → after turn m (bs ++ cs) ≡ after turn (after turn m bs) cs
  after_append m [] cs = refl
  after_append m (b ∷ bs) cs = after_append (next turn m b) bs cs

  pub many_after : (m : State L O) (cs : List (Call (List A))) → after (many turn) m cs ≡ after turn m (acts cs)
  many_after m [] = refl
  many_after m (c ∷ cs) =
      ap (λ (z : State L O). after (many turn) z cs) (many_next m c.thread c.place c.act)
      ∙ (many_after (after turn m (singles c.thread c.place c.act)) cs
      ∙ sym (after_append m (singles c.thread c.place c.act) (acts cs)))

  -- ---- what they tell

  many_told : (m : State L O) (t k : ℕ) (rest : List A) → (many turn t rest (m.local t) (m.value k)).told ≡ tells turn m (singles t k rest)
  many_told m t k [] = refl
  many_told m t k (a ∷ rest) =
      ap (λ (z : List T). (turn t a (m.local t) (m.value k)).told ∷ z)
      (ap (λ (o : Outcome L O (List T)). o.told) (sym (rest_is m t k a rest)) ∙ many_told (next turn m (single t k a)) t k rest)

  tells_append : (m : State L O) (bs cs : List (Call A)) → tells turn m (bs ++ cs) ≡ tells turn m bs ++ tells turn (after turn m bs) cs
  tells_append m [] cs = refl
  tells_append m (b ∷ bs) cs = ap (λ (z : List T). (outcome turn m b).told ∷ z) (tells_append (next turn m b) bs cs)

  pub many_tells : (m : State L O) (cs : List (Call (List A))) → flat_map (λ (told : List T). told) (tells (many turn) m cs) ≡ tells turn m (acts cs)
  many_tells m [] = refl
  many_tells m (c ∷ cs) =
      ap (λ (z : List T). z ++ flat_map (λ (told : List T). told) (tells (many turn) (next (many turn) m c) cs)) (many_told m c.thread c.place c.act)
      ∙ (ap (λ (s : State L O). tells turn m (singles c.thread c.place c.act) ++ flat_map (λ (told : List T). told) (tells (many turn) s cs)) (many_next m c.thread c.place c.act)
      ∙ (ap (λ (z : List T). tells turn m (singles c.thread c.place c.act) ++ z) (many_tells (after turn m (singles c.thread c.place c.act)) cs)
      ∙ sym (tells_append m (singles c.thread c.place c.act) (acts cs))))
