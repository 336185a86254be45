-- A fold that splits agrees with the machine.
use Rattle.std.proofs.Common.{◌≡◌, ℕ, List, [], ◌∷◌, ◌++◌, refl, sym, ap, subst, ◌∙◌}
use mathlib.Core.Logic.{dite}
use native.Mathlib.Decide.{ℕ_discrete}
use Rattle.turn_orders.specs.Machine.{Call, State, Turn, outcome, next, after}
use Rattle.turn_orders.specs.LineUp.{Deed, calls, IsLineUp}
use Rattle.turn_orders.specs.Splits.{Splits, AllMay, folded, Agrees}
use Rattle.turn_orders.proofs.Functions.{but_here, but_else}
use Rattle.turn_orders.proofs.Stamps.{found_at}

module _ {L O A T G V W : Type 0} (turn : Turn L O A T) (step : G → Call A → G) (see : ℕ → G → V) (look : ℕ → G → W) (local : L → V) (value : O → W) (May : G → Call A → Type 0) (s : Splits turn step see look local value May) where
  agrees_next : (g : G) (m : State L O) (c : Call A) → May g c → Agrees see look local value g m → Agrees see look local value (step g c) (next turn m c)
  agrees_next g m c may h = record {
    threads = λ t. dite (ℕ_discrete t c.thread)
        (λ e. subst (λ (u : ℕ). see u (step g c) ≡ local ((next turn m c).local u)) (sym e)
        (s.at_thread g c (m.local c.thread) (m.value c.place) may (h.threads c.thread) (h.places c.place) ∙ ap local (sym (but_here m.local c.thread c.thread (outcome turn m c).local refl))))
        (λ ne. s.other_threads g c t may ne ∙ (h.threads t ∙ ap local (sym (but_else m.local c.thread t (outcome turn m c).local ne))));
    places = λ k. dite (ℕ_discrete k c.place)
        (λ e. subst (λ (u : ℕ). look u (step g c) ≡ value ((next turn m c).value u)) (sym e)
        (s.at_place g c (m.local c.thread) (m.value c.place) may (h.threads c.thread) (h.places c.place) ∙ ap value (sym (but_here m.value c.place c.place (outcome turn m c).value refl))))
        (λ ne. s.other_places g c k may ne ∙ (h.places k ∙ ap value (sym (but_else m.value c.place k (outcome turn m c).value ne))));
  }

  pub agrees : (g : G) (m : State L O) (cs : List (Call A)) → AllMay step May g cs → Agrees see look local value g m → Agrees see look local value (folded step g cs) (after turn m cs)
  agrees g m [] may h = h
  agrees g m (c ∷ cs) may h = agrees (step g c) (next turn m c) cs may.1 (agrees_next g m c may.0 h)

  -- at each deed of a line-up the fold over the calls before it shows what the deed found
  pub meets : (g : G) (m : State L O) (early : List (Deed L O A T)) (d : Deed L O A T) (late : List (Deed L O A T)) → AllMay step May g (calls early) → Agrees see look local value g m → IsLineUp turn m (early ++ d ∷ late)
      → (see d.call.thread (folded step g (calls early)) ≡ local d.local_found) × (look d.call.place (folded step g (calls early)) ≡ value d.found)
  meets g m early d late may a h =
      let r = agrees g m (calls early) may a in
      let f = found_at turn m early d late h in
      (r.threads d.call.thread ∙ ap local f.0, r.places d.call.place ∙ ap value f.1)
