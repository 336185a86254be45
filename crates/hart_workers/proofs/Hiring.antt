-- Workers that are made one after another.
use Rattle.std.proofs.Common.{◌≡◌, ◌<◌, ℕ, List, [], ◌∷◌, ◌++◌, length, None, Some, inl, inr, refl, sym, subst, ◌∙◌, length-set}
use Rattle.std.specs.Prelude.{Option, slice_set}
use Rattle.std.proofs.lemmas.Bool.{cases_eq}
use Rattle.run_record.specs.declared.limits.Limits.{Limits}
use Rattle.turn_orders.specs.Lists.{Each, In}
use Rattle.turn_orders.proofs.Members.{at_member, each_append}
use Rattle.hart_turns.specs.declared.slots.ThreadState.{ThreadState}
use Rattle.part_workers.specs.declared.worker.HartWorker.{HartWorker}
use Rattle.hart_workers.specs.declared.crew.Due.{Due}
use Rattle.hart_workers.specs.Crews.{state_at, IsHired, Hires}
use Rattle.hart_workers.proofs.Kept.{state_here, state_else, not_both, state_within, zip_push, in_first, in_last}

-- where a place is emptied, the places that were empty stay so
still_gone : (cur : List (Option ThreadState)) (t : ℕ) (ts : List ℕ) → t < length cur → Each (λ (u : ℕ). state_at cur u ≡ None) ts →
    Each (λ (u : ℕ). state_at (slice_set cur t None) u ≡ None) ts
still_gone cur t [] l h = tt
still_gone cur t (u ∷ ts) l h = (
  elim (cases_eq u t) [
    | inl e ↦ subst (λ (v : ℕ). state_at (slice_set cur t None) v ≡ None) (sym e) (state_here cur t None l)
    | inr ne ↦ state_else cur t u None ne ∙ h.0
  ],
  still_gone cur t ts l h.1,
)

module _ {G : Type 0} (file : List ℕ) (limits : Limits) (due : Due) (old : List (Option ThreadState)) where
  pub hired_none : (ws : List (HartWorker G)) → ws ≡ [] → Hires file limits due old [] old ws
  hired_none ws e = subst (λ (z : List (HartWorker G)). Hires file limits due old [] old z) (sym e) (record { workers = tt; gone = tt; others = λ t out. refl; count = refl })

  hired_next : (ts : List ℕ) (cur : List (Option ThreadState)) (ws : List (HartWorker G)) (t : ℕ) (x : ThreadState) (w : HartWorker G) →
      Hires file limits due old ts cur ws → state_at cur t ≡ Some x →
      ((states : List (Option ThreadState)) → state_at states t ≡ Some x → IsHired file limits due states t w) →
      Hires file limits due old (ts ++ t ∷ []) (slice_set cur t None) (ws ++ w ∷ [])
  hired_next ts cur ws t x w h at hired =
      let l = state_within cur t x at in
      let new : In t ts → ⊥ = λ i. not_both (state_at cur t) x at (at_member (λ (u : ℕ). state_at cur u ≡ None) t ts h.gone i) in
      record {
        workers = zip_push (IsHired file limits due old) ts ws t w h.workers (hired old (sym (h.others t new) ∙ at));
        gone = each_append (λ (u : ℕ). state_at (slice_set cur t None) u ≡ None) ts (t ∷ []) (still_gone cur t ts l h.gone) (state_here cur t None l, tt);
        others = λ u out.
            state_else cur t u None (λ e. out (subst (λ (v : ℕ). In v (ts ++ t ∷ [])) (sym e) (in_last t ts)))
            ∙ h.others u (λ i. out (in_first u ts (t ∷ []) i));
        count = length-set cur t None ∙ h.count;
      }

  -- a worker more, with what was kept of its thread
  pub hired_more : (ts : List ℕ) (cur new : List (Option ThreadState)) (ws : List (HartWorker G)) (t : ℕ) (x : ThreadState) (w : HartWorker G) →
      Hires file limits due old ts cur ws → state_at cur t ≡ Some x → new ≡ slice_set cur t None →
      ((states : List (Option ThreadState)) → state_at states t ≡ Some x → IsHired file limits due states t w) →
      Hires file limits due old (ts ++ t ∷ []) new (ws ++ w ∷ [])
  hired_more ts cur new ws t x w h at e hired =
      subst (λ (z : List (Option ThreadState)). Hires file limits due old (ts ++ t ∷ []) z (ws ++ w ∷ [])) (sym e)
      (hired_next ts cur ws t x w h at hired)
