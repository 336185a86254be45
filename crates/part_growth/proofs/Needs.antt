-- Which of the gathered instructions need a slot, and what they pay.
use Rattle.std.proofs.Common.{◌≡◌, ◌≢◌, ◌⊎◌, inl, inr, ℕ, ◌+◌, ◌<◌, ◌≤◌, true, None, List, ap, sym, subst, ◌∙◌, arith}
use mathlib.Core.Logic.{dite}
use native.Mathlib.Decide.{ℕ_discrete}
use Rattle.run_record.specs.declared.limits.Limits.{Limits}
use Rattle.run_record.specs.declared.entry.Label.{Label}
use Rattle.bare_machine.specs.Preview.{thread_needs}
use Rattle.place_turns.specs.Places.{Local, Value}
use Rattle.placed_detector.specs.Standing.{Hand}
use Rattle.hart_parts.specs.Parts.{after_steps}
use Rattle.part_growth.specs.Growth.{Gathered, IsGathered, Owing, nothing, needy, leave_of, IsPaidBy, NeedsWithin, IsOwedWith}
use Rattle.part_growth.proofs.Gathering.{labels_stay, steps_lead, steps_alike}

-- nothing was gathered that needs one
pub none_within : (file : List ℕ) (harts t : ℕ) (found : Hand) (g : Gathered) → g.steps ≡ 0 → NeedsWithin file harts t found g → ⊥
none_within file harts t found g q n = let l = n.within in omega (arith, q, l)

module _ (file : List ℕ) (limits : Limits) (era t : ℕ) (found now : Hand) (g : Gathered) (is : IsGathered file limits.harts era t found now g) where
  -- the thread after the gathered instructions
  pub now_bare : (v : Value) → after_steps file limits.harts t found.bare v g.steps ≡ now.bare
  now_bare v =
      ap (λ (n : ℕ). after_steps file limits.harts t found.bare v n) is.steps ∙ steps_lead file limits era t is.made found now is.local v

  pub now_label : now.watched.label ≡ found.watched.label
  now_label = labels_stay file limits era t is.made found now is.local

  pub alike : (v w : Value) (n : ℕ) → n ≤ g.steps → after_steps file limits.harts t found.bare v n ≡ after_steps file limits.harts t found.bare w n
  alike v w n l = steps_alike file limits era t is.made found now is.local v w n (let q = is.steps in omega (arith, q, l))

  -- an instruction that needs a slot, where the thread is at this place: one that was gathered, or the next one
  pub within_or_next : (v : Value) (n : ℕ) → n < g.steps + 1 → thread_needs file t (after_steps file limits.harts t found.bare v n).thread ≡ true →
      NeedsWithin file limits.harts t found g ⊎ (thread_needs file t now.bare.thread ≡ true)
  within_or_next v n l needs = dite (ℕ_discrete n g.steps)
      (λ q. inr (subst (λ (x : Local). thread_needs file t x.thread ≡ true)
      (ap (λ (m : ℕ). after_steps file limits.harts t found.bare v m) q ∙ now_bare v) needs))
      (λ ne. inl (record {
        step = n;
        within = omega (arith, l, ne);
        needs = λ w. subst (λ (x : Local). thread_needs file t x.thread ≡ true) (alike v w n (omega (arith, l))) needs;
      }))

  -- the thread has a slot where it needs one
  pub label_there : (NeedsWithin file limits.harts t found g → found.watched.label ≢ None) →
      (thread_needs file t now.bare.thread ≡ true → now.watched.label ≢ None) → (v : Value) (n : ℕ) → n < g.steps + 1 →
      thread_needs file t (after_steps file limits.harts t found.bare v n).thread ≡ true → found.watched.label ≢ None
  label_there before here v n l needs q = elim (within_or_next v n l needs) [
    | inl w ↦ before w q
    | inr m ↦ here m (now_label ∙ q)
  ]

  -- it is needed still where more is gathered, and the last one may need it
  pub needed_with : (h : Gathered) → g.steps < h.steps → NeedsWithin file limits.harts t found g → NeedsWithin file limits.harts t found h
  needed_with h l n = record { step = n.step; within = let q = n.within in omega (arith, q, l); needs = n.needs }

  pub needed_last : (h : Gathered) → g.steps < h.steps → thread_needs file t now.bare.thread ≡ true → NeedsWithin file limits.harts t found h
  needed_last h l m = record {
    step = g.steps;
    within = l;
    needs = λ v. subst (λ (x : Local). thread_needs file t x.thread ≡ true) (sym (now_bare v)) m;
  }

  -- what is owed after one more
  pub owed_after : (h : Gathered) → g.steps < h.steps → (owing owed next : Owing) → ((l : Label) → owed ≡ leave_of l → ⊥) →
      IsOwedWith file limits.harts t found g owing owed → IsPaidBy file t now owed next → IsOwedWith file limits.harts t found h owing next
  owed_after h l nothing owed next unspent w p =
      subst (λ (z : Owing). IsPaidBy file t now z next → next ≡ nothing) (sym w) (λ q. q) p
  owed_after h l (leave_of x) owed next unspent w p = absurd (unspent x w.0)
  owed_after h l needy owed next unspent (inl q) p = paid (subst (λ (z : Owing). IsPaidBy file t now z next) q p)
    where
      paid : IsPaidBy file t now needy next → IsOwedWith file limits.harts t found h needy next
      paid (inl a) = inl a.0
      paid (inr a) = inr (a.0, needed_last h l a.1)
  owed_after h l needy owed next unspent (inr q) p =
      inr (subst (λ (z : Owing). IsPaidBy file t now z next → next ≡ nothing) (sym q.0) (λ r. r) p, needed_with h l q.1)
