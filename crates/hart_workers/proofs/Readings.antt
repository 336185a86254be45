-- What is read of the desk.
use Rattle.std.proofs.Common.{◌≡◌, ◌<◌, ◌≤◌, ◌+◌, ◌/◌, min, ℕ, true, zero, suc, List, [], ◌∷◌, ◌++◌, None, length, inl, inr, refl, sym, ap, subst, ◌∙◌, arith}
use Rattle.std.specs.Prelude.{◌⊎◌, ◌↔◌, slice_index_or}
use Rattle.std.proofs.lemmas.Bool.{cases_lt}
use Rattle.run_record.specs.declared.limits.Limits.{Limits}
use Rattle.slot_desk.specs.Desks.{DeskContents, ThreadContents, no_thread, live_of}
use Rattle.slot_desk.specs.Steps.{new_desk}
use Rattle.turn_orders.specs.Lists.{Each, In}
use Rattle.table_deeds.specs.Listing.{AreApart}
use Rattle.shared_table.specs.declared.object.DeskState.{DeskState}
use Rattle.whole_parts.specs.Dues.{LivesBy, share}
use Rattle.made_rounds.proofs.Desk.{main_lives}
use Rattle.hart_workers.specs.declared.reading.Reading.{Reading}
use Rattle.hart_workers.specs.Reading.{HasRead}
use Rattle.hart_workers.specs.Closing.{AreLivingBelow}
use Rattle.hart_workers.proofs.Lists.{in_first, in_last, in_front_or_last, each_then, apart_then}

pub none_below : (d : DeskState) → AreLivingBelow d 0 []
none_below d = record { living = λ t. (λ i. absurd i, λ h. absurd (let l = h.0 in omega (arith, l))); apart = tt; born = tt }

-- one more thread lives
pub lives_then : (d : DeskState) (n : ℕ) (live : List ℕ) → AreLivingBelow d n live → LivesBy d n → n < d.desk.made →
    AreLivingBelow d (n + 1) (live ++ n ∷ [])
lives_then d n live h lives made = record {
  living = λ t. (
    λ i. elim (in_front_or_last t n live i) [
      | inl j ↦ (let k = (h.living t).0 j in let l = k.0 in (omega (arith, l), k.1))
      | inr e ↦ (omega (arith, e), subst (LivesBy d) (sym e) lives)
    ],
    λ k. there t k.1 k.0 (cases_lt t n),
  );
  apart = apart_then live n h.apart (λ t i. ((h.living t).0 i).0);
  born = each_then (λ (t : ℕ). t < d.desk.made) live n h.born made;
}
  where
    there : (t : ℕ) → LivesBy d t → t < n + 1 → (t < n) ⊎ (n ≤ t) → In t (live ++ n ∷ [])
    there t k m (inl l) = in_first t live (n ∷ []) ((h.living t).1 (l, k))
    there t k m (inr l) = let e : n ≡ t = omega (arith, l, m) in subst (λ (u : ℕ). In u (live ++ n ∷ [])) e (in_last n live)

-- or doesn't
pub ended_then : (d : DeskState) (n : ℕ) (live : List ℕ) → AreLivingBelow d n live → (LivesBy d n → ⊥) → AreLivingBelow d (n + 1) live
ended_then d n live h dead = record {
  living = λ t. (
    λ i. (let k = (h.living t).0 i in let l = k.0 in (omega (arith, l), k.1)),
    λ k. go t k.1 k.0 (cases_lt t n),
  );
  apart = h.apart;
  born = h.born;
}
  where
    go : (t : ℕ) → LivesBy d t → t < n + 1 → (t < n) ⊎ (n ≤ t) → In t live
    go t k m (inl l) = (h.living t).1 (l, k)
    go t k m (inr l) = let e : t ≡ n = omega (arith, l, m) in absurd (dead (subst (LivesBy d) e k))

-- ---- all threads

past_all : (ts : List ThreadContents) (t : ℕ) → (slice_index_or ts t no_thread).lives ≡ true → t < length ts
past_all [] t e = absurd (cc)
past_all (x ∷ ts) zero e = omega arith
past_all (x ∷ ts) (suc t) e = let l = past_all ts t e in omega (arith, l)

-- a thread that lives is one of those that the desk has
pub all_living : (d : DeskState) (live : List ℕ) → AreLivingBelow d (length d.desk.threads) live → (t : ℕ) → In t live ↔ LivesBy d t
all_living d live h t = (λ i. ((h.living t).0 i).1, λ k. (h.living t).1 (past_all d.desk.threads t k, k))

-- ---- the first desk

pub div_one : (n : ℕ) → n / 1 ≡ n
div_one n = omega arith

one_lives : (limits : Limits) → live_of (new_desk limits) ≡ 1
one_lives limits = refl

-- with a quantum and a budget, the main thread has a share
pub first_read : (limits : Limits) (d : DeskState) (r : Reading) → 1 ≤ limits.quantum → 1 ≤ limits.steps → d.desk ≡ new_desk limits → d.machine.ended ≡ None →
    length d.machine.made ≡ 1 → r.live.items ≡ 0 ∷ [] → r.made ≡ 1 → r.share ≡ min limits.quantum limits.steps → r.end ≡ None →
    HasRead limits limits.steps d r
first_read limits d r quantum steps new runs one live made given end =
    let alive : live_of d.desk ≡ 1 = ap live_of new ∙ one_lives limits in
    let whole : limits.steps / live_of d.desk ≡ limits.steps = ap (λ (n : ℕ). limits.steps / n) alive ∙ div_one limits.steps in
    let is : r.share ≡ share limits limits.steps d = given ∙ ap (min limits.quantum) (sym whole) in
    record {
      living = λ t. (
        λ i. (main_lives limits d t new).1 (only t (subst (In t) live i)),
        λ k. subst (In t) (sym live) (inl ((main_lives limits d t new).0 k)),
      );
      apart = subst AreApart (sym live) (tt, tt);
      born = subst (Each (λ (t : ℕ). t < d.desk.made)) (sym live) (let m : d.desk.made ≡ 1 = ap (λ (c : DeskContents). c.made) new in omega (arith, m), tt);
      made = made ∙ sym one;
      goes_on = λ e. record { goes_on = runs; some_live = omega (arith, alive); share_of_each = is; some_given = omega (arith, given, quantum, steps) };
      ends = λ g e. absurd (let z : r.end ≡ None = end in cc);
      output = λ g e. absurd (let z : r.end ≡ None = end in cc);
    }
  where
    only : (t : ℕ) → In t (0 ∷ []) → t ≡ 0
    only t (inl e) = e
    only t (inr i) = absurd i
