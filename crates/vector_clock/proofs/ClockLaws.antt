-- What a slot's epoch is after a call on a clock.
use Rattle.std.proofs.Common.{◌≡◌, ◌<◌, ℕ, List, length, get_or, replicate, max, arith, sym, ◌∙◌, inl, inr}
use Rattle.std.proofs.Math.ListN.{get_or-eq_default, length-replicate}
use Rattle.std.proofs.lemmas.Bool.{cases_lt}
use Rattle.std.proofs.lemmas.List.{get_or-replicate}
use Rattle.std.proofs.lemmas.Grind.{same_number_lists}
use Rattle.std.proofs.lemmas.Simd.{get_or-zip2, length-zip2}
use Rattle.vector_clock.specs.Clocks.{joined}

pub length-joined : (one other : List ℕ) → length one ≡ length other → length (joined one other) ≡ length one
length-joined one other same = length-zip2 max one other same

-- the greater of the two epochs of each slot, and 0 of what is no slot
pub get_or-joined : (one other : List ℕ) (sid : ℕ) → length one ≡ length other → get_or (joined one other) sid 0 ≡ max (get_or one sid 0) (get_or other sid 0)
get_or-joined one other sid same =
    elim (cases_lt sid (length one)) [
      | inl within ↦ get_or-zip2 max one other sid 0 0 0 within (omega arith)
      | inr beyond ↦
          let long = length-joined one other same in
          rw (get_or-eq_default (joined one other) 0 {n = sid} (omega arith), get_or-eq_default one 0 beyond, get_or-eq_default other 0 {n = sid} (omega arith))
    ]

-- a list of the greater epochs is the joined one
pub joined-from_each : (one other new : List ℕ) → length one ≡ length other → length new ≡ length one → ((sid : ℕ) → sid < length one → get_or new sid 0 ≡ max (get_or one sid 0) (get_or other sid 0)) → new ≡ joined one other
joined-from_each one other new same long each =
    same_number_lists new (joined one other) (long ∙ sym (length-joined one other same)) (λ sid within. each sid (omega arith) ∙ sym (get_or-joined one other sid same))

-- a cleared clock has the epoch 0 of every slot
pub get_or-cleared : (slots sid : ℕ) → get_or {A = ℕ} (replicate slots 0) sid 0 ≡ 0
get_or-cleared slots sid =
    elim (cases_lt sid slots) [
      | inl within ↦ get_or-replicate slots sid 0 0 within
      | inr beyond ↦ get_or-eq_default (replicate {A = ℕ} slots 0) 0 {n = sid} (omega (arith, length-replicate {A = ℕ} slots 0))
    ]
