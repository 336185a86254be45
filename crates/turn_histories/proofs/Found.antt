-- What stands at each number of a history of turns.
use Rattle.std.proofs.Common.{◌≡◌, ◌≢◌, ◌<◌, ◌≤◌, ◌⊎◌, inl, inr, ℕ, zero, suc, ◌+◌, ◌-◌, Bool, true, false, cond, List, [], ◌∷◌, ◌++◌, length, take, Option, Some, None, refl, sym, ap, subst, ◌∙◌, arith, ne_eqb}
use Rattle.std.specs.Prelude.{◌==◌, slice_get, All, AllPairs}
use Rattle.std.specs.List.{AllZip}
use Rattle.std.proofs.lemmas.List.Elements.{All-nil, All-cons}
use Rattle.std.proofs.lemmas.List.Kept.{AllPairs-cons}
use Rattle.run_record.specs.declared.entry.Entry.{Entry}
use Rattle.run_laws.specs.Faithful.{Bare, after, state_before, state_after, object_of, Precedes}
use Rattle.bare_machine.specs.World.{World, start}
use Rattle.bare_machine.specs.Step.{step, desk}
use Rattle.machine_laws.specs.Machine.{bare_of}
use Rattle.turn_orders.specs.Lists.{Each, InOrder}
use Rattle.turn_orders.specs.LineUp.{Before, IsSorted, Stamped}
use Rattle.watched_turns.specs.Turns.{Local}
use Rattle.watched_turns.specs.Along.{StampedDeed}
use Rattle.turn_histories.specs.Entries.{IsPlaceOf, IsEntryOf}
use Rattle.turn_histories.proofs.Made.{Facts}
use Rattle.turn_histories.proofs.Along.{world_over, AllFacts}

-- each entry with its number, from n on, and with its turn
abbrev pub EachAt : (ℕ → Entry → Type 0) → ℕ → List Entry → Type 0
EachAt P n [] = Unit {0}
EachAt P n (e ∷ es) = P n e × EachAt P (suc n) es

abbrev pub ZipAt : (ℕ → StampedDeed → Entry → Type 0) → ℕ → List StampedDeed → List Entry → Type 0
ZipAt P n (d ∷ ds) (e ∷ es) = P n d e × ZipAt P (suc n) ds es
ZipAt P n _ _ = Unit {0}

pub at_number : (P : ℕ → Entry → Type 0) (n : ℕ) (es : List Entry) → EachAt P n es → (i : ℕ) (e : Entry) → slice_get es i ≡ Some e → P (n + i) e
at_number P n [] a i e q = absurd (cc)
at_number P n (x ∷ es) a zero e q = (let r : x ≡ e = cc in let z : n ≡ n + 0 = omega arith in subst (λ (i : ℕ). P i e) z (subst (P n) r a.0))
at_number P n (x ∷ es) a (suc i) e q = (let z : suc n + i ≡ n + suc i = omega arith in subst (λ (j : ℕ). P j e) z (at_number P (suc n) es a.1 i e q))

module _ (file : List ℕ) (harts : ℕ) where
  abbrev bare : Bare World
  bare = bare_of file harts

  -- the facts of each entry from the world before it in the history
  pub each_fact : (w : World) (ds : List StampedDeed) (done es : List Entry) → world_over file harts (start file harts) done ≡ w → AllFacts file harts w ds es
      → ZipAt (λ (i : ℕ) (d : StampedDeed) (e : Entry). Facts file harts (state_before bare (done ++ es) i) e e.tid d.call.place) (length done) ds es
  each_fact w [] done [] same facts = tt
  each_fact w [] done (e ∷ es) same facts = absurd facts
  each_fact w (d ∷ ds) done [] same facts = absurd facts
  each_fact w (d ∷ ds) done (e ∷ es) same facts = (
    subst (λ (s : World). Facts file harts s e e.tid d.call.place) (sym same ∙ ap (world_over file harts (start file harts)) (sym (Rattle.std.proofs.Math.Seq.take-append-le (length done) done (e ∷ es) (omega arith) ∙ Rattle.std.proofs.Math.Seq.take-length done))) facts.0,
    subst (λ (all : List Entry). ZipAt (λ (i : ℕ) (d : StampedDeed) (e : Entry). Facts file harts (state_before bare all i) e e.tid d.call.place) (suc (length done)) ds es) (Rattle.std.proofs.lemmas.List.append_assoc done (e ∷ []) es)
        (subst (λ (n : ℕ). ZipAt (λ (i : ℕ) (x : StampedDeed) (f : Entry). Facts file harts (state_before bare ((done ++ e ∷ []) ++ es) i) f f.tid x.call.place) n ds es) one_more
        (each_fact (after bare w e.tid e.steps) ds (done ++ e ∷ []) es (Rattle.std.proofs.lemmas.List.Sums.fold-append (λ (s : World) (e : Entry). after bare s e.tid e.steps) (start file harts) done (e ∷ []) ∙ ap (λ (s : World). after bare s e.tid e.steps) same) facts.1)),
  )
    where
      one_more : length (done ++ e ∷ []) ≡ suc (length done)
      one_more = omega (arith, Rattle.std.proofs.Common.length-append done (e ∷ []))

  -- the object of the entry, by its facts
  pub place_is : (w : World) (e : Entry) (k : ℕ) → Facts file harts w e e.tid k → IsPlaceOf k e.tid (object_of bare w e)
  place_is w e k f = by e.steps refl
    where
      at : (n : ℕ) → e.steps ≡ n → IsPlaceOf k e.tid (cond (n == 0) (Some desk) (step file (after bare w e.tid (n - 1)) e.tid).object)
      at zero q = (f.at_desk q, omega arith)
      at (suc n) q =
          subst (λ (b : Bool). IsPlaceOf k e.tid (cond b (Some desk) (step file (after bare w e.tid (suc n - 1)) e.tid).object)) (sym (ne_eqb (suc n) 0 (λ z. omega arith)))
          (subst (λ (m : ℕ). IsPlaceOf k e.tid (step file (after bare w e.tid (m - 1)) e.tid).object) q (f.last (omega (arith, q))))

      by : (n : ℕ) → e.steps ≡ n → IsPlaceOf k e.tid (object_of bare w e)
      by n q = subst (λ (m : ℕ). IsPlaceOf k e.tid (cond (m == 0) (Some desk) (step file (after bare w e.tid (m - 1)) e.tid).object)) (sym q) (at n q)
