-- What is asked of a past and of its deeds can be met: by the opening seat, which takes the only object of a table once and leaves another value.
use Rattle.std.proofs.Common.{◌≡◌, ◌≢◌, ℕ, zero, suc, ◌<◌, true, false, List, [], ◌∷◌, ◌++◌, length, Some, refl, sym, ap, ◌∙◌, subst, arith, eq-eqb, ne_eqb}
use Rattle.std.specs.Prelude.{◌==◌}
use mathlib.Core.Option.{some, some-injective, some-ne-none}
use lib.ListN.{get_elem?}
use Rattle.shared_table.specs.declared.object.Object.{Object}
use Rattle.shared_table.specs.declared.view.Layout.{Layout}
use Rattle.shared_table.specs.declared.view.Item.{Item}
use Rattle.shared_table.specs.declared.view.Item.TheVariants.{Take, Give}
use Rattle.shared_table.specs.Layouts.{objects_of, first_of}
use Rattle.shared_table.specs.Past.{Log, Past, IsSound, log_of, Lawful}
use Rattle.shared_table.proofs.Pasts.{log_else}
use Rattle.turn_orders.specs.Lists.{Each}
use Rattle.turn_orders.specs.Machine.{State}
use Rattle.turn_orders.specs.LineUp.{Deed, LocalsFollow}
use Rattle.woven_turns.specs.Weave.{Tags, IsTagged, first_deeds, IsSeatOfThread, Worked}

module _ (lay : Layout) (x y : Object) (one : objects_of lay ≡ 1) (first : first_of lay 0 ≡ Some x) (sound : IsSound lay 0 y) where
  abbrev taken : Past
  taken = (0, Take 0 1) ∷ []

  abbrev past : Past
  past = (0, Give 0 1 x y) ∷ taken

  some_object : 0 < objects_of lay
  some_object = omega arith

  lawful : Lawful lay (past ++ [])
  lawful = (refl, (some_object, refl, refl, first, sound), (refl, (some_object, refl, refl), tt))

  other_log : (n : ℕ) → log_of (suc n) past ≡ []
  other_log n = log_else taken 0 (suc n) (Give 0 1 x y) (λ e. omega arith) ∙ log_else [] 0 (suc n) (Take 0 1) (λ e. omega arith)

  module _ {L A T : Type 0} (d : Deed L Object A T) (l : L) (thread : d.call.thread ≡ 0) (place : d.call.place ≡ 0) (found : d.found ≡ x) (left : d.left ≡ y) (local_found : d.local_found ≡ l) where
    abbrev tag : Tags L A T
    tag zero zero = []
    tag zero (suc zero) = d ∷ []
    tag zero (suc (suc j)) = []
    tag (suc n) j = []

    abbrev start : State L Object
    start = record { local = λ t. l; value = λ k. x }

    tagged : (n j : ℕ) (z : Item) → get_elem? (log_of n past) j ≡ some z → IsTagged z (tag n j)
    tagged zero zero z e = subst (λ (w : Item). IsTagged {L = L} {A = A} {T = T} w []) (some-injective (Take 0 1) z e) refl
    tagged zero (suc zero) z e = subst (λ (w : Item). IsTagged w (d ∷ [])) (some-injective (Give 0 1 x y) z e) (place, found, left)
    tagged zero (suc (suc j)) z e = absurd (some-ne-none z (sym e))
    tagged (suc n) j z e = absurd (some-ne-none z (sym (ap (λ (w : Log). get_elem? w j) (sym (other_log n)) ∙ e)))

    first_thread : IsSeatOfThread tag 0 0
    first_thread = record { mine = mine; others = others }
      where
        mine : (j : ℕ) → Each (λ (e : Deed L Object A T). (e.call.thread == 0) ≡ true) (tag 0 j)
        mine zero = tt
        mine (suc zero) = (eq-eqb d.call.thread 0 thread, tt)
        mine (suc (suc j)) = tt

        others : (m j : ℕ) → m ≢ 0 → Each (λ (e : Deed L Object A T). (e.call.thread == 0) ≡ false) (tag m j)
        others zero j ne = absurd (ne refl)
        others (suc m) j ne = tt

    other_threads : (t : ℕ) → IsSeatOfThread tag (suc t) (suc t)
    other_threads t = record { mine = λ j. tt; others = others }
      where
        others : (m j : ℕ) → m ≢ suc t → Each (λ (e : Deed L Object A T). (e.call.thread == suc t) ≡ false) (tag m j)
        others zero zero ne = tt
        others zero (suc zero) ne = (ne_eqb d.call.thread (suc t) (λ e. omega arith), tt)
        others zero (suc (suc j)) ne = tt
        others (suc m) j ne = tt

    seats : (t : ℕ) → IsSeatOfThread tag t t
    seats zero = first_thread
    seats (suc t) = other_threads t

    none_first : (n j : ℕ) → first_deeds (tag (suc n)) j ≡ []
    none_first n zero = refl
    none_first n (suc j) = ap (λ (z : List (Deed L Object A T)). z ++ []) (none_first n j)

    locals : (t : ℕ) → LocalsFollow l (first_deeds (tag t) (length (log_of t past)) ++ [])
    locals zero = (sym local_found, tt)
    locals (suc t) = subst (λ (z : List (Deed L Object A T)). LocalsFollow l (z ++ [])) (sym (none_first t (length (log_of (suc t) past)))) tt

    worked : Worked lay start [] past tag (λ t. t) []
    worked = record {
      tagged = tagged;
      seats = seats;
      locals = locals;
      values = λ k lt. let e : 0 ≡ k = omega arith in subst (λ (z : ℕ). first_of lay z ≡ Some x) e first;
      private = tt;
      private_values = λ k le. tt;
    }
