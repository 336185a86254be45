-- The state as an era begins.
use Rattle.std.proofs.Common.{◌≡◌, ◌≢◌, ◌<◌, ◌+◌, ℕ, zero, suc, Bool, cond, ltb, Option, Some, None, refl, sym, ap, subst, ◌∙◌, ne_eqb, arith}
use Rattle.std.proofs.lemmas.Bool.{lt-ltb}
use Rattle.run_laws.specs.Numbers.{up_from}
use Rattle.run_laws.specs.Moments.{Item, NewEra}
use Rattle.run_laws.specs.Labels.{new_era, labels, queue}
use Rattle.run_laws.specs.Clocks.{no_clocks, clocks}
use Rattle.bare_machine.specs.Memory.{stripe}
use Rattle.bare_machine.specs.Step.{desk}
use Rattle.turn_orders.specs.Lists.{Each, InOrder}
use Rattle.turn_orders.specs.Machine.{State}
use Rattle.place_clocks.specs.Places.{Clock, no_clock, Own, Value, of_desk, of_stripe, of_nobody, stripe_in, desk_of, first_desk, first_value}
use Rattle.place_clocks.specs.Turns.{given_lost, own_lost, era_after, first_state}
use Rattle.place_clocks.specs.Holds.{Whole, HasClocks, whole_at, whole_next}

first_at : (era slots k : ℕ) → k < desk → first_value era slots k ≡ of_stripe (record { channel = λ a p s. 0 })
first_at era slots k l =
    let other : k ≢ desk = λ q. omega arith in
    ap (λ (b : Bool). cond b (of_desk (first_desk era (up_from 0 slots))) (cond (ltb k desk) (of_stripe (record { channel = λ a p s. 0 })) of_nobody)) (ne_eqb k desk other)
    ∙ ap (λ (b : Bool). cond b (of_stripe (record { channel = λ a p s. 0 })) of_nobody) (lt-ltb k desk l)

-- numbers counted up are different
above : (low k n : ℕ) → low < k → Each (λ (b : ℕ). low ≢ b) (up_from k n)
above low k zero l = tt
above low k (suc n) l = ((λ q. omega arith), above low (suc k) n (omega arith))

distinct : (k n : ℕ) → InOrder (λ (a b : ℕ). a ≢ b) (up_from k n)
distinct k zero = tt
distinct k (suc n) = (above k (suc k) n (omega arith), distinct (suc k) n)

-- what is known as an era begins
abbrev pub fresh : ℕ → ℕ → Whole
fresh slots era = record { labels = new_era era; clocks = no_clocks; queue = up_from 0 slots }

pub fresh_holds : (slots era : ℕ) (own : ℕ → Own) → ((t : ℕ) → (own t).label ≡ None) → ((t s : ℕ) → (own t).clock s ≡ 0) → ((t : ℕ) (c : Clock) → (own t).given ≡ Some c → (s : ℕ) → c s ≡ 0)
    → HasClocks (fresh slots era) (record { local = own; value = first_value era slots })
fresh_holds slots era own label clock given = record {
  own = record { label = label; clock = clock; given = given };
  channels = λ a p s. let below : stripe a < desk = omega arith in ap (λ (v : Value). (stripe_in v).channel a p s) (first_at era slots (stripe a) below);
  at_desk = record { era = refl; queue = refl; last = λ s i. refl; left = λ s r. refl; given = λ t r. refl; ended = λ t r. refl };
  sound = record { one_owner = λ t u s a b. absurd (cc); unowned = λ t s a i. absurd (cc); free = λ s i. refl; once = distinct 0 slots };
}

pub first_holds : (g slots : ℕ) (h : ℕ → Item) → HasClocks (whole_at g slots h 0) (first_state slots)
unfolding labels clocks queue
first_holds g slots h = fresh_holds slots 0 (first_state slots).local (λ t. refl) (λ t s. refl) (λ t c e s. absurd (cc))

lost_is : (o : Option Clock) (c : Clock) → given_lost o ≡ Some c → (s : ℕ) → c s ≡ 0
lost_is None c e s = absurd (cc)
lost_is (Some x) c e s = let q : no_clock ≡ c = cc in ap (λ (f : Clock). f s) (sym q)

pub era_holds : (g slots : ℕ) (w : Whole) (m : State Own Value) → HasClocks w m → HasClocks (whole_next g slots w NewEra) (era_after slots m)
era_holds g slots w m h =
    subst (λ (era : ℕ). HasClocks (fresh slots era) (era_after slots m)) (ap (λ (n : ℕ). n + 1) h.at_desk.era)
    (fresh_holds slots ((desk_of m).era + 1) (λ t. own_lost (m.local t)) (λ t. refl) (λ t s. refl) (λ t c e s. lost_is (m.local t).given c e s))
