-- Which reservations stand after others end.
use Rattle.std.proofs.Common.{◌≡◌, ◌≢◌, ℕ, Bool, true, false, not, eqb-true, eq-eqb, ne_eqb, List, [], ◌∷◌, ◌++◌, refl, sym, ap, ◌∙◌}
use Rattle.std.specs.Prelude.{◌==◌, ◌&&◌, ◌||◌}
use Rattle.std.proofs.lemmas.Bool.{and_parts}
use Rattle.std.proofs.lemmas.List.Folds.{list_any-append}
use Rattle.std.proofs.lemmas.Map.Views.{any-filter_same}
use Rattle.guest_memory.specs.declared.reservations.Reservation.{Reservation}
use Rattle.guest_memory.specs.Reservations.{stands, without_granule, without_thread, with_reservation}

-- the reservation is that thread's, of that granule
abbrev is_of : ℕ → ℕ → Reservation → Bool
is_of t n r = (r.tid == t) && (r.granule == n)

thread_of : (t n : ℕ) (r : Reservation) → is_of t n r ≡ true → r.tid ≡ t
thread_of t n r e = eqb-true r.tid t (and_parts (r.tid == t) (r.granule == n) e).0

granule_of : (t n : ℕ) (r : Reservation) → is_of t n r ≡ true → r.granule ≡ n
granule_of t n r e = eqb-true r.granule n (and_parts (r.tid == t) (r.granule == n) e).1

or_false : (b : Bool) → (b || false) ≡ b
or_false true = refl
or_false false = refl

or_true : (b : Bool) → (b || true) ≡ true
or_true true = refl
or_true false = refl

pub and_false : (b : Bool) → (b && false) ≡ false
and_false true = refl
and_false false = refl

-- none of the thread's own
pub none_without : (rs : List Reservation) (t n : ℕ) → stands (without_thread rs t) t n ≡ false
none_without rs t n = any-filter_same (is_of t n) (λ r. not (r.tid == t)) false (λ r e. ap not (eq-eqb r.tid t (thread_of t n r e))) rs

-- and all of the others'
pub others_without : (rs : List Reservation) (t u n : ℕ) → u ≢ t → stands (without_thread rs t) u n ≡ stands rs u n
others_without rs t u n ne = any-filter_same (is_of u n) (λ r. not (r.tid == t)) true (λ r e. ap not (ne_eqb r.tid t (λ q. ne (sym (thread_of u n r e) ∙ q)))) rs

-- none of the granule
pub none_ungranted : (rs : List Reservation) (u n : ℕ) → stands (without_granule rs n) u n ≡ false
none_ungranted rs u n = any-filter_same (is_of u n) (λ r. not (r.granule == n)) false (λ r e. ap not (eq-eqb r.granule n (granule_of u n r e))) rs

-- and all of other granules
pub others_ungranted : (rs : List Reservation) (u g n : ℕ) → n ≢ g → stands (without_granule rs g) u n ≡ stands rs u n
others_ungranted rs u g n ne = any-filter_same (is_of u n) (λ r. not (r.granule == g)) true (λ r e. ap not (ne_eqb r.granule g (λ q. ne (sym (granule_of u n r e) ∙ q)))) rs

-- one more
pub stands_push : (rs : List Reservation) (t g u n : ℕ) → stands (rs ++ record { tid = t; granule = g } ∷ []) u n ≡ (stands rs u n || ((t == u) && (g == n)))
stands_push rs t g u n = list_any-append (is_of u n) rs (record { tid = t; granule = g } ∷ []) ∙ ap (λ (b : Bool). stands rs u n || b) (or_false ((t == u) && (g == n)))

-- the thread that reserves has that granule and no other
pub own_reserved : (rs : List Reservation) (t g n : ℕ) → stands (with_reservation rs t g) t n ≡ (g == n)
own_reserved rs t g n =
    stands_push (without_thread rs t) t g t n ∙ (ap (λ (b : Bool). b || ((t == t) && (g == n))) (none_without rs t n) ∙ ap (λ (b : Bool). b && (g == n)) (eq-eqb t t refl))

-- and the others have what they had
pub others_reserved : (rs : List Reservation) (t g u n : ℕ) → u ≢ t → stands (with_reservation rs t g) u n ≡ stands rs u n
others_reserved rs t g u n ne =
    stands_push (without_thread rs t) t g u n
    ∙ (ap (λ (b : Bool). stands (without_thread rs t) u n || (b && (g == n))) (ne_eqb t u (λ q. ne (sym q)))
    ∙ (or_false (stands (without_thread rs t) u n) ∙ others_without rs t u n ne))
