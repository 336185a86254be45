-- Which thread has reserved which granule.
use Rattle.std.specs.Prelude.{ℕ, ◌==◌, ◌&&◌, not, Bool, List, [], ◌∷◌, ◌++◌, filter}
use Rattle.std.specs.List.{list_any}
use Rattle.guest_memory.specs.declared.reservations.Reservation.{Reservation}

-- the thread's reservation of the granule stands
abbrev pub stands : List Reservation → ℕ → ℕ → Bool
stands reservations tid granule = list_any (λ (r : Reservation). (r.tid == tid) && (r.granule == granule)) reservations

-- those of other granules
abbrev pub without_granule : List Reservation → ℕ → List Reservation
without_granule reservations granule = filter (λ (r : Reservation). not (r.granule == granule)) reservations

-- those of other threads
abbrev pub without_thread : List Reservation → ℕ → List Reservation
without_thread reservations tid = filter (λ (r : Reservation). not (r.tid == tid)) reservations

-- the thread reserves the granule, in place of the one that it had
abbrev pub with_reservation : List Reservation → ℕ → ℕ → List Reservation
with_reservation reservations tid granule = without_thread reservations tid ++ record { tid = tid; granule = granule } ∷ []
