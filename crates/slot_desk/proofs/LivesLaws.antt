-- Which of the threads that were made live.
use Rattle.std.proofs.Common.{◌≡◌, ◌<◌, ◌≤◌, ◌+◌, ℕ, zero, suc, Bool, false, cond, List, [], ◌∷◌, Some, get_or, map, take, slice_get, refl, sym, ap, ◌∙◌, arith, zero-add}
use Rattle.std.specs.Prelude.{count_by, option_map}
use Rattle.std.proofs.lemmas.List.Sums.{sum_by-cons}
use Rattle.std.proofs.lemmas.Option.{slice_get-map}
use Rattle.slot_desk.specs.declared.thread.ThreadState.{ThreadState}
use Rattle.slot_desk.specs.Desks.{ThreadContents, DeskContents, no_thread, thread_of, live_of, lives_of}
use Rattle.slot_desk.specs.Threads.{shown}

-- where none passes from some place on, those before it are all that are counted
counted_before : {X : Type 0} (p : X → Bool) (d : X) (xs : List X) (n : ℕ) → ((i : ℕ) → n ≤ i → p (get_or xs i d) ≡ false) →
    count_by p xs ≡ count_by (λ (b : Bool). b) (take n (map p xs))
counted_before p d [] zero h = refl
counted_before p d [] (suc n) h = refl
counted_before {X} p d (x ∷ xs) zero h =
    let none : p x ≡ false = h zero (omega arith) in
    let rest = counted_before p d xs zero (λ i l. h (suc i) (omega arith)) in
    sum_by-cons (λ (y : X). cond (p y) 1 0) x xs ∙ (rw none (zero-add (count_by p xs) ∙ rest))
counted_before {X} p d (x ∷ xs) (suc n) h =
    let rest = counted_before p d xs n (λ i l. h (suc i) (omega arith)) in
    let right = sum_by-cons (λ (b : Bool). cond b 1 0) (p x) (take n (map p xs)) in
    sum_by-cons (λ (y : X). cond (p y) 1 0) x xs ∙ (ap (λ (m : ℕ). cond {A = ℕ} (p x) 1 0 + m) rest ∙ sym right)

-- as many live as are told to
pub living_counted : (d : DeskContents) → ((tid : ℕ) → d.made ≤ tid → (thread_of d tid).lives ≡ false) → live_of d ≡ count_by (λ (b : Bool). b) (lives_of d)
living_counted d none = counted_before (λ (t : ThreadContents). t.lives) no_thread d.threads d.made none

get_before : {X : Type 0} (xs : List X) (n i : ℕ) → i < n → slice_get (take n xs) i ≡ slice_get xs i
get_before xs zero i l = absurd (omega arith)
get_before [] (suc n) i l = refl
get_before (x ∷ xs) (suc n) zero l = refl
get_before (x ∷ xs) (suc n) (suc i) l = get_before xs n i (omega arith)

-- of a thread that was made it is told whether it lives in memory
pub life_of : (era made tid : ℕ) (threads : List ThreadState) (t : ThreadState) → tid < made → slice_get threads tid ≡ Some t →
    slice_get (take made (map (λ (x : ThreadContents). x.lives) (map (shown era) threads))) tid ≡ Some t.lives
life_of era made tid threads t l is =
    get_before (map (λ (x : ThreadContents). x.lives) (map (shown era) threads)) made tid l
    ∙ (slice_get-map (λ (x : ThreadContents). x.lives) (map (shown era) threads) tid
    ∙ ap (option_map (λ (x : ThreadContents). x.lives)) (slice_get-map (shown era) threads tid ∙ ap (option_map (shown era)) is))
