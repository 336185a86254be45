-- A desk that tells of the same threads as the machine goes on to do so.
use Rattle.std.proofs.Common.{◌≡◌, ◌<◌, ◌≤◌, ◌+◌, ◌-◌, ◌≢◌, ℕ, zero, suc, Bool, true, false, cond, nat_eq, nat_le, nat_lt, List, [], ◌∷◌, length, get_or, set, replicate, map, Option, Some, None, refl, sym, ap, subst, ◌∙◌, arith, add-zero}
use Rattle.std.specs.Prelude.{fold, count_by}
use Rattle.std.proofs.lemmas.Bool.{cond-false, cond-true}
use Rattle.std.proofs.lemmas.Bool.Decides.{nat_tests}
use Rattle.std.proofs.lemmas.List.{get_or-set_same, get_or-set_other, length-set, length-map, length-replicate}
use Rattle.std.proofs.lemmas.List.Sums.{sum_by-cons, sum_by_push}
use Rattle.run_record.specs.declared.event.Event.{Event}
use Rattle.run_record.specs.declared.event.Event.TheVariants as events
use Rattle.run_record.specs.declared.limits.Limits.{Limits}
use Rattle.run_laws.specs.Numbers.{up_from}
use Rattle.slot_desk.specs.declared.answers.Created.TheVariants.{Thread, Full}
use Rattle.slot_desk.specs.declared.answers.Joined.TheVariants.{Done, Living, NoSuch}
use Rattle.slot_desk.specs.Desks.{ThreadContents, DeskContents, no_thread, thread_of, live_of, held_of}
use Rattle.slot_desk.specs.Steps as desks
use Rattle.slot_desk.specs.Steps.{new_desk, created, attached_slot, after_attach, after_attach_from, spent_slot, after_detach, after_create, ended, after_end, forgotten, after_reset, join_answer}
use Rattle.slot_desk.proofs.DeskLists.{up_from-next}
use Rattle.bare_machine.specs.World.{World, start, lives}
use Rattle.bare_machine.specs.Step.{step}
use Rattle.machine_laws.proofs.StepLaw.{step_is}
use Rattle.machine_laws.specs.Threads.{AreThreads, Threads, living, but, is_full, threads_in, threads_after}
use Rattle.machine_laws.specs.Events.{IsCreation, IsJoining, IsAllowed}
use Rattle.machine_laws.specs.Agrees.{Agrees}
use Rattle.machine_laws.proofs.Lists.{but_each}
use Rattle.machine_laws.proofs.ThreadLaw.{one_kept, made_of, start_threads}

-- ---- how many live

counted : (xs : List ThreadContents) (f : ℕ → Bool) (k : ℕ) → ((i : ℕ) → (get_or xs i no_thread).lives ≡ f (k + i)) → count_by (λ (x : ThreadContents). x.lives) xs ≡ count_by f (up_from k (length xs))
counted [] f k h = refl
counted (x ∷ xs) f k h =
    let here : x.lives ≡ f k = h zero ∙ ap f (add-zero k) in
    let rest = counted xs f (suc k) (λ i. h (suc i) ∙ (let e : k + suc i ≡ suc k + i = omega arith in ap f e)) in
    let left = sum_by-cons (λ (y : ThreadContents). cond y.lives 1 0) x xs in
    let right = sum_by-cons (λ (u : ℕ). cond (f u) 1 0) k (up_from (suc k) (length xs)) in
    left ∙ (rw here (ap (λ (n : ℕ). cond {A = ℕ} (f k) 1 0 + n) rest) ∙ sym right)

-- none of the numbers from m on counts
none_past : (f : ℕ → Bool) (m r : ℕ) → ((u : ℕ) → m ≤ u → f u ≡ false) → count_by f (up_from 0 (m + r)) ≡ count_by f (up_from 0 m)
none_past f m zero h = ap (λ (n : ℕ). count_by f (up_from 0 n)) (add-zero m)
none_past f m (suc r) h =
    let e : m + suc r ≡ (m + r) + 1 = omega arith in
    ap (λ (n : ℕ). count_by f (up_from 0 n)) e ∙
    (ap (count_by f) (up_from-next (m + r)) ∙
    (sum_by_push (λ (u : ℕ). cond (f u) 1 0) (up_from 0 (m + r)) (m + r) ∙
    (ap (λ (b : Bool). count_by f (up_from 0 (m + r)) + cond {A = ℕ} b 1 0) (h (m + r) (omega arith)) ∙
    (add-zero (count_by f (up_from 0 (m + r))) ∙ none_past f m r h))))

pub live_is : (harts : ℕ) (threads : Threads) (d : DeskContents) → Agrees harts threads d → live_of d ≡ living threads
live_is harts threads d a =
    let few = a.are_threads.few_made in
    let all = a.all_threads in
    let e : length d.threads ≡ threads.made + (1024 - threads.made) = omega (arith, few, all) in
    counted d.threads threads.lives 0 (λ i. a.lives_are i ∙ (let z : i ≡ 0 + i = omega arith in ap threads.lives z)) ∙
    (ap (λ (n : ℕ). count_by threads.lives (up_from 0 n)) e ∙
    none_past threads.lives threads.made (1024 - threads.made) (λ u past. (a.are_threads.unmade u past).lives))

same_test : (l h : ℕ) → l ≤ h → nat_eq l h ≡ nat_le h l
same_test l h le = grind (arith, nat_tests)

pub full_is : (harts : ℕ) (threads : Threads) (d : DeskContents) → Agrees harts threads d → desks.is_full d ≡ is_full harts threads
full_is harts threads d a =
    let few = a.are_threads.few_live in
    let first : nat_eq (live_of d) d.harts ≡ nat_le harts (living threads) = rw (live_is harts threads d a, a.harts_are) (same_test (living threads) harts few) in
    let second : nat_eq d.made 1024 ≡ nat_eq threads.made 1024 = ap (λ (n : ℕ). nat_eq n 1024) a.made_are in
    rw (first, second) refl

-- ---- creations

pub create_answer : (harts : ℕ) (threads : Threads) (d : DeskContents) (n : ℕ) → Agrees harts threads d → IsCreation harts threads n → (n ≡ d.made) × (created d ≡ Thread n)
create_answer harts threads d n a may =
    let same : n ≡ d.made = may.next ∙ sym a.made_are in
    (same, cond-false (desks.is_full d) Full (Thread d.made) (full_is harts threads d a ∙ may.room) ∙ ap Thread (sym same))

-- the lives of a list of threads with one changed
set_lives : (xs : List ThreadContents) (f : ℕ → Bool) (i : ℕ) (x : ThreadContents) → i < length xs → ((u : ℕ) → (get_or xs u no_thread).lives ≡ f u) → (u : ℕ) → (get_or (set xs i x) u no_thread).lives ≡ but f i x.lives u
set_lives xs f i x h lives u =
    but_each (λ (v : ℕ) (b : Bool). (get_or (set xs i x) v no_thread).lives ≡ b) f i x.lives (ap (λ (y : ThreadContents). y.lives) (get_or-set_same xs i x no_thread h))
    (λ v n. ap (λ (y : ThreadContents). y.lives) (get_or-set_other xs i v x no_thread n) ∙ lives v) u

pub create_after : (harts : ℕ) (threads : Threads) (d : DeskContents) (t n : ℕ) (rest : List Event) (clock : List ℕ) →
    Agrees harts threads d → IsAllowed harts threads t (events.Create n) rest → Agrees harts (threads_after t threads (events.Create n)) (after_create d clock)
create_after harts threads d t n rest clock a may =
    let same : d.made ≡ n = a.made_are ∙ sym may.may.next in
    let below = may.may.below in
    let all = a.all_threads in
    let inside : d.made < length d.threads = omega (arith, same, below, all) in
    let new : ThreadContents = record { lives = true; told = Some clock } in
    let after : DeskContents = record d { made = d.made + 1; threads = set d.threads d.made new } in
    subst (λ (e : DeskContents). Agrees harts (threads_after t threads (events.Create n)) e) (sym (cond-false (desks.is_full d) d after (full_is harts threads d a ∙ may.may.room)))
    (record {
      are_threads = one_kept harts threads t (events.Create n) rest a.are_threads may;
      harts_are = a.harts_are;
      made_are = ap (λ (m : ℕ). m + 1) a.made_are;
      lives_are = λ u. set_lives d.threads threads.lives d.made new inside a.lives_are u ∙ ap (λ (m : ℕ). but threads.lives m true u) same;
      all_threads = length-set d.threads d.made new ∙ a.all_threads;
    })

-- ---- ends

ended_by : (harts : ℕ) (threads : Threads) (d : DeskContents) (t : ℕ) (rest : List Event) (clock : List ℕ) (sid epoch : ℕ) →
    Agrees harts threads d → IsAllowed harts threads t events.End rest → Agrees harts (threads_after t threads events.End) (ended d t sid epoch clock)
ended_by harts threads d t rest clock sid epoch a may =
    let below = made_of threads t a.are_threads may.alive in
    let few = a.are_threads.few_made in
    let all = a.all_threads in
    let inside : t < length d.threads = omega (arith, below, few, all) in
    let gone : ThreadContents = record { lives = false; told = Some clock } in
    record {
      are_threads = one_kept harts threads t events.End rest a.are_threads may;
      harts_are = a.harts_are;
      made_are = a.made_are;
      lives_are = set_lives d.threads threads.lives t gone inside a.lives_are;
      all_threads = length-set d.threads t gone ∙ a.all_threads;
    }

end_by : (harts : ℕ) (threads : Threads) (d : DeskContents) (t : ℕ) (rest : List Event) (clock : List ℕ) (held : Option (ℕ × ℕ)) → held_of d t ≡ held → held ≢ None →
    Agrees harts threads d → IsAllowed harts threads t events.End rest → Agrees harts (threads_after t threads events.End) (after_end d t clock)
end_by harts threads d t rest clock None e some a may = absurd (some refl)
end_by harts threads d t rest clock (Some h) e some a may = rw e (ended_by harts threads d t rest clock h.0 (get_or clock h.0 0) a may)

pub end_after : (harts : ℕ) (threads : Threads) (d : DeskContents) (t : ℕ) (rest : List Event) (clock : List ℕ) →
    Agrees harts threads d → IsAllowed harts threads t events.End rest → held_of d t ≢ None → Agrees harts (threads_after t threads events.End) (after_end d t clock)
end_after harts threads d t rest clock a may some = end_by harts threads d t rest clock (held_of d t) refl some a may

-- ---- joins

pub join_done : (harts : ℕ) (threads : Threads) (d : DeskContents) (n : ℕ) → Agrees harts threads d → IsJoining threads n → join_answer d n ≡ Done
join_done harts threads d n a may =
    let below : n < d.made = subst (λ (m : ℕ). n < m) (sym a.made_are) may.made in
    let test : nat_lt n d.made ≡ true = grind (arith, nat_tests) in
    let gone : (thread_of d n).lives ≡ false = a.lives_are n ∙ may.ended in
    cond-true (nat_lt n d.made) (cond (thread_of d n).lives Living Done) NoSuch test ∙ cond-false (thread_of d n).lives Living Done gone

-- ---- what leaves the desk's threads

pub stays : (harts : ℕ) (threads : Threads) (d : DeskContents) (t : ℕ) (e : Event) (rest : List Event) →
    Agrees harts threads d → IsAllowed harts threads t e rest → e ≢ events.End → ((n : ℕ) → e ≢ events.Create n) → Agrees harts (threads_after t threads e) d
stays harts threads d t events.End rest a may ends creates = absurd (ends refl)
stays harts threads d t (events.Create n) rest a may ends creates = absurd (creates n refl)
stays harts threads d t e rest a may ends creates =
    record { are_threads = one_kept harts threads t e rest a.are_threads may; harts_are = a.harts_are; made_are = a.made_are; lives_are = a.lives_are; all_threads = a.all_threads }

attach_by : (harts : ℕ) (threads : Threads) (d : DeskContents) (t : ℕ) (queue : List ℕ) → Agrees harts threads d → Agrees harts threads (after_attach_from d t queue)
attach_by harts threads d t [] a = a
attach_by harts threads d t (sid ∷ rest) a = record { are_threads = a.are_threads; harts_are = a.harts_are; made_are = a.made_are; lives_are = a.lives_are; all_threads = a.all_threads }

pub attach_after : (harts : ℕ) (threads : Threads) (d : DeskContents) (t : ℕ) → Agrees harts threads d → Agrees harts threads (after_attach d t)
attach_after harts threads d t a = attach_by harts threads d t d.queue a

detach_by : (harts : ℕ) (threads : Threads) (d : DeskContents) (t : ℕ) (held : Option (ℕ × ℕ)) → held_of d t ≡ held → Agrees harts threads d → Agrees harts threads (after_detach d t)
detach_by harts threads d t None e a = rw e a
detach_by harts threads d t (Some h) e a = rw e (record { are_threads = a.are_threads; harts_are = a.harts_are; made_are = a.made_are; lives_are = a.lives_are; all_threads = a.all_threads })

pub detach_after : (harts : ℕ) (threads : Threads) (d : DeskContents) (t : ℕ) → Agrees harts threads d → Agrees harts threads (after_detach d t)
detach_after harts threads d t a = detach_by harts threads d t (held_of d t) refl a

forgotten_lives : (xs : List ThreadContents) (u : ℕ) → (get_or (map forgotten xs) u no_thread).lives ≡ (get_or xs u no_thread).lives
forgotten_lives [] u = refl
forgotten_lives (x ∷ xs) zero = refl
forgotten_lives (x ∷ xs) (suc u) = forgotten_lives xs u

pub reset_after : (harts : ℕ) (threads : Threads) (d : DeskContents) → Agrees harts threads d → Agrees harts threads (after_reset d)
reset_after harts threads d a =
    record {
      are_threads = a.are_threads;
      harts_are = a.harts_are;
      made_are = a.made_are;
      lives_are = λ u. forgotten_lives d.threads u ∙ a.lives_are u;
      all_threads = length-map d.threads forgotten ∙ a.all_threads;
    }

-- ---- the first desk

none_lives : (n u : ℕ) → (get_or (replicate n no_thread) u no_thread).lives ≡ false
none_lives zero u = refl
none_lives (suc n) zero = refl
none_lives (suc n) (suc u) = none_lives n u

first_lives : (file : List ℕ) (limits : Limits) (u : ℕ) → (thread_of (new_desk limits) u).lives ≡ (threads_in (start file limits.harts)).lives u
first_lives file limits zero = refl
first_lives file limits (suc u) = none_lives 1023 u

pub new_is : (file : List ℕ) (limits : Limits) → 1 ≤ limits.harts → Agrees limits.harts (threads_in (start file limits.harts)) (new_desk limits)
new_is file limits h =
    record { are_threads = start_threads file limits.harts h; harts_are = refl; made_are = refl; lives_are = first_lives file limits; all_threads = ap suc (length-replicate 1023 no_thread) }

-- ---- whole steps

pub step_agrees : (file : List ℕ) (w : World) (t : ℕ) (d : DeskContents) → lives w t ≡ true → AreThreads w.harts (threads_in w) →
    Agrees w.harts (fold (threads_after t) (threads_in w) (step file w t).events) d → Agrees (step file w t).world.harts (threads_in (step file w t).world) d
step_agrees file w t d alive are a =
    let s = step_is file w t alive are in
    subst (λ (harts : ℕ). Agrees harts (threads_in (step file w t).world) d) (sym s.harts_stay) (subst (λ (threads : Threads). Agrees w.harts threads d) (sym s.threads_are) a)
