-- What events make of threads keeps what holds of them at all times.
use Rattle.std.proofs.Common.{◌≡◌, ◌<◌, ◌≤◌, ◌+◌, ◌-◌, ◌≢◌, ℕ, zero, suc, Bool, true, false, cond, not, nat_eq, nat_le, List, [], ◌∷◌, length, refl, sym, ap, subst, ◌∙◌, arith, inl, inr, ne_eqb}
use Rattle.std.specs.Prelude.{count_by, fold}
use Rattle.std.specs.List.{list_any}
use Rattle.std.proofs.lemmas.Bool.{cases_eq, leb-false, or_parts}
use Rattle.std.proofs.lemmas.List.{length-drop}
use Rattle.std.proofs.lemmas.List.Sums.{sum_by-cons, sum_by_push}
use Rattle.run_record.specs.declared.event.Event.{Event}
use Rattle.run_record.specs.declared.event.Event.TheVariants as events
use Rattle.run_laws.specs.Numbers.{up_from}
use Rattle.run_laws.specs.Labels.{raises, is_end}
use Rattle.run_laws.specs.Stacks.{frames_after}
use Rattle.slot_desk.proofs.DeskLists.{up_from-next}
use Rattle.bare_machine.specs.World.{World, start, lives}
use Rattle.bare_machine.specs.Step.{step}
use Rattle.machine_laws.specs.Threads.{Threads, IsUnmade, AreThreads, living, but, threads_in, threads_after}
use Rattle.machine_laws.specs.Events.{IsCreation, IsAllowed, AreAllowed, is_local}
use Rattle.machine_laws.proofs.Lists.{but_at, but_other, but_each}
use Rattle.machine_laws.proofs.StepLaw.{step_is}

-- ---- counting

count_alike : (f g : ℕ → Bool) (k n : ℕ) → ((u : ℕ) → k ≤ u → u < k + n → f u ≡ g u) → count_by f (up_from k n) ≡ count_by g (up_from k n)
count_alike f g k zero h = refl
count_alike f g k (suc n) h =
    let here : f k ≡ g k = h k (omega arith) (omega arith) in
    let rest = count_alike f g (suc k) n (λ u a b. h u (omega arith) (omega arith)) in
    sum_by-cons (λ (u : ℕ). cond (f u) 1 0) k (up_from (suc k) n) ∙ (rw here (ap (λ (m : ℕ). cond {A = ℕ} (g k) 1 0 + m) rest) ∙ sym (sum_by-cons (λ (u : ℕ). cond (g u) 1 0) k (up_from (suc k) n)))

one_more : (b c : Bool) (m n : ℕ) → (b ≡ true → c ≡ true) → m ≤ n → cond {A = ℕ} b 1 0 + m ≤ cond {A = ℕ} c 1 0 + n
one_more true c m n h le = rw (h refl) (omega arith)
one_more false true m n h le = omega arith
one_more false false m n h le = omega arith

count_less : (f g : ℕ → Bool) (k n : ℕ) → ((u : ℕ) → f u ≡ true → g u ≡ true) → count_by f (up_from k n) ≤ count_by g (up_from k n)
count_less f g k zero h = omega arith
count_less f g k (suc n) h =
    subst (λ (m : ℕ). m ≤ count_by g (k ∷ up_from (suc k) n)) (sym (sum_by-cons (λ (u : ℕ). cond (f u) 1 0) k (up_from (suc k) n)))
    (subst (λ (m : ℕ). cond {A = ℕ} (f k) 1 0 + count_by f (up_from (suc k) n) ≤ m) (sym (sum_by-cons (λ (u : ℕ). cond (g u) 1 0) k (up_from (suc k) n)))
    (one_more (f k) (g k) _ _ (h k) (count_less f g (suc k) n h)))

-- ---- one event

-- a thread that lives was made
pub made_of : {harts : ℕ} (threads : Threads) (t : ℕ) → AreThreads harts threads → threads.lives t ≡ true → t < threads.made
made_of threads t are alive =
    elim (Rattle.std.proofs.lemmas.Bool.cases_lt t threads.made) [
      | inl h ↦ h
      | inr h ↦ absurd (let e : true ≡ false = sym alive ∙ (are.unmade t h).lives in cc)
    ]

apart : {harts : ℕ} (threads : Threads) (t u : ℕ) → AreThreads harts threads → threads.lives t ≡ true → threads.made ≤ u → u ≢ t
apart threads t u are alive past e = let h = made_of threads t are alive in absurd (omega arith)

begin_kept : (harts : ℕ) (threads : Threads) (t : ℕ) → AreThreads harts threads → threads.lives t ≡ true → AreThreads harts (threads_after t threads events.Begin)
begin_kept harts threads t are alive =
    record {
      few_made = are.few_made;
      few_live = are.few_live;
      unmade = λ u past.
          let o = are.unmade u past in
          record { lives = o.lives; began = but_other threads.began t u true (apart threads t u are alive past) ∙ o.began; depth = o.depth };
    }

depth_kept : (harts : ℕ) (threads : Threads) (t depth : ℕ) → AreThreads harts threads → threads.lives t ≡ true → AreThreads harts (record threads { depth = but threads.depth t depth })
depth_kept harts threads t depth are alive =
    record {
      few_made = are.few_made;
      few_live = are.few_live;
      unmade = λ u past.
          let o = are.unmade u past in
          record { lives = o.lives; began = o.began; depth = but_other threads.depth t u depth (apart threads t u are alive past) ∙ o.depth };
    }

false_then : (f : ℕ → Bool) (t u : ℕ) → but f t false u ≡ true → f u ≡ true
false_then f t u = but_each (λ (v : ℕ) (b : Bool). b ≡ true → f v ≡ true) f t false (λ e. absurd (cc)) (λ v n e. e) u

end_kept : (harts : ℕ) (threads : Threads) (t : ℕ) → AreThreads harts threads → AreThreads harts (threads_after t threads events.End)
end_kept harts threads t are =
    record {
      few_made = are.few_made;
      few_live = (let a = count_less (but threads.lives t false) threads.lives 0 threads.made (false_then threads.lives t) in let b = are.few_live in omega (arith, a, b));
      unmade = λ u past.
          let o = are.unmade u past in
          record { lives = but_each (λ (v : ℕ) (b : Bool). threads.lives v ≡ false → b ≡ false) threads.lives t false (λ e. refl) (λ v n e. e) u o.lives; began = o.began; depth = o.depth };
    }

-- one more lives
living_more : (f : ℕ → Bool) (n : ℕ) → count_by (but f n true) (up_from 0 (n + 1)) ≡ count_by f (up_from 0 n) + 1
living_more f n =
    ap (count_by (but f n true)) (up_from-next n) ∙
    (sum_by_push (λ (u : ℕ). cond (but f n true u) 1 0) (up_from 0 n) n ∙
    (ap (λ (b : Bool). count_by (but f n true) (up_from 0 n) + cond {A = ℕ} b 1 0) (but_at f n true) ∙
    ap (λ (m : ℕ). m + 1) (count_alike (but f n true) f 0 n (λ u a b. but_other f n u true (λ e. absurd (omega arith))))))

create_kept : (harts : ℕ) (threads : Threads) (t n : ℕ) → AreThreads harts threads → IsCreation harts threads n → AreThreads harts (threads_after t threads (events.Create n))
create_kept harts threads t n are may =
    let next = may.next in
    let below = may.below in
    let room = leb-false harts (living threads) (or_parts (nat_le harts (living threads)) (nat_eq threads.made 1024) may.room).0 in
    let more : living (threads_after t threads (events.Create n)) ≡ living threads + 1 =
    subst (λ (m : ℕ). count_by (but threads.lives m true) (up_from 0 (threads.made + 1)) ≡ living threads + 1) (sym next) (living_more threads.lives threads.made) in
    record {
      few_made = omega arith;
      few_live = omega (arith, more, room);
      unmade = λ u past.
          let o = are.unmade u (omega arith) in
          record { lives = but_other threads.lives n u true (λ e. absurd (omega arith)) ∙ o.lives; began = o.began; depth = o.depth };
    }

pub one_kept : (harts : ℕ) (threads : Threads) (t : ℕ) (e : Event) (rest : List Event) → AreThreads harts threads → IsAllowed harts threads t e rest → AreThreads harts (threads_after t threads e)
one_kept harts threads t events.Begin rest are a = begin_kept harts threads t are a.alive
one_kept harts threads t (events.Create n) rest are a = create_kept harts threads t n are a.may
one_kept harts threads t events.End rest are a = end_kept harts threads t are
one_kept harts threads t (events.Enter frame) rest are a = depth_kept harts threads t (threads.depth t + 1) are a.alive
one_kept harts threads t events.Leave rest are a = depth_kept harts threads t (threads.depth t - 1) are a.alive
one_kept harts threads t _ rest are a = are

pub all_kept : (harts : ℕ) (threads : Threads) (t : ℕ) (es : List Event) → AreThreads harts threads → AreAllowed harts threads t es → AreThreads harts (fold (threads_after t) threads es)
all_kept harts threads t [] are a = are
all_kept harts threads t (e ∷ rest) are a = all_kept harts (threads_after t threads e) t rest (one_kept harts threads t e rest are a.0) a.1

-- ---- steps

pub kept : (file : List ℕ) (w : World) (t : ℕ) → lives w t ≡ true → AreThreads w.harts (threads_in w) → AreThreads (step file w t).world.harts (threads_in (step file w t).world)
kept file w t h are =
    let s = step_is file w t h are in
    subst (λ (harts : ℕ). AreThreads harts (threads_in (step file w t).world)) (sym s.harts_stay)
    (subst (AreThreads w.harts) (sym s.threads_are) (all_kept w.harts (threads_in w) t (step file w t).events are s.allowed))

-- the thread itself
own_alive : (threads : Threads) (t : ℕ) (e : Event) → threads.lives t ≡ true → (threads_after t threads e).lives t ≡ not (is_end e)
own_alive threads t events.End h = but_at threads.lives t false
own_alive threads t (events.Create n) h = but_each (λ (v : ℕ) (b : Bool). threads.lives v ≡ true → b ≡ true) threads.lives n true (λ g. refl) (λ v d g. g) t h
own_alive threads t _ h = h

own_alive_all : (harts : ℕ) (threads : Threads) (t : ℕ) (es : List Event) → AreAllowed harts threads t es → threads.lives t ≡ true → (fold (threads_after t) threads es).lives t ≡ not (list_any is_end es)
own_alive_all harts threads t [] a h = h
own_alive_all harts threads t (events.End ∷ rest) a h = subst (λ (es : List Event). (fold (threads_after t) (threads_after t threads events.End) es).lives t ≡ false) (sym (a.0.last refl)) (but_at threads.lives t false)
own_alive_all harts threads t (e ∷ rest) a h = own_alive_all harts (threads_after t threads e) t rest a.1 (own_alive threads t e h)

pub own : (file : List ℕ) (w : World) (t : ℕ) → lives w t ≡ true → AreThreads w.harts (threads_in w) → lives (step file w t).world t ≡ not (list_any is_end (step file w t).events)
own file w t h are =
    let s = step_is file w t h are in
    ap (λ (threads : Threads). threads.lives t) s.threads_are ∙ own_alive_all w.harts (threads_in w) t (step file w t).events s.allowed h

-- each other one
other_alive : (threads : Threads) (t u : ℕ) (e : Event) → u ≢ t → threads.lives u ≡ true → (threads_after t threads e).lives u ≡ true
other_alive threads t u events.End d h = but_other threads.lives t u false d ∙ h
other_alive threads t u (events.Create n) d h = but_each (λ (v : ℕ) (b : Bool). threads.lives v ≡ true → b ≡ true) threads.lives n true (λ g. refl) (λ v n g. g) u h
other_alive threads t u _ d h = h

other_alive_all : (threads : Threads) (t u : ℕ) (es : List Event) → u ≢ t → threads.lives u ≡ true → (fold (threads_after t) threads es).lives u ≡ true
other_alive_all threads t u [] d h = h
other_alive_all threads t u (e ∷ es) d h = other_alive_all (threads_after t threads e) t u es d (other_alive threads t u e d h)

pub other : (file : List ℕ) (w : World) (t u : ℕ) → lives w t ≡ true → AreThreads w.harts (threads_in w) → lives w u ≡ true → u ≢ t → lives (step file w t).world u ≡ true
other file w t u h are alive d = ap (λ (threads : Threads). threads.lives u) (step_is file w t h are).threads_are ∙ other_alive_all (threads_in w) t u (step file w t).events d alive

-- ---- depths

pub depth_own : (t : ℕ) (threads : Threads) (e : Event) (frames : List ℕ) → length frames ≡ threads.depth t → length (frames_after frames e) ≡ (threads_after t threads e).depth t
depth_own t threads (events.Enter frame) frames h = (let e : suc (length frames) ≡ threads.depth t + 1 = omega arith in e) ∙ sym (but_at threads.depth t (threads.depth t + 1))
depth_own t threads events.Leave frames h = length-drop 1 frames ∙ (ap (λ (n : ℕ). n - 1) h ∙ sym (but_at threads.depth t (threads.depth t - 1)))
depth_own t threads _ frames h = h

pub depth_other : (t u : ℕ) (threads : Threads) (e : Event) → u ≢ t → (threads_after t threads e).depth u ≡ threads.depth u
depth_other t u threads (events.Enter frame) d = but_other threads.depth t u (threads.depth t + 1) d
depth_other t u threads events.Leave d = but_other threads.depth t u (threads.depth t - 1) d
depth_other t u threads _ d = refl

-- ---- local events

pub local_raises : (e : Event) → is_local e ≡ true → raises e ≡ 0
local_raises (events.Create n) h = absurd (cc)
local_raises (events.Release addr part replaces) h = absurd (cc)
local_raises _ h = refl

pub local_ends : (e : Event) → is_local e ≡ true → is_end e ≡ false
local_ends events.End h = absurd (cc)
local_ends _ h = refl

-- ---- the first world

pub start_alive : (file : List ℕ) (harts u : ℕ) → lives (start file harts) u ≡ nat_eq u 0
start_alive file harts zero = refl
start_alive file harts (suc u) = sym (ne_eqb (suc u) 0 (λ e. absurd (omega arith)))

start_unmade : (file : List ℕ) (harts u : ℕ) → 1 ≤ u → IsUnmade (threads_in (start file harts)) u
start_unmade file harts zero h = absurd (omega arith)
start_unmade file harts (suc u) h = record { lives = refl; began = refl; depth = refl }

pub start_threads : (file : List ℕ) (harts : ℕ) → 1 ≤ harts → AreThreads harts (threads_in (start file harts))
start_threads file harts h = record { few_made = omega arith; few_live = h; unmade = start_unmade file harts }
