-- Which threads live after the turns of a round.
use Rattle.std.proofs.Common.{◌≡◌, ℕ, zero, suc, ◌+◌, ◌-◌, ◌<◌, ◌≤◌, Bool, true, false, cond, inl, inr, Option, Some, None, List, [], ◌∷◌, ◌++◌, length, refl, ap, sym, subst, ◌∙◌, arith, append_assoc}
use Rattle.std.specs.Prelude.{fold, filter, find, slice_get, nat_lt}
use Rattle.std.specs.Option.{option_or}
use Rattle.run_laws.specs.Rounds.{next_live}
use Rattle.std.proofs.lemmas.Bool.{cases_eq}
use Rattle.std.proofs.lemmas.List.{append-nil}
use Rattle.std.proofs.lemmas.List.Elements.{filter-append}
use Rattle.std.proofs.lemmas.List.Sums.{fold-append}
use Rattle.std.proofs.Math.Seq.{take-append_seam}
use Rattle.run_record.specs.declared.event.Event.{Event}
use Rattle.run_record.specs.declared.event.Event.TheVariants as events
use Rattle.run_record.specs.declared.entry.Entry.{Entry}
use Rattle.run_laws.specs.Numbers.{up_from}
use Rattle.run_laws.specs.Faithful.{after, state_after, state_before, IsMade}
use Rattle.slot_desk.proofs.DeskLists.{up_from-push}
use Rattle.bare_machine.specs.World.{World, lives}
use Rattle.bare_machine.specs.Step.{step}
use Rattle.machine_laws.specs.Machine.{bare_of}
use Rattle.machine_laws.specs.Threads.{Threads, AreThreads, but, threads_in, threads_after}
use Rattle.machine_laws.specs.Events.{IsAllowed, AreAllowed}
use Rattle.machine_laws.proofs.Lists.{but_at, but_other}
use Rattle.machine_laws.proofs.StepLaw.{step_is}
use Rattle.machine_laws.proofs.ThreadLaw.{one_kept}
use Rattle.run_record.specs.declared.limits.Limits.{Limits}
use Rattle.step_engine.specs.declared.engine.Engine.{Engine}
use Rattle.step_engine.specs.declared.engine.Due as chosen
use Rattle.step_engine.specs.Progress.{IsReady, MakesRound}
use Rattle.step_engine.specs.Live.{live_of}

-- ---- no ended thread lives again

-- From the one to the other no fewer threads were made, and of those that were made before none lives that didn't.
pub record GoOn (harts : ℕ) (a b : Threads) : Type 0 where
  pub are : AreThreads harts b
  pub more : a.made ≤ b.made
  pub ended : (u : ℕ) → u < a.made → b.lives u ≡ true → a.lives u ≡ true

stay : (harts : ℕ) (a : Threads) → AreThreads harts a → GoOn harts a a
stay harts a are = record { are = are; more = omega arith; ended = λ u l alive. alive }

on_and_on : (harts : ℕ) (a b c : Threads) → GoOn harts a b → GoOn harts b c → GoOn harts a c
on_and_on harts a b c p q =
    let m = p.more in
    let n = q.more in
    record { are = q.are; more = omega arith; ended = λ u l alive. p.ended u l (q.ended u (omega arith) alive) }

lived : (f : ℕ → Bool) (t u : ℕ) → but f t false u ≡ true → f u ≡ true
lived f t u alive = elim (cases_eq u t) [
  | inl e ↦ absurd (let dead : but f t false u ≡ false = subst (λ (v : ℕ). but f t false v ≡ false) (sym e) (but_at f t false) in cc)
  | inr n ↦ sym (but_other f t u false n) ∙ alive
]

event_goes_on : (harts : ℕ) (threads : Threads) (t : ℕ) (e : Event) (rest : List Event) → AreThreads harts threads → IsAllowed harts threads t e rest → GoOn harts threads (threads_after t threads e)
event_goes_on harts threads t (events.Create n) rest are a =
    let next = a.may.next in
    record {
      are = one_kept harts threads t (events.Create n) rest are a;
      more = omega arith;
      ended = λ u l alive. sym (but_other threads.lives n u true (λ e. absurd (omega arith))) ∙ alive;
    }
event_goes_on harts threads t events.End rest are a =
    record { are = one_kept harts threads t events.End rest are a; more = omega arith; ended = λ u l alive. lived threads.lives t u alive }
event_goes_on harts threads t e rest are a = record { are = one_kept harts threads t e rest are a; more = omega arith; ended = λ u l alive. alive }

events_go_on : (harts : ℕ) (threads : Threads) (t : ℕ) (es : List Event) → AreThreads harts threads → AreAllowed harts threads t es → GoOn harts threads (fold (threads_after t) threads es)
events_go_on harts threads t [] are a = stay harts threads are
events_go_on harts threads t (e ∷ rest) are a =
    let one = event_goes_on harts threads t e rest are a.0 in
    on_and_on harts threads (threads_after t threads e) (fold (threads_after t) (threads_after t threads e) rest) one (events_go_on harts (threads_after t threads e) t rest one.are a.1)

-- ---- along steps and entries

pub record WorldsGoOn (harts : ℕ) (w v : World) : Type 0 where
  pub harts_are : v.harts ≡ harts
  pub go_on : GoOn harts (threads_in w) (threads_in v)

step_goes_on : (file : List ℕ) (harts : ℕ) (w v : World) (t : ℕ) → WorldsGoOn harts w v → lives v t ≡ true → WorldsGoOn harts w (step file v t).world
step_goes_on file harts w v t g alive =
    let are : AreThreads v.harts (threads_in v) = subst (λ (h : ℕ). AreThreads h (threads_in v)) (sym g.harts_are) g.go_on.are in
    let s = step_is file v t alive are in
    let here : GoOn v.harts (threads_in v) (threads_in (step file v t).world) = subst (GoOn v.harts (threads_in v)) (sym s.threads_are) (events_go_on v.harts (threads_in v) t (step file v t).events are s.allowed) in
    record {
      harts_are = s.harts_stay ∙ g.harts_are;
      go_on = on_and_on harts (threads_in w) (threads_in v) (threads_in (step file v t).world) g.go_on (subst (λ (h : ℕ). GoOn h (threads_in v) (threads_in (step file v t).world)) g.harts_are here);
    }

steps_go_on : (file : List ℕ) (harts : ℕ) (w v : World) (t n : ℕ) → WorldsGoOn harts w v → ((k : ℕ) → k < n → lives (after (bare_of file harts) v t k) t ≡ true) → WorldsGoOn harts w (after (bare_of file harts) v t n)
steps_go_on file harts w v t zero g alive = g
steps_go_on file harts w v t (suc n) g alive =
    step_goes_on file harts w (after (bare_of file harts) v t n) t (steps_go_on file harts w v t n g (λ k l. alive k (omega arith))) (alive n (omega arith))

slice_get-seam : {X : Type 0} (xs : List X) (x : X) (ys : List X) → slice_get (xs ++ x ∷ ys) (length xs) ≡ Some x
slice_get-seam [] x ys = refl
slice_get-seam (y ∷ xs) x ys = slice_get-seam xs x ys

abbrev AreMade : List ℕ → ℕ → List Entry → Type 0
AreMade file harts es = (i : ℕ) (e : Entry) → slice_get es i ≡ Some e → IsMade (bare_of file harts) (state_before (bare_of file harts) es i) e

entries_go_on : (file : List ℕ) (harts : ℕ) (w : World) (before part : List Entry) → AreMade file harts (before ++ part) → WorldsGoOn harts w (state_after (bare_of file harts) before) → WorldsGoOn harts w (state_after (bare_of file harts) (before ++ part))
entries_go_on file harts w before [] made g = subst (λ (es : List Entry). WorldsGoOn harts w (state_after (bare_of file harts) es)) (sym (append-nil before)) g
entries_go_on file harts w before (x ∷ xs) made g =
    let bare = bare_of file harts in
    let v = state_after bare before in
    let here : IsMade bare v x = subst (λ (es : List Entry). IsMade bare (state_after bare es) x) (take-append_seam before (x ∷ xs)) (made (length before) x (slice_get-seam before x xs)) in
    let next : WorldsGoOn harts w (after bare v x.tid x.steps) = steps_go_on file harts w v x.tid x.steps g here.alive in
    let moved : state_after bare (before ++ x ∷ []) ≡ after bare v x.tid x.steps = fold-append (λ (s : World) (e : Entry). after bare s e.tid e.steps) bare.start before (x ∷ []) in
    let whole : (before ++ x ∷ []) ++ xs ≡ before ++ x ∷ xs = append_assoc before (x ∷ []) xs in
    subst (λ (es : List Entry). WorldsGoOn harts w (state_after bare es)) whole
    (entries_go_on file harts w (before ++ x ∷ []) xs (subst (AreMade file harts) (sym whole) made) (subst (WorldsGoOn harts w) (sym moved) next))

-- from the world after the entries to that after more
pub worlds_go_on : (file : List ℕ) (harts : ℕ) (before part : List Entry) → AreMade file harts (before ++ part) → (state_after (bare_of file harts) before).harts ≡ harts → AreThreads harts (threads_in (state_after (bare_of file harts) before)) →
    WorldsGoOn harts (state_after (bare_of file harts) before) (state_after (bare_of file harts) (before ++ part))
worlds_go_on file harts before part made harts_are are =
    entries_go_on file harts (state_after (bare_of file harts) before) before part made (record { harts_are = harts_are; go_on = stay harts (threads_in (state_after (bare_of file harts) before)) are })

-- ---- the list of live threads

up_from-split : (k m n : ℕ) → up_from k (m + n) ≡ up_from k m ++ up_from (k + m) n
up_from-split k zero n = let a : 0 + n ≡ n = omega arith in let b : k + 0 ≡ k = omega arith in rw (a, b) refl
up_from-split k (suc m) n =
    let a : suc m + n ≡ suc (m + n) = omega arith in
    let b : suc k + m ≡ k + suc m = omega arith in
    ap (up_from k) a ∙ ap (λ (xs : List ℕ). k ∷ xs) (up_from-split (suc k) m n ∙ ap (λ (j : ℕ). up_from (suc k) m ++ up_from j n) b)

-- a number before others that two tests are made of, of which the one passes only what the other does
tested_first : (b c : Bool) (k : ℕ) (p : ℕ → Bool) (xs ys : List ℕ) → p k ≡ c → (c ≡ true → b ≡ true) → filter p xs ≡ ys → filter p (cond b (k ∷ xs) xs) ≡ cond c (k ∷ ys) ys
tested_first true true k p xs ys is passes same = rw is (ap (λ (zs : List ℕ). k ∷ zs) same)
tested_first true false k p xs ys is passes same = rw is same
tested_first false true k p xs ys is passes same = absurd (let e : false ≡ true = passes refl in cc)
tested_first false false k p xs ys is passes same = same

-- of the numbers below an end, one test more keeps those that pass both
filtered_twice : (p q : ℕ → Bool) (k n : ℕ) → ((u : ℕ) → u < k + n → p u ≡ true → q u ≡ true) → filter p (filter q (up_from k n)) ≡ filter p (up_from k n)
filtered_twice p q k zero passes = refl
filtered_twice p q k (suc n) passes =
    tested_first (q k) (p k) k p (filter q (up_from (suc k) n)) (filter p (up_from (suc k) n)) refl (passes k (omega arith))
    (filtered_twice p q (suc k) n (λ u l. passes u (omega arith)))

-- after more turns those of the live threads that live still, and of the new ones those that live
pub live-later : (harts : ℕ) (w v : World) → GoOn harts (threads_in w) (threads_in v) →
    filter (lives v) (live_of w) ++ filter (lives v) (up_from (length w.threads) (length v.threads - length w.threads)) ≡ live_of v
live-later harts w v g =
    let n = length w.threads in
    let m = length v.threads in
    let more : n ≤ m = g.more in
    let all : up_from 0 m ≡ up_from 0 n ++ up_from n (m - n) =
    let e : m ≡ n + (m - n) = omega arith in
    let z : 0 + n ≡ n = omega arith in
    ap (up_from 0) e ∙ up_from-split 0 n (m - n) ∙ ap (λ (j : ℕ). up_from 0 n ++ up_from j (m - n)) z in
    let twice : filter (lives v) (live_of w) ≡ filter (lives v) (up_from 0 n) = filtered_twice (lives v) (lives w) 0 n (λ u l. g.ended u (omega arith)) in
    sym (ap (filter (lives v)) all ∙ filter-append (lives v) (up_from 0 n) (up_from n (m - n)) ∙ ap (λ (ys : List ℕ). ys ++ filter (lives v) (up_from n (m - n))) (sym twice))

found_first : (b c : Bool) (p : ℕ → Bool) (x t : ℕ) (found : Option ℕ) → p x ≡ b → (found ≡ Some t → p t ≡ true) → cond b (cond c (Some x) found) found ≡ Some t → p t ≡ true
found_first true true p x t found is later e = let same : x ≡ t = cc in rw same at is
found_first true false p x t found is later e = later e
found_first false c p x t found is later e = later e

found_in : (b : Bool) (q : ℕ → Bool) (x : ℕ) (xs : List ℕ) → find q (cond b (x ∷ xs) xs) ≡ cond b (cond (q x) (Some x) (find q xs)) (find q xs)
found_in true q x xs = refl
found_in false q x xs = refl

found_passes : (q p : ℕ → Bool) (xs : List ℕ) (t : ℕ) → find q (filter p xs) ≡ Some t → p t ≡ true
found_passes q p [] t e = absurd (cc)
found_passes q p (x ∷ xs) t e = found_first (p x) (q x) p x t (find q (filter p xs)) refl (found_passes q p xs t) (sym (found_in (p x) q x (filter p xs)) ∙ e)

-- the next live thread of a list of those that live lives
pub next-lives : (p : ℕ → Bool) (xs : List ℕ) (last : Option ℕ) (t : ℕ) → next_live (filter p xs) last ≡ Some t → p t ≡ true
next-lives p xs None t e = found_passes (λ (u : ℕ). true) p xs t e
next-lives p xs (Some l) t e = go (find (nat_lt l) (filter p xs)) refl e
  where
    go : (o : Option ℕ) → find (nat_lt l) (filter p xs) ≡ o → option_or o (find (λ (u : ℕ). true) (filter p xs)) ≡ Some t → p t ≡ true
    go (Some u) found e = found_passes (nat_lt l) p xs t (found ∙ e)
    go None none e = found_passes (λ (u : ℕ). true) p xs t e

-- where none is in the list, none is found
pub none-found : (xs : List ℕ) → length xs ≡ 0 → find (λ (t : ℕ). true) xs ≡ None
none-found [] e = refl
none-found (x ∷ xs) e = absurd (omega arith)

-- one more number
pub filter-next : (p : ℕ → Bool) (k n : ℕ) → filter p (up_from k (n + 1)) ≡ filter p (up_from k n) ++ cond (p (k + n)) ((k + n) ∷ []) []
filter-next p k n = ap (filter p) (up_from-push k n) ∙ filter-append p (up_from k n) ((k + n) ∷ [])

next-filtered : (p : ℕ → Bool) (from tid : ℕ) → from ≤ tid → filter p (up_from from (tid + 1 - from)) ≡ filter p (up_from from (tid - from)) ++ cond (p tid) (tid ∷ []) []
next-filtered p from tid l =
    let a : tid + 1 - from ≡ (tid - from) + 1 = omega arith in
    let b : from + (tid - from) ≡ tid = omega arith in
    ap (λ (n : ℕ). filter p (up_from from n)) a ∙ filter-next p from (tid - from) ∙ ap (λ (n : ℕ). filter p (up_from from (tid - from)) ++ cond (p n) (n ∷ []) []) b

-- a live thread was added behind the live ones so far
pub live-added : (p : ℕ → Bool) (first so_far next : List ℕ) (from tid : ℕ) → from ≤ tid → p tid ≡ true → so_far ≡ first ++ filter p (up_from from (tid - from)) → next ≡ so_far ++ tid ∷ [] →
    next ≡ first ++ filter p (up_from from (tid + 1 - from))
live-added p first so_far next from tid l lives_now is more =
    more ∙ ap (λ (xs : List ℕ). xs ++ tid ∷ []) is ∙ append_assoc first (filter p (up_from from (tid - from))) (tid ∷ [])
    ∙ ap (λ (xs : List ℕ). first ++ xs) (sym (next-filtered p from tid l ∙ rw lives_now refl))

-- another thread wasn't
pub none-added : (p : ℕ → Bool) (first next : List ℕ) (from tid : ℕ) → from ≤ tid → p tid ≡ false → next ≡ first ++ filter p (up_from from (tid - from)) →
    next ≡ first ++ filter p (up_from from (tid + 1 - from))
none-added p first next from tid l dead is =
    is ∙ ap (λ (xs : List ℕ). first ++ xs) (sym (next-filtered p from tid l ∙ (rw dead (append-nil (filter p (up_from from (tid - from)))))))

-- ---- along a round of the engine

module _ (file : List ℕ) (limits : Limits) (old new : Engine) (d : chosen.Due) (ready : IsReady file limits old) (made : MakesRound file limits old new d) where
  abbrev bare_world : List Entry → World
  bare_world es = state_after (bare_of file limits.harts) es

  pub engine_goes_on : WorldsGoOn limits.harts old.watched.machine new.watched.machine
  engine_goes_on =
      let was = ready.between.follows in
      let now = made.ready.between.follows in
      let all : AreMade file limits.harts (old.entries ++ made.part) = subst (AreMade file limits.harts) made.entries_are now.lawful.faithful.made in
      let harts_are : (bare_world old.entries).harts ≡ limits.harts = subst (λ (w : World). w.harts ≡ limits.harts) was.machine was.harts in
      let are : AreThreads limits.harts (threads_in (bare_world old.entries)) = subst (λ (w : World). AreThreads limits.harts (threads_in w)) was.machine was.agrees.are_threads in
      let go = worlds_go_on file limits.harts old.entries made.part all harts_are are in
      subst (λ (w : World). WorldsGoOn limits.harts w new.watched.machine) (sym was.machine)
      (subst (WorldsGoOn limits.harts (bare_world old.entries)) (ap bare_world (sym made.entries_are) ∙ sym now.machine) go)

  pub made_more : length old.watched.machine.threads ≤ length new.watched.machine.threads
  made_more = engine_goes_on.go_on.more

  -- the list of live threads that was kept and added to
  pub live_again : (before after count : _) → before ≡ live_of old.watched.machine → count ≡ length old.watched.machine.threads →
      after ≡ filter (lives new.watched.machine) before ++ filter (lives new.watched.machine) (up_from count (length new.watched.machine.threads - count)) →
      after ≡ live_of new.watched.machine
  live_again before after count was is then =
      then ∙ rw (was, is) (live-later limits.harts old.watched.machine new.watched.machine engine_goes_on.go_on)
