-- What the events of one instruction make of the threads.
use Rattle.std.proofs.Common.{not, ◌≡◌, ◌<◌, ◌≤◌, ℕ, Bool, true, false, cond, List, [], ◌∷◌, ◌++◌, length, slice_get, slice_set, Option, Some, None, refl, sym, ap, subst, ◌∙◌, arith}
use Rattle.std.specs.Prelude.{count_by, fold}
use Rattle.std.specs.List.{list_any, list_all}
use Rattle.run_record.specs.declared.event.Event.{Event}
use Rattle.run_record.specs.declared.event.Event.TheVariants as events
use Rattle.run_record.specs.declared.finished.GuestEnd.{GuestEnd}
use Rattle.run_laws.specs.Labels.{is_end}
use Rattle.bare_machine.specs.declared.thread.Thread.{Thread}
use Rattle.bare_machine.specs.World.{World}
use Rattle.bare_machine.specs.Step.{goes_on, stops, first_of, desk}
use Rattle.machine_laws.specs.Threads.{Threads, but, threads_in, threads_after}
use Rattle.machine_laws.specs.Events.{AreAllowed, is_pushed, is_local}
use Rattle.machine_laws.specs.Steps.{IsStep}
use Rattle.machine_laws.proofs.Lists.{but_at, but_same, same_threads, threads_of, threads_set, told_at}

-- With these events, and that object, thread t makes these threads of those. There are at most `most` events.
pub record Makes (harts : ℕ) (before : Threads) (t : ℕ) (es : List Event) (object : Option ℕ) (most : ℕ) (after : Threads) : Type 0 where
  pub allowed : AreAllowed harts before t es
  pub after_is : after ≡ fold (threads_after t) before es
  pub few : length es ≤ most
  pub few_pushed : count_by is_pushed es ≤ 2
  pub without_object : object ≡ None → list_all is_local es ≡ true

-- the thread has begun
abbrev pub begun : Threads → ℕ → Threads
begun threads t = threads_after t threads events.Begin

-- so that its next event isn't its first
pub began_not_first : (threads : Threads) (t : ℕ) → false ≡ not ((begun threads t).began t)
began_not_first threads t = ap not (sym (but_at threads.began t true))

begun_already : (threads : Threads) (t : ℕ) → threads.began t ≡ true → begun threads t ≡ threads
begun_already threads t e = same_threads (begun threads t) threads refl (λ u. refl) (but_same threads.began t true e) (λ u. refl)

abbrev begins : Bool → List Event
begins began = cond began [] (events.Begin ∷ [])

-- the events of a first instruction begin with Begin
pub with_begin : {harts : ℕ} {before after : Threads} {t : ℕ} {es : List Event} {object : Option ℕ} (began : Bool) → before.lives t ≡ true → before.began t ≡ began →
    Makes harts (begun before t) t es object 3 after → Makes harts before t (begins began ++ es) object 4 after
with_begin {harts} {before} {after} {t} {es} {object} true alive e m =
    let n = subst (λ (z : Threads). Makes harts z t es object 3 after) (begun_already before t e) m in
    record { allowed = n.allowed; after_is = n.after_is; few = (let h = n.few in omega arith); few_pushed = n.few_pushed; without_object = n.without_object }
with_begin {harts} {before} {after} {t} {es} {object} false alive e m =
    record {
      allowed = (record { alive = alive; first = ap not (sym e); may = tt; last = λ f. absurd (cc) }, m.allowed);
      after_is = m.after_is;
      few = (let h = m.few in omega arith);
      few_pushed = m.few_pushed;
      without_object = m.without_object;
    }

-- ---- a thread goes on, or stops

pub going : (w v : World) (t : ℕ) (x : Thread) (es : List Event) (object : Option ℕ) (after : Threads) →
    (threads_in w).lives t ≡ true → (threads_in w).began t ≡ x.began → v.harts ≡ w.harts → v.ended ≡ w.ended →
    threads_of (slice_set v.threads t (record x { began = true })) ≡ after →
    Makes w.harts (begun (threads_in w) t) t es object 3 after → IsStep w.harts (threads_in w) w.ended t (goes_on v t x es object)
going w v t x es object after alive began harts ended threads m =
    let n = with_begin x.began alive began m in
    record {
      harts_stay = harts;
      allowed = n.allowed;
      threads_are = threads ∙ n.after_is;
      few = n.few;
      few_pushed = n.few_pushed;
      without_object = n.without_object;
      end_stays = λ e is. ended ∙ is;
      end_set = λ none. ended;
    }

-- what a list of threads is after a change of one that lives on
pub goes_threads : (ts : List Thread) (t : ℕ) (x y : Thread) → slice_get ts t ≡ Some x → t < length ts → x.lives ≡ true → y.lives ≡ true → y.began ≡ true →
    threads_of (slice_set ts t y) ≡ record (begun (threads_of ts) t) { depth = but (threads_of ts).depth t y.depth }
goes_threads ts t x y is within alive living began =
    threads_set ts t y within ∙
    same_threads _ _ refl (but_same (threads_of ts).lives t y.lives (told_at (λ (z : Thread). z.lives) false ts t x is ∙ (alive ∙ sym living)))
    (λ u. ap (λ (b : Bool). but (threads_of ts).began t b u) began) (λ u. refl)

-- and where its depth stays
pub stays_threads : (ts : List Thread) (t : ℕ) (x y : Thread) → slice_get ts t ≡ Some x → t < length ts → x.lives ≡ true → y.lives ≡ true → y.began ≡ true → y.depth ≡ x.depth →
    threads_of (slice_set ts t y) ≡ begun (threads_of ts) t
stays_threads ts t x y is within alive living began depth =
    goes_threads ts t x y is within alive living began ∙
    same_threads _ _ refl (λ u. refl) (λ u. refl) (but_same (threads_of ts).depth t y.depth (told_at (λ (z : Thread). z.depth) 0 ts t x is ∙ sym depth))

ends_threads : (ts : List Thread) (t : ℕ) (x y : Thread) → slice_get ts t ≡ Some x → t < length ts → y.lives ≡ false → y.began ≡ true → y.depth ≡ x.depth →
    threads_of (slice_set ts t y) ≡ threads_after t (begun (threads_of ts) t) events.End
ends_threads ts t x y is within dead began depth =
    threads_set ts t y within ∙
    same_threads _ _ refl (λ u. ap (λ (b : Bool). but (threads_of ts).lives t b u) dead) (λ u. ap (λ (b : Bool). but (threads_of ts).began t b u) began)
    (but_same (threads_of ts).depth t y.depth (told_at (λ (z : Thread). z.depth) 0 ts t x is ∙ sym depth))

pub end_makes : (harts : ℕ) (threads : Threads) (t : ℕ) → threads.lives t ≡ true → false ≡ not (threads.began t) → Makes harts threads t (events.End ∷ []) (Some desk) 3 (threads_after t threads events.End)
end_makes harts threads t alive first =
    record { allowed = (record { alive = alive; first = first; may = tt; last = λ e. refl }, tt); after_is = refl; few = omega arith; few_pushed = omega arith; without_object = λ e. absurd (cc) }

first_stays : (ended end : Option GuestEnd) (e : GuestEnd) → ended ≡ Some e → first_of ended end ≡ Some e
first_stays None end e h = absurd (cc)
first_stays (Some d) end e h = h

has_end : (began : Bool) → list_any is_end (begins began ++ events.End ∷ []) ≡ true
has_end true = refl
has_end false = refl

-- the thread ends, where it is the one of that number but for its registers
pub stopping : (w : World) (t : ℕ) (x : Thread) (end : Option GuestEnd) → slice_get w.threads t ≡ Some x → t < length w.threads → x.lives ≡ true → IsStep w.harts (threads_in w) w.ended t (stops w t x end)
stopping w t x end is within alive =
    let lives = told_at (λ (z : Thread). z.lives) false w.threads t x is ∙ alive in
    let began = told_at (λ (z : Thread). z.began) false w.threads t x is in
    let n = with_begin x.began lives began (end_makes w.harts (begun (threads_in w) t) t lives (began_not_first (threads_in w) t)) in
    record {
      harts_stay = refl;
      allowed = n.allowed;
      threads_are = ends_threads w.threads t x (record x { lives = false; began = true }) is within refl refl refl ∙ n.after_is;
      few = n.few;
      few_pushed = n.few_pushed;
      without_object = n.without_object;
      end_stays = λ e h. first_stays w.ended end e h;
      end_set = λ none. absurd (let h : true ≡ false = sym (has_end x.began) ∙ none in cc);
    }
