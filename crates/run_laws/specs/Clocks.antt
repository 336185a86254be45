-- Vector clocks: what each thread knows, and what is left for others.
use Rattle.std.specs.Prelude.{◌≡◌, ◌⊎◌, ℕ, zero, suc, ◌+◌, max, ◌==◌, if◌then◌else◌, Bool, true, false, ◌&&◌, Option, Some, None}
use Rattle.run_record.specs.declared.event.Event.{Event}
use Rattle.run_record.specs.declared.event.Event.TheVariants.{Begin, Create, End, Join, Acquire, Release}
use Rattle.run_record.specs.declared.event.Part.{Part}
use Rattle.run_record.specs.declared.entry.DeskNote.TheVariants.{Nothing, Attach, Leave}
use Rattle.run_laws.specs.Moments.{Item, Does, Notes, NewEra, Past}
use Rattle.run_laws.specs.HappensBefore.{same_part, ends_channel}
use Rattle.run_laws.specs.Labels.{Labels, labels, holds, is_end, raised, can_attach}

-- where a clock is left for others: at a channel, for a thread's Begin, for a Join of a thread
pub data Place : Type 0 where
  Channel : (addr : ℕ) (part : Part) → Place
  Given : (child : ℕ) → Place
  Ended : (tid : ℕ) → Place

abbrev pub same_place : Place → Place → Bool
same_place (Channel a p) (Channel b q) = (a == b) && same_part p q
same_place (Given t) (Given u) = t == u
same_place (Ended t) (Ended u) = t == u
same_place _ _ = false

-- the place whose clock the thread takes in by the event
abbrev pub taken_from : ℕ → Event → Option Place
taken_from t Begin = Some (Given t)
taken_from t (Join child) = Some (Ended child)
taken_from t (Acquire addr part) = Some (Channel addr part)
taken_from t _ = None

-- the place to which the thread's clock is joined by the event
abbrev pub left_at : ℕ → Event → Option Place
left_at t (Create child) = Some (Given child)
left_at t End = Some (Ended t)
left_at t (Release addr part replaces) = Some (Channel addr part)
left_at t _ = None

abbrev pub is_place : Option Place → Place → Bool
is_place None y = false
is_place (Some x) y = same_place x y

-- a place, or what a slot's owner leaves to the next one
pub data Spot : Type 0 where
  Of : (place : Place) → Spot
  Left : (slot : ℕ) → Spot

abbrev pub leaves : Labels → ℕ → Event → Spot → Bool
leaves l t e (Of y) = is_place (left_at t e) y
leaves l t e (Left s) = is_end e && holds (l.slot_of t) s

-- the event makes the spot empty, before it leaves a clock there
abbrev pub empties : Labels → ℕ → Event → Spot → Bool
empties l t e (Of (Channel a p)) = ends_channel a p e
empties l t e (Of (Given child)) = false
empties l t e (Of (Ended tid)) = false
empties l t e (Left s) = is_end e && holds (l.slot_of t) s

-- for each slot the greatest epoch that is known: to each thread, and at each spot
pub record Clocks : Type 0 where
  pub thread : ℕ → ℕ → ℕ
  pub spot : Spot → ℕ → ℕ

abbrev pub no_clocks : Clocks
no_clocks = record { thread = λ t s. 0; spot = λ y s. 0 }

abbrev pub clock_at : Clocks → Option Place → ℕ → ℕ
clock_at k None s = 0
clock_at k (Some y) s = k.spot (Of y) s

-- the thread's clock takes in, and is left as it was before its own epoch rises
abbrev pub event_clocks : ℕ → Labels → Clocks → ℕ → Event → Clocks
event_clocks g l k t e =
    record {
      thread = λ u s. if u == t then max (k.thread t s) (clock_at k (taken_from t e) s) + raised g l t e s else k.thread u s;
      spot = λ y s. max (if empties l t e y then 0 else k.spot y s) (if leaves l t e y then k.thread t s else 0);
    }

-- with a slot the thread takes in what its last owner left
abbrev pub attach_clocks : Labels → Clocks → ℕ → ℕ → Clocks
attach_clocks l k t s =
    record {
      thread = λ u r. if u == t then (if r == s then l.epoch s + 1 else max (k.thread t r) (k.spot (Left s) r)) else k.thread u r;
      spot = k.spot;
    }

abbrev pub next_clocks : ℕ → Labels → Clocks → Item → Clocks
next_clocks g l k (Does t e) = event_clocks g l k t e
next_clocks g l k (Notes t (Attach a)) = if can_attach l t a.sid then attach_clocks l k t a.sid else k
next_clocks g l k NewEra = no_clocks
next_clocks g l k _ = k

-- the clocks before position n
unfoldable pub clocks : ℕ → (ℕ → Item) → ℕ → Clocks
clocks g h zero = no_clocks
clocks g h (suc n) = next_clocks g (labels g h n) (clocks g h n) (h n)

-- The item may change the clock of thread u: it is an event or an attachment of u, or an era begins.
abbrev pub ChangesThread : ℕ → Item → Type 0
ChangesThread u (Does t e) = u ≡ t
ChangesThread u (Notes t (Attach l)) = u ≡ t
ChangesThread u (Notes t (Leave l)) = ⊥
ChangesThread u (Notes t Nothing) = ⊥
ChangesThread u NewEra = Unit {0}
ChangesThread u Past = ⊥

-- The item may change the clock at the spot: it is an event that leaves a clock there or empties it, or an era begins.
abbrev pub ChangesSpot : Labels → Spot → Item → Type 0
ChangesSpot l y (Does t e) = (leaves l t e y ≡ true) ⊎ (empties l t e y ≡ true)
ChangesSpot l y (Notes t note) = ⊥
ChangesSpot l y NewEra = Unit {0}
ChangesSpot l y Past = ⊥
