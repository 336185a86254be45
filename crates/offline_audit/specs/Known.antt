-- What is known while a history is gone through, and that it is what happens before.
use Rattle.std.specs.Prelude.{◌≡◌, ℕ, suc, ◌<◌, ◌≤◌, ◌+◌, ◌==◌, max, if◌then◌else◌, ◌↔◌, List, [], Option, Some, None}
use Rattle.std.specs.List.{All}
use Rattle.std.specs.Ordering.{nat_cmp}
use Rattle.std.specs.BTreeMap.{BTreeMap, get}
use Rattle.run_record.specs.declared.event.Event.{Event}
use Rattle.run_record.specs.declared.event.Part.TheVariants.{Main, Readers}
use Rattle.run_laws.specs.Moments.{Item, Does}
use Rattle.run_laws.specs.HappensBefore.{HappensBefore}
use Rattle.run_laws.specs.Clocks.{Place, Channel, Given, Ended, taken_from, left_at, is_place}
use Rattle.offline_audit.specs.declared.heard.Step.{Step}
use Rattle.offline_audit.specs.declared.known.Known.{Known}
use Rattle.offline_audit.specs.Heard.{known_of, latest, steps_after, steps_of, Tell, TellBy, AreRising}
use Rattle.offline_audit.specs.Knowledge.{IsLeft, IsKnown, empties}

-- what the clock at the key tells of the thread
abbrev pub known_at : BTreeMap ℕ (BTreeMap ℕ ℕ) → ℕ → ℕ → ℕ
known_at clocks key tid = elim (get nat_cmp clocks key) [ None ↦ 0 | Some clock ↦ known_of clock tid ]

-- what is left at the place of the thread's events
abbrev pub told : Known → Place → ℕ → ℕ
told k (Channel addr Main) u = known_at k.main addr u
told k (Channel addr Readers) u = known_at k.readers addr u
told k (Given child) u = known_at k.created child u
told k (Ended tid) u = known_at k.ended tid u

abbrev pub told_from : Known → Option Place → ℕ → ℕ
told_from k None u = 0
told_from k (Some y) u = told k y u

-- the steps by which thread t heard of thread u
abbrev pub steps_between : BTreeMap ℕ (BTreeMap ℕ (List Step)) → ℕ → ℕ → List Step
steps_between threads t u = elim (get nat_cmp threads t) [ None ↦ [] | Some heard ↦ steps_of heard u ]

-- each event has the number of the position where it is made, and numbers never fall
pub record AreNumbers (h : ℕ → Item) (number : ℕ → ℕ) : Type 0 where
  pub rise : (n t : ℕ) (e : Event) → h n ≡ Does t e → number (suc n) ≡ suc (number n)
  pub never_fall : (n : ℕ) → number n ≤ number (suc n)

-- The steps by which t heard of another thread u before position n: they tell of what is known to t, and at each event
-- of t those so far tell of what comes before it.
pub record AreHeard (h : ℕ → Item) (number : ℕ → ℕ) (n t u : ℕ) (steps : List Step) : Type 0 where
  pub rising : AreRising steps
  pub early : All (λ (s : Step). s.at < number n) steps
  pub now : (i : ℕ) (e : Event) → h i ≡ Does u e → IsKnown h n t i ↔ Tell steps (number i)
  pub before : (m i : ℕ) (f e : Event) → m < n → h m ≡ Does t f → h i ≡ Does u e →
      HappensBefore h i m ↔ TellBy steps (number m) (number i)

-- before position n the threads and the places know what is known of the history
pub record Stands (h : ℕ → Item) (number : ℕ → ℕ) (n : ℕ) (k : Known) : Type 0 where
  pub count : k.count ≡ number n
  pub places : (y : Place) (u i : ℕ) (e : Event) → h i ≡ Does u e → IsLeft h n y i ↔ (number i < told k y u)
  pub threads : (t u : ℕ) → (u ≡ t → ⊥) → AreHeard h number n t u (steps_between k.threads t u)

-- what thread t leaves of thread u's events at the end of its event with that number
abbrev pub own_or_latest : ℕ → ℕ → ℕ → List Step → ℕ
own_or_latest t number u steps = if u == t then number + 1 else latest steps

-- By the event thread t hears what is left at the place that it takes from.
pub record Hears (t : ℕ) (e : Event) (k new : Known) : Type 0 where
  pub count : new.count ≡ k.count
  pub steps : (v u : ℕ) → steps_between new.threads v u
      ≡ (if v == t then (if u == t then steps_between k.threads v u
      else steps_after k.count (told_from k (taken_from t e) u) (steps_between k.threads v u))
      else steps_between k.threads v u)
  pub places : (y : Place) (u : ℕ) → told new y u ≡ told k y u

-- By the event thread t leaves what it knows with it, and ends what the event ends.
pub record Leaves (t : ℕ) (e : Event) (k new : Known) : Type 0 where
  pub count : new.count ≡ k.count + 1
  pub steps : (v u : ℕ) → steps_between new.threads v u ≡ steps_between k.threads v u
  pub places : (y : Place) (u : ℕ) → told new y u
      ≡ max (if empties y e then 0 else told k y u) (if is_place (left_at t e) y then own_or_latest t k.count u (steps_between k.threads t u) else 0)

-- One more event of thread t: it hears what is left at the place that the event takes from, and leaves what it knows.
pub record GoesOn (t : ℕ) (e : Event) (k new : Known) : Type 0 where
  pub count : new.count ≡ k.count + 1
  pub steps : (v u : ℕ) → steps_between new.threads v u
      ≡ (if v == t then (if u == t then steps_between k.threads v u
      else steps_after k.count (told_from k (taken_from t e) u) (steps_between k.threads v u))
      else steps_between k.threads v u)
  pub places : (y : Place) (u : ℕ) → told new y u
      ≡ max (if empties y e then 0 else told k y u) (if is_place (left_at t e) y then own_or_latest t k.count u (steps_between new.threads t u) else 0)

-- One more event that is left out: it is counted, and all else stays.
pub record Passes (k new : Known) : Type 0 where
  pub count : new.count ≡ k.count + 1
  pub steps : (v u : ℕ) → steps_between new.threads v u ≡ steps_between k.threads v u
  pub places : (y : Place) (u : ℕ) → told new y u ≡ told k y u
