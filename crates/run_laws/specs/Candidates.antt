-- Which access is a candidate for a report, by the words that it loaded.
use Rattle.std.specs.Prelude.{◌≡◌, ◌<◌, ℕ, ◌==◌, ◌&&◌, nat_lt, Bool, true, IsTrue, List, map, flat_map, Some, slice_get}
use Rattle.std.specs.List.{list_any}
use Rattle.run_record.specs.declared.entry.Check.{Check}
use Rattle.run_record.specs.declared.event.Event.{Event}
use Rattle.run_laws.specs.Moments.{Does, Moment, moment_at, items}
use Rattle.run_laws.specs.Labels.{labels}
use Rattle.run_laws.specs.SlotOrder.{SlotBefore}
use Rattle.run_laws.specs.Words.{opposes, sid, epoch, era}

-- an access with that word on the granule
abbrev pub has_word : ℕ → ℕ → Moment → Bool
has_word granule word m = list_any (λ (c : Check). (c.granule == granule) && (c.word == word)) m.checks

-- The loaded word w races with the check's own: it opposes it, and no access with w on the granule comes
-- before a in slot order.
pub record Races (g : ℕ) (h : List Moment) (a : ℕ) (check : Check) (word : ℕ) : Type 0 where
  pub opposed : IsTrue (opposes check.word word)
  pub unordered : (x : ℕ) → has_word check.granule word (moment_at h x) ≡ true → SlotBefore g (items h) x a → ⊥

-- the checks of an access in their order, each with its four loaded words in their order
abbrev pub loaded_by : Moment → List (Check × ℕ)
loaded_by m = flat_map (λ (c : Check). map (λ (w : ℕ). (c, w)) c.cells) m.checks

-- the candidate of the access at a: the first check and loaded word that race
pub record IsCandidate (g : ℕ) (h : List Moment) (a : ℕ) (check : Check) (word : ℕ) : Type 0 where
  pub index : ℕ
  pub loaded : slice_get (loaded_by (moment_at h a)) index ≡ Some (check, word)
  pub races : Races g h a check word
  pub first :
      (i : ℕ) (c : Check) (w : ℕ) → i < index → slice_get (loaded_by (moment_at h a)) i ≡ Some (c, w) →
      Races g h a c w → ⊥

-- the test of a check by its thread's clock: the word opposes its own, and has an epoch that the clock doesn't know
abbrev pub is_race : (ℕ → ℕ) → ℕ → ℕ → Bool
is_race clock v w = opposes v w && nat_lt (clock (sid w)) (epoch w)

-- the word w tells the label of the event at x
pub record HasLabel (g : ℕ) (h : List Moment) (x w : ℕ) : Type 0 where
  pub tid : ℕ
  pub event : Event
  pub made : items h x ≡ Does tid event
  pub slot : (labels g (items h) x).slot_of tid ≡ Some (sid w)
  pub epoch_is : (labels g (items h) x).epoch (sid w) ≡ epoch w
  pub era_is : (labels g (items h) x).era ≡ era w

-- each word tells the label of its access
abbrev pub TellLabels : ℕ → List Moment → Type 0
TellLabels g h = (x granule w : ℕ) → has_word granule w (moment_at h x) ≡ true → HasLabel g h x w
