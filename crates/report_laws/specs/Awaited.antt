-- Candidates that await the end of their round, and the reports that are then made of them.
use Rattle.std.specs.Prelude.{◌≡◌, ◌≢◌, ◌<◌, ◌*◌, ℕ, suc, true, List, [], ◌∷◌, ◌++◌, Option, Some, None, IsSome}
use Rattle.run_record.specs.declared.entry.Check.{Check}
use Rattle.run_record.specs.declared.limits.Limits.{Limits}
use Rattle.run_record.specs.declared.report.Report.{Report}
use Rattle.run_record.specs.declared.report.Side.{Side}
use Rattle.run_laws.specs.Moments.{Moment, moment_at}
use Rattle.run_laws.specs.Accesses.{Access}
use Rattle.run_laws.specs.Words.{mask, sid, era, label_in}
use Rattle.run_laws.specs.Present.{labels_now}
use Rattle.run_laws.specs.Candidates.{IsCandidate}
use Rattle.run_laws.specs.Reports.{MakesAccess, told_side}
use Rattle.trace_parts.specs.Held.{HeldTrace, has_label}
use Rattle.trace_parts.specs.Sought.{restored, first_held}
use Rattle.report_laws.specs.Sound.{first_race}
use Rattle.report_laws.specs.Owners.{IsLabelOf, IsTraceOf, previous_side}

-- An access with a candidate: the access as it is told, and the candidate's granule and word.
pub record Awaited : Type 0 where
  pub mine : Side
  pub granule : ℕ
  pub word : ℕ

-- The accesses between two positions that have a candidate, in their order.
pub data Awaits (g : ℕ) (h : List Moment) (from : ℕ) : ℕ → List Awaited → Type 0 where
  Start : Awaits g h from from []
  Quiet :
      {n : ℕ} {waiting : List Awaited} → Awaits g h from n waiting →
      ((check : Check) (word : ℕ) → IsCandidate g h n check word → ⊥) →
      Awaits g h from (suc n) waiting
  Race :
      {n : ℕ} {waiting : List Awaited} (check : Check) (word tid : ℕ) (access : Access) →
      Awaits g h from n waiting → IsCandidate g h n check word → MakesAccess h n tid access →
      Awaits g h from (suc n) (waiting ++ record { mine = told_side h n tid access; granule = check.granule; word = word } ∷ [])

-- The accesses between two positions that loaded a word which their threads' clocks find to race, in their order.
pub data Collects (g : ℕ) (h : List Moment) (from : ℕ) : ℕ → List Awaited → Type 0 where
  Begin : Collects g h from from []
  Unchecked :
      {n : ℕ} {waiting : List Awaited} → Collects g h from n waiting → (moment_at h n).checks ≡ [] →
      Collects g h from (suc n) waiting
  Ordered :
      {n : ℕ} {waiting : List Awaited} (tid : ℕ) (access : Access) →
      Collects g h from n waiting → MakesAccess h n tid access → first_race g h n tid ≡ None →
      Collects g h from (suc n) waiting
  Unordered :
      {n : ℕ} {waiting : List Awaited} (check : Check) (word tid : ℕ) (access : Access) →
      Collects g h from n waiting → MakesAccess h n tid access → first_race g h n tid ≡ Some (check, word) →
      Collects g h from (suc n) (waiting ++ record { mine = told_side h n tid access; granule = check.granule; word = word } ∷ [])

-- The label of the candidate's word is a thread's, and of the present era.
pub record HasOwner (g : ℕ) (h : List Moment) (one : Awaited) : Type 0 where
  pub tid : ℕ
  pub label_of : IsLabelOf g h tid (label_in one.word)
  pub present : era one.word ≡ (labels_now g h).era

-- The candidate's granule is one of memory, and its word tells one of the slots and some bytes. And where the trace of
-- the thread that the word's label is of has the label, it has an access under it with the word on the granule.
pub record IsRestorable (limits : Limits) (granule_of : ℕ → Option ℕ) (address_of : ℕ → ℕ) (h : List Moment) (one : Awaited) : Type 0 where
  pub block : ℕ
  pub granule_is : granule_of (8 * block) ≡ Some one.granule
  pub slot : sid one.word < limits.slots
  pub bytes : mask one.word ≢ 0
  pub stands :
      (u : ℕ) (trace : HeldTrace) → IsLabelOf limits.epochs h u (label_in one.word) → IsTraceOf limits h u trace →
      has_label trace (label_in one.word) ≡ true →
      IsSome (first_held trace.held (label_in one.word) (address_of one.granule) one.word)

-- The report is what the trace of the thread that the word's label is of tells in the end.
pub record IsToldBy (limits : Limits) (address_of : ℕ → ℕ) (h : List Moment) (one : Awaited) (report : Report) : Type 0 where
  pub tid : ℕ
  pub label_of : IsLabelOf limits.epochs h tid (label_in one.word)
  pub trace : HeldTrace
  pub trace_of : IsTraceOf limits h tid trace
  pub mine : report.mine ≡ one.mine
  pub previous : report.previous ≡
      previous_side address_of one.granule one.word tid (restored (first_held trace.held (label_in one.word) (address_of one.granule) one.word))
