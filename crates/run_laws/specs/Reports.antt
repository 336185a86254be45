-- What is reported.
use Rattle.std.specs.Prelude.{◌≡◌, ℕ, suc, ◌+◌, ◌==◌, ◌&&◌, ◌||◌, Bool, true, false, if◌then◌else◌, List, [], ◌∷◌, ◌++◌, length, fold, position, Option, Some, None, count_ones}
use Rattle.std.specs.List.{list_any}
use Rattle.std.specs.Int.{w8, trailing_zeros}
use Rattle.run_record.specs.declared.event.Event.TheVariants as events
use Rattle.run_record.specs.declared.entry.Check.{Check}
use Rattle.run_record.specs.declared.limits.Limits.{Limits}
use Rattle.run_record.specs.declared.report.Report.{Report}
use Rattle.run_record.specs.declared.report.Side.{Side}
use Rattle.run_laws.specs.Moments.{Does, Moment, moment_at, items}
use Rattle.run_laws.specs.Accesses.{Access}
use Rattle.run_laws.specs.Words.{mask, is_read, is_atomic, label_in}
use Rattle.run_laws.specs.Stacks.{frames, kept_locks}
use Rattle.run_laws.specs.Window.{trace_before, is_held, round_end}
use Rattle.run_laws.specs.Candidates.{has_word, IsCandidate}

-- thread t's access at position n as it is told, with its whole stack
abbrev pub told_side : List Moment → ℕ → ℕ → Access → Side
told_side h n t a = record { tid = t; read = a.read; atomic = a.atomic; addr = a.addr; size = a.size; stack = Some (a.place ∷ frames h n t); locks = kept_locks h n t }

-- what the word alone tells of the access that left it, when the stack is lost; address_of tells the address
-- of a granule
abbrev pub lost_side : (ℕ → ℕ) → ℕ → ℕ → ℕ → Side
lost_side address_of granule word t = record { tid = t; read = is_read word; atomic = is_atomic word; addr = address_of granule + trailing_zeros w8 (mask word); size = count_ones (mask word); stack = None; locks = [] }

-- the first access of the history with the word on the granule
abbrev pub first_with : List Moment → ℕ → ℕ → Option ℕ
first_with h granule word = position (has_word granule word) h

-- at position n thread t makes the access
abbrev pub MakesAccess : List Moment → ℕ → ℕ → Access → Type 0
MakesAccess h n t a = items h n ≡ Does t (events.Access a.place a.addr a.size a.read a.atomic)

-- The report of the access at a, whose candidate is that word on that granule. The other access is told as it
-- was where its label is held at the end of a's round, and else as far as the word tells.
pub record IsReport (limits : Limits) (address_of : ℕ → ℕ) (h : List Moment) (a granule word : ℕ) (report : Report) : Type 0 where
  pub tid : ℕ
  pub access : Access
  pub made : MakesAccess h a tid access
  pub mine : report.mine ≡ told_side h a tid access
  pub first : ℕ
  pub first_is : first_with h granule word ≡ Some first
  pub other : ℕ
  pub other_access : Access
  pub other_made : MakesAccess h first other other_access
  pub previous : report.previous ≡
      (if is_held limits (trace_before limits.epochs (items h) (round_end h (moment_at h a).round) other) (label_in word)
      then told_side h first other other_access
      else lost_side address_of granule word other)

-- The reports of the accesses before position n that have a candidate, in their order.
pub data Finds (limits : Limits) (address_of : ℕ → ℕ) (h : List Moment) : ℕ → List Report → Type 0 where
  Start : Finds limits address_of h 0 []
  Quiet :
      {n : ℕ} {found : List Report} → Finds limits address_of h n found →
      ((check : Check) (word : ℕ) → IsCandidate limits.epochs h n check word → ⊥) →
      Finds limits address_of h (suc n) found
  Race :
      {n : ℕ} {found : List Report} (check : Check) (word : ℕ) (report : Report) →
      Finds limits address_of h n found → IsCandidate limits.epochs h n check word →
      IsReport limits address_of h n check.granule word report →
      Finds limits address_of h (suc n) (found ++ report ∷ [])

-- two stacks are the same; two lost ones are
abbrev pub same_places : List ℕ → List ℕ → Bool
same_places [] [] = true
same_places (p ∷ ps) (q ∷ qs) = (p == q) && same_places ps qs
same_places _ _ = false

abbrev pub same_stack : Option (List ℕ) → Option (List ℕ) → Bool
same_stack None None = true
same_stack (Some ps) (Some qs) = same_places ps qs
same_stack _ _ = false

-- the same unordered pair of stacks
abbrev pub is_equal : Report → Report → Bool
is_equal r s =
    (same_stack r.mine.stack s.mine.stack && same_stack r.previous.stack s.previous.stack)
    || (same_stack r.mine.stack s.previous.stack && same_stack r.previous.stack s.mine.stack)

-- The reports that are kept, and how many were suppressed and how many equal to a kept one.
pub record Kept : Type 0 where
  pub reports : List Report
  pub suppressed : ℕ
  pub equal : ℕ

-- one more report: suppressed where the rules are met by its two stacks, else equal to an earlier kept one, else kept
abbrev pub kept_after : (Option (List ℕ) → Option (List ℕ) → Bool) → Kept → Report → Kept
kept_after meets k r =
    if meets r.mine.stack r.previous.stack then record k { suppressed = k.suppressed + 1 }
    else if list_any (is_equal r) k.reports then record k { equal = k.equal + 1 }
    else record k { reports = k.reports ++ r ∷ [] }

abbrev pub kept_of : (Option (List ℕ) → Option (List ℕ) → Bool) → List Report → Kept
kept_of meets found = fold (kept_after meets) (record { reports = []; suppressed = 0; equal = 0 }) found

-- what the history reports
pub record AreReports (limits : Limits) (address_of : ℕ → ℕ) (meets : Option (List ℕ) → Option (List ℕ) → Bool) (h : List Moment) (kept : Kept) : Type 0 where
  pub found : List Report
  pub found_all : Finds limits address_of h (length h) found
  pub kept_is : kept ≡ kept_of meets found
