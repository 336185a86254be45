-- The first entries of flat lists, and those that are left.
use Rattle.std.proofs.Common.{◌≡◌, ℕ, zero, suc, ◌+◌, ◌-◌, ◌≤◌, List, [], ◌∷◌, length, refl, sym, ◌∙◌, ap, ap₂, subst, zero-add, arith}
use Rattle.std.specs.Prelude.{take, drop}
use Rattle.std.proofs.lemmas.List.{take-take, drop-take, drop-drop, length-take-le}
use Rattle.run_record.specs.declared.event.Event.{Event}
use Rattle.run_record.specs.declared.entry.Check.{Check}
use Rattle.run_record.specs.declared.entry.DeskNote.{DeskNote}
use Rattle.run_record.specs.declared.entry.DeskNote.TheVariants.{Nothing}
use Rattle.run_record.specs.declared.entry.Entry.{Entry}
use Rattle.run_record.specs.declared.flat.Row.{Row}
use Rattle.run_record.specs.declared.flat.Mark.{Mark}
use Rattle.run_record.specs.declared.flat.KeptCheck.{KeptCheck}
use Rattle.run_record.specs.Marks.{first_at, rest_at, marks_before, marks_from, AreUsed}
use Rattle.run_record.specs.Flat.{check_of, checks_of, entry_of, entries_of, event_count, check_count, AreWhole}
use Rattle.run_record.proofs.MarkLaws.{first_before, rest_before, from_rest, used_from, before_used}

-- the events and the checks of the first rows, and of the others
pub events_split : (n : ℕ) (rows : List Row) → event_count (take n rows) + event_count (drop n rows) ≡ event_count rows
events_split zero rows = omega arith
events_split (suc n) [] = omega arith
events_split (suc n) (r ∷ rows) = omega (arith, events_split n rows)

pub checks_split : (n : ℕ) (rows : List Row) → check_count (take n rows) + check_count (drop n rows) ≡ check_count rows
checks_split zero rows = omega arith
checks_split (suc n) [] = omega arith
checks_split (suc n) (r ∷ rows) = omega (arith, checks_split n rows)

pub first_checks : (s n : ℕ) (checks : List KeptCheck) (words : List (Mark ℕ)) →
    checks_of s (take n checks) (marks_before (s + n) words) ≡ take n (checks_of s checks words)
first_checks s zero checks words = refl
first_checks s (suc n) [] words = refl
first_checks s (suc n) (c ∷ checks) words =
    let next : s + suc n ≡ suc s + n = omega arith in
    ap₂ (λ (x : Check) (xs : List Check). x ∷ xs) (ap (check_of c) (first_before s (s + suc n) c.word words (omega arith)))
    (ap (checks_of (suc s) (take n checks))
    (rest_before s (s + suc n) words (omega arith) ∙ ap (λ (m : ℕ). marks_before m (rest_at s words)) next)
    ∙ first_checks (suc s) n checks (rest_at s words))

pub later_checks : (s n : ℕ) (checks : List KeptCheck) (words : List (Mark ℕ)) → AreUsed s (length checks) words →
    checks_of (s + n) (drop n checks) (marks_from (s + n) words) ≡ drop n (checks_of s checks words)
later_checks s zero checks words used =
    let same : s + 0 ≡ s = omega arith in
    rw same (ap (checks_of s checks) (used_from s (length checks) words used).0)
later_checks s (suc n) [] words used = refl
later_checks s (suc n) (c ∷ checks) words used =
    let next : s + suc n ≡ suc s + n = omega arith in
    ap (checks_of (s + suc n) (drop n checks)) (sym (from_rest s (s + suc n) words (omega arith)))
    ∙ ap (λ (m : ℕ). checks_of m (drop n checks) (marks_from m (rest_at s words))) next
    ∙ later_checks (suc s) n checks (rest_at s words) used

pub first_entries : (s n : ℕ) (rows : List Row) (notes : List (Mark DeskNote)) (es : List Event) (cs : List Check) →
    entries_of s (take n rows) (marks_before (s + n) notes) (take (event_count (take n rows)) es) (take (check_count (take n rows)) cs)
    ≡ take n (entries_of s rows notes es cs)
first_entries s zero rows notes es cs = refl
first_entries s (suc n) [] notes es cs = refl
first_entries s (suc n) (r ∷ rows) notes es cs =
    let next : s + suc n ≡ suc s + n = omega arith in
    let e = event_count (take n rows) in
    let c = check_count (take n rows) in
    ap₂ (λ (h : Entry) (hs : List Entry). h ∷ hs)
    (ap (λ (note : DeskNote). entry_of r.head note (take r.events (take (r.events + e) es)) (take r.checks (take (r.checks + c) cs)))
    (first_before s (s + suc n) Nothing notes (omega arith))
    ∙ ap₂ (λ (p : List Event) (q : List Check). entry_of r.head (first_at s Nothing notes) p q)
    (take-take r.events (r.events + e) es (omega arith)) (take-take r.checks (r.checks + c) cs (omega arith)))
    (ap₂ (λ (p : List Event) (q : List Check). entries_of (suc s) (take n rows) (rest_at s (marks_before (s + suc n) notes)) p q)
    (drop-take r.events e es) (drop-take r.checks c cs)
    ∙ ap (λ (marks : List (Mark DeskNote)). entries_of (suc s) (take n rows) marks (take e (drop r.events es)) (take c (drop r.checks cs)))
    (rest_before s (s + suc n) notes (omega arith) ∙ ap (λ (m : ℕ). marks_before m (rest_at s notes)) next)
    ∙ first_entries (suc s) n rows (rest_at s notes) (drop r.events es) (drop r.checks cs))

pub later_entries : (s n : ℕ) (rows : List Row) (notes : List (Mark DeskNote)) (es : List Event) (cs : List Check) → AreUsed s (length rows) notes →
    entries_of (s + n) (drop n rows) (marks_from (s + n) notes) (drop (event_count (take n rows)) es) (drop (check_count (take n rows)) cs)
    ≡ drop n (entries_of s rows notes es cs)
later_entries s zero rows notes es cs used =
    let same : s + 0 ≡ s = omega arith in
    rw same (ap (λ (marks : List (Mark DeskNote)). entries_of s rows marks es cs) (used_from s (length rows) notes used).0)
later_entries s (suc n) [] notes es cs used = refl
later_entries s (suc n) (r ∷ rows) notes es cs used =
    let next : s + suc n ≡ suc s + n = omega arith in
    let e = event_count (take n rows) in
    let c = check_count (take n rows) in
    ap₂ (λ (p : List Event) (q : List Check). entries_of (s + suc n) (drop n rows) (marks_from (s + suc n) notes) p q)
    (sym (drop-drop e r.events es)) (sym (drop-drop c r.checks cs))
    ∙ ap (λ (marks : List (Mark DeskNote)). entries_of (s + suc n) (drop n rows) marks (drop e (drop r.events es)) (drop c (drop r.checks cs)))
    (sym (from_rest s (s + suc n) notes (omega arith)))
    ∙ ap (λ (m : ℕ). entries_of m (drop n rows) (marks_from m (rest_at s notes)) (drop e (drop r.events es)) (drop c (drop r.checks cs))) next
    ∙ later_entries (suc s) n rows (rest_at s notes) (drop r.events es) (drop r.checks cs) used

-- what stands for the first entries
pub cut_whole :
    (n e k : ℕ) (rows : List Row) (notes : List (Mark DeskNote)) (es : List Event) (kept : List KeptCheck) (words : List (Mark ℕ)) →
    AreWhole rows notes es kept words → n ≤ length rows → e ≡ event_count (take n rows) → k ≡ check_count (take n rows) →
    AreWhole (take n rows) (marks_before n notes) (take e es) (take k kept) (marks_before k words)
cut_whole n e k rows notes es kept words whole within events checks =
    let a : e ≤ length es = omega (arith, events_split n rows, whole.events_are) in
    let b : k ≤ length kept = omega (arith, checks_split n rows, whole.checks_are) in
    let r : length (take n rows) ≡ n = length-take-le n rows within in
    let c : length (take k kept) ≡ k = length-take-le k kept b in
    let count : length rows ≡ n + (length rows - n) = omega arith in
    let count' : length kept ≡ k + (length kept - k) = omega arith in
    record {
      events_are = sym events ∙ sym (length-take-le e es a);
      checks_are = sym checks ∙ sym (length-take-le k kept b);
      notes_are = rw r (rw zero-add at (before_used {T = DeskNote} 0 n (length rows - n) notes (subst (λ (m : ℕ). AreUsed 0 m notes) count whole.notes_are)));
      words_are = rw c (rw zero-add at (before_used {T = ℕ} 0 k (length kept - k) words (subst (λ (m : ℕ). AreUsed 0 m words) count' whole.words_are)));
    }

pub cut_entries :
    (n e k : ℕ) (rows : List Row) (notes : List (Mark DeskNote)) (es : List Event) (kept : List KeptCheck) (words : List (Mark ℕ)) →
    e ≡ event_count (take n rows) → k ≡ check_count (take n rows) →
    entries_of 0 (take n rows) (marks_before n notes) (take e es) (checks_of 0 (take k kept) (marks_before k words))
    ≡ take n (entries_of 0 rows notes es (checks_of 0 kept words))
cut_entries n e k rows notes es kept words events checks =
    let start : (m : ℕ) → 0 + m ≡ m = zero-add in
    let cs : checks_of 0 (take k kept) (marks_before k words) ≡ take k (checks_of 0 kept words) =
    ap (λ (m : ℕ). checks_of 0 (take k kept) (marks_before m words)) (sym (start k)) ∙ first_checks 0 k kept words
    in
    rw (cs, events, checks) (ap (λ (m : ℕ). entries_of 0 (take n rows) (marks_before m notes) (take (event_count (take n rows)) es)
    (take (check_count (take n rows)) (checks_of 0 kept words))) (sym (start n)) ∙ first_entries 0 n rows notes es (checks_of 0 kept words))

-- the sizes of the rows that are dropped, and what is left of the total
pub events_left : (n total : ℕ) (rows all dropped : List Row) → dropped ≡ drop n all → all ≡ rows → event_count rows ≡ total →
    event_count (take n rows) + event_count dropped ≡ total
events_left n total rows all dropped is same count = rw (is, same) (events_split n rows ∙ count)

pub checks_left : (n total : ℕ) (rows all dropped : List Row) → dropped ≡ drop n all → all ≡ rows → check_count rows ≡ total →
    check_count (take n rows) + check_count dropped ≡ total
checks_left n total rows all dropped is same count = rw (is, same) (checks_split n rows ∙ count)
