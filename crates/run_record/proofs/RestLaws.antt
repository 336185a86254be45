-- Entries of a log that are divided, and appended.
use Rattle.std.proofs.Common.{◌≡◌, ℕ, ◌+◌, ◌-◌, ◌≤◌, List, [], ◌∷◌, ◌++◌, length, refl, sym, ◌∙◌, ap, subst, zero-add, arith}
use Rattle.std.specs.Prelude.{take, drop}
use Rattle.std.proofs.lemmas.List.{length-append, length-take-le, length-drop}
use Rattle.run_record.specs.declared.event.Event.{Event}
use Rattle.run_record.specs.declared.entry.Check.{Check}
use Rattle.run_record.specs.declared.entry.DeskNote.{DeskNote}
use Rattle.run_record.specs.declared.entry.Entry.{Entry}
use Rattle.run_record.specs.declared.flat.Row.{Row}
use Rattle.run_record.specs.declared.flat.Mark.{Mark}
use Rattle.run_record.specs.declared.flat.KeptCheck.{KeptCheck}
use Rattle.run_record.specs.declared.rest.Rest.{Rest}
use Rattle.run_record.specs.Marks.{marks_before, marks_from, renumbered, AreUsed}
use Rattle.run_record.specs.Flat.{checks_of, entries_of, event_count, check_count, AreWhole}
use Rattle.run_record.specs.Rest.{rest_entries, IsRest}
use Rattle.run_record.proofs.FlatLaws.{length-checks_of}
use Rattle.run_record.proofs.MarkLaws.{before_used, from_used}
use Rattle.run_record.proofs.CutLaws.{events_split, checks_split, first_checks, later_checks, first_entries, later_entries}
use Rattle.run_record.proofs.AppendLaws.{used_append, checks_append, entries_append, used_from_on, checks_from_on, entries_from_on}

-- the parts of the first n entries, with so many events and checks
pub record IsFront (r f : Rest) (n e k : ℕ) : Type 0 where
  pub entry : f.entry ≡ r.entry
  pub check : f.check ≡ r.check
  pub rows : f.rows.now ≡ take n r.rows.now
  pub notes : f.notes.now ≡ marks_before (r.entry + n) r.notes.now
  pub events : f.events.now ≡ take e r.events.now
  pub checks : f.checks.now ≡ take k r.checks.now
  pub words : f.words.now ≡ marks_before (r.check + k) r.words.now
  pub event_count_is : e ≡ event_count (take n r.rows.now)
  pub check_count_is : k ≡ check_count (take n r.rows.now)

-- and those of the others
pub record IsLater (r g : Rest) (n e k : ℕ) : Type 0 where
  pub entry : g.entry ≡ r.entry + n
  pub check : g.check ≡ r.check + k
  pub rows : g.rows.now ≡ drop n r.rows.now
  pub notes : g.notes.now ≡ marks_from (r.entry + n) r.notes.now
  pub events : g.events.now ≡ drop e r.events.now
  pub checks : g.checks.now ≡ drop k r.checks.now
  pub words : g.words.now ≡ marks_from (r.check + k) r.words.now
  pub event_count_is : e ≡ event_count (take n r.rows.now)
  pub check_count_is : k ≡ check_count (take n r.rows.now)

pub front-entries : (r f : Rest) (n e k : ℕ) → IsFront r f n e k → rest_entries f ≡ take n (rest_entries r)
front-entries r f n e k is =
    let all = checks_of r.check r.checks.now r.words.now in
    let checks : checks_of f.check f.checks.now f.words.now ≡ take (check_count (take n r.rows.now)) all =
    (λ i. checks_of (is.check i) (is.checks i) (is.words i)) ∙ first_checks r.check k r.checks.now r.words.now ∙ ap (λ (m : ℕ). take m all) is.check_count_is
    in
    let events : f.events.now ≡ take (event_count (take n r.rows.now)) r.events.now =
    is.events ∙ ap (λ (m : ℕ). take m r.events.now) is.event_count_is
    in
    (λ i. entries_of (is.entry i) (is.rows i) (is.notes i) (events i) (checks i)) ∙ first_entries r.entry n r.rows.now r.notes.now r.events.now all

pub later-entries : (r g : Rest) (n e k : ℕ) → IsRest r → IsLater r g n e k → rest_entries g ≡ drop n (rest_entries r)
later-entries r g n e k rest is =
    let all = checks_of r.check r.checks.now r.words.now in
    let checks : checks_of g.check g.checks.now g.words.now ≡ drop (check_count (take n r.rows.now)) all =
    (λ i. checks_of (is.check i) (is.checks i) (is.words i)) ∙ later_checks r.check k r.checks.now r.words.now rest.words_are
    ∙ ap (λ (m : ℕ). drop m all) is.check_count_is
    in
    let events : g.events.now ≡ drop (event_count (take n r.rows.now)) r.events.now =
    is.events ∙ ap (λ (m : ℕ). drop m r.events.now) is.event_count_is
    in
    (λ i. entries_of (is.entry i) (is.rows i) (is.notes i) (events i) (checks i))
    ∙ later_entries r.entry n r.rows.now r.notes.now r.events.now all rest.notes_are

used_at : {T : Type 0} (a b m n : ℕ) (xs ys : List (Mark T)) → a ≡ b → m ≡ n → xs ≡ ys → AreUsed b n ys → AreUsed a m xs
used_at a b m n xs ys p q s used = rw (p, q, s) used

pub front-rest : (r f : Rest) (n e k : ℕ) → IsRest r → n ≤ length r.rows.now → IsFront r f n e k → IsRest f
front-rest r f n e k rest within is =
    let a : e ≤ length r.events.now = omega (arith, events_split n r.rows.now, rest.events_are, is.event_count_is) in
    let b : k ≤ length r.checks.now = omega (arith, checks_split n r.rows.now, rest.checks_are, is.check_count_is) in
    let rows : length f.rows.now ≡ n = ap (λ (xs : List Row). length xs) is.rows ∙ length-take-le n r.rows.now within in
    let events : length f.events.now ≡ e = ap (λ (xs : List Event). length xs) is.events ∙ length-take-le e r.events.now a in
    let checks : length f.checks.now ≡ k = ap (λ (xs : List KeptCheck). length xs) is.checks ∙ length-take-le k r.checks.now b in
    let count : length r.rows.now ≡ n + (length r.rows.now - n) = omega arith in
    let count' : length r.checks.now ≡ k + (length r.checks.now - k) = omega arith in
    record {
      events_are = ap event_count is.rows ∙ sym is.event_count_is ∙ sym events;
      checks_are = ap check_count is.rows ∙ sym is.check_count_is ∙ sym checks;
      notes_are = used_at f.entry r.entry _ n f.notes.now _ is.entry rows is.notes
          (before_used r.entry n (length r.rows.now - n) r.notes.now (subst (λ (m : ℕ). AreUsed r.entry m r.notes.now) count rest.notes_are));
      words_are = used_at f.check r.check _ k f.words.now _ is.check checks is.words
          (before_used r.check k (length r.checks.now - k) r.words.now (subst (λ (m : ℕ). AreUsed r.check m r.words.now) count' rest.words_are));
      few_entries = omega (arith, rest.few_entries, rows, is.entry, within);
      few_checks = omega (arith, rest.few_checks, checks, is.check, b);
    }

pub later-rest : (r g : Rest) (n e k : ℕ) → IsRest r → n ≤ length r.rows.now → IsLater r g n e k → IsRest g
later-rest r g n e k rest within is =
    let a : e ≤ length r.events.now = omega (arith, events_split n r.rows.now, rest.events_are, is.event_count_is) in
    let b : k ≤ length r.checks.now = omega (arith, checks_split n r.rows.now, rest.checks_are, is.check_count_is) in
    let rows : length g.rows.now ≡ length r.rows.now - n = ap (λ (xs : List Row). length xs) is.rows ∙ length-drop n r.rows.now in
    let events : length g.events.now ≡ length r.events.now - e = ap (λ (xs : List Event). length xs) is.events ∙ length-drop e r.events.now in
    let checks : length g.checks.now ≡ length r.checks.now - k = ap (λ (xs : List KeptCheck). length xs) is.checks ∙ length-drop k r.checks.now in
    let count : length r.rows.now ≡ n + (length r.rows.now - n) = omega arith in
    let count' : length r.checks.now ≡ k + (length r.checks.now - k) = omega arith in
    let left : event_count g.rows.now ≡ event_count (drop n r.rows.now) = ap event_count is.rows in
    let left' : check_count g.rows.now ≡ check_count (drop n r.rows.now) = ap check_count is.rows in
    record {
      events_are = omega (arith, left, events_split n r.rows.now, rest.events_are, is.event_count_is, events);
      checks_are = omega (arith, left', checks_split n r.rows.now, rest.checks_are, is.check_count_is, checks);
      notes_are = used_at g.entry (r.entry + n) _ (length r.rows.now - n) g.notes.now _ is.entry rows is.notes
          (from_used r.entry n (length r.rows.now - n) r.notes.now (subst (λ (m : ℕ). AreUsed r.entry m r.notes.now) count rest.notes_are));
      words_are = used_at g.check (r.check + k) _ (length r.checks.now - k) g.words.now _ is.check checks is.words
          (from_used r.check k (length r.checks.now - k) r.words.now (subst (λ (m : ℕ). AreUsed r.check m r.words.now) count' rest.words_are));
      few_entries = omega (arith, rest.few_entries, rows, is.entry, within);
      few_checks = omega (arith, rest.few_checks, checks, is.check, b);
    }

-- what stands for entries, and behind them for those of a log
pub record IsBehind (rows rows' : List Row) (notes notes' : List (Mark DeskNote)) (es es' : List Event) (kept kept' : List KeptCheck)
    (words words' : List (Mark ℕ)) (r : Rest) : Type 0 where
  pub rows_are : rows' ≡ rows ++ r.rows.now
  pub notes_are : notes' ≡ notes ++ renumbered r.entry (length rows) r.notes.now
  pub events_are : es' ≡ es ++ r.events.now
  pub checks_are : kept' ≡ kept ++ r.checks.now
  pub words_are : words' ≡ words ++ renumbered r.check (length kept) r.words.now

pub behind-entries :
    (rows rows' : List Row) (notes notes' : List (Mark DeskNote)) (es es' : List Event) (kept kept' : List KeptCheck)
    (words words' : List (Mark ℕ)) (r : Rest) → AreWhole rows notes es kept words → IsRest r →
    IsBehind rows rows' notes notes' es es' kept kept' words words' r →
    entries_of 0 rows' notes' es' (checks_of 0 kept' words') ≡ entries_of 0 rows notes es (checks_of 0 kept words) ++ rest_entries r
behind-entries rows rows' notes notes' es es' kept kept' words words' r whole rest is =
    let own = checks_of r.check r.checks.now r.words.now in
    let words_used = used_from_on r.check (length kept) (length r.checks.now) r.words.now rest.words_are in
    let notes_used = used_from_on r.entry (length rows) (length r.rows.now) r.notes.now rest.notes_are in
    let checks : checks_of 0 kept' words' ≡ checks_of 0 kept words ++ own =
    (λ i. checks_of 0 (is.checks_are i) (is.words_are i))
    ∙ checks_append 0 kept r.checks.now words (renumbered r.check (length kept) r.words.now) whole.words_are
    (subst (λ (m : ℕ). AreUsed m (length r.checks.now) (renumbered r.check (length kept) r.words.now)) (sym (zero-add (length kept))) words_used)
    ∙ ap (λ (m : ℕ). checks_of 0 kept words ++ checks_of m r.checks.now (renumbered r.check (length kept) r.words.now)) (zero-add (length kept))
    ∙ ap (λ (cs : List Check). checks_of 0 kept words ++ cs) (checks_from_on r.check (length kept) r.checks.now r.words.now rest.words_are)
    in
    (λ i. entries_of 0 (is.rows_are i) (is.notes_are i) (is.events_are i) (checks i))
    ∙ entries_append 0 rows r.rows.now notes (renumbered r.entry (length rows) r.notes.now) es r.events.now (checks_of 0 kept words) own whole.events_are
    (whole.checks_are ∙ sym (length-checks_of 0 kept words)) whole.notes_are
    (subst (λ (m : ℕ). AreUsed m (length r.rows.now) (renumbered r.entry (length rows) r.notes.now)) (sym (zero-add (length rows))) notes_used)
    ∙ ap (λ (m : ℕ). entries_of 0 rows notes es (checks_of 0 kept words) ++ entries_of m r.rows.now (renumbered r.entry (length rows) r.notes.now) r.events.now own)
    (zero-add (length rows))
    ∙ ap (λ (xs : List Entry). entries_of 0 rows notes es (checks_of 0 kept words) ++ xs)
    (entries_from_on r.entry (length rows) r.rows.now r.notes.now r.events.now own rest.notes_are)

events_append : (rows more : List Row) → event_count (rows ++ more) ≡ event_count rows + event_count more
events_append [] more = sym (zero-add (event_count more))
events_append (r ∷ rows) more = omega (arith, events_append rows more)

counts_append : (rows more : List Row) → check_count (rows ++ more) ≡ check_count rows + check_count more
counts_append [] more = sym (zero-add (check_count more))
counts_append (r ∷ rows) more = omega (arith, counts_append rows more)

pub behind-whole :
    (rows rows' : List Row) (notes notes' : List (Mark DeskNote)) (es es' : List Event) (kept kept' : List KeptCheck)
    (words words' : List (Mark ℕ)) (r : Rest) → AreWhole rows notes es kept words → IsRest r →
    IsBehind rows rows' notes notes' es es' kept kept' words words' r → AreWhole rows' notes' es' kept' words'
behind-whole rows rows' notes notes' es es' kept kept' words words' r whole rest is =
    let words_used = used_from_on r.check (length kept) (length r.checks.now) r.words.now rest.words_are in
    let notes_used = used_from_on r.entry (length rows) (length r.rows.now) r.notes.now rest.notes_are in
    let count : length rows' ≡ length rows + length r.rows.now = ap (λ (xs : List Row). length xs) is.rows_are ∙ length-append rows r.rows.now in
    let count' : length kept' ≡ length kept + length r.checks.now = ap (λ (xs : List KeptCheck). length xs) is.checks_are ∙ length-append kept r.checks.now in
    let events : length es' ≡ length es + length r.events.now = ap (λ (xs : List Event). length xs) is.events_are ∙ length-append es r.events.now in
    record {
      events_are = omega (arith, ap event_count is.rows_are, events_append rows r.rows.now, whole.events_are, rest.events_are, events);
      checks_are = omega (arith, ap check_count is.rows_are, counts_append rows r.rows.now, whole.checks_are, rest.checks_are, count');
      notes_are = used_at 0 0 (length rows') (length rows + length r.rows.now) notes' _ refl count is.notes_are
          (used_append 0 (length rows) (length r.rows.now) notes (renumbered r.entry (length rows) r.notes.now) whole.notes_are
          (subst (λ (m : ℕ). AreUsed m (length r.rows.now) (renumbered r.entry (length rows) r.notes.now)) (sym (zero-add (length rows))) notes_used));
      words_are = used_at 0 0 (length kept') (length kept + length r.checks.now) words' _ refl count' is.words_are
          (used_append 0 (length kept) (length r.checks.now) words (renumbered r.check (length kept) r.words.now) whole.words_are
          (subst (λ (m : ℕ). AreUsed m (length r.checks.now) (renumbered r.check (length kept) r.words.now)) (sym (zero-add (length kept))) words_used));
    }
