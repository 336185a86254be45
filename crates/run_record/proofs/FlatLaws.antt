-- What one more mark, check and entry do.
use Rattle.std.proofs.Common.{◌≡◌, ℕ, zero, suc, ◌+◌, ◌<◌, ◌≤◌, ◌==◌, Bool, true, false, if◌then◌else◌, List}
use Rattle.std.proofs.Common.{[], ◌∷◌, ◌++◌, length, Option, Some, None, refl, sym, ◌∙◌, ap, ap₂, subst, arith}
use Rattle.std.specs.Prelude.{take, drop}
use Rattle.std.proofs.Math.Seq.{take-length}
use Rattle.std.proofs.lemmas.Bool.{eqb-true, eq-eqb, ne_eqb}
use Rattle.std.proofs.lemmas.List.{take-append-le, drop-append-le, length-drop, length-append, append-nil}
use Rattle.run_record.specs.declared.event.Event.{Event}
use Rattle.run_record.specs.declared.entry.Check.{Check}
use Rattle.run_record.specs.declared.entry.DeskNote.{DeskNote}
use Rattle.run_record.specs.declared.entry.DeskNote.TheVariants.{Nothing, Attach, Leave}
use Rattle.run_record.specs.declared.entry.Entry.{Entry}
use Rattle.run_record.specs.declared.flat.Row.{Row}
use Rattle.run_record.specs.declared.flat.Mark.{Mark}
use Rattle.run_record.specs.declared.flat.KeptCheck.{KeptCheck}
use Rattle.run_record.specs.Marks.{first_at, rest_at, word_marks, note_marks, AreUsed}
use Rattle.run_record.specs.Flat.{check_of, checks_of, entry_of, entries_of, stored_word, event_count, check_count, AreWhole}

-- The marks of the thing with number n: none, or one. What comes before it is as it was.
pub record AreOf {T : Type 0} (n : ℕ) (more : List (Mark T)) : Type 0 where
  pub first : (m : ℕ) (other : T) (marks : List (Mark T)) → m < n → first_at m other (marks ++ more) ≡ first_at m other marks
  pub rest : (m : ℕ) (marks : List (Mark T)) → m < n → rest_at m (marks ++ more) ≡ rest_at m marks ++ more
  pub used : rest_at n more ≡ []

none_of : {T : Type 0} → (n : ℕ) → AreOf {T = T} n []
none_of {T} n =
    record {
      first = λ m other marks l. ap (first_at m other) (append-nil marks);
      rest = λ m marks l. ap (rest_at m) (append-nil marks) ∙ sym (append-nil (rest_at m marks));
      used = refl;
    }

one_of : {T : Type 0} → (x : Mark T) → AreOf x.at (x ∷ [])
one_of {T} x =
    record {
      first = first_of x;
      rest = rest_of x;
      used = rw (eq-eqb x.at x.at refl) refl;
    }
  where
    first_of : {T : Type 0} → (x : Mark T) (m : ℕ) (other : T) (marks : List (Mark T)) → m < x.at → first_at m other (marks ++ x ∷ []) ≡ first_at m other marks
    first_of x m other [] l = rw (ne_eqb x.at m (λ e. omega (arith, e, l))) refl
    first_of x m other (y ∷ marks) l = refl

    rest_of : {T : Type 0} → (x : Mark T) (m : ℕ) (marks : List (Mark T)) → m < x.at → rest_at m (marks ++ x ∷ []) ≡ rest_at m marks ++ x ∷ []
    rest_of x m [] l = rw (ne_eqb x.at m (λ e. omega (arith, e, l))) refl
    rest_of x m (y ∷ marks) l = by_test (y.at == m) y marks x
      where
        by_test : {T : Type 0} → (b : Bool) (y : Mark T) (marks : List (Mark T)) (x : Mark T) →
            (if b then marks ++ x ∷ [] else y ∷ (marks ++ x ∷ [])) ≡ (if b then marks else y ∷ marks) ++ x ∷ []
        by_test true y marks x = refl
        by_test false y marks x = refl

pub note_marks-of : (n : ℕ) (note : DeskNote) → AreOf n (note_marks n note)
note_marks-of n Nothing = none_of n
note_marks-of n (Attach label) = one_of (record { at = n; value = Attach label })
note_marks-of n (Leave label) = one_of (record { at = n; value = Leave label })

pub note_marks-first : (n : ℕ) (note : DeskNote) → first_at n Nothing (note_marks n note) ≡ note
note_marks-first n Nothing = refl
note_marks-first n (Attach label) = rw (eq-eqb n n refl) refl
note_marks-first n (Leave label) = rw (eq-eqb n n refl) refl

pub word_marks-of : (n own : ℕ) (stored : Option (ℕ × ℕ)) → AreOf n (word_marks n own stored)
word_marks-of n own None = none_of n
word_marks-of n own (Some s) = by_test (s.1 == own) n s.1
  where
    by_test : (b : Bool) (n word : ℕ) → AreOf n (if b then [] else record { at = n; value = word } ∷ [])
    by_test true n word = none_of n
    by_test false n word = one_of (record { at = n; value = word })

pub word_marks-first : (n own : ℕ) (stored : Option (ℕ × ℕ)) → first_at n own (word_marks n own stored) ≡ stored_word own stored
word_marks-first n own None = refl
word_marks-first n own (Some s) = by_test (s.1 == own) refl
  where
    by_test : (b : Bool) → (s.1 == own) ≡ b → first_at n own (if b then [] else record { at = n; value = s.1 } ∷ []) ≡ s.1
    by_test true e = sym (eqb-true s.1 own e)
    by_test false e = rw (eq-eqb n n refl) refl

-- the marks of one thing more are used with it
pub used_push : {T : Type 0} → (n count : ℕ) (marks more : List (Mark T)) → AreUsed n count marks → AreOf (n + count) more →
    AreUsed n (suc count) (marks ++ more)
used_push n zero marks more used of =
    let here : AreOf n more = subst (λ (m : ℕ). AreOf m more) (omega arith) of in
    ap (λ xs. rest_at n (xs ++ more)) used ∙ here.used
used_push n (suc count) marks more used of =
    let next : n + suc count ≡ suc n + count = omega arith in
    subst (AreUsed (suc n) (suc count)) (sym (of.rest n marks (omega arith)))
    (used_push (suc n) count (rest_at n marks) more used (subst (λ (m : ℕ). AreOf m more) next of))

-- one more check is the last
pub checks_push :
    (n : ℕ) (checks : List KeptCheck) (c : KeptCheck) (words more : List (Mark ℕ)) → AreUsed n (length checks) words → AreOf (n + length checks) more →
    checks_of n (checks ++ c ∷ []) (words ++ more) ≡ checks_of n checks words ++ check_of c (first_at (n + length checks) c.word more) ∷ []
checks_push n [] c words more used of =
    let same : n ≡ n + 0 = omega arith in
    ap (λ xs. check_of c (first_at n c.word (xs ++ more)) ∷ []) used ∙ ap (λ (m : ℕ). check_of c (first_at m c.word more) ∷ []) same
checks_push n (d ∷ checks) c words more used of =
    let next : n + suc (length checks) ≡ suc n + length checks = omega arith in
    ap₂ (λ (x : Check) (xs : List Check). x ∷ xs) (ap (check_of d) (of.first n d.word words (omega arith)))
    (ap (checks_of (suc n) (checks ++ c ∷ [])) (of.rest n words (omega arith))
    ∙ checks_push (suc n) checks c (rest_at n words) more used (subst (λ (m : ℕ). AreOf m more) next of)
    ∙ ap (λ (m : ℕ). checks_of (suc n) checks (rest_at n words) ++ check_of c (first_at m c.word more) ∷ []) (sym next))

pub length-checks_of : (n : ℕ) (checks : List KeptCheck) (words : List (Mark ℕ)) → length (checks_of n checks words) ≡ length checks
length-checks_of n [] words = refl
length-checks_of n (c ∷ checks) words = ap suc (length-checks_of (suc n) checks (rest_at n words))

pub length-entries_of : (n : ℕ) (rows : List Row) (notes : List (Mark DeskNote)) (es : List Event) (cs : List Check) →
    length (entries_of n rows notes es cs) ≡ length rows
length-entries_of n [] notes es cs = refl
length-entries_of n (r ∷ rows) notes es cs = ap suc (length-entries_of (suc n) rows (rest_at n notes) (drop r.events es) (drop r.checks cs))

-- one more entry is the last
pub entries_push :
    (n : ℕ) (rows : List Row) (r : Row) (notes more : List (Mark DeskNote)) (es fs : List Event) (cs ds : List Check) → event_count rows ≡ length es →
    check_count rows ≡ length cs → r.events ≡ length fs → r.checks ≡ length ds →
    AreUsed n (length rows) notes → AreOf (n + length rows) more →
    entries_of n (rows ++ r ∷ []) (notes ++ more) (es ++ fs) (cs ++ ds) ≡ entries_of n rows notes es cs ++ entry_of r.head
    (first_at (n + length rows) Nothing more) fs ds ∷ []
entries_push n [] r notes more [] fs [] ds e c f d used of =
    let same : n ≡ n + 0 = omega arith in
    ap₂ (λ (x : List Event) (y : List Check). entry_of r.head (first_at n Nothing (notes ++ more)) x y ∷ []) (ap (λ (m : ℕ). take m fs) f ∙ take-length fs)
    (ap (λ (m : ℕ). take m ds) d ∙ take-length ds)
    ∙ ap (λ xs. entry_of r.head (first_at n Nothing (xs ++ more)) fs ds ∷ []) used ∙ ap (λ (m : ℕ). entry_of r.head (first_at m Nothing more) fs ds ∷ []) same
entries_push n [] r notes more (_ ∷ es) fs cs ds e c f d used of = absurd (omega (arith, e))
entries_push n [] r notes more [] fs (_ ∷ cs) ds e c f d used of = absurd (omega (arith, c))
entries_push n (k ∷ rows) r notes more es fs cs ds e c f d used of =
    let a : k.events ≤ length es = omega (arith, e) in
    let b : k.checks ≤ length cs = omega (arith, c) in
    let x : event_count rows ≡ length (drop k.events es) = omega (arith, e, length-drop k.events es) in
    let y : check_count rows ≡ length (drop k.checks cs) = omega (arith, c, length-drop k.checks cs) in
    let next : n + suc (length rows) ≡ suc n + length rows = omega arith in
    ap₂ (λ (h : Entry) (hs : List Entry). h ∷ hs)
    (ap₂ (λ (p : List Event) (q : List Check). entry_of k.head (first_at n Nothing (notes ++ more)) p q) (take-append-le k.events es fs a)
    (take-append-le k.checks cs ds b)
    ∙ ap (λ (note : DeskNote). entry_of k.head note (take k.events es) (take k.checks cs)) (of.first n Nothing notes (omega arith)))
    (ap₂ (λ (p : List Event) (q : List Check). entries_of (suc n) (rows ++ r ∷ []) (rest_at n (notes ++ more)) p q) (drop-append-le k.events es fs a)
    (drop-append-le k.checks cs ds b)
    ∙ ap (λ xs. entries_of (suc n) (rows ++ r ∷ []) xs (drop k.events es ++ fs) (drop k.checks cs ++ ds)) (of.rest n notes (omega arith))
    ∙ entries_push (suc n) rows r (rest_at n notes) more (drop k.events es) fs (drop k.checks cs) ds x y f d used (subst (λ (m : ℕ). AreOf m more) next of)
    ∙ ap (λ (m : ℕ). entries_of (suc n) rows (rest_at n notes) (drop k.events es) (drop k.checks cs) ++ entry_of r.head
    (first_at m Nothing more) fs ds ∷ []) (sym next))

pub events_more : (rows : List Row) (r : Row) → event_count (rows ++ r ∷ []) ≡ event_count rows + r.events
events_more [] r = omega arith
events_more (k ∷ rows) r = omega (arith, events_more rows r)

pub checks_more : (rows : List Row) (r : Row) → check_count (rows ++ r ∷ []) ≡ check_count rows + r.checks
checks_more [] r = omega arith
checks_more (k ∷ rows) r = omega (arith, checks_more rows r)

-- what a check's mark leaves after all the checks before it
pub put_check-used : (checks new : List KeptCheck) (c : KeptCheck) (words more : List (Mark ℕ)) → new ≡ checks ++ c ∷ [] →
    AreUsed 0 (length checks) words → AreOf (length checks) more → AreUsed 0 (length new) (words ++ more)
put_check-used checks new c words more at used of =
    let one : suc (length checks) ≡ length new = omega (arith, ap length at, length-append checks (c ∷ [])) in
    subst (λ (count : ℕ). AreUsed 0 count (words ++ more)) one (used_push 0 (length checks) words more used (subst (λ (m : ℕ). AreOf m more) (omega arith) of))

pub put_check-checks :
    (checks new : List KeptCheck) (c : KeptCheck) (check : Check) (words more : List (Mark ℕ)) → new ≡ checks ++ c ∷ [] → AreUsed 0 (length checks) words →
    more ≡ word_marks (length checks) check.word check.stored → c.word ≡ check.word → check_of c (stored_word check.word check.stored) ≡ check →
    checks_of 0 new (words ++ more) ≡ checks_of 0 checks words ++ check ∷ []
put_check-checks checks new c check words more at used marks own is =
    let n = length checks in
    let of : AreOf n more = subst (λ xs. AreOf n xs) (sym marks) (word_marks-of n check.word check.stored) in
    let first : first_at (0 + n) c.word more ≡ stored_word check.word check.stored =
    ap (λ (m : ℕ). first_at m c.word more) (omega arith) ∙ ap (first_at n c.word) marks ∙ ap
    (λ (w : ℕ). first_at n w (word_marks n check.word check.stored)) own ∙ word_marks-first n check.word check.stored
    in
    ap (λ xs. checks_of 0 xs (words ++ more)) at ∙ checks_push 0 checks c words more used (subst (λ (m : ℕ). AreOf m more) (omega arith) of)
    ∙ ap (λ (w : ℕ). checks_of 0 checks words ++ check_of c w ∷ []) first ∙ ap (λ (x : Check). checks_of 0 checks words ++ x ∷ []) is

-- one more entry, in the flat lists
pub push_entry :
    (rows rows' : List Row) (r : Row) (notes notes' : List (Mark DeskNote)) (note : DeskNote) (es es' fs : List Event) (kept kept' : List KeptCheck)
    (words words' : List (Mark ℕ)) (ds : List Check) → AreWhole rows notes es kept words →
    rows' ≡ rows ++ r ∷ [] → notes' ≡ notes ++ note_marks (length rows) note → es' ≡ es ++ fs → checks_of 0 kept' words' ≡ checks_of 0 kept words ++ ds →
    r.events ≡ length fs → r.checks ≡ length ds →
    entries_of 0 rows' notes' es' (checks_of 0 kept' words') ≡ entries_of 0 rows notes es (checks_of 0 kept words) ++ entry_of r.head note fs ds ∷ []
push_entry rows rows' r notes notes' note es es' fs kept kept' words words' ds whole a b e c f d =
    let n = length rows in
    let all : check_count rows ≡ length (checks_of 0 kept words) = whole.checks_are ∙ sym (length-checks_of 0 kept words) in
    let start : n ≡ 0 + n = omega arith in
    (λ i. entries_of 0 (a i) (b i) (e i) (c i))
    ∙ entries_push 0 rows r notes (note_marks n note) es fs (checks_of 0 kept words) ds whole.events_are all f d whole.notes_are
    (subst (λ (m : ℕ). AreOf m (note_marks n note)) start (note_marks-of n note))
    ∙ ap (λ (x : DeskNote). entries_of 0 rows notes es (checks_of 0 kept words) ++ entry_of r.head x fs ds ∷ [])
    (ap (λ (m : ℕ). first_at m Nothing (note_marks n note)) (sym start) ∙ note_marks-first n note)

pub push_whole :
    (rows rows' : List Row) (r : Row) (notes notes' : List (Mark DeskNote)) (note : DeskNote) (es es' fs : List Event) (kept kept' : List KeptCheck)
    (words words' : List (Mark ℕ)) (ds : List Check) → AreWhole rows notes es kept words →
    rows' ≡ rows ++ r ∷ [] → notes' ≡ notes ++ note_marks (length rows) note → es' ≡ es ++ fs → checks_of 0 kept' words' ≡ checks_of 0 kept words ++ ds →
    r.events ≡ length fs → r.checks ≡ length ds → AreUsed 0 (length kept') words' →
    AreWhole rows' notes' es' kept' words'
push_whole rows rows' r notes notes' note es es' fs kept kept' words words' ds whole a b e c f d used =
    let one : suc (length rows) ≡ length rows' = omega (arith, ap length a, length-append rows (r ∷ [])) in
    let more : length kept' ≡ length kept + length ds =
    sym (length-checks_of 0 kept' words') ∙ ap length c ∙ length-append (checks_of 0 kept words) ds ∙ ap (λ (n : ℕ). n + length ds)
    (length-checks_of 0 kept words)
    in
    record {
      events_are = omega (arith, ap event_count a, events_more rows r, whole.events_are, f, ap length e, length-append es fs);
      checks_are = omega (arith, ap check_count a, checks_more rows r, whole.checks_are, d, more);
      notes_are =
          subst (λ (count : ℕ). AreUsed 0 count notes') one
          (subst (λ xs. AreUsed 0 (suc (length rows)) xs) (sym b)
          (used_push 0 (length rows) notes (note_marks (length rows) note) whole.notes_are
          (subst (λ (m : ℕ). AreOf m (note_marks (length rows) note)) (omega arith) (note_marks-of (length rows) note))));
      words_are = used;
    }
