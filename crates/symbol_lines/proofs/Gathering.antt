-- The sequences of one unit after the other.
use Rattle.std.proofs.Common.{◌≡◌, ℕ, zero, suc, ◌+◌, ◌-◌, ◌<◌, ◌≤◌, List, [], ◌∷◌, ◌++◌, length, get_or, map, Option, Some, None, refl, sym, ap, ◌∙◌, append_assoc, arith}
use Rattle.std.specs.Prelude.{fold}
use Rattle.std.specs.Option.{option_map}
use Rattle.std.proofs.lemmas.List.{append-nil, map-append, length-append}
use Rattle.std.proofs.Math.ListN.{get_or-append}
use Rattle.std.proofs.Math.Seq.{get_or-append_seam}
use Rattle.symbol_lines.specs.Program.{Unit as LineUnit, unit_at, Sequence, Operation, Machine, begin, perform, operations_in, after_program}
use Rattle.symbol_lines.specs.Paths.{TextSections}
use Rattle.symbol_lines.specs.Kept.{KeptSequence, KeptMachine, kept_sequence, kept_machine, perform_kept}
use Rattle.symbol_lines.specs.Lines.{FileList, Lines, file_list, with_files, lines_of, next_unit, lines_in, sequences}
use Rattle.symbol_lines.specs.KeptLines.{kept_lines, with_files as kept_with_files, no_files, resolved, UnitsAre}
use Rattle.symbol_lines.proofs.Shrinking.{program-kept}

-- ---- one unit

kept_texts : (k : ℕ) (files : FileList) (ss : List Sequence) → map (kept_with_files files) (map (kept_sequence k) ss) ≡ map kept_lines (map (with_files files) ss)
kept_texts k files [] = refl
kept_texts k files (s ∷ ss) = ap (λ (rest : List Lines). kept_lines (with_files files s) ∷ rest) (kept_texts k files ss)

units_are : (k : ℕ) (ss : List Sequence) → UnitsAre k (map (kept_sequence k) ss)
units_are k [] = tt
units_are k (s ∷ ss) = (refl, units_are k ss)

-- a unit whose program ends in this machine
pub record Ends (k : ℕ) (u : LineUnit) (m : KeptMachine) : Type 0 where
  pub machine : Machine
  pub is : m ≡ kept_machine k machine
  pub after : after_program u ≡ Some machine

ends_from : (k : ℕ) (u : LineUnit) (m : KeptMachine) (os : Option (List Operation)) → operations_in u.rules (length u.program) u.program ≡ os → Some m ≡ option_map (fold perform_kept (kept_machine k (begin u.files))) os → Ends k u m
ends_from k u m None e h = absurd (cc)
ends_from k u m (Some os) e h = record {
  machine = fold perform (begin u.files) os;
  is = let same : m ≡ fold perform_kept (kept_machine k (begin u.files)) os = cc in same ∙ sym (program-kept k (begin u.files) os);
  after = rw e refl;
}

pub ends : (k : ℕ) (u : LineUnit) (m : KeptMachine) → Some m ≡ option_map (fold perform_kept (kept_machine k (begin u.files))) (operations_in u.rules (length u.program) u.program) → Ends k u m
ends k u m h = ends_from k u m (operations_in u.rules (length u.program) u.program) refl h

pub unit_read : (texts : TextSections) (k : ℕ) (u : LineUnit) (m : KeptMachine) (files : FileList) → Ends k u m → files ≡ file_list texts u m.files → map (kept_with_files files) m.sequences ≡ map kept_lines (lines_of texts (Some u))
unit_read texts k u m files e t =
    let same_files : m.files ≡ e.machine.files = ap (λ (x : KeptMachine). x.files) e.is in
    let same : m.sequences ≡ map (kept_sequence k) e.machine.sequences = ap (λ (x : KeptMachine). x.sequences) e.is in
    rw (e.after, same, t, same_files) (kept_texts k (file_list texts u e.machine.files) e.machine.sequences)

pub unit_number : (k : ℕ) (u : LineUnit) (m : KeptMachine) → Ends k u m → UnitsAre k m.sequences
unit_number k u m e =
    let same : m.sequences ≡ map (kept_sequence k) e.machine.sequences = ap (λ (x : KeptMachine). x.sequences) e.is in
    rw same (units_are k e.machine.sequences)

bad_from : (texts : TextSections) (u : LineUnit) (m : KeptMachine) (os : Option (List Operation)) → operations_in u.rules (length u.program) u.program ≡ os → None ≡ option_map (fold perform_kept m) os → [] ≡ map kept_lines (lines_of texts (Some u))
bad_from texts u m None e h = rw e refl
bad_from texts u m (Some os) e h = absurd (cc)

pub unit_bad : (texts : TextSections) (u : LineUnit) (m : KeptMachine) → None ≡ option_map (fold perform_kept m) (operations_in u.rules (length u.program) u.program) → [] ≡ map kept_lines (lines_of texts (Some u))
unit_bad texts u m h = bad_from texts u m (operations_in u.rules (length u.program) u.program) refl h

-- ---- one unit after the other

abbrev pub UnitsBelow : ℕ → List KeptSequence → Type 0
UnitsBelow n [] = Unit {0}
UnitsBelow n (s ∷ ss) = (s.unit < n) × UnitsBelow n ss

resolved_more : (ts : List FileList) (t : FileList) (ss : List KeptSequence) → UnitsBelow (length ts) ss → map (resolved (ts ++ t ∷ [])) ss ≡ map (resolved ts) ss
resolved_more ts t [] below = refl
resolved_more ts t (s ∷ ss) below =
    let same : get_or (ts ++ t ∷ []) s.unit no_files ≡ get_or ts s.unit no_files = get_or-append ts (t ∷ []) no_files s.unit below.0 in
    rw (same, resolved_more ts t ss below.1) refl

resolved_last : (ts : List FileList) (t : FileList) (ss : List KeptSequence) → UnitsAre (length ts) ss → map (resolved (ts ++ t ∷ [])) ss ≡ map (kept_with_files t) ss
resolved_last ts t [] are = refl
resolved_last ts t (s ∷ ss) are =
    let same : get_or (ts ++ t ∷ []) s.unit no_files ≡ t = rw are.0 (get_or-append_seam ts t [] no_files) in
    rw (same, resolved_last ts t ss are.1) refl

below_more : (n : ℕ) (ss : List KeptSequence) → UnitsBelow n ss → UnitsBelow (n + 1) ss
below_more n [] below = tt
below_more n (s ∷ ss) below = (omega (arith, below.0), below_more n ss below.1)

below_are : (n : ℕ) (ss : List KeptSequence) → UnitsAre n ss → UnitsBelow (n + 1) ss
below_are n [] are = tt
below_are n (s ∷ ss) are = (omega (arith, are.0), below_are n ss are.1)

below_append : (n : ℕ) (xs ys : List KeptSequence) → UnitsBelow n xs → UnitsBelow n ys → UnitsBelow n (xs ++ ys)
below_append n [] ys below more = more
below_append n (x ∷ xs) ys below more = (below.0, below_append n xs ys below.1 more)

-- what was read before, and what is still read
pub record Gathers (texts : TextSections) (section : List ℕ) (n : ℕ) (rest : List ℕ) (units : List FileList) (found : List KeptSequence) : Type 0 where
  pub lines : map (resolved units) found ++ map kept_lines (lines_in texts n rest) ≡ map kept_lines (sequences texts section)
  pub below : UnitsBelow (length units) found

pub gathers_none : (texts : TextSections) (section : List ℕ) → Gathers texts section (length section) section [] []
unfolding sequences
gathers_none texts section = record { lines = refl; below = tt }

pub gathers_more : (texts : TextSections) (section : List ℕ) (i : ℕ) (rest unit after : List ℕ) (units : List FileList) (found : List KeptSequence) (t : FileList) (ss : List KeptSequence) → i < length section → Some (unit, after) ≡ next_unit rest
    → map (kept_with_files t) ss ≡ map kept_lines (lines_of texts (unit_at texts unit)) → UnitsAre (length units) ss
    → Gathers texts section (length section - i) rest units found → Gathers texts section (length section - (i + 1)) after (units ++ t ∷ []) (found ++ ss)
unfolding lines_in
gathers_more texts section i rest unit after units found t ss lt read lines are g =
    let n = length section - (i + 1) in
    let k : length section - i ≡ suc n = omega arith in
    let old : map kept_lines (lines_in texts (length section - i) rest) ≡ map (kept_with_files t) ss ++ map kept_lines (lines_in texts n after) =
    rw (k, ← read, lines) (map-append kept_lines (lines_of texts (unit_at texts unit)) (lines_in texts n after)) in
    let new : map (resolved (units ++ t ∷ [])) (found ++ ss) ≡ map (resolved units) found ++ map (kept_with_files t) ss =
    map-append (resolved (units ++ t ∷ [])) found ss ∙ rw (resolved_more units t found g.below, resolved_last units t ss are) refl in
    let len : length (units ++ t ∷ []) ≡ length units + 1 = omega (arith, length-append units (t ∷ [])) in
    record {
      lines = rw new (append_assoc (map (resolved units) found) (map (kept_with_files t) ss) (map kept_lines (lines_in texts n after)) ∙ ap (λ (ls : List Lines). map (resolved units) found ++ ls) (sym old) ∙ g.lines);
      below = rw len (below_append (length units + 1) found ss (below_more (length units) found g.below) (below_are (length units) ss are));
    }

pub gathers_end : (texts : TextSections) (section : List ℕ) (n : ℕ) (rest : List ℕ) (units : List FileList) (found : List KeptSequence) → None ≡ next_unit rest → Gathers texts section n rest units found → map (resolved units) found ≡ map kept_lines (sequences texts section)
unfolding lines_in
gathers_end texts section zero rest units found none g = sym (append-nil (map (resolved units) found)) ∙ g.lines
gathers_end texts section (suc n) rest units found none g =
    let old : map kept_lines (lines_in texts (suc n) rest) ≡ [] = rw (← none) refl in
    sym (append-nil (map (resolved units) found)) ∙ ap (λ (ls : List Lines). map (resolved units) found ++ ls) (sym old) ∙ g.lines

pub gathers_over : (texts : TextSections) (section : List ℕ) (i : ℕ) (rest : List ℕ) (units : List FileList) (found : List KeptSequence) → length section ≤ i → Gathers texts section (length section - i) rest units found → map (resolved units) found ≡ map kept_lines (sequences texts section)
unfolding lines_in
gathers_over texts section i rest units found le g =
    let k : length section - i ≡ 0 = omega arith in
    let old : map kept_lines (lines_in texts (length section - i) rest) ≡ [] = rw k refl in
    sym (append-nil (map (resolved units) found)) ∙ ap (λ (ls : List Lines). map (resolved units) found ++ ls) (sym old) ∙ g.lines
