-- The checks that an event tells are those of its access.
use Rattle.std.proofs.Common.{◌≡◌, ℕ, ◌+◌, Bool, true, false, cond, List, [], ◌∷◌, ◌++◌, length, Option, Some, None, refl, sym, ap, ap₂, subst, ◌∙◌}
use Rattle.std.specs.Prelude.{map, find, ◌%◌, option_map}
use Rattle.std.specs.List.{All, AllZip, flat_map}
use Rattle.std.proofs.lemmas.List.{map-append}
use Rattle.std.proofs.lemmas.List.Elements.{All-nil, All-cons}
use Rattle.run_record.specs.declared.entry.Check.{Check}
use Rattle.run_record.specs.declared.entry.Label.{Label}
use Rattle.run_record.specs.declared.report.KeptLock.{KeptLock}
use Rattle.run_laws.specs.Moments.{Moment, moment_at, items}
use Rattle.run_laws.specs.Accesses.{Access, Part, parts_of}
use Rattle.run_laws.specs.Labels.{label_of}
use Rattle.run_laws.specs.Clocks.{clocks}
use Rattle.run_laws.specs.Stacks.{frames, kept_locks}
use Rattle.run_laws.specs.Words.{word_of, cell_for}
use Rattle.run_laws.specs.Window.{trace_before}
use Rattle.run_laws.specs.Checks.{ChecksPart, AreChecks, StoresRightly}
use Rattle.run_laws.specs.Candidates.{is_race, loaded_by}
use Rattle.elf_image.specs.File.{granule_of}
use Rattle.watched_turns.specs.Checking.{Checked, checked_of, check_of, four, checks_from, checks_of, loaded_in, race_in}
use Rattle.watched_turns.specs.Watch.{Watch}
use Rattle.watched_turns.specs.Turns.{IsLabelled, raced_by}
use Rattle.watched_turns.specs.Along.{HasWatch, race_by_clock, raced_at}

-- two checks that differ at most in the place of their access
module _ (g : ℕ) (h : List Moment) (n t : ℕ) (label : Label) (labelled : label_of g (items h) n t ≡ Some label) (turn : ℕ) (turn_is : turn ≡ length (trace_before g (items h) n t) % 4) (a : Access) (loads : ℕ → ℕ → ℕ) where
  one : (part : Part) (i : ℕ) (c : Check) → checked_of c ≡ check_of part.granule (word_of part.mask label a.read a.atomic) turn (four (loads i)) → ChecksPart g h n t a part c
  one part i c e = record {
    label = label;
    labelled = labelled;
    granule = ap (λ (x : Checked). x.granule) e;
    word = ap (λ (x : Checked). x.word) e;
    turn = ap (λ (x : Checked). x.turn) e ∙ turn_is;
    four = ap (λ (x : Checked). length x.cells) e;
  }

  stores_by : (granule word turn : ℕ) (cells : List ℕ) (c : Check) → checked_of c ≡ check_of granule word turn cells → StoresRightly c
  stores_by granule word turn cells c e =
      ap (λ (x : Checked). x.stored) e
      ∙ (ap (λ (w : ℕ). option_map (λ (i : ℕ). (i, w)) (cell_for w cells turn)) (sym (ap (λ (x : Checked). x.word) e))
      ∙ (ap (λ (cs : List ℕ). option_map (λ (i : ℕ). (i, c.word)) (cell_for c.word cs turn)) (sym (ap (λ (x : Checked). x.cells) e))
      ∙ ap (λ (k : ℕ). option_map (λ (i : ℕ). (i, c.word)) (cell_for c.word c.cells k)) (sym (ap (λ (x : Checked). x.turn) e))))

  head_is : {x y : Checked} {xs ys : List Checked} → x ∷ xs ≡ y ∷ ys → x ≡ y
  head_is e = cc

  tail_is : {x y : Checked} {xs ys : List Checked} → x ∷ xs ≡ y ∷ ys → xs ≡ ys
  tail_is e = cc

  pub parts_checked : (i : ℕ) (parts : List Part) (cs : List Check) → map checked_of cs ≡ checks_from turn label a loads i parts → AllZip (ChecksPart g h n t a) parts cs
  parts_checked i [] [] e = tt
  parts_checked i [] (c ∷ cs) e = absurd (cc)
  parts_checked i (part ∷ parts) [] e = absurd (cc)
  parts_checked i (part ∷ parts) (c ∷ cs) e = (one part i c (head_is e), parts_checked (i + 1) parts cs (tail_is e))

  pub parts_store : (i : ℕ) (parts : List Part) (cs : List Check) → map checked_of cs ≡ checks_from turn label a loads i parts → All StoresRightly cs
  parts_store i [] [] e = All-nil StoresRightly
  parts_store i [] (c ∷ cs) e = absurd (cc)
  parts_store i (part ∷ parts) [] e = absurd (cc)
  parts_store i (part ∷ parts) (c ∷ cs) e =
      All-cons StoresRightly c cs (stores_by part.granule (word_of part.mask label a.read a.atomic) turn (four (loads i)) c (head_is e)) (parts_store (i + 1) parts cs (tail_is e))

none_there : (cs : List Check) → map checked_of cs ≡ [] → cs ≡ []
none_there [] e = refl
none_there (c ∷ cs) e = absurd (cc)

module _ (file : List ℕ) (g : ℕ) (h : List Moment) (n t : ℕ) (turn : ℕ) (turn_is : turn ≡ length (trace_before g (items h) n t) % 4) (loads : ℕ → ℕ → ℕ) where
  pub checks_right : (o : Option Label) (a : Option Access) → label_of g (items h) n t ≡ o → IsLabelled o a → map checked_of (moment_at h n).checks ≡ checks_of file turn o a loads → AreChecks g (granule_of file) h n t a
  checks_right None None l p e = none_there (moment_at h n).checks e
  checks_right None (Some a) l p e = absurd p
  checks_right (Some label) None l p e = none_there (moment_at h n).checks e
  checks_right (Some label) (Some a) l p e = parts_checked g h n t label l turn turn_is a loads 0 (parts_of (granule_of file) a) (moment_at h n).checks e

  none_store : (cs : List Check) → cs ≡ [] → All StoresRightly cs
  none_store cs e = subst (All StoresRightly) (sym e) (All-nil StoresRightly)

  pub stores_right : (o : Option Label) (a : Option Access) → label_of g (items h) n t ≡ o → map checked_of (moment_at h n).checks ≡ checks_of file turn o a loads → All StoresRightly (moment_at h n).checks
  stores_right None None l e = none_store (moment_at h n).checks (none_there (moment_at h n).checks e)
  stores_right None (Some a) l e = none_store (moment_at h n).checks (none_there (moment_at h n).checks e)
  stores_right (Some label) None l e = none_store (moment_at h n).checks (none_there (moment_at h n).checks e)
  stores_right (Some label) (Some a) l e = parts_store g h n t label l turn turn_is a loads 0 (parts_of (granule_of file) a) (moment_at h n).checks e

-- ---- the word that races

abbrev plain_of : Check × ℕ → Checked × ℕ
plain_of l = (checked_of l.0, l.1)

find_map : {X Y : Type 0} (f : X → Y) (p : Y → Bool) (xs : List X) → find p (map f xs) ≡ option_map f (find (λ (x : X). p (f x)) xs)
find_map f p [] = refl
find_map {X} {Y} f p (x ∷ xs) = go (p (f x)) (find_map f p xs)
  where
    go : (b : Bool) → find p (map f xs) ≡ option_map f (find (λ (x : X). p (f x)) xs) → cond b (Some (f x)) (find p (map f xs)) ≡ option_map f (cond b (Some x) (find (λ (x : X). p (f x)) xs))
    go true rest = refl
    go false rest = rest

one_loaded : (c : Check) (ws : List ℕ) → map plain_of (map (λ (w : ℕ). (c, w)) ws) ≡ map (λ (w : ℕ). (checked_of c, w)) ws
one_loaded c [] = refl
one_loaded c (w ∷ ws) = ap (λ (xs : List (Checked × ℕ)). (checked_of c, w) ∷ xs) (one_loaded c ws)

all_loaded : (cs : List Check) → map plain_of (flat_map (λ (c : Check). map (λ (w : ℕ). (c, w)) c.cells) cs) ≡ loaded_in (map checked_of cs)
all_loaded [] = refl
all_loaded (c ∷ cs) = map-append plain_of (map (λ (w : ℕ). (c, w)) c.cells) (flat_map (λ (c : Check). map (λ (w : ℕ). (c, w)) c.cells) cs) ∙ ap₂ (λ (xs ys : List (Checked × ℕ)). xs ++ ys) (one_loaded c c.cells) (all_loaded cs)

race_right : (g : ℕ) (h : List Moment) (n t : ℕ) (clock : ℕ → ℕ) (checks : List Checked) → clock ≡ (clocks g (items h) n).thread t
    → map checked_of (moment_at h n).checks ≡ checks
    → race_in clock checks ≡ option_map plain_of (race_by_clock g h n t)
race_right g h n t clock checks same e =
    ap (λ (k : ℕ → ℕ). race_in k checks) same
    ∙ (ap (race_in ((clocks g (items h) n).thread t)) (sym e)
    ∙ (ap (find (λ (l : Checked × ℕ). is_race ((clocks g (items h) n).thread t) l.0.word l.1)) (sym (all_loaded (moment_at h n).checks))
    ∙ find_map plain_of (λ (l : Checked × ℕ). is_race ((clocks g (items h) n).thread t) l.0.word l.1) (loaded_by (moment_at h n))))

-- the stack and the locks that the thread keeps are those of the history
with_side : (h : List Moment) (n t : ℕ) (w : Watch) → w.frames ≡ frames h n t → w.locks ≡ kept_locks h n t →
    (o : Option (Check × ℕ)) → option_map (raced_by w) (option_map plain_of o) ≡ option_map (raced_at h n t) o
with_side h n t w f k None = refl
with_side h n t w f k (Some l) =
    ap₂ (λ (fs : List ℕ) (ls : List KeptLock). Some (record { check = checked_of l.0; word = l.1; frames = fs; locks = ls })) f k

pub raced_right : (g : ℕ) (h : List Moment) (n t : ℕ) (w : Watch) (clock : ℕ → ℕ) (checks : List Checked) → HasWatch g h n t w
    → clock ≡ (clocks g (items h) n).thread t → map checked_of (moment_at h n).checks ≡ checks
    → option_map (raced_by w) (race_in clock checks) ≡ option_map (raced_at h n t) (race_by_clock g h n t)
raced_right g h n t w clock checks k same e =
    ap (option_map (raced_by w)) (race_right g h n t clock checks same e) ∙ with_side h n t w k.frames k.locks (race_by_clock g h n t)
