-- Tests that compute: whether the checks of a history that is written out are lawful.
use Rattle.std.proofs.Common.{◌≡◌, ℕ, zero, suc, ◌+◌, ◌%◌, ◌<◌, ◌==◌, ◌&&◌, Bool, true, false, Option, Some, None, List, [], ◌∷◌, length, map, slice_get, get_or, refl, sym, ap, subst, ◌∙◌, arith, eqb-true}
use Rattle.std.specs.Prelude.{All, Contains, option_map, flat_map}
use Rattle.std.specs.List.{AllZip, list_all}
use Rattle.std.proofs.lemmas.Bool.{and_parts}
use Rattle.std.proofs.lemmas.List.Elements.{All-nil, All-cons}
use Rattle.run_record.specs.declared.entry.Label.{Label}
use Rattle.run_record.specs.declared.entry.Check.{Check}
use Rattle.run_record.specs.declared.entry.Entry.{Entry}
use Rattle.run_laws.specs.Numbers.{up_from}
use Rattle.run_laws.specs.Moments.{Item, Does, Notes, NewEra, Past, Moment, moment_at, items, moments, checks_at}
use Rattle.run_laws.specs.Labels.{label_of}
use Rattle.run_laws.specs.Accesses.{Access, access_of, Part, parts_of}
use Rattle.run_laws.specs.Words.{word_of, cell_for}
use Rattle.run_laws.specs.Window.{trace_before}
use Rattle.run_laws.specs.Checks.{ChecksPart, AreChecks, IsGrouped, AreAllChecks, AllStoreRightly}
use Rattle.run_laws.specs.Loads.{cell_before, AllLoadLast}
use Rattle.run_laws.proofs.ConflictLaw.{all_up}
use Rattle.run_laws.proofs.LawfulTests.{within}
use Rattle.run_laws.proofs.LastLoads as last

-- the check has the label's word, and all else
abbrev pub has_label : ℕ → Access → Part → Check → Label → Bool
has_label traced a part check l =
    (check.granule == part.granule) && (check.word == word_of part.mask l a.read a.atomic) && (check.turn == traced % 4) && (length check.cells == 4)

abbrev pub part_test : ℕ → List Moment → ℕ → ℕ → Access → Part → Check → Bool
part_test g h n t a part check = elim (label_of g (items h) n t) [ Some l ↦ has_label (length (trace_before g (items h) n t)) a part check l | None ↦ false ]

abbrev pub zip_test : (Part → Check → Bool) → List Part → List Check → Bool
zip_test p [] [] = true
zip_test p (x ∷ xs) (y ∷ ys) = p x y && zip_test p xs ys
zip_test p [] (y ∷ ys) = false
zip_test p (x ∷ xs) [] = false

abbrev pub is_empty : List Check → Bool
is_empty [] = true
is_empty (c ∷ cs) = false

abbrev pub access_test : ℕ → (ℕ → Option ℕ) → List Moment → ℕ → ℕ → List Check → Option Access → Bool
access_test g granule_of h n t checks (Some a) = zip_test (part_test g h n t a) (parts_of granule_of a) checks
access_test g granule_of h n t checks None = is_empty checks

abbrev pub event_test : ℕ → (ℕ → Option ℕ) → List Moment → ℕ → List Check → Item → Bool
event_test g granule_of h n checks (Does t e) = access_test g granule_of h n t checks (access_of e)
event_test g granule_of h n checks (Notes t note) = true
event_test g granule_of h n checks NewEra = true
event_test g granule_of h n checks Past = true

abbrev pub same_store : Option (ℕ × ℕ) → Option (ℕ × ℕ) → Bool
same_store None None = true
same_store (Some s) (Some r) = (s.0 == r.0) && (s.1 == r.1)
same_store None (Some r) = false
same_store (Some s) None = false

abbrev pub store_test : Check → Bool
store_test c = same_store c.stored (option_map (λ (i : ℕ). (i, c.word)) (cell_for c.word c.cells c.turn))

abbrev pub cells_test : List Moment → ℕ → ℕ → ℕ → List ℕ → Bool
cells_test h granule n k [] = true
cells_test h granule n k (w ∷ ws) = (w == cell_before h granule k n) && cells_test h granule n (suc k) ws

abbrev pub check_test : List Moment → ℕ → Check → Bool
check_test h n c = store_test c && cells_test h c.granule n 0 c.cells

abbrev pub moment_test : ℕ → (ℕ → Option ℕ) → List Moment → ℕ → Moment → Bool
moment_test g granule_of h n m = event_test g granule_of h n m.checks m.item && list_all (check_test h n) m.checks

abbrev pub checks_test : ℕ → (ℕ → Option ℕ) → List Moment → Bool
checks_test g granule_of h = list_all (λ (n : ℕ). moment_test g granule_of h n (moment_at h n)) (up_from 0 (length h))

-- the checks of each entry, in the order of its events
abbrev pub own_checks : List Entry → List (List Check)
own_checks entries = map (λ (e : Entry). e.checks) entries

abbrev pub grouped_checks : List Entry → List (List Check)
grouped_checks entries = map (λ (e : Entry). flat_map (λ (i : ℕ). checks_at i e.checks) (up_from 0 (length e.events))) entries

-- what these tests say
part-true : (g : ℕ) (h : List Moment) (n t : ℕ) (a : Access) (part : Part) (check : Check) → part_test g h n t a part check ≡ true → ChecksPart g h n t a part check
part-true g h n t a part check e = go (label_of g (items h) n t) refl e
  where
    go : (o : Option Label) → label_of g (items h) n t ≡ o → elim o [ Some l ↦ has_label (length (trace_before g (items h) n t)) a part check l | None ↦ false ] ≡ true → ChecksPart g h n t a part check
    go None q f = absurd (cc)
    go (Some l) q f =
        let b1 = check.granule == part.granule in
        let b2 = check.word == word_of part.mask l a.read a.atomic in
        let b3 = check.turn == length (trace_before g (items h) n t) % 4 in
        let b4 = length check.cells == 4 in
        let p3 = and_parts (b1 && b2 && b3) b4 f in
        let p2 = and_parts (b1 && b2) b3 p3.0 in
        let p1 = and_parts b1 b2 p2.0 in
        record {
          label = l;
          labelled = q;
          granule = eqb-true check.granule part.granule p1.0;
          word = eqb-true check.word (word_of part.mask l a.read a.atomic) p1.1;
          turn = eqb-true check.turn (length (trace_before g (items h) n t) % 4) p2.1;
          four = eqb-true (length check.cells) 4 p3.1;
        }

zip-true : (R : Part → Check → Type 0) (p : Part → Check → Bool) → ((x : Part) (y : Check) → p x y ≡ true → R x y) → (xs : List Part) (ys : List Check) → zip_test p xs ys ≡ true → AllZip R xs ys
zip-true R p s [] [] e = tt
zip-true R p s (x ∷ xs) (y ∷ ys) e = let q = and_parts (p x y) (zip_test p xs ys) e in (s x y q.0, zip-true R p s xs ys q.1)
zip-true R p s [] (y ∷ ys) e = absurd (cc)
zip-true R p s (x ∷ xs) [] e = absurd (cc)

empty-true : (cs : List Check) → is_empty cs ≡ true → cs ≡ []
empty-true [] e = refl
empty-true (c ∷ cs) e = absurd (cc)

access-true : (g : ℕ) (granule_of : ℕ → Option ℕ) (h : List Moment) (n t : ℕ) (o : Option Access) → access_test g granule_of h n t (moment_at h n).checks o ≡ true → AreChecks g granule_of h n t o
access-true g granule_of h n t None e = empty-true (moment_at h n).checks e
access-true g granule_of h n t (Some a) e = zip-true (ChecksPart g h n t a) (part_test g h n t a) (part-true g h n t a) (parts_of granule_of a) (moment_at h n).checks e

all_have : (p : Check → Bool) (cs : List Check) (c : Check) (k : ℕ) → k < length cs → get_or cs k c ≡ c → list_all p cs ≡ true → p c ≡ true
all_have p [] c k l e t = absurd (omega arith)
all_have p (d ∷ cs) c zero l e t = subst (λ x. p x ≡ true) e (and_parts (p d) (list_all p cs) t).0
all_have p (d ∷ cs) c (suc k) l e t = all_have p cs c k (omega arith) e (and_parts (p d) (list_all p cs) t).1

some_pair : {i j v w : ℕ} → i ≡ j → v ≡ w → ◌≡◌ {A = Option (ℕ × ℕ)} (Some (i, v)) (Some (j, w))
some_pair a b = rw (a, b) refl

store-true : (s r : Option (ℕ × ℕ)) → same_store s r ≡ true → s ≡ r
store-true None None e = refl
store-true (Some s) (Some r) e = let p = and_parts (s.0 == r.0) (s.1 == r.1) e in some_pair (eqb-true s.0 r.0 p.0) (eqb-true s.1 r.1 p.1)
store-true None (Some r) e = absurd (cc)
store-true (Some s) None e = absurd (cc)

cells-true : (h : List Moment) (granule n k : ℕ) (ws : List ℕ) → cells_test h granule n k ws ≡ true → (cell word : ℕ) → slice_get ws cell ≡ Some word → word ≡ cell_before h granule (k + cell) n
cells-true h granule n k [] e cell word f = absurd (cc)
cells-true h granule n k (w ∷ ws) e zero word f =
    let z : w ≡ word = cc in
    let y : k + 0 ≡ k = omega arith in
    sym z ∙ (eqb-true w (cell_before h granule k n) (and_parts (w == cell_before h granule k n) (cells_test h granule n (suc k) ws) e).0 ∙ ap (λ x. cell_before h granule x n) (sym y))
cells-true h granule n k (w ∷ ws) e (suc cell) word f =
    let y : suc k + cell ≡ k + suc cell = omega arith in
    cells-true h granule n (suc k) ws (and_parts (w == cell_before h granule k n) (cells_test h granule n (suc k) ws) e).1 cell word f ∙ ap (λ x. cell_before h granule x n) y

cons_parts : {X : Type 0} (x y : X) (xs ys : List X) → x ∷ xs ≡ y ∷ ys → (x ≡ y) × (xs ≡ ys)
cons_parts x y xs ys e = (cc, cc)

grouped-true : (entries : List Entry) → own_checks entries ≡ grouped_checks entries → All IsGrouped entries
grouped-true [] e = All-nil IsGrouped
grouped-true (x ∷ xs) e =
    let p = cons_parts x.checks (flat_map (λ (i : ℕ). checks_at i x.checks) (up_from 0 (length x.events))) (own_checks xs) (grouped_checks xs) e in
    All-cons IsGrouped x xs p.0 (grouped-true xs p.1)

module _ (g : ℕ) (granule_of : ℕ → Option ℕ) (entries : List Entry) (test : checks_test g granule_of (moments entries) ≡ true) where
  abbrev h : List Moment
  h = moments entries

  at : (n : ℕ) → n < length h → moment_test g granule_of h n (moment_at h n) ≡ true
  at n l = all_up (λ (n : ℕ). moment_test g granule_of (moments entries) n (moment_at (moments entries) n)) 0 (length (moments entries)) test n (omega arith) (omega arith)

  pub checks-true : own_checks entries ≡ grouped_checks entries → AreAllChecks g granule_of entries h
  checks-true grouped = record {
    of_events = λ n t e made.
        let p = and_parts (event_test g granule_of (moments entries) n (moment_at (moments entries) n).checks (moment_at (moments entries) n).item) (list_all (check_test (moments entries) n) (moment_at (moments entries) n).checks) (at n (within h n (Does t e) made (λ z. cc))) in
        access-true g granule_of (moments entries) n t (access_of e) (subst (λ it. event_test g granule_of (moments entries) n (moment_at (moments entries) n).checks it ≡ true) made p.0);
    grouped = grouped-true entries grouped;
  }

  check_at : (n : ℕ) (c : Check) → Contains (moment_at h n).checks c → check_test h n c ≡ true
  check_at n c k =
      let p = and_parts (event_test g granule_of (moments entries) n (moment_at (moments entries) n).checks (moment_at (moments entries) n).item) (list_all (check_test (moments entries) n) (moment_at (moments entries) n).checks) (at n (last.within (moments entries) n c k)) in
      all_have (check_test (moments entries) n) (moment_at (moments entries) n).checks c k.0 k.1 k.2 p.1

  pub stores-true : AllStoreRightly h
  stores-true n c k = store-true c.stored (option_map (λ (i : ℕ). (i, c.word)) (cell_for c.word c.cells c.turn)) (and_parts (store_test c) (cells_test (moments entries) c.granule n 0 c.cells) (check_at n c k)).0

  pub loads-true : AllLoadLast h
  loads-true n c k cell word e =
      let z : 0 + cell ≡ cell = omega arith in
      cells-true (moments entries) c.granule n 0 c.cells (and_parts (store_test c) (cells_test (moments entries) c.granule n 0 c.cells) (check_at n c k)).1 cell word e ∙ ap (λ x. cell_before (moments entries) c.granule x n) z
