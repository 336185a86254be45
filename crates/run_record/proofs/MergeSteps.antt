-- How sorted lists of entries become one.
use Rattle.std.proofs.Common.{◌≡◌, ℕ, suc, ◌+◌, ◌<◌, List, [], ◌∷◌, ◌++◌, length, take, drop, get_or, set, sym, ◌∙◌, ap, subst, arith, append_assoc, append-nil}
use Rattle.std.specs.Prelude.{All, AllPairs, IsPermutation}
use Rattle.std.proofs.lemmas.Grind.{flat_map-append}
use Rattle.std.proofs.lemmas.List.{length-append, length-take, length-drop, get_or-take, get_or-drop, set_split, set-get_or}
use Rattle.std.proofs.lemmas.List.Elements.{All-cons, All-head, All-tail, All-append, All-set}
use Rattle.std.proofs.lemmas.List.Kept.{AllPairs-cons}
use Rattle.std.proofs.lemmas.List.Sorted.{IsPermutation-trans, IsPermutation-append_left, IsPermutation-append_right, IsPermutation-append_comm, All-permutation}
use Rattle.run_record.specs.declared.entry.Entry.{Entry}
use Rattle.run_record.specs.Flat.{head_of}
use Rattle.run_record.specs.Order.{AreOrdered, AreDistinct, entries_in}
use Rattle.run_record.specs.Merging.{IsUpto}
use Rattle.run_record.proofs.EntryOrder.{AreOrdered-from_upto}

-- ---- lists in two parts

module _ {X : Type 0} (P : X → Type 0) where
  pub all_front : (xs ys : List X) → All P (xs ++ ys) → All P xs
  all_front [] ys h = λ k d l. absurd (omega arith)
  all_front (x ∷ xs) ys h = All-cons P x xs (h 0 x (omega arith)) (all_front xs ys (All-tail P x (xs ++ ys) h))

  pub all_back : (xs ys : List X) → All P (xs ++ ys) → All P ys
  all_back [] ys h = h
  all_back (x ∷ xs) ys h = all_back xs ys (All-tail P x (xs ++ ys) h)

module _ {X : Type 0} (R : X → X → Type 0) where
  pair_tail : (x : X) (xs : List X) → AllPairs R (x ∷ xs) → AllPairs R xs
  pair_tail x xs h = λ i j d below within. h (suc i) (suc j) d (omega arith) (omega arith)

  pair_head : (x : X) (xs : List X) → AllPairs R (x ∷ xs) → All (R x) xs
  pair_head x xs h = λ k d within. h 0 (suc k) d (omega arith) (omega arith)

  pairs_append : (xs ys : List X) → AllPairs R xs → AllPairs R ys → All (λ x. All (R x) ys) xs → AllPairs R (xs ++ ys)
  pairs_append [] ys first second cross = second
  pairs_append (x ∷ xs) ys first second cross =
      AllPairs-cons R x (xs ++ ys) (All-append (R x) xs ys (pair_head x xs first) (All-head (λ (z : X). All (R z) ys) x xs cross))
      (pairs_append xs ys (pair_tail x xs first) second (All-tail (λ (z : X). All (R z) ys) x xs cross))

  pairs_front : (xs ys : List X) → AllPairs R (xs ++ ys) → AllPairs R xs
  pairs_front [] ys h = λ i j d below within. absurd (omega arith)
  pairs_front (x ∷ xs) ys h = AllPairs-cons R x xs (all_front (R x) xs ys (pair_head x (xs ++ ys) h)) (pairs_front xs ys (pair_tail x (xs ++ ys) h))

  pairs_back : (xs ys : List X) → AllPairs R (xs ++ ys) → AllPairs R ys
  pairs_back [] ys h = h
  pairs_back (x ∷ xs) ys h = pairs_back xs ys (pair_tail x (xs ++ ys) h)

  pairs_cross : (xs ys : List X) → AllPairs R (xs ++ ys) → All (λ x. All (R x) ys) xs
  pairs_cross [] ys h = λ k d l. absurd (omega arith)
  pairs_cross (x ∷ xs) ys h =
      All-cons (λ (z : X). All (R z) ys) x xs (all_back (R x) xs ys (pair_head x (xs ++ ys) h)) (pairs_cross xs ys (pair_tail x (xs ++ ys) h))

all_flat : (P : Entry → Type 0) (lists : List (List Entry)) → All (λ (es : List Entry). All P es) lists → All P (entries_in lists)
all_flat P [] h = λ k d l. absurd (omega arith)
all_flat P (es ∷ lists) h =
    All-append P es (entries_in lists) (h 0 es (omega arith)) (all_flat P lists (All-tail (λ (xs : List Entry). All P xs) es lists h))

-- ---- what is merged, and what is left

-- the first entry isn't after the second
abbrev pub UptoEntry : Entry → Entry → Type 0
UptoEntry d e = IsUpto (head_of d) (head_of e)

abbrev pub AreSorted : List Entry → Type 0
AreSorted entries = AllPairs UptoEntry entries

-- The entries of the logs are those that are done, in order, and those that are left, none of which is before one that is done.
pub record IsMerging (logs : List (List Entry)) (done : List Entry) (left : List (List Entry)) : Type 0 where
  pub same : IsPermutation (entries_in logs) (done ++ entries_in left)
  pub sorted : AreSorted done
  pub below : All (λ (d : Entry). All (UptoEntry d) (entries_in left)) done
  pub each : All AreSorted left

-- ---- one list's first entries are done

module _ (left : List (List Entry)) (i : ℕ) (front later : List Entry) (within : i < length left)
    (at : (d : List Entry) → get_or left i d ≡ front ++ later) where
  abbrev before : List (List Entry)
  before = take i left

  abbrev behind : List (List Entry)
  behind = drop (suc i) left

  abbrev then_left : List (List Entry)
  then_left = set left i later

  flat : entries_in left ≡ entries_in before ++ (front ++ (later ++ entries_in behind))
  flat =
      let whole : left ≡ before ++ (front ++ later) ∷ behind =
      sym (set-get_or left i []) ∙ (ap (λ (x : List Entry). set left i x) (at []) ∙ set_split left i (front ++ later) within) in
      ap entries_in whole ∙ (flat_map-append (λ (log : List Entry). log) before ((front ++ later) ∷ behind)
      ∙ ap (λ (es : List Entry). entries_in before ++ es) (append_assoc front later (entries_in behind)))

  flat_then : entries_in then_left ≡ entries_in before ++ (later ++ entries_in behind)
  flat_then = ap entries_in (set_split left i later within) ∙ flat_map-append (λ (log : List Entry). log) before (later ∷ behind)

  moved : IsPermutation (entries_in left) (front ++ entries_in then_left)
  moved =
      let rest = later ++ entries_in behind in
      let turned = IsPermutation-append_left rest (entries_in before ++ front) (front ++ entries_in before) (IsPermutation-append_comm (entries_in before) front) in
      subst (λ (es : List Entry). IsPermutation es (front ++ entries_in then_left)) (append_assoc (entries_in before) front rest ∙ sym flat)
      (subst (λ (es : List Entry). IsPermutation ((entries_in before ++ front) ++ rest) (front ++ es)) (sym flat_then)
      (subst (IsPermutation ((entries_in before ++ front) ++ rest)) (append_assoc front (entries_in before) rest) turned))

  pub fewer : 0 < length front → length (entries_in then_left) < length (entries_in left)
  fewer some =
      let a = ap (λ (es : List Entry). length es) flat in
      let b = ap (λ (es : List Entry). length es) flat_then in
      omega (
        arith,
        length-append (entries_in before) (front ++ (later ++ entries_in behind)),
        length-append front (later ++ entries_in behind),
        length-append (entries_in before) (later ++ entries_in behind),
        some,
        a,
        b,
      )

  -- no entry of the front is after one of another list
  abbrev pub IsBelowOthers : Type 0
  IsBelowOthers = All (λ (a : Entry). (k : ℕ) (d : List Entry) → k < length left → (k ≡ i → ⊥) → All (UptoEntry a) (get_or left k d)) front

  below_before : (a : Entry) → ((k : ℕ) (d : List Entry) → k < length left → (k ≡ i → ⊥) → All (UptoEntry a) (get_or left k d)) → All (UptoEntry a) (entries_in before)
  below_before a others =
      all_flat (UptoEntry a) before (λ k d l.
      let many = length-take i left in
      let low : k < i = omega arith in
      subst (All (UptoEntry a)) (sym (get_or-take i left k d low)) (others k d (omega arith) (λ e. absurd (omega arith))))

  below_behind : (a : Entry) → ((k : ℕ) (d : List Entry) → k < length left → (k ≡ i → ⊥) → All (UptoEntry a) (get_or left k d)) → All (UptoEntry a) (entries_in behind)
  below_behind a others =
      all_flat (UptoEntry a) behind (λ k d l.
      let many = length-drop (suc i) left in
      subst (All (UptoEntry a)) (sym (get_or-drop (suc i) left k d)) (others (suc i + k) d (omega arith) (λ e. absurd (omega arith))))

  pub step : (logs : List (List Entry)) (done : List Entry) → IsBelowOthers → IsMerging logs done left → IsMerging logs (done ++ front) then_left
  step logs done below_others m =
      let both : AreSorted (front ++ later) = subst AreSorted (at []) (m.each i [] within) in
      let passed : All (λ (d : Entry). All (UptoEntry d) (front ++ entries_in then_left)) done =
      λ k d l. All-permutation (UptoEntry (get_or done k d)) (entries_in left) (front ++ entries_in then_left) moved (m.below k d l) in
      record {
        same = subst (IsPermutation (entries_in logs)) (sym (append_assoc done front (entries_in then_left)))
            (IsPermutation-trans _ _ _ m.same (IsPermutation-append_right done (entries_in left) (front ++ entries_in then_left) moved));
        sorted = pairs_append UptoEntry done front m.sorted (pairs_front UptoEntry front later both)
            (λ k d l. all_front (UptoEntry (get_or done k d)) front (entries_in then_left) (passed k d l));
        below = All-append (λ (d : Entry). All (UptoEntry d) (entries_in then_left)) done front
            (λ k d l. all_back (UptoEntry (get_or done k d)) front (entries_in then_left) (passed k d l))
            (λ k d l.
            let a = get_or front k d in
            subst (All (UptoEntry a)) (sym flat_then)
            (All-append (UptoEntry a) (entries_in before) (later ++ entries_in behind) (below_before a (below_others k d l))
            (All-append (UptoEntry a) later (entries_in behind) (pairs_cross UptoEntry front later both k d l) (below_behind a (below_others k d l)))));
        each = All-set AreSorted left i later (pairs_back UptoEntry front later both) m.each;
      }

-- where nothing is left the entries of the logs are done, in their order
pub all_done : (logs : List (List Entry)) (done : List Entry) (left : List (List Entry)) → entries_in left ≡ [] → AreDistinct (entries_in logs) →
    IsMerging logs done left → IsPermutation (entries_in logs) done × AreOrdered done
all_done logs done left none distinct m =
    let moved : IsPermutation (entries_in logs) done =
    subst (IsPermutation (entries_in logs)) (ap (λ (es : List Entry). done ++ es) none ∙ append-nil done) m.same in
    (moved, AreOrdered-from_upto (entries_in logs) done distinct moved m.sorted)
