-- The sequence and the row of a place.
use Rattle.std.proofs.Common.{◌≡◌, ℕ, suc, ◌+◌, ◌-◌, ◌<◌, ◌≤◌, Bool, true, false, leb, ltb, eqb, ◌&&◌, List, [], ◌∷◌, ◌++◌, length, get_or, map, take, drop, Option, Some, None, refl, sym, ap, ◌∙◌, inl, inr, add-zero, if◌then◌else◌, arith}
use Rattle.std.specs.Prelude.{find}
use Rattle.std.specs.Option.{option_map}
use Rattle.std.proofs.lemmas.Bool.{cases_Bool, leb-true, ltb-true, ltb-false, lt-ltb, le-ltb}
use Rattle.std.proofs.lemmas.List.{take_more, get_or-map, get_or-drop, length-drop, length-take, length-map, map_push, take-append-drop}
use Rattle.symbol_lines.specs.declared.spans.Owner.{Owner}
use Rattle.symbol_lines.specs.declared.spans.Span.{Span}
use Rattle.symbol_lines.specs.declared.rows.Row.{Row}
use Rattle.symbol_lines.specs.Spans.{better, owner_among}
use Rattle.symbol_lines.specs.Kept.{KeptSequence}
use Rattle.symbol_lines.specs.Lines.{FileList, Lines, Position, unknown, has_place, known, row_at, row_from, position_in, position_of, position_at}
use Rattle.symbol_lines.specs.KeptLines.{kept_lines, resolved, numbered, text_or_none}
use Rattle.symbol_lines.proofs.KeptRows.{row_at-kept, row_at-push, row_from-append}

-- the number of the first sequence that has a place
abbrev pub first_item : ℕ → List KeptSequence → ℕ → Option ℕ
first_item k [] p = None
first_item k (s ∷ ss) p = if leb s.start p && ltb p s.end then Some k else first_item (k + 1) ss p

abbrev pub owner_of : ℕ → Owner
owner_of item = record { rank = 0; item = item }

same_range : (a b p : ℕ) → (leb a p && ltb p (a + (b - a))) ≡ (leb a p && ltb p b)
same_range a b p =
    elim (cases_Bool (leb a p)) [
      | inr below ↦ rw below refl
      | inl at_least ↦
          let le = leb-true a p at_least in
          elim (cases_Bool (ltb p b)) [
            | inl within ↦
                let lt = ltb-true p b within in
                let size : ltb p (a + (b - a)) ≡ true = lt-ltb p (a + (b - a)) (omega arith) in
                rw (at_least, within, size) refl
            | inr past ↦
                let ge = ltb-false p b past in
                let size : ltb p (a + (b - a)) ≡ false = le-ltb p (a + (b - a)) (omega arith) in
                rw (at_least, past, size) refl
          ]
    ]

first_of_all : (k : ℕ) (o : Option ℕ) → better (Some (owner_of k)) (option_map owner_of o) ≡ Some (owner_of k)
first_of_all k None = refl
first_of_all k (Some i) = refl

pub owner_is_first : (k : ℕ) (ss : List KeptSequence) (p : ℕ) → owner_among (numbered k ss) p ≡ option_map owner_of (first_item k ss p)
owner_is_first k [] p = refl
owner_is_first k (s ∷ ss) p =
    elim (cases_Bool (leb s.start p && ltb p s.end)) [
      | inl here ↦
          let there = same_range s.start s.end p ∙ here in
          rw (there, here, owner_is_first (k + 1) ss p) (first_of_all k (first_item (k + 1) ss p))
      | inr away ↦
          let there = same_range s.start s.end p ∙ away in
          rw (there, away) (owner_is_first (k + 1) ss p)
    ]

-- what the first number says
pub record IsFirstItem (k : ℕ) (ss : List KeptSequence) (p i : ℕ) : Type 0 where
  pub index : ℕ
  pub is : i ≡ k + index
  pub in_range : index < length ss
  pub found : (d : KeptSequence) (ts : List FileList) → find (has_place p) (map (resolved ts) ss) ≡ Some (resolved ts (get_or ss index d))

pub first_found : (k : ℕ) (ss : List KeptSequence) (p i : ℕ) → first_item k ss p ≡ Some i → IsFirstItem k ss p i
first_found k [] p i h = absurd (cc)
first_found k (s ∷ ss) p i h =
    elim (cases_Bool (leb s.start p && ltb p s.end)) [
      | inl here ↦
          let e : k ≡ i = let g = rw here at h in cc in
          record { index = 0; is = omega arith; in_range = omega arith; found = λ d ts. rw here refl }
      | inr away ↦
          let g = first_found (k + 1) ss p i (rw away at h) in
          record { index = suc g.index; is = omega (arith, g.is); in_range = omega (arith, g.in_range); found = λ d ts. rw away (g.found d ts) }
    ]

pub none_found : (k : ℕ) (ss : List KeptSequence) (p : ℕ) (ts : List FileList) → first_item k ss p ≡ None → find (has_place p) (map (resolved ts) ss) ≡ None
none_found k [] p ts h = refl
none_found k (s ∷ ss) p ts h =
    elim (cases_Bool (leb s.start p && ltb p s.end)) [
      | inl here ↦ absurd (let g = rw here at h in cc)
      | inr away ↦ rw away (none_found (k + 1) ss p ts (rw away at h))
    ]

-- sequences with the rows that are kept give the same positions
kept_find : (p : ℕ) (ls : List Lines) → find (has_place p) (map kept_lines ls) ≡ option_map kept_lines (find (has_place p) ls)
kept_find p [] = refl
kept_find p (l ∷ ls) =
    elim (cases_Bool (has_place p l)) [
      | inl here ↦ rw here refl
      | inr away ↦ rw away (kept_find p ls)
    ]

kept_position : (l : Option Lines) (p : ℕ) → position_of (option_map kept_lines l) p ≡ position_of l p
kept_position None p = refl
kept_position (Some l) p = rw (row_at-kept l.rows p) (same_files l (row_at l.rows p))
  where
    same_files : (l : Lines) (o : Option Row) → position_in (kept_lines l) o ≡ position_in l o
    same_files l None = refl
    same_files l (Some row) = refl

pub position_at-kept : (ls : List Lines) (p : ℕ) → position_at (map kept_lines ls) p ≡ position_at ls p
unfolding position_at
position_at-kept ls p = ap (λ (l : Option Lines). position_of l p) (kept_find p ls) ∙ kept_position (find (has_place p) ls) p

-- a row is found behind those at or below the place
row_from_above : (o : Option Row) (xs : List Row) (p : ℕ) → ((k : ℕ) (d : Row) → k < length xs → leb (get_or xs k d).address p ≡ false) → row_from o xs p ≡ o
row_from_above o [] p above = refl
row_from_above o (x ∷ xs) p above =
    let here : leb x.address p ≡ false = above 0 x (omega arith) in
    rw here (row_from_above o xs p (λ k d lt. above (suc k) d (omega arith)))

row_at_front : (xs : List Row) (n p : ℕ) → n ≤ length xs → ((k : ℕ) (d : Row) → n ≤ k → k < length xs → leb (get_or xs k d).address p ≡ false) → row_at xs p ≡ row_at (take n xs) p
row_at_front xs n p le above =
    ap (λ (ys : List Row). row_at ys p) (sym (take-append-drop n xs))
    ∙ row_from-append None (take n xs) (drop n xs) p
    ∙ row_from_above (row_at (take n xs) p) (drop n xs) p (λ k d lt. rw get_or-drop (above (n + k) d (omega arith) (omega (arith, length-drop n xs))))

pub row_at_none : (xs : List Row) (p : ℕ) → ((k : ℕ) (d : Row) → k < length xs → leb (get_or xs k d).address p ≡ false) → None ≡ row_at xs p
row_at_none xs p above = sym (row_from_above None xs p above)

pub row_at_some : (xs : List Row) (m p : ℕ) (d : Row) → m < length xs → leb (get_or xs m d).address p ≡ true → ((k : ℕ) (e : Row) → m + 1 ≤ k → k < length xs → leb (get_or xs k e).address p ≡ false) → Some (get_or xs m d) ≡ row_at xs p
row_at_some xs m p d within here above =
    let front : row_at (take (m + 1) xs) p ≡ Some (get_or xs m d) = ap (λ (ys : List Row). row_at ys p) (take_more xs m d within) ∙ row_at-push (take m xs) (get_or xs m d) p ∙ rw here refl in
    sym (row_at_front xs (m + 1) p (omega arith) above ∙ front)

-- numbers of one more sequence
numbered-append : (k : ℕ) (xs : List KeptSequence) (y : KeptSequence) → numbered k (xs ++ y ∷ []) ≡ numbered k xs ++ record { start = y.start; size = y.end - y.start; rank = 0; item = k + length xs } ∷ []
numbered-append k [] y = rw (add-zero k) refl
numbered-append k (x ∷ xs) y =
    let same : k + 1 + length xs ≡ k + suc (length xs) = omega arith in
    ap (λ (ss : List Span). record { start = x.start; size = x.end - x.start; rank = 0; item = k } ∷ ss) (numbered-append (k + 1) xs y ∙ rw same refl)

pub numbered-push : (xs : List KeptSequence) (y : KeptSequence) → numbered 0 (xs ++ y ∷ []) ≡ numbered 0 xs ++ record { start = y.start; size = y.end - y.start; rank = 0; item = length xs } ∷ []
numbered-push xs y = let same : 0 + length xs ≡ length xs = omega arith in numbered-append 0 xs y ∙ rw same refl

-- one more sequence in a loop
pub numbered_more : {X : Type 0} (view : X → KeptSequence) (xs : List X) (i : ℕ) (x : X) → i < length xs → x ≡ get_or xs i x
    → numbered 0 (map view (take i xs)) ++ record { start = (view x).start; size = (view x).end - (view x).start; rank = 0; item = i } ∷ [] ≡ numbered 0 (map view (take (i + 1) xs))
numbered_more {X} view xs i x lt is =
    let more : take (i + 1) xs ≡ take i xs ++ x ∷ [] = take_more xs i x lt ∙ ap (λ (y : X). take i xs ++ y ∷ []) (sym is) in
    let len : length (map view (take i xs)) ≡ i = omega (arith, length-map (take i xs) view, length-take i xs) in
    rw (more, map_push view (take i xs) x) (sym (numbered-push (map view (take i xs)) (view x) ∙ rw len refl))

-- ---- a place in the tables

item_of : (o : Owner) (f : Option ℕ) → Some o ≡ option_map owner_of f → f ≡ Some o.item
item_of o None h = absurd (cc)
item_of o (Some i) h =
    let e : o ≡ owner_of i = cc in
    let j : o.item ≡ i = ap (λ (x : Owner). x.item) e in
    rw j refl

no_item : (f : Option ℕ) → None ≡ option_map owner_of f → f ≡ None
no_item None h = refl
no_item (Some i) h = absurd (cc)

pub placed : (ss : List KeptSequence) (p : ℕ) (o : Owner) → Some o ≡ owner_among (numbered 0 ss) p → IsFirstItem 0 ss p o.item
placed ss p o h = first_found 0 ss p o.item (item_of o (first_item 0 ss p) (h ∙ owner_is_first 0 ss p))

pub item_below : {X : Type 0} (view : X → KeptSequence) (xs : List X) (p : ℕ) (o : Owner) → Some o ≡ owner_among (numbered 0 (map view xs)) p → o.item < length xs
item_below view xs p o h =
    let g = placed (map view xs) p o h in
    omega (arith, g.is, g.in_range, length-map xs view)

pub missed : (ss : List KeptSequence) (p : ℕ) (ts : List FileList) → None ≡ owner_among (numbered 0 ss) p → unknown ≡ position_at (map (resolved ts) ss) p
unfolding position_at
missed ss p ts h = rw (none_found 0 ss p ts (no_item (first_item 0 ss p) (h ∙ owner_is_first 0 ss p))) refl

pub found_position : {X : Type 0} (view : X → KeptSequence) (xs : List X) (p : ℕ) (ts : List FileList) (o : Owner) (x : X) → Some o ≡ owner_among (numbered 0 (map view xs)) p → x ≡ get_or xs o.item x
    → position_at (map (resolved ts) (map view xs)) p ≡ position_in (resolved ts (view x)) (row_at (view x).rows p)
unfolding position_at
found_position view xs p ts o x h is =
    let g = placed (map view xs) p o h in
    let lt : g.index < length xs = omega (arith, g.in_range, length-map xs view) in
    let same : o.item ≡ g.index = omega (arith, g.is) in
    let here : get_or (map view xs) g.index (view x) ≡ view x = get_or-map view xs g.index x (view x) lt ∙ ap view (sym (rw same at is)) in
    rw (g.found (view x) ts, here) refl

pub known_is : (line : ℕ) (o : Option (List ℕ)) → known line o ≡ (if eqb (length (text_or_none o)) 0 then unknown else record { file = text_or_none o; line = line })
known_is line None = refl
known_is line (Some text) = refl

pub empty_position : (line : ℕ) (o : Option (List ℕ)) (b : Bool) → b ≡ eqb (length (text_or_none o)) 0 → b ≡ true → unknown ≡ known line o
empty_position line o b e h = let t : eqb (length (text_or_none o)) 0 ≡ true = sym e ∙ h in sym (known_is line o ∙ rw t refl)

pub full_position : (line : ℕ) (o : Option (List ℕ)) (b : Bool) → b ≡ eqb (length (text_or_none o)) 0 → b ≡ false → record { file = text_or_none o; line = line } ≡ known line o
full_position line o b e h = let t : eqb (length (text_or_none o)) 0 ≡ false = sym e ∙ h in sym (known_is line o ∙ rw t refl)

pub nothing_known : (text : List ℕ) (p : Position) → text ≡ [] → unknown ≡ p → record { file = text; line = 0 } ≡ p
nothing_known text p e h = rw e h
