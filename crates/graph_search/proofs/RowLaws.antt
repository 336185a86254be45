-- Links by the nodes at which they begin, one link and one node at a time.
use Rattle.std.proofs.Common.{◌≡◌, ℕ, zero, suc, ◌+◌, ◌-◌, ◌<◌, ◌≤◌, List, [], ◌∷◌, ◌++◌, length, take, set, get_or, refl, sym, ap, ◌∙◌, subst, inl, inr, arith}
use Rattle.std.proofs.Common.{Vec, Global}
use Rattle.std.specs.List.{All}
use Rattle.std.specs.List.Sorted.{IsPermutation}
use Rattle.std.proofs.lemmas.Bool.{cases_eq, cases_lt}
use Rattle.std.proofs.lemmas.List.{length-set, get_or-set_same, get_or-set_other, get_or_append_left, get_or-append_right, get_or_push, length_push}
use Rattle.std.proofs.lemmas.List.{length-append, append_assoc, append-nil, take_more}
use Rattle.std.proofs.lemmas.Grind.{flat_map-append}
use Rattle.std.proofs.lemmas.List.Elements.{All-append, All-push, All-weaker}
use Rattle.std.proofs.lemmas.List.Sorted.{IsPermutation-refl, IsPermutation-append_right, IsPermutation-middle, IsPermutation-push_more}
use Rattle.std.proofs.lemmas.List.Sorted.{IsPermutation-trans, IsPermutation-sym}
use Rattle.graph_search.specs.declared.graph.Link.{Link}
use Rattle.graph_search.specs.Graphs.{AreStarts, AreRows, row_links}
use Rattle.graph_search.specs.Searches.{at}

-- one more link in one row is one more in all
row-more : (rows : List (Vec Link Global)) (n : ℕ) (old new : Vec Link Global) (l : Link) → n < length rows → get_or rows n old ≡ old →
    new.items ≡ old.items ++ l ∷ [] → IsPermutation (l ∷ row_links rows) (row_links (set rows n new))
row-more [] n old new l inside is e = absurd (omega arith)
row-more (r ∷ rows) zero old new l inside is e =
    let first : new.items ++ row_links rows ≡ r.items ++ l ∷ row_links rows =
    ap (λ (xs : List Link). xs ++ row_links rows) (e ∙ ap (λ (v : Vec Link Global). v.items ++ l ∷ []) (sym is)) ∙
    append_assoc r.items (l ∷ []) (row_links rows) in
    subst (λ (xs : List Link). IsPermutation (l ∷ (r.items ++ row_links rows)) xs) (sym first)
    (IsPermutation-sym (r.items ++ l ∷ row_links rows) (l ∷ (r.items ++ row_links rows)) (IsPermutation-middle r.items l (row_links rows)))
row-more (r ∷ rows) (suc n) old new l inside is e =
    let rest = row-more rows n old new l (omega arith) is e in
    IsPermutation-trans (l ∷ (r.items ++ row_links rows)) (r.items ++ l ∷ row_links rows) (r.items ++ row_links (set rows n new))
    (IsPermutation-sym (r.items ++ l ∷ row_links rows) (l ∷ (r.items ++ row_links rows)) (IsPermutation-middle r.items l (row_links rows)))
    (IsPermutation-append_right r.items (l ∷ row_links rows) (row_links (set rows n new)) rest)

pub rows-blank : (n : ℕ) (rows : List (Vec Link Global)) (r : Vec Link Global) → AreRows n [] rows → r.items ≡ [] → AreRows (n + 1) [] (rows ++ r ∷ [])
rows-blank n rows r rs e = record {
  size = omega (arith, length_push rows r, rs.size);
  same = subst (IsPermutation []) (sym (flat_map-append (λ (v : Vec Link Global). v.items) rows (r ∷ [])))
      (subst (λ (xs : List Link). IsPermutation [] (row_links rows ++ xs)) (sym (append-nil r.items ∙ e))
      (subst (IsPermutation []) (sym (append-nil (row_links rows))) rs.same));
  own = λ k d l. elim (cases_lt k n) [
    | inl b ↦
        subst (λ (v : Vec Link Global). All (λ (x : Link). x.from ≡ k) v.items) (sym (get_or_append_left rows (r ∷ []) d k (omega (arith, rs.size))))
        (rs.own k d b)
    | inr b ↦
        subst (λ (v : Vec Link Global). All (λ (x : Link). x.from ≡ k) v.items) (sym (get_or_push rows r d k (omega (arith, rs.size))))
        (subst (λ (xs : List Link). All (λ (x : Link). x.from ≡ k) xs) (sym e) (λ i x h. absurd (omega arith)))
  ];
}

pub rows-none : AreRows 0 [] []
rows-none = record { size = refl; same = IsPermutation-refl []; own = λ k d l. absurd (omega arith) }

pub rows-more : (nodes : ℕ) (links : List Link) (rows : List (Vec Link Global)) (l : Link) (old new : Vec Link Global) → AreRows nodes links rows →
    l.from < nodes → get_or rows l.from old ≡ old → new.items ≡ old.items ++ l ∷ [] → AreRows nodes (links ++ l ∷ []) (set rows l.from new)
rows-more nodes links rows l old new r inside is e = record {
  size = length-set rows l.from new ∙ r.size;
  same = IsPermutation-push_more links (row_links rows) (row_links (set rows l.from new)) l r.same
      (row-more rows l.from old new l (omega (arith, r.size)) is e);
  own = λ n d low. elim (cases_eq n l.from) [
    | inl same ↦
        let here : get_or (set rows l.from new) n d ≡ new =
        ap (λ (x : ℕ). get_or (set rows l.from new) x d) same ∙ get_or-set_same rows l.from new d (omega (arith, r.size)) in
        let olds : All (λ (k : Link). k.from ≡ l.from) old.items =
        subst (λ (v : Vec Link Global). All (λ (k : Link). k.from ≡ l.from) v.items) is (r.own l.from old inside) in
        subst (λ (v : Vec Link Global). All (λ (k : Link). k.from ≡ n) v.items) (sym here)
        (subst (λ (xs : List Link). All (λ (k : Link). k.from ≡ n) xs) (sym e)
        (subst (λ (x : ℕ). All (λ (k : Link). k.from ≡ x) (old.items ++ l ∷ [])) (sym same)
        (All-push (λ (k : Link). k.from ≡ l.from) old.items l olds refl)))
    | inr other ↦
        subst (λ (v : Vec Link Global). All (λ (k : Link). k.from ≡ n) v.items) (sym (get_or-set_other rows l.from n new d other)) (r.own n d low)
  ];
}

-- the links of the first rows, and where each begins
pub record AreFirst (n : ℕ) (links : List Link) (starts : List ℕ) : Type 0 where
  pub size : length starts ≡ n
  pub within : (m : ℕ) → m < n → at starts m ≤ length links
  pub below : (m k : ℕ) (d : Link) → m < n → k < at starts m → (get_or links k d).from < m
  pub above : (m k : ℕ) (d : Link) → m < n → at starts m ≤ k → k < length links → m ≤ (get_or links k d).from
  pub all : All (λ (l : Link). l.from < n) links

pub first-begin : AreFirst 0 [] []
first-begin = record {
  size = refl;
  within = λ m l. absurd (omega arith);
  below = λ m k d l h. absurd (omega arith);
  above = λ m k d l h i. absurd (omega arith);
  all = λ k d l. absurd (omega arith);
}

-- one more row
pub first-more : (n : ℕ) (links row : List Link) (starts : List ℕ) → AreFirst n links starts → All (λ (l : Link). l.from ≡ n) row →
    AreFirst (n + 1) (links ++ row) (starts ++ length links ∷ [])
first-more n links row starts f own =
    let long = length-append links row in
    let old : (m : ℕ) → m < n → at (starts ++ length links ∷ []) m ≡ at starts m =
    λ m l. get_or_append_left starts (length links ∷ []) 0 m (omega (arith, f.size)) in
    let new : (m : ℕ) → n ≡ m → at (starts ++ length links ∷ []) m ≡ length links = λ m e. get_or_push starts (length links) 0 m (omega (arith, f.size)) in
    let front : (k : ℕ) (d : Link) → k < length links → (get_or (links ++ row) k d).from ≡ (get_or links k d).from =
    λ k d l. ap (λ (x : Link). x.from) (get_or_append_left links row d k l) in
    let rear : (k : ℕ) (d : Link) → length links ≤ k → k < length (links ++ row) → (get_or (links ++ row) k d).from ≡ n =
    λ k d low high. ap (λ (x : Link). x.from) (get_or-append_right links row (length links) k d refl low) ∙ own (k - length links) d (omega (arith, long)) in
    record {
      size = omega (arith, length_push starts (length links), f.size);
      within = λ m l. elim (cases_lt m n) [
        | inl b ↦ omega (arith, old m b, f.within m b, long)
        | inr b ↦ omega (arith, new m (omega arith), long)
      ];
      below = λ m k d l h. elim (cases_lt m n) [
        | inl b ↦ omega (arith, old m b, f.within m b, f.below m k d b (omega (arith, old m b)), front k d (omega (arith, old m b, f.within m b)))
        | inr b ↦
            let inside : k < length links = omega (arith, new m (omega arith)) in
            omega (arith, front k d inside, f.all k d inside)
      ];
      above = λ m k d l low high. elim (cases_lt k (length links)) [
        | inl inside ↦ elim (cases_lt m n) [
          | inl b ↦ omega (arith, front k d inside, f.above m k d b (omega (arith, old m b)) inside)
          | inr b ↦ absurd (omega (arith, new m (omega arith)))
        ]
        | inr past ↦ omega (arith, rear k d past high)
      ];
      all = All-append (λ (l : Link). l.from < n + 1) links row
          (All-weaker (λ (l : Link). l.from < n) (λ (l : Link). l.from < n + 1) (λ l h. omega arith) links f.all)
          (All-weaker (λ (l : Link). l.from ≡ n) (λ (l : Link). l.from < n + 1) (λ l h. omega arith) row own);
    }

-- all rows
pub first-all : (nodes n : ℕ) (links : List Link) (starts : List ℕ) → n ≡ nodes → AreFirst n links starts → AreStarts nodes links (starts ++ length links ∷ [])
first-all nodes n links starts e f =
    let old : (m : ℕ) → m < n → at (starts ++ length links ∷ []) m ≡ at starts m =
    λ m l. get_or_append_left starts (length links ∷ []) 0 m (omega (arith, f.size)) in
    let new : (m : ℕ) → n ≡ m → at (starts ++ length links ∷ []) m ≡ length links = λ m x. get_or_push starts (length links) 0 m (omega (arith, f.size)) in
    record {
      size = omega (arith, length_push starts (length links), f.size);
      within = λ m l. elim (cases_lt m n) [
        | inl b ↦ omega (arith, old m b, f.within m b)
        | inr b ↦ omega (arith, new m (omega arith))
      ];
      parts = λ m l. elim (cases_lt m n) [
        | inl b ↦ (λ k d low high. f.below m k d b (omega (arith, old m b)), λ k d low high. f.above m k d b (omega (arith, old m b)) high)
        | inr b ↦ (λ k d low high. omega (arith, f.all k d (omega (arith, new m (omega arith)))), λ k d low high. absurd (omega (arith, new m (omega arith))))
      ];
    }

-- the links of one more row
pub row_links-more : (rows : List (Vec Link Global)) (n : ℕ) (row : Vec Link Global) → n < length rows → row ≡ get_or rows n row →
    row_links (take (n + 1) rows) ≡ row_links (take n rows) ++ row.items
row_links-more rows n row inside is =
    ap row_links (take_more rows n row inside) ∙
    (flat_map-append (λ (v : Vec Link Global). v.items) (take n rows) (get_or rows n row ∷ []) ∙
    ap (λ (xs : List Link). row_links (take n rows) ++ xs) (append-nil (get_or rows n row).items ∙ ap (λ (v : Vec Link Global). v.items) (sym is)))
