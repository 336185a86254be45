-- The checks of a moment: four words each, granules that rise, and at most one store, in one of the four cells.
use Rattle.std.proofs.Common.{◌≡◌, ◌≢◌, ◌<◌, ◌≤◌, ◌+◌, ◌*◌, ◌%◌, ◌⊎◌, inl, inr, ℕ, zero, suc, Bool, true, false, cond, List, [], ◌∷◌, ◌++◌, length, map}
use Rattle.std.proofs.Common.{slice_get, Option, Some, None, refl, sym, ap, subst, ◌∙◌, arith}
use Rattle.std.specs.Prelude.{◌==◌, All, Contains, slice_index_or, option_map, position, unwrap_or, Ok}
use Rattle.std.specs.List.{AllZip, list_any}
use Rattle.std.proofs.lemmas.List.Quantifiers.{position-Some}
use Rattle.elf_image.specs.File.{image_of, granule_of}
use Rattle.run_record.specs.declared.entry.Check.{Check}
use Rattle.run_record.specs.declared.entry.Entry.{Entry}
use Rattle.run_laws.specs.Moments.{moment_at, moments, checks_at}
use Rattle.run_laws.specs.Numbers.{up_from}
use Rattle.run_laws.specs.Accesses.{Access, Part, access_of, parts_of}
use Rattle.run_laws.specs.Words.{cell_for, repeats, is_free, is_no_stronger}
use Rattle.run_laws.specs.Checks.{ChecksPart, AreChecks, AreAllChecks, IsGrouped, StoresRightly}
use Rattle.run_laws.proofs.MomentsLaw.{checks_of_event}
use Rattle.race_core.specs.Walk.{pair_of, planned}
use Rattle.race_core.proofs.PartsLaws.{rising}
use Rattle.turn_orders.specs.Lists.{Each, In, InOrder}
use Rattle.turn_orders.proofs.Members.{filter_in}
use Rattle.shared_table.specs.declared.view.Item.TheVariants.{Load, Store}
use Rattle.woven_turns.proofs.Weaving.{in_parts, in_left, in_right}
use Rattle.hart_parts.specs.Parts.{loads_from, store_at, touches_of}
use Rattle.cell_loads.specs.Spans.{Step, IsSooner}
use Rattle.cell_loads.proofs.Lists.{in_flat, in_order, order_map, order_parts, Parted, parted, map_in}
use Rattle.cell_loads.proofs.Steps.{item_of}

-- ---- members

pub all_each : {X : Type 0} (P : X → Type 0) (xs : List X) → All P xs → Each P xs
all_each P [] h = tt
all_each P (x ∷ xs) h = (h 0 x (omega arith), all_each P xs (λ k d l. h (suc k) d (omega arith)))

index_contains : (cs : List Check) (c : Check) (i : ℕ) → i < length cs → slice_index_or cs i c ≡ c → In c cs
index_contains [] c i l e = absurd (omega arith)
index_contains (d ∷ cs) c zero l e = inl (sym e)
index_contains (d ∷ cs) c (suc i) l e = inr (index_contains cs c i (omega arith) e)

pub contains_in : (cs : List Check) (c : Check) → Contains cs c → In c cs
contains_in cs c k = index_contains cs c k.0 k.1 k.2

pub in_contains : (cs : List Check) (c : Check) → In c cs → Contains cs c
in_contains [] c i = absurd i
in_contains (d ∷ cs) c (inl e) = (0, omega arith, sym e)
in_contains (d ∷ cs) c (inr i) = let r = in_contains cs c i in let l = r.1 in (suc r.0, omega arith, r.2)

below : (i k n : ℕ) → In i (up_from k n) → i < k + n
below i k zero m = absurd m
below i k (suc n) (inl e) = omega arith
below i k (suc n) (inr m) = let l = below i (suc k) n m in omega arith

-- a check of a grouped entry belongs to one of its events
pub event_of_check : (e : Entry) (c : Check) → IsGrouped e → In c e.checks → c.event < length e.events
event_of_check e c g i =
    let r = in_flat (λ (n : ℕ). checks_at n e.checks) c (up_from 0 (length e.events)) (subst (In c) g i) in
    let q = (filter_in (λ (d : Check). d.event == r.0) c e.checks r.2).1 in
    let s = Rattle.std.proofs.Common.eqb-true c.event r.0 q in
    let l = below r.0 0 (length e.events) r.1 in
    omega arith

-- ---- the steps of a check

-- what a load of a check's granule was
pub record LoadOf (c : Check) (number word : ℕ) : Type 0 where
  pub cell : ℕ
  pub loaded : slice_get c.cells cell ≡ Some word
  pub within : cell < length c.cells
  pub is : number ≡ 4 * c.granule + cell

load_in : (k : ℕ) (ws : List ℕ) (number word : ℕ) → In (Load number word) (loads_from k ws) → (i : ℕ) × (slice_get ws i ≡ Some word) × (i < length ws) ×
    (number ≡ k + i)
load_in k [] number word i = absurd i
load_in k (w ∷ ws) number word (inl e) = (0, ap Some word_is, omega arith, number_is ∙ (let z : k ≡ k + 0 = omega arith in z))
  where
    word_is : w ≡ word
    word_is = cc

    number_is : number ≡ k
    number_is = cc
load_in k (w ∷ ws) number word (inr i) = let r = load_in (k + 1) ws number word i in let l = r.2 in let e = r.3 in (suc r.0, r.1, omega arith, omega arith)

in_load : (k : ℕ) (ws : List ℕ) (i word : ℕ) → slice_get ws i ≡ Some word → In (Load (k + i) word) (loads_from k ws)
in_load k [] i word e = absurd (cc)
in_load k (w ∷ ws) zero word e = inl (ap (λ (n : ℕ). Load n word) (let z : k + 0 ≡ k = omega arith in z) ∙ ap (Load k) word_is)
  where
    word_is : word ≡ w
    word_is = cc
in_load k (w ∷ ws) (suc i) word e = inr
    (subst (λ (n : ℕ). In (Load n word) (loads_from (k + 1) ws)) (let z : k + 1 + i ≡ k + suc i = omega arith in z) (in_load (k + 1) ws i word e))

no_store : (k : ℕ) (ws : List ℕ) (number word : ℕ) → In (Store number word) (loads_from k ws) → ⊥
no_store k [] number word i = i
no_store k (w ∷ ws) number word (inl e) = cc
no_store k (w ∷ ws) number word (inr i) = no_store (k + 1) ws number word i

no_load : (granule : ℕ) (o : Option (ℕ × ℕ)) (number word : ℕ) → In (Load number word) (store_at granule o) → ⊥
no_load granule None number word i = i
no_load granule (Some s) number word (inl e) = cc
no_load granule (Some s) number word (inr i) = i

pub load_of : (c : Check) (number word : ℕ) → In (Load number word) (touches_of c) → LoadOf c number word
load_of c number word i = elim (in_parts (Load number word) (loads_from (4 * c.granule) c.cells) (store_at c.granule c.stored) i) [
  | inl j ↦ let r = load_in (4 * c.granule) c.cells number word j in record { cell = r.0; loaded = r.1; within = r.2; is = r.3 }
  | inr j ↦ absurd (no_load c.granule c.stored number word j)
]

pub of_load : (c : Check) (cell word : ℕ) → slice_get c.cells cell ≡ Some word → In (Load (4 * c.granule + cell) word) (touches_of c)
of_load c cell word e = in_left (Load (4 * c.granule + cell) word) (loads_from (4 * c.granule) c.cells) (store_at c.granule c.stored)
    (in_load (4 * c.granule) c.cells cell word e)

-- and what its store was
pub record StoreOf (c : Check) (number word : ℕ) : Type 0 where
  pub cell : ℕ
  pub stored : c.stored ≡ Some (cell, word)
  pub is : number ≡ 4 * c.granule + cell

store_in : (granule number word : ℕ) (o : Option (ℕ × ℕ)) → In (Store number word) (store_at granule o) → (cell : ℕ) × (o ≡ Some (cell, word)) ×
    (number ≡ 4 * granule + cell)
store_in granule number word None i = absurd i
store_in granule number word (Some s) (inr i) = absurd i
store_in granule number word (Some s) (inl e) = (s.0, ap (λ (w : ℕ). Some (s.0, w)) word_is, number_is)
  where
    word_is : s.1 ≡ word
    word_is = cc

    number_is : number ≡ 4 * granule + s.0
    number_is = cc

pub store_of : (c : Check) (number word : ℕ) → In (Store number word) (touches_of c) → StoreOf c number word
store_of c number word i = elim (in_parts (Store number word) (loads_from (4 * c.granule) c.cells) (store_at c.granule c.stored) i) [
  | inl j ↦ absurd (no_store (4 * c.granule) c.cells number word j)
  | inr j ↦ let r = store_in c.granule number word c.stored j in record { cell = r.0; stored = r.1; is = r.2 }
]

pub of_store : (c : Check) (cell word : ℕ) → c.stored ≡ Some (cell, word) → In (Store (4 * c.granule + cell) word) (touches_of c)
of_store c cell word e = in_right (Store (4 * c.granule + cell) word) (loads_from (4 * c.granule) c.cells) (store_at c.granule c.stored)
    (subst (λ (o : Option (ℕ × ℕ)). In (Store (4 * c.granule + cell) word) (store_at c.granule o)) (sym e) (inl refl))

-- a check loads before it stores
pub loads_first : (c : Check) (ss : List Step) (x y w v p q : ℕ) → map item_of ss ≡ touches_of c → InOrder IsSooner ss → In (Load x w, p) ss → In
    (Store y v, q) ss → p < q
loads_first c ss x y w v p q e order i j = make (parted item_of ss (loads_from (4 * c.granule) c.cells) (store_at c.granule c.stored) e)
  where
    make : Parted item_of ss (loads_from (4 * c.granule) c.cells) (store_at c.granule c.stored) → p < q
    make r =
        let o = order_parts IsSooner r.front r.back (subst (InOrder IsSooner) r.whole order) in
        both (in_parts (Load x w, p) r.front r.back (subst (In (Load x w, p)) r.whole i))
        (in_parts (Store y v, q) r.front r.back (subst (In (Store y v, q)) r.whole j)) o.2
      where
        both : In (Load x w, p) r.front ⊎ In (Load x w, p) r.back → In (Store y v, q) r.front ⊎ In (Store y v, q) r.back →
            ((s u : Step) → In s r.front → In u r.back → IsSooner s u) → p < q
        both (inr k) l f = absurd (no_load c.granule c.stored x w (subst (In (Load x w)) r.backs (map_in item_of (Load x w, p) r.back k)))
        both (inl k) (inl l) f = absurd (no_store (4 * c.granule) c.cells y v (subst (In (Store y v)) r.fronts (map_in item_of (Store y v, q) r.front l)))
        both (inl k) (inr l) f = f (Load x w, p) (Store y v, q) k l

-- ---- the checks of an access

abbrev pub RisesTo : Check → Check → Type 0
RisesTo c d = c.granule < d.granule

pub record IsFour (c : Check) : Type 0 where
  pub four : length c.cells ≡ 4
  pub turn : c.turn < 4

-- the checks of a moment: each loaded four words, and they are on rising granules
pub record AreParts (cs : List Check) : Type 0 where
  pub each : Each IsFour cs
  pub rise : InOrder RisesTo cs

zip_parts : (P : Part → Check → Type 0) → ((p : Part) (c : Check) → P p c → (c.granule ≡ p.granule) × IsFour c) → (ps : List Part) (cs : List Check) →
    AllZip P ps cs →
    InOrder (λ (p q : Part). p.granule < q.granule) ps → AreParts cs
zip_parts P f [] [] z o = record { each = tt; rise = tt }
zip_parts P f [] (c ∷ cs) z o = absurd z
zip_parts P f (p ∷ ps) [] z o = absurd z
zip_parts P f (p ∷ ps) (c ∷ cs) z o =
    let r = zip_parts P f ps cs z.1 o.1 in
    record { each = ((f p c z.0).1, r.each); rise = (later ps cs z.1 o.0, r.rise) }
  where
    later : (qs : List Part) (ds : List Check) → AllZip P qs ds → Each (λ (q : Part). p.granule < q.granule) qs → Each (RisesTo c) ds
    later [] [] y e = tt
    later [] (d ∷ ds) y e = absurd y
    later (q ∷ qs) [] y e = absurd y
    later (q ∷ qs) (d ∷ ds) y e = (let a = (f p c z.0).0 in let b = (f q d y.0).0 in let l = e.0 in omega arith, later qs ds y.1 e.1)

module _ (file : List ℕ) (g : ℕ) (accepted : image_of file ≡ Ok file) (entries : List Entry)
    (checks : AreAllChecks g (granule_of file) entries (moments entries)) where
  pub are_parts : (n : ℕ) → AreParts (moment_at (moments entries) n).checks
  are_parts n = go (moment_at (moments entries) n).checks refl
    where
      of_access : (t : ℕ) (o : Option Access) → AreChecks g (granule_of file) (moments entries) n t o → ((moment_at (moments entries) n).checks ≡ [] → ⊥) →
          AreParts (moment_at (moments entries) n).checks
      of_access t None h some = absurd (some h)
      of_access t (Some a) h some =
          zip_parts (ChecksPart g (moments entries) n t a) (λ p c k. (k.granule, record { four = k.four; turn = let e = k.turn in omega arith }))
          (parts_of (granule_of file) a) (moment_at (moments entries) n).checks h
          (order_map pair_of (λ (p q : ℕ × ℕ). p.0 < q.0) (parts_of (granule_of file) a)
          (in_order (λ (p q : ℕ × ℕ). p.0 < q.0) (planned file a) (rising file a accepted)))

      go : (cs : List Check) → (moment_at (moments entries) n).checks ≡ cs → AreParts (moment_at (moments entries) n).checks
      go [] e = subst AreParts (sym e) (record { each = tt; rise = tt })
      go (c ∷ cs) e =
          let some : (moment_at (moments entries) n).checks ≡ [] → ⊥ = λ q. (let z : c ∷ cs ≡ [] = sym e ∙ q in cc) in
          let m = checks_of_event entries n some in
          of_access m.0 (access_of m.1) (checks.of_events n m.0 m.1 m.2) some

-- ---- where a check stores

cell_below : (v : ℕ) (cells : List ℕ) (turn i : ℕ) → length cells ≡ 4 → turn < 4 → cell_for v cells turn ≡ Some i → i < 4
cell_below v cells turn i long few q = go (list_any (repeats v) cells) q
  where
    place : (o p : Option ℕ) → position (is_free v) cells ≡ o → position (is_no_stronger v) cells ≡ p → unwrap_or o (unwrap_or p turn) < 4
    place (Some x) p e f = let z = position-Some (is_free v) cells x 0 e in let y = z.0 in omega arith
    place None (Some x) e f = let z = position-Some (is_no_stronger v) cells x 0 f in let y = z.0 in omega arith
    place None None e f = few

    go : (b : Bool) → cond b None (Some (unwrap_or (position (is_free v) cells) (unwrap_or (position (is_no_stronger v) cells) turn))) ≡ Some i → i < 4
    go true q = absurd (cc)
    go false q = let e : unwrap_or (position (is_free v) cells) (unwrap_or (position (is_no_stronger v) cells) turn) ≡ i = some_is _ q in
        let z = place (position (is_free v) cells) (position (is_no_stronger v) cells) refl refl in omega arith
      where
        some_is : (x : ℕ) → Some x ≡ Some i → x ≡ i
        some_is x q = cc

-- a check stores in one of its granule's four cells
pub stores_below : (c : Check) (cell word : ℕ) → IsFour c → StoresRightly c → c.stored ≡ Some (cell, word) → cell < 4
stores_below c cell word f r e = go (cell_for c.word c.cells c.turn) refl (sym r ∙ e)
  where
    go : (o : Option ℕ) → cell_for c.word c.cells c.turn ≡ o → option_map {U = ℕ × ℕ} (λ (i : ℕ). (i, c.word)) o ≡ Some (cell, word) → cell < 4
    go None q s = absurd (cc)
    go (Some i) q s = let z : i ≡ cell = first s in let y = cell_below c.word c.cells c.turn i f.four f.turn q in omega arith
      where
        first : ◌≡◌ {A = Option (ℕ × ℕ)} (Some (i, c.word)) (Some (cell, word)) → i ≡ cell
        first s = let p : ◌≡◌ {A = ℕ × ℕ} (i, c.word) (cell, word) = cc in ap (λ (x : ℕ × ℕ). x.0) p
