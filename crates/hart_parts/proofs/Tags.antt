-- What a worker tells of the items of its seat's log.
use Rattle.std.proofs.Common.{◌≡◌, ◌+◌, ◌*◌, ℕ, zero, suc, List, [], ◌∷◌, ◌++◌, length, inl, inr, refl, sym, ap, subst, ◌∙◌, append-nil, append_assoc, arith, length-append}
use Rattle.std.specs.Prelude.{Option, Some, None}
use Rattle.std.specs.List.{AllZip, flat_map}
use mathlib.Core.Option.{some, some-injective, some-ne-none}
use lib.ListN.{get_elem?}
use Rattle.run_record.specs.declared.entry.Check.{Check}
use Rattle.shared_table.specs.declared.view.Item.{Item}
use Rattle.shared_table.specs.declared.view.Item.TheVariants.{Split, Join, Take, Give, Load, Store}
use Rattle.shared_table.specs.Past.{Log}
use Rattle.turn_orders.specs.Lists.{Each, In}
use Rattle.turn_orders.proofs.Members.{each_append}
use Rattle.woven_turns.specs.Weave.{IsTagged, first_deeds}
use Rattle.table_deeds.specs.Objects.{ObjectDeed}
use Rattle.hart_parts.specs.Parts.{Part, Rest, Try, loads_from, store_at, touches_of, all_touches, IsStretch, rest_touches, try_items, IsLogOf}
use Rattle.hart_parts.specs.Rounds.{told_at, told_after, tags_along, StandsIn}

-- ---- along any log

-- the deeds that the items have, one after another
abbrev told_along : List ObjectDeed → Log → List ObjectDeed
told_along ds [] = []
told_along ds (x ∷ log) = told_at ds x ++ told_along (told_after ds x) log

abbrev AreTagged : List ObjectDeed → Log → Type 0
AreTagged ds [] = Unit {0}
AreTagged ds (x ∷ log) = IsTagged x (told_at ds x) × AreTagged (told_after ds x) log

-- each item has its deeds, and together they are all of them
record Tells (ds : List ObjectDeed) (log : Log) : Type 0 where
  tagged : AreTagged ds log
  whole : told_along ds log ≡ ds

first_and_others : (f : ℕ → List ObjectDeed) (j : ℕ) → first_deeds f (suc j) ≡ f 0 ++ first_deeds (λ (i : ℕ). f (suc i)) j
first_and_others f zero = sym (append-nil (f 0))
first_and_others f (suc j) =
    ap (λ (ds : List ObjectDeed). ds ++ f (suc j)) (first_and_others f j)
    ∙ append_assoc (f 0) (first_deeds (λ (i : ℕ). f (suc i)) j) (f (suc j))

all_told : (ds : List ObjectDeed) (log : Log) → first_deeds (tags_along ds log) (length log) ≡ told_along ds log
all_told ds [] = refl
all_told ds (x ∷ log) =
    first_and_others (tags_along ds (x ∷ log)) (length log)
    ∙ ap (λ (es : List ObjectDeed). told_at ds x ++ es) (all_told (told_after ds x) log)

tagged_at : (ds : List ObjectDeed) (log : Log) (j : ℕ) (x : Item) → AreTagged ds log → get_elem? log j ≡ some x → IsTagged x (tags_along ds log j)
tagged_at ds [] j x t e = absurd (some-ne-none x (sym e))
tagged_at ds (y ∷ log) zero x t e = subst (λ (z : Item). IsTagged z (told_at ds y)) (some-injective y x e) t.0
tagged_at ds (y ∷ log) (suc j) x t e = tagged_at (told_after ds y) log j x t.1 e

in_first : (ds : List ObjectDeed) (x : Item) (d : ObjectDeed) → In d (told_at ds x) → In d ds
in_first [] (Give k j found left) d i = i
in_first (e ∷ ds) (Give k j found left) d (inl q) = inl q
in_first (e ∷ ds) (Give k j found left) d (inr i) = absurd i
in_first ds (Take k i) d j = absurd j
in_first ds (Split m) d j = absurd j
in_first ds (Join m) d j = absurd j
in_first ds (Load c w) d j = absurd j
in_first ds (Store c w) d j = absurd j

in_others : (ds : List ObjectDeed) (x : Item) (d : ObjectDeed) → In d (told_after ds x) → In d ds
in_others [] (Give k i found left) d j = j
in_others (e ∷ ds) (Give k i found left) d j = inr j
in_others ds (Take k i) d j = j
in_others ds (Split m) d j = j
in_others ds (Join m) d j = j
in_others ds (Load c w) d j = j
in_others ds (Store c w) d j = j

-- what an item has is one of the deeds
pub in_tags : (ds : List ObjectDeed) (log : Log) (j : ℕ) (d : ObjectDeed) → In d (tags_along ds log j) → In d ds
in_tags ds [] j d i = absurd i
in_tags ds (x ∷ log) zero d i = in_first ds x d i
in_tags ds (x ∷ log) (suc j) d i = in_others ds x d (in_tags (told_after ds x) log j d i)

-- ---- along the log of a part

-- items that are no gives
abbrev IsQuiet : Item → Type 0
IsQuiet (Give k i found left) = ⊥
IsQuiet _ = Unit {0}

quiet_item : (ds : List ObjectDeed) (x : Item) (log : Log) → IsQuiet x → Tells ds log → Tells ds (x ∷ log)
quiet_item ds (Give k i found left) log q t = absurd q
quiet_item ds (Take k i) log q t = record { tagged = (refl, t.tagged); whole = t.whole }
quiet_item ds (Split m) log q t = record { tagged = (refl, t.tagged); whole = t.whole }
quiet_item ds (Join m) log q t = record { tagged = (refl, t.tagged); whole = t.whole }
quiet_item ds (Load c w) log q t = record { tagged = (refl, t.tagged); whole = t.whole }
quiet_item ds (Store c w) log q t = record { tagged = (refl, t.tagged); whole = t.whole }

quiet_items : (ds : List ObjectDeed) (xs log : Log) → Each IsQuiet xs → Tells ds log → Tells ds (xs ++ log)
quiet_items ds [] log q t = t
quiet_items ds (x ∷ xs) log q t = quiet_item ds x (xs ++ log) q.0 (quiet_items ds xs log q.1 t)

given_back : (d : ObjectDeed) (ds : List ObjectDeed) (n : ℕ) (log : Log) → Tells ds log → Tells (d ∷ ds) (Give d.call.place n d.found d.left ∷ log)
given_back d ds n log t = record {
  tagged = ((refl, refl, refl), t.tagged);
  whole = ap (λ (es : List ObjectDeed). d ∷ es) t.whole;
}

quiet_loads : (n : ℕ) (ws : List ℕ) → Each IsQuiet (loads_from n ws)
quiet_loads n [] = tt
quiet_loads n (w ∷ ws) = (tt, quiet_loads (n + 1) ws)

quiet_store : (granule : ℕ) (s : Option (ℕ × ℕ)) → Each IsQuiet (store_at granule s)
quiet_store granule None = tt
quiet_store granule (Some s) = (tt, tt)

quiet_touches : (cs : List Check) → Each IsQuiet (all_touches cs)
quiet_touches [] = tt
quiet_touches (c ∷ cs) =
    each_append IsQuiet (touches_of c) (all_touches cs)
    (each_append IsQuiet (loads_from (4 * c.granule) c.cells) (store_at c.granule c.stored)
    (quiet_loads (4 * c.granule) c.cells) (quiet_store c.granule c.stored))
    (quiet_touches cs)

-- a stretch has its deed
stretch_told : (d : ObjectDeed) (items : Log) (ds : List ObjectDeed) (log : Log) → IsStretch d items → Tells ds log → Tells (d ∷ ds) (items ++ log)
stretch_told d items ds log s t =
    let give : Item = Give d.call.place s.number d.found d.left in
    let take : Item = Take d.call.place s.number in
    let early = all_touches s.early in
    let late = all_touches s.late in
    let back = given_back d ds s.number log t in
    let inside = quiet_items (d ∷ ds) late (give ∷ log) (quiet_touches s.late) back in
    let taken = quiet_item (d ∷ ds) take (late ++ give ∷ log) tt inside in
    let same : items ++ log ≡ early ++ take ∷ (late ++ give ∷ log) =
    ap (λ (xs : Log). xs ++ log) s.items_are
    ∙ (append_assoc early (take ∷ (late ++ give ∷ [])) log
    ∙ ap (λ (xs : Log). early ++ take ∷ xs) (append_assoc late (give ∷ []) log)) in
    subst (Tells (d ∷ ds)) (sym same) (quiet_items (d ∷ ds) early (take ∷ (late ++ give ∷ log)) (quiet_touches s.early) taken)

stretches_told : (ds : List ObjectDeed) (stretches : List Log) (log : Log) → AllZip IsStretch ds stretches → Tells [] log →
    Tells ds (flat_map (λ (items : Log). items) stretches ++ log)
stretches_told [] [] log z t = t
stretches_told [] (s ∷ ss) log z t = absurd z
stretches_told (d ∷ ds) [] log z t = absurd z
stretches_told (d ∷ ds) (s ∷ ss) log z t =
    let others = flat_map (λ (items : Log). items) ss in
    subst (Tells (d ∷ ds)) (sym (append_assoc s others log)) (stretch_told d s ds (others ++ log) z.0 (stretches_told ds ss log z.1 t))

quiet_rest : (r : Option Rest) → Each IsQuiet (rest_touches r)
quiet_rest None = tt
quiet_rest (Some r) = quiet_touches r.entry.checks

try_told : (x : Option Try) → Tells [] (try_items x)
try_told None = record { tagged = tt; whole = refl }
try_told (Some x) = record { tagged = (refl, (refl, tt)); whole = refl }

part_told : (p : Part) → IsLogOf p → Tells p.deeds p.log
part_told p is =
    subst (Tells p.deeds) (sym is.whole)
    (stretches_told p.deeds is.stretches (rest_touches p.rest ++ try_items p.tried) is.each
    (quiet_items [] (rest_touches p.rest) (try_items p.tried) (quiet_rest p.rest) (try_told p.tried)))

-- each item of a part's log has its deed, or none
pub item_told : (p : Part) (j : ℕ) (x : Item) → IsLogOf p → get_elem? p.log j ≡ some x → IsTagged x (tags_along p.deeds p.log j)
item_told p j x is e = tagged_at p.deeds p.log j x (part_told p is).tagged e

-- the deeds that are told along a part's whole log are those of the part
pub log_told : (p : Part) → IsLogOf p → first_deeds (tags_along p.deeds p.log) (length p.log) ≡ p.deeds
log_told p is = all_told p.deeds p.log ∙ (part_told p is).whole

-- ---- where a deed stands

-- the deeds that are left behind the items
abbrev left_for : List ObjectDeed → Log → List ObjectDeed
left_for ds [] = ds
left_for ds (x ∷ log) = left_for (told_after ds x) log

behind : (ds : List ObjectDeed) (xs log : Log) (n j : ℕ) → n ≡ length xs + j → tags_along ds (xs ++ log) n ≡ tags_along (left_for ds xs) log j
behind ds [] log n j e = let z : n ≡ j = omega (arith, e) in ap (tags_along ds log) z
behind ds (x ∷ xs) log zero j e = absurd (omega (arith, e))
behind ds (x ∷ xs) log (suc n) j e = behind (told_after ds x) xs log n j (omega (arith, e))

left_more : (ds : List ObjectDeed) (xs ys : Log) → left_for ds (xs ++ ys) ≡ left_for (left_for ds xs) ys
left_more ds [] ys = refl
left_more ds (x ∷ xs) ys = left_more (told_after ds x) xs ys

quiet_left : (ds : List ObjectDeed) (xs : Log) → Each IsQuiet xs → left_for ds xs ≡ ds
quiet_left ds [] q = refl
quiet_left ds (x ∷ xs) q = ap (λ (es : List ObjectDeed). left_for es xs) (one x q.0) ∙ quiet_left ds xs q.1
  where
    one : (y : Item) → IsQuiet y → told_after ds y ≡ ds
    one (Give k i found left) q = absurd q
    one (Take k i) q = refl
    one (Split m) q = refl
    one (Join m) q = refl
    one (Load c w) q = refl
    one (Store c w) q = refl

-- the items of a stretch before its give
abbrev before_give : (d : ObjectDeed) (items : Log) → IsStretch d items → Log
before_give d items s = all_touches s.early ++ Take d.call.place s.number ∷ all_touches s.late

stretch_is : (d : ObjectDeed) (items : Log) (s : IsStretch d items) → items ≡ before_give d items s ++ Give d.call.place s.number d.found d.left ∷ []
stretch_is d items s =
    s.items_are
    ∙ sym (append_assoc (all_touches s.early) (Take d.call.place s.number ∷ all_touches s.late) (Give d.call.place s.number d.found d.left ∷ []))

quiet_before : (d : ObjectDeed) (items : Log) (s : IsStretch d items) → Each IsQuiet (before_give d items s)
quiet_before d items s =
    each_append IsQuiet (all_touches s.early) (Take d.call.place s.number ∷ all_touches s.late) (quiet_touches s.early) (tt, quiet_touches s.late)

stretch_left : (d : ObjectDeed) (ds : List ObjectDeed) (items : Log) → IsStretch d items → left_for (d ∷ ds) items ≡ ds
stretch_left d ds items s =
    ap (left_for (d ∷ ds)) (stretch_is d items s)
    ∙ (left_more (d ∷ ds) (before_give d items s) (Give d.call.place s.number d.found d.left ∷ [])
    ∙ ap (λ (es : List ObjectDeed). left_for es (Give d.call.place s.number d.found d.left ∷ []))
    (quiet_left (d ∷ ds) (before_give d items s) (quiet_before d items s)))

there : (xs : Log) (x : Item) (ys : Log) → get_elem? (xs ++ x ∷ ys) (length xs) ≡ some x
there [] x ys = refl
there (y ∷ xs) x ys = there xs x ys

-- the deed of the first stretch
first_stands : (d : ObjectDeed) (ds : List ObjectDeed) (items rest : Log) → IsStretch d items → StandsIn (d ∷ ds) (items ++ rest) d
first_stands d ds items rest s =
    let pre = before_give d items s in
    let give : Item = Give d.call.place s.number d.found d.left in
    let whole : items ++ rest ≡ pre ++ give ∷ rest = ap (λ (xs : Log). xs ++ rest) (stretch_is d items s) ∙ append_assoc pre (give ∷ []) rest in
    let long = ap (λ (xs : Log). length xs) (stretch_is d items s) in
    let sum = length-append pre (give ∷ []) in
    let z : length pre ≡ length pre + 0 = omega arith in
    record {
      front = [];
      items = items;
      back = rest;
      whole = refl;
      is = s;
      place = length pre;
      last = omega (arith, long, sum);
      give = ap (λ (xs : Log). get_elem? xs (length pre)) whole ∙ there pre give rest;
      told =
          ap (λ (xs : Log). tags_along (d ∷ ds) xs (length pre)) whole
          ∙ (behind (d ∷ ds) pre (give ∷ rest) (length pre) 0 z
          ∙ ap (λ (es : List ObjectDeed). told_at es give) (quiet_left (d ∷ ds) pre (quiet_before d items s)));
    }

-- and one of those behind it
later_stands : (e : ObjectDeed) (ds : List ObjectDeed) (items rest : Log) (d : ObjectDeed) → IsStretch e items → StandsIn ds rest d →
    StandsIn (e ∷ ds) (items ++ rest) d
later_stands e ds items rest d s h =
    let last = h.last in
    let sum = length-append items h.front in
    record {
      front = items ++ h.front;
      items = h.items;
      back = h.back;
      whole = ap (λ (xs : Log). items ++ xs) h.whole ∙ sym (append_assoc items h.front (h.items ++ h.back));
      is = h.is;
      place = length items + h.place;
      last = omega (arith, last, sum);
      give = passed items rest h.place ∙ h.give;
      told =
          behind (e ∷ ds) items rest (length items + h.place) h.place refl
          ∙ (ap (λ (es : List ObjectDeed). tags_along es rest h.place) (stretch_left e ds items s) ∙ h.told);
    }
  where
    passed : (xs ys : Log) (j : ℕ) → get_elem? (xs ++ ys) (length xs + j) ≡ get_elem? ys j
    passed [] ys j = let z : 0 + j ≡ j = omega arith in ap (get_elem? ys) z
    passed (x ∷ xs) ys j = let z : suc (length xs) + j ≡ suc (length xs + j) = omega arith in ap (get_elem? (x ∷ (xs ++ ys))) z ∙ passed xs ys j

all_stand : (ds : List ObjectDeed) (stretches : List Log) (tail : Log) (d : ObjectDeed) → AllZip IsStretch ds stretches → In d ds →
    StandsIn ds (flat_map (λ (items : Log). items) stretches ++ tail) d
all_stand [] ss tail d z i = absurd i
all_stand (e ∷ ds) [] tail d z i = absurd z
all_stand (e ∷ ds) (s ∷ ss) tail d z i =
    let others = flat_map (λ (items : Log). items) ss in
    subst (λ (log : Log). StandsIn (e ∷ ds) log d) (sym (append_assoc s others tail)) (go i (all_stand ds ss tail d z.1))
  where
    go : In d (e ∷ ds) → (In d ds → StandsIn ds (flat_map (λ (items : Log). items) ss ++ tail) d) →
        StandsIn (e ∷ ds) (s ++ (flat_map (λ (items : Log). items) ss ++ tail)) d
    go (inl q) rec =
        subst (λ (x : ObjectDeed). StandsIn (e ∷ ds) (s ++ (flat_map (λ (items : Log). items) ss ++ tail)) x) (sym q)
        (first_stands e ds s (flat_map (λ (items : Log). items) ss ++ tail) z.0)
    go (inr j) rec = later_stands e ds s (flat_map (λ (items : Log). items) ss ++ tail) d z.0 (rec j)

-- each deed of a part at an object stands in its log, and is told at its give
pub deed_stands : (p : Part) (d : ObjectDeed) → IsLogOf p → In d p.deeds → StandsIn p.deeds p.log d
deed_stands p d is i =
    subst (λ (log : Log). StandsIn p.deeds log d) (sym is.whole) (all_stand p.deeds is.stretches (rest_touches p.rest ++ try_items p.tried) d is.each i)
