-- The stamp of each entry is one more than the greatest that its turn has seen.
use Rattle.std.proofs.Common.{◌≡◌, ◌≢◌, ◌<◌, ◌≤◌, ◌⊎◌, inl, inr, ℕ, zero, suc, ◌+◌, max, Bool, true, false, cond, List, [], ◌∷◌, ◌++◌, length, take, filter, Option, Some, None, refl, sym, ap, ap₂, subst, ◌∙◌, arith, eq-eqb, ne_eqb, length-append}
use Rattle.std.specs.Prelude.{◌==◌, ◌&&◌, ◌||◌, nat_lt, map, fold}
use Rattle.std.specs.List.{AllZip, enumerate_from}
use Rattle.std.proofs.lemmas.Bool.{cases_eq, cases_Bool, lt-ltb}
use Rattle.std.proofs.lemmas.List.{append_assoc, append-nil, map-append}
use Rattle.std.proofs.lemmas.List.Sums.{fold-append}
use Rattle.std.proofs.Math.Seq.{take-length, take-append-le}
use Rattle.run_record.specs.declared.entry.Entry.{Entry}
use Rattle.run_laws.specs.Faithful.{Bare, state_before, object_of, is_same_object, is_seen_by, stamp_seen, AtOnce, IsStamped}
use Rattle.bare_machine.specs.World.{World}
use Rattle.bare_machine.specs.Step.{desk}
use Rattle.machine_laws.specs.Machine.{bare_of}
use Rattle.turn_orders.specs.Lists.{Each}
use Rattle.turn_orders.specs.Machine.{State, many}
use Rattle.turn_orders.specs.LineUp.{Stamped, stamped, of_thread, of_place, greatest, stamp, IsStampedAfter}
use Rattle.turn_orders.specs.Rounds.{AreRounds, AreStamped, top, made_end}
use Rattle.turn_orders.proofs.Members.{filter_here, filter_not, filter_append, each_append, all_members, at_member}
use Rattle.joint_turns.specs.Joint.{Value}
use Rattle.watched_turns.specs.Turns.{Local, watched_turn}
use Rattle.watched_turns.specs.Along.{StampedDeed}
use Rattle.watched_turns.specs.Rounds.{WatchedRound, between}
use Rattle.turn_histories.specs.Entries.{IsPlaceOf, IsEntryOf}
use Rattle.turn_histories.specs.Rounds.{IsIn, AreRoundsOf, all_entries}
use Rattle.turn_histories.proofs.Rounds.{own, its, all_listed, zip_append}
use Rattle.turn_histories.proofs.Found.{EachAt, ZipAt}

-- ---- lists

enumerate_append : {X : Type 0} (n : ℕ) (xs ys : List X) → enumerate_from n (xs ++ ys) ≡ enumerate_from n xs ++ enumerate_from (n + length xs) ys
enumerate_append n [] ys = (let e : n ≡ n + 0 = omega arith in ap (λ (i : ℕ). enumerate_from i ys) e)
enumerate_append n (x ∷ xs) ys = (let e : n + 1 + length xs ≡ n + suc (length xs) = omega arith in ap₂ (λ a as_. a ∷ as_) refl (enumerate_append (n + 1) xs ys ∙ ap (λ (i : ℕ). enumerate_from (n + 1) xs ++ enumerate_from i ys) e))

pub each_at_append : (P : ℕ → Entry → Type 0) (n : ℕ) (xs ys : List Entry) → EachAt P n xs → EachAt P (n + length xs) ys → EachAt P n (xs ++ ys)
each_at_append P n [] ys p q = (let e : n + 0 ≡ n = omega arith in subst (λ (i : ℕ). EachAt P i ys) e q)
each_at_append P n (x ∷ xs) ys p q = (let e : n + suc (length xs) ≡ suc n + length xs = omega arith in (p.0, each_at_append P (suc n) xs ys p.1 (subst (λ (i : ℕ). EachAt P i ys) e q)))

pub zip_at_parts : (R : StampedDeed → Entry → Type 0) (P : ℕ → StampedDeed → Entry → Type 0) (n : ℕ) (ds : List StampedDeed) (es : List Entry) (later : List StampedDeed) (others : List Entry) → AllZip R ds es → ZipAt P n (ds ++ later) (es ++ others) → ZipAt P n ds es × ZipAt P (n + length es) later others
zip_at_parts R P n [] [] later others z a = (let e : n ≡ n + 0 = omega arith in (tt, subst (λ (i : ℕ). ZipAt P i later others) e a))
zip_at_parts R P n [] (e ∷ es) later others z a = absurd z
zip_at_parts R P n (d ∷ ds) [] later others z a = absurd z
zip_at_parts R P n (d ∷ ds) (e ∷ es) later others z a =
    let r = zip_at_parts R P (suc n) ds es later others z.1 a.1 in
    let q : suc n + length es ≡ n + suc (length es) = omega arith in
    ((a.0, r.0), subst (λ (i : ℕ). ZipAt P i later others) q r.1)

pub zip_at_append : (R : StampedDeed → Entry → Type 0) (P : ℕ → StampedDeed → Entry → Type 0) (n : ℕ) (ds : List StampedDeed) (es : List Entry) (later : List StampedDeed) (others : List Entry) → AllZip R ds es → ZipAt P n ds es → ZipAt P (n + length es) later others → ZipAt P n (ds ++ later) (es ++ others)
zip_at_append R P n [] [] later others z a b = (let e : n + 0 ≡ n = omega arith in subst (λ (i : ℕ). ZipAt P i later others) e b)
zip_at_append R P n [] (e ∷ es) later others z a b = absurd z
zip_at_append R P n (d ∷ ds) [] later others z a b = absurd z
zip_at_append R P n (d ∷ ds) (e ∷ es) later others z a b = (let q : n + suc (length es) ≡ suc n + length es = omega arith in (a.0, zip_at_append R P (suc n) ds es later others z.1 a.1 (subst (λ (i : ℕ). ZipAt P i later others) q b)))

pub greatest_append : (ds later : List StampedDeed) → greatest (λ (l : Stamped Local). l.last) (ds ++ later) ≡ max (greatest (λ (l : Stamped Local). l.last) ds) (greatest (λ (l : Stamped Local). l.last) later)
greatest_append [] later = omega arith
greatest_append (d ∷ ds) later = (let q = greatest_append ds later in omega (arith, q))

-- ---- places

same_place : (k1 t1 : ℕ) (o1 : Option ℕ) (k2 t2 : ℕ) (o2 : Option ℕ) → IsPlaceOf k1 t1 o1 → IsPlaceOf k2 t2 o2 → ((t1 == t2) || is_same_object o1 o2) ≡ ((t1 == t2) || (k1 == k2))
same_place k1 t1 (Some a) k2 t2 (Some b) p q = ap₂ (λ (x y : ℕ). (t1 == t2) || (x == y)) (sym p.0) (sym q.0)
same_place k1 t1 (Some a) k2 t2 None p q = ap (λ (b : Bool). (t1 == t2) || b) (sym (ne_eqb k1 k2 (λ e. omega (arith, p.0, p.1, q))))
same_place k1 t1 None k2 t2 (Some b) p q = ap (λ (b : Bool). (t1 == t2) || b) (sym (ne_eqb k1 k2 (λ e. omega (arith, p, q.0, q.1))))
same_place k1 t1 None k2 t2 None p q = elim (cases_eq t1 t2) [
  | inl e ↦ ap (λ (b : Bool). b || false) (eq-eqb t1 t2 e) ∙ sym (ap (λ (b : Bool). b || (k1 == k2)) (eq-eqb t1 t2 e))
  | inr ne ↦ ap (λ (b : Bool). (t1 == t2) || b) (sym (ne_eqb k1 k2 (λ e. ne (omega (arith, p, q)))))
]

abbrev stamp_in : ℕ × Entry → ℕ
stamp_in f = f.1.stamp

module _ (file : List ℕ) (harts g : ℕ) where
  abbrev bare : Bare World
  bare = bare_of file harts

  abbrev last_of : Stamped Local → ℕ
  last_of l = l.last

  -- the turn's place is that of its entry's object
  abbrev pub Placed : List Entry → ℕ → StampedDeed → Entry → Type 0
  Placed all n d f = IsPlaceOf d.call.place f.tid (object_of bare (state_before bare all n) f)

  module _ (all : List Entry) (i : ℕ) (e : Entry) where
    abbrev seen : ℕ × Entry → Bool
    seen = is_seen_by bare all i e

    earlier_seen : (n acc : ℕ) (ds : List StampedDeed) (es : List Entry) → AllZip (IsEntryOf file harts g) ds es → Each (λ (f : Entry). f.round < e.round) es → fold max acc (map stamp_in (filter seen (enumerate_from n es))) ≡ max acc (greatest last_of ds)
    earlier_seen n acc [] [] z r = omega arith
    earlier_seen n acc [] (f ∷ es) z r = absurd z
    earlier_seen n acc (d ∷ ds) [] z r = absurd z
    earlier_seen n acc (d ∷ ds) (f ∷ es) z r =
        let yes : seen (n, f) ≡ true = ap (λ (b : Bool). b || (f.tid == e.tid) || ((f.round == e.round) && is_same_object (object_of bare (state_before bare all n) f) (object_of bare (state_before bare all i) e))) (lt-ltb f.round e.round r.0) in
        let rest = earlier_seen (n + 1) (max acc f.stamp) ds es z.1 r.1 in
        let s = z.0.stamp in
        ap (λ (xs : List (ℕ × Entry)). fold max acc (map stamp_in xs)) (filter_here seen (n, f) (enumerate_from (n + 1) es) yes) ∙ (rest ∙ omega (arith, s))

    seen_is : (n : ℕ) (d : StampedDeed) (f : Entry) (k : ℕ) → IsEntryOf file harts g d f → f.round ≡ e.round → Placed all n d f → IsPlaceOf k e.tid (object_of bare (state_before bare all i) e) → seen (n, f) ≡ ((d.call.thread == e.tid) || (d.call.place == k))
    seen_is n d f k of same at here =
        ap₂ (λ (x y : Bool). x || (f.tid == e.tid) || (y && is_same_object (object_of bare (state_before bare all n) f) (object_of bare (state_before bare all i) e))) not_less (eq-eqb f.round e.round same)
        ∙ (same_place d.call.place f.tid (object_of bare (state_before bare all n) f) k e.tid (object_of bare (state_before bare all i) e) at here
        ∙ ap (λ (t : ℕ). (t == e.tid) || (d.call.place == k)) (sym of.thread))
      where
        not_less : nat_lt f.round e.round ≡ false
        not_less = Rattle.std.proofs.lemmas.Bool.le-ltb f.round e.round (omega (arith, same))

    part_seen : (k : ℕ) → IsPlaceOf k e.tid (object_of bare (state_before bare all i) e) → (n acc : ℕ) (ds : List StampedDeed) (es : List Entry) → AllZip (IsEntryOf file harts g) ds es → Each (λ (f : Entry). f.round ≡ e.round) es → ZipAt (Placed all) n ds es
        → fold max acc (map stamp_in (filter seen (enumerate_from n es))) ≡ max acc (max (greatest last_of (of_thread e.tid ds)) (greatest last_of (of_place k ds)))
    part_seen k here n acc [] [] z r p = omega arith
    part_seen k here n acc [] (f ∷ es) z r p = absurd z
    part_seen k here n acc (d ∷ ds) [] z r p = absurd z
    part_seen k here n acc (d ∷ ds) (f ∷ es) z r p =
        let q : suc n ≡ n + 1 = omega arith in
        by (λ high. part_seen k here (n + 1) high ds es z.1 r.1 (subst (λ (j : ℕ). ZipAt (Placed all) j ds es) q p.1)) (cases_Bool (d.call.thread == e.tid)) (cases_Bool (d.call.place == k))
      where
        is : seen (n, f) ≡ ((d.call.thread == e.tid) || (d.call.place == k))
        is = seen_is n d f k z.0 r.0 p.0 here

        more : seen (n, f) ≡ true → fold max acc (map stamp_in (filter seen (enumerate_from n (f ∷ es)))) ≡ fold max (max acc f.stamp) (map stamp_in (filter seen (enumerate_from (n + 1) es)))
        more it = ap (λ (xs : List (ℕ × Entry)). fold max acc (map stamp_in xs)) (filter_here seen (n, f) (enumerate_from (n + 1) es) it)

        none : seen (n, f) ≡ false → fold max acc (map stamp_in (filter seen (enumerate_from n (f ∷ es)))) ≡ fold max acc (map stamp_in (filter seen (enumerate_from (n + 1) es)))
        none it = ap (λ (xs : List (ℕ × Entry)). fold max acc (map stamp_in xs)) (filter_not seen (n, f) (enumerate_from (n + 1) es) it)

        stamp_is : d.local_left.last ≡ f.stamp
        stamp_is = z.0.stamp

        thread_yes : (d.call.thread == e.tid) ≡ true → greatest last_of (of_thread e.tid (d ∷ ds)) ≡ max d.local_left.last (greatest last_of (of_thread e.tid ds))
        thread_yes q = ap (greatest last_of) (filter_here (λ (x : StampedDeed). x.call.thread == e.tid) d ds q)

        thread_no : (d.call.thread == e.tid) ≡ false → greatest last_of (of_thread e.tid (d ∷ ds)) ≡ greatest last_of (of_thread e.tid ds)
        thread_no q = ap (greatest last_of) (filter_not (λ (x : StampedDeed). x.call.thread == e.tid) d ds q)

        place_yes : (d.call.place == k) ≡ true → greatest last_of (of_place k (d ∷ ds)) ≡ max d.local_left.last (greatest last_of (of_place k ds))
        place_yes q = ap (greatest last_of) (filter_here (λ (x : StampedDeed). x.call.place == k) d ds q)

        place_no : (d.call.place == k) ≡ false → greatest last_of (of_place k (d ∷ ds)) ≡ greatest last_of (of_place k ds)
        place_no q = ap (greatest last_of) (filter_not (λ (x : StampedDeed). x.call.place == k) d ds q)

        by : ((high : ℕ) → fold max high (map stamp_in (filter seen (enumerate_from (n + 1) es))) ≡ max high (max (greatest last_of (of_thread e.tid ds)) (greatest last_of (of_place k ds)))) → ((d.call.thread == e.tid) ≡ true) ⊎ ((d.call.thread == e.tid) ≡ false) → ((d.call.place == k) ≡ true) ⊎ ((d.call.place == k) ≡ false)
            → fold max acc (map stamp_in (filter seen (enumerate_from n (f ∷ es)))) ≡ max acc (max (greatest last_of (of_thread e.tid (d ∷ ds))) (greatest last_of (of_place k (d ∷ ds))))
        by next (inl a) (inl b) = more (is ∙ ap₂ (λ (x y : Bool). x || y) a b) ∙ (next (max acc f.stamp) ∙ omega (arith, stamp_is, thread_yes a, place_yes b))
        by next (inl a) (inr b) = more (is ∙ ap₂ (λ (x y : Bool). x || y) a b) ∙ (next (max acc f.stamp) ∙ omega (arith, stamp_is, thread_yes a, place_no b))
        by next (inr a) (inl b) = more (is ∙ ap₂ (λ (x y : Bool). x || y) a b) ∙ (next (max acc f.stamp) ∙ omega (arith, stamp_is, thread_no a, place_yes b))
        by next (inr a) (inr b) = none (is ∙ ap₂ (λ (x y : Bool). x || y) a b) ∙ (next acc ∙ omega (arith, thread_no a, place_no b))

  -- ---- all stamps

  abbrev pub IsStampedAt : List Entry → ℕ → Entry → Type 0
  IsStampedAt all i e = IsStamped AtOnce bare all i e

  -- one entry of a round, after those of earlier rounds and the earlier ones of its own
  one_stamped : (all done early rest : List Entry) (e : Entry) (befores earlies : List StampedDeed) (d : StampedDeed) (base : ℕ) → all ≡ (done ++ early) ++ rest → base ≡ greatest last_of befores
      → AllZip (IsEntryOf file harts g) befores done → Each (λ (f : Entry). f.round < e.round) done → AllZip (IsEntryOf file harts g) earlies early → Each (λ (f : Entry). f.round ≡ e.round) early
      → ZipAt (Placed all) (length done) earlies early → IsEntryOf file harts g d e → Placed all (length (done ++ early)) d e → IsStampedAfter last_of base earlies d → IsStampedAt all (length (done ++ early)) e
  one_stamped all done early rest e befores earlies d base whole base_is zd rd ze re pe of here after =
      let i = length (done ++ early) in
      let seen_by = is_seen_by bare all i e in
      let front : take i all ≡ done ++ early = ap (take i) whole ∙ (take-append-le i (done ++ early) rest (omega arith) ∙ take-length (done ++ early)) in
      let parted : filter seen_by (enumerate_from 0 (take i all)) ≡ filter seen_by (enumerate_from 0 done) ++ filter seen_by (enumerate_from (0 + length done) early) =
      ap (λ (es : List Entry). filter seen_by (enumerate_from 0 es)) front
      ∙ (ap (filter seen_by) (enumerate_append 0 done early) ∙ filter_append seen_by (enumerate_from 0 done) (enumerate_from (0 + length done) early)) in
      let zero_plus : length done ≡ 0 + length done = omega arith in
      let first = earlier_seen all i e 0 0 befores done zd rd in
      let second = part_seen all i e d.call.place here (0 + length done) (fold max 0 (map stamp_in (filter seen_by (enumerate_from 0 done)))) earlies early ze re (subst (λ (n : ℕ). ZipAt (Placed all) n earlies early) zero_plus pe) in
      let sum : stamp_seen bare all i e ≡ fold max (fold max 0 (map stamp_in (filter seen_by (enumerate_from 0 done)))) (map stamp_in (filter seen_by (enumerate_from (0 + length done) early))) =
      ap (λ (xs : List (ℕ × Entry)). fold max 0 (map stamp_in xs)) parted
      ∙ (ap (fold max 0) (map-append stamp_in (filter seen_by (enumerate_from 0 done)) (filter seen_by (enumerate_from (0 + length done) early)))
      ∙ fold-append max 0 (map stamp_in (filter seen_by (enumerate_from 0 done))) (map stamp_in (filter seen_by (enumerate_from (0 + length done) early)))) in
      let mine = ap (λ (t : ℕ). greatest last_of (of_thread t earlies)) of.thread in
      let s = of.stamp in
      omega (arith, sum, second, first, base_is, after, mine, s)

  pub part_stamped : (all done early es rest : List Entry) (befores earlies ds : List StampedDeed) (listed : List StampedDeed) (base n : ℕ) → all ≡ (done ++ early) ++ (es ++ rest) → base ≡ greatest last_of befores → listed ≡ earlies ++ ds
      → AllZip (IsEntryOf file harts g) befores done → Each (λ (f : Entry). f.round < n) done → AllZip (IsEntryOf file harts g) earlies early → Each (λ (f : Entry). f.round ≡ n) early
      → ZipAt (Placed all) (length done) earlies early → AllZip (IsEntryOf file harts g) ds es → Each (λ (f : Entry). f.round ≡ n) es → ZipAt (Placed all) (length (done ++ early)) ds es
      → ((early : List StampedDeed) (d : StampedDeed) (late : List StampedDeed) → listed ≡ early ++ d ∷ late → IsStampedAfter last_of base early d)
      → EachAt (IsStampedAt all) (length (done ++ early)) es
  part_stamped all done early [] rest befores earlies [] listed base n whole base_is parts zd rd ze re pe z r p after = tt
  part_stamped all done early [] rest befores earlies (d ∷ ds) listed base n whole base_is parts zd rd ze re pe z r p after = tt
  part_stamped all done early (e ∷ es) rest befores earlies [] listed base n whole base_is parts zd rd ze re pe z r p after = absurd z
  part_stamped all done early (e ∷ es) rest befores earlies (d ∷ ds) listed base n whole base_is parts zd rd ze re pe z r p after =
      let lower : (f : Entry) → f.round < n → f.round < e.round = λ f l. subst (λ (m : ℕ). f.round < m) (sym r.0) l in
      let equal : (f : Entry) → f.round ≡ n → f.round ≡ e.round = λ f l. l ∙ sym r.0 in
      let here = one_stamped all done early (e ∷ (es ++ rest)) e befores earlies d base whole base_is zd (each_map (λ (f : Entry). f.round < n) (λ (f : Entry). f.round < e.round) lower done rd) ze
      (each_map (λ (f : Entry). f.round ≡ n) (λ (f : Entry). f.round ≡ e.round) equal early re) pe z.0 p.0 (after earlies d ds parts) in
      let further : (done ++ early) ++ (e ∷ (es ++ rest)) ≡ (done ++ (early ++ e ∷ [])) ++ (es ++ rest) =
      sym (append_assoc (done ++ early) (e ∷ []) (es ++ rest)) ∙ ap (λ (x : List Entry). x ++ (es ++ rest)) (append_assoc done early (e ∷ [])) in
      let count : length (done ++ (early ++ e ∷ [])) ≡ suc (length (done ++ early)) = omega (arith, length-append done (early ++ e ∷ []), length-append early (e ∷ []), length-append done early) in
      let at : length (done ++ early) ≡ length done + length early = length-append done early in (
        here,
        subst (λ (i : ℕ). EachAt (IsStampedAt all) i es) count
            (part_stamped all done (early ++ e ∷ []) es rest befores (earlies ++ d ∷ []) ds listed base n (whole ∙ further) base_is (parts ∙ sym (append_assoc earlies (d ∷ []) ds)) zd rd
            (zip_append (IsEntryOf file harts g) earlies early (d ∷ []) (e ∷ []) ze (z.0, tt)) (each_append (λ (f : Entry). f.round ≡ n) early (e ∷ []) re (r.0, tt))
            (zip_at_append (IsEntryOf file harts g) (Placed all) (length done) earlies early (d ∷ []) (e ∷ []) ze pe (subst (λ (i : ℕ). Placed all i d e) at p.0, tt))
            z.1 r.1 (subst (λ (i : ℕ). ZipAt (Placed all) i ds es) (sym count) p.1) after),
      )
    where
      each_map : (P Q : Entry → Type 0) → ((f : Entry) → P f → Q f) → (fs : List Entry) → Each P fs → Each Q fs
      each_map P Q h [] q = tt
      each_map P Q h (f ∷ fs) q = (h f q.0, each_map P Q h fs q.1)
