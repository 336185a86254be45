-- The pairs that are found among the groups of a history's accesses are its racing pairs.
use Rattle.std.proofs.Common.{◌≡◌, ℕ, ◌<◌, ◌≤◌, ◌⊎◌, ◌↔◌, min, max, List, length, Option, refl, sym, ap, ◌∙◌, subst, inl, inr, arith, Contains}
use Rattle.std.specs.Prelude.{slice_index_or}
use Rattle.std.proofs.lemmas.Bool.{cases_eq, cases_lt}
use Rattle.std.proofs.lemmas.List.{get_or_default}
use Rattle.run_record.specs.declared.entry.Entry.{Entry}
use Rattle.run_laws.specs.Moments.{Item, moments, items}
use Rattle.run_laws.specs.HappensBefore.{HappensBefore}
use Rattle.run_laws.specs.Accesses.{Access, Conflict, end_of}
use Rattle.offline_audit.specs.declared.order.EventName.{EventName}
use Rattle.report_text.specs.declared.pair.Pair.{Pair}
use Rattle.offline_audit.specs.declared.access.Kind.{Kind}
use Rattle.offline_audit.specs.declared.access.Made.{Made}
use Rattle.offline_audit.specs.declared.group.Group.{Group}
use Rattle.offline_audit.specs.declared.order.Order.{Order}
use Rattle.offline_audit.specs.Orders.{IsOrderOf, TellsOrder}
use Rattle.offline_audit.specs.Pairs.{IsRacingPair, pair_of}
use Rattle.offline_audit.specs.Kinds.{IsMade, KindsConflict}
use Rattle.offline_audit.specs.Chains.{position_of, IsEvent, ComesBefore, AreOrdered}
use Rattle.offline_audit.specs.Groups.{IsIn, AreChains, IsRaceOf, IsSettled, AreFound}
use Rattle.offline_audit.proofs.NameLaw.{HasKind, stands_at, one_of}

abbrev two : ℕ → ℕ → Pair
two l h = record { low = l; high = h }

abbrev made_of : Kind → EventName → Made
made_of kind name = record { kind = kind; name = name }

module _ (granule_of : ℕ → Option ℕ) where
  to_conflict : (a b : Access) (t u : ℕ) (ka kb : Kind) → HasKind a t ka → HasKind b u kb → KindsConflict granule_of ka kb → Conflict granule_of t a u b
  to_conflict a b t u ka kb x y k =
      let xa = x.addr in
      let xl = x.last in
      let ya = y.addr in
      let yl = y.last in
      let m = k.mine in
      let o = k.other in
      record {
        threads_differ = λ q. k.threads_differ (x.tid_is ∙ (q ∙ sym y.tid_is));
        byte = k.byte;
        mine = (omega arith, omega arith, k.granule);
        other = (omega arith, omega arith, k.granule);
        not_both_read = λ r s. k.not_both_read (x.read ∙ r) (y.read ∙ s);
        not_both_atomic = λ r s. k.not_both_atomic (x.atomic ∙ r) (y.atomic ∙ s);
      }

  of_conflict : (a b : Access) (t u : ℕ) (ka kb : Kind) → HasKind a t ka → HasKind b u kb → Conflict granule_of t a u b → KindsConflict granule_of ka kb
  of_conflict a b t u ka kb x y k =
      let xa = x.addr in
      let xl = x.last in
      let ya = y.addr in
      let yl = y.last in
      let m = k.mine in
      let o = k.other in
      record {
        threads_differ = λ q. k.threads_differ (sym x.tid_is ∙ (q ∙ y.tid_is));
        not_both_read = λ r s. k.not_both_read (sym x.read ∙ r) (sym y.read ∙ s);
        not_both_atomic = λ r s. k.not_both_atomic (sym x.atomic ∙ r) (sym y.atomic ∙ s);
        byte = k.byte;
        mine = (omega arith, omega arith);
        other = (omega arith, omega arith);
        granule = m.2;
      }

  flip : (a b : Kind) → KindsConflict granule_of a b → KindsConflict granule_of b a
  flip a b k = record {
    threads_differ = λ q. k.threads_differ (sym q);
    not_both_read = λ r s. k.not_both_read s r;
    not_both_atomic = λ r s. k.not_both_atomic s r;
    byte = k.byte;
    mine = k.other;
    other = k.mine;
    granule = k.granule;
  }

  module _ (entries : List Entry) where
    racing : (ka kb : Kind) (x y : EventName) → IsMade entries (made_of ka x) → IsMade entries (made_of kb y) → ka.place ≤ kb.place → KindsConflict granule_of ka kb →
        (ComesBefore (items (moments entries)) entries x y → ⊥) → (ComesBefore (items (moments entries)) entries y x → ⊥) → IsRacingPair granule_of entries ka.place kb.place
    racing ka kb x y mx my l k before after =
        let sx = stands_at entries (made_of ka x) mx in
        let sy = stands_at entries (made_of kb y) my in
        record {
          ordered = l;
          low_at = position_of entries x;
          low_tid = sx.tid;
          low = sx.access;
          low_made = sx.made;
          low_place = sym sx.kind.place;
          high_at = position_of entries y;
          high_tid = sy.tid;
          high = sy.access;
          high_made = sy.made;
          high_place = sym sy.kind.place;
          conflict = to_conflict sx.access sy.access sx.tid sy.tid ka kb sx.kind sy.kind k;
          not_before = before;
          not_after = after;
        }

    at_places : (p q : ℕ) (x : Pair) → x ≡ pair_of p q → p ≤ q → IsRacingPair granule_of entries p q → IsRacingPair granule_of entries x.low x.high
    at_places p q x is l r =
        let a : p ≡ x.low = let e = ap (λ (z : Pair). z.low) is in omega arith in
        let b : q ≡ x.high = let e = ap (λ (z : Pair). z.high) is in omega arith in
        subst (λ (z : ℕ). IsRacingPair granule_of entries x.low z) b (subst (λ (z : ℕ). IsRacingPair granule_of entries z q) a r)

    turned : (p q : ℕ) → pair_of p q ≡ pair_of q p
    turned p q =
        let a : min p q ≡ min q p = omega arith in
        let b : max p q ≡ max q p = omega arith in
        ap (λ (z : ℕ). two z (max p q)) a ∙ ap (λ (z : ℕ). two (min q p) z) b

    -- a pair that is found is one
    pub of_race : (groups : List Group) → ((m : Made) → IsIn groups m → IsMade entries m) → (x : Pair) (a b : Group) → Contains groups a → Contains groups b →
        IsRaceOf granule_of entries a b x → IsRacingPair granule_of entries x.low x.high
    of_race groups all x a b ia ib r =
        let mx = all (made_of a.kind r.apart.x) (a, ia, refl, r.apart.x_in) in
        let my = all (made_of b.kind r.apart.y) (b, ib, refl, r.apart.y_in) in
        elim (cases_lt b.kind.place a.kind.place) [
          | inl l ↦
              let f = flip a.kind b.kind r.conflict in
              at_places b.kind.place a.kind.place x (r.is ∙ turned a.kind.place b.kind.place) (omega arith)
              (racing b.kind a.kind r.apart.y r.apart.x my mx (omega arith) f r.apart.not_after r.apart.not_before)
          | inr l ↦ at_places a.kind.place b.kind.place x r.is l (racing a.kind b.kind r.apart.x r.apart.y mx my l r.conflict r.apart.not_before r.apart.not_after)
        ]

    touched : (a : Access) (byte : ℕ) → a.addr ≤ byte → byte < end_of a → 0 < a.size
    touched a byte l m = omega arith

    -- of two groups in either order
    settled : (groups : List Group) (found : List Pair) → AreFound granule_of entries groups (length groups) found → (a b : Group) → Contains groups a → Contains groups b →
        KindsConflict granule_of a.kind b.kind → Contains found (pair_of a.kind.place b.kind.place) ⊎ AreOrdered (items (moments entries)) entries a.names b.names
    settled groups found are a b (i, li, ea) (j, lj, eb) k = elim (cases_lt i j) [
      | inl l ↦
          subst (λ (z : Group). IsSettled granule_of entries z b found) ea
          (subst (λ (z : Group). IsSettled granule_of entries (slice_index_or groups i a) z found) eb (are.complete i j a b li l lj)) k
      | inr l ↦ elim (cases_eq i j) [
        | inl q ↦
            let same : slice_index_or groups i a ≡ slice_index_or groups j b = ap (λ (z : ℕ). slice_index_or groups z a) q ∙ get_or_default groups j a b lj in
            absurd (k.threads_differ (ap (λ (z : Group). z.kind.tid) (sym ea ∙ (same ∙ eb))))
        | inr n ↦
            let back : IsSettled granule_of entries b a found =
            subst (λ (z : Group). IsSettled granule_of entries z a found) eb
            (subst (λ (z : Group). IsSettled granule_of entries (slice_index_or groups j b) z found) ea (are.complete j i b a lj (omega arith) li)) in
            elim (back (flip a.kind b.kind k)) [
              | inl c ↦ inl (subst (λ (z : Pair). Contains found z) (turned b.kind.place a.kind.place) c)
              | inr o ↦ inr (λ x y xi yi. elim (o y x yi xi) [ inl r ↦ inr r | inr r ↦ inl r ])
            ]
      ]
    ]

    -- each racing pair is found
    pub is_found : (groups : List Group) (found : List Pair) → ((m : Made) → IsMade entries m → IsIn groups m) → AreFound granule_of entries groups (length groups) found →
        (p q : ℕ) → IsRacingPair granule_of entries p q → Contains found (record { low = p; high = q })
    is_found groups found all are p q r =
        let byte = r.conflict.byte in
        let mine = r.conflict.mine in
        let other = r.conflict.other in
        let x = one_of entries r.low_at r.low_tid r.low r.low_made (touched r.low byte mine.0 mine.1) in
        let y = one_of entries r.high_at r.high_tid r.high r.high_made (touched r.high byte other.0 other.1) in
        let (a, ia, ka, na) = all x.m x.made in
        let (b, ib, kb, nb) = all y.m y.made in
        let k = of_conflict r.low r.high r.low_tid r.high_tid x.m.kind y.m.kind x.kind y.kind r.conflict in
        let k' : KindsConflict granule_of a.kind b.kind =
        subst (λ (z : Kind). KindsConflict granule_of z b.kind) (sym ka) (subst (λ (z : Kind). KindsConflict granule_of x.m.kind z) (sym kb) k) in
        let pa : a.kind.place ≡ p = ap (λ (z : Kind). z.place) ka ∙ (x.kind.place ∙ r.low_place) in
        let pb : b.kind.place ≡ q = ap (λ (z : Kind). z.place) kb ∙ (y.kind.place ∙ r.high_place) in
        let same : pair_of a.kind.place b.kind.place ≡ record { low = p; high = q } = at_two a.kind.place b.kind.place p q pa pb r.ordered in
        elim (settled groups found are a b ia ib k') [
          | inl c ↦ subst (λ (z : Pair). Contains found z) same c
          | inr o ↦ absurd (elim (o x.m.name y.m.name na nb) [
            | inl h ↦ r.not_before (subst (λ (z : ℕ). HappensBefore (items (moments entries)) z r.high_at) x.place (subst (λ (z : ℕ). HappensBefore (items (moments entries)) (position_of entries x.m.name) z) y.place h))
            | inr h ↦ r.not_after (subst (λ (z : ℕ). HappensBefore (items (moments entries)) z r.low_at) y.place (subst (λ (z : ℕ). HappensBefore (items (moments entries)) (position_of entries y.m.name) z) x.place h))
          ])
        ]
      where
        at_two : (a b p q : ℕ) → a ≡ p → b ≡ q → p ≤ q → pair_of a b ≡ two p q
        at_two a b p q e f l =
            let m : min a b ≡ p = omega arith in
            let n : max a b ≡ q = omega arith in
            ap (λ (z : ℕ). two z (max a b)) m ∙ ap (λ (z : ℕ). two p z) n

-- what is gathered, grouped and compared, put together
pub exact : (granule_of : ℕ → Option ℕ) (entries : List Entry) (order : Order) (made slice : List Made) (groups shown : List Group) (found : List Pair) →
    IsOrderOf entries order → slice ≡ made → shown ≡ groups → ((m : Made) → Contains made m ↔ IsMade entries m) → ((m : Made) → IsIn groups m ↔ Contains slice m) →
    ((h : ℕ → Item) (es : List Entry) → TellsOrder h es order → ((m : Made) → Contains slice m → IsEvent h es m.name) → AreChains h es groups) →
    ((es : List Entry) → IsOrderOf es order → AreChains (items (moments es)) es shown → AreFound granule_of es shown (length shown) found) →
    (p q : ℕ) → Contains found (record { low = p; high = q }) ↔ IsRacingPair granule_of entries p q
exact granule_of entries order made slice groups shown found is same same' gathered grouped chains finds p q =
    let in_made : (m : Made) → IsIn groups m → IsMade entries m = λ m i. (gathered m).0 (subst (λ (ms : List Made). Contains ms m) same ((grouped m).0 i)) in
    let in_groups : (m : Made) → IsMade entries m → IsIn groups m = λ m i. (grouped m).1 (subst (λ (ms : List Made). Contains ms m) (sym same) ((gathered m).1 i)) in
    let known : (m : Made) → Contains slice m → IsEvent (items (moments entries)) entries m.name =
    λ m i. (stands_at entries m ((gathered m).0 (subst (λ (ms : List Made). Contains ms m) same i))).event in
    let finds' : AreChains (items (moments entries)) entries groups → AreFound granule_of entries groups (length groups) found =
    subst (λ (gs : List Group). AreChains (items (moments entries)) entries gs → AreFound granule_of entries gs (length gs) found) same' (finds entries is) in
    let are : AreFound granule_of entries groups (length groups) found = finds' (chains (items (moments entries)) entries is known) in (
      λ i. let (a, b, ia, ib, r) = are.sound (record { low = p; high = q }) i in of_race granule_of entries groups in_made (record { low = p; high = q }) a b ia ib r,
      λ r. is_found granule_of entries groups found in_groups are p q r,
    )
