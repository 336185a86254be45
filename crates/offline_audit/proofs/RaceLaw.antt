-- Which kinds conflict, and which pairs are found among groups.
use Rattle.std.proofs.Common.{◌≡◌, ◌≢◌, ℕ, zero, suc, ◌+◌, ◌-◌, ◌*◌, ◌/◌, ◌<◌, ◌≤◌, ◌⊎◌, ◌↔◌, min, max, Bool, true, false, List, [], ◌∷◌, length, get_or, drop, Option, None, refl, sym, ap, ◌∙◌, subst, inl, inr, arith, Contains}
use Rattle.std.specs.Prelude.{slice_index_or, is_some, take, ◌&&◌}
use Rattle.std.specs.List.Sorted.{IsNonDecreasing}
use Rattle.std.proofs.lemmas.Bool.{cases_lt}
use Rattle.std.proofs.lemmas.List.{get_or_default, length-map, length-drop, get_or-drop, take_all}
use Rattle.std.proofs.lemmas.List.Sorted.{IsNonDecreasingBy-drop}
use Rattle.std.proofs.Math.ListN.{get_or-map}
use Rattle.run_record.specs.declared.entry.Entry.{Entry}
use Rattle.report_text.specs.declared.pair.Pair.{Pair}
use Rattle.run_laws.specs.Moments.{moments, items}
use Rattle.offline_audit.specs.declared.access.Kind.{Kind}
use Rattle.offline_audit.specs.declared.group.Group.{Group}
use Rattle.offline_audit.specs.Pairs.{pair_of}
use Rattle.offline_audit.specs.Kinds.{HasGranule, KindsConflict}
use Rattle.offline_audit.specs.Chains.{AreApart}
use Rattle.offline_audit.specs.Groups.{addresses, IsSettled, IsCompared, AreCompared, AreFound}

pub not_both : (a b : Bool) → (a && b) ≡ false → a ≡ true → b ≡ true → ⊥
not_both true true e f g = cc
not_both true false e f g = cc
not_both false b e f g = cc

-- the groups from one on
pub later_are : (groups : List Group) (n : ℕ) → take (length groups - n) (drop n groups) ≡ drop n groups
later_are groups n = let m = length-drop n groups in take_all (length groups - n) (drop n groups) (omega arith)

addresses-drop : (n : ℕ) (groups : List Group) → addresses (drop n groups) ≡ drop n (addresses groups)
addresses-drop zero groups = refl
addresses-drop (suc n) [] = refl
addresses-drop (suc n) (g ∷ groups) = addresses-drop n groups

pub later_rise : (groups : List Group) (n : ℕ) → IsNonDecreasing (addresses groups) → IsNonDecreasing (addresses (take (length groups - n) (drop n groups)))
later_rise groups n rising =
    subst (λ (gs : List Group). IsNonDecreasing (addresses gs)) (sym (later_are groups n))
    (subst IsNonDecreasing (sym (addresses-drop n groups)) (IsNonDecreasingBy-drop (λ (x : ℕ). x) n (addresses groups) rising))

module _ (granule_of : ℕ → Option ℕ) where
  pub granule_found : (low high block : ℕ) → low ≤ high → low / 8 ≤ block → block < high / 8 + 1 → is_some (granule_of (8 * block)) ≡ true → HasGranule granule_of low high
  granule_found low high block l a b is =
      let byte = max low (8 * block) in
      let q : byte / 8 ≡ block = omega arith in
      record { byte = byte; above = omega arith; below = omega arith; granule = λ n. none (sym (ap (λ (k : ℕ). granule_of (8 * k)) q) ∙ n) }
    where
      none : granule_of (8 * block) ≡ None → ⊥
      none n = let f = ap (λ (o : Option ℕ). is_some o) n in cc

  pub granule_none : (low high : ℕ) → ((k : ℕ) → low / 8 ≤ k → k < high / 8 + 1 → granule_of (8 * k) ≡ None) → HasGranule granule_of low high → ⊥
  granule_none low high none h =
      let a = h.above in
      let b = h.below in
      h.granule (none (h.byte / 8) (omega arith) (omega arith))

  pub no_byte : (low high : ℕ) → high < low → HasGranule granule_of low high → ⊥
  no_byte low high l h = let a = h.above in let b = h.below in absurd (omega arith)

  pub conflict_from : (a b : Kind) → a.tid ≢ b.tid → (a.read ≡ true → b.read ≡ true → ⊥) → (a.atomic ≡ true → b.atomic ≡ true → ⊥) →
      HasGranule granule_of (max a.addr b.addr) (min a.last b.last) ↔ KindsConflict granule_of a b
  conflict_from a b t r s = (
    λ h.
        let x = h.above in
        let y = h.below in
        record { threads_differ = t; not_both_read = r; not_both_atomic = s; byte = h.byte; mine = (omega arith, omega arith); other = (omega arith, omega arith); granule = h.granule },
    λ k.
        let x = k.mine in
        let y = k.other in
        record { byte = k.byte; above = omega arith; below = omega arith; granule = k.granule },
  )

  -- a group whose accesses begin after another's end doesn't conflict with it
  pub past : (entries : List Entry) (a b : Group) (found : List Pair) → a.kind.last < b.kind.addr → IsSettled granule_of entries a b found
  past entries a b found l = λ k. absurd (let x = k.mine in let y = k.other in omega arith)

  kept_settled : (entries : List Entry) (a b : Group) (old new : List Pair) → ((x : Pair) → Contains old x → Contains new x) →
      IsSettled granule_of entries a b old → IsSettled granule_of entries a b new
  kept_settled entries a b old new kept s = λ k. elim (s k) [ inl c ↦ inl (kept (pair_of a.kind.place b.kind.place) c) | inr o ↦ inr o ]

  -- nothing is found by a comparison
  pub nothing_more : (entries : List Entry) (a b : Group) (found : List Pair) → IsSettled granule_of entries a b found → IsCompared granule_of entries a b found found
  nothing_more entries a b found s = record { kept = λ x c. c; sound = λ x c. inl c; complete = s }

  -- a pair is found
  pub one_more : (entries : List Entry) (a b : Group) (old new : List Pair) →
      ((x : Pair) → Contains new x ↔ (Contains old x ⊎ (x ≡ pair_of a.kind.place b.kind.place))) →
      KindsConflict granule_of a.kind b.kind → AreApart (items (moments entries)) entries a.names b.names → IsCompared granule_of entries a b old new
  one_more entries a b old new is k apart = record {
    kept = λ x c. (is x).1 (inl c);
    sound = λ x c. elim ((is x).0 c) [ inl o ↦ inl o | inr e ↦ inr (record { conflict = k; apart = apart; is = e }) ];
    complete = λ k. inl ((is (pair_of a.kind.place b.kind.place)).1 (inr refl));
  }

  pub none_compared : (entries : List Entry) (a : Group) (others : List Group) (found : List Pair) → AreCompared granule_of entries a others 0 found found
  none_compared entries a others found = record { kept = λ x c. c; sound = λ x c. inl c; complete = λ k d l m. absurd (omega arith) }

  -- one more group is compared
  pub compared_more : (entries : List Entry) (a : Group) (others : List Group) (n : ℕ) (b : Group) (old mid new : List Pair) → n < length others →
      b ≡ get_or others n b → IsCompared granule_of entries a b mid new → AreCompared granule_of entries a others n old mid →
      AreCompared granule_of entries a others (n + 1) old new
  compared_more entries a others n b old mid new l is one so = record {
    kept = λ x c. one.kept x (so.kept x c);
    sound = λ x c. elim (one.sound x c) [
      | inl o ↦ so.sound x o
      | inr r ↦ inr (b, (n, l, sym is), r)
    ];
    complete = λ k d u w. elim (cases_lt k n) [
      | inl v ↦ kept_settled entries a (slice_index_or others k d) mid new one.kept (so.complete k d v w)
      | inr v ↦
          let q : k ≡ n = omega arith in
          let e : slice_index_or others k d ≡ b = ap (λ (i : ℕ). slice_index_or others i d) q ∙ (get_or_default others n d b l ∙ sym is) in
          rw e one.complete
    ];
  }

  address_at : (others : List Group) (k : ℕ) (d : Group) → get_or (addresses others) k d.kind.addr ≡ (get_or others k d).kind.addr
  address_at others k d = get_or-map (λ (g : Group). g.kind.addr) others k d

  -- the rest begin after the group's end
  pub rest_past : (entries : List Entry) (a : Group) (others : List Group) (n : ℕ) (b : Group) (old new : List Pair) → IsNonDecreasing (addresses others) → n < length others →
      b ≡ get_or others n b → a.kind.last < b.kind.addr → AreCompared granule_of entries a others n old new →
      AreCompared granule_of entries a others (length others) old new
  rest_past entries a others n b old new rising l is far so = record {
    kept = so.kept;
    sound = so.sound;
    complete = λ k d u w. elim (cases_lt k n) [
      | inl v ↦ so.complete k d v w
      | inr v ↦
          let m = length-map others (λ (g : Group). g.kind.addr) in
          let r = rising n k d.kind.addr (omega arith) (omega arith) in
          let x = address_at others n d in
          let y = address_at others k d in
          let e : get_or others n d ≡ b = get_or_default others n d b l ∙ sym is in
          let z = ap (λ (g : Group). g.kind.addr) e in
          past entries a (slice_index_or others k d) new (omega arith)
    ];
  }

  pub none_found : (entries : List Entry) (groups : List Group) (found : List Pair) → found ≡ [] → AreFound granule_of entries groups 0 found
  none_found entries groups found empty = rw empty (record { sound = λ x c. absurd (let l = c.1 in omega arith); complete = λ i j d e l m w. absurd (omega arith) })

  -- one more group is compared with all later ones
  pub found_more : (entries : List Entry) (groups : List Group) (n : ℕ) (a : Group) (old new : List Pair) → n < length groups → a ≡ get_or groups n a →
      AreCompared granule_of entries a (drop (n + 1) groups) (length (drop (n + 1) groups)) old new → AreFound granule_of entries groups n old →
      AreFound granule_of entries groups (n + 1) new
  found_more entries groups n a old new l is one so = record {
    sound = λ x c. elim (one.sound x c) [
      | inl o ↦ so.sound x o
      | inr (b, (k, w, e), r) ↦
          let m = length-drop (n + 1) groups in
          let at : get_or groups (n + 1 + k) b ≡ b = sym (get_or-drop (n + 1) groups k b) ∙ e in
          (a, b, (n, l, sym is), (n + 1 + k, omega arith, at), r)
    ];
    complete = λ i j d e u v w. elim (cases_lt i n) [
      | inl y ↦ kept_settled entries (slice_index_or groups i d) (slice_index_or groups j e) old new one.kept (so.complete i j d e y v w)
      | inr y ↦
          let q : i ≡ n = omega arith in
          let f : slice_index_or groups i d ≡ a = ap (λ (k : ℕ). slice_index_or groups k d) q ∙ (get_or_default groups n d a l ∙ sym is) in
          let m = length-drop (n + 1) groups in
          let p : n + 1 + (j - (n + 1)) ≡ j = omega arith in
          let g : slice_index_or (drop (n + 1) groups) (j - (n + 1)) e ≡ slice_index_or groups j e = get_or-drop (n + 1) groups (j - (n + 1)) e ∙ ap (λ (k : ℕ). slice_index_or groups k e) p in
          rw f (subst (λ (b : Group). IsSettled granule_of entries a b new) g (one.complete (j - (n + 1)) e (omega arith) (omega arith)))
    ];
  }
