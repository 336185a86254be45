-- The parts of an access: each is in a block of eight bytes, and no two are on one granule.
use Rattle.std.proofs.Common.{◌≡◌, ℕ, zero, suc, ◌*◌, ◌≤◌, ◌==◌, Bool, true, false, cond, Option, Some, None, List, [], ◌∷◌, ◌++◌, refl, ap, subst, ◌∙◌, arith, eq-eqb}
use Rattle.std.specs.Prelude.{map, filter_map, option_map, ⊤}
use Rattle.std.specs.List.{cons_option}
use Rattle.std.specs.List.{AllZip}
use Rattle.run_record.specs.declared.entry.Check.{Check}
use Rattle.run_laws.specs.Numbers.{up_from}
use Rattle.run_laws.specs.Accesses.{Access, mask_in, Part, part_in, parts_of}
use Rattle.race_core.specs.Walk.{pair_of}

-- none of the parts is on that granule
abbrev pub NoneOn : ℕ → List (ℕ × ℕ) → Type 0
NoneOn granule [] = ⊤
NoneOn granule (q ∷ qs) = (q.0 ≡ granule → ⊥) × NoneOn granule qs

-- the part is that of a block of eight bytes
pub record IsOfBlock (granule_of : ℕ → Option ℕ) (k : ℕ) (p : ℕ × ℕ) : Type 0 where
  pub block : ℕ
  pub from : k ≤ block
  pub granule : granule_of (8 * block) ≡ Some p.0
  pub some_byte : p.1 ≡ 0 → ⊥

abbrev pub IsInjective : (ℕ → Option ℕ) → Type 0
IsInjective granule_of = (b c g : ℕ) → granule_of (8 * b) ≡ Some g → granule_of (8 * c) ≡ Some g → b ≡ c

module _ (granule_of : ℕ → Option ℕ) (a : Access) where
  abbrev pairs : ℕ → ℕ → List (ℕ × ℕ)
  pairs k n = map pair_of (filter_map (part_in granule_of a) (up_from k n))

  -- what a block gives
  data Gives (k n : ℕ) : List (ℕ × ℕ) → Type 0 where
    Nothing : Gives k n (pairs (suc k) n)
    One : (p : ℕ × ℕ) → IsOfBlock granule_of k p → granule_of (8 * k) ≡ Some p.0 → Gives k n (p ∷ pairs (suc k) n)

  gives : (k n : ℕ) → Gives k n (pairs k (suc n))
  gives k n = go (mask_in a k == 0) refl (granule_of (8 * k)) refl
    where
      go : (b : Bool) → mask_in a k == 0 ≡ b → (o : Option ℕ) → granule_of (8 * k) ≡ o →
          Gives k n (map pair_of (cons_option (cond b None (option_map {U = Part} (λ (g : ℕ). record { granule = g; mask = mask_in a k }) o)) (filter_map (part_in granule_of a) (up_from (suc k) n))))
      go true q o r = Nothing
      go false q None r = Nothing
      go false q (Some g) r = One (g, mask_in a k) (record { block = k; from = omega arith; granule = r; some_byte = λ z. differ (eq-eqb (mask_in a k) 0 z) q }) r
        where
          differ : mask_in a k == 0 ≡ true → mask_in a k == 0 ≡ false → ⊥
          differ x y = cc

  later : (k : ℕ) (p : ℕ × ℕ) → IsOfBlock granule_of (suc k) p → IsOfBlock granule_of k p
  later k p b = record { block = b.block; from = (let z = b.from in omega arith); granule = b.granule; some_byte = b.some_byte }

  -- each part is of a block
  of_block : (k n : ℕ) (before after : List (ℕ × ℕ)) (p : ℕ × ℕ) → pairs k n ≡ before ++ (p ∷ after) → IsOfBlock granule_of k p
  of_block k zero [] after p e = absurd (cc)
  of_block k zero (x ∷ before) after p e = absurd (cc)
  of_block k (suc n) before after p e = go (pairs k (suc n)) (gives k n) before (λ xs f. of_block (suc k) n xs after p f) e
    where
      go : (xs : List (ℕ × ℕ)) → Gives k n xs → (before : List (ℕ × ℕ)) → ((ys : List (ℕ × ℕ)) → pairs (suc k) n ≡ ys ++ (p ∷ after) → IsOfBlock granule_of (suc k) p) → xs ≡ before ++ (p ∷ after) → IsOfBlock granule_of k p
      go _ Nothing before rest e = later k p (rest before e)
      go _ (One q b r) [] rest e = subst (IsOfBlock granule_of k) (head_is e) b
        where
          head_is : q ∷ pairs (suc k) n ≡ p ∷ after → q ≡ p
          head_is e = cc
      go _ (One q b r) (x ∷ before) rest e = later k p (rest before (tail_is e))
        where
          tail_is : q ∷ pairs (suc k) n ≡ x ∷ (before ++ (p ∷ after)) → pairs (suc k) n ≡ before ++ (p ∷ after)
          tail_is e = cc

  -- and on no granule of those before it
  none_before : IsInjective granule_of → (k n : ℕ) (before after : List (ℕ × ℕ)) (p : ℕ × ℕ) → pairs k n ≡ before ++ (p ∷ after) → NoneOn p.0 before
  none_before one k zero [] after p e = tt
  none_before one k zero (x ∷ before) after p e = absurd (cc)
  none_before one k (suc n) before after p e = go (pairs k (suc n)) (gives k n) before (λ xs f. none_before one (suc k) n xs after p f) e
    where
      go : (xs : List (ℕ × ℕ)) → Gives k n xs → (before : List (ℕ × ℕ)) → ((ys : List (ℕ × ℕ)) → pairs (suc k) n ≡ ys ++ (p ∷ after) → NoneOn p.0 ys) → xs ≡ before ++ (p ∷ after) → NoneOn p.0 before
      go _ Nothing before others e = others before e
      go _ (One q b r) [] others e = tt
      go _ (One q b r) (x ∷ before) others e =
          let h : q ≡ x = head_is e in
          let rest = tail_is e in
          let c = of_block (suc k) n before after p rest in
          (λ same. clash c h same, others before rest)
        where
          head_is : q ∷ pairs (suc k) n ≡ x ∷ (before ++ (p ∷ after)) → q ≡ x
          head_is e = cc

          tail_is : q ∷ pairs (suc k) n ≡ x ∷ (before ++ (p ∷ after)) → pairs (suc k) n ≡ before ++ (p ∷ after)
          tail_is e = cc

          clash : IsOfBlock granule_of (suc k) p → q ≡ x → x.0 ≡ p.0 → ⊥
          clash c h same =
              let there : granule_of (8 * k) ≡ Some p.0 = r ∙ ap (λ (z : ℕ × ℕ). Some z.0) h ∙ ap Some same in
              let z = one k c.block p.0 there c.granule in
              let y = c.from in omega arith

-- the same of all parts of an access
pub part_of_block : (granule_of : ℕ → Option ℕ) (a : Access) (before after : List (ℕ × ℕ)) (p : ℕ × ℕ) → map pair_of (parts_of granule_of a) ≡ before ++ (p ∷ after) → IsOfBlock granule_of 0 p
part_of_block granule_of a before after p e =
    let b = of_block granule_of a _ _ before after p e in
    record { block = b.block; from = omega arith; granule = b.granule; some_byte = b.some_byte }

pub parts_apart : (granule_of : ℕ → Option ℕ) (a : Access) (before after : List (ℕ × ℕ)) (p : ℕ × ℕ) → IsInjective granule_of → map pair_of (parts_of granule_of a) ≡ before ++ (p ∷ after) → NoneOn p.0 before
parts_apart granule_of a before after p one e = none_before granule_of a one _ _ before after p e

-- a relation of pairs and checks is one of parts and checks
pub zip_parts : (R : Part → Check → Type 0) (parts : List Part) (checks : List Check) → AllZip (λ (p : ℕ × ℕ) (c : Check). R (record { granule = p.0; mask = p.1 }) c) (map pair_of parts) checks → AllZip R parts checks
zip_parts R [] [] z = tt
zip_parts R [] (c ∷ cs) z = z
zip_parts R (p ∷ ps) [] z = z
zip_parts R (p ∷ ps) (c ∷ cs) z = (z.0, zip_parts R ps cs z.1)
