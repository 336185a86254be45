-- A word that is the last one stored in a cell is one that a check may load.
use Rattle.std.proofs.Common.{◌≡◌, ℕ, zero, suc, ◌<◌, ◌≤◌, ◌==◌, ◌&&◌, ◌⊎◌, if◌then◌else◌, Option, Some, None, List, [], ◌∷◌, take, length, refl, sym, ap, subst, inl, inr, ◌∙◌, arith, eqb-true, eq-eqb}
use Rattle.std.specs.Prelude.{fold, flat_map, Contains, option_map}
use Rattle.std.proofs.lemmas.Bool.{cases_Bool, cases_eq, cases_lt, and_parts, and_from}
use Rattle.std.proofs.Math.ListN.{get_or-eq_default}
use Rattle.std.proofs.Math.Seq.{take-suc}
use Rattle.std.proofs.lemmas.Grind.{flat_map-append}
use Rattle.std.proofs.lemmas.List.{append-nil}
use Rattle.std.proofs.lemmas.List.Sums.{fold-append}
use Rattle.run_record.specs.declared.entry.Check.{Check}
use Rattle.run_laws.specs.Moments.{Past, Moment, moment_at}
use Rattle.run_laws.specs.Loads.{Stored, cell_after, cell_before}

-- one of the checks stores the word in the cell of the granule
record StoresThere (granule cell word : ℕ) (cs : List Check) : Type 0 where
  check : Check
  among : Contains cs check
  on_granule : check.granule ≡ granule
  stored : check.stored ≡ Some (cell, word)

-- after a check the cell has its word as before, or the one that the check stored there
after_check : (granule cell word : ℕ) (c : Check) → ((cell_after granule cell word c ≡ word) × ((w : ℕ) → c.granule ≡ granule → c.stored ≡ Some (cell, w) → ⊥)) ⊎ ((c.granule ≡ granule) × (c.stored ≡ Some (cell, cell_after granule cell word c)))
after_check granule cell word c = go c.stored refl
  where
    go : (o : Option (ℕ × ℕ)) → c.stored ≡ o → ((elim o [ Some s ↦ (if (c.granule == granule) && (s.0 == cell) then s.1 else word) | None ↦ word ] ≡ word) × ((w : ℕ) → c.granule ≡ granule → c.stored ≡ Some (cell, w) → ⊥)) ⊎ ((c.granule ≡ granule) × (c.stored ≡ Some (cell, elim o [ Some s ↦ (if (c.granule == granule) && (s.0 == cell) then s.1 else word) | None ↦ word ])))
    go None q = inl (refl, λ w e f. let z = sym q ∙ f in cc)
    go (Some s) q = elim (cases_Bool ((c.granule == granule) && (s.0 == cell))) [
      | inl t ↦
          let p = and_parts (c.granule == granule) (s.0 == cell) t in
          let z : s.0 ≡ cell = eqb-true s.0 cell p.1 in
          rw t (inr (eqb-true c.granule granule p.0, q ∙ ap (λ x. Some (x, s.1)) z))
      | inr t ↦
          rw t (inl (refl, λ w e f. let y : ◌≡◌ {A = Option (ℕ × ℕ)} (Some s) (Some (cell, w)) = sym q ∙ f in let x : s ≡ (cell, w) = cc in let z = sym t ∙ and_from (c.granule == granule) (s.0 == cell) (eq-eqb c.granule granule e) (eq-eqb s.0 cell (ap (λ (x : ℕ × ℕ). x.0) x)) in cc))
    ]

-- and so after some checks
after_checks : (granule cell word : ℕ) (cs : List Check) → ((fold (cell_after granule cell) word cs ≡ word) × ((w : ℕ) → StoresThere granule cell w cs → ⊥)) ⊎ StoresThere granule cell (fold (cell_after granule cell) word cs) cs
after_checks granule cell word [] = inl (refl, λ w s. let l = s.among.1 in omega arith)
after_checks granule cell word (c ∷ cs) = go (after_check granule cell word c) (after_checks granule cell (cell_after granule cell word c) cs)
  where
    head_or_tail : (w : ℕ) (s : StoresThere granule cell w (c ∷ cs)) → ((c.granule ≡ granule) × (c.stored ≡ Some (cell, w))) ⊎ StoresThere granule cell w cs
    head_or_tail w s = at s.among.0 s.among.1 s.among.2
      where
        at : (k : ℕ) → k < length (c ∷ cs) → Rattle.std.specs.Prelude.slice_index_or (c ∷ cs) k s.check ≡ s.check → ((c.granule ≡ granule) × (c.stored ≡ Some (cell, w))) ⊎ StoresThere granule cell w cs
        at zero l e = inl (ap (λ (x : Check). x.granule) e ∙ s.on_granule, ap (λ (x : Check). x.stored) e ∙ s.stored)
        at (suc k) l e = inr (record { check = s.check; among = (k, omega arith, e); on_granule = s.on_granule; stored = s.stored })

    go :
        ((cell_after granule cell word c ≡ word) × ((w : ℕ) → c.granule ≡ granule → c.stored ≡ Some (cell, w) → ⊥)) ⊎ ((c.granule ≡ granule) × (c.stored ≡ Some (cell, cell_after granule cell word c))) →
        ((fold (cell_after granule cell) (cell_after granule cell word c) cs ≡ cell_after granule cell word c) × ((w : ℕ) → StoresThere granule cell w cs → ⊥)) ⊎ StoresThere granule cell (fold (cell_after granule cell) (cell_after granule cell word c) cs) cs →
        ((fold (cell_after granule cell) (cell_after granule cell word c) cs ≡ word) × ((w : ℕ) → StoresThere granule cell w (c ∷ cs) → ⊥)) ⊎ StoresThere granule cell (fold (cell_after granule cell) (cell_after granule cell word c) cs) (c ∷ cs)
    go a (inr s) = inr (record { check = s.check; among = (suc s.among.0, omega (arith, s.among.1), s.among.2); on_granule = s.on_granule; stored = s.stored })
    go (inl a) (inl b) = inl (b.0 ∙ a.0, λ w s. elim (head_or_tail w s) [ inl x ↦ a.1 w x.0 x.1 | inr x ↦ b.1 w x ])
    go (inr a) (inl b) = inr (record { check = c; among = (0, omega arith, refl); on_granule = a.0; stored = a.1 ∙ ap (λ x. Some (cell, x)) (sym b.0) })

take_whole : (xs : List Moment) (n : ℕ) → length xs ≤ n → take n xs ≡ xs
take_whole [] zero l = refl
take_whole [] (suc n) l = refl
take_whole (x ∷ xs) zero l = absurd (omega arith)
take_whole (x ∷ xs) (suc n) l = ap (λ (ys : List Moment). x ∷ ys) (take_whole xs n (omega arith))

past : Moment
past = record { entry = 0; round = 0; item = Past; checks = [] }

cell_before-next : (h : List Moment) (granule cell n : ℕ) → cell_before h granule cell (suc n) ≡ fold (cell_after granule cell) (cell_before h granule cell n) (moment_at h n).checks
unfolding past
cell_before-next h granule cell n = elim (cases_lt n (length h)) [
  | inl l ↦
      rw (take-suc h n past l, flat_map-append (λ (m : Moment). m.checks) (take n h) (moment_at h n ∷ []))
      (fold-append (cell_after granule cell) 0 (flat_map (λ (m : Moment). m.checks) (take n h)) (flat_map (λ (m : Moment). m.checks) (moment_at h n ∷ []))
      ∙ ap (fold (cell_after granule cell) (cell_before h granule cell n)) (append-nil (moment_at h n).checks))
  | inr l ↦
      let m : moment_at h n ≡ past = get_or-eq_default h past l in
      rw (m, take_whole h (suc n) (omega arith), take_whole h n l) refl
]

-- The cell before position n: either nothing was stored there, or it has the word of the last store.
pub data LastStore (h : List Moment) (granule cell n : ℕ) : Type 0 where
  NoStore : cell_before h granule cell n ≡ 0 → ((x w : ℕ) → x < n → Stored h x granule cell w → ⊥) → LastStore h granule cell n
  StoredAt : (x : ℕ) → x < n → Stored h x granule cell (cell_before h granule cell n) → ((y w : ℕ) → x < y → y < n → Stored h y granule cell w → ⊥) → LastStore h granule cell n

there : (h : List Moment) (x granule cell w : ℕ) → Stored h x granule cell w → StoresThere granule cell w (moment_at h x).checks
there h x granule cell w s = record { check = s.check; among = s.among; on_granule = s.on_granule; stored = s.stored }

pub last_store : (h : List Moment) (granule cell n : ℕ) → LastStore h granule cell n
last_store h granule cell zero = NoStore refl (λ x w l s. absurd (omega arith))
last_store h granule cell (suc n) = go (last_store h granule cell n) (after_checks granule cell (cell_before h granule cell n) (moment_at h n).checks)
  where
    next : cell_before h granule cell (suc n) ≡ fold (cell_after granule cell) (cell_before h granule cell n) (moment_at h n).checks
    next = cell_before-next h granule cell n

    go : LastStore h granule cell n → ((fold (cell_after granule cell) (cell_before h granule cell n) (moment_at h n).checks ≡ cell_before h granule cell n) × ((w : ℕ) → StoresThere granule cell w (moment_at h n).checks → ⊥)) ⊎ StoresThere granule cell (fold (cell_after granule cell) (cell_before h granule cell n) (moment_at h n).checks) (moment_at h n).checks → LastStore h granule cell (suc n)
    go a (inr s) =
        StoredAt n (omega arith) (record { check = s.check; among = s.among; on_granule = s.on_granule; stored = s.stored ∙ ap (λ x. Some (cell, x)) (sym next) }) (λ y w l m s. absurd (omega arith))
    go (NoStore e none) (inl b) = NoStore (next ∙ (b.0 ∙ e)) later
      where
        later : (x w : ℕ) → x < suc n → Stored h x granule cell w → ⊥
        later x w l s = elim (cases_eq x n) [
          | inl q ↦ b.1 w (there h n granule cell w (subst (λ z. Stored h z granule cell w) q s))
          | inr d ↦ none x w (omega arith) s
        ]
    go (StoredAt x l s none) (inl b) = StoredAt x (omega arith) (subst (λ z. Stored h x granule cell z) (sym (next ∙ b.0)) s) later
      where
        later : (y w : ℕ) → x < y → y < suc n → Stored h y granule cell w → ⊥
        later y w l m s = elim (cases_eq y n) [
          | inl q ↦ b.1 w (there h n granule cell w (subst (λ z. Stored h z granule cell w) q s))
          | inr d ↦ none y w l (omega arith) s
        ]
