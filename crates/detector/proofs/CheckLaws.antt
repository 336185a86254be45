-- The checks of an access, one after another: what they load and store, and which word races.
use Rattle.std.proofs.Common.{◌≡◌, ◌≢◌, ℕ, ◌+◌, ◌*◌, ◌<◌, ◌≤◌, ◌==◌, ◌&&◌, Bool, true, false, cond, Option, Some, None, List, [], ◌∷◌, ◌++◌, length, append-nil, refl, ap, sym, ◌∙◌, arith, eqb-true, eq-eqb}
use Rattle.std.specs.Prelude.{fold, slice_set, option_map, position}
use Rattle.std.proofs.lemmas.List.{get_or-set_same, get_or-set_other}
use Rattle.std.proofs.lemmas.List.Sums.{fold-append}
use Rattle.std.proofs.Math.ListN.{length-set}
use Rattle.std.proofs.lemmas.Bool.{and_parts, and_from}
use Rattle.run_record.specs.declared.entry.Check.{Check}
use Rattle.run_laws.specs.Moments.{Moment}
use Rattle.run_laws.specs.Loads.{cell_after}
use Rattle.run_laws.specs.Words.{sid, cell_for, repeats, is_free, is_no_stronger}
use Rattle.std.specs.Prelude.{unwrap_or}
use Rattle.std.specs.List.{list_any}
use Rattle.std.proofs.lemmas.List.Quantifiers.{position-Some}
use Rattle.run_laws.specs.Candidates.{is_race}
use Rattle.run_laws.specs.Present.{cell_now}
use Rattle.run_laws.proofs.PresentLaw.{cell_now-push}
use Rattle.detector.specs.Detected.{shadow_at}
use Rattle.detector.specs.Stands.{IsShadow}
use Rattle.detector.specs.Checked.{stored_in}
use Rattle.detector.specs.Checking.{cell_then, IsShadowThen}

-- ---- the shadow

pub shadow_start : (granules slots : ℕ) (h : List Moment) (shadow : List ℕ) → IsShadow granules slots h shadow → IsShadowThen granules slots h [] shadow
shadow_start granules slots h shadow s = record { whole = s.whole; last = s.last; within = s.within }

pub shadow_end : (granules slots : ℕ) (h : List Moment) (m : Moment) (shadow : List ℕ) → IsShadowThen granules slots h m.checks shadow → IsShadow granules slots (h ++ m ∷ []) shadow
shadow_end granules slots h m shadow s = record {
  whole = s.whole;
  last = λ granule cell a b. s.last granule cell a b ∙ (ap (fold (cell_after granule cell) (cell_now h granule cell)) (sym (append-nil m.checks)) ∙ sym (cell_now-push h m granule cell));
  within = s.within;
}

-- where the check stores, it is in one of the four cells, a word of one of the slots
pub record StoresWithin (slots : ℕ) (c : Check) : Type 0 where
  pub cell : (i w : ℕ) → c.stored ≡ Some (i, w) → i < 4
  pub slot : (i w : ℕ) → c.stored ≡ Some (i, w) → sid w < slots

same_place : (a b c d : ℕ) → b < 4 → d < 4 → 4 * a + b ≡ 4 * c + d → (a ≡ c) × (b ≡ d)
same_place a b c d x y e = (omega arith, omega arith)

pub shadow_step : (granules slots : ℕ) (h : List Moment) (checks : List Check) (shadow : List ℕ) (c : Check) → IsShadowThen granules slots h checks shadow → c.granule < granules → StoresWithin slots c → IsShadowThen granules slots h (checks ++ c ∷ []) (stored_in shadow c.granule c.stored)
shadow_step granules slots h checks shadow c s within st = go c.stored refl
  where
    then_is : (granule cell : ℕ) → cell_then h (checks ++ c ∷ []) granule cell ≡ cell_after granule cell (cell_then h checks granule cell) c
    then_is granule cell = fold-append (cell_after granule cell) (cell_now h granule cell) checks (c ∷ [])

    go : (o : Option (ℕ × ℕ)) → c.stored ≡ o → IsShadowThen granules slots h (checks ++ c ∷ []) (stored_in shadow c.granule o)
    go None q = record {
      whole = s.whole;
      last = λ granule cell a b. s.last granule cell a b ∙ sym (then_is granule cell ∙ rw q refl);
      within = s.within;
    }
    go (Some (i, w)) q =
        let below : i < 4 = st.cell i w q in
        let room : 4 * c.granule + i < length shadow = (let z = s.whole in omega arith) in
        record {
          whole = length-set shadow (4 * c.granule + i) w ∙ s.whole;
          last = λ granule cell a b. value granule cell a b ((c.granule == granule) && (i == cell)) refl below room ∙ sym (then_is granule cell ∙ rw q refl);
          within = λ granule cell a b. slot granule cell a b ((c.granule == granule) && (i == cell)) refl below room;
        }
      where
        same : (granule cell : ℕ) → (c.granule == granule) && (i == cell) ≡ true → 4 * c.granule + i < length shadow → shadow_at (slice_set shadow (4 * c.granule + i) w) granule cell ≡ w
        same granule cell is room =
            let parts = and_parts (c.granule == granule) (i == cell) is in
            let x = eqb-true c.granule granule parts.0 in
            let y = eqb-true i cell parts.1 in
            rw (← x, ← y) (get_or-set_same shadow (4 * c.granule + i) w 0 room)

        apart : (granule cell : ℕ) → cell < 4 → i < 4 → (c.granule == granule) && (i == cell) ≡ false → 4 * granule + cell ≡ 4 * c.granule + i → ⊥
        apart granule cell b below isnt at =
            let z = same_place granule cell c.granule i b below at in
            let yes_it = and_from (c.granule == granule) (i == cell) (eq-eqb c.granule granule (sym z.0)) (eq-eqb i cell (sym z.1)) in
            cc

        other : (granule cell : ℕ) → cell < 4 → i < 4 → (c.granule == granule) && (i == cell) ≡ false → shadow_at (slice_set shadow (4 * c.granule + i) w) granule cell ≡ shadow_at shadow granule cell
        other granule cell b below isnt = get_or-set_other shadow (4 * c.granule + i) (4 * granule + cell) w 0 (apart granule cell b below isnt)

        value : (granule cell : ℕ) → granule < granules → cell < 4 → (x : Bool) → (c.granule == granule) && (i == cell) ≡ x → i < 4 → 4 * c.granule + i < length shadow → shadow_at (slice_set shadow (4 * c.granule + i) w) granule cell ≡ cond ((c.granule == granule) && (i == cell)) w (cell_then h checks granule cell)
        value granule cell a b true at below room = same granule cell at room ∙ rw at refl
        value granule cell a b false at below room = other granule cell b below at ∙ (s.last granule cell a b ∙ rw at refl)

        slot : (granule cell : ℕ) → granule < granules → cell < 4 → (x : Bool) → (c.granule == granule) && (i == cell) ≡ x → i < 4 → 4 * c.granule + i < length shadow → shadow_at (slice_set shadow (4 * c.granule + i) w) granule cell ≢ 0 → sid (shadow_at (slice_set shadow (4 * c.granule + i) w) granule cell) < slots
        slot granule cell a b true at below room some = rw (same granule cell at room) (st.slot i w q)
        slot granule cell a b false at below room some = let e = other granule cell b below at in rw e (s.within granule cell a b (rw e at some))

-- a word that races is one of the four, and a check stores in one of the four cells
pub race_within : (clock : ℕ → ℕ) (v : ℕ) (cells : List ℕ) (i : ℕ) → length cells ≡ 4 → position (is_race clock v) cells ≡ Some i → i < 4
race_within clock v cells i long q = let z = position-Some (is_race clock v) cells i 0 q in let y = z.0 in omega arith

-- a check stores in one of the four cells
pub cell_below : (v : ℕ) (cells : List ℕ) (turn i : ℕ) → length cells ≡ 4 → turn < 4 → cell_for v cells turn ≡ Some i → i < 4
cell_below v cells turn i long few q = go (list_any (repeats v) cells) q
  where
    place : (o p : Option ℕ) → position (is_free v) cells ≡ o → position (is_no_stronger v) cells ≡ p → unwrap_or o (unwrap_or p turn) < 4
    place (Some x) p e f = let z = position-Some (is_free v) cells x 0 e in let y = z.0 in omega arith
    place None (Some x) e f = let z = position-Some (is_no_stronger v) cells x 0 f in let y = z.0 in omega arith
    place None None e f = few

    go : (b : Bool) → cond b None (Some (unwrap_or (position (is_free v) cells) (unwrap_or (position (is_no_stronger v) cells) turn))) ≡ Some i → i < 4
    go true q = absurd (cc)
    go false q = let e : unwrap_or (position (is_free v) cells) (unwrap_or (position (is_no_stronger v) cells) turn) ≡ i = some_is _ q in
        let z = place (position (is_free v) cells) (position (is_no_stronger v) cells) refl refl in omega arith
      where
        some_is : (x : ℕ) → Some x ≡ Some i → x ≡ i
        some_is x q = cc

pub store_within : (v : ℕ) (cells : List ℕ) (turn : ℕ) (s : ℕ × ℕ) → length cells ≡ 4 → turn ≤ 3 → option_map {U = ℕ × ℕ} (λ (i : ℕ). (i, v)) (cell_for v cells turn) ≡ Some s → s.0 < 4
store_within v cells turn s long few q = go (cell_for v cells turn) refl q
  where
    go : (o : Option ℕ) → cell_for v cells turn ≡ o → option_map {U = ℕ × ℕ} (λ (i : ℕ). (i, v)) o ≡ Some s → s.0 < 4
    go None e q = absurd (cc)
    go (Some i) e q = let z = cell_below v cells turn i long (omega arith) e in let y = ap (option_map (λ (p : ℕ × ℕ). p.0)) q in
        let x : i ≡ s.0 = some_is y in omega arith
      where
        some_is : Some i ≡ Some s.0 → i ≡ s.0
        some_is q = cc
