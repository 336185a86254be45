-- What a clock finds in checks, check by check.
use Rattle.std.proofs.Common.{◌≡◌, ℕ, ◌+◌, ◌&&◌, Bool, true, false, cond, nat_lt, Option, Some, List, [], ◌∷◌, ◌++◌, length, length-append, map, refl, sym, ap, ap₂, ◌∙◌, inl, inr, arith}
use Rattle.std.specs.Prelude.{find, flat_map, option_map, position, slice_index}
use Rattle.std.specs.Option.{option_or}
use Rattle.std.specs.List.{position_from}
use Rattle.std.proofs.lemmas.Bool.{cases_Bool}
use Rattle.std.proofs.lemmas.List.{append_assoc, append-nil}
use Rattle.std.proofs.lemmas.Iterator.Adapters.{position_from-zero}
use Rattle.std.proofs.Math.Seq.{get_or-append_seam}
use Rattle.std.proofs.lemmas.Grind.{flat_map-append}
use Rattle.std.proofs.lemmas.List.Folds.{find-append}
use Rattle.run_record.specs.declared.entry.Check.{Check}
use Rattle.run_laws.specs.Words.{opposes, sid, epoch}
use Rattle.run_laws.specs.Candidates.{is_race}
use Rattle.report_laws.specs.Sound.{race_in, first_race_in}

abbrev loaded : Check → List (Check × ℕ)
loaded c = map (λ (w : ℕ). (c, w)) c.cells

of_check : (clock : ℕ → ℕ) (c : Check) (ws : List ℕ) → find (λ (l : Check × ℕ). is_race clock l.0.word l.1) (map (λ (w : ℕ). (c, w)) ws) ≡ option_map (λ (w : ℕ). (c, w)) (find (is_race clock c.word) ws)
of_check clock c [] = refl
of_check clock c (w ∷ ws) = go (is_race clock c.word w) (of_check clock c ws)
  where
    go : (b : Bool) → find (λ (l : Check × ℕ). is_race clock l.0.word l.1) (map (λ (w : ℕ). (c, w)) ws) ≡ option_map (λ (w : ℕ). (c, w)) (find (is_race clock c.word) ws) →
        ◌≡◌ {A = Option (Check × ℕ)} (cond b (Some (c, w)) (find (λ (l : Check × ℕ). is_race clock l.0.word l.1) (map (λ (w : ℕ). (c, w)) ws))) (option_map (λ (w : ℕ). (c, w)) (cond b (Some w) (find (is_race clock c.word) ws)))
    go true e = refl
    go false e = e

pub next_check : (clock : ℕ → ℕ) (checks : List Check) (c : Check) → first_race_in clock (checks ++ c ∷ []) ≡ option_or (first_race_in clock checks) (option_map (λ (w : ℕ). (c, w)) (race_in clock c))
next_check clock checks c =
    let test = (λ (l : Check × ℕ). is_race clock l.0.word l.1) in
    ap (find test) (flat_map-append loaded checks (c ∷ []) ∙ ap (λ (ls : List (Check × ℕ)). flat_map loaded checks ++ ls) (append-nil (loaded c)))
    ∙ find-append test (flat_map loaded checks) (loaded c)
    ∙ ap (option_or (first_race_in clock checks)) (of_check clock c c.cells)

-- the first word is the one at the first place
found_from : (p : ℕ → Bool) (before ws : List ℕ) → find p ws ≡ option_map (slice_index (before ++ ws)) (position_from p (length before) ws)
found_from p before [] = refl
found_from p before (w ∷ ws) = elim (cases_Bool (p w)) [
  | inl e ↦ rw e (ap Some (sym (get_or-append_seam before w ws 0)))
  | inr e ↦
      let long : length before + 1 ≡ length (before ++ w ∷ []) = omega (arith, length-append before (w ∷ [])) in
      rw (e, long) (found_from p (before ++ w ∷ []) ws ∙ ap (λ (all : List ℕ). option_map (slice_index all) (position_from p (length (before ++ w ∷ [])) ws)) (append_assoc before (w ∷ []) ws))
]

found_at : (p : ℕ → Bool) (ws : List ℕ) → find p ws ≡ option_map (slice_index ws) (position p ws)
found_at p ws = found_from p [] ws ∙ ap (option_map (slice_index ws)) (sym (position_from-zero p ws))

same_race : (clock known : ℕ → ℕ) → ((r : ℕ) → clock r ≡ known r) → (v w : ℕ) → is_race clock v w ≡ is_race known v w
same_race clock known same v w = ap (λ k. opposes v w && nat_lt k (epoch w)) (same (sid w))

same_find : (clock known : ℕ → ℕ) → ((r : ℕ) → clock r ≡ known r) → (ls : List (Check × ℕ)) → find (λ (l : Check × ℕ). is_race clock l.0.word l.1) ls ≡ find (λ (l : Check × ℕ). is_race known l.0.word l.1) ls
same_find clock known same [] = refl
same_find clock known same (l ∷ ls) = ap₂ (λ (b : Bool) (o : Option (Check × ℕ)). cond b (Some l) o) (same_race clock known same l.0.word l.1) (same_find clock known same ls)

pub same_races : (clock known : ℕ → ℕ) (checks : List Check) → ((r : ℕ) → clock r ≡ known r) → first_race_in clock checks ≡ first_race_in known checks
same_races clock known checks same = same_find clock known same (flat_map loaded checks)

pub race_at : (clock : ℕ → ℕ) (c : Check) → race_in clock c ≡ option_map (slice_index c.cells) (position (is_race clock c.word) c.cells)
race_at clock c = found_at (is_race clock c.word) c.cells
