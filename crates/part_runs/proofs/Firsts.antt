-- The first rounds of some: those up to one of them.
use Rattle.std.proofs.Common.{◌≡◌, ℕ, ◌+◌, ◌<◌, List, [], ◌∷◌, ◌++◌, length, append_assoc, subst, sym, refl, ap, ◌∙◌, arith}
use Rattle.std.specs.Prelude.{All}
use Rattle.std.proofs.lemmas.List.{append-nil}
use Rattle.std.proofs.lemmas.List.Elements.{All-nil, All-append}
use Rattle.run_record.specs.declared.entry.Entry.{Entry}
use Rattle.run_record.specs.declared.limits.Limits.{Limits}
use Rattle.elf_image.specs.File.{granule_of}
use Rattle.run_laws.specs.Faithful.{needs_slot}
use Rattle.machine_laws.specs.Machine.{bare_of}
use Rattle.report_laws.specs.Sound.{IsSound}
use Rattle.turn_orders.specs.Machine.{State}
use Rattle.turn_orders.specs.LineUp.{Stamped}
use Rattle.turn_histories.specs.Rounds.{IsIn}
use Rattle.shared_table.specs.declared.object.Object.{Object}
use Rattle.shared_table.specs.declared.view.Layout.{Layout}
use Rattle.shared_table.specs.Past.{Past, Lawful}
use Rattle.placed_detector.specs.Standing.{Hand}
use Rattle.hart_parts.specs.Rounds.{PartRound, ArePartRounds}
use Rattle.whole_parts.proofs.Dues.{all_of_each}
use Rattle.cell_loads.specs.Pasts.{ArePasts}
use Rattle.part_runs.specs.Runs.{entries_of_rounds, AreRounds}
use Rattle.part_runs.proofs.Sound.{sound}

-- the entries of one round more
pub entries_then : (xs : List PartRound) (r : PartRound) → entries_of_rounds (xs ++ r ∷ []) ≡ entries_of_rounds xs ++ r.entries
entries_then [] r = append-nil r.entries
entries_then (x ∷ xs) r = ap (λ (es : List Entry). x.entries ++ es) (entries_then xs r) ∙ sym (append_assoc x.entries (entries_of_rounds xs) r.entries)

module _ (file : List ℕ) (limits : Limits) (lay : Layout) where
  -- the parts of the first rounds
  parts_first : (xs : List PartRound) (r : PartRound) (ys : List PartRound) (round era base : ℕ) (m : State (Stamped Hand) Object) →
      ArePartRounds file limits lay round era base m (xs ++ r ∷ ys) → ArePartRounds file limits lay round era base m (xs ++ r ∷ [])
  parts_first [] r ys round era base m are = (are.0, are.1, record {})
  parts_first (x ∷ xs) r ys round era base m are = (are.0, are.1, parts_first xs r ys _ _ _ _ are.2)

  -- the past of the last of them is lawful
  lawful_first : (xs : List PartRound) (r : PartRound) (ys : List PartRound) (round era base : ℕ) (m : State (Stamped Hand) Object) →
      ArePartRounds file limits lay round era base m (xs ++ r ∷ ys) → Lawful lay (r.late ++ r.early)
  lawful_first [] r ys round era base m are = are.1.lawful
  lawful_first (x ∷ xs) r ys round era base m are = lawful_first xs r ys _ _ _ _ are.2

  -- the entries of the last of them are of its round, and of one era
  pub inside_last : (xs : List PartRound) (r : PartRound) (ys : List PartRound) (round era base : ℕ) (m : State (Stamped Hand) Object) →
      ArePartRounds file limits lay round era base m (xs ++ r ∷ ys) →
      (n : ℕ) × All (λ (e : Entry). (e.round ≡ round + length xs) × (e.era ≡ n)) r.entries
  inside_last [] r ys round era base m are =
      let one = all_of_each (IsIn round era) r.entries are.1.inside in
      (era, λ i e l. (let q = (one i e l).round in omega (arith, q), (one i e l).era))
  inside_last (x ∷ xs) r ys round era base m are =
      let rest = inside_last xs r ys _ _ _ _ are.2 in
      (rest.0, λ i e l. (let q = (rest.1 i e l).0 in omega (arith, q), (rest.1 i e l).1))

  -- and those of the others are of earlier rounds
  pub inside_before : (xs ys : List PartRound) (round era base : ℕ) (m : State (Stamped Hand) Object) →
      ArePartRounds file limits lay round era base m (xs ++ ys) → All (λ (e : Entry). e.round < round + length xs) (entries_of_rounds xs)
  inside_before [] ys round era base m are = All-nil (λ (e : Entry). e.round < round + 0)
  inside_before (x ∷ xs) ys round era base m are =
      let one = all_of_each (IsIn round era) x.entries are.1.inside in
      let rest = inside_before xs ys _ _ _ _ are.2 in
      All-append (λ (e : Entry). e.round < round + length (x ∷ xs)) x.entries (entries_of_rounds xs)
      (λ i e l. let q = (one i e l).round in omega (arith, q)) (λ i e l. let q = rest i e l in omega (arith, q))

-- the past of the first rounds
pasts_first : (limits : Limits) (past : Past) (xs : List PartRound) (r : PartRound) (ys : List PartRound) (before : Past) (m : State (Stamped Hand) Object) →
    ArePasts limits past before m (xs ++ r ∷ ys) → ArePasts limits (r.late ++ r.early) before m (xs ++ r ∷ [])
pasts_first limits past [] r ys before m are = (are.0, ([], record {}, refl))
pasts_first limits past (x ∷ xs) r ys before m are = (are.0, pasts_first limits past xs r ys _ _ are.1)

module _ (file : List ℕ) (limits : Limits) (lay : Layout) (past : Past) (m : State (Stamped Hand) Object) (xs : List PartRound) (r : PartRound)
    (ys : List PartRound) (all : AreRounds file limits lay past m (xs ++ r ∷ ys)) where
  -- the first rounds are rounds so far
  pub so_far : AreRounds file limits lay (r.late ++ r.early) m (xs ++ r ∷ [])
  so_far = record {
    limits_are = all.limits_are;
    accepted = all.accepted;
    first = all.first;
    parts = parts_first file limits lay xs r ys 0 0 0 m all.parts;
    lawful = lawful_first file limits lay xs r ys 0 0 0 m all.parts;
    pasts = pasts_first limits past xs r ys [] m all.pasts;
  }

  -- and their entries have what the laws of reports ask for
  pub sound_so_far : IsSound limits (granule_of file) (needs_slot (bare_of file limits.harts) (entries_of_rounds xs ++ r.entries))
      (entries_of_rounds xs ++ r.entries)
  sound_so_far = subst (λ (es : List Entry). IsSound limits (granule_of file) (needs_slot (bare_of file limits.harts) es) es) (entries_then xs r)
      (sound file limits lay (r.late ++ r.early) m (xs ++ r ∷ []) so_far)
