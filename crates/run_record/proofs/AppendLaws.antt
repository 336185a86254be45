-- Flat lists behind one another, whose marks have new numbers.
use Rattle.std.proofs.Common.{◌≡◌, ℕ, zero, suc, ◌+◌, ◌-◌, ◌<◌, ◌≤◌, List, [], ◌∷◌, ◌++◌}
use Rattle.std.proofs.Common.{length, refl, sym, ◌∙◌, ap, ap₂, subst, inl, inr, add-zero, arith}
use Rattle.std.specs.Prelude.{take, drop}
use Rattle.std.proofs.lemmas.Bool.{eq-eqb, ne_eqb}
use Rattle.std.proofs.lemmas.Bool.Decides.{eqb_tells}
use Rattle.std.proofs.lemmas.List.{take-append-le, drop-append-le, length-drop}
use Rattle.run_record.specs.declared.event.Event.{Event}
use Rattle.run_record.specs.declared.entry.Check.{Check}
use Rattle.run_record.specs.declared.entry.DeskNote.{DeskNote}
use Rattle.run_record.specs.declared.entry.DeskNote.TheVariants.{Nothing}
use Rattle.run_record.specs.declared.entry.Entry.{Entry}
use Rattle.run_record.specs.declared.flat.Row.{Row}
use Rattle.run_record.specs.declared.flat.Mark.{Mark}
use Rattle.run_record.specs.declared.flat.KeptCheck.{KeptCheck}
use Rattle.run_record.specs.Marks.{first_at, rest_at, renumbered, AreUsed}
use Rattle.run_record.specs.Flat.{check_of, checks_of, entry_of, entries_of, event_count, check_count}
use Rattle.run_record.proofs.MarkLaws.{used_bounds}

-- ---- marks behind others

first_behind : {T : Type 0} (n count m : ℕ) (other : T) (marks more : List (Mark T)) → AreUsed n count more → m < n →
    first_at m other (marks ++ more) ≡ first_at m other marks
first_behind n count m other [] [] used below = refl
first_behind n count m other [] (x ∷ more) used below =
    let g : n ≤ x.at = (used_bounds n count (x ∷ more) used 0 x (omega arith)).0 in
    rw (ne_eqb x.at m (λ e. omega (arith, e, g, below))) refl
first_behind n count m other (y ∷ marks) more used below = refl

rest_behind : {T : Type 0} (n count m : ℕ) (marks more : List (Mark T)) → AreUsed n count more → m < n →
    rest_at m (marks ++ more) ≡ rest_at m marks ++ more
rest_behind n count m [] [] used below = refl
rest_behind n count m [] (x ∷ more) used below =
    let g : n ≤ x.at = (used_bounds n count (x ∷ more) used 0 x (omega arith)).0 in
    rw (ne_eqb x.at m (λ e. omega (arith, e, g, below))) refl
rest_behind n count m (y ∷ marks) more used below = elim (eqb_tells y.at m) [
  | inl e ↦ rw e.0 refl
  | inr e ↦ rw e.0 refl
]

pub used_append : {T : Type 0} (n a b : ℕ) (marks more : List (Mark T)) → AreUsed n a marks → AreUsed (n + a) b more → AreUsed n (a + b) (marks ++ more)
used_append {T} n zero b marks more used behind =
    let same : n + 0 ≡ n = omega arith in
    let count : b ≡ 0 + b = omega arith in
    rw used (subst (λ (c : ℕ). AreUsed n c more) count (subst (λ (m : ℕ). AreUsed m b more) same behind))
used_append {T} n (suc a) b marks more used behind =
    let next : n + suc a ≡ suc n + a = omega arith in
    let count : suc (a + b) ≡ suc a + b = omega arith in
    subst (λ (c : ℕ). AreUsed n c (marks ++ more)) count
    (subst (AreUsed (suc n) (a + b)) (sym (rest_behind (n + suc a) b n marks more behind (omega arith)))
    (used_append (suc n) a b (rest_at n marks) more used (subst (λ (m : ℕ). AreUsed m b more) next behind)))

pub checks_append : (n : ℕ) (ks ls : List KeptCheck) (words more : List (Mark ℕ)) → AreUsed n (length ks) words → AreUsed (n + length ks) (length ls) more →
    checks_of n (ks ++ ls) (words ++ more) ≡ checks_of n ks words ++ checks_of (n + length ks) ls more
checks_append n [] ls words more used behind =
    let same : n ≡ n + 0 = omega arith in
    ap (λ xs. checks_of n ls (xs ++ more)) used ∙ ap (λ (m : ℕ). checks_of m ls more) same
checks_append n (k ∷ ks) ls words more used behind =
    let next : n + suc (length ks) ≡ suc n + length ks = omega arith in
    ap₂ (λ (x : Check) (xs : List Check). x ∷ xs)
    (ap (check_of k) (first_behind (n + suc (length ks)) (length ls) n k.word words more behind (omega arith)))
    (ap (checks_of (suc n) (ks ++ ls)) (rest_behind (n + suc (length ks)) (length ls) n words more behind (omega arith))
    ∙ checks_append (suc n) ks ls (rest_at n words) more used (subst (λ (m : ℕ). AreUsed m (length ls) more) next behind)
    ∙ ap (λ (m : ℕ). checks_of (suc n) ks (rest_at n words) ++ checks_of m ls more) (sym next))

pub entries_append :
    (n : ℕ) (rows rows' : List Row) (notes more : List (Mark DeskNote)) (es fs : List Event) (cs ds : List Check) → event_count rows ≡ length es →
    check_count rows ≡ length cs → AreUsed n (length rows) notes → AreUsed (n + length rows) (length rows') more →
    entries_of n (rows ++ rows') (notes ++ more) (es ++ fs) (cs ++ ds) ≡ entries_of n rows notes es cs ++ entries_of (n + length rows) rows' more fs ds
entries_append n [] rows' notes more [] fs [] ds e c used behind =
    let same : n ≡ n + 0 = omega arith in
    ap (λ xs. entries_of n rows' (xs ++ more) fs ds) used ∙ ap (λ (m : ℕ). entries_of m rows' more fs ds) same
entries_append n [] rows' notes more (_ ∷ es) fs cs ds e c used behind = absurd (omega (arith, e))
entries_append n [] rows' notes more [] fs (_ ∷ cs) ds e c used behind = absurd (omega (arith, c))
entries_append n (k ∷ rows) rows' notes more es fs cs ds e c used behind =
    let a : k.events ≤ length es = omega (arith, e) in
    let b : k.checks ≤ length cs = omega (arith, c) in
    let x : event_count rows ≡ length (drop k.events es) = omega (arith, e, length-drop k.events es) in
    let y : check_count rows ≡ length (drop k.checks cs) = omega (arith, c, length-drop k.checks cs) in
    let next : n + suc (length rows) ≡ suc n + length rows = omega arith in
    ap₂ (λ (h : Entry) (hs : List Entry). h ∷ hs)
    (ap₂ (λ (p : List Event) (q : List Check). entry_of k.head (first_at n Nothing (notes ++ more)) p q) (take-append-le k.events es fs a)
    (take-append-le k.checks cs ds b)
    ∙ ap (λ (note : DeskNote). entry_of k.head note (take k.events es) (take k.checks cs))
    (first_behind (n + suc (length rows)) (length rows') n Nothing notes more behind (omega arith)))
    (ap₂ (λ (p : List Event) (q : List Check). entries_of (suc n) (rows ++ rows') (rest_at n (notes ++ more)) p q) (drop-append-le k.events es fs a)
    (drop-append-le k.checks cs ds b)
    ∙ ap (λ xs. entries_of (suc n) (rows ++ rows') xs (drop k.events es ++ fs) (drop k.checks cs ++ ds))
    (rest_behind (n + suc (length rows)) (length rows') n notes more behind (omega arith))
    ∙ entries_append (suc n) rows rows' (rest_at n notes) more (drop k.events es) fs (drop k.checks cs) ds x y used
    (subst (λ (m : ℕ). AreUsed m (length rows') more) next behind)
    ∙ ap (λ (m : ℕ). entries_of (suc n) rows (rest_at n notes) (drop k.events es) (drop k.checks cs) ++ entries_of m rows' more fs ds) (sym next))

-- ---- new numbers

first_renumbered : {T : Type 0} (a b i count : ℕ) (other : T) (marks : List (Mark T)) → AreUsed (a + i) count marks →
    first_at (b + i) other (renumbered a b marks) ≡ first_at (a + i) other marks
first_renumbered a b i count other [] used = refl
first_renumbered a b i count other (x ∷ marks) used =
    let g : a + i ≤ x.at = (used_bounds (a + i) count (x ∷ marks) used 0 x (omega arith)).0 in
    elim (eqb_tells x.at (a + i)) [
      | inl e ↦ rw (e.0, eq-eqb (b + (x.at - a)) (b + i) (omega (arith, e.1, g))) refl
      | inr e ↦ rw (e.0, ne_eqb (b + (x.at - a)) (b + i) (λ h. e.1 (omega (arith, h, g)))) refl
    ]

rest_renumbered : {T : Type 0} (a b i count : ℕ) (marks : List (Mark T)) → AreUsed (a + i) count marks →
    rest_at (b + i) (renumbered a b marks) ≡ renumbered a b (rest_at (a + i) marks)
rest_renumbered a b i count [] used = refl
rest_renumbered a b i count (x ∷ marks) used =
    let g : a + i ≤ x.at = (used_bounds (a + i) count (x ∷ marks) used 0 x (omega arith)).0 in
    elim (eqb_tells x.at (a + i)) [
      | inl e ↦ rw (e.0, eq-eqb (b + (x.at - a)) (b + i) (omega (arith, e.1, g))) refl
      | inr e ↦ rw (e.0, ne_eqb (b + (x.at - a)) (b + i) (λ h. e.1 (omega (arith, h, g)))) refl
    ]

used_renumbered : {T : Type 0} (a b i count : ℕ) (marks : List (Mark T)) → AreUsed (a + i) count marks → AreUsed (b + i) count (renumbered a b marks)
used_renumbered {T} a b i zero marks used = ap (λ (xs : List (Mark T)). renumbered a b xs) used
used_renumbered {T} a b i (suc count) marks used =
    let from : suc (a + i) ≡ a + suc i = omega arith in
    let to : b + suc i ≡ suc (b + i) = omega arith in
    subst (AreUsed (suc (b + i)) count) (sym (rest_renumbered a b i (suc count) marks used))
    (subst (λ (m : ℕ). AreUsed m count (renumbered a b (rest_at (a + i) marks))) to
    (used_renumbered a b (suc i) count (rest_at (a + i) marks) (subst (λ (m : ℕ). AreUsed m count (rest_at (a + i) marks)) from used)))

checks_renumbered : (a b i : ℕ) (ks : List KeptCheck) (words : List (Mark ℕ)) → AreUsed (a + i) (length ks) words →
    checks_of (b + i) ks (renumbered a b words) ≡ checks_of (a + i) ks words
checks_renumbered a b i [] words used = refl
checks_renumbered a b i (k ∷ ks) words used =
    let from : suc (a + i) ≡ a + suc i = omega arith in
    let to : suc (b + i) ≡ b + suc i = omega arith in
    ap₂ (λ (x : Check) (xs : List Check). x ∷ xs) (ap (check_of k) (first_renumbered a b i (suc (length ks)) k.word words used))
    (ap (checks_of (suc (b + i)) ks) (rest_renumbered a b i (suc (length ks)) words used)
    ∙ ap (λ (m : ℕ). checks_of m ks (renumbered a b (rest_at (a + i) words))) to
    ∙ checks_renumbered a b (suc i) ks (rest_at (a + i) words) (subst (λ (m : ℕ). AreUsed m (length ks) (rest_at (a + i) words)) from used)
    ∙ ap (λ (m : ℕ). checks_of m ks (rest_at (a + i) words)) (sym from))

entries_renumbered : (a b i : ℕ) (rows : List Row) (notes : List (Mark DeskNote)) (es : List Event) (cs : List Check) → AreUsed (a + i) (length rows) notes →
    entries_of (b + i) rows (renumbered a b notes) es cs ≡ entries_of (a + i) rows notes es cs
entries_renumbered a b i [] notes es cs used = refl
entries_renumbered a b i (r ∷ rows) notes es cs used =
    let from : suc (a + i) ≡ a + suc i = omega arith in
    let to : suc (b + i) ≡ b + suc i = omega arith in
    ap₂ (λ (x : Entry) (xs : List Entry). x ∷ xs)
    (ap (λ (note : DeskNote). entry_of r.head note (take r.events es) (take r.checks cs)) (first_renumbered a b i (suc (length rows)) Nothing notes used))
    (ap (λ (marks : List (Mark DeskNote)). entries_of (suc (b + i)) rows marks (drop r.events es) (drop r.checks cs))
    (rest_renumbered a b i (suc (length rows)) notes used)
    ∙ ap (λ (m : ℕ). entries_of m rows (renumbered a b (rest_at (a + i) notes)) (drop r.events es) (drop r.checks cs)) to
    ∙ entries_renumbered a b (suc i) rows (rest_at (a + i) notes) (drop r.events es) (drop r.checks cs)
    (subst (λ (m : ℕ). AreUsed m (length rows) (rest_at (a + i) notes)) from used)
    ∙ ap (λ (m : ℕ). entries_of m rows (rest_at (a + i) notes) (drop r.events es) (drop r.checks cs)) (sym from))

-- all numbers from a on become those from b on
pub used_from_on : {T : Type 0} (a b count : ℕ) (marks : List (Mark T)) → AreUsed a count marks → AreUsed b count (renumbered a b marks)
used_from_on {T} a b count marks used =
    rw add-zero at (used_renumbered {T = T} a b 0 count marks (subst (λ (m : ℕ). AreUsed m count marks) (sym (add-zero a)) used))

pub checks_from_on : (a b : ℕ) (ks : List KeptCheck) (words : List (Mark ℕ)) → AreUsed a (length ks) words →
    checks_of b ks (renumbered a b words) ≡ checks_of a ks words
checks_from_on a b ks words used =
    ap (λ (m : ℕ). checks_of m ks (renumbered a b words)) (sym (add-zero b))
    ∙ checks_renumbered a b 0 ks words (subst (λ (m : ℕ). AreUsed m (length ks) words) (sym (add-zero a)) used)
    ∙ ap (λ (m : ℕ). checks_of m ks words) (add-zero a)

pub entries_from_on : (a b : ℕ) (rows : List Row) (notes : List (Mark DeskNote)) (es : List Event) (cs : List Check) → AreUsed a (length rows) notes →
    entries_of b rows (renumbered a b notes) es cs ≡ entries_of a rows notes es cs
entries_from_on a b rows notes es cs used =
    ap (λ (m : ℕ). entries_of m rows (renumbered a b notes) es cs) (sym (add-zero b))
    ∙ entries_renumbered a b 0 rows notes es cs (subst (λ (m : ℕ). AreUsed m (length rows) notes) (sym (add-zero a)) used)
    ∙ ap (λ (m : ℕ). entries_of m rows notes es cs) (add-zero a)
