-- What is reported of the first rounds begins what is reported of all.
use Rattle.std.proofs.Common.{◌≡◌, ℕ, suc, ◌+◌, ◌≤◌, Bool, true, false, if◌then◌else◌, Option, Some, List, [], ◌∷◌, ◌++◌, slice_get, length, refl, sym, ap, subst, inl, inr, ◌∙◌, arith}
use Rattle.std.specs.Prelude.{fold}
use Rattle.std.specs.List.{list_any}
use Rattle.std.proofs.lemmas.Bool.{cases_order, cases_eq}
use Rattle.std.proofs.lemmas.List.{length-append}
use Rattle.std.proofs.lemmas.List.Sums.{fold-append}
use Rattle.run_record.specs.declared.event.Event.TheVariants as events
use Rattle.run_record.specs.declared.entry.Check.{Check}
use Rattle.run_record.specs.declared.entry.Entry.{Entry}
use Rattle.run_record.specs.declared.limits.Limits.{Limits}
use Rattle.run_record.specs.declared.report.Report.{Report}
use Rattle.run_record.specs.declared.report.Side.{Side}
use Rattle.run_laws.specs.Moments.{Does, Moment, moment_at, moments, moments_from}
use Rattle.run_laws.specs.Accesses.{Access}
use Rattle.run_laws.specs.Candidates.{loaded_by, IsCandidate}
use Rattle.run_laws.specs.Reports.{MakesAccess, IsReport, Finds, Start, Quiet, Race, Kept, is_equal, kept_after, kept_of, AreReports}
use Rattle.run_laws.proofs.MomentsLaw.{era_after, moments_from-append}
use Rattle.report_laws.specs.Sound.{AreOfLaterRounds}
use Rattle.report_laws.proofs.GrownLaw.{found_stay}
use Rattle.partial_runs.specs.Starts.{BeginsWith, ReportsGoOn}
use Rattle.partial_runs.proofs.Lists.{begins_itself, begins_push, begins_twice}

-- ---- a history has one list of reports up to each of its moments

same_pair : (p q : Check × ℕ) → ◌≡◌ {A = Option (Check × ℕ)} (Some p) (Some q) → p ≡ q
same_pair p q e = cc

-- an access has one candidate at most
one_candidate : (g : ℕ) (h : List Moment) (a : ℕ) (c d : Check) (w v : ℕ) → IsCandidate g h a c w → IsCandidate g h a d v → ◌≡◌ {A = Check × ℕ} (c, w) (d, v)
one_candidate g h a c d w v p q = elim (cases_order p.index q.index) [
  | inl e ↦ same_pair (c, w) (d, v) (sym p.loaded ∙ (ap (slice_get (loaded_by (moment_at h a))) e ∙ q.loaded))
  | inr (inl l) ↦ absurd (q.first p.index c w l p.loaded p.races)
  | inr (inr l) ↦ absurd (p.first q.index d v l q.loaded q.races)
]

same_access : {p q a b s r : ℕ} {d e f k : Bool} → p ≡ q → a ≡ b → s ≡ r → d ≡ e → f ≡ k →
    ◌≡◌ {A = Access} (record { place = p; addr = a; size = s; read = d; atomic = f }) (record { place = q; addr = b; size = r; read = e; atomic = k })
same_access x y z u v = rw (x, y, z, u, v) refl

-- one thread makes one access at a position
one_access : (h : List Moment) (n t u : ℕ) (a b : Access) → MakesAccess h n t a → MakesAccess h n u b → (t ≡ u) × (a ≡ b)
one_access h n t u a b p q =
    let e : Does t (events.Access a.place a.addr a.size a.read a.atomic) ≡ Does u (events.Access b.place b.addr b.size b.read b.atomic) = sym p ∙ q in
    (cc, same_access (cc) (cc) (cc) (cc) (cc))

same_report : {m n p q : Side} → m ≡ n → p ≡ q → ◌≡◌ {A = Report} (record { mine = m; previous = p }) (record { mine = n; previous = q })
same_report x y = rw (x, y) refl

-- and it has one report
one_report : (limits : Limits) (address_of : ℕ → ℕ) (h : List Moment) (a granule word : ℕ) (r s : Report) → IsReport limits address_of h a granule word r →
    IsReport limits address_of h a granule word s → r ≡ s
one_report limits address_of h a granule word r s p q =
    let mine = one_access h a p.tid q.tid p.access q.access p.made q.made in
    let first : p.first ≡ q.first = (let z = sym p.first_is ∙ q.first_is in cc) in
    let other = one_access h q.first p.other q.other p.other_access q.other_access (subst (λ x. MakesAccess h x p.other p.other_access) first p.other_made)
    q.other_made in
    same_report (rw (p.mine, q.mine, mine.0, mine.1) refl) (rw (p.previous, q.previous, first, other.0, other.1) refl)

one_found : (limits : Limits) (address_of : ℕ → ℕ) (h : List Moment) (n : ℕ) (f k : List Report) → Finds limits address_of h n f →
    Finds limits address_of h n k → f ≡ k
one_found limits address_of h _ _ _ Start Start = refl
one_found limits address_of h _ _ _ (Quiet {n = n} {found = f} p none) (Quiet {found = k} q never) = one_found limits address_of h n f k p q
one_found limits address_of h _ _ _ (Quiet p none) (Race c w r q candidate told) = absurd (none c w candidate)
one_found limits address_of h _ _ _ (Race c w r p candidate told) (Quiet q none) = absurd (none c w candidate)
one_found limits address_of h _ _ _ (Race {n = n} {found = f} c w r p candidate told) (Race {found = k} d v s q other_candidate other_told) =
    let same = one_candidate limits.epochs h n c d w v candidate other_candidate in
    let report = one_report limits address_of h n d.granule v r s (subst (λ (x : Check × ℕ). IsReport limits address_of h n x.0.granule x.1 r) same told)
    other_told in
    rw (one_found limits address_of h n f k p q, report) refl

-- ---- and it grows with them

module _ (limits : Limits) (address_of : ℕ → ℕ) (h : List Moment) where
  found_grows : (n m : ℕ) (f k : List Report) → n ≤ m → Finds limits address_of h n f → Finds limits address_of h m k → BeginsWith k f
  found_grows n _ f _ l a Start = at_start n f (omega arith) a
    where
      at_start : (n : ℕ) (f : List Report) → n ≡ 0 → Finds limits address_of h n f → BeginsWith [] f
      at_start n f q a = subst (λ (k : List Report). BeginsWith k f)
          (one_found limits address_of h 0 f [] (subst (λ (i : ℕ). Finds limits address_of h i f) q a) Start) (begins_itself f)
  found_grows n _ f _ l a (Quiet {n = m} {found = k} b none) = elim (cases_eq n (suc m)) [
    | inl q ↦ subst (λ (k : List Report). BeginsWith k f)
        (one_found limits address_of h (suc m) f k (subst (λ (i : ℕ). Finds limits address_of h i f) q a) (Quiet b none)) (begins_itself f)
    | inr d ↦ found_grows n m f k (omega arith) a b
  ]
  found_grows n _ f _ l a (Race {n = m} {found = k} c w r b candidate told) = elim (cases_eq n (suc m)) [
    | inl q ↦
        subst (λ (k : List Report). BeginsWith k f)
        (one_found limits address_of h (suc m) f (k ++ r ∷ []) (subst (λ (i : ℕ). Finds limits address_of h i f) q a) (Race c w r b candidate told))
        (begins_itself f)
    | inr d ↦ begins_twice (begins_push k (r ∷ [])) (found_grows n m f k (omega arith) a b)
  ]

-- ---- what is kept grows with what is found

reports_twice : {a b c : Kept} → ReportsGoOn a b → ReportsGoOn b c → ReportsGoOn a c
reports_twice p q = record {
  reports = begins_twice q.reports p.reports;
  suppressed = let x = p.suppressed in let y = q.suppressed in omega arith;
  equal = let x = p.equal in let y = q.equal in omega arith;
}

pub reports_stay : (k : Kept) → ReportsGoOn k k
reports_stay k = record { reports = begins_itself k.reports; suppressed = omega arith; equal = omega arith }

module _ (meets : Option (List ℕ) → Option (List ℕ) → Bool) where
  one_more : (k : Kept) (r : Report) (p q : Bool) →
      ReportsGoOn k
      (if p then record k { suppressed = k.suppressed + 1 } else if q then record k { equal = k.equal + 1 } else record k { reports = k.reports ++ r ∷ [] })
  one_more k r true q = record { reports = begins_itself k.reports; suppressed = omega arith; equal = omega arith }
  one_more k r false true = record { reports = begins_itself k.reports; suppressed = omega arith; equal = omega arith }
  one_more k r false false = record { reports = begins_push k.reports (r ∷ []); suppressed = omega arith; equal = omega arith }

  kept_grows : (k : Kept) (found : List Report) → ReportsGoOn k (fold (kept_after meets) k found)
  kept_grows k [] = reports_stay k
  kept_grows k (r ∷ found) =
      reports_twice (one_more k r (meets r.mine.stack r.previous.stack) (list_any (is_equal r) k.reports)) (kept_grows (kept_after meets k r) found)

  kept_of_more : (found more : List Report) → ReportsGoOn (kept_of meets found) (kept_of meets (found ++ more))
  kept_of_more found more =
      subst (ReportsGoOn (kept_of meets found)) (sym (fold-append (kept_after meets) (record { reports = []; suppressed = 0; equal = 0 }) found more))
      (kept_grows (kept_of meets found) more)

  pub first_reports : (limits : Limits) (address_of : ℕ → ℕ) (start later : List Entry) (kept whole : Kept) → AreOfLaterRounds start later →
      AreReports limits address_of meets (moments start) kept → AreReports limits address_of meets (moments (start ++ later)) whole → ReportsGoOn kept whole
  first_reports limits address_of start later kept whole rounds a b =
      let cut = ap length (moments_from-append 0 0 start later) ∙ length-append (moments start) (moments_from (era_after 0 start) (0 + length start) later) in
      let begins =
      found_grows limits address_of (moments (start ++ later)) (length (moments start)) (length (moments (start ++ later))) a.found b.found (omega (arith, cut))
      (found_stay limits address_of start later rounds (length (moments start)) a.found (omega arith) a.found_all) b.found_all
      in
      subst (λ (k : Kept). ReportsGoOn k whole) (sym a.kept_is)
      (subst (ReportsGoOn (kept_of meets a.found)) (sym (b.kept_is ∙ ap (kept_of meets) begins.whole_is)) (kept_of_more a.found begins.rest))
