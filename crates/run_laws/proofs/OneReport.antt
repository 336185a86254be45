-- A history has one list of reports.
use Rattle.std.proofs.Common.{◌≡◌, ℕ, Bool, Option, Some, List, slice_get, length, refl, sym, ap, subst, inl, inr, ◌∙◌}
use Rattle.std.proofs.lemmas.Bool.{cases_order}
use Rattle.run_record.specs.declared.event.Event.TheVariants as events
use Rattle.run_record.specs.declared.entry.Check.{Check}
use Rattle.run_record.specs.declared.limits.Limits.{Limits}
use Rattle.run_record.specs.declared.report.Report.{Report}
use Rattle.run_record.specs.declared.report.Side.{Side}
use Rattle.run_laws.specs.Moments.{Does, Moment, items}
use Rattle.run_laws.specs.Accesses.{Access}
use Rattle.run_laws.specs.Candidates.{loaded_by, IsCandidate}
use Rattle.run_laws.specs.Reports.{MakesAccess, IsReport, Finds, Start, Quiet, Race, Kept, kept_of, AreReports}

same_pair : (p q : Check × ℕ) → ◌≡◌ {A = Option (Check × ℕ)} (Some p) (Some q) → p ≡ q
same_pair p q e = cc

-- an access has one candidate at most
one_candidate : (g : ℕ) (h : List Moment) (a : ℕ) (c d : Check) (w v : ℕ) → IsCandidate g h a c w → IsCandidate g h a d v → ◌≡◌ {A = Check × ℕ} (c, w) (d, v)
one_candidate g h a c d w v p q = elim (cases_order p.index q.index) [
  | inl e ↦ same_pair (c, w) (d, v) (sym p.loaded ∙ (ap (slice_get (loaded_by (Rattle.run_laws.specs.Moments.moment_at h a))) e ∙ q.loaded))
  | inr (inl l) ↦ absurd (q.first p.index c w l p.loaded p.races)
  | inr (inr l) ↦ absurd (p.first q.index d v l q.loaded q.races)
]

same_access : {p q a b s r : ℕ} {d e f k : Bool} → p ≡ q → a ≡ b → s ≡ r → d ≡ e → f ≡ k →
    ◌≡◌ {A = Access} (record { place = p; addr = a; size = s; read = d; atomic = f }) (record { place = q; addr = b; size = r; read = e; atomic = k })
same_access x y z u v = rw (x, y, z, u, v) refl

-- one thread makes one access at a position
one_access : (h : List Moment) (n t u : ℕ) (a b : Access) → MakesAccess h n t a → MakesAccess h n u b → (t ≡ u) × (a ≡ b)
one_access h n t u a b p q =
    let e : Does t (events.Access a.place a.addr a.size a.read a.atomic) ≡ Does u (events.Access b.place b.addr b.size b.read b.atomic) = sym p ∙ q in
    (cc, same_access (cc) (cc) (cc) (cc) (cc))

same_report : {m n p q : Side} → m ≡ n → p ≡ q → ◌≡◌ {A = Report} (record { mine = m; previous = p }) (record { mine = n; previous = q })
same_report x y = rw (x, y) refl

-- and it has one report
one_report : (limits : Limits) (address_of : ℕ → ℕ) (h : List Moment) (a granule word : ℕ) (r s : Report) → IsReport limits address_of h a granule word r → IsReport limits address_of h a granule word s → r ≡ s
one_report limits address_of h a granule word r s p q =
    let mine = one_access h a p.tid q.tid p.access q.access p.made q.made in
    let first : p.first ≡ q.first = (let z = sym p.first_is ∙ q.first_is in cc) in
    let other = one_access h q.first p.other q.other p.other_access q.other_access (subst (λ x. MakesAccess h x p.other p.other_access) first p.other_made) q.other_made in
    same_report (rw (p.mine, q.mine, mine.0, mine.1) refl) (rw (p.previous, q.previous, first, other.0, other.1) refl)

one_found : (limits : Limits) (address_of : ℕ → ℕ) (h : List Moment) (n : ℕ) (f k : List Report) → Finds limits address_of h n f → Finds limits address_of h n k → f ≡ k
one_found limits address_of h _ _ _ Start Start = refl
one_found limits address_of h _ _ _ (Quiet {n = n} {found = f} p none) (Quiet {found = k} q never) = one_found limits address_of h n f k p q
one_found limits address_of h _ _ _ (Quiet p none) (Race c w r q candidate told) = absurd (none c w candidate)
one_found limits address_of h _ _ _ (Race c w r p candidate told) (Quiet q none) = absurd (none c w candidate)
one_found limits address_of h _ _ _ (Race {n = n} {found = f} c w r p candidate told) (Race {found = k} d v s q other_candidate other_told) =
    let same = one_candidate limits.epochs h n c d w v candidate other_candidate in
    let report = one_report limits address_of h n d.granule v r s (subst (λ (x : Check × ℕ). IsReport limits address_of h n x.0.granule x.1 r) same told) other_told in
    rw (one_found limits address_of h n f k p q, report) refl

pub one_kept : (limits : Limits) (address_of : ℕ → ℕ) (meets : Option (List ℕ) → Option (List ℕ) → Bool) (h : List Moment) (j k : Kept) → AreReports limits address_of meets h j → AreReports limits address_of meets h k → j ≡ k
one_kept limits address_of meets h j k p q = p.kept_is ∙ (ap (kept_of meets) (one_found limits address_of h (length h) p.found q.found p.found_all q.found_all) ∙ sym q.kept_is)
