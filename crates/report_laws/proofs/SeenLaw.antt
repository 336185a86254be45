-- The first sought access in a thread's trace is the first access of the history with the word on the granule.
use Rattle.std.proofs.Common.{◌≡◌, ◌≢◌, ℕ, zero, suc, ◌+◌, ◌-◌, ◌*◌, ◌/◌, ◌^◌, ◌<◌, ◌≤◌, ◌==◌, ◌&&◌, ◌⊎◌, not, min, if◌then◌else◌, Bool, true, false, Option, Some, None, List, [], ◌∷◌, ◌++◌, length, refl, sym, ap, ap₂, subst, inl, inr, ◌∙◌, arith, eqb-true, eq-eqb, ne_eqb}
use Rattle.std.specs.Prelude.{find, filter_map, option_map}
use Rattle.std.specs.Option.{option_or}
use Rattle.std.specs.List.{AllZip, list_any, cons_option}
use Rattle.std.proofs.Math.Pow.{pow_mono}
use Rattle.std.proofs.lemmas.Nat.{pow_pos}
use Rattle.std.proofs.lemmas.Bool.{cases_eq, cases_lt, cases_Bool, and_parts, and_from}
use Rattle.std.proofs.lemmas.List.Folds.{find-append}
use Rattle.run_record.specs.declared.event.Event.{Event}
use Rattle.run_record.specs.declared.event.Event.TheVariants as events
use Rattle.run_record.specs.declared.entry.DeskNote.TheVariants as notes
use Rattle.run_record.specs.declared.entry.Label.{Label}
use Rattle.run_record.specs.declared.entry.Check.{Check}
use Rattle.run_laws.specs.Moments.{Item, Does, Notes, NewEra, Past, Moment, moment_at, items}
use Rattle.run_laws.specs.Numbers.{up_from}
use Rattle.run_laws.specs.Accesses.{Access, access_of, end_of, mask_in, Part, part_in}
use Rattle.run_laws.specs.Labels.{label_of}
use Rattle.run_laws.specs.Words.{word_of}
use Rattle.run_laws.specs.Window.{TraceEvent, Labelled, Traced, traced_by, trace_before}
use Rattle.run_laws.specs.Checks.{ChecksPart, AreChecks}
use Rattle.run_laws.specs.Candidates.{has_word}
use Rattle.trace_parts.specs.Snapshot.{Snapshot, nothing_yet, snapshot_after, after_all}
use Rattle.trace_parts.specs.Sought.{leaves_word, is_under, Seen, seen_from, is_sought}
use Rattle.report_laws.proofs.OnceLaw.{label_is}
use Rattle.report_laws.proofs.StandingLaw.{traced_own, standing, Stands}

seen_from-append : (s : Snapshot) (xs ys : List TraceEvent) → seen_from s (xs ++ ys) ≡ seen_from s xs ++ seen_from (after_all s xs) ys
seen_from-append s [] ys = refl
seen_from-append s (x ∷ xs) ys = ap (λ (es : List Seen). record { before = s; event = x } ∷ es) (seen_from-append (snapshot_after s x) xs ys)

-- an access covers bytes only of the blocks between its first and its last
covers : (a : Access) (block : ℕ) → mask_in a block ≢ 0 → (a.addr / 8 ≤ block) × (block < a.addr / 8 + ((end_of a + 7) / 8 - a.addr / 8))
covers a block some = (from (a.addr) block (first (a.addr) (min (end_of a - 8 * block) 8) (omega arith) some), upto (a.addr) (end_of a) block (first (a.addr) (min (end_of a - 8 * block) 8) (omega arith) some) (last (end_of a) (min (a.addr - 8 * block) 8) some))
  where
    first : (addr m : ℕ) → m ≤ 8 → 2 ^ m - 2 ^ min (addr - 8 * block) 8 ≢ 0 → addr < 8 * block + 8
    first addr m l d = elim (cases_lt addr (8 * block + 8)) [
      | inl y ↦ y
      | inr y ↦
          let e : min (addr - 8 * block) 8 ≡ 8 = omega arith in
          let p : 2 ^ m ≤ 2 ^ 8 = pow_mono {i = m} {j = 8} l in
          absurd (d (rw e (gone (2 ^ m) (2 ^ 8) p)))
    ]
      where
        gone : (x y : ℕ) → x ≤ y → x - y ≡ 0
        gone x y l = omega arith

    last : (end m : ℕ) → 2 ^ min (end - 8 * block) 8 - 2 ^ m ≢ 0 → 8 * block < end
    last end m d = elim (cases_lt (8 * block) end) [
      | inl y ↦ y
      | inr y ↦
          let e : min (end - 8 * block) 8 ≡ 0 = omega arith in
          let p = pow_pos m in
          absurd (d (rw e (gone (2 ^ m) p)))
    ]
      where
        gone : (y : ℕ) → 0 < y → 1 - y ≡ 0
        gone y l = omega arith

    from : (addr b : ℕ) → addr < 8 * b + 8 → addr / 8 ≤ b
    from addr b l = omega arith

    upto : (addr end b : ℕ) → addr < 8 * b + 8 → 8 * b < end → b < addr / 8 + ((end + 7) / 8 - addr / 8)
    upto addr end b l m = omega arith

-- the check of a part is among the checks of the access
check_among : (granule_of : ℕ → Option ℕ) (a : Access) (R : Part → Check → Type 0) (p : Check → Bool) (block : ℕ) (part : Part) → part_in granule_of a block ≡ Some part → ((c : Check) → R part c → p c ≡ true) →
    (k n : ℕ) → k ≤ block → block < k + n → (cs : List Check) → AllZip R (filter_map (part_in granule_of a) (up_from k n)) cs → list_any p cs ≡ true
check_among granule_of a R p block part is passes k zero l m cs z = absurd (omega arith)
check_among granule_of a R p block part is passes k (suc n) l m cs z = elim (cases_eq k block) [
  | inl e ↦ here cs (subst (λ o. AllZip R (cons_option o (filter_map (part_in granule_of a) (up_from (suc k) n))) cs) (ap (part_in granule_of a) e ∙ is) z)
  | inr d ↦ there (part_in granule_of a k) cs z (λ ds y. check_among granule_of a R p block part is passes (suc k) n (omega arith) (omega arith) ds y)
]
  where
    here : (cs : List Check) → AllZip R (part ∷ filter_map (part_in granule_of a) (up_from (suc k) n)) cs → list_any p cs ≡ true
    here [] z = absurd z
    here (c ∷ cs) z = rw (passes c z.0) refl

    there : (o : Option Part) (cs : List Check) → AllZip R (cons_option o (filter_map (part_in granule_of a) (up_from (suc k) n))) cs → ((ds : List Check) → AllZip R (filter_map (part_in granule_of a) (up_from (suc k) n)) ds → list_any p ds ≡ true) → list_any p cs ≡ true
    there None cs z rest = rest cs z
    there (Some x) [] z rest = absurd z
    there (Some x) (c ∷ cs) z rest = let r = rest cs z.1 in elim (cases_Bool (p c)) [ inl q ↦ rw q refl | inr q ↦ rw q r ]

module _ (l : Label) (address w : ℕ) where
  abbrev sought : Seen → Bool
  sought = is_sought l address w

  never : (b : Bool) (x : Seen) → (if b && false then Some x else None) ≡ None
  never true x = refl
  never false x = refl

  -- of an event's trace events, only the access is sought
  own_sought : (s : Snapshot) (e : Event) (o : Option Label) → (find sought (seen_from s (traced_own e o)) ≡ None) ⊎ ((a : Access) × (access_of e ≡ Some a) × (is_under l s.label ≡ true) × (leaves_word l address w a ≡ true))
  own_sought s (events.Create c) None = inl refl
  own_sought s (events.Create c) (Some m) = inl (never (is_under l s.label) (record { before = s; event = Labelled m }))
  own_sought s (events.Release a p r) None = inl refl
  own_sought s (events.Release a p r) (Some m) = inl (never (is_under l s.label) (record { before = s; event = Labelled m }))
  own_sought s (events.Access p a z r m) o = go (cases_Bool (is_under l s.label && leaves_word l address w (record { place = p; addr = a; size = z; read = r; atomic = m })))
    where
      go : ((is_under l s.label && leaves_word l address w (record { place = p; addr = a; size = z; read = r; atomic = m })) ≡ true) ⊎ ((is_under l s.label && leaves_word l address w (record { place = p; addr = a; size = z; read = r; atomic = m })) ≡ false) →
          (find (is_sought l address w) (seen_from s (traced_own (events.Access p a z r m) o)) ≡ None) ⊎ ((b : Access) × (access_of (events.Access p a z r m) ≡ Some b) × (is_under l s.label ≡ true) × (leaves_word l address w b ≡ true))
      go (inl e) = let q = and_parts (is_under l s.label) (leaves_word l address w (record { place = p; addr = a; size = z; read = r; atomic = m })) e in inr (record { place = p; addr = a; size = z; read = r; atomic = m }, refl, q.0, q.1)
      go (inr e) = inl (rw e refl)
  own_sought s (events.Enter f) o = inl (never (is_under l s.label) (record { before = s; event = Traced (events.Enter f) }))
  own_sought s events.Leave o = inl (never (is_under l s.label) (record { before = s; event = Traced events.Leave }))
  own_sought s (events.Lock a r) o = inl (never (is_under l s.label) (record { before = s; event = Traced (events.Lock a r) }))
  own_sought s (events.Unlock a r) o = inl (never (is_under l s.label) (record { before = s; event = Traced (events.Unlock a r) }))
  own_sought s _ o = inl refl

  -- and it is, where it left the word under the label
  own_found : (s : Snapshot) (e : Event) (o : Option Label) (a : Access) → access_of e ≡ Some a → is_under l s.label ≡ true → leaves_word l address w a ≡ true → find sought (seen_from s (traced_own e o)) ≡ Some (record { before = s; event = Traced e })
  own_found s (events.Access p b z r m) o a is under leaves =
      let same : record { place = p; addr = b; size = z; read = r; atomic = m } ≡ a = cc in
      let y : leaves_word l address w (record { place = p; addr = b; size = z; read = r; atomic = m }) ≡ true = subst (λ (x : Access). leaves_word l address w x ≡ true) (sym same) leaves in
      rw (under, y) refl
  own_found s _ o a is under leaves = absurd (cc)

-- a word that an access leaves in a block under its label is in the check of the block
module _ (g : ℕ) (granule_of : ℕ → Option ℕ) (h : List Moment) (checks : (n t : ℕ) (e : Event) → items h n ≡ Does t e → AreChecks g granule_of h n t (access_of e)) (u : ℕ) (stands : (n : ℕ) → n ≤ length h → Stands g h n u) (granule w block : ℕ) (l : Label) (granule_is : granule_of (8 * block) ≡ Some granule) where
  left_there : (n : ℕ) → n < length h → (e : Event) (a : Access) → items h n ≡ Does u e → access_of e ≡ Some a → is_under l (standing g h n u).label ≡ true → leaves_word l (8 * block) w a ≡ true → has_word granule w (moment_at h n) ≡ true
  left_there n within e a made is under leaves =
      let q = and_parts (not (mask_in a block == 0)) (word_of (mask_in a block) l a.read a.atomic == w) leaves in
      let some : mask_in a block ≢ 0 = some_mask (mask_in a block) q.0 in
      let r = covers a block some in
      check_among granule_of a (ChecksPart g h n u a) (λ (c : Check). (c.granule == granule) && (c.word == w)) block (record { granule = granule; mask = mask_in a block }) (is_part (mask_in a block) some)
      (λ (c : Check) p. and_from (c.granule == granule) (c.word == w) (eq-eqb c.granule granule p.granule) (eq-eqb c.word w (word c p q.1)))
      (a.addr / 8) ((end_of a + 7) / 8 - a.addr / 8) r.0 r.1 (moment_at h n).checks (subst (AreChecks g granule_of h n u) is (checks n u e made))
    where
      some_mask : (m : ℕ) → not (m == 0) ≡ true → m ≢ 0
      some_mask m e z = let y = rw z at e in cc

      is_part : (m : ℕ) → m ≢ 0 → ◌≡◌ {A = Option Part} (if m == 0 then None else option_map (λ (k : ℕ). record { granule = k; mask = m }) (granule_of (8 * block))) (Some (record { granule = granule; mask = m }))
      is_part m d = rw (ne_eqb m 0 d, granule_is) refl

      same_under : (m : Label) → (standing g h n u).label ≡ Some m → m ≡ l
      same_under m e = label_is l m (rw e at under)

      word : (c : Check) → ChecksPart g h n u a (record { granule = granule; mask = mask_in a block }) c → (word_of (mask_in a block) l a.read a.atomic == w) ≡ true → c.word ≡ w
      word c p e =
          let m : p.label ≡ l = same_under p.label ((stands n (omega arith)).label p.label p.labelled) in
          p.word ∙ ap (λ (x : Label). word_of (mask_in a block) x a.read a.atomic) m ∙ eqb-true (word_of (mask_in a block) l a.read a.atomic) w e

  abbrev found : List TraceEvent → Option Seen
  found es = find (is_sought l (8 * block) w) (seen_from nothing_yet es)

  abbrev here : ℕ → Option Seen
  here n = find (is_sought l (8 * block) w) (seen_from (standing g h n u) (traced_by g (items h) n u (items h n)))

  found-suc : (n : ℕ) → found (trace_before g (items h) (suc n) u) ≡ option_or (found (trace_before g (items h) n u)) (here n)
  found-suc n =
      ap (find (is_sought l (8 * block) w)) (seen_from-append nothing_yet (trace_before g (items h) n u) (traced_by g (items h) n u (items h n)))
      ∙ find-append (is_sought l (8 * block) w) (seen_from nothing_yet (trace_before g (items h) n u)) (seen_from (standing g h n u) (traced_by g (items h) n u (items h n)))

  abbrev at_item : ℕ → Item → Option Seen
  at_item n it = find (is_sought l (8 * block) w) (seen_from (standing g h n u) (traced_by g (items h) n u it))

  -- where an access of the position doesn't have the word, nothing is found there
  none_here : (n : ℕ) → n < length h → has_word granule w (moment_at h n) ≡ false → (it : Item) → items h n ≡ it → at_item n it ≡ None
  none_here n within none (Does v e) is = elim (cases_eq v u) [
    | inr d ↦ rw (ne_eqb v u d) refl
    | inl q ↦
        rw (eq-eqb v u q) (elim (own_sought l (8 * block) w (standing g h n u) e (label_of g (items h) (suc n) u)) [
          | inl z ↦ z
          | inr z ↦ absurd (let y = sym none ∙ left_there n within e z.0 (is ∙ ap (λ x. Does x e) q) z.1 z.2 z.3 in cc)
        ])
  ]
  none_here n within none (Notes v (notes.Attach m)) is = elim (cases_eq v u) [
    | inr d ↦ rw (ne_eqb v u d) refl
    | inl q ↦ rw (eq-eqb v u q) (never l (8 * block) w (is_under l (standing g h n u).label) (record { before = standing g h n u; event = Labelled m }))
  ]
  none_here n within none (Notes v (notes.Leave m)) is = refl
  none_here n within none (Notes v notes.Nothing) is = refl
  none_here n within none NewEra is = refl
  none_here n within none Past is = refl

  none_before : (x : ℕ) → x ≤ length h → ((k : ℕ) → k < x → has_word granule w (moment_at h k) ≡ false) → found (trace_before g (items h) x u) ≡ None
  none_before zero within none = refl
  none_before (suc n) within none =
      found-suc n ∙ ap₂ option_or (none_before n (omega arith) (λ k y. none k (omega arith))) (none_here n (omega arith) (none n (omega arith)) (items h n) refl)

  -- the first access with the word is the first one sought, from there on
  module _ (x : ℕ) (within : x < length h) (none : (k : ℕ) → k < x → has_word granule w (moment_at h k) ≡ false) (e : Event) (a : Access) (made : items h x ≡ Does u e) (is : access_of e ≡ Some a) (label : label_of g (items h) x u ≡ Some l) (leaves : leaves_word l (8 * block) w a ≡ true) where
    abbrev first : Seen
    first = record { before = standing g h x u; event = Traced e }

    under : is_under l (standing g h x u).label ≡ true
    under = rw ((stands x (omega arith)).label l label) (and_from ((l.sid == l.sid) && (l.epoch == l.epoch)) (l.era == l.era) (and_from (l.sid == l.sid) (l.epoch == l.epoch) (eq-eqb l.sid l.sid refl) (eq-eqb l.epoch l.epoch refl)) (eq-eqb l.era l.era refl))

    first_here : here x ≡ Some first
    first_here = ap (at_item x) made ∙ rw (eq-eqb u u refl) (own_found l (8 * block) w (standing g h x u) e (label_of g (items h) (suc x) u) a is under leaves)

    pub first_found : (n : ℕ) → x < n → found (trace_before g (items h) n u) ≡ Some first
    first_found zero later = absurd (omega arith)
    first_found (suc n) later = elim (cases_eq x n) [
      | inl q ↦ subst (λ k. found (trace_before g (items h) (suc k) u) ≡ Some first) q (found-suc x ∙ ap₂ option_or (none_before x (omega arith) none) first_here)
      | inr d ↦ found-suc n ∙ ap (λ (o : Option Seen). option_or o (here n)) (first_found n (omega arith))
    ]
