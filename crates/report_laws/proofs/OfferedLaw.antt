-- An access that loads the word of a race is offered as a report.
use Rattle.std.proofs.Common.{◌≡◌, ◌≢◌, ℕ, zero, suc, ◌+◌, ◌-◌, ◌*◌, ◌^◌, ◌<◌, ◌≤◌, ◌==◌, ◌&&◌, ◌||◌, not, min, max, ◌⊎◌, Bool, true, false, if◌then◌else◌, nat_lt, bit_and, Option, Some, None, List, [], ◌∷◌, ◌++◌, length, get_or, slice_get, map, refl, sym, ap, subst, inl, inr, ◌∙◌, arith, eqb-true, eq-eqb}
use Rattle.std.specs.Prelude.{find, fold, Contains}
use Rattle.std.specs.List.{list_all, list_any}
use Rattle.std.proofs.lemmas.Bool.{cases_Bool, cases_eq, cases_lt, cases_order, and_from, lt-ltb, ltb-true}
use Rattle.std.proofs.lemmas.List.Elements.{Contains-append_left, Contains-append_right}
use Rattle.run_record.specs.declared.event.Event.{Event}
use Rattle.run_record.specs.declared.event.Event.TheVariants as events
use Rattle.run_record.specs.declared.entry.Entry.{Entry}
use Rattle.run_record.specs.declared.entry.Check.{Check}
use Rattle.run_record.specs.declared.limits.Limits.{Limits}
use Rattle.run_record.specs.declared.plan.Turn.{Turn}
use Rattle.run_record.specs.declared.report.Report.{Report}
use Rattle.run_laws.specs.Numbers.{up_from}
use Rattle.std.proofs.Math.ListN.{get_or-eq_default}
use Rattle.run_laws.specs.Moments.{Does, Past, Moment, moment_at, items, moments}
use Rattle.run_laws.specs.Labels.{labels}
use Rattle.run_laws.specs.Clocks.{clocks}
use Rattle.run_laws.specs.SlotOrder.{SlotBefore}
use Rattle.run_laws.specs.Accesses.{Access, mask_in, end_of}
use Rattle.run_laws.specs.Words.{opposes, shares_byte, mask, sid, epoch, era, is_read, is_atomic}
use Rattle.run_laws.specs.Loads.{FindsEmpty, FindsWord}
use Rattle.run_laws.specs.Faithful.{Bare, Mode, needs_slot}
use Rattle.run_laws.specs.Lawful.{IsLawful}
use Rattle.run_laws.specs.Candidates.{has_word, is_race, loaded_by, IsCandidate, TellLabels, HasLabel}
use Rattle.run_laws.specs.Reports.{MakesAccess, IsReport, Finds, Start, Quiet, Race, is_equal, Kept, kept_after, AreReports}
use Rattle.run_laws.proofs.LabelLaw.{tell_labels}
use Rattle.run_laws.proofs.SlotLaw.{slots, same_slot_ordered, same_slot_epochs}
use Rattle.run_laws.proofs.OwnerLaw.{later_owner}
use Rattle.run_laws.proofs.FindLaw.{has_own_word, stores_own, candidate, loaded_in}
use Rattle.run_laws.proofs.ConflictLaw.{Told, told_by, all_up}
use Rattle.report_laws.specs.Sound.{IsSound, TellsAddresses}
use Rattle.report_laws.specs.Offered.{LoadsRace, IsOffered}

-- ---- what is found

-- an element that passes isn't passed over
not_none : {X : Type 0} (p : X → Bool) (xs : List X) (x : X) → Contains xs x → p x ≡ true → find p xs ≡ None → ⊥
not_none {X} p xs x (k, l, e) t none = go xs k l e none
  where
    go : (xs : List X) (k : ℕ) → k < length xs → get_or xs k x ≡ x → find p xs ≡ None → ⊥
    go [] k l e none = absurd (omega arith)
    go (y ∷ ys) zero l e none = let q : p y ≡ true = subst (λ z. p z ≡ true) (sym e) t in let z : ◌≡◌ {A = Option X} (Some y) None = rw q at none in cc
    go (y ∷ ys) (suc k) l e none = elim (cases_Bool (p y)) [
      | inl q ↦ let z : ◌≡◌ {A = Option X} (Some y) None = rw q at none in cc
      | inr q ↦ go ys k (omega arith) e (rw q at none)
    ]

-- each cell of a check is loaded with it
cell_loaded : (d : Check) (ws : List ℕ) (w : ℕ) → Contains ws w → Contains {X = Check × ℕ} (map (λ (w : ℕ). (d, w)) ws) (d, w)
cell_loaded d ws w (k, l, e) = go ws k l e
  where
    go : (ws : List ℕ) (k : ℕ) → k < length ws → get_or ws k w ≡ w → Contains {X = Check × ℕ} (map (λ (w : ℕ). (d, w)) ws) (d, w)
    go [] k l e = absurd (omega arith)
    go (v ∷ vs) zero l e = (0, omega arith, ap (λ x. (d, x)) e)
    go (v ∷ vs) (suc k) l e = let r = go vs k (omega arith) e in (suc r.0, omega (arith, r.1), r.2)

check_loaded : (cs : List Check) (c : Check) (w : ℕ) → Contains cs c → Contains c.cells w → Contains (loaded_in cs) (c, w)
check_loaded cs c w (k, l, e) among = go cs k l e
  where
    go : (cs : List Check) (k : ℕ) → k < length cs → get_or cs k c ≡ c → Contains (loaded_in cs) (c, w)
    go [] k l e = absurd (omega arith)
    go (d ∷ ds) zero l e = Contains-append_left (map (λ (w : ℕ). (d, w)) d.cells) (loaded_in ds) (c, w) (subst (λ (x : Check). Contains {X = Check × ℕ} (map (λ (w : ℕ). (x, w)) x.cells) (c, w)) (sym e) (cell_loaded c c.cells w among))
    go (d ∷ ds) (suc k) l e = Contains-append_right (map (λ (w : ℕ). (d, w)) d.cells) (loaded_in ds) (c, w) (go ds k (omega arith) e)

-- ---- bytes in common

abbrev nine : List ℕ
nine = up_from 0 9

-- masks of bytes from low on below high: where the ranges meet, so do the masks
abbrev test : ℕ → ℕ → ℕ → ℕ → Bool
test a b c d = not (nat_lt (max a c) (min b d)) || not (bit_and (2 ^ b - 2 ^ a) (2 ^ d - 2 ^ c) == 0)

all_test : list_all (λ a. list_all (λ b. list_all (λ c. list_all (test a b c) nine) nine) nine) nine ≡ true
all_test = refl

masks_meet : (a b c d : ℕ) → a ≤ 8 → b ≤ 8 → c ≤ 8 → d ≤ 8 → max a c < min b d → not (bit_and (2 ^ b - 2 ^ a) (2 ^ d - 2 ^ c) == 0) ≡ true
masks_meet a b c d la lb lc ld m =
    let r1 = all_up (λ a. list_all (λ b. list_all (λ c. list_all (test a b c) nine) nine) nine) 0 9 all_test a (omega arith) (omega arith) in
    let r2 = all_up (λ b. list_all (λ c. list_all (test a b c) nine) nine) 0 9 r1 b (omega arith) (omega arith) in
    let r3 = all_up (λ c. list_all (test a b c) nine) 0 9 r2 c (omega arith) (omega arith) in
    let r4 = all_up (test a b c) 0 9 r3 d (omega arith) (omega arith) in
    from (nat_lt (max a c) (min b d)) (lt-ltb (max a c) (min b d) m) r4
  where
    from : (z : Bool) → z ≡ true → (not z || not (bit_and (2 ^ b - 2 ^ a) (2 ^ d - 2 ^ c) == 0)) ≡ true → not (bit_and (2 ^ b - 2 ^ a) (2 ^ d - 2 ^ c) == 0) ≡ true
    from true p q = q
    from false p q = absurd (cc)

-- a mask that isn't empty
abbrev filled : ℕ → ℕ → Bool
filled a b = (2 ^ b - 2 ^ a == 0) || nat_lt a b

all_filled : list_all (λ a. list_all (filled a) nine) nine ≡ true
all_filled = refl

some_bytes : (a b : ℕ) → a ≤ 8 → b ≤ 8 → 2 ^ b - 2 ^ a ≢ 0 → a < b
some_bytes a b la lb d =
    let r1 = all_up (λ a. list_all (filled a) nine) 0 9 all_filled a (omega arith) (omega arith) in
    let r2 = all_up (filled a) 0 9 r1 b (omega arith) (omega arith) in
    from (2 ^ b - 2 ^ a == 0) (λ z. d (eqb-true (2 ^ b - 2 ^ a) 0 z)) r2
  where
    from : (z : Bool) → (z ≡ true → ⊥) → (z || nat_lt a b) ≡ true → a < b
    from true p q = absurd (p refl)
    from false p q = ltb-true a b q

-- two accesses that have a byte in common and both have bytes in a block have one there
common_in_block : (a b : Access) (block byte : ℕ) → a.addr ≤ byte → byte < end_of a → b.addr ≤ byte → byte < end_of b → mask_in a block ≢ 0 → mask_in b block ≢ 0 → not (bit_and (mask_in b block) (mask_in a block) == 0) ≡ true
common_in_block a b block byte la ua lb ub da db =
    let ra = some_bytes (min (a.addr - 8 * block) 8) (min (end_of a - 8 * block) 8) (omega arith) (omega arith) da in
    let rb = some_bytes (min (b.addr - 8 * block) 8) (min (end_of b - 8 * block) 8) (omega arith) (omega arith) db in
    masks_meet (min (b.addr - 8 * block) 8) (min (end_of b - 8 * block) 8) (min (a.addr - 8 * block) 8) (min (end_of a - 8 * block) 8) (omega arith) (omega arith) (omega arith) (omega arith)
    (meets a.addr (end_of a) b.addr (end_of b) (8 * block) byte la ua lb ub ra rb)
  where
    meets : (p q r s from byte : ℕ) → p ≤ byte → byte < q → r ≤ byte → byte < s → min (p - from) 8 < min (q - from) 8 → min (r - from) 8 < min (s - from) 8 → max (min (r - from) 8) (min (p - from) 8) < min (min (s - from) 8) (min (q - from) 8)
    meets p q r s from byte la ua lb ub ra rb = omega arith

neither : (p q : Bool) → (q ≡ true → p ≡ true → ⊥) → not (p && q) ≡ true
neither true true d = absurd (d refl refl)
neither true false d = refl
neither false q d = refl

differ : (x y : ℕ) → (x ≡ y → ⊥) → not (x == y) ≡ true
differ x y d = elim (cases_Bool (x == y)) [
  | inl q ↦ absurd (d (eqb-true x y q))
  | inr q ↦ rw q refl
]

does_thread : (t u : ℕ) (v w : Event) → Does t v ≡ Does u w → t ≡ u
does_thread t u v w e = cc

-- ---- the word races

module _ (limits : Limits) (granule_of : ℕ → Option ℕ) (address_of : ℕ → ℕ) (needs : ℕ → Bool) (entries : List Entry) (sound : IsSound limits granule_of needs entries) (addresses : TellsAddresses granule_of address_of) (a b : ℕ) (r : LoadsRace limits.epochs granule_of (moments entries) a b) where
  abbrev h : List Moment
  h = moments entries

  abbrev g : ℕ
  g = limits.epochs

  abbrev event : Access → Event
  event x = events.Access x.place x.addr x.size x.read x.atomic

  tell : TellLabels g h
  tell = tell_labels limits granule_of needs entries sound.few_slots sound.some_epochs sound.few_epochs sound.notes sound.checks

  own_word : has_word r.check.granule r.check.word (moment_at h a) ≡ true
  own_word = has_own_word (moment_at h a) r.check r.among

  own : HasLabel g h a r.check.word
  own = tell a r.check.granule r.check.word own_word

  old : HasLabel g h b r.word
  old = tell b r.check.granule r.word r.other_word

  mine : (labels g (items h) a).slot_of r.tid ≡ Some (sid r.check.word)
  mine = subst (λ u. (labels g (items h) a).slot_of u ≡ Some (sid r.check.word)) (does_thread own.tid r.tid own.event (event r.access) (sym own.made ∙ r.made)) own.slot

  theirs : (labels g (items h) b).slot_of r.other ≡ Some (sid r.word)
  theirs = subst (λ u. (labels g (items h) b).slot_of u ≡ Some (sid r.word)) (does_thread old.tid r.other old.event (event r.other_access) (sym old.made ∙ r.other_made)) old.slot

  one_era : (labels g (items h) b).era ≡ (labels g (items h) a).era
  one_era = old.era_is ∙ r.present

  apart : a ≡ b → ⊥
  apart q = r.conflict.threads_differ (does_thread r.tid r.other (event r.access) (event r.other_access) (sym r.made ∙ (ap (items h) q ∙ r.other_made)))

  my_part : Told g granule_of r.access r.check.granule r.check.word
  my_part = told_by limits granule_of needs entries sound.few_slots sound.some_epochs sound.few_epochs sound.notes sound.checks a r.tid (event r.access) r.access r.made refl r.check.granule r.check.word own_word

  other_part : Told g granule_of r.other_access r.check.granule r.word
  other_part = told_by limits granule_of needs entries sound.few_slots sound.some_epochs sound.few_epochs sound.notes sound.checks b r.other (event r.other_access) r.other_access r.other_made refl r.check.granule r.word r.other_word

  block : other_part.block ≡ my_part.block
  block = let x = addresses other_part.block r.check.granule other_part.granule_is in let y = addresses my_part.block r.check.granule my_part.granule_is in omega arith

  shares : shares_byte r.word r.check.word ≡ true
  shares =
      let c = r.conflict in
      let theirs_there : mask_in r.other_access my_part.block ≢ 0 = subst (λ k. mask_in r.other_access k ≢ 0) block other_part.some in
      let z = common_in_block r.access r.other_access my_part.block c.byte c.mine.0 c.mine.1 c.other.0 c.other.1 my_part.some theirs_there in
      subst (λ m. not (bit_and m (mask r.check.word) == 0) ≡ true) (sym (other_part.mask_is ∙ ap (mask_in r.other_access) block))
      (subst (λ m. not (bit_and (mask_in r.other_access my_part.block) m == 0) ≡ true) (sym my_part.mask_is) z)

  not_empty : r.word ≡ 0 → ⊥
  not_empty q = let z : shares_byte 0 r.check.word ≡ true = subst (λ w. shares_byte w r.check.word ≡ true) q shares in absurd (cc)

  -- were the slots the same, the label's thread would be ordered with a, or a would have loaded a later word
  same_slot : sid r.word ≡ sid r.check.word → ⊥
  same_slot q = elim (cases_order a b) [
    | inl e ↦ apart e
    | inr (inl l) ↦ later l (r.loaded)
    | inr (inr l) ↦ r.unordered (same_slot_ordered g (items h) b a r.other r.tid (sid r.word) (event r.other_access) (event r.access) l r.other_made r.made theirs mine_there one_era)
  ]
    where
      mine_there : (labels g (items h) a).slot_of r.tid ≡ Some (sid r.word)
      mine_there = mine ∙ ap Some (sym q)

      later : a < b → Contains r.check.cells r.word → ⊥
      later l (k, within, at) = from (sound.loads a r.check r.among k r.word (get k r.check.cells within at))
        where
          get : (k : ℕ) (cells : List ℕ) → k < length cells → get_or cells k r.word ≡ r.word → slice_get cells k ≡ Some r.word
          get k [] w e = absurd (omega arith)
          get zero (c ∷ cs) w e = ap Some e
          get (suc k) (c ∷ cs) w e = get k cs (omega arith) e

          risen : (labels g (items h) a).epoch (sid r.word) < (labels g (items h) b).epoch (sid r.word)
          risen = later_owner g (items h) a b r.tid r.other (sid r.word) (event r.access) (omega arith) r.made mine_there theirs (sym one_era) r.conflict.threads_differ

          from : ((r.word ≡ 0) × FindsEmpty g h a r.check.granule k) ⊎ ((r.word ≢ 0) × FindsWord g h a r.check.granule k r.word) → ⊥
          from (inl e) = not_empty e.0
          from (inr (d, f)) =
              let s = f.stored in
              let word : s.check.word ≡ r.word = stores_own s.check k r.word (sound.stores f.source s.check s.among) s.stored in
              let has = subst (λ z. has_word z r.word (moment_at h f.source) ≡ true) s.on_granule (subst (λ z. has_word s.check.granule z (moment_at h f.source) ≡ true) word (has_own_word (moment_at h f.source) s.check s.among)) in
              let x = tell f.source r.check.granule r.word has in
              elim (cases_order a f.source) [
                | inl e ↦ f.another (sym e)
                | inr (inl m) ↦ f.not_later (inr (same_slot_ordered g (items h) a f.source r.tid x.tid (sid r.word) (event r.access) x.event m r.made x.made mine_there x.slot (sym r.present ∙ sym x.era_is)))
                | inr (inr m) ↦
                    let y = same_slot_epochs g (items h) f.source a x.tid (sid r.word) x.event m x.made x.slot (x.era_is ∙ r.present) in
                    let o = old.epoch_is in
                    let n = x.epoch_is in
                    let w = risen in
                    absurd (omega arith)
              ]

  opposed : opposes r.check.word r.word ≡ true
  opposed =
      let c = r.conflict in
      let nonzero = differ r.word 0 not_empty in
      let eras = eq-eqb (era r.word) (era r.check.word) (r.present ∙ own.era_is) in
      let slots_differ = differ (sid r.word) (sid r.check.word) same_slot in
      let reads = neither (is_read r.word) (is_read r.check.word) (λ x y. c.not_both_read (sym my_part.read_is ∙ x) (sym other_part.read_is ∙ y)) in
      let atomics = neither (is_atomic r.word) (is_atomic r.check.word) (λ x y. c.not_both_atomic (sym my_part.atomic_is ∙ x) (sym other_part.atomic_is ∙ y)) in
      and_from _ _ (and_from _ _ (and_from _ _ (and_from _ _ (and_from _ _ nonzero eras) slots_differ) shares) reads) atomics

  abbrev clock : ℕ → ℕ
  clock = (clocks g (items h) a).thread r.tid

  unknown : clock (sid r.word) < epoch r.word
  unknown = elim (cases_lt (clock (sid r.word)) (epoch r.word)) [
    | inl l ↦ l
    | inr l ↦
        let law = slots g (items h) a b r.tid r.other (sid r.word) (event r.access) (event r.other_access) refl r.made r.other_made theirs one_era in
        absurd (known (law.0 (subst (λ e. e ≤ clock (sid r.word)) (sym old.epoch_is) l)))
  ]
    where
      known : SlotBefore g (items h) b a ⊎ ((b ≡ a) ⊎ ((a < b) × ((labels g (items h) a).slot_of r.tid ≡ Some (sid r.word)) × ((labels g (items h) a).epoch (sid r.word) ≡ (labels g (items h) b).epoch (sid r.word)))) → ⊥
      known (inl o) = r.unordered o
      known (inr (inl e)) = apart (sym e)
      known (inr (inr e)) = same_slot (let z = sym e.1 ∙ mine in cc)

  races : is_race clock r.check.word r.word ≡ true
  races = and_from (opposes r.check.word r.word) (nat_lt (clock (sid r.word)) (epoch r.word)) opposed (lt-ltb (clock (sid r.word)) (epoch r.word) unknown)

  abbrev finds : Check × ℕ → Bool
  finds l = is_race clock l.0.word l.1

  -- so the access has a candidate
  has_candidate : (c : Check) × ((w : ℕ) × IsCandidate g h a c w)
  has_candidate = from (find finds (loaded_by (moment_at h a))) refl
    where
      from : (o : Option (Check × ℕ)) → find finds (loaded_by (moment_at (moments entries) a)) ≡ o → (c : Check) × ((w : ℕ) × IsCandidate limits.epochs (moments entries) a c w)
      from None q = absurd (not_none finds (loaded_by (moment_at h a)) (r.check, r.word) (check_loaded (moment_at h a).checks r.check r.word r.among r.loaded) races q)
      from (Some (c, w)) q = (c, (w, (candidate limits granule_of needs entries sound.few_slots sound.some_epochs sound.few_epochs sound.notes sound.checks sound.stores sound.loads a r.tid (event r.access) r.made refl c w).0 q))

-- ---- what becomes of a report that was found

abbrev Becomes : (Option (List ℕ) → Option (List ℕ) → Bool) → Kept → Report → Type 0
Becomes meets k r = (meets r.mine.stack r.previous.stack ≡ true) ⊎ (Contains k.reports r ⊎ (list_any (is_equal r) k.reports ≡ true))

any_more : {X : Type 0} (p : X → Bool) (xs ys : List X) → list_any p xs ≡ true → list_any p (xs ++ ys) ≡ true
any_more p [] ys e = absurd (cc)
any_more p (x ∷ xs) ys e = elim (cases_Bool (p x)) [ inl q ↦ rw q refl | inr q ↦ rw q (any_more p xs ys (rw q at e)) ]

module _ (meets : Option (List ℕ) → Option (List ℕ) → Bool) where
  abbrev after : Bool → Bool → Kept → Report → Kept
  after p q k s = if p then record k { suppressed = k.suppressed + 1 } else if q then record k { equal = k.equal + 1 } else record k { reports = k.reports ++ s ∷ [] }

  stays_one : (p q : Bool) (k : Kept) (s r : Report) → Becomes meets k r → Becomes meets (after p q k s) r
  stays_one true q k s r e = e
  stays_one false true k s r e = e
  stays_one false false k s r (inl e) = inl e
  stays_one false false k s r (inr (inl e)) = inr (inl (Contains-append_left k.reports (s ∷ []) r e))
  stays_one false false k s r (inr (inr e)) = inr (inr (any_more (is_equal r) k.reports (s ∷ []) e))

  stays : (k : Kept) (found : List Report) (r : Report) → Becomes meets k r → Becomes meets (fold (kept_after meets) k found) r
  stays k [] r e = e
  stays k (s ∷ found) r e = stays (kept_after meets k s) found r (stays_one (meets s.mine.stack s.previous.stack) (list_any (is_equal s) k.reports) k s r e)

  new : (k : Kept) (r : Report) → Becomes meets (kept_after meets k r) r
  new k r = go (meets r.mine.stack r.previous.stack) (list_any (is_equal r) k.reports) refl refl
    where
      go : (p q : Bool) → meets r.mine.stack r.previous.stack ≡ p → list_any (is_equal r) k.reports ≡ q → Becomes meets (after p q k r) r
      go true q e f = inl e
      go false true e f = inr (inr f)
      go false false e f = inr (inl (Contains-append_right k.reports (r ∷ []) r (0, omega arith, refl)))

  becomes : (k : Kept) (found : List Report) (r : Report) → Contains found r → Becomes meets (fold (kept_after meets) k found) r
  becomes k found r (n, l, e) = go k found n l e
    where
      go : (k : Kept) (found : List Report) (n : ℕ) → n < length found → get_or found n r ≡ r → Becomes meets (fold (kept_after meets) k found) r
      go k [] n l e = absurd (omega arith)
      go k (s ∷ found) zero l e = stays (kept_after meets k s) found r (subst (λ x. Becomes meets (kept_after meets k x) r) (sym e) (new k r))
      go k (s ∷ found) (suc n) l e = go (kept_after meets k s) found n (omega arith) e

-- the report of an access with a candidate
record HasReport (limits : Limits) (address_of : ℕ → ℕ) (h : List Moment) (a : ℕ) (found : List Report) : Type 0 where
  check : Check
  word : ℕ
  candidate : IsCandidate limits.epochs h a check word
  report : Report
  report_is : IsReport limits address_of h a check.granule word report
  among : Contains found report

found_report :
    (limits : Limits) (address_of : ℕ → ℕ) (h : List Moment) (a n : ℕ) (found : List Report) → Finds limits address_of h n found → a < n →
    (c : Check) (w : ℕ) → IsCandidate limits.epochs h a c w → HasReport limits address_of h a found
found_report limits address_of h a _ _ Start l c w k = absurd (omega arith)
found_report limits address_of h a _ _ (Quiet {n = n} {found = f} before none) l c w k = elim (cases_eq a n) [
  | inl e ↦ absurd (none c w (subst (λ x. IsCandidate limits.epochs h x c w) e k))
  | inr d ↦ found_report limits address_of h a n f before (omega arith) c w k
]
found_report limits address_of h a _ _ (Race {n = n} {found = f} d v r before m told) l c w k = elim (cases_eq a n) [
  | inl e ↦
      record {
        check = d;
        word = v;
        candidate = subst (λ x. IsCandidate limits.epochs h x d v) (sym e) m;
        report = r;
        report_is = subst (λ x. IsReport limits address_of h x d.granule v r) (sym e) told;
        among = Contains-append_right f (r ∷ []) r (0, omega arith, refl);
      }
  | inr e ↦
      let i = found_report limits address_of h a n f before (omega arith) c w k in
      record { check = i.check; word = i.word; candidate = i.candidate; report = i.report; report_is = i.report_is; among = Contains-append_left f (r ∷ []) i.report i.among }
]

within : (h : List Moment) (a t : ℕ) (x : Access) → MakesAccess h a t x → a < length h
within h a t x made = elim (cases_lt a (length h)) [
  | inl l ↦ l
  | inr l ↦ absurd (let z = sym (ap (λ (m : Moment). m.item) (get_or-eq_default h (record { entry = 0; round = 0; item = Past; checks = [] }) l)) ∙ made in cc)
]

pub offered :
    {S : Type 0} (mode : Mode) (limits : Limits) (plan : List Turn) (bare : Bare S) (granule_of : ℕ → Option ℕ) (address_of : ℕ → ℕ) (meets : Option (List ℕ) → Option (List ℕ) → Bool) (entries : List Entry) (kept : Kept) →
    limits.slots ≤ 255 → 1 ≤ limits.epochs → limits.epochs ≤ 16383 → TellsAddresses granule_of address_of →
    IsLawful mode limits plan bare granule_of entries → AreReports limits address_of meets (moments entries) kept →
    (a b : ℕ) → LoadsRace limits.epochs granule_of (moments entries) a b → IsOffered limits address_of meets (moments entries) kept a
offered mode limits plan bare granule_of address_of meets entries kept few some most addresses lawful reports a b r =
    let sound : IsSound limits granule_of (needs_slot bare entries) entries = record { few_slots = few; some_epochs = some; few_epochs = most; notes = lawful.notes; checks = lawful.checks; stores = lawful.stores; loads = lawful.loads } in
    let k = has_candidate limits granule_of address_of (needs_slot bare entries) entries sound addresses a b r in
    let f = found_report limits address_of (moments entries) a (length (moments entries)) reports.found reports.found_all (within (moments entries) a r.tid r.access r.made) k.0 k.1.0 k.1.1 in
    record {
      check = f.check;
      word = f.word;
      candidate = f.candidate;
      report = f.report;
      report_is = f.report_is;
      becomes = subst (λ (x : Kept). Becomes meets x f.report) (sym reports.kept_is) (becomes meets (record { reports = []; suppressed = 0; equal = 0 }) reports.found f.report f.among);
    }
