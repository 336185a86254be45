-- In a lawful history each word tells the label of its access.
use Rattle.std.proofs.Common.{◌≡◌, ℕ, ◌+◌, ◌-◌, ◌*◌, ◌/◌, ◌^◌, ◌<◌, ◌≤◌, ◌==◌, ◌&&◌, if◌then◌else◌, min, Bool, true, false, Option, Some, None, List, [], ◌∷◌, refl, sym, ap, subst, ◌∙◌, arith, inl, inr, eqb-true, eq-eqb, ◌≢◌}
use Rattle.std.specs.Prelude.{filter_map, option_map}
use Rattle.std.specs.List.{list_any, AllZip, cons_option}
use Rattle.std.proofs.Math.Pow.{pow_mono}
use Rattle.std.proofs.lemmas.Nat.{pow_pos}
use Rattle.std.proofs.lemmas.Bool.{cases_Bool, and_parts}
use Rattle.run_record.specs.declared.event.Event.{Event}
use Rattle.run_record.specs.declared.entry.Entry.{Entry}
use Rattle.run_record.specs.declared.entry.Check.{Check}
use Rattle.run_record.specs.declared.entry.Label.{Label}
use Rattle.run_record.specs.declared.limits.Limits.{Limits}
use Rattle.run_laws.specs.Moments.{Item, Does, Moment, moment_at, items, moments}
use Rattle.run_laws.specs.Labels.{labels, label_of}
use Rattle.run_laws.specs.DeskNotes.{TakesFront, AreNotes}
use Rattle.run_laws.specs.Accesses.{Access, access_of, Part, mask_in, end_of, part_in}
use Rattle.run_laws.specs.Numbers.{up_from}
use Rattle.run_laws.specs.Words.{word_of, sid, epoch, era}
use Rattle.run_laws.specs.Checks.{ChecksPart, AreChecks, AreAllChecks}
use Rattle.run_laws.specs.Candidates.{HasLabel, TellLabels}
use Rattle.run_laws.proofs.MomentsLaw.{checks_of_event}
use Rattle.run_laws.proofs.WordLaw.{sid-word_of, epoch-word_of, era-word_of}
use Rattle.run_laws.proofs.QueueLaw.{slots_within}
use Rattle.run_laws.proofs.EpochRange.{labels_fit}

-- masks are of eight bits
mask_small : (a : Access) (block : ℕ) → mask_in a block < 256
mask_small a block =
    let high : 2 ^ min (end_of a - 8 * block) 8 ≤ 2 ^ 8 = pow_mono {i = min (end_of a - 8 * block) 8} {j = 8} (omega arith) in
    let low = pow_pos (min (a.addr - 8 * block) 8) in
    let most : 2 ^ min (end_of a - 8 * block) 8 ≤ 256 = high in
    smaller (2 ^ min (end_of a - 8 * block) 8) (2 ^ min (a.addr - 8 * block) 8) most low
  where
    smaller : (x y : ℕ) → x ≤ 256 → 0 < y → x - y < 256
    smaller x y p q = omega arith

-- a part is that of a block of eight bytes
pub record IsOfBlock (granule_of : ℕ → Option ℕ) (a : Access) (block : ℕ) (p : Part) : Type 0 where
  pub mask_is : p.mask ≡ mask_in a block
  pub granule_is : granule_of (8 * block) ≡ Some p.granule
  pub some : p.mask ≢ 0

part_is : (granule_of : ℕ → Option ℕ) (a : Access) (block : ℕ) (p : Part) → part_in granule_of a block ≡ Some p → IsOfBlock granule_of a block p
part_is granule_of a block p e = go (mask_in a block == 0) (granule_of (8 * block)) refl refl e
  where
    go : (b : Bool) (o : Option ℕ) → (mask_in a block == 0) ≡ b → granule_of (8 * block) ≡ o → (if b then None else option_map (λ (g : ℕ). record { granule = g; mask = mask_in a block }) o) ≡ Some p → IsOfBlock granule_of a block p
    go true o z r q = absurd (cc)
    go false None z r q = absurd (cc)
    go false (Some g) z r q =
        let s : record { granule = g; mask = mask_in a block } ≡ p = cc in
        let m = ap (λ (x : Part). x.mask) s in
        record { mask_is = sym m; granule_is = r ∙ ap (λ (x : Part). Some x.granule) s; some = λ n. let y = sym z ∙ eq-eqb (mask_in a block) 0 (m ∙ n) in cc }

-- of checks that go with parts, one that passes a test goes with a part
pub record Found (granule_of : ℕ → Option ℕ) (a : Access) (R : Part → Check → Type 0) (p : Check → Bool) : Type 0 where
  pub part : Part
  pub check : Check
  pub goes : R part check
  pub passes : p check ≡ true
  pub block : ℕ
  pub of_block : IsOfBlock granule_of a block part
  pub small : part.mask < 256

pub found_in : (granule_of : ℕ → Option ℕ) (a : Access) (R : Part → Check → Type 0) (p : Check → Bool) (bs : List ℕ) (cs : List Check) → AllZip R (filter_map (part_in granule_of a) bs) cs → list_any p cs ≡ true → Found granule_of a R p
found_in granule_of a R p [] [] z e = absurd (cc)
found_in granule_of a R p [] (c ∷ cs) z e = absurd z
found_in granule_of a R p (b ∷ bs) cs z e = go (found_in granule_of a R p bs) (part_in granule_of a b) refl cs z e
  where
    go : ((cs : List Check) → AllZip R (filter_map (part_in granule_of a) bs) cs → list_any p cs ≡ true → Found granule_of a R p) → (o : Option Part) → part_in granule_of a b ≡ o → (cs : List Check) → AllZip R (cons_option o (filter_map (part_in granule_of a) bs)) cs → list_any p cs ≡ true → Found granule_of a R p
    go rest None q cs z e = rest cs z e
    go rest (Some part) q [] z e = absurd z
    go rest (Some part) q (c ∷ cs) z e = elim (cases_Bool (p c)) [
      | inl y ↦ record { part = part; check = c; goes = z.0; passes = y; block = b; of_block = part_is granule_of a b part q; small = subst (λ m. m < 256) (sym (part_is granule_of a b part q).mask_is) (mask_small a b) }
      | inr y ↦ rest cs z.1 (let r = rw y at e in r)
    ]

-- the parts of a label
pub label_parts : (g : ℕ) (h : ℕ → Item) (n t : ℕ) (l : Label) → label_of g h n t ≡ Some l → ((labels g h n).slot_of t ≡ Some l.sid) × ((labels g h n).epoch l.sid ≡ l.epoch) × ((labels g h n).era ≡ l.era)
label_parts g h n t l e = go ((labels g h n).slot_of t) refl e
  where
    go : (o : Option ℕ) → (labels g h n).slot_of t ≡ o → option_map (λ (s : ℕ). record { sid = s; epoch = (labels g h n).epoch s; era = (labels g h n).era }) o ≡ Some l → ((labels g h n).slot_of t ≡ Some l.sid) × ((labels g h n).epoch l.sid ≡ l.epoch) × ((labels g h n).era ≡ l.era)
    go None q e = absurd (cc)
    go (Some s) q e =
        let r : record { sid = s; epoch = (labels g h n).epoch s; era = (labels g h n).era } ≡ l = cc in
        let a : s ≡ l.sid = ap (λ (x : Label). x.sid) r in
        let b : (labels g h n).epoch s ≡ l.epoch = ap (λ (x : Label). x.epoch) r in
        let c : (labels g h n).era ≡ l.era = ap (λ (x : Label). x.era) r in
        (q ∙ ap Some a, subst (λ x. (labels g h n).epoch x ≡ l.epoch) a b, c)

pub takes_front : (limits : Limits) (needs_slot : ℕ → Bool) (h : List Moment) → AreNotes limits needs_slot h → TakesFront limits.epochs limits.slots (items h)
takes_front limits needs_slot h notes n t l e = let r = notes.attached n t l e in (r.unlabelled, (r.rest, r.front))

pub no_any : (p : Check → Bool) (cs : List Check) → list_any p cs ≡ true → cs ≡ [] → ⊥
no_any p cs e q = let r = rw q at e in cc

pub tell_labels :
    (limits : Limits) (granule_of : ℕ → Option ℕ) (needs_slot : ℕ → Bool) (entries : List Entry) →
    limits.slots ≤ 255 → 1 ≤ limits.epochs → limits.epochs ≤ 16383 → AreNotes limits needs_slot (moments entries) → AreAllChecks limits.epochs granule_of entries (moments entries) →
    TellLabels limits.epochs (moments entries)
tell_labels limits granule_of needs_slot entries few some most notes checks x granule w has =
    let made = checks_of_event entries x (no_any (λ (c : Check). (c.granule == granule) && (c.word == w)) (moment_at (moments entries) x).checks has) in
    from made.0 made.1 made.2 (access_of made.1) refl (checks.of_events x made.0 made.1 made.2)
  where
    from : (t : ℕ) (e : Event) → items (moments entries) x ≡ Does t e → (o : Option Access) → access_of e ≡ o →
        AreChecks limits.epochs granule_of (moments entries) x t o → HasLabel limits.epochs (moments entries) x w
    from t e made None q none = absurd (no_any (λ (c : Check). (c.granule == granule) && (c.word == w)) (moment_at (moments entries) x).checks has none)
    from t e made (Some a) q zip =
        let f = found_in granule_of a (ChecksPart limits.epochs (moments entries) x t a) (λ (c : Check). (c.granule == granule) && (c.word == w)) (up_from (a.addr / 8) ((end_of a + 7) / 8 - a.addr / 8)) (moment_at (moments entries) x).checks zip has in
        let word : f.check.word ≡ w = eqb-true f.check.word w (and_parts (f.check.granule == granule) (f.check.word == w) f.passes).1 in
        let p = label_parts limits.epochs (items (moments entries)) x t f.goes.label f.goes.labelled in
        let slot : f.goes.label.sid < limits.slots = slots_within limits.epochs limits.slots (items (moments entries)) (takes_front limits needs_slot (moments entries) notes) x t f.goes.label.sid p.0 in
        let fit = (labels_fit limits.epochs (items (moments entries)) x some).most f.goes.label.sid in
        let small : f.goes.label.sid < 256 = omega arith in
        let p1 = p.1 in
        let short : f.goes.label.epoch < 16384 = omega arith in
        let is : word_of f.part.mask f.goes.label a.read a.atomic ≡ w = sym f.goes.word ∙ word in
        let s : sid w ≡ f.goes.label.sid = subst (λ y. sid y ≡ f.goes.label.sid) is (sid-word_of f.part.mask f.goes.label a.read a.atomic f.small small) in
        let r : epoch w ≡ f.goes.label.epoch = subst (λ y. epoch y ≡ f.goes.label.epoch) is (epoch-word_of f.part.mask f.goes.label a.read a.atomic f.small small short) in
        let i : era w ≡ f.goes.label.era = subst (λ y. era y ≡ f.goes.label.era) is (era-word_of f.part.mask f.goes.label a.read a.atomic f.small small short) in
        record { tid = t; event = e; made = made; slot = p.0 ∙ ap Some (sym s); epoch_is = subst (λ y. (labels limits.epochs (items (moments entries)) x).epoch y ≡ epoch w) (sym s) (p1 ∙ sym r); era_is = p.2 ∙ sym i }
