-- The two accesses of a report conflict.
use Rattle.std.proofs.Common.{◌≡◌, ◌≢◌, ℕ, zero, suc, ◌+◌, ◌-◌, ◌*◌, ◌/◌, ◌^◌, ◌<◌, ◌≤◌, ◌==◌, ◌&&◌, ◌||◌, not, min, max, Bool, true, false, nat_lt, bit_and, Option, Some, None, List, refl, sym, ap, subst, inl, inr, ◌∙◌, arith, eqb-true}
use Rattle.std.specs.List.{list_all}
use Rattle.std.proofs.lemmas.Bool.{cases_eq, and_parts, ltb-true}
use Rattle.run_record.specs.declared.event.Event.{Event}
use Rattle.run_record.specs.declared.entry.Entry.{Entry}
use Rattle.run_record.specs.declared.entry.Check.{Check}
use Rattle.run_record.specs.declared.limits.Limits.{Limits}
use Rattle.run_laws.specs.Moments.{Does, moment_at, items, moments}
use Rattle.run_laws.specs.Numbers.{up_from}
use Rattle.run_laws.specs.DeskNotes.{AreNotes}
use Rattle.run_laws.specs.Accesses.{Access, access_of, mask_in, end_of, Touches}
use Rattle.run_laws.specs.Words.{word_of, mask, is_read, is_atomic, opposes, shares_byte, era, sid}
use Rattle.run_laws.specs.Checks.{ChecksPart, AreChecks, AreAllChecks}
use Rattle.run_laws.specs.Candidates.{has_word}
use Rattle.run_laws.proofs.WordLaw.{mask-word_of, is_read-word_of, is_atomic-word_of}
use Rattle.run_laws.proofs.QueueLaw.{slots_within}
use Rattle.run_laws.proofs.EpochRange.{labels_fit}
use Rattle.run_laws.proofs.LabelLaw.{found_in, label_parts, takes_front}

-- masks of bytes from low on below high: where two have a bit in common, so have the ranges
abbrev test : ℕ → ℕ → ℕ → ℕ → Bool
test a b c d = (bit_and (2 ^ b - 2 ^ a) (2 ^ d - 2 ^ c) == 0) || nat_lt (max a c) (min b d)

abbrev nine : List ℕ
nine = up_from 0 9

all_test : list_all (λ a. list_all (λ b. list_all (λ c. list_all (test a b c) nine) nine) nine) nine ≡ true
all_test = refl

pub all_up : (p : ℕ → Bool) (k n : ℕ) → list_all p (up_from k n) ≡ true → (i : ℕ) → k ≤ i → i < k + n → p i ≡ true
all_up p k zero e i l m = absurd (omega arith)
all_up p k (suc n) e i l m =
    let r = and_parts (p k) (list_all p (up_from (suc k) n)) e in
    elim (cases_eq i k) [
      | inl q ↦ subst (λ z. p z ≡ true) (sym q) r.0
      | inr d ↦ all_up p (suc k) n r.1 i (omega arith) (omega arith)
    ]

ranges_meet : (a b c d : ℕ) → a ≤ 8 → b ≤ 8 → c ≤ 8 → d ≤ 8 → not (bit_and (2 ^ b - 2 ^ a) (2 ^ d - 2 ^ c) == 0) ≡ true → max a c < min b d
ranges_meet a b c d la lb lc ld e =
    let r1 = all_up (λ a. list_all (λ b. list_all (λ c. list_all (test a b c) nine) nine) nine) 0 9 all_test a (omega arith) (omega arith) in
    let r2 = all_up (λ b. list_all (λ c. list_all (test a b c) nine) nine) 0 9 r1 b (omega arith) (omega arith) in
    let r3 = all_up (λ c. list_all (test a b c) nine) 0 9 r2 c (omega arith) (omega arith) in
    let r4 = all_up (test a b c) 0 9 r3 d (omega arith) (omega arith) in
    from (bit_and (2 ^ b - 2 ^ a) (2 ^ d - 2 ^ c) == 0) e r4
  where
    from : (z : Bool) → not z ≡ true → (z || nat_lt (max a c) (min b d)) ≡ true → max a c < min b d
    from true p q = absurd (cc)
    from false p q = ltb-true (max a c) (min b d) q

opposes_rest : (v w : ℕ) → opposes v w ≡ true → (shares_byte w v ≡ true) × (not (is_read w && is_read v) ≡ true) × (not (is_atomic w && is_atomic v) ≡ true)
opposes_rest v w e =
    let a = not (w == 0) in
    let b = era w == era v in
    let c = not (sid w == sid v) in
    let d = shares_byte w v in
    let f = not (is_read w && is_read v) in
    let k = not (is_atomic w && is_atomic v) in
    let p5 = and_parts (a && b && c && d && f) k e in
    let p4 = and_parts (a && b && c && d) f p5.0 in
    let p3 = and_parts (a && b && c) d p4.0 in
    (p3.1, p4.1, p5.1)

-- an access with the word on the granule, as the word tells it
pub record Told (g : ℕ) (granule_of : ℕ → Option ℕ) (a : Access) (granule w : ℕ) : Type 0 where
  pub block : ℕ
  pub mask_is : mask w ≡ mask_in a block
  pub some : mask_in a block ≢ 0
  pub granule_is : granule_of (8 * block) ≡ Some granule
  pub read_is : is_read w ≡ a.read
  pub atomic_is : is_atomic w ≡ a.atomic

pub told_by :
    (limits : Limits) (granule_of : ℕ → Option ℕ) (needs_slot : ℕ → Bool) (entries : List Entry) →
    limits.slots ≤ 255 → 1 ≤ limits.epochs → limits.epochs ≤ 16383 → AreNotes limits needs_slot (moments entries) → AreAllChecks limits.epochs granule_of entries (moments entries) →
    (x t : ℕ) (e : Event) (a : Access) → items (moments entries) x ≡ Does t e → access_of e ≡ Some a → (granule w : ℕ) → has_word granule w (moment_at (moments entries) x) ≡ true → Told limits.epochs granule_of a granule w
told_by limits granule_of needs_slot entries few some most notes checks x t e a made is granule w has =
    let zip = subst (AreChecks limits.epochs granule_of (moments entries) x t) is (checks.of_events x t e made) in
    let f = found_in granule_of a (ChecksPart limits.epochs (moments entries) x t a) (λ (c : Check). (c.granule == granule) && (c.word == w)) (up_from (a.addr / 8) ((end_of a + 7) / 8 - a.addr / 8)) (moment_at (moments entries) x).checks zip has in
    let same = and_parts (f.check.granule == granule) (f.check.word == w) f.passes in
    let word : f.check.word ≡ w = eqb-true f.check.word w same.1 in
    let on : f.check.granule ≡ granule = eqb-true f.check.granule granule same.0 in
    let p = label_parts limits.epochs (items (moments entries)) x t f.goes.label f.goes.labelled in
    let slot : f.goes.label.sid < limits.slots = slots_within limits.epochs limits.slots (items (moments entries)) (takes_front limits needs_slot (moments entries) notes) x t f.goes.label.sid p.0 in
    let fit = (labels_fit limits.epochs (items (moments entries)) x some).most f.goes.label.sid in
    let small : f.goes.label.sid < 256 = omega arith in
    let p1 = p.1 in
    let short : f.goes.label.epoch < 16384 = omega arith in
    let told : word_of f.part.mask f.goes.label a.read a.atomic ≡ w = sym f.goes.word ∙ word in
    record {
      block = f.block;
      mask_is = subst (λ y. mask y ≡ mask_in a f.block) told (mask-word_of f.part.mask f.goes.label a.read a.atomic f.small ∙ f.of_block.mask_is);
      some = λ z. f.of_block.some (f.of_block.mask_is ∙ z);
      granule_is = f.of_block.granule_is ∙ ap Some (sym f.goes.granule ∙ on);
      read_is = subst (λ y. is_read y ≡ a.read) told (is_read-word_of f.part.mask f.goes.label a.read a.atomic f.small small short);
      atomic_is = subst (λ y. is_atomic y ≡ a.atomic) told (is_atomic-word_of f.part.mask f.goes.label a.read a.atomic f.small small short);
    }

not_both : (p q : Bool) → not (p && q) ≡ true → p ≡ true → q ≡ true → ⊥
not_both p q e a b = grind arith

-- two accesses with opposing words on one granule have a byte in common, and not both read, nor are both atomic
pub meet :
    (g : ℕ) (granule_of : ℕ → Option ℕ) → ((b c k : ℕ) → granule_of (8 * b) ≡ Some k → granule_of (8 * c) ≡ Some k → b ≡ c) →
    (a b : Access) (granule v w : ℕ) → opposes v w ≡ true → Told g granule_of a granule v → Told g granule_of b granule w →
    ((byte : ℕ) × Touches granule_of a byte × Touches granule_of b byte) × (a.read ≡ true → b.read ≡ true → ⊥) × (a.atomic ≡ true → b.atomic ≡ true → ⊥)
meet g granule_of one a b granule v w o p q = (common, λ x y. not_both (is_read w) (is_read v) rest.1 (q.read_is ∙ y) (p.read_is ∙ x), λ x y. not_both (is_atomic w) (is_atomic v) rest.2 (q.atomic_is ∙ y) (p.atomic_is ∙ x))
  where
    rest : (shares_byte w v ≡ true) × (not (is_read w && is_read v) ≡ true) × (not (is_atomic w && is_atomic v) ≡ true)
    rest = opposes_rest v w o

    block : q.block ≡ p.block
    block = one q.block p.block granule q.granule_is p.granule_is

    q_mask : mask w ≡ mask_in b p.block
    q_mask = q.mask_is ∙ ap (mask_in b) block

    meets : max (min (b.addr - 8 * p.block) 8) (min (a.addr - 8 * p.block) 8) < min (min (end_of b - 8 * p.block) 8) (min (end_of a - 8 * p.block) 8)
    meets =
        ranges_meet (min (b.addr - 8 * p.block) 8) (min (end_of b - 8 * p.block) 8) (min (a.addr - 8 * p.block) 8) (min (end_of a - 8 * p.block) 8) (omega arith) (omega arith) (omega arith) (omega arith)
        (subst (λ z. not (bit_and z (mask_in a p.block) == 0) ≡ true) q_mask (subst (λ z. not (bit_and (mask w) z == 0) ≡ true) p.mask_is rest.0))

    common : (byte : ℕ) × Touches granule_of a byte × Touches granule_of b byte
    common =
        let k = max (min (b.addr - 8 * p.block) 8) (min (a.addr - 8 * p.block) 8) in
        let byte = 8 * p.block + k in
        let m = meets in
        let is : byte / 8 ≡ p.block = omega arith in
        let there : granule_of (8 * (byte / 8)) ≢ None = (λ z. let y : granule_of (8 * p.block) ≡ None = subst (λ x. granule_of (8 * x) ≡ None) is z in let r = sym p.granule_is ∙ y in cc) in
        (byte, (omega arith, omega arith, there), (omega arith, omega arith, there))
