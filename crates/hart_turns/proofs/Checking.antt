-- The parts of an access, checked one after another at the cells of the table, and the first word that races.
use Rattle.std.proofs.Common.{◌≡◌, ◌<◌, ℕ, ◌%◌, Option, Some, None, List, [], ◌∷◌, ◌++◌, length, get_or, append-nil, append_assoc, length-append, refl, ap, ap₂, sym, subst, ◌∙◌, arith}
use Rattle.std.specs.Prelude.{All, IsSome, IsSomeAnd, Result, Ok, Err, IfOk, OnOk, option_map, position, slice_index}
use Rattle.std.specs.Option.{option_or}
use Rattle.std.specs.List.{AllZip}
use Rattle.std.proofs.lemmas.Grind.{flat_map-append}
use Rattle.std.proofs.Math.Seq.{get_or-append_seam}
use Rattle.run_record.specs.declared.entry.Check.{Check}
use Rattle.run_record.specs.declared.entry.Label.{Label}
use Rattle.run_record.specs.declared.event.Event.{Event}
use Rattle.run_record.specs.declared.no_memory.NoMemory.{NoMemory}
use Rattle.elf_image.specs.File.{image_of, granule_of, granules_of}
use Rattle.run_laws.specs.Accesses.{Access, access_of, Part, parts_of}
use Rattle.run_laws.specs.Candidates.{is_race}
use Rattle.run_laws.specs.Checks.{StoresRightly}
use Rattle.report_laws.specs.Sound.{race_in, first_race_in}
use Rattle.report_laws.proofs.CheckRaces.{next_check, race_at}
use Rattle.turn_orders.proofs.Members.{each_append}
use Rattle.race_core.specs.Watched.{Watched}
use Rattle.race_core.specs.declared.watcher.Candidate.{Candidate}
use Rattle.race_core.specs.Walk.{pair_of, planned}
use Rattle.race_core.proofs.PartsLaws.{with_bytes, of_granules}
use Rattle.shared_table.specs.Past.{Log}
use Rattle.shared_table.specs.Steps.{Mine}
use Rattle.placed_detector.specs.Instructions.{ChecksAccess, ChecksPart}
use Rattle.hart_events.specs.declared.checks.Raced.{Raced}
use Rattle.hart_events.specs.Checks.{raced_of, waits_on}
use Rattle.hart_parts.specs.Parts.{touches_of, all_touches}
use Rattle.hart_turns.specs.Checks.{with_items, MadeSteps, IsCheckOn, raced_in, ChecksAll, Checks, Half}
use Rattle.std.specs.Prelude.{map}

-- ---- steps of a seat

pub no_items : (me : Mine) → with_items [] me ≡ me
no_items me = ap (λ (log : Log). (record me.0 { log = log }, me.1)) (append-nil me.0.log)

pub more_items : (xs ys : Log) (me : Mine) → with_items ys (with_items xs me) ≡ with_items (xs ++ ys) me
more_items xs ys me = ap (λ (log : Log). (record me.0 { log = log }, me.1)) (append_assoc me.0.log xs ys)

pub no_steps : (me : Mine) → MadeSteps me me
no_steps me = record { items = []; steps = sym (no_items me) }

pub more_steps : (old mid new : Mine) → MadeSteps old mid → MadeSteps mid new → MadeSteps old new
more_steps old mid new first then = record {
  items = first.items ++ then.items;
  steps = then.steps ∙ (ap (with_items then.items) first.steps ∙ more_items first.items then.items old);
}

-- ---- what is there

pub some_of : {X : Type 0} (o : Option X) → IsSome o → (x : X) × (o ≡ Some x)
some_of None s = absurd (cc)
some_of (Some x) s = (x, refl)

pub some_and : {X : Type 0} (P : X → Type 0) (o : Option X) → IsSomeAnd o P → (x : X) × (o ≡ Some x)
some_and P None s = absurd s
some_and P (Some x) s = (x, refl)

-- ---- the part that comes next

all_at : {X : Type 0} (P : X → Type 0) (all before after : List X) (x : X) → all ≡ before ++ (x ∷ after) → All P all → P x
all_at {X} P all before after x is each =
    let l : length before < length all = omega (arith, ap length is, length-append before (x ∷ after)) in
    subst P (ap (λ (xs : List X). get_or xs (length before) x) is ∙ get_or-append_seam before x after x) (each (length before) x l)

pub next_within : (file : List ℕ) (a : Access) (done left : List (ℕ × ℕ)) (p : ℕ × ℕ) → image_of file ≡ Ok file → planned file a ≡ done ++ (p ∷ left) → p.0 < granules_of file
next_within file a done left p accepted is = all_at (λ (q : ℕ × ℕ). q.0 < granules_of file) (planned file a) done left p is (of_granules file a accepted)

pub next_some : (file : List ℕ) (a : Access) (done left : List (ℕ × ℕ)) (p : ℕ × ℕ) → planned file a ≡ done ++ (p ∷ left) → p.1 ≡ 0 → ⊥
next_some file a done left p is = (all_at (λ (q : ℕ × ℕ). (q.1 ≡ 0 → ⊥) × (q.1 < 256)) (planned file a) done left p is (with_bytes file a)).0

-- ---- the walk

zip_more : {A B : Type 0} (R : A → B → Type 0) (xs : List A) (ys : List B) (x : A) (y : B) → AllZip R xs ys → R x y → AllZip R (xs ++ x ∷ []) (ys ++ y ∷ [])
zip_more R [] [] x y z r = (r, tt)
zip_more R [] (b ∷ ys) x y z r = absurd z
zip_more R (a ∷ xs) [] x y z r = absurd z
zip_more R (a ∷ xs) (b ∷ ys) x y z r = (z.0, zip_more R xs ys x y z.1 r)

zip_parts : (R : Part → Check → Type 0) (parts : List Part) (checks : List Check) →
    AllZip (λ (p : ℕ × ℕ) (c : Check). R (record { granule = p.0; mask = p.1 }) c) (map pair_of parts) checks → AllZip R parts checks
zip_parts R [] [] z = tt
zip_parts R [] (c ∷ cs) z = z
zip_parts R (p ∷ ps) [] z = z
zip_parts R (p ∷ ps) (c ∷ cs) z = (z.0, zip_parts R ps cs z.1)

-- ---- the first word that races

-- of some checks and one more, it is the first of the former, and else that of the latter
next_raced : (clock : ℕ → ℕ) (checks : List Check) (c : Check) (raced found : Option Raced) →
    raced ≡ raced_of (first_race_in clock checks) → found ≡ raced_in clock c → option_or raced found ≡ raced_of (first_race_in clock (checks ++ c ∷ []))
next_raced clock checks c raced found before now =
    ap₂ option_or before now ∙ (one_more (first_race_in clock checks) ∙ ap raced_of (sym (next_check clock checks c)))
  where
    mapped : (o : Option ℕ) → option_map {U = Raced} (λ (i : ℕ). record { granule = c.granule; word = slice_index c.cells i }) o
        ≡ raced_of (option_map (λ (w : ℕ). (c, w)) (option_map (slice_index c.cells) o))
    mapped None = refl
    mapped (Some i) = refl

    one_more : (o : Option (Check × ℕ)) → option_or (raced_of o) (raced_in clock c) ≡ raced_of (option_or o (option_map (λ (w : ℕ). (c, w)) (race_in clock c)))
    one_more (Some l) = refl
    one_more None = rw (race_at clock c) (mapped (position (is_race clock c.word) c.cells))

module _ (file : List ℕ) (w : Watched) (e : Event) (place : ℕ) where
  pub half_start : (checks : List Check) (me : Mine) (left : List (ℕ × ℕ)) → ((a : Access) → access_of e ≡ Some a → left ≡ planned file a) →
      Half file w e place checks checks me me left None
  half_start checks me left is = record {
    added = [];
    done = [];
    parts = λ a q. sym (is a q);
    checks_are = sym (append-nil checks);
    of_parts = λ a l q r. tt;
    stores = tt;
    of_event = tt;
    steps = sym (no_items me);
    raced_is = refl;
  }

  pub half_step : (before after : List Check) (old new then : Mine) (p : ℕ × ℕ) (left : List (ℕ × ℕ)) (turn : ℕ) (c : Check) (raced found : Option Raced) →
      Half file w e place before after old new (p ∷ left) raced → IsCheckOn w e place turn p.0 p.1 c → turn ≡ w.trace.count % 4 →
      then ≡ with_items (touches_of c) new → found ≡ raced_in (slice_index w.clock) c →
      Half file w e place before (after ++ c ∷ []) old then left (option_or raced found)
  half_step before after old new then p left turn c raced found half is turn_is steps found_is = record {
    added = half.added ++ c ∷ [];
    done = half.done ++ p ∷ [];
    parts = λ a q. half.parts a q ∙ sym (append_assoc half.done (p ∷ []) left);
    checks_are = ap (λ (xs : List Check). xs ++ c ∷ []) half.checks_are ∙ append_assoc before half.added (c ∷ []);
    of_parts = λ a l q r. zip_more (λ (p : ℕ × ℕ) (c : Check). ChecksPart w l a (record { granule = p.0; mask = p.1 }) c) half.done half.added p c
        (half.of_parts a l q r) (is.part a l q r turn_is);
    stores = each_append StoresRightly half.added (c ∷ []) half.stores (is.stores, tt);
    of_event = each_append (λ (c : Check). c.event ≡ place) half.added (c ∷ []) half.of_event (is.event, tt);
    steps = steps ∙ (ap (with_items (touches_of c)) half.steps ∙ (more_items (all_touches half.added) (touches_of c) old
        ∙ ap (λ (items : Log). with_items items old)
        (ap (λ (xs : Log). all_touches half.added ++ xs) (sym (append-nil (touches_of c))) ∙ sym (flat_map-append touches_of half.added (c ∷ [])))));
    raced_is = next_raced (slice_index w.clock) half.added c raced found half.raced_is found_is;
  }

  pub half_end : (before after : List Check) (old new : Mine) (left : List (ℕ × ℕ)) (raced : Option Raced) (a : Access) (l : Label) → access_of e ≡ Some a → w.label ≡ Some l →
      left ≡ [] → Half file w e place before after old new left raced → ChecksAll file w e place before after old new raced
  half_end before after old new left raced a l q r none half = record {
    added = half.added;
    checks_are = half.checks_are;
    of_access = subst (λ (o : Option Access). ChecksAccess file w o half.added) (sym q) (
      l,
      r,
      zip_parts (ChecksPart w l a) (parts_of (granule_of file) a) half.added
          (subst (λ (ps : List (ℕ × ℕ)). AllZip (λ (p : ℕ × ℕ) (c : Check). ChecksPart w l a (record { granule = p.0; mask = p.1 }) c) ps half.added)
          (sym (half.parts a q ∙ (ap (λ (xs : List (ℕ × ℕ)). half.done ++ xs) none ∙ append-nil half.done))) (half.of_parts a l q r)),
    );
    stores = half.stores;
    of_event = half.of_event;
    steps = half.steps;
    raced_is = half.raced_is;
  }

  -- and then the access waits, where a word races
  pub waited_for : (before after : List Check) (waited waiting : List Candidate) (old new : Mine) (raced : Option Raced) (r : Result (Unit {0}) NoMemory) →
      ChecksAll file w e place before after old new raced →
      ((a : Access) → access_of e ≡ Some a → OnOk r (waiting ≡ waits_on w a raced waited)) →
      IfOk r (λ done. Checks file w e place before after waited waiting old new)
  waited_for before after waited waiting old new raced (Ok u) all waits = record { raced = raced; checks = all; waits = waits }
  waited_for before after waited waiting old new raced (Err x) all waits = tt
