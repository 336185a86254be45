-- Rounds and their entries, beside the bare machine.
use Rattle.std.proofs.Common.{◌≡◌, ℕ, zero, suc, ◌+◌, Bool, true, false, cond, List, [], ◌∷◌, ◌++◌, length, refl, sym, ap, ap₂, subst, ◌∙◌, arith, length-append}
use Rattle.std.specs.Prelude.{map, fold, slice_index_or, Ok}
use Rattle.std.specs.List.{AllZip, flat_map}
use Rattle.std.proofs.lemmas.List.{append_assoc}
use Rattle.std.proofs.lemmas.Grind.{flat_map-append}
use Rattle.std.proofs.lemmas.List.Sums.{fold-append}
use Rattle.std.proofs.lemmas.Slice.Zip.{AllZip-long}
use Rattle.elf_image.specs.File.{image_of}
use Rattle.run_record.specs.declared.entry.Entry.{Entry}
use Rattle.run_laws.specs.Moments.{Moment, NewEra, moment_at, items, entry_moments}
use Rattle.run_laws.specs.Faithful.{after}
use Rattle.bare_machine.specs.World.{World}
use Rattle.machine_laws.specs.Machine.{bare_of}
use Rattle.turn_orders.specs.Machine.{State, many}
use Rattle.turn_orders.specs.Machine as orders
use Rattle.turn_orders.specs.LineUp.{Stamped, stamped, plain, calls}
use Rattle.turn_orders.specs.Rounds.{AreRounds, top, made_end, history}
use Rattle.turn_orders.proofs.Plain.{stamped_draws}
use Rattle.turn_orders.proofs.Sorting.{sorted_line, same_end}
use Rattle.joint_turns.specs.Joint.{Value}
use Rattle.watched_turns.specs.Turns.{Local, Told, watched_turn}
use Rattle.watched_turns.specs.Along.{StandsAt, StandFrom, IsWatched, StampedDeed, told_of, all_of}
use Rattle.watched_turns.specs.Rounds.{WatchedRound, between, round_told, round_end, EraStands, RoundsStand}
use Rattle.watched_turns.proofs.Rounds.{between_watched}
use Rattle.turn_histories.specs.Entries.{IsTold, IsEntryOf}
use Rattle.turn_histories.specs.Rounds.{IsRoundOf, AreRoundsOf, all_entries}
use Rattle.turn_histories.proofs.Along.{world_over, AllFacts, Along, along}

-- ---- a history in which the rounds stand

abbrev pub an_era : Moment
an_era = record { entry = 0; round = 0; item = NewEra; checks = [] }

abbrev pub eras_in : Bool → List Moment
eras_in ends = cond ends (an_era ∷ []) []

abbrev pub moments_of : List Entry → List Moment
moments_of es = flat_map (entry_moments 0) es

abbrev pub rounds_moments : List WatchedRound → List (List Entry) → List Moment
rounds_moments (r ∷ rs) (es ∷ ess) = moments_of es ++ (eras_in r.ends ++ rounds_moments rs ess)
rounds_moments _ _ = []

at_seam : (pre : List Moment) (m : Moment) (post : List Moment) → moment_at (pre ++ m ∷ post) (length pre) ≡ m
at_seam [] m post = refl
at_seam (x ∷ pre) m post = at_seam pre m post

seam : {X : Type 0} (pre : List X) (x : X) (post : List X) → (pre ++ x ∷ []) ++ post ≡ pre ++ x ∷ post
seam pre x post = append_assoc pre (x ∷ []) post

stand_middle : (pre ms post : List Moment) (xs : List Told) → AllZip IsTold ms xs → StandFrom (pre ++ (ms ++ post)) (length pre) xs
stand_middle pre [] post [] z = tt
stand_middle pre [] post (x ∷ xs) z = absurd z
stand_middle pre (m ∷ ms) post [] z = absurd z
stand_middle pre (m ∷ ms) post (x ∷ xs) z =
    let here = at_seam pre m (ms ++ post) in
    let e : length (pre ++ m ∷ []) ≡ suc (length pre) = omega (arith, length-append pre (m ∷ [])) in (
      record { item = ap (λ (y : Moment). y.item) here ∙ z.0.item; checks = ap (λ (y : Moment). map Rattle.watched_turns.specs.Checking.checked_of y.checks) here ∙ z.0.checks },
      subst (λ (h : List Moment). StandFrom h (suc (length pre)) xs) (seam pre m (ms ++ post))
          (subst (λ (i : ℕ). StandFrom ((pre ++ m ∷ []) ++ (ms ++ post)) i xs) e (stand_middle (pre ++ m ∷ []) ms post xs z.1)),
    )

pub zip_append : {A B : Type 0} (R : A → B → Type 0) (xs : List A) (bs : List B) (cs : List A) (ds : List B) → AllZip R xs bs → AllZip R cs ds → AllZip R (xs ++ cs) (bs ++ ds)
zip_append R [] [] cs ds p q = q
zip_append R [] (b ∷ bs) cs ds p q = absurd p
zip_append R (a ∷ xs) [] cs ds p q = absurd p
zip_append R (a ∷ xs) (b ∷ bs) cs ds p q = (p.0, zip_append R xs bs cs ds p.1 q)

module _ (file : List ℕ) (harts g : ℕ) where
  pub all_told : (ds : List StampedDeed) (es : List Entry) → AllZip (IsEntryOf file harts g) ds es → AllZip IsTold (moments_of es) (all_of (told_of ds))
  all_told [] [] z = tt
  all_told [] (e ∷ es) z = absurd z
  all_told (d ∷ ds) [] z = absurd z
  all_told (d ∷ ds) (e ∷ es) z =
      subst (AllZip IsTold (entry_moments 0 e ++ moments_of es)) (sym (flat_map-append (λ (xs : List Told). xs) d.told.state (told_of ds)))
      (zip_append IsTold (entry_moments 0 e) (all_of d.told.state) (moments_of es) (all_of (told_of ds)) z.0.told (all_told ds es z.1))

  era_stands : (pre post : List Moment) (ends : Bool) → EraStands (pre ++ (eras_in ends ++ post)) (length pre) ends
  era_stands pre post false = tt
  era_stands pre post true = ap (λ (m : Moment). m.item) (at_seam pre an_era post)

  pub era_length : (ends : Bool) → length (eras_in ends) ≡ cond ends 1 0
  era_length true = refl
  era_length false = refl

  pub rounds_stand : (pre : List Moment) (round era : ℕ) (rs : List WatchedRound) (ess : List (List Entry)) → AreRoundsOf file harts g round era rs ess → RoundsStand (pre ++ rounds_moments rs ess) (length pre) rs
  rounds_stand pre round era [] [] of = tt
  rounds_stand pre round era [] (es ∷ ess) of = absurd of
  rounds_stand pre round era (r ∷ rs) [] of = absurd of
  rounds_stand pre round era (r ∷ rs) (es ∷ ess) of =
      let told = all_told r.listed es of.0.entries in
      let rest = rounds_moments rs ess in
      let after_told = pre ++ moments_of es in
      let after_era = after_told ++ eras_in r.ends in
      let count : length (round_told r) ≡ length (moments_of es) = AllZip-long IsTold (moments_of es) (round_told r) told in
      let long : length after_told ≡ length pre + length (round_told r) = omega (arith, count, length-append pre (moments_of es)) in
      let long_era : length after_era ≡ round_end (length pre) r = omega (arith, long, era_length r.ends, length-append after_told (eras_in r.ends)) in
      let whole : after_told ++ (eras_in r.ends ++ rest) ≡ pre ++ (moments_of es ++ (eras_in r.ends ++ rest)) = append_assoc pre (moments_of es) (eras_in r.ends ++ rest) in
      let further : after_era ++ rest ≡ after_told ++ (eras_in r.ends ++ rest) = append_assoc after_told (eras_in r.ends) rest in (
        stand_middle pre (moments_of es) (eras_in r.ends ++ rest) (round_told r) told,
        subst (λ (h : List Moment). EraStands h (length pre + length (round_told r)) r.ends) whole (subst (λ (i : ℕ). EraStands (after_told ++ (eras_in r.ends ++ rest)) i r.ends) long (era_stands after_told rest r.ends)),
        subst (λ (h : List Moment). RoundsStand h (round_end (length pre) r) rs) (further ∙ whole)
            (subst (λ (i : ℕ). RoundsStand (after_era ++ rest) i rs) long_era (rounds_stand after_era (round + 1) (cond r.ends (era + 1) era) rs ess of.1)),
      )

-- ---- facts of all rounds

module _ (file : List ℕ) (harts : ℕ) where
  facts_append : (w : World) (ds : List StampedDeed) (es : List Entry) (later : List StampedDeed) (others : List Entry) → AllFacts file harts w ds es → AllFacts file harts (world_over file harts w es) later others → AllFacts file harts w (ds ++ later) (es ++ others)
  facts_append w [] [] later others p q = q
  facts_append w [] (e ∷ es) later others p q = absurd p
  facts_append w (d ∷ ds) [] later others p q = absurd p
  facts_append w (d ∷ ds) (e ∷ es) later others p q = (p.0, facts_append (after (bare_of file harts) w e.tid e.steps) ds es later others p.1 q)

  module _ (g slots : ℕ) (ok : image_of file ≡ Ok file) (h : List Moment) where
    abbrev pub own : Stamped Local → ℕ
    own l = l.last

    abbrev pub its : Stamped Value → ℕ
    its x = x.last

    abbrev pub all_listed : List WatchedRound → List StampedDeed
    all_listed rs = history (stamped (many (watched_turn file harts g))) (between slots) own its rs

    pub rounds_facts : (w : World) (n base round era : ℕ) (m : State (Stamped Local) (Stamped Value)) (rs : List WatchedRound) (ess : List (List Entry)) → IsWatched file harts g slots w h n (plain m)
        → AreRounds (stamped (many (watched_turn file harts g))) (between slots) own its base m rs → AreRoundsOf file harts g round era rs ess → RoundsStand h n rs
        → AllFacts file harts w (all_listed rs) (all_entries ess)
    rounds_facts w n base round era m [] [] j rounds of stand = tt
    rounds_facts w n base round era m [] (es ∷ ess) j rounds of stand = absurd of
    rounds_facts w n base round era m (r ∷ rs) [] j rounds of stand = absurd of
    rounds_facts w n base round era m (r ∷ rs) (es ∷ ess) j (same, made, rest) of stand =
        let turn = stamped (many (watched_turn file harts g)) in
        let draws = stamped_draws (many (watched_turn file harts g)) in
        let line = sorted_line turn own its m r.made r.listed draws made.line made.sorted made.same in
        let here = along file harts g slots ok h w n m r.listed es j line of.0.entries stand.0 in
        let high = top turn (between slots) own its r in
        let next = between_watched file harts g slots ok h (world_over file harts w es) (n + length (round_told r)) high r.ends (orders.after turn m (calls r.listed)) stand.1 here.watched in
        let end : between slots high r.ends (orders.after turn m (calls r.listed)) ≡ made_end turn (between slots) own its m r = ap (between slots high r.ends) (same_end turn own its m r.made r.listed draws made.line made.sorted made.same) in
        let later = rounds_facts (world_over file harts w es) (round_end n r) high (round + 1) (cond r.ends (era + 1) era) (made_end turn (between slots) own its m r) rs ess
        (subst (λ (s : State (Stamped Local) (Stamped Value)). IsWatched file harts g slots (world_over file harts w es) h (round_end n r) (plain s)) end next) rest of.1 stand.2 in
        facts_append w r.listed es (all_listed rs) (all_entries ess) here.facts later
