-- Deeds in the order in which they are listed, beside the history of their entries and the world that these leave.
use Rattle.std.proofs.Common.{◌≡◌, ◌+◌, Bool, true, false, cond, ℕ, suc, List, [], ◌∷◌, ◌++◌, length, map, length-append, append_assoc, append-nil, refl, sym, ap, subst, ◌∙◌, arith}
use Rattle.std.specs.Prelude.{◌==◌, None, Ok}
use Rattle.std.specs.List.{AllZip}
use Rattle.std.proofs.lemmas.Slice.Zip.{AllZip-long}
use Rattle.run_record.specs.declared.limits.Limits.{Limits}
use Rattle.elf_image.specs.File.{image_of}
use Rattle.run_laws.specs.Moments.{Moment, moment_at}
use Rattle.run_laws.specs.Labels.{Labels}
use Rattle.run_laws.proofs.PresentLaw.{labels_now-push}
use Rattle.bare_machine.specs.World.{World}
use Rattle.turn_orders.specs.Lists.{Each}
use Rattle.turn_orders.specs.Machine.{State, Turn, after}
use Rattle.turn_orders.specs.LineUp.{Deed, Stamped, plain, calls, of_thread, of_place, LocalsFollow, ValuesFollow}
use Rattle.turn_orders.proofs.Members.{filter_append}
use Rattle.joint_turns.specs.Joint.{Value}
use Rattle.watched_turns.specs.Checking.{checked_of}
use Rattle.watched_turns.specs.Turns.{Local, Act, Told}
use Rattle.watched_turns.specs.Along.{StandFrom, IsWatched, told_of, all_of}
use Rattle.watched_turns.specs.Rounds as watched
use Rattle.turn_histories.specs.Entries.{IsTold}
use Rattle.turn_histories.proofs.Along.{world_over, AllFacts, along}
use Rattle.turn_histories.proofs.Rounds.{an_era, eras_in, all_told}
use Rattle.race_core.specs.History.{era_now}
use Rattle.woven_turns.specs.Weave.{LinesUp}
use Rattle.woven_turns.specs.Following.{left_by, left_after, deeds_of}
use Rattle.woven_turns.proofs.Following.{rest_lines}
use Rattle.placed_detector.specs.Standing.{Hand, Held, Standing}
use Rattle.placed_detector.proofs.Longer.{watched_stays}
use Rattle.placed_detector.proofs.Slots.{era_standing}
use Rattle.deed_histories.specs.Lines.{HandDeed, acts_of, entries_of, moments_of, IsHandDeed, stamped_turn, StandsStamped}
use Rattle.deed_histories.specs.Rounds.{between}
use Rattle.deed_histories.proofs.Lines.{follows_deeds}

abbrev pub Hands : Type 0
Hands = State (Stamped Hand) (Stamped Held)

abbrev pub Watched : Type 0
Watched = State (Stamped Local) (Stamped Value)

-- ---- parts of a line

module _ {L O A T : Type 0} where
  locals_first : (l : L) (xs ys : List (Deed L O A T)) → LocalsFollow l (xs ++ ys) → LocalsFollow l xs
  locals_first l [] ys f = tt
  locals_first l (x ∷ xs) ys f = (f.0, locals_first x.local_left xs ys f.1)

  values_first : (v : O) (xs ys : List (Deed L O A T)) → ValuesFollow v (xs ++ ys) → ValuesFollow v xs
  values_first v [] ys f = tt
  values_first v (x ∷ xs) ys f = (f.0, values_first x.left xs ys f.1)

  -- the first part of a line is a line
  pub first_part : (m : State L O) (xs ys : List (Deed L O A T)) → LinesUp m (xs ++ ys) → LinesUp m xs
  first_part m xs ys h = record {
    locals = λ t. locals_first (m.local t) (of_thread t xs) (of_thread t ys)
        (subst (LocalsFollow (m.local t)) (filter_append (λ (d : Deed L O A T). d.call.thread == t) xs ys) (h.locals t));
    values = λ k. values_first (m.value k) (of_place k xs) (of_place k ys)
        (subst (ValuesFollow (m.value k)) (filter_append (λ (d : Deed L O A T). d.call.place == k) xs ys) (h.values k));
  }

  -- and so is the rest
  pub last_part : (m : State L O) (xs ys : List (Deed L O A T)) → LinesUp m (xs ++ ys) → LinesUp (left_after m xs) ys
  last_part m [] ys h = h
  last_part m (x ∷ xs) ys h = last_part (left_by m x) xs ys (rest_lines m x (xs ++ ys) h)

-- ---- what stands at the end of a history

at_end_of : (pre : List Moment) (m : Moment) (post : List Moment) → moment_at (pre ++ m ∷ post) (length pre) ≡ m
at_end_of [] m post = refl
at_end_of (x ∷ pre) m post = at_end_of pre m post

stand_last : (pre ms : List Moment) (xs : List Told) → AllZip IsTold ms xs → StandFrom (pre ++ ms) (length pre) xs
stand_last pre [] [] z = tt
stand_last pre [] (x ∷ xs) z = absurd z
stand_last pre (m ∷ ms) [] z = absurd z
stand_last pre (m ∷ ms) (x ∷ xs) z =
    let here = at_end_of pre m ms in
    let long : length (pre ++ m ∷ []) ≡ suc (length pre) = omega (arith, length-append pre (m ∷ [])) in (
      record {
        item = ap (λ (y : Moment). y.item) here ∙ z.0.item;
        checks = ap (λ (y : Moment). map checked_of y.checks) here ∙ z.0.checks;
      },
      subst (λ (h : List Moment). StandFrom h (suc (length pre)) xs) (append_assoc pre (m ∷ []) ms)
          (subst (λ (i : ℕ). StandFrom ((pre ++ m ∷ []) ++ ms) i xs) long (stand_last (pre ++ m ∷ []) ms xs z.1)),
    )

module _ (file : List ℕ) (limits : Limits) (ok : image_of file ≡ Ok file) where
  abbrev pub turn : Turn (Stamped Local) (Stamped Value) (List Act) (Stamped (List (List Told)))
  turn = stamped_turn file limits

  -- what stands with one world does with another that is watched there
  in_world : (c : State Hand Held) (m : State Local Value) (w v : World) (h : List Moment) → Standing file limits c m w h →
      IsWatched file limits.harts limits.epochs limits.slots v h (length h) m → Standing file limits c m v h
  in_world c m w v h s j = record { watched = j; leaving = s.leaving; kept = s.kept; given = s.given; locals = s.locals; values = s.values }

  -- what deeds come to, with the world that their entries leave
  pub record Advanced (c : Hands) (m : Watched) (w : World) (h : List Moment) (ds : List HandDeed) : Type 0 where
    pub facts : AllFacts file limits.harts w (deeds_of turn acts_of m ds) (entries_of ds)
    pub stands : StandsStamped file limits (left_after c ds) (after turn m (calls (deeds_of turn acts_of m ds)))
        (world_over file limits.harts w (entries_of ds)) (h ++ moments_of (entries_of ds))

  pub advance : (ds : List HandDeed) (c : Hands) (m : Watched) (w : World) (h : List Moment) → LinesUp c ds →
      Each (IsHandDeed file limits (era_now limits.epochs h)) ds → StandsStamped file limits c m w h → Advanced c m w h ds
  advance ds c m w h line made s =
      let f = follows_deeds file limits ok ds c m w h line made s in
      let xs = deeds_of turn acts_of m ds in
      let es = entries_of ds in
      let ms = moments_of es in
      let told = all_told file limits.harts limits.epochs xs es f.told in
      let stand = stand_last h ms (all_of (told_of xs)) told in
      let first = watched_stays file limits.harts limits.epochs limits.slots w h ms (plain m) s.standing.watched in
      let a = along file limits.harts limits.epochs limits.slots ok (h ++ ms) w (length h) m xs es first f.line f.told stand in
      let count = AllZip-long IsTold ms (all_of (told_of xs)) told in
      let end : length h + length (all_of (told_of xs)) ≡ length (h ++ ms) = omega (arith, count, length-append h ms) in
      let last = subst (λ (n : ℕ). IsWatched file limits.harts limits.epochs limits.slots (world_over file limits.harts w es) (h ++ ms) n
      (plain (after turn m (calls xs)))) end a.watched in
      record {
        facts = a.facts;
        stands = record {
          standing = in_world (plain (left_after c ds)) (plain (after turn m (calls xs))) f.world (world_over file limits.harts w es) (h ++ ms)
              f.stands.standing last;
          locals = f.stands.locals;
          values = f.stands.values;
        };
      }

  -- ---- between two rounds

  pub record Onward (c : Hands) (m : Watched) (w : World) (h : List Moment) (stamp era : ℕ) (ends : Bool) : Type 0 where
    pub stands : StandsStamped file limits (between era stamp ends c) (watched.between limits.slots stamp ends m) w (h ++ eras_in ends)
    pub era_is : era_now limits.epochs (h ++ eras_in ends) ≡ cond ends (era + 1) era

  pub onward : (c : Hands) (m : Watched) (w : World) (h : List Moment) (stamp era : ℕ) (ends : Bool) → StandsStamped file limits c m w h →
      era_now limits.epochs h ≡ era → (ends ≡ true → (t : ℕ) → (c.local t).state.given ≡ None) → Onward c m w h stamp era ends
  onward c m w h stamp era false s is none =
      let same : h ++ [] ≡ h = append-nil h in
      record {
        stands = subst (StandsStamped file limits (between era stamp false c) (watched.between limits.slots stamp false m) w) (sym same)
            (record { standing = s.standing; locals = λ t. refl; values = s.values });
        era_is = ap (era_now limits.epochs) same ∙ is;
      }
  onward c m w h stamp era true s is none = record {
    stands =
        let all : StandsStamped file limits (between (era_now limits.epochs h) stamp true c) (watched.between limits.slots stamp true m) w (h ++ an_era ∷ []) =
        record {
          standing = era_standing file limits (plain c) (plain m) w h an_era s.standing refl (none refl);
          locals = λ t. refl;
          values = s.values;
        } in
        subst (λ (n : ℕ). StandsStamped file limits (between n stamp true c) (watched.between limits.slots stamp true m) w (h ++ an_era ∷ [])) is all;
    era_is = ap (λ (l : Labels). l.era) (labels_now-push limits.epochs h an_era) ∙ ap (λ (n : ℕ). n + 1) is;
  }
