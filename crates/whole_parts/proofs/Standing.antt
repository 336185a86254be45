-- What workers and places keep, beside the world and the moments of the entries that are listed so far.
use Rattle.std.proofs.Common.{◌≡◌, ◌≤◌, ℕ, suc, ◌+◌, Bool, true, false, cond, List, [], ◌∷◌, ◌++◌, length, refl, sym, ap, subst, ◌∙◌, arith, length-append}
use Rattle.std.specs.Prelude.{map, None, Ok}
use Rattle.std.specs.List.{AllZip}
use Rattle.std.proofs.lemmas.List.{append_assoc, append-nil}
use Rattle.std.proofs.lemmas.List.Sums.{fold-append}
use Rattle.std.proofs.lemmas.Slice.Zip.{AllZip-long}
use Rattle.run_record.specs.declared.entry.Entry.{Entry}
use Rattle.run_record.specs.declared.limits.Limits.{Limits}
use Rattle.elf_image.specs.File.{image_of}
use Rattle.run_laws.specs.Moments.{Moment, moment_at, entry_moments, moments_in, last_era}
use Rattle.run_laws.specs.Labels.{Labels, labels}
use Rattle.run_laws.specs.Faithful.{Bare, after, state_after}
use Rattle.run_laws.proofs.PresentLaw.{labels_now-push}
use Rattle.bare_machine.specs.World.{World, start}
use Rattle.machine_laws.specs.Machine.{bare_of}
use Rattle.turn_orders.specs.Lists.{Each}
use Rattle.turn_orders.specs.Machine.{State}
use Rattle.turn_orders.specs.Machine as orders
use Rattle.turn_orders.specs.LineUp.{Stamped, plain, calls}
use Rattle.turn_laws.specs.Going.{AreAlike}
use Rattle.joint_turns.specs.Joint.{Value}
use Rattle.watched_turns.specs.Checking.{checked_of}
use Rattle.watched_turns.specs.Turns.{Local, Told, era_after}
use Rattle.watched_turns.specs.Along.{StandFrom, IsWatched, StampedDeed, told_of, all_of}
use Rattle.watched_turns.specs.Rounds as eras
use Rattle.turn_histories.specs.Entries.{IsTold}
use Rattle.turn_histories.specs.Rounds.{IsIn, first_stamped}
use Rattle.turn_histories.proofs.Rounds.{an_era, moments_of, all_told}
use Rattle.turn_histories.proofs.Along.{world_over, AllFacts, Along, along}
use Rattle.race_core.specs.Watched.{AreWatcherLimits}
use Rattle.race_core.specs.History.{era_now}
use Rattle.woven_turns.specs.Weave.{LinesUp}
use Rattle.woven_turns.specs.Following.{left_after, deeds_of}
use Rattle.placed_detector.specs.Standing.{Hand, Held, Standing}
use Rattle.placed_detector.specs.Slots.{in_new_era}
use Rattle.placed_detector.proofs.First.{first_stands}
use Rattle.placed_detector.proofs.Longer.{watched_stays}
use Rattle.placed_detector.proofs.Slots.{era_standing}
use Rattle.deed_histories.specs.Lines.{HandDeed, acts_of, entries_of, IsHandDeed, stamped_turn, StandsStamped, FollowsDeeds}
use Rattle.deed_histories.specs.Rounds.{AreFirstStamped, between}
use Rattle.deed_histories.proofs.Lines.{era_entry, follows_deeds}
use Rattle.whole_parts.proofs.Alike.{entries_more, last_below, eras_more}

-- ---- what was told stands in a longer history

at_seam : (pre : List Moment) (m : Moment) (post : List Moment) → moment_at (pre ++ m ∷ post) (length pre) ≡ m
at_seam [] m post = refl
at_seam (x ∷ pre) m post = at_seam pre m post

stand_last : (pre ms : List Moment) (xs : List Told) → AllZip IsTold ms xs → StandFrom (pre ++ ms) (length pre) xs
stand_last pre [] [] z = tt
stand_last pre [] (x ∷ xs) z = absurd z
stand_last pre (m ∷ ms) [] z = absurd z
stand_last pre (m ∷ ms) (x ∷ xs) z =
    let here = at_seam pre m ms in
    let e : length (pre ++ m ∷ []) ≡ suc (length pre) = omega (arith, length-append pre (m ∷ [])) in (
      record { item = ap (λ (y : Moment). y.item) here ∙ z.0.item; checks = ap (λ (y : Moment). map checked_of y.checks) here ∙ z.0.checks },
      subst (λ (h : List Moment). StandFrom h (suc (length pre)) xs) (append_assoc pre (m ∷ []) ms)
          (subst (λ (i : ℕ). StandFrom ((pre ++ m ∷ []) ++ ms) i xs) e (stand_last (pre ++ m ∷ []) ms xs z.1)),
    )

-- no era begins within entries
era_entries : (g : ℕ) (h : List Moment) (es : List Entry) → era_now g (h ++ moments_of es) ≡ era_now g h
era_entries g h [] = ap (era_now g) (append-nil h)
era_entries g h (e ∷ es) = ap (era_now g) (sym (append_assoc h (entry_moments 0 e) (moments_of es))) ∙
    (era_entries g (h ++ entry_moments 0 e) es ∙ era_entry g h e)

first_era : (g : ℕ) → era_now g [] ≡ 0
unfolding labels
first_era g = refl

module _ (file : List ℕ) (limits : Limits) where
  abbrev pub Hands : Type 0
  Hands = State (Stamped Hand) (Stamped Held)

  abbrev pub bare : Bare World
  bare = bare_of file limits.harts

  -- All stands in that round and era, beside the world that the listed entries leave and their moments.
  pub record Stood (c : Hands) (round era : ℕ) (done : List Entry) : Type 0 where
    pub watched : State (Stamped Local) (Stamped Value)
    pub history : List Moment
    pub stands : StandsStamped file limits c watched (state_after bare done) history
    pub alike : AreAlike history (moments_in round era done)
    pub below : last_era done ≤ era
    pub era_is : era_now limits.epochs history ≡ era

  -- so it is at first
  pub first_stood : (c : Hands) → AreWatcherLimits limits → AreFirstStamped file limits c → Stood c 0 0 []
  first_stood c ranges are = record {
    watched = first_stamped file limits.slots;
    history = [];
    stands = record {
      standing = first_stands file limits ranges (plain c) are.first;
      locals = λ t. sym (are.threads t);
      values = λ k. sym (are.places k);
    };
    alike = tt;
    below = omega arith;
    era_is = first_era limits.epochs;
  }

  -- and when the next round begins
  pub next_stood : (c : Hands) (round era stamp : ℕ) (done : List Entry) (ends : Bool) → Stood c round era done →
      (ends ≡ true → (t : ℕ) → (c.local t).state.given ≡ None) → Stood (between era stamp ends c) (round + 1) (cond ends (era + 1) era) done
  next_stood c round era stamp done false s none = record {
    watched = eras.between limits.slots stamp false s.watched;
    history = s.history ++ [];
    stands = subst (StandsStamped file limits (between era stamp false c) (eras.between limits.slots stamp false s.watched) (state_after bare done))
        (sym (append-nil s.history)) (record { standing = s.stands.standing; locals = λ t. refl; values = s.stands.values });
    alike = eras_more round era done false s.history s.below s.alike;
    below = s.below;
    era_is = ap (era_now limits.epochs) (append-nil s.history) ∙ s.era_is;
  }
  next_stood c round era stamp done true s none =
      let rises : Labels → ℕ = λ l. l.era in record {
        watched = eras.between limits.slots stamp true s.watched;
        history = s.history ++ an_era ∷ [];
        stands = record {
          standing = subst (λ (n : ℕ). Standing file limits
              (in_new_era (n + 1) (plain c))
              (era_after limits.slots (plain s.watched)) (state_after bare done) (s.history ++ an_era ∷ [])) s.era_is
              (era_standing file limits (plain c) (plain s.watched) (state_after bare done) s.history an_era s.stands.standing refl (none refl));
          locals = λ t. refl;
          values = s.stands.values;
        };
        alike = eras_more round era done true s.history s.below s.alike;
        below = (let q = s.below in omega (arith, q));
        era_is = ap rises (labels_now-push limits.epochs s.history an_era) ∙ ap (λ (n : ℕ). n + 1) s.era_is;
      }

  -- ---- after deeds that line up, as they are listed

  module _ (ok : image_of file ≡ Ok file) (c : Hands) (round era : ℕ) (done : List Entry) (s : Stood c round era done) (ds : List HandDeed)
      (line : LinesUp c ds) (made : Each (IsHandDeed file limits era) ds) (inside : Each (IsIn round era) (entries_of ds)) where
    abbrev w : World
    w = state_after bare done

    abbrev es : List Entry
    es = entries_of ds

    abbrev h : List Moment
    h = s.history ++ moments_of es

    follows : FollowsDeeds file limits c s.watched s.history ds
    follows = follows_deeds file limits ok ds c s.watched w s.history line
        (subst (λ (n : ℕ). Each (IsHandDeed file limits n) ds) (sym s.era_is) made) s.stands

    -- the watched machine's turns
    abbrev pub turns : List StampedDeed
    turns = deeds_of (stamped_turn file limits) acts_of s.watched ds

    told : AllZip IsTold (moments_of es) (all_of (told_of turns))
    told = all_told file limits.harts limits.epochs turns es follows.told

    it : Along file limits.harts limits.epochs limits.slots ok h w (length s.history) s.watched turns es
    it = along file limits.harts limits.epochs limits.slots ok h w (length s.history) s.watched turns es
        (watched_stays file limits.harts limits.epochs limits.slots w s.history (moments_of es) (plain s.watched) s.stands.standing.watched)
        follows.line follows.told (stand_last s.history (moments_of es) (all_of (told_of turns)) told)

    -- each entry has the facts of its turn
    pub facts : AllFacts file limits.harts w turns es
    facts = it.facts

    same_world : world_over file limits.harts w es ≡ state_after bare (done ++ es)
    same_world = sym (fold-append (λ (x : World) (e : Entry). after bare x e.tid e.steps) (start file limits.harts) done es)

    long : length s.history + length (all_of (told_of turns)) ≡ length h
    long = (let q = AllZip-long IsTold (moments_of es) (all_of (told_of turns)) told in omega (arith, q, length-append s.history (moments_of es)))

    abbrev after_them : State (Stamped Local) (Stamped Value)
    after_them = orders.after (stamped_turn file limits) s.watched (calls turns)

    watched_then : IsWatched file limits.harts limits.epochs limits.slots (state_after bare (done ++ es)) h (length h) (plain after_them)
    watched_then =
        subst (λ (z : World). IsWatched file limits.harts limits.epochs limits.slots z h (length h) (plain after_them)) same_world
        (subst (λ (i : ℕ). IsWatched file limits.harts limits.epochs limits.slots (world_over file limits.harts w es) h i (plain after_them)) long it.watched)

    pub goes_on : Stood (left_after c ds) round era (done ++ es)
    goes_on = record {
      watched = after_them;
      history = h;
      stands = record {
        standing = record {
          watched = watched_then;
          leaving = follows.stands.standing.leaving;
          kept = follows.stands.standing.kept;
          given = follows.stands.standing.given;
          locals = follows.stands.standing.locals;
          values = follows.stands.standing.values;
        };
        locals = follows.stands.locals;
        values = follows.stands.values;
      };
      alike = entries_more round era done es s.history inside s.alike;
      below = last_below round era done es inside s.below;
      era_is = era_entries limits.epochs s.history es ∙ s.era_is;
    }
