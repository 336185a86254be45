-- Rounds of deeds: the watched machine follows them, and the entries as they are listed tell its rounds.
use Rattle.std.proofs.Common.{◌≡◌, ◌<◌, ◌≤◌, inl, inr, ℕ, ◌+◌, max, Bool, true, false, cond, List, [], ◌∷◌, ◌++◌, append_assoc, append-nil, refl, ap, ap₂, sym, subst, ◌∙◌}
use Rattle.std.specs.Prelude.{None, Ok}
use Rattle.std.specs.List.{AllZip}
use Rattle.run_record.specs.declared.entry.Entry.{Entry}
use Rattle.run_record.specs.declared.limits.Limits.{Limits}
use Rattle.elf_image.specs.File.{image_of}
use Rattle.run_laws.specs.Moments.{NewEra, Moment, entry_moments}
use Rattle.run_laws.specs.Labels.{Labels}
use Rattle.run_laws.proofs.PresentLaw.{labels_now-push}
use Rattle.bare_machine.specs.World.{World}
use Rattle.bare_machine.specs.Step.{desk}
use Rattle.turn_orders.specs.Lists.{Each}
use Rattle.turn_orders.specs.Machine.{State, Turn, after}
use Rattle.turn_orders.specs.LineUp.{Stamped, plain, calls, Before, IsSorted, greatest}
use Rattle.turn_orders.specs.Rounds.{Round, Starts, IsRound, AreRounds, made_end, last_made}
use Rattle.joint_turns.specs.Joint.{Value}
use Rattle.watched_turns.specs.Turns.{Local, Act, Told}
use Rattle.watched_turns.specs.Rounds as watched
use Rattle.watched_turns.specs.Rounds.{WatchedRound}
use Rattle.watched_turns.specs.Along.{StampedDeed}
use Rattle.turn_histories.specs.Entries.{IsEntryOf}
use Rattle.turn_histories.specs.Rounds as told
use Rattle.turn_histories.specs.Rounds.{IsIn, IsRoundOf, AreRoundsOf}
use Rattle.race_core.specs.History.{era_now}
use Rattle.woven_turns.specs.Following.{left_after, deeds_of, call_of}
use Rattle.turn_orders.specs.Machine.{next}
use Rattle.placed_detector.specs.Standing.{Hand, Held, Standing}
use Rattle.placed_detector.specs.Slots.{in_new_era}
use Rattle.placed_detector.proofs.Slots.{era_standing}
use Rattle.deed_histories.specs.Lines.{HandDeed, acts_of, entries_of, moments_of, IsHandDeed, stamped_turn, StandsStamped, FollowsDeeds}
use Rattle.deed_histories.specs.Rounds.{HandRound, hand_stamp, top, PartsEnd, between, hands_after, IsHandRound, AreHandRounds, listed_entries, FollowsRounds}
use Rattle.deed_histories.proofs.Lines.{era_entry, follows_deeds}
use Rattle.deed_histories.proofs.Permuted.{Moved, moved}

abbrev pub watched_stamp : Stamped Local → ℕ
watched_stamp l = l.last

abbrev pub place_stamp : Stamped Value → ℕ
place_stamp x = x.last

-- a turn of the watched machine goes with a deed
pub record Goes (file : List ℕ) (limits : Limits) (x : StampedDeed) (d : HandDeed) : Type 0 where
  pub entry : IsEntryOf file limits.harts limits.epochs x d.told.entry
  pub place : x.call.place ≡ d.call.place
  pub thread : x.call.thread ≡ d.call.thread
  pub stamp : x.local_left.last ≡ d.local_left.last

pub goes_all : (file : List ℕ) (limits : Limits) (era : ℕ) (ds : List HandDeed) (m : State (Stamped Local) (Stamped Value)) → AllZip
    (IsEntryOf file limits.harts limits.epochs) (deeds_of (stamped_turn file limits) acts_of m ds) (entries_of ds) → Each (IsHandDeed file limits era) ds →
    AllZip (Goes file limits) (deeds_of (stamped_turn file limits) acts_of m ds) ds
goes_all file limits era [] m z made = tt
goes_all file limits era (d ∷ ds) m z made = (
  record { entry = z.0; place = refl; thread = refl; stamp = z.0.stamp ∙ made.0.entry_stamp },
  goes_all file limits era ds (next (stamped_turn file limits) m (call_of (stamped_turn file limits) acts_of d)) z.1 made.1,
)

module _ (file : List ℕ) (limits : Limits) where
  pub entries_go : (xs : List StampedDeed) (ds : List HandDeed) → AllZip (Goes file limits) xs ds → AllZip (IsEntryOf file limits.harts limits.epochs) xs
      (entries_of ds)
  entries_go [] [] z = tt
  entries_go [] (d ∷ ds) z = absurd z
  entries_go (x ∷ xs) [] z = absurd z
  entries_go (x ∷ xs) (d ∷ ds) z = (z.0.entry, entries_go xs ds z.1)

  before_go : (x y : StampedDeed) (d e : HandDeed) → Goes file limits x d → Goes file limits y e → Before hand_stamp d e → Before watched_stamp x y
  before_go x y d e a b (inl l) = inl (subst (λ (n : ℕ). n < y.local_left.last) (sym a.stamp) (subst (λ (n : ℕ). d.local_left.last < n) (sym b.stamp) l))
  before_go x y d e a b (inr q) = inr (
    a.stamp ∙ (q.0 ∙ sym b.stamp),
    subst (λ (n : ℕ). n < y.call.thread) (sym a.thread)
        (subst (λ (n : ℕ). d.call.thread < n) (sym b.thread) q.1),
  )

  each_go : (x : StampedDeed) (d : HandDeed) (ys : List StampedDeed) (es : List HandDeed) → Goes file limits x d → AllZip (Goes file limits) ys es → Each
      (Before hand_stamp d) es → Each (Before watched_stamp x) ys
  each_go x d [] [] a z e = tt
  each_go x d [] (v ∷ es) a z e = absurd z
  each_go x d (y ∷ ys) [] a z e = absurd z
  each_go x d (y ∷ ys) (v ∷ es) a z e = (before_go x y d v a z.0 e.0, each_go x d ys es a z.1 e.1)

  pub sorted_go : (xs : List StampedDeed) (ds : List HandDeed) → AllZip (Goes file limits) xs ds → IsSorted hand_stamp ds → IsSorted watched_stamp xs
  sorted_go [] [] z s = tt
  sorted_go [] (d ∷ ds) z s = absurd z
  sorted_go (x ∷ xs) [] z s = absurd z
  sorted_go (x ∷ xs) (d ∷ ds) z s = (each_go x d xs ds z.0 z.1 s.0, sorted_go xs ds z.1 s.1)

  pub greatest_go : (xs : List StampedDeed) (ds : List HandDeed) → AllZip (Goes file limits) xs ds → greatest watched_stamp xs ≡ greatest hand_stamp ds
  greatest_go [] [] z = refl
  greatest_go [] (d ∷ ds) z = absurd z
  greatest_go (x ∷ xs) [] z = absurd z
  greatest_go (x ∷ xs) (d ∷ ds) z = ap₂ max z.0.stamp (greatest_go xs ds z.1)

  pub parts_go : (xs : List StampedDeed) (ds : List HandDeed) → AllZip (Goes file limits) xs ds → PartsEnd ds → told.PartsEnd xs (entries_of ds)
  parts_go [] [] z p = tt
  parts_go [] (d ∷ ds) z p = absurd z
  parts_go (x ∷ xs) [] z p = absurd z
  parts_go (x ∷ xs) (d ∷ ds) z p = ((λ some beyond. p.0 some (subst (λ (k : ℕ). desk < k) z.0.place beyond)), parts_go xs ds z.1 p.1)

-- no era begins within entries
pub era_entries : (g : ℕ) (h : List Moment) (es : List Entry) → era_now g (h ++ moments_of es) ≡ era_now g h
era_entries g h [] = ap (era_now g) (append-nil h)
era_entries g h (e ∷ es) = ap (era_now g) (sym (append_assoc h (entry_moments 0 e) (moments_of es))) ∙
    (era_entries g (h ++ entry_moments 0 e) es ∙ era_entry g h e)

abbrev pub era_moment : Moment
era_moment = record { entry = 0; round = 0; item = NewEra; checks = [] }

module _ (file : List ℕ) (limits : Limits) (ok : image_of file ≡ Ok file) where
  abbrev turn : Turn (Stamped Local) (Stamped Value) (List Act) (Stamped (List (List Told)))
  turn = stamped_turn file limits

  abbrev Hands : Type 0
  Hands = State (Stamped Hand) (Stamped Held)

  abbrev Watched : Type 0
  Watched = State (Stamped Local) (Stamped Value)

  -- ---- between two rounds

  pub record Between (c : Hands) (m : Watched) (stamp era : ℕ) (ends : Bool) : Type 0 where
    pub world : World
    pub history : List Moment
    pub stands : StandsStamped file limits (between era stamp ends c) (watched.between limits.slots stamp ends m) world history
    pub era_is : era_now limits.epochs history ≡ cond ends (era + 1) era

  pub between_stands : (c : Hands) (m : Watched) (w : World) (h : List Moment) (stamp era : ℕ) (ends : Bool) → StandsStamped file limits c m w h →
      era_now limits.epochs h ≡ era → (ends ≡ true → (t : ℕ) → (c.local t).state.given ≡ None) → Between c m stamp era ends
  between_stands c m w h stamp era false s is none = record {
    world = w;
    history = h;
    stands = record { standing = s.standing; locals = λ t. refl; values = s.values };
    era_is = is;
  }
  between_stands c m w h stamp era true s is none = record {
    world = w;
    history = h ++ era_moment ∷ [];
    stands = record {
      standing = subst (λ (n : ℕ). Standing file limits (in_new_era (n + 1) (plain c)) (plain (watched.between limits.slots stamp true m)) w
          (h ++ era_moment ∷ [])) is (era_standing file limits (plain c) (plain m) w h era_moment s.standing refl (none refl));
      locals = λ t. refl;
      values = s.values;
    };
    era_is = ap (λ (l : Labels). l.era) (labels_now-push limits.epochs h era_moment) ∙ ap (λ (n : ℕ). n + 1) is;
  }

  -- ---- one round

  module _ (c : Hands) (m : Watched) (w : World) (h : List Moment) (round era : ℕ) (r : HandRound) (s : StandsStamped file limits c m w h)
      (is : era_now limits.epochs h ≡ era) (hr : IsHandRound file limits round era c r) where
    f : FollowsDeeds file limits c m h r.made
    f = follows_deeds file limits ok r.made c m w h hr.line (subst (λ (n : ℕ). Each (IsHandDeed file limits n) r.made) (sym is) hr.deeds) s

    abbrev line : List StampedDeed
    line = deeds_of turn acts_of m r.made

    pub listing : Moved (Goes file limits) line r.listed
    listing = moved (Goes file limits) line r.made r.listed (goes_all file limits era r.made m f.told hr.deeds) hr.permuted

  record OneRound (c : Hands) (m : Watched) (round era : ℕ) (r : HandRound) : Type 0 where
    it : WatchedRound
    base_is : it.base ≡ r.base
    ends_is : it.ends ≡ r.ends
    is_round : IsRound turn (watched.between limits.slots) watched_stamp place_stamp m it
    top_is : Rattle.turn_orders.specs.Rounds.top turn (watched.between limits.slots) watched_stamp place_stamp it ≡ top r
    of : IsRoundOf file limits.harts limits.epochs round era it (entries_of r.listed)
    after_it : Between (left_after c r.made) (after turn m (calls it.made)) (top r) era r.ends

  one_round : (c : Hands) (m : Watched) (w : World) (h : List Moment) (round era : ℕ) (r : HandRound) → StandsStamped file limits c m w h →
      era_now limits.epochs h ≡ era → IsHandRound file limits round era c r → OneRound c m round era r
  one_round c m w h round era r s is hr =
      let fd = f c m w h round era r s is hr in
      let l = listing c m w h round era r s is hr in
      record {
        it = record { made = deeds_of turn acts_of m r.made; listed = l.list; base = r.base; ends = r.ends };
        base_is = refl;
        ends_is = refl;
        is_round = record {
          start = record { threads = λ t. s.locals t ∙ hr.threads t; places = λ k. subst (λ (n : ℕ). n ≤ r.base) (sym (s.values k)) (hr.places k) };
          line = fd.line;
          sorted = sorted_go file limits l.list r.listed l.goes hr.sorted;
          same = l.same;
        };
        top_is = ap (max r.base) (greatest_go file limits l.list r.listed l.goes);
        of = record { entries = entries_go file limits l.list r.listed l.goes; inside = hr.inside; parts = parts_go file limits l.list r.listed l.goes hr.parts };
        after_it = between_stands (left_after c r.made) (after turn m (calls (deeds_of turn acts_of m r.made))) fd.world
            (h ++ moments_of (entries_of r.made)) (top r) era r.ends fd.stands
            (era_entries limits.epochs h (entries_of r.made) ∙ is) hr.begun;
      }

  -- ---- all rounds

  pub follows_rounds : (rs : List HandRound) (c : Hands) (m : Watched) (w : World) (h : List Moment) (round era base : ℕ) →
      StandsStamped file limits c m w h → era_now limits.epochs h ≡ era → AreHandRounds file limits round era base c rs →
      FollowsRounds file limits round era base c m rs
  follows_rounds [] c m w h round era base s is all = record { rounds = []; follow = tt; told = tt; world = w; history = h; stands = s }
  follows_rounds (r ∷ rs) c m w h round era base s is all =
      let one = one_round c m w h round era r s is all.1 in
      let next_m : Watched = made_end turn (watched.between limits.slots) watched_stamp place_stamp m one.it in
      let same : watched.between limits.slots (top r) r.ends (after turn m (calls one.it.made)) ≡ next_m =
      ap₂ (λ (n : ℕ) (b : Bool). watched.between limits.slots n b (after turn m (calls one.it.made))) (sym one.top_is) (sym one.ends_is) in
      let stands = subst (λ (z : Watched). StandsStamped file limits
      (hands_after era c r) z one.after_it.world one.after_it.history) same one.after_it.stands in
      let others = follows_rounds rs (hands_after era c r) next_m one.after_it.world one.after_it.history (round + 1) (cond r.ends (era + 1) era)
      (top r) stands one.after_it.era_is all.2 in
      record {
        rounds = one.it ∷ others.rounds;
        follow = (
          one.base_is ∙ all.0,
          one.is_round,
          subst (λ (n : ℕ). AreRounds turn (watched.between limits.slots) watched_stamp place_stamp n next_m others.rounds) (sym one.top_is) others.follow,
        );
        told = (
          one.of,
          subst (λ (b : Bool). AreRoundsOf file limits.harts limits.epochs (round + 1) (cond b (era + 1) era) others.rounds (listed_entries rs))
              (sym one.ends_is) others.told,
        );
        world = others.world;
        history = others.history;
        stands = others.stands;
      }
