-- The watched machine follows rounds of deeds, and what each of its rounds tells is what the round's deeds await.
use Rattle.std.proofs.Common.{◌≡◌, ◌≤◌, ℕ, ◌+◌, max, Bool, cond, List, [], ◌∷◌, ◌++◌, refl, sym, ap, ap₂, subst, ◌∙◌}
use Rattle.std.specs.Prelude.{map, Ok}
use Rattle.std.specs.List.{AllZip}
use Rattle.run_record.specs.declared.limits.Limits.{Limits}
use Rattle.elf_image.specs.File.{image_of}
use Rattle.run_laws.specs.Moments.{Moment}
use Rattle.report_laws.specs.Awaited.{Awaited}
use Rattle.bare_machine.specs.World.{World}
use Rattle.turn_orders.specs.Lists.{Each}
use Rattle.turn_orders.specs.Machine.{State, Turn, after}
use Rattle.turn_orders.specs.LineUp.{Stamped, calls}
use Rattle.turn_orders.specs.Rounds.{IsRound, AreRounds, made_end}
use Rattle.turn_orders.specs.Rounds as orders
use Rattle.joint_turns.specs.Joint.{Value}
use Rattle.watched_turns.specs.Turns.{Local, Act, Told}
use Rattle.watched_turns.specs.Along.{StampedDeed}
use Rattle.watched_turns.specs.Rounds as watched
use Rattle.watched_turns.specs.Rounds.{WatchedRound, round_told}
use Rattle.turn_histories.specs.Rounds.{IsRoundOf, AreRoundsOf}
use Rattle.race_core.specs.History.{era_now}
use Rattle.woven_turns.specs.Following.{left_after, deeds_of}
use Rattle.placed_detector.specs.Standing.{Hand, Held}
use Rattle.deed_histories.specs.Lines.{HandDeed, acts_of, entries_of, moments_of, IsHandDeed, stamped_turn, StandsStamped}
use Rattle.deed_histories.specs.Rounds.{HandRound, top, hands_after, era_after, IsHandRound, AreHandRounds, listed_entries}
use Rattle.deed_histories.proofs.Lines.{follows_deeds}
use Rattle.deed_histories.proofs.Rounds.{watched_stamp, place_stamp, Goes, goes_all, entries_go, sorted_go, greatest_go, parts_go, era_entries, Between, between_stands}
use Rattle.deed_histories.proofs.Permuted.{Moved, moved}
use Rattle.part_races.specs.Rounds.{Tagged, all_awaited, TellsAwaited}
use Rattle.part_races.proofs.Spans.{told_awaits}
use Rattle.part_races.proofs.Lines.{WaitsAs, all_wait, listed_wait}

-- both of two relations
zip_both : {X Y : Type 0} (R S : X → Y → Type 0) (xs : List X) (ys : List Y) → AllZip R xs ys → AllZip S xs ys →
    AllZip (λ (x : X) (y : Y). R x y × S x y) xs ys
zip_both R S [] [] a b = tt
zip_both R S [] (y ∷ ys) a b = absurd a
zip_both R S (x ∷ xs) [] a b = absurd a
zip_both R S (x ∷ xs) (y ∷ ys) a b = ((a.0, b.0), zip_both R S xs ys a.1 b.1)

pub zip_map : {X Y : Type 0} (R S : X → Y → Type 0) → ((x : X) (y : Y) → R x y → S x y) → (xs : List X) (ys : List Y) → AllZip R xs ys → AllZip S xs ys
zip_map R S f [] [] a = tt
zip_map R S f [] (y ∷ ys) a = absurd a
zip_map R S f (x ∷ xs) [] a = absurd a
zip_map R S f (x ∷ xs) (y ∷ ys) a = (f x y a.0, zip_map R S f xs ys a.1)

-- the round's deeds as they are listed, and what they await
pub record ListedAwait (file : List ℕ) (limits : Limits) (era : ℕ) (r : HandRound) (ws : List Awaited) : Type 0 where
  pub tagged : List Tagged
  pub tells : AllZip (TellsAwaited file limits era) r.listed tagged
  pub is : ws ≡ all_awaited tagged

abbrev pub AllListed : List ℕ → Limits → ℕ → List HandRound → List (List Awaited) → Type 0
AllListed file limits era [] [] = Unit {0}
AllListed file limits era (r ∷ rs) (ws ∷ wss) = ListedAwait file limits era r ws × AllListed file limits (era_after era r) rs wss
AllListed file limits era _ _ = ⊥

-- what the round tells is what it awaits
abbrev pub TellsAs : WatchedRound → List Awaited → Type 0
TellsAs r ws = told_awaits (round_told r) ≡ ws

module _ (file : List ℕ) (limits : Limits) (ok : image_of file ≡ Ok file) where
  abbrev turn : Turn (Stamped Local) (Stamped Value) (List Act) (Stamped (List (List Told)))
  turn = stamped_turn file limits

  abbrev Hands : Type 0
  Hands = State (Stamped Hand) (Stamped Held)

  abbrev Watched : Type 0
  Watched = State (Stamped Local) (Stamped Value)

  abbrev Both : ℕ → StampedDeed → HandDeed → Type 0
  Both era x d = Goes file limits x d × WaitsAs file limits era x d

  record OneRound (c : Hands) (m : Watched) (round era : ℕ) (r : HandRound) : Type 0 where
    it : WatchedRound
    base_is : it.base ≡ r.base
    ends_is : it.ends ≡ r.ends
    is_round : IsRound turn (watched.between limits.slots) watched_stamp place_stamp m it
    top_is : orders.top turn (watched.between limits.slots) watched_stamp place_stamp it ≡ top r
    of : IsRoundOf file limits.harts limits.epochs round era it (entries_of r.listed)
    after_it : Between file limits ok (left_after c r.made) (after turn m (calls it.made)) (top r) era r.ends
    waits : (ws : List Awaited) → ListedAwait file limits era r ws → TellsAs it ws

  one_round : (c : Hands) (m : Watched) (w : World) (h : List Moment) (round era : ℕ) (r : HandRound) → StandsStamped file limits c m w h →
      era_now limits.epochs h ≡ era → IsHandRound file limits round era c r → OneRound c m round era r
  one_round c m w h round era r s is hr =
      let made = subst (λ (n : ℕ). Each (IsHandDeed file limits n) r.made) (sym is) hr.deeds in
      let fd = follows_deeds file limits ok r.made c m w h hr.line made s in
      let line = deeds_of turn acts_of m r.made in
      let waits = subst (λ (n : ℕ). AllZip (WaitsAs file limits n) line r.made) is (all_wait file limits ok r.made c m w h hr.line made s) in
      let both = zip_both (Goes file limits) (WaitsAs file limits era) line r.made (goes_all file limits era r.made m fd.told hr.deeds) waits in
      let l : Moved (Both era) line r.listed = moved (Both era) line r.made r.listed both hr.permuted in
      let goes = zip_map (Both era) (Goes file limits) (λ x d b. b.0) l.list r.listed l.goes in
      let wait = zip_map (Both era) (WaitsAs file limits era) (λ x d b. b.1) l.list r.listed l.goes in
      record {
        it = record { made = line; listed = l.list; base = r.base; ends = r.ends };
        base_is = refl;
        ends_is = refl;
        is_round = record {
          start = record { threads = λ t. s.locals t ∙ hr.threads t; places = λ k. subst (λ (n : ℕ). n ≤ r.base) (sym (s.values k)) (hr.places k) };
          line = fd.line;
          sorted = sorted_go file limits l.list r.listed goes hr.sorted;
          same = l.same;
        };
        top_is = ap (max r.base) (greatest_go file limits l.list r.listed goes);
        of = record { entries = entries_go file limits l.list r.listed goes; inside = hr.inside; parts = parts_go file limits l.list r.listed goes hr.parts };
        after_it = between_stands file limits ok (left_after c r.made) (after turn m (calls line)) fd.world
            (h ++ moments_of (entries_of r.made)) (top r) era r.ends fd.stands
            (era_entries limits.epochs h (entries_of r.made) ∙ is) hr.begun;
        waits = λ ws a. listed_wait file limits era l.list r.listed a.tagged wait a.tells ∙ sym a.is;
      }

  -- what all rounds come to
  pub record AllFollow (round era base : ℕ) (m : Watched) (rs : List HandRound) (wss : List (List Awaited)) : Type 0 where
    pub rounds : List WatchedRound
    pub follow : AreRounds turn (watched.between limits.slots) watched_stamp place_stamp base m rounds
    pub told : AreRoundsOf file limits.harts limits.epochs round era rounds (listed_entries rs)
    pub waits : AllZip TellsAs rounds wss
    pub ends : map (λ (r : WatchedRound). r.ends) rounds ≡ map (λ (r : HandRound). r.ends) rs

  pub all_follow : (rs : List HandRound) (wss : List (List Awaited)) (c : Hands) (m : Watched) (w : World) (h : List Moment) (round era base : ℕ) →
      StandsStamped file limits c m w h → era_now limits.epochs h ≡ era → AreHandRounds file limits round era base c rs →
      AllListed file limits era rs wss → AllFollow round era base m rs wss
  all_follow [] [] c m w h round era base s is all a = record { rounds = []; follow = tt; told = tt; waits = tt; ends = refl }
  all_follow [] (ws ∷ wss) c m w h round era base s is all a = absurd a
  all_follow (r ∷ rs) [] c m w h round era base s is all a = absurd a
  all_follow (r ∷ rs) (ws ∷ wss) c m w h round era base s is all a =
      let one = one_round c m w h round era r s is all.1 in
      let next_m : Watched = made_end turn (watched.between limits.slots) watched_stamp place_stamp m one.it in
      let same : watched.between limits.slots (top r) r.ends (after turn m (calls one.it.made)) ≡ next_m =
      ap₂ (λ (n : ℕ) (b : Bool). watched.between limits.slots n b (after turn m (calls one.it.made))) (sym one.top_is) (sym one.ends_is) in
      let stands = subst (λ (z : Watched). StandsStamped file limits
      (hands_after era c r) z one.after_it.world one.after_it.history) same one.after_it.stands in
      let others = all_follow rs wss (hands_after era c r) next_m one.after_it.world one.after_it.history (round + 1) (cond r.ends (era + 1) era)
      (top r) stands one.after_it.era_is all.2 a.1 in
      record {
        rounds = one.it ∷ others.rounds;
        follow = (
          one.base_is ∙ all.0,
          one.is_round,
          subst (λ (n : ℕ). AreRounds turn (watched.between limits.slots) watched_stamp place_stamp n next_m others.rounds) (sym one.top_is) others.follow,
        );
        told = (
          one.of,
          subst (λ (b : Bool). AreRoundsOf file limits.harts limits.epochs (round + 1) (cond b (era + 1) era) others.rounds (listed_entries rs))
              (sym one.ends_is) others.told,
        );
        waits = (one.waits ws a.0, others.waits);
        ends = ap₂ (λ (b : Bool) (bs : List Bool). b ∷ bs) one.ends_is others.ends;
      }
