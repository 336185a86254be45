-- What the deeds of a line await is what the watched machine's turns tell, as they were made and as they are listed.
use Rattle.std.proofs.Common.{◌≡◌, ℕ, List, [], ◌∷◌, ◌++◌, refl, sym, ap, ap₂, subst, ◌∙◌}
use Rattle.std.specs.Prelude.{Ok}
use Rattle.std.specs.List.{AllZip}
use Rattle.std.proofs.lemmas.Grind.{flat_map-append}
use Rattle.run_record.specs.declared.limits.Limits.{Limits}
use Rattle.elf_image.specs.File.{image_of}
use Rattle.run_laws.specs.Moments.{Moment, entry_moments}
use Rattle.report_laws.specs.Awaited.{Awaited}
use Rattle.bare_machine.specs.World.{World}
use Rattle.turn_orders.specs.Lists.{Each}
use Rattle.turn_orders.specs.Machine.{State, Call, Turn, next}
use Rattle.turn_orders.specs.LineUp.{Stamped, plain}
use Rattle.joint_turns.specs.Joint.{Value}
use Rattle.watched_turns.specs.Turns.{Local, Act, Told}
use Rattle.watched_turns.specs.Along.{StampedDeed, told_of, all_of}
use Rattle.race_core.specs.History.{era_now}
use Rattle.woven_turns.specs.Weave.{LinesUp}
use Rattle.woven_turns.specs.Following.{left_by, deeds_of, call_of}
use Rattle.woven_turns.proofs.Following.{found_local, found_value, rest_lines}
use Rattle.placed_detector.specs.Standing.{Hand, Held}
use Rattle.deed_histories.specs.Lines.{HandDeed, acts_of, IsHandDeed, stamped_turn, StandsStamped}
use Rattle.deed_histories.proofs.Lines.{era_entry, one, stands_next}
use Rattle.part_races.specs.Awaits.{AwaitsIn, DeedAwaits}
use Rattle.part_races.specs.Rounds.{Tagged, all_awaited, TellsAwaited}
use Rattle.part_races.proofs.Spans.{told_awaits, told_append}
use Rattle.part_races.proofs.Deeds.{deed_told}

-- the turn tells whatever the deed awaits
abbrev pub WaitsAs : List ℕ → Limits → ℕ → StampedDeed → HandDeed → Type 0
WaitsAs file limits era x d = (ws : List Awaited) → DeedAwaits file limits era d ws → told_awaits (all_of x.told.state) ≡ ws

module _ (file : List ℕ) (limits : Limits) (ok : image_of file ≡ Ok file) where
  abbrev turn : Turn (Stamped Local) (Stamped Value) (List Act) (Stamped (List (List Told)))
  turn = stamped_turn file limits

  -- the deeds of a line
  pub all_wait : (ds : List HandDeed) (c : State (Stamped Hand) (Stamped Held)) (m : State (Stamped Local) (Stamped Value)) (w : World) (h : List Moment) →
      LinesUp c ds → Each (IsHandDeed file limits (era_now limits.epochs h)) ds → StandsStamped file limits c m w h →
      AllZip (WaitsAs file limits (era_now limits.epochs h)) (deeds_of turn acts_of m ds) ds
  all_wait [] c m w h line made s = tt
  all_wait (d ∷ ds) c m w h line made s =
      let t = d.call.thread in
      let k = d.call.place in
      let at = found_local c d ds line in
      let there = found_value c d ds line in
      let it : Call (List Act) = call_of turn acts_of d in
      let is = one file limits ok c m w h s d made.0 at there in
      let era = era_entry limits.epochs h d.told.entry in
      let found = λ (ws : List Awaited) (a : DeedAwaits file limits (era_now limits.epochs h) d ws).
      subst (λ (l : Hand). AwaitsIn file limits (era_now limits.epochs h) t k l d.local_left.state (c.value k).state d.left.state d.told.entry ws)
      (ap (λ (l : Stamped Hand). l.state) (sym at))
      (subst (λ (v : Held). AwaitsIn file limits (era_now limits.epochs h) t k d.local_found.state d.local_left.state v d.left.state d.told.entry ws)
      (ap (λ (v : Stamped Held). v.state) (sym there)) a) in
      let rest = all_wait ds (left_by c d) (next turn m it) is.world (h ++ entry_moments 0 d.told.entry) (rest_lines c d ds line)
      (subst (λ (n : ℕ). Each (IsHandDeed file limits n) ds) (sym era) made.1) (stands_next file limits ok c m w h s d made.0 at there) in (
        (λ ws a. deed_told file limits ok (plain c) (plain m) w h s.standing t k d.local_left.state d.left.state d.told.entry d.told.acts ws is (found ws a)),
        subst (λ (n : ℕ). AllZip (WaitsAs file limits n) (deeds_of turn acts_of (next turn m it) ds) ds) era rest,
      )

-- what listed turns tell is what the listed deeds await
pub listed_wait : (file : List ℕ) (limits : Limits) (era : ℕ) (xs : List StampedDeed) (ds : List HandDeed) (ts : List Tagged) →
    AllZip (WaitsAs file limits era) xs ds → AllZip (TellsAwaited file limits era) ds ts → told_awaits (all_of (told_of xs)) ≡ all_awaited ts
listed_wait file limits era [] [] [] z a = refl
listed_wait file limits era [] [] (t ∷ ts) z a = absurd a
listed_wait file limits era [] (d ∷ ds) ts z a = absurd z
listed_wait file limits era (x ∷ xs) [] ts z a = absurd z
listed_wait file limits era (x ∷ xs) (d ∷ ds) [] z a = absurd a
listed_wait file limits era (x ∷ xs) (d ∷ ds) (t ∷ ts) z a =
    ap told_awaits (flat_map-append (λ (ys : List Told). ys) x.told.state (told_of xs))
    ∙ (told_append (all_of x.told.state) (all_of (told_of xs))
    ∙ ap₂ (λ (u v : List Awaited). u ++ v) (z.0 t.awaited a.0.awaits) (listed_wait file limits era xs ds ts z.1 a.1))
