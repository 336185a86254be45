-- A history whose moments are right is what the watched turn tells.
use Rattle.std.proofs.Common.{◌≡◌, ℕ, ◌+◌, suc, List, [], ◌∷◌, length, Option, Some, None, refl, sym, ap, ap₂, subst, ◌∙◌, arith}
use Rattle.std.specs.Prelude.{map, ◌%◌, Ok}
use Rattle.std.specs.List.{AllZip}
use Rattle.run_record.specs.declared.event.Event.{Event}
use Rattle.run_record.specs.declared.entry.Check.{Check}
use Rattle.run_record.specs.declared.entry.Label.{Label}
use Rattle.elf_image.specs.File.{granule_of, image_of}
use Rattle.run_laws.specs.Moments.{Moment, moment_at, items}
use Rattle.run_laws.specs.Accesses.{Access, access_of, Part, parts_of}
use Rattle.run_laws.specs.Labels.{label_of}
use Rattle.run_laws.specs.Words.{word_of}
use Rattle.run_laws.specs.Window.{TraceEvent, trace_before}
use Rattle.run_laws.specs.Checks.{ChecksPart, AreChecks, StoresRightly}
use Rattle.bare_machine.specs.World.{World}
use Rattle.turn_orders.specs.Lists.{Each}
use Rattle.turn_orders.specs.Machine.{Call, State, but, next, single, singles}
use Rattle.turn_orders.proofs.Functions.{but_here}
use Rattle.place_clocks.specs.Places.{Own, Value}
use Rattle.place_clocks.specs.Turns.{does, own_after, value_after, label_after, clock_turn}
use Rattle.place_clocks.specs.Turns as clock_acts
use Rattle.place_clocks.specs.Holds.{HasClocks, AllMay, whole_at}
use Rattle.place_clocks.proofs.Along.{turns_hold}
use Rattle.joint_turns.specs.Joint as joint
use Rattle.joint_turns.specs.Joint.{clocks_of}
use Rattle.joint_turns.proofs.Together.{steps_may}
use Rattle.watched_turns.specs.Watch.{Watch, watch_after}
use Rattle.watched_turns.specs.Checking.{Checked, checked_of, check_of, checks_from, checks_of, Loads, four}
use Rattle.watched_turns.specs.Turns.{Local, events_told, events_of, steps, watched_turn, joint_of}
use Rattle.watched_turns.specs.Along.{StandFrom, HasWatch, IsWatched}
use Rattle.watched_turns.proofs.Events.{event_watches}
use Rattle.watched_turns.specs.Right.{AreLoaded, AreEvents}

module _ (g : ℕ) (h : List Moment) (n t : ℕ) (label : Label) (labelled : label_of g (items h) n t ≡ Some label) (turn : ℕ) (turn_is : turn ≡ length (trace_before g (items h) n t) % 4) (a : Access) (loads : ℕ → ℕ → ℕ) where
  same_label : (other : Label) → label_of g (items h) n t ≡ Some other → other ≡ label
  same_label other e = let q : Some other ≡ Some label = sym e ∙ labelled in cc

  one_told : (part : Part) (p : ℕ) (c : Check) → ChecksPart g h n t a part c → StoresRightly c → four (loads p) ≡ c.cells → checked_of c ≡ check_of part.granule (word_of part.mask label a.read a.atomic) turn (four (loads p))
  one_told part p c z s e =
      let stored : checked_of c ≡ check_of c.granule c.word c.turn c.cells = λ i. record { granule = c.granule; word = c.word; turn = c.turn; cells = c.cells; stored = s i } in
      let word : c.word ≡ word_of part.mask label a.read a.atomic = z.word ∙ ap (λ (l : Label). word_of part.mask l a.read a.atomic) (same_label z.label z.labelled) in
      let turns : c.turn ≡ turn = z.turn ∙ sym turn_is in
      let cells : c.cells ≡ four (loads p) = sym e in
      let granule : c.granule ≡ part.granule = z.granule in
      stored ∙ (λ i. check_of (granule i) (word i) (turns i) (cells i))

  pub parts_told : (p : ℕ) (parts : List Part) (cs : List Check) → AllZip (ChecksPart g h n t a) parts cs → Each StoresRightly cs → AreLoaded loads p cs → map checked_of cs ≡ checks_from turn label a loads p parts
  parts_told p [] [] z s e = refl
  parts_told p [] (c ∷ cs) z s e = absurd z
  parts_told p (part ∷ parts) [] z s e = absurd z
  parts_told p (part ∷ parts) (c ∷ cs) z s e = ap₂ (λ (x : Checked) (xs : List Checked). x ∷ xs) (one_told part p c z.0 s.0 e.0) (parts_told (p + 1) parts cs z.1 s.1 e.1)

-- without a label there is no check
none_told : (g : ℕ) (h : List Moment) (n t : ℕ) (a : Access) (parts : List Part) (cs : List Check) → label_of g (items h) n t ≡ None → AllZip (ChecksPart g h n t a) parts cs → map checked_of cs ≡ []
none_told g h n t a [] [] none z = refl
none_told g h n t a [] (c ∷ cs) none z = absurd z
none_told g h n t a (part ∷ parts) [] none z = absurd z
none_told g h n t a (part ∷ parts) (c ∷ cs) none z = let x : ChecksPart g h n t a part c = z.0 in let q : None ≡ Some x.label = sym none ∙ x.labelled in absurd (cc)

module _ (file : List ℕ) (g : ℕ) (h : List Moment) (n t : ℕ) (turn : ℕ) (turn_is : turn ≡ length (trace_before g (items h) n t) % 4) (loads : ℕ → ℕ → ℕ) where
  pub checks_told : (o : Option Label) (a : Option Access) → label_of g (items h) n t ≡ o → AreChecks g (granule_of file) h n t a → Each StoresRightly (moment_at h n).checks → AreLoaded loads 0 (moment_at h n).checks
      → map checked_of (moment_at h n).checks ≡ checks_of file turn o a loads
  checks_told None None l z s e = ap (map checked_of) z
  checks_told (Some label) None l z s e = ap (map checked_of) z
  checks_told None (Some a) l z s e = none_told g h n t a (parts_of (granule_of file) a) (moment_at h n).checks l z
  checks_told (Some label) (Some a) l z s e = parts_told g h n t label l turn turn_is a loads 0 (parts_of (granule_of file) a) (moment_at h n).checks z s e

module _ (file : List ℕ) (g slots : ℕ) (h : List Moment) (t k : ℕ) (loads : Loads) where
  pub events_stand : (n : ℕ) (m : State Own Value) (watch : ℕ → Watch) (i : ℕ) (o : Own) (v : Value) (w : Watch) (es : List Event) → m.local t ≡ o → m.value k ≡ v → watch t ≡ w
      → HasClocks (whole_at g slots (items h) n) m → AllMay g m (singles t k (map does es)) → ((u : ℕ) → HasWatch g h n u (watch u))
      → AreEvents file g h t loads n i es → StandFrom h n (events_told file g t loads i o v w es)
  events_stand n m watch i o v w [] mo mv mw clk may kept are = tt
  events_stand n m watch i o v w (e ∷ es) mo mv mw clk may kept are =
      let c : Call clock_acts.Act = single t k (does e) in
      let later = turns_hold g slots (items h) n m (c ∷ []) clk (may.0, tt) (are.0, tt) in
      let q : n + 1 ≡ suc n = omega arith in
      let after : HasClocks (whole_at g slots (items h) (suc n)) (next (clock_turn g) m c) = subst (λ (j : ℕ). HasClocks (whole_at g slots (items h) j) (next (clock_turn g) m c)) q later in
      let own : (next (clock_turn g) m c).local t ≡ own_after g e o v = but_here m.local t t (own_after g e (m.local t) (m.value k)) refl ∙ ap₂ (own_after g e) mo mv in
      let its : (next (clock_turn g) m c).value k ≡ value_after g t e o v = but_here m.value k k (value_after g t e (m.local t) (m.value k)) refl ∙ ap₂ (value_after g t e) mo mv in
      let label : label_of g (items h) n t ≡ o.label = sym (clk.own.label t) ∙ ap (λ (x : Own). x.label) mo in
      let label_then : label_of g (items h) (suc n) t ≡ label_after g o.label e = sym (after.own.label t) ∙ ap (λ (x : Own). x.label) own in
      let turn : length w.trace % 4 ≡ length (trace_before g (items h) n t) % 4 = ap (λ (x : Watch). length x.trace % 4) (sym mw) ∙ ap (λ (xs : List TraceEvent). length xs % 4) (kept t).trace in
      let one : Watch = watch_after g o.label w e in
      let step = event_watches g h n t e are.0 o.label label_then watch kept in
      let same : but watch t (watch_after g o.label (watch t) e) ≡ but watch t one = ap (λ (x : Watch). but watch t (watch_after g o.label x e)) mw in (
        record { item = are.0; checks = checks_told file g h n t (length w.trace % 4) turn (loads i) o.label (access_of e) label are.1 are.2 are.3 },
        events_stand (suc n) (next (clock_turn g) m c) (but watch t one) (i + 1) (own_after g e o v) (value_after g t e o v) one es own its (but_here watch t t one refl)
            after may.1 (λ u. subst (λ (f : ℕ → Watch). HasWatch g h (suc n) u (f u)) same (step u)) are.4,
      )

-- the turn of an instruction
pub step_stands : (file : List ℕ) (harts g slots : ℕ) (w : World) (h : List Moment) (n : ℕ) (m : State Local joint.Value) (t k : ℕ) (loads : Loads) → image_of file ≡ Ok file → IsWatched file harts g slots w h n m
    → joint.IsPlaced file (m.local t).joint (m.value k) t k joint.steps → AreEvents file g h t loads n 0 (events_of file harts t (m.local t).joint (m.value k))
    → StandFrom h n (watched_turn file harts g t (steps loads) (m.local t) (m.value k)).told
step_stands file harts g slots w h n m t k loads ok j p are =
    events_stand file g slots h t k loads n (clocks_of (joint_of m)) (λ u. (m.local u).watch) 0 (m.local t).joint.own (m.value k).clocks (m.local t).watch (events_of file harts t (m.local t).joint (m.value k)) refl refl refl
    j.joint.clocks (steps_may file harts g slots ok w (items h) n (joint_of m) j.joint t k p) j.watches are
