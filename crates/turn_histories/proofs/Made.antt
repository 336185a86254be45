-- One turn and its entry, beside the bare machine.
use Rattle.std.proofs.Common.{◌≡◌, ◌≢◌, ◌<◌, ◌≤◌, ◌⊎◌, inl, inr, ℕ, zero, suc, ◌+◌, ◌-◌, Bool, true, false, List, [], ◌∷◌, ◌++◌, length, Option, Some, None, refl, sym, ap, ap₂, subst, ◌∙◌, arith}
use Rattle.std.specs.Prelude.{map, fold, is_some, slice_get, Ok}
use Rattle.std.specs.List.{AllZip, flat_map, enumerate_from}
use Rattle.std.specs.Option.{option_map_or}
use Rattle.std.proofs.lemmas.Bool.{cases_Bool}
use Rattle.std.proofs.lemmas.List.{map-append, length-map}
use Rattle.elf_image.specs.File.{image_of}
use Rattle.run_record.specs.declared.event.Event.{Event}
use Rattle.run_record.specs.declared.entry.Entry.{Entry}
use Rattle.run_record.specs.declared.entry.Check.{Check}
use Rattle.run_record.specs.declared.entry.DeskNote.{DeskNote}
use Rattle.run_record.specs.declared.entry.DeskNote.TheVariants.{Nothing, Attach, Leave}
use Rattle.run_laws.specs.Moments.{Item, Does, Notes, Moment, items, entry_moments, event_moment, checks_at}
use Rattle.run_laws.specs.Numbers.{up_from}
use Rattle.run_laws.specs.Checks.{IsGrouped}
use Rattle.run_laws.specs.Faithful.{Bare, after, events_made}
use Rattle.bare_machine.specs.declared.thread.Thread.{Thread}
use Rattle.bare_machine.specs.World.{World, lives}
use Rattle.bare_machine.specs.Step.{step, desk}
use Rattle.machine_laws.specs.Machine.{bare_of}
use Rattle.turn_orders.specs.Machine.{State, next, tells, single, singles}
use Rattle.turn_orders.proofs.Functions.{but_here}
use Rattle.place_turns.specs.Places as machine
use Rattle.place_turns.proofs.Calls.{object_is}
use Rattle.joint_turns.specs.Joint.{Value, joint_turn, attach_turn}
use Rattle.joint_turns.specs.Joint as joint
use Rattle.joint_turns.specs.Along.{whole_of}
use Rattle.joint_turns.proofs.Together.{comes}
use Rattle.watched_turns.specs.Checking.{Loads}
use Rattle.watched_turns.specs.Turns.{Local, Act, attaches, steps, begins, leaves, Told, unchecked, watched_turn, joint_of}
use Rattle.watched_turns.specs.Along.{StandFrom, IsWatched, WerePlaced, all_of}
use Rattle.watched_turns.proofs.Project.{item_of, turn_items}
use Rattle.watched_turns.proofs.Run.{stand_parts}
use Rattle.watched_turns.proofs.Together.{comes_watched}
use Rattle.turn_histories.specs.Entries.{next_object, IsPlaceOf, IsAlive, MakesSteps, MakesEntry, IsTold}
use Rattle.turn_histories.proofs.Steps.{after_first, events_first}

-- ---- lists

-- events that are told one by one are those that moments have
pub told_events : (e : Entry) (t i : ℕ) (es evs : List Event) (xs : List Told) → AllZip IsTold (map (event_moment 0 e) (enumerate_from i es)) xs → map item_of xs ≡ map (Does t) evs → es ≡ evs
told_events e t i [] [] xs z q = refl
told_events e t i [] (v ∷ evs) [] z q = absurd (cc)
told_events e t i [] (v ∷ evs) (x ∷ xs) z q = absurd z
told_events e t i (y ∷ es) evs [] z q = absurd z
told_events e t i (y ∷ es) [] (x ∷ xs) z q = absurd (cc)
told_events e t i (y ∷ es) (v ∷ evs) (x ∷ xs) z q =
    let head : item_of x ≡ Does t v = cc in
    let rest : map item_of xs ≡ map (Does t) evs = cc in
    let same : y ≡ v = event_same (z.0.item ∙ head) in
    ap₂ (λ (a : Event) (rest : List Event). a ∷ rest) same (told_events e t (i + 1) es evs xs z.1 rest)
  where
    event_same : Does e.tid y ≡ Does t v → y ≡ v
    event_same r = cc

-- an entry that tells one item at most has no events
pub no_events : (e : Entry) (i : ℕ) (m : Moment) (es : List Event) (xs : List Told) → AllZip IsTold (m ∷ map (event_moment 0 e) (enumerate_from i es)) xs → length xs ≤ 1 → es ≡ []
no_events e i m [] xs z l = refl
no_events e i m (y ∷ es) [] z l = absurd z
no_events e i m (y ∷ es) (x ∷ []) z l = absurd z.1
no_events e i m (y ∷ es) (x ∷ (v ∷ xs)) z l = absurd (omega arith)

pub no_checks : (e : Entry) → IsGrouped e → e.events ≡ [] → e.checks ≡ []
no_checks e grouped none = grouped ∙ ap (λ (es : List Event). flat_map (λ (i : ℕ). checks_at i e.checks) (up_from 0 (length es))) none

attach_few : (file : List ℕ) (harts g t : ℕ) (l : joint.Local) (v : Value) (queue : List ℕ) → length (map unchecked (attach_turn file harts g t l v queue).told ++ []) ≤ 1
attach_few file harts g t l v [] = omega arith
attach_few file harts g t l v (s ∷ rest) = go (Rattle.place_clocks.specs.Places.desk_in v.clocks).queue
  where
    go : (queue : List ℕ) → length (map unchecked (Rattle.place_clocks.specs.Turns.attached t l.own (Rattle.place_clocks.specs.Places.desk_in v.clocks) queue v.clocks).told ++ []) ≤ 1
    go [] = omega arith
    go (r ∷ others) = omega arith

-- ---- the bare machine at one entry

-- What the entry of thread t at place k tells is what the bare machine does from this world on.
pub record Facts (file : List ℕ) (harts : ℕ) (w : World) (e : Entry) (t k : ℕ) : Type 0 where
  pub alive : (j : ℕ) → j < e.steps → lives (after (bare_of file harts) w t j) t ≡ true
  pub events_are : e.events ≡ events_made (bare_of file harts) w t e.steps
  pub apart : (j : ℕ) → j + 1 < e.steps → (step file (after (bare_of file harts) w t j) t).object ≡ None
  pub last : 0 < e.steps → IsPlaceOf k t (step file (after (bare_of file harts) w t (e.steps - 1)) t).object
  pub at_desk : e.steps ≡ 0 → k ≡ desk
  pub noted : e.steps ≡ 0 → (e.note ≢ Nothing) × (e.events ≡ []) × (e.checks ≡ [])
  pub unnoted : 0 < e.steps → e.note ≡ Nothing

module _ (file : List ℕ) (harts g slots : ℕ) (ok : image_of file ≡ Ok file) (h : List Moment) (t k : ℕ) where
  abbrev bare : Bare World
  bare = bare_of file harts

  abbrev turn : Act → Local → Value → Rattle.watched_turns.specs.Turns.Turned
  turn a l v = watched_turn file harts g t a l v

  module _ (w : World) (p : ℕ) (s : State Local Value) (j : IsWatched file harts g slots w h p s) where
    alive_there : IsAlive (s.local t).joint.bare → lives w t ≡ true
    alive_there a = by (cases_Bool (is_some (s.local t).joint.own.given))
      where
        by : (is_some (s.local t).joint.own.given ≡ true) ⊎ (is_some (s.local t).joint.own.given ≡ false) → lives w t ≡ true
        by (inl e) = ap (λ (o : Option Thread). option_map_or (λ (x : Thread). x.lives) o false) (sym (j.joint.bare.threads.here t e) ∙ a.arrived) ∙ a.lives
        by (inr e) = let q : Some a.thread ≡ None = sym a.arrived ∙ j.joint.bare.threads.absent t e in absurd (cc)

    object_there : (a : IsAlive (s.local t).joint.bare) → (step file w t).object ≡ next_object file t (s.local t).joint.bare.thread
    object_there a = object_is file harts ok (whole_of w (joint_of s)) (joint.bare_of (joint_of s)) j.joint.bare t a.thread a.arrived ∙ ap (next_object file t) (sym a.arrived)

    step_told : (x : Loads) → joint.IsPlaced file (s.local t).joint (s.value k) t k joint.steps → map item_of (turn (steps x) (s.local t) (s.value k)).told ≡ map (Does t) (step file w t).events
    step_told x placed = turn_items file harts g t (steps x) (s.local t) (s.value k) ∙ (comes file harts g slots ok w (items h) p (joint_of s) j.joint t k joint.steps placed).told

  -- instructions one after another, where this was told of them
  pub record StepsMade (w : World) (n : ℕ) (told : List Told) : Type 0 where
    pub alive : (j : ℕ) → j < n → lives (after bare w t j) t ≡ true
    pub apart : (j : ℕ) → j + 1 < n → (step file (after bare w t j) t).object ≡ None
    pub last : IsPlaceOf k t (step file (after bare w t (n - 1)) t).object
    pub events_are : map item_of told ≡ map (Does t) (events_made bare w t n)

  abbrev told_by : State Local Value → List Loads → List Told
  told_by s loads = all_of (tells (watched_turn file harts g) s (singles t k (map steps loads)))

  pub steps_made : (w : World) (p : ℕ) (s : State Local Value) (loads : List Loads) → IsWatched file harts g slots w h p s → MakesSteps file harts g (s.local t) (s.value k) t k loads
      → WerePlaced file harts g (s.local t) (s.value k) t k (map steps loads) → StandFrom h p (told_by s loads) → StepsMade w (length loads) (told_by s loads)
  steps_made w p s [] j makes placed stand = absurd makes
  steps_made w p s (x ∷ []) j makes placed stand = record {
    alive = λ i l. (let q : 0 ≡ i = omega arith in subst (λ (i : ℕ). lives (after bare w t i) t ≡ true) q (alive_there w p s j makes.0));
    apart = λ i l. absurd (omega arith);
    last = subst (IsPlaceOf k t) (sym (object_there w p s j makes.0)) makes.1;
    events_are = map-append item_of (turn (steps x) (s.local t) (s.value k)).told [] ∙ (Rattle.std.proofs.lemmas.List.append-nil (map item_of (turn (steps x) (s.local t) (s.value k)).told) ∙ step_told w p s j x placed.0.0);
  }
  steps_made w p s (x ∷ (y ∷ rest)) j makes placed stand =
      let told = (turn (steps x) (s.local t) (s.value k)).told in
      let s1 = next (watched_turn file harts g) s (single t k (steps x)) in
      let later = told_by s1 (y ∷ rest) in
      let parts = stand_parts h p told later stand in
      let one = comes_watched file harts g slots ok w h p s j t k (steps x) placed.0 parts.0 in
      let local = sym (but_here s.local t t (turn (steps x) (s.local t) (s.value k)).local refl) in
      let value = sym (but_here s.value k k (turn (steps x) (s.local t) (s.value k)).value refl) in
      let w1 = (step file w t).world in
      let others = steps_made w1 (p + length told) s1 (y ∷ rest) one.watched
      (subst (λ (l : Local). MakesSteps file harts g l (s1.value k) t k (y ∷ rest)) local (subst (λ (v : Value). MakesSteps file harts g (turn (steps x) (s.local t) (s.value k)).local v t k (y ∷ rest)) value makes.2))
      (subst (λ (l : Local). WerePlaced file harts g l (s1.value k) t k (map steps (y ∷ rest))) local (subst (λ (v : Value). WerePlaced file harts g (turn (steps x) (s.local t) (s.value k)).local v t k (map steps (y ∷ rest))) value placed.1))
      parts.1 in
      record {
        alive = alive_all others.alive (alive_there w p s j makes.0);
        apart = apart_all others.apart (object_there w p s j makes.0 ∙ makes.1);
        last = last_all others.last;
        events_are = map-append item_of told later
            ∙ (ap₂ (λ (xs ys : List Item). xs ++ ys) (step_told w p s j x placed.0.0) others.events_are
            ∙ (sym (map-append (Does t) (step file w t).events (events_made bare w1 t (length (y ∷ rest))))
            ∙ ap (map (Does t)) (sym (events_first bare t w (length (y ∷ rest))))));
      }
    where
      alive_all : ((i : ℕ) → i < length (y ∷ rest) → lives (after bare (step file w t).world t i) t ≡ true) → lives w t ≡ true → (i : ℕ) → i < length (x ∷ (y ∷ rest)) → lives (after bare w t i) t ≡ true
      alive_all others here zero l = here
      alive_all others here (suc i) l = ap (λ (z : World). lives z t) (after_first bare t w i) ∙ others i (omega arith)

      last_all : IsPlaceOf k t (step file (after bare (step file w t).world t (length (y ∷ rest) - 1)) t).object → IsPlaceOf k t (step file (after bare w t (length (x ∷ (y ∷ rest)) - 1)) t).object
      last_all l =
          let q : length (y ∷ rest) - 1 ≡ length rest = omega arith in
          let r : suc (length rest) ≡ length (x ∷ (y ∷ rest)) - 1 = omega arith in
          subst (λ (i : ℕ). IsPlaceOf k t (step file (after bare w t i) t).object) r
          (subst (λ (z : World). IsPlaceOf k t (step file z t).object) (sym (after_first bare t w (length rest)))
          (subst (λ (i : ℕ). IsPlaceOf k t (step file (after bare (step file w t).world t i) t).object) q l))

      apart_all : ((i : ℕ) → i + 1 < length (y ∷ rest) → (step file (after bare (step file w t).world t i) t).object ≡ None) → (step file w t).object ≡ None → (i : ℕ) → i + 1 < length (x ∷ (y ∷ rest)) → (step file (after bare w t i) t).object ≡ None
      apart_all others here zero l = here
      apart_all others here (suc i) l = ap (λ (z : World). (step file z t).object) (after_first bare t w i) ∙ others i (omega arith)

  -- ---- the entry

  abbrev after_begins : State Local Value → State Local Value
  after_begins s = next (watched_turn file harts g) s (single t k begins)

  -- an entry without instructions
  quiet_facts : (w : World) (e : Entry) → e.steps ≡ 0 → k ≡ desk → e.note ≢ Nothing → e.events ≡ [] → IsGrouped e → Facts file harts w e t k
  quiet_facts w e none at note events grouped = record {
    alive = λ i l. absurd (omega (arith, none));
    events_are = events ∙ ap (λ (n : ℕ). events_made bare w t n) (sym none);
    apart = λ i l. absurd (omega (arith, none));
    last = λ l. absurd (omega (arith, none));
    at_desk = λ z. at;
    noted = λ z. (note, events, no_checks e grouped events);
    unnoted = λ l. absurd (omega (arith, none));
  }

  pub entry_facts : (w : World) (p : ℕ) (s : State Local Value) (acts : List Act) (e : Entry) (note : DeskNote) → IsWatched file harts g slots w h p s → e.note ≡ note → MakesEntry file harts g (s.local t) (s.value k) t k acts note e.steps
      → WerePlaced file harts g (s.local t) (s.value k) t k acts → StandFrom h p (all_of (tells (watched_turn file harts g) s (singles t k acts))) → AllZip IsTold (entry_moments 0 e) (all_of (tells (watched_turn file harts g) s (singles t k acts))) → IsGrouped e
      → Facts file harts w e t k
  entry_facts w p s acts e (Attach label) j is makes placed stand told grouped =
      let few = subst (λ (a : List Act). length (all_of (tells (watched_turn file harts g) s (singles t k a))) ≤ 1) (sym makes.0) (attach_few file harts g t (s.local t).joint (s.value k) (Rattle.place_clocks.specs.Places.desk_in (s.value k).clocks).queue) in
      quiet_facts w e makes.1 makes.2 (λ q. let r : Attach label ≡ Nothing = sym is ∙ q in absurd (cc)) (no_events e 0 (record { entry = 0; round = e.round; item = Notes e.tid e.note; checks = [] }) e.events (all_of (tells (watched_turn file harts g) s (singles t k acts))) told few) grouped
  entry_facts w p s acts e (Leave label) j is makes placed stand told grouped =
      let few = subst (λ (a : List Act). length (all_of (tells (watched_turn file harts g) s (singles t k a))) ≤ 1) (sym makes.0) (let q : 1 ≤ 1 = omega arith in q) in
      quiet_facts w e makes.1 makes.2 (λ q. let r : Leave label ≡ Nothing = sym is ∙ q in absurd (cc)) (no_events e 0 (record { entry = 0; round = e.round; item = Notes e.tid e.note; checks = [] }) e.events (all_of (tells (watched_turn file harts g) s (singles t k acts))) told few) grouped
  entry_facts w p s acts e Nothing j is makes placed stand told grouped =
      let loads = makes.0 in
      made loads makes.2 makes.3
      (subst (WerePlaced file harts g (s.local t) (s.value k) t k) makes.1 placed)
      (subst (λ (a : List Act). StandFrom h p (all_of (tells (watched_turn file harts g) s (singles t k a)))) makes.1 stand)
      (subst (λ (a : List Act). AllZip IsTold (entry_moments 0 e) (all_of (tells (watched_turn file harts g) s (singles t k a)))) makes.1 told)
    where
      made : (loads : List Loads) → length loads ≡ e.steps → MakesSteps file harts g (s.local t) (s.value k) t k loads → WerePlaced file harts g (s.local t) (s.value k) t k (begins ∷ map steps loads)
          → StandFrom h p (all_of (tells (watched_turn file harts g) s (singles t k (begins ∷ map steps loads)))) → AllZip IsTold (entry_moments 0 e) (all_of (tells (watched_turn file harts g) s (singles t k (begins ∷ map steps loads)))) → Facts file harts w e t k
      made loads count makes placed stand told =
          let one = comes_watched file harts g slots ok w h p s j t k begins placed.0 (stand.0, tt) in
          let q : p + 1 ≡ suc p = omega arith in
          let local = sym (but_here s.local t t (turn begins (s.local t) (s.value k)).local refl) in
          let value = sym (but_here s.value k k (turn begins (s.local t) (s.value k)).value refl) in
          let all = steps_made w (suc p) (after_begins s) loads (subst (λ (i : ℕ). IsWatched file harts g slots w h i (after_begins s)) q one.watched)
          (subst (λ (l : Local). MakesSteps file harts g l ((after_begins s).value k) t k loads) local (subst (λ (v : Value). MakesSteps file harts g (s.local t) v t k loads) value makes))
          (subst (λ (l : Local). WerePlaced file harts g l ((after_begins s).value k) t k (map steps loads)) local (subst (λ (v : Value). WerePlaced file harts g (s.local t) v t k (map steps loads)) value placed.1))
          stand.1 in
          record {
            alive = λ i l. all.alive i (omega (arith, count));
            events_are = told_events e t 0 e.events (events_made bare w t e.steps) (told_by (after_begins s) loads) told.1 (all.events_are ∙ ap (λ (n : ℕ). map (Does t) (events_made bare w t n)) count);
            apart = λ i l. all.apart i (omega (arith, count));
            last = λ l. subst (λ (n : ℕ). IsPlaceOf k t (step file (after bare w t (n - 1)) t).object) count all.last;
            at_desk = λ z. absurd (some_loads loads makes (count ∙ z));
            noted = λ z. absurd (some_loads loads makes (count ∙ z));
            unnoted = λ l. is;
          }
        where
          some_loads : (loads : List Loads) → MakesSteps file harts g (s.local t) (s.value k) t k loads → length loads ≡ 0 → ⊥
          some_loads [] m z = m
          some_loads (x ∷ rest) m z = omega arith
