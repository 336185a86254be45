-- Instructions one after another at one place: the watched machine makes them too, tells what the moments have, and all stands.
use Rattle.std.proofs.Common.{◌≡◌, ℕ, suc, ◌+◌, List, [], ◌∷◌, ◌++◌, length, append_assoc, append-nil, length-append, refl, ap, ap₂, sym, subst, ◌∙◌, arith}
use Rattle.std.specs.Prelude.{map, Ok}
use Rattle.std.specs.List.{AllZip}
use Rattle.std.proofs.Math.Seq.{get_or-append_seam}
use Rattle.run_record.specs.declared.event.Event.{Event}
use Rattle.run_record.specs.declared.entry.Check.{Check}
use Rattle.run_record.specs.declared.limits.Limits.{Limits}
use Rattle.elf_image.specs.File.{image_of}
use Rattle.run_laws.specs.Moments.{Past, Moment, moment_at, items}
use Rattle.bare_machine.specs.World.{World}
use Rattle.turn_orders.specs.Machine.{Call, State, but, next, after, tells, single, singles}
use Rattle.turn_orders.proofs.Functions.{but_here, but_twice}
use Rattle.place_turns.specs.Places as machine
use Rattle.joint_turns.specs.Joint as joint
use Rattle.joint_turns.specs.Joint.{Value}
use Rattle.joint_turns.specs.Along as along
use Rattle.watched_turns.specs.Checking.{Loads, checked_of}
use Rattle.watched_turns.specs.Turns.{Local, Act, Told, steps, watched_turn, IsPlaced}
use Rattle.watched_turns.specs.Along.{StandFrom, WerePlaced, all_of}
use Rattle.turn_histories.specs.Entries.{IsAlive, IsPlaceOf, next_object, MakesSteps, IsTold}
use Rattle.race_core.specs.History.{era_now}
use Rattle.placed_detector.specs.Standing.{Hand, Held, Standing, left_with}
use Rattle.placed_detector.specs.Instructions.{AreHeard, MakesInstruction}
use Rattle.placed_detector.proofs.Instructions.{instruction_stands, long, placed, stand}
use Rattle.deed_histories.specs.Deeds.{Made, all_events, all_checks, AreMade}

-- ---- lists

-- what stands behind a history is told of the moments behind it
zip_told : (h ms : List Moment) (xs : List Told) → length xs ≡ length ms → StandFrom (h ++ ms) (length h) xs → AllZip IsTold ms xs
zip_told h [] [] l s = tt
zip_told h [] (x ∷ xs) l s = absurd (cc)
zip_told h (m ∷ ms) [] l s = absurd (cc)
zip_told h (m ∷ ms) (x ∷ xs) l s =
    let at : moment_at (h ++ m ∷ ms) (length h) ≡ m = get_or-append_seam h m ms (record { entry = 0; round = 0; item = Past; checks = [] }) in
    let whole : h ++ m ∷ ms ≡ (h ++ m ∷ []) ++ ms = sym (append_assoc h (m ∷ []) ms) in
    let n : suc (length h) ≡ length (h ++ m ∷ []) = omega (arith, length-append h (m ∷ [])) in (
      record { item = ap (λ (y : Moment). y.item) (sym at) ∙ s.0.item; checks = ap (λ (y : Moment). map checked_of y.checks) (sym at) ∙ s.0.checks },
      zip_told (h ++ m ∷ []) ms xs (let q = l in omega arith) (subst (λ (j : ℕ). StandFrom ((h ++ m ∷ []) ++ ms) j xs) n
          (subst (λ (y : List Moment). StandFrom y (suc (length h)) xs) whole s.1)),
    )

pub zip_append : {A B : Type 0} (R : A → B → Type 0) (xs ys : List A) (us vs : List B) → AllZip R xs us → AllZip R ys vs → AllZip R (xs ++ ys) (us ++ vs)
zip_append R [] ys [] vs a b = b
zip_append R [] ys (u ∷ us) vs a b = absurd a
zip_append R (x ∷ xs) ys [] vs a b = absurd a
zip_append R (x ∷ xs) ys (u ∷ us) vs a b = (a.0, zip_append R xs ys us vs a.1 b)

-- moments of events and checks that stand one behind the other
pub record Cut (t : ℕ) (ms : List Moment) (es fs : List Event) (css dss : List (List Check)) : Type 0 where
  pub first : List Moment
  pub rest : List Moment
  pub whole : ms ≡ first ++ rest
  pub heard : AreHeard t first es css
  pub later : AreHeard t rest fs dss

pub cut_heard : (t : ℕ) (ms : List Moment) (es fs : List Event) (css dss : List (List Check)) → length es ≡ length css → AreHeard t ms (es ++ fs)
    (css ++ dss) → Cut t ms es fs css dss
cut_heard t ms [] fs [] dss l are = record { first = []; rest = ms; whole = refl; heard = tt; later = are }
cut_heard t ms [] fs (cs ∷ css) dss l are = absurd (cc)
cut_heard t ms (e ∷ es) fs [] dss l are = absurd (cc)
cut_heard t [] (e ∷ es) fs (cs ∷ css) dss l are = absurd are
cut_heard t (m ∷ ms) (e ∷ es) fs (cs ∷ css) dss l are =
    let c = cut_heard t ms es fs css dss (let q = l in omega arith) are.1 in
    record { first = m ∷ c.first; rest = c.rest; whole = ap (λ (xs : List Moment). m ∷ xs) c.whole; heard = (are.0, c.heard); later = c.later }

-- each event was heard with its checks
heard_as_many : (file : List ℕ) (k t : ℕ) (loads : Loads) (i : ℕ) (es : List Event) (css : List (List Check))
    (b c : Rattle.placed_detector.specs.Instructions.Beside) → Rattle.placed_detector.specs.Instructions.HearsEvents file k t loads i es css b c →
    length es ≡ length css
heard_as_many file k t loads i [] [] b c h = refl
heard_as_many file k t loads i (e ∷ es) (cs ∷ css) b c h = ap suc (heard_as_many file k t loads (i + 1) es css h.0 c h.5)
heard_as_many file k t loads i [] (cs ∷ css) b c h = absurd h
heard_as_many file k t loads i (e ∷ es) [] b c h = absurd h

long_append : {X : Type 0} (xs ys : List X) → length (xs ++ ys) ≡ length xs + length ys
long_append xs ys = length-append xs ys

pub made_as_many : (file : List ℕ) (limits : Limits) (t k era : ℕ) (xs : List Made) (found left : Hand) (place_found place_left : Held) →
    AreMade file limits.harts era t k xs found left place_found place_left → length (all_events xs) ≡ length (all_checks xs)
made_as_many file limits t k era [] found left pf pl made = absurd made
made_as_many file limits t k era (x ∷ []) found left pf pl made =
    let one = heard_as_many file k t x.loads 0 x.events x.checks _ _ made.0.heard in
    long_append x.events [] ∙ (ap (λ (n : ℕ). n + 0) one ∙ sym (long_append x.checks []))
made_as_many file limits t k era (x ∷ (y ∷ rest)) found left pf pl made =
    let one = heard_as_many file k t x.loads 0 x.events x.checks _ _ made.2.heard in
    let others = made_as_many file limits t k era (y ∷ rest) made.0 left made.1 pl made.5 in
    long_append x.events (all_events (y ∷ rest)) ∙ (ap₂ (λ (a b : ℕ). a + b) one others ∙ sym (long_append x.checks (all_checks (y ∷ rest))))

-- ---- states

left_twice : (c : State Hand Held) (t k : ℕ) (l h : Hand) (v w : Held) → left_with (left_with c t k l v) t k h w ≡ left_with c t k h w
left_twice c t k l h v w = λ i. record { local = but_twice c.local t l h i; value = but_twice c.value k v w i }

abbrev pub acts_of : List Made → List Act
acts_of xs = map (λ (x : Made). steps x.loads) xs

abbrev pub loads_of : List Made → List Loads
loads_of xs = map (λ (x : Made). x.loads) xs

-- what instructions come to
pub record MadeAll (file : List ℕ) (limits : Limits) (c : State Hand Held) (m : State Local Value) (h ms : List Moment) (t k : ℕ) (xs : List Made)
    (hand : Hand) (held : Held) : Type 0 where
  pub world : World
  pub stands : Standing file limits (left_with c t k hand held) (after (watched_turn file limits.harts limits.epochs) m (singles t k (acts_of xs))) world
      (h ++ ms)
  pub makes : MakesSteps file limits.harts limits.epochs (m.local t) (m.value k) t k (loads_of xs)
  pub were_placed : WerePlaced file limits.harts limits.epochs (m.local t) (m.value k) t k (acts_of xs)
  pub told : AllZip IsTold ms (all_of (tells (watched_turn file limits.harts limits.epochs) m (singles t k (acts_of xs))))

module _ (file : List ℕ) (limits : Limits) (ok : image_of file ≡ Ok file) (t k : ℕ) where
  abbrev turn : Rattle.turn_orders.specs.Machine.Turn Local Value Act (List Told)
  turn = watched_turn file limits.harts limits.epochs

  -- one instruction
  record One (c : State Hand Held) (m : State Local Value) (w : World) (h ms : List Moment) (loads : Loads) (hand : Hand) (held : Held) : Type 0 where
    world : World
    stands : Standing file limits (left_with c t k hand held) (next turn m (single t k (steps loads))) world (h ++ ms)
    is_placed : IsPlaced file limits.harts limits.epochs (m.local t) (m.value k) t k (steps loads)
    told : AllZip IsTold ms (turn t (steps loads) (m.local t) (m.value k)).told

  one_made : (c : State Hand Held) (m : State Local Value) (w : World) (h ms : List Moment) (loads : Loads) (es : List Event) (css : List (List Check))
      (hand : Hand) (held : Held) → Standing file limits c m w h →
      MakesInstruction file limits.harts (era_now limits.epochs h) t k loads es css (c.local t) hand (c.value k) held → AreHeard t ms es css →
      One c m w h ms loads hand held
  one_made c m w h ms loads es css hand held s mk are = record {
    world = along.world_after file w t joint.steps;
    stands = instruction_stands file limits ok c m w h s t k loads hand held es css ms mk are;
    is_placed = placed file limits ok c m w h s t k loads hand held es css ms mk are;
    told = zip_told h ms (turn t (steps loads) (m.local t) (m.value k)).told
        (let q = long file limits ok c m w h s t k loads hand held es css ms mk are in let r = length-append h ms in omega arith)
        (stand file limits ok c m w h s t k loads hand held es css ms mk are);
  }

  alive_there : (c : State Hand Held) (m : State Local Value) (w : World) (h : List Moment) → Standing file limits c m w h → IsAlive (c.local t).bare →
      IsAlive (m.local t).joint.bare
  alive_there c m w h s a = subst IsAlive (sym (s.locals t)) a

  -- the state in which the next one is made
  here_local : (c : State Hand Held) (hand : Hand) (held : Held) → (left_with c t k hand held).local t ≡ hand
  here_local c hand held = but_here c.local t t hand refl

  here_value : (c : State Hand Held) (hand : Hand) (held : Held) → (left_with c t k hand held).value k ≡ held
  here_value c hand held = but_here c.value k k held refl

  next_local : (m : State Local Value) (a : Act) → (next turn m (single t k a)).local t ≡ (turn t a (m.local t) (m.value k)).local
  next_local m a = but_here m.local t t (turn t a (m.local t) (m.value k)).local refl

  next_value : (m : State Local Value) (a : Act) → (next turn m (single t k a)).value k ≡ (turn t a (m.local t) (m.value k)).value
  next_value m a = but_here m.value k k (turn t a (m.local t) (m.value k)).value refl

  -- an era doesn't begin among the events of instructions
  era_after_heard : (h : List Moment) (ms : List Moment) (es : List Event) (css : List (List Check)) → AreHeard t ms es css → era_now limits.epochs
      (h ++ ms) ≡ era_now limits.epochs h
  era_after_heard h [] es css are = ap (era_now limits.epochs) (append-nil h)
  era_after_heard h (m ∷ ms) [] css are = absurd are
  era_after_heard h (m ∷ ms) (e ∷ es) [] are = absurd are
  era_after_heard h (m ∷ ms) (e ∷ es) (cs ∷ css) are =
      ap (era_now limits.epochs) (sym (append_assoc h (m ∷ []) ms))
      ∙ (era_after_heard (h ++ m ∷ []) ms es css are.1
      ∙ Rattle.thread_events.proofs.Longer.era_stays limits.epochs h m (λ q. none (sym are.0.item ∙ q)))
    where
      none : Rattle.run_laws.specs.Moments.Does t e ≡ Rattle.run_laws.specs.Moments.NewEra → ⊥
      none q = cc

  pub all_made : (xs : List Made) (c : State Hand Held) (m : State Local Value) (w : World) (h ms : List Moment) (hand : Hand) (held : Held) →
      Standing file limits c m w h →
      AreMade file limits.harts (era_now limits.epochs h) t k xs (c.local t) hand (c.value k) held → AreHeard t ms (all_events xs) (all_checks xs) →
      MadeAll file limits c m h ms t k xs hand held
  all_made [] c m w h ms hand held s made are = absurd made
  all_made (x ∷ []) c m w h ms hand held s made are =
      let heard : AreHeard t ms x.events x.checks = subst (λ (es : List Event). AreHeard t ms es x.checks) (append-nil x.events)
      (subst (AreHeard t ms (x.events ++ [])) (append-nil x.checks) are) in
      let one = one_made c m w h ms x.loads x.events x.checks hand held s made.0 heard in
      record {
        world = one.world;
        stands = one.stands;
        makes = (alive_there c m w h s made.1, subst (λ (l : machine.Local). IsPlaceOf k t (next_object file t l.thread)) (sym (s.locals t)) made.2);
        were_placed = (one.is_placed, tt);
        told = subst (AllZip IsTold ms) (sym (append-nil (turn t (steps x.loads) (m.local t) (m.value k)).told)) one.told;
      }
  all_made (x ∷ (y ∷ rest)) c m w h ms hand held s made are =
      let mk = made.2 in
      let cut = cut_heard t ms x.events (all_events (y ∷ rest)) x.checks (all_checks (y ∷ rest))
      (heard_as_many file k t x.loads 0 x.events x.checks _ _ mk.heard) are in
      let one = one_made c m w h cut.first x.loads x.events x.checks made.0 made.1 s mk cut.heard in
      let c1 : State Hand Held = left_with c t k made.0 made.1 in
      let m1 : State Local Value = next turn m (single t k (steps x.loads)) in
      let era = era_after_heard h cut.first x.events x.checks cut.heard in
      let left = subst (λ (n : ℕ). AreMade file limits.harts n t k (y ∷ rest) made.0 hand made.1 held) (sym era) made.5 in
      let from = subst (λ (l : Hand). AreMade file limits.harts (era_now limits.epochs (h ++ cut.first)) t k (y ∷ rest) l hand (c1.value k) held)
      (sym (here_local c made.0 made.1))
      (subst (λ (v : Held). AreMade file limits.harts (era_now limits.epochs (h ++ cut.first)) t k (y ∷ rest) made.0 hand v held)
      (sym (here_value c made.0 made.1)) left) in
      let others = all_made (y ∷ rest) c1 m1 one.world (h ++ cut.first) cut.rest hand held one.stands from cut.later in
      let whole : (h ++ cut.first) ++ cut.rest ≡ h ++ ms = append_assoc h cut.first cut.rest ∙ ap (λ (zs : List Moment). h ++ zs) (sym cut.whole) in
      record {
        world = others.world;
        stands = subst (λ (zs : List Moment). Standing file limits (left_with c t k hand held)
            (after turn m1 (singles t k (acts_of (y ∷ rest)))) others.world zs) whole
            (subst (λ (z : State Hand Held). Standing file limits z (after turn m1 (singles t k (acts_of (y ∷ rest)))) others.world
            ((h ++ cut.first) ++ cut.rest)) (left_twice c t k made.0 hand made.1 held) others.stands);
        makes = (
          alive_there c m w h s made.3,
          ap (λ (l : machine.Local). next_object file t l.thread) (s.locals t) ∙ made.4,
          subst (λ (l : Local). MakesSteps file limits.harts limits.epochs l (turn t (steps x.loads) (m.local t) (m.value k)).value t k
              (loads_of (y ∷ rest))) (next_local m (steps x.loads))
              (subst (λ (v : Value). MakesSteps file limits.harts limits.epochs (m1.local t) v t k (loads_of (y ∷ rest)))
              (next_value m (steps x.loads)) others.makes),
        );
        were_placed = (
          one.is_placed,
          subst (λ (l : Local). WerePlaced file limits.harts limits.epochs l (turn t (steps x.loads) (m.local t) (m.value k)).value t k
              (acts_of (y ∷ rest))) (next_local m (steps x.loads))
              (subst (λ (v : Value). WerePlaced file limits.harts limits.epochs (m1.local t) v t k (acts_of (y ∷ rest)))
              (next_value m (steps x.loads)) others.were_placed),
        );
        told = subst (λ (zs : List Moment). AllZip IsTold zs (all_of (tells turn m (singles t k (acts_of (x ∷ (y ∷ rest))))))) (sym cut.whole)
            (zip_append IsTold cut.first cut.rest (turn t (steps x.loads) (m.local t) (m.value k)).told
            (all_of (tells turn m1 (singles t k (acts_of (y ∷ rest))))) one.told others.told);
      }
