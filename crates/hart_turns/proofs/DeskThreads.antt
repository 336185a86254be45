-- Which threads live by the slots, and how many were made, after a turn at the desk: what the machine's turn leaves.
use Rattle.std.proofs.Common.{◌≡◌, ◌≤◌, ◌<◌, ◌+◌, ◌==◌, ◌||◌, ℕ, zero, suc, Bool, true, false, cond, Option, Some, None, List, [], ◌∷◌, ◌++◌, length, map, take, set, slice_get, slice_set, slice_index, refl, ap, sym, subst, ◌∙◌, arith, eq-eqb, ne_eqb, inl, inr}
use Rattle.std.specs.Prelude.{IsSome}
use Rattle.std.specs.Option.{option_map_or}
use Rattle.std.proofs.lemmas.Bool.{cases_eq}
use Rattle.std.proofs.lemmas.List.{map-set, length-map, length-append, take_more_set}
use Rattle.run_record.specs.declared.entry.Check.{Check}
use Rattle.run_record.specs.declared.event.Event.{Event}
use Rattle.run_record.specs.declared.event.Event.TheVariants as events
use Rattle.entry_calls.specs.Effects as effects
use Rattle.bare_machine.specs.declared.thread.Thread.{Thread as MachineThread}
use Rattle.bare_machine.specs.declared.request.Request.{Request}
use Rattle.bare_machine.specs.declared.request.Request.TheVariants as kinds
use Rattle.bare_machine.specs.Asked.{asked}
use Rattle.bare_machine.specs.Step.{first_events}
use Rattle.bare_machine.specs.World.{new_thread}
use Rattle.rv_exec.specs.Registers.{Registers}
use Rattle.place_turns.specs.Places.{Local, Desk, of_desk, desk_in}
use Rattle.place_turns.specs.Turns.{Turned, served, join_answer}
use Rattle.place_turns.specs.Turns as turns
use Rattle.slot_desk.specs.declared.answers.Created.TheVariants.{Thread, Full}
use Rattle.slot_desk.specs.Desks.{ThreadContents, DeskContents, live_of, lives_of, held_of}
use Rattle.slot_desk.specs.Steps.{is_full, created, after_create, ended, after_end}
use Rattle.watched_turns.specs.Checking.{Loads}
use Rattle.placed_detector.specs.Instructions.{Beside, HearsEvent, HearsEvents}
use Rattle.hart_steps.specs.Asked.{UsesDesk}
use Rattle.hart_turns.specs.AtDesk.{MayUse}

-- ---- a thread that is made, and one that ends

take_set_any : {X : Type 0} (n : ℕ) (xs : List X) (i : ℕ) (y : X) → take n (set xs i y) ≡ set (take n xs) i y
take_set_any zero xs i y = refl
take_set_any (suc n) [] i y = refl
take_set_any (suc n) (x ∷ xs) zero y = refl
take_set_any {X} (suc n) (x ∷ xs) (suc i) y = ap (λ (zs : List X). x ∷ zs) (take_set_any n xs i y)

abbrev lives : ThreadContents → Bool
lives t = t.lives

second_fails : (a b : Bool) → (a || b) ≡ false → b ≡ false
second_fails false b q = q
second_fails true b q = absurd (cc)

-- a desk that isn't full has room for one more
has_room : (d : DeskContents) → is_full d ≡ false → d.made ≤ 1024 → d.made < 1024
has_room d q few = elim (cases_eq d.made 1024) [
  | inl e ↦ absurd (let y = eq-eqb d.made 1024 e in let z = second_fails (live_of d == d.harts) (d.made == 1024) q in cc)
  | inr n ↦ omega (arith, few, n)
]

-- the desk with one thread more
abbrev more : DeskContents → List ℕ → DeskContents
more d clock = record d { made = d.made + 1; threads = slice_set d.threads d.made (record { lives = true; told = Some clock }) }

made_threads : (d : DeskContents) (clock : List ℕ) (child : ℕ) → created d ≡ Thread child → d.made ≤ 1024 → length d.threads ≡ 1024 →
    (lives_of (after_create d clock) ≡ lives_of d ++ true ∷ []) × ((after_create d clock).made ≡ d.made + 1)
made_threads d clock child granted few room = at (is_full d) refl granted
  where
    at : (b : Bool) → is_full d ≡ b → cond b Full (Thread d.made) ≡ Thread child →
        (lives_of (cond b d (more d clock)) ≡ lives_of d ++ true ∷ []) × ((cond b d (more d clock)).made ≡ d.made + 1)
    at true q g = absurd (cc)
    at false q g =
        let below = has_room d q few in (
          ap (take (d.made + 1)) (map-set lives d.threads d.made (record { lives = true; told = Some clock }))
              ∙ take_more_set (map lives d.threads) d.made true (let z = length-map d.threads lives in omega arith),
          refl,
        )

-- the desk after the end of a thread that holds this, if anything
abbrev left_by : DeskContents → ℕ → List ℕ → Option (ℕ × ℕ) → DeskContents
left_by d t clock o = option_map_or (λ (h : ℕ × ℕ). ended d t h.0 (slice_index clock h.0) clock) o d

ended_threads : (d : DeskContents) (t : ℕ) (clock : List ℕ) → IsSome (held_of d t) →
    (lives_of (after_end d t clock) ≡ slice_set (lives_of d) t false) × ((after_end d t clock).made ≡ d.made)
ended_threads d t clock holds = at (held_of d t) holds
  where
    at : (o : Option (ℕ × ℕ)) → IsSome o → (lives_of (left_by d t clock o) ≡ slice_set (lives_of d) t false) × ((left_by d t clock o).made ≡ d.made)
    at None s = absurd (cc)
    at (Some h) s =
        (ap (take d.made) (map-set lives d.threads t (record { lives = false; told = Some clock })) ∙ take_set_any d.made (map lives d.threads) t false, refl)

-- ---- the events of an instruction

module _ (file : List ℕ) (k t : ℕ) (loads : Loads) where
  heard_none : (i : ℕ) (css : List (List Check)) (old new : Beside) → HearsEvents file k t loads i [] css old new → old ≡ new
  heard_none i [] old new h = h
  heard_none i (cs ∷ css) old new h = absurd h

  heard_one : (i : ℕ) (e : Event) (css : List (List Check)) (old new : Beside) → HearsEvents file k t loads i (e ∷ []) css old new → HearsEvent k t e old new
  heard_one i e [] old new h = absurd h
  heard_one i e (cs ∷ css) old new h = subst (λ (b : Beside). HearsEvent k t e old b) (heard_none (i + 1) css h.0 new h.5) h.1

  -- what is heard after the thread has begun, where it does so first
  record Begun (es : List Event) (old new : Beside) : Type 0 where
    mid : Beside
    same : mid.desk ≡ old.desk
    at : ℕ
    checks : List (List Check)
    heard : HearsEvents file k t loads at es checks mid new

  past_begin : (began : Bool) (es : List Event) (i : ℕ) (css : List (List Check)) (old new : Beside) →
      HearsEvents file k t loads i (cond began [] (events.Begin ∷ []) ++ es) css old new → Begun es old new
  past_begin true es i css old new h = record { mid = old; same = refl; at = i; checks = css; heard = h }
  past_begin false es i [] old new h = absurd h
  past_begin false es i (cs ∷ css) old new h = record { mid = h.0; same = h.1.desk_is; at = i + 1; checks = css; heard = h.5 }

-- ---- the slots follow the machine

-- by the slots the threads live that live by the machine's desk, and as many were made
pub record Follows (d : DeskContents) (m : Desk) : Type 0 where
  pub lives_are : lives_of d ≡ m.lives
  pub made_is : d.made ≡ length m.made

follows_same : (d d' : DeskContents) (m m' : Desk) → Follows d m → d' ≡ d → m.lives ≡ m'.lives → m.made ≡ m'.made → Follows d' m'
follows_same d d' m m' f q l n = record {
  lives_are = ap lives_of q ∙ (f.lives_are ∙ l);
  made_is = ap (λ (x : DeskContents). x.made) q ∙ (f.made_is ∙ ap length n);
}

module _ (file : List ℕ) (k t : ℕ) (loads : Loads) (css : List (List Check)) (d : DeskContents) (m m' : Desk) (l l' : Local) (x : MachineThread) (es : List Event)
    (old new : Beside) (found : old.desk ≡ d) (few : d.made ≤ 1024) (room : length d.threads ≡ 1024) (follows : Follows d m)
    (heard : HearsEvents file k t loads 0 es css old new) where
  -- the turn leaves that desk and tells these events
  abbrev Leaves : Turned → Type 0
  Leaves o = o ≡ record { local = l'; value = of_desk m'; told = es }

  begun : (o : Turned) (tail : List Event) → Leaves o → o.told ≡ first_events x ++ tail → Begun file k t loads tail old new
  begun o tail q told = past_begin file k t loads x.began tail 0 css old new
      (subst (λ (z : List Event). HearsEvents file k t loads 0 z css old new) (sym (ap (λ (p : Turned). p.told) q) ∙ told) heard)

  lives_left : (o : Turned) → Leaves o → (desk_in o.value).lives ≡ m'.lives
  lives_left o q = ap (λ (p : Turned). (desk_in p.value).lives) q

  made_left : (o : Turned) → Leaves o → (desk_in o.value).made ≡ m'.made
  made_left o q = ap (λ (p : Turned). (desk_in p.value).made) q

  -- no event changes the desk
  none_follows : (o : Turned) → Leaves o → o.told ≡ first_events x ++ [] → (desk_in o.value).lives ≡ m.lives → (desk_in o.value).made ≡ m.made → Follows new.desk m'
  none_follows o q told ls ms =
      let b = begun o [] q told in
      let same = ap (λ (z : Beside). z.desk) (heard_none file k t loads b.at b.checks b.mid new b.heard) in
      follows_same d new.desk m m' follows (sym same ∙ (b.same ∙ found)) (sym ls ∙ lives_left o q) (sym ms ∙ made_left o q)

  put_follows : (o : Turned) (word count : ℕ) → Leaves o → o.told ≡ first_events x ++ events.Put word count ∷ [] → (desk_in o.value).lives ≡ m.lives →
      (desk_in o.value).made ≡ m.made → Follows new.desk m'
  put_follows o word count q told ls ms =
      let b = begun o (events.Put word count ∷ []) q told in
      let one = heard_one file k t loads b.at (events.Put word count) b.checks b.mid new b.heard in
      follows_same d new.desk m m' follows (one.desk_is ∙ (b.same ∙ found)) (sym ls ∙ lives_left o q) (sym ms ∙ made_left o q)

  join_follows : (o : Turned) (of : ℕ) (ended : Bool) → Leaves o → o.told ≡ first_events x ++ cond ended (events.Join of ∷ []) [] → (desk_in o.value).lives ≡ m.lives →
      (desk_in o.value).made ≡ m.made → Follows new.desk m'
  join_follows o of false q told ls ms = none_follows o q told ls ms
  join_follows o of true q told ls ms =
      let b = begun o (events.Join of ∷ []) q told in
      let one = heard_one file k t loads b.at (events.Join of) b.checks b.mid new b.heard in
      follows_same d new.desk m m' follows (one.desk_is ∙ (b.same ∙ found)) (sym ls ∙ lives_left o q) (sym ms ∙ made_left o q)

  stop_follows : (o : Turned) → IsSome (held_of d t) → Leaves o → o.told ≡ first_events x ++ events.End ∷ [] → (desk_in o.value).lives ≡ slice_set m.lives t false →
      (desk_in o.value).made ≡ m.made → Follows new.desk m'
  stop_follows o holds q told ls ms =
      let b = begun o (events.End ∷ []) q told in
      let one = heard_one file k t loads b.at events.End b.checks b.mid new b.heard in
      let here = b.same ∙ found in
      let clock = b.mid.watched.clock in
      let is = one.desk_is ∙ ap (λ (z : DeskContents). after_end z t clock) here in
      let ends = ended_threads d t clock holds in
      record {
        lives_are = ap lives_of is ∙ (ends.0 ∙ (ap (λ (z : List Bool). slice_set z t false) follows.lives_are ∙ (sym ls ∙ lives_left o q)));
        made_is = ap (λ (z : DeskContents). z.made) is ∙ (ends.1 ∙ (follows.made_is ∙ ap length (sym ms ∙ made_left o q)));
      }

  create_follows : (o : Turned) (child : MachineThread) → Leaves o → o.told ≡ first_events x ++ events.Create (length m.made) ∷ [] →
      (desk_in o.value).lives ≡ m.lives ++ true ∷ [] → (desk_in o.value).made ≡ m.made ++ child ∷ [] → Follows new.desk m'
  create_follows o child q told ls ms =
      let n = length m.made in
      let b = begun o (events.Create n ∷ []) q told in
      let one = heard_one file k t loads b.at (events.Create n) b.checks b.mid new b.heard in
      let here = b.same ∙ found in
      let clock = b.mid.watched.clock in
      let is = one.desk_is ∙ ap (λ (z : DeskContents). after_create z clock) here in
      let makes = made_threads d clock n (ap created (sym here) ∙ one.granted) few room in
      let long = length-append m.made (child ∷ []) in
      record {
        lives_are = ap lives_of is ∙ (makes.0 ∙ (ap (λ (z : List Bool). z ++ true ∷ []) follows.lives_are ∙ (sym ls ∙ lives_left o q)));
        made_is = ap (λ (z : DeskContents). z.made) is ∙ (makes.1 ∙ (ap (λ (z : ℕ). z + 1) follows.made_is ∙ (sym long ∙ ap length (sym ms ∙ made_left o q))));
      }

  -- a creation that the machine grants, or not
  creation_follows : (pc argument stack : ℕ) (full : Bool) → Leaves (turns.create_turn l m x pc argument stack full) → Follows new.desk m'
  creation_follows pc argument stack true q = none_follows _ q refl refl refl
  creation_follows pc argument stack false q =
      let other : (length m.made == effects.full) ≡ false =
      ne_eqb (length m.made) effects.full (λ e. let z = follows.made_is in omega (arith, few, z, e)) in
      create_follows _ (new_thread pc argument stack) q
      (ap (λ (b : Bool). first_events x ++ cond b [] (events.Create (length m.made) ∷ [])) other) refl refl

  -- after each request that uses the desk
  pub desk_follows : (harts : ℕ) (regs : Registers) (r : Request) → UsesDesk r → MayUse d t r → Leaves (served harts t l (of_desk m) x (asked regs r)) → Follows new.desk m'
  desk_follows harts regs (kinds.Put word count) uses may q = put_follows _ word count q refl refl refl
  desk_follows harts regs (kinds.Create pc argument stack) uses may q = creation_follows pc argument stack (turns.is_full harts m) q
  desk_follows harts regs (kinds.Join of) uses may q = join_follows _ of (join_answer (slice_get m.lives of) == 0) q refl refl refl
  desk_follows harts regs (kinds.Stop end) uses may q = stop_follows _ may q refl refl refl
  desk_follows harts regs _ uses may q = absurd uses
