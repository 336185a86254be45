-- Instructions that use no object: what they leave of a thread, wherever it is.
use Rattle.std.proofs.Common.{◌≡◌, ℕ, zero, suc, ◌+◌, ◌≤◌, true, Option, None, List, [], ◌∷◌, ◌++◌, length, length-append, refl, ap, ap₂, sym, subst, ◌∙◌, arith}
use Rattle.run_record.specs.declared.event.Event.{Event}
use Rattle.run_record.specs.declared.event.Event.TheVariants as events
use Rattle.run_record.specs.declared.entry.Check.{Check}
use Rattle.run_record.specs.declared.entry.Label.{Label}
use Rattle.run_record.specs.declared.limits.Limits.{Limits}
use Rattle.run_laws.specs.Labels.{raises}
use Rattle.turn_orders.specs.Lists.{Each}
use Rattle.turn_orders.proofs.Members.{each_append}
use Rattle.place_turns.specs.Places.{Local, Value, of_nobody}
use Rattle.place_turns.specs.Turns.{steps, bare_turn}
use Rattle.machine_laws.specs.Events.{is_local}
use Rattle.watched_turns.specs.Checking.{Loads}
use Rattle.slot_desk.specs.Desks.{DeskContents}
use Rattle.slot_desk.specs.Steps.{new_desk}
use Rattle.sync_slab.specs.Objects.{SyncObjects}
use Rattle.race_core.specs.Watched.{Watched}
use Rattle.thread_events.specs.Heard.{watcher_after}
use Rattle.placed_detector.specs.Standing.{Hand, Held}
use Rattle.placed_detector.specs.Instructions.{Beside, told_in, HasLabel, HearsEvents}
use Rattle.deed_histories.specs.Deeds.{Made, all_events, all_checks, AreMade}
use Rattle.hart_parts.specs.Parts.{after_steps}
use Rattle.part_growth.specs.Growth.{MakesLocal, AreLocal}

-- ---- local events

-- a local event leaves the label
pub label_kept : (told : Option (List ℕ)) (set : SyncObjects) (d : DeskContents) (e : Event) (w : Watched) → is_local e ≡ true →
    (watcher_after told set d e w).label ≡ w.label
label_kept told set d events.Begin w l = refl
label_kept told set d (events.Enter frame) w l = refl
label_kept told set d events.Leave w l = refl
label_kept told set d (events.Access place addr size read atomic) w l = refl
label_kept told set d (events.Join of) w l = absurd (cc)
label_kept told set d (events.Acquire addr part) w l = absurd (cc)
label_kept told set d (events.Release addr part replaces) w l = absurd (cc)
label_kept told set d (events.Create child) w l = absurd (cc)
label_kept told set d events.End w l = absurd (cc)
label_kept told set d (events.Lock addr read) w l = absurd (cc)
label_kept told set d (events.Unlock addr read) w l = absurd (cc)
label_kept told set d (events.Destroy addr) w l = absurd (cc)
label_kept told set d (events.Put value count) w l = absurd (cc)
label_kept told set d (events.Clear addr) w l = absurd (cc)

zero_is_one : (n : ℕ) → n ≡ 0 → n ≡ 1 → ⊥
zero_is_one n p q = omega arith

-- and raises no epoch
pub none_raised : (e : Event) → is_local e ≡ true → raises e ≡ 1 → ⊥
none_raised (events.Create child) l r = absurd (cc)
none_raised (events.Release addr part replaces) l r = absurd (cc)
none_raised events.Begin l r = absurd (zero_is_one 0 refl r)
none_raised (events.Enter frame) l r = absurd (zero_is_one 0 refl r)
none_raised events.Leave l r = absurd (zero_is_one 0 refl r)
none_raised (events.Access place addr size read atomic) l r = absurd (zero_is_one 0 refl r)
none_raised events.End l r = absurd (cc)
none_raised (events.Join of) l r = absurd (cc)
none_raised (events.Acquire addr part) l r = absurd (cc)
none_raised (events.Lock addr read) l r = absurd (cc)
none_raised (events.Unlock addr read) l r = absurd (cc)
none_raised (events.Destroy addr) l r = absurd (cc)
none_raised (events.Put value count) l r = absurd (cc)
none_raised (events.Clear addr) l r = absurd (cc)

-- a thread without a label makes none
none_unlabelled : (e : Event) (o : Option Label) → is_local e ≡ true → HasLabel e o → o ≡ None → ⊥
none_unlabelled events.Begin o l has q = let p = has.1 in absurd (cc)
none_unlabelled (events.Enter frame) o l has q = let p = has.1 in absurd (cc)
none_unlabelled events.Leave o l has q = let p = has.1 in absurd (cc)
none_unlabelled (events.Access place addr size read atomic) o l has q = let p = has.1 in absurd (cc)
none_unlabelled (events.Create child) o l has q = absurd (cc)
none_unlabelled (events.Release addr part replaces) o l has q = absurd (cc)
none_unlabelled events.End o l has q = absurd (cc)
none_unlabelled (events.Join of) o l has q = absurd (cc)
none_unlabelled (events.Acquire addr part) o l has q = absurd (cc)
none_unlabelled (events.Lock addr read) o l has q = absurd (cc)
none_unlabelled (events.Unlock addr read) o l has q = absurd (cc)
none_unlabelled (events.Destroy addr) o l has q = absurd (cc)
none_unlabelled (events.Put value count) o l has q = absurd (cc)
none_unlabelled (events.Clear addr) o l has q = absurd (cc)

-- ---- events that are heard

module _ (file : List ℕ) (k t : ℕ) (loads : Loads) where
  -- each event is heard with its checks
  pub as_many : (i : ℕ) (es : List Event) (css : List (List Check)) (b c : Beside) → HearsEvents file k t loads i es css b c → length es ≡ length css
  as_many i [] [] b c h = refl
  as_many i (e ∷ es) (cs ∷ css) b c h = ap suc (as_many (i + 1) es css h.0 c h.5)
  as_many i [] (cs ∷ css) b c h = absurd h
  as_many i (e ∷ es) [] b c h = absurd h

  -- local events leave the label
  pub same_label : (i : ℕ) (es : List Event) (css : List (List Check)) (b c : Beside) → HearsEvents file k t loads i es css b c →
      Each (λ (e : Event). is_local e ≡ true) es → c.watched.label ≡ b.watched.label
  same_label i [] [] b c h a = ap (λ (x : Beside). x.watched.label) (sym h)
  same_label i (e ∷ es) (cs ∷ css) b c h a =
      same_label (i + 1) es css h.0 c h.5 a.1 ∙ (ap (λ (w : Watched). w.label) h.1.watched ∙ label_kept (told_in b.given) b.sync b.desk e b.watched a.0)
  same_label i [] (cs ∷ css) b c h a = absurd h
  same_label i (e ∷ es) [] b c h a = absurd h

  -- without a label none is heard
  pub record Silent (es : List Event) (css : List (List Check)) (b c : Beside) : Type 0 where
    pub events : es ≡ []
    pub checks : css ≡ []
    pub same : b ≡ c

  pub silent : (i : ℕ) (es : List Event) (css : List (List Check)) (b c : Beside) → HearsEvents file k t loads i es css b c →
      Each (λ (e : Event). is_local e ≡ true) es → b.watched.label ≡ None → Silent es css b c
  silent i [] [] b c h a q = record { events = refl; checks = refl; same = h }
  silent i (e ∷ es) (cs ∷ css) b c h a q = absurd (none_unlabelled e b.watched.label a.0 h.1.label q)
  silent i [] (cs ∷ css) b c h a q = absurd h
  silent i (e ∷ es) [] b c h a q = absurd h

-- ---- instructions

-- a place with that value, whatever else it has
abbrev pub some_held : Limits → Value → Held
some_held limits v = record { bare = v; sync = record { slots = 0; objects = []; spare = 0 }; desk = new_desk limits }

module _ (file : List ℕ) (limits : Limits) (era t : ℕ) where
  abbrev IsOne : Made → Hand → Hand → Type 0
  IsOne x found left = MakesLocal file limits.harts era t x found left

  abbrev Are : List Made → Hand → Hand → Type 0
  Are xs found left = AreLocal file limits.harts era t xs found left

  abbrev turned : Local → Value → Local
  turned l v = (bare_turn file limits.harts t steps l v).local

  pub local_push : (xs : List Made) (x : Made) (found now left : Hand) → Are xs found now → IsOne x now left → Are (xs ++ x ∷ []) found left
  local_push [] x found now left a m = (left, subst (λ (h : Hand). IsOne x h left) (sym a) m, refl)
  local_push (y ∷ ys) x found now left a m = (a.0, a.1, local_push ys x a.0 now left a.2 m)

  -- as many lists of checks as events
  pub many_checks : (xs : List Made) (found left : Hand) → Are xs found left → length (all_events xs) ≡ length (all_checks xs)
  many_checks [] found left a = refl
  many_checks (x ∷ xs) found left a =
      let one = as_many file 0 t x.loads 0 x.events x.checks _ _ (a.1.instruction 0 (some_held limits of_nobody)).heard in
      let others = many_checks xs a.0 left a.2 in
      length-append x.events (all_events xs) ∙ (ap₂ (λ (m n : ℕ). m + n) one others ∙ sym (length-append x.checks (all_checks xs)))

  pub all_local : (xs : List Made) (found left : Hand) → Are xs found left → Each (λ (e : Event). is_local e ≡ true) (all_events xs)
  all_local [] found left a = tt
  all_local (x ∷ xs) found left a =
      each_append (λ (e : Event). is_local e ≡ true) x.events (all_events xs) a.1.local_events (all_local xs a.0 left a.2)

  pub labels_stay : (xs : List Made) (found left : Hand) → Are xs found left → left.watched.label ≡ found.watched.label
  labels_stay [] found left a = ap (λ (h : Hand). h.watched.label) (sym a)
  labels_stay (x ∷ xs) found left a =
      labels_stay xs a.0 left a.2
      ∙ same_label file 0 t x.loads 0 x.events x.checks _ _ (a.1.instruction 0 (some_held limits of_nobody)).heard a.1.local_events

  -- ---- the thread after some of them

  turned_to : (x : Made) (found left : Hand) → IsOne x found left → (v : Value) → turned found.bare v ≡ left.bare
  turned_to x found left m v = ap (λ (r : Rattle.place_turns.specs.Turns.Turned). r.local) (m.instruction 0 (some_held limits v)).stepped

  first_step : (l : Local) (v : Value) (n : ℕ) → after_steps file limits.harts t l v (suc n) ≡ after_steps file limits.harts t (turned l v) v n
  first_step l v zero = refl
  first_step l v (suc n) = ap (λ (z : Local). turned z v) (first_step l v n)

  one_step : (x : Made) (found left : Hand) → IsOne x found left → (v : Value) (n : ℕ) →
      after_steps file limits.harts t found.bare v (suc n) ≡ after_steps file limits.harts t left.bare v n
  one_step x found left m v n = first_step found.bare v n ∙ ap (λ (z : Local). after_steps file limits.harts t z v n) (turned_to x found left m v)

  pub steps_lead : (xs : List Made) (found left : Hand) → Are xs found left → (v : Value) → after_steps file limits.harts t found.bare v (length xs) ≡ left.bare
  steps_lead [] found left a v = ap (λ (h : Hand). h.bare) a
  steps_lead (x ∷ xs) found left a v = one_step x found a.0 a.1 v (length xs) ∙ steps_lead xs a.0 left a.2 v

  -- wherever it is
  pub steps_alike : (xs : List Made) (found left : Hand) → Are xs found left → (v w : Value) (n : ℕ) → n ≤ length xs →
      after_steps file limits.harts t found.bare v n ≡ after_steps file limits.harts t found.bare w n
  steps_alike xs found left a v w zero l = refl
  steps_alike [] found left a v w (suc n) l = let q : suc n ≤ 0 = l in absurd (omega arith)
  steps_alike (x ∷ xs) found left a v w (suc n) l =
      let q : suc n ≤ suc (length xs) = l in
      one_step x found a.0 a.1 v n ∙ (steps_alike xs a.0 left a.2 v w n (omega arith) ∙ sym (one_step x found a.0 a.1 w n))

  -- ---- with one more at a place

  -- they and a last one are the instructions of one entry
  pub made_before : (k : ℕ) (xs : List Made) (x : Made) (found now left : Hand) (held held_left : Held) → Are xs found now →
      AreMade file limits.harts era t k (x ∷ []) now left held held_left → AreMade file limits.harts era t k (xs ++ x ∷ []) found left held held_left
  made_before k [] x found now left held held_left a m = subst (λ (h : Hand). AreMade file limits.harts era t k (x ∷ []) h left held held_left) (sym a) m
  made_before k (y ∷ []) x found now left held held_left a m =
      (a.0, held, a.1.instruction k held, a.1.alive, a.1.without_object, made_before k [] x a.0 now left held held_left a.2 m)
  made_before k (y ∷ (z ∷ zs)) x found now left held held_left a m =
      (a.0, held, a.1.instruction k held, a.1.alive, a.1.without_object, made_before k (z ∷ zs) x a.0 now left held held_left a.2 m)
