-- A deed of a worker, whichever it is, and its entry.
use Rattle.std.proofs.Common.{◌≡◌, ℕ, List, [], ◌∷◌, ◌++◌, length, append_assoc, append-nil, refl, ap, ap₂, sym, subst, ◌∙◌}
use Rattle.std.specs.Prelude.{map, Ok}
use Rattle.std.specs.List.{AllZip, flat_map, enumerate_from}
use Rattle.run_record.specs.declared.event.Event.{Event}
use Rattle.run_record.specs.declared.entry.Entry.{Entry}
use Rattle.run_record.specs.declared.entry.DeskNote.{DeskNote}
use Rattle.run_record.specs.declared.entry.DeskNote.TheVariants.{Nothing, Attach, Leave}
use Rattle.run_record.specs.declared.entry.Label.{Label}
use Rattle.run_record.specs.declared.limits.Limits.{Limits}
use Rattle.elf_image.specs.File.{image_of}
use Rattle.run_laws.specs.Moments.{Notes, NewEra, Moment, entry_moments, event_moment}
use Rattle.run_laws.specs.Checks.{IsGrouped}
use Rattle.run_laws.specs.Numbers.{up_from}
use Rattle.bare_machine.specs.World.{World}
use Rattle.bare_machine.specs.Step.{desk}
use Rattle.turn_orders.specs.Machine.{State, Turn, next, tells, many, single, singles}
use Rattle.turn_orders.proofs.Functions.{but_same}
use Rattle.turn_orders.proofs.Many.{many_next, many_tells}
use Rattle.joint_turns.specs.Joint.{Value}
use Rattle.watched_turns.specs.Turns.{Local, Act, attaches, begins, leaves, Told, unchecked, watched_turn}
use Rattle.watched_turns.specs.Along.{WerePlaced, all_of}
use Rattle.turn_histories.specs.Entries.{MakesEntry, MakesSteps, IsTold}
use Rattle.race_core.specs.History.{era_now}
use Rattle.thread_events.proofs.Longer.{era_stays}
use Rattle.placed_detector.specs.Standing.{Hand, Held, Standing, left_with}
use Rattle.placed_detector.specs.Instructions.{AreHeard}
use Rattle.placed_detector.specs.Slots.{TakesSlot, LeavesSlot}
use Rattle.placed_detector.proofs.Slots.{begins_stands, taken_slot_stands, left_slot_stands, told_is, attach_placed}
use Rattle.deed_histories.specs.Deeds.{Made, all_events, all_checks, AreMade, TellsMade, TellsNote, IsDeed, Takes, Leaves, Makes, IsFollowed}
use Rattle.deed_histories.proofs.Numbered.{entry_heard, entry_grouped}
use Rattle.deed_histories.proofs.Made.{MadeAll, acts_of, loads_of, all_made, made_as_many}

-- the moment with which the entry begins
abbrev pub beginning : Entry → Moment
beginning e = record { entry = 0; round = e.round; item = Notes e.tid e.note; checks = [] }

module _ (file : List ℕ) (limits : Limits) (ok : image_of file ≡ Ok file) (c : State Hand Held) (m : State Local Value) (w : World) (h : List Moment)
    (s : Standing file limits c m w h) (t : ℕ) (hand : Hand) (held : Held) (e : Entry) where
  abbrev turn : Turn Local Value Act (List Told)
  turn = watched_turn file limits.harts limits.epochs

  -- an entry with a note has one moment
  one_moment : (note : DeskNote) → TellsNote t note e → entry_moments 0 e ≡ beginning e ∷ []
  one_moment note tn = ap (λ (es : List Event). beginning e ∷ map (event_moment 0 e) (enumerate_from 0 es)) tn.events

  no_group : (note : DeskNote) → TellsNote t note e → IsGrouped e
  no_group note tn = tn.checks ∙ ap (λ (es : List Event). flat_map (λ (i : ℕ). Rattle.run_laws.specs.Moments.checks_at i e.checks)
      (up_from 0 (length es))) (sym tn.events)

  item_is : (note : DeskNote) → TellsNote t note e → (beginning e).item ≡ Notes t note
  item_is note tn = ap₂ Notes tn.thread tn.note_is

  followed_take : (label : Label) → TakesSlot limits (era_now limits.epochs h) t label (c.local t) hand (c.value desk) held → TellsNote t (Attach label) e →
      IsFollowed file limits c m h t desk hand held e (attaches ∷ [])
  followed_take label tk tn =
      let is = item_is (Attach label) tn in
      let one = one_moment (Attach label) tn in
      let told = told_is file limits ok c m w h s t (beginning e) refl label is hand held tk in
      record {
        world = w;
        stands = subst (λ (zs : List Moment). Standing file limits (left_with c t desk hand held) (next (many turn) m (single t desk (attaches ∷ []))) w
            (h ++ zs)) (sym one)
            (subst (λ (z : State Local Value). Standing file limits (left_with c t desk hand held) z w (h ++ beginning e ∷ []))
            (sym (many_next turn m t desk (attaches ∷ []))) (taken_slot_stands file limits ok c m w h s t (beginning e) refl label is hand held tk));
        makes = subst (λ (n : ℕ). MakesEntry file limits.harts limits.epochs (m.local t) (m.value desk) t desk (attaches ∷ []) e.note n) (sym tn.steps)
            (subst (λ (n : DeskNote). MakesEntry file limits.harts limits.epochs (m.local t) (m.value desk) t desk (attaches ∷ []) n 0) (sym tn.note_is)
            (refl, refl, refl));
        placed = (attach_placed file limits ok c m w h s t (beginning e) refl label is hand held tk, tt);
        told = subst (λ (zs : List Moment). AllZip IsTold zs (all_of (many turn t (attaches ∷ []) (m.local t) (m.value desk)).told)) (sym one)
            (subst (λ (xs : List Told). AllZip IsTold (beginning e ∷ []) (xs ++ [])) (sym told) (record { item = is; checks = refl }, tt));
        grouped = no_group (Attach label) tn;
      }

  followed_leave : (label : Label) → LeavesSlot (era_now limits.epochs h) t label (c.local t) (c.value desk) held → hand ≡ c.local t → TellsNote t
      (Leave label) e → IsFollowed file limits c m h t desk hand held e (leaves label ∷ [])
  followed_leave label lv same tn =
      let is = item_is (Leave label) tn in
      let one = one_moment (Leave label) tn in
      record {
        world = w;
        stands = subst (λ (zs : List Moment). Standing file limits (left_with c t desk hand held)
            (next (many turn) m (single t desk (leaves label ∷ []))) w (h ++ zs)) (sym one)
            (subst (λ (z : State Local Value). Standing file limits (left_with c t desk hand held) z w (h ++ beginning e ∷ []))
            (sym (many_next turn m t desk (leaves label ∷ [])))
            (subst (λ (l : Hand). Standing file limits (left_with c t desk l held) (next turn m (single t desk (leaves label))) w (h ++ beginning e ∷ []))
            (sym same) (left_slot_stands file limits ok c m w h s t (beginning e) refl label is held lv)));
        makes = subst (λ (n : ℕ). MakesEntry file limits.harts limits.epochs (m.local t) (m.value desk) t desk (leaves label ∷ []) e.note n) (sym tn.steps)
            (subst (λ (n : DeskNote). MakesEntry file limits.harts limits.epochs (m.local t) (m.value desk) t desk (leaves label ∷ []) n 0)
            (sym tn.note_is) (refl, refl, refl));
        placed = ((tt, tt), tt);
        told = subst (λ (zs : List Moment). AllZip IsTold zs (all_of (many turn t (leaves label ∷ []) (m.local t) (m.value desk)).told)) (sym one)
            (record { item = is; checks = refl }, tt);
        grouped = no_group (Leave label) tn;
      }

  -- ---- instructions

  module _ (k : ℕ) (xs : List Made) (made : AreMade file limits.harts (era_now limits.epochs h) t k xs (c.local t) hand (c.value k) held)
      (tm : TellsMade t xs e) where
    abbrev m1 : State Local Value
    m1 = next turn m (single t k begins)

    abbrev rest : List Moment
    rest = map (event_moment 0 e) (enumerate_from 0 e.events)

    begun : (beginning e).item ≡ Notes t Nothing
    begun = ap₂ Notes tm.thread tm.note

    stands_begun : Standing file limits c m1 w (h ++ beginning e ∷ [])
    stands_begun = begins_stands file limits ok c m w h s t (beginning e) refl k begun

    era_is : era_now limits.epochs (h ++ beginning e ∷ []) ≡ era_now limits.epochs h
    era_is = era_stays limits.epochs h (beginning e) none
      where
        none : (beginning e).item ≡ NewEra → ⊥
        none q = cc

    as_many : length (all_events xs) ≡ length (all_checks xs)
    as_many = made_as_many file limits t k (era_now limits.epochs h) xs (c.local t) hand (c.value k) held made

    heard : AreHeard t rest (all_events xs) (all_checks xs)
    heard = subst (λ (es : List Event). AreHeard t (map (event_moment 0 e) (enumerate_from 0 es)) (all_events xs) (all_checks xs)) (sym tm.events)
        (entry_heard e t tm.thread (all_events xs) (all_checks xs) as_many tm.checks tm.numbered)

    all : MadeAll file limits c m1 (h ++ beginning e ∷ []) rest t k xs hand held
    all = all_made file limits ok t k xs c m1 w (h ++ beginning e ∷ []) rest hand held stands_begun
        (subst (λ (n : ℕ). AreMade file limits.harts n t k xs (c.local t) hand (c.value k) held) (sym era_is) made) heard

    same_local : m1.local t ≡ m.local t
    same_local = ap (λ (f : ℕ → Local). f t) (but_same m.local t)

    same_value : m1.value k ≡ m.value k
    same_value = ap (λ (f : ℕ → Value). f k) (but_same m.value k)

    abbrev acts : List Act
    acts = begins ∷ acts_of xs

    acts_are : (ys : List Made) → acts_of ys ≡ map Rattle.watched_turns.specs.Turns.steps (loads_of ys)
    acts_are [] = refl
    acts_are (y ∷ ys) = ap (λ (zs : List Act). Rattle.watched_turns.specs.Turns.steps y.loads ∷ zs) (acts_are ys)

    long_loads : (ys : List Made) → length (loads_of ys) ≡ length ys
    long_loads [] = refl
    long_loads (y ∷ ys) = ap Rattle.std.proofs.Common.suc (long_loads ys)

    makes_steps : MakesSteps file limits.harts limits.epochs (m.local t) (m.value k) t k (loads_of xs)
    makes_steps = subst (λ (l : Local). MakesSteps file limits.harts limits.epochs l (m.value k) t k (loads_of xs)) same_local
        (subst (λ (v : Value). MakesSteps file limits.harts limits.epochs (m1.local t) v t k (loads_of xs)) same_value all.makes)

    makes_entry : MakesEntry file limits.harts limits.epochs (m.local t) (m.value k) t k acts Nothing (length xs)
    makes_entry = (loads_of xs, ap (λ (zs : List Act). begins ∷ zs) (acts_are xs), long_loads xs, makes_steps)

    were_placed : WerePlaced file limits.harts limits.epochs (m.local t) (m.value k) t k acts
    were_placed = (
      (tt, tt),
      subst (λ (l : Local). WerePlaced file limits.harts limits.epochs l (m.value k) t k (acts_of xs)) same_local
          (subst (λ (v : Value). WerePlaced file limits.harts limits.epochs (m1.local t) v t k (acts_of xs)) same_value all.were_placed),
    )

    told_all : AllZip IsTold (entry_moments 0 e) (all_of (tells turn m (singles t k acts)))
    told_all = (record { item = begun; checks = refl }, all.told)

    told_once : (many turn t acts (m.local t) (m.value k)).told ≡ tells turn m (singles t k acts)
    told_once =
        sym (append-nil (many turn t acts (m.local t) (m.value k)).told)
        ∙ (many_tells turn m (single t k acts ∷ []) ∙ ap (tells turn m) (append-nil (singles t k acts)))

    followed_made : IsFollowed file limits c m h t k hand held e acts
    followed_made = record {
      world = all.world;
      stands = subst (λ (zs : List Moment). Standing file limits (left_with c t k hand held) (next (many turn) m (single t k acts)) all.world zs)
          (append_assoc h (beginning e ∷ []) rest)
          (subst (λ (z : State Local Value). Standing file limits (left_with c t k hand held) z all.world ((h ++ beginning e ∷ []) ++ rest))
          (sym (many_next turn m t k acts)) all.stands);
      makes = subst (λ (n : ℕ). MakesEntry file limits.harts limits.epochs (m.local t) (m.value k) t k acts e.note n) (sym tm.steps)
          (subst (λ (n : DeskNote). MakesEntry file limits.harts limits.epochs (m.local t) (m.value k) t k acts n (length xs)) (sym tm.note) makes_entry);
      placed = were_placed;
      told = subst (λ (xss : List (List Told)). AllZip IsTold (entry_moments 0 e) (all_of xss)) (sym told_once) told_all;
      grouped = entry_grouped e t tm.thread (all_checks xs) (ap (λ (es : List Event). length es) tm.events ∙ as_many) tm.checks tm.numbered;
    }

  pub followed : (k : ℕ) (acts : List Act) → IsDeed file limits (era_now limits.epochs h) t k (c.local t) hand (c.value k) held e acts →
      IsFollowed file limits c m h t k hand held e acts
  followed k _ (Takes label at tk tn) =
      subst (λ (j : ℕ). IsFollowed file limits c m h t j hand held e (attaches ∷ [])) (sym at)
      (followed_take label (subst (λ (j : ℕ). TakesSlot limits (era_now limits.epochs h) t label (c.local t) hand (c.value j) held) at tk) tn)
  followed k _ (Leaves label at lv same tn) =
      subst (λ (j : ℕ). IsFollowed file limits c m h t j hand held e (leaves label ∷ [])) (sym at)
      (followed_leave label (subst (λ (j : ℕ). LeavesSlot (era_now limits.epochs h) t label (c.local t) (c.value j) held) at lv) same tn)
  followed k _ (Makes xs made tm) = followed_made k xs made tm
