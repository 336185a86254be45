-- What a thread keeps says whether it lives in the world, what its next instruction needs, and whether it has a label.
use Rattle.std.proofs.Common.{◌≡◌, ◌<◌, ℕ, zero, suc, Bool, true, false, List, [], ◌∷◌, length, Option, Some, None, inl, inr, refl, sym, ap, subst, ◌∙◌, arith}
use Rattle.std.specs.Prelude.{◌||◌, slice_get, not, option_map}
use Rattle.std.specs.Option.{option_map_or}
use Rattle.std.proofs.lemmas.Bool.{cases_Bool, cases_lt}
use Rattle.run_record.specs.declared.entry.Entry.{Entry}
use Rattle.run_record.specs.declared.limits.Limits.{Limits}
use Rattle.run_laws.specs.Moments.{moments_in}
use Rattle.run_laws.specs.Labels.{Labels}
use Rattle.run_laws.specs.Present.{label_now}
use Rattle.run_laws.specs.Faithful.{state_after}
use Rattle.bare_machine.specs.declared.thread.Thread.{Thread}
use Rattle.bare_machine.specs.World.{World, lives}
use Rattle.bare_machine.specs.Preview.{thread_needs, needs_slot}
use Rattle.bare_machine.specs.Step.{desk}
use Rattle.bare_machine.specs.Requests.{needs, request}
use Rattle.turn_orders.specs.Lists.{Each}
use Rattle.turn_orders.specs.LineUp.{plain}
use Rattle.turn_orders.proofs.Members.{at_member}
use Rattle.turn_laws.proofs.AlikeLaw.{labels-alike}
use Rattle.place_turns.specs.Places.{Local, desk_in}
use Rattle.place_turns.specs.Wholes.{IsStateOf}
use Rattle.joint_turns.specs.Along.{whole_of}
use Rattle.joint_turns.specs.Joint.{bare_of}
use Rattle.watched_turns.specs.Turns.{joint_of}
use Rattle.race_core.specs.History.{IsWatcherAt, era_now}
use Rattle.table_deeds.specs.Objects.{part_in, held_at}
use Rattle.hart_parts.specs.Parts.{HasEnded, WantsSlot}
use Rattle.whole_parts.proofs.Standing.{bare, Stood}
use Rattle.whole_parts.proofs.Listed.{Objects}
use Rattle.whole_parts.proofs.New.{IsNew, AreNew}
use Rattle.whole_parts.proofs.Tries.{in_of_get}

inside_get : (ts : List Thread) (t : ℕ) → t < length ts → slice_get ts t ≡ None → ⊥
inside_get [] t l q = omega (arith, l)
inside_get (x ∷ ts) zero l q = cc
inside_get (x ∷ ts) (suc t) l q = inside_get ts t (omega (arith, l)) q

-- a thread that lives is in the list
record InList (ts : List Thread) (t : ℕ) : Type 0 where
  thread : Thread
  at : slice_get ts t ≡ Some thread

there_if : (ts : List Thread) (t : ℕ) → t < length ts → InList ts t
there_if [] t l = absurd (omega (arith, l))
there_if (x ∷ ts) zero l = record { thread = x; at = refl }
there_if (x ∷ ts) (suc t) l = (let i = there_if ts t (omega (arith, l)) in record { thread = i.thread; at = i.at })

pub lives_inside : (ts : List Thread) (t : ℕ) → option_map_or (λ (x : Thread). x.lives) (slice_get ts t) false ≡ true → t < length ts
lives_inside [] t q = absurd (cc)
lives_inside (x ∷ ts) zero q = omega arith
lives_inside (x ∷ ts) (suc t) q = (let l = lives_inside ts t q in omega (arith, l))

module _ (file : List ℕ) (limits : Limits) (m : Objects file limits) (round era : ℕ) (done : List Entry)
    (s : Stood file limits (held_at file limits m) round era done) (new : AreNew (part_in file desk (m.value desk))) where
  abbrev w : World
  w = state_after (bare file limits) done

  state : IsStateOf file limits.harts (whole_of w (joint_of (plain s.watched))) (bare_of (joint_of (plain s.watched)))
  state = s.stands.standing.watched.joint.bare

  abbrev arrived : ℕ → Bool
  arrived t = (whole_of w (joint_of (plain s.watched))).arrived t

  own : (t : ℕ) → ((bare_of (joint_of (plain s.watched))).local t).thread ≡ (m.local t).state.bare.thread
  own t = ap (λ (l : Local). l.thread) (s.stands.standing.locals t)

  -- a thread that has arrived is the world's
  here : (t : ℕ) (x : Thread) → (m.local t).state.bare.thread ≡ Some x → slice_get w.threads t ≡ Some x
  here t x q = elim (cases_Bool (arrived t)) [
    | inl holds ↦ sym (state.threads.here t holds) ∙ (own t ∙ q)
    | inr fails ↦ absurd (let a = state.threads.absent t fails in let b = own t in cc)
  ]

  made_new : Each IsNew (desk_in ((plain s.watched).value desk).bare).made
  made_new = subst AreNew (sym (s.stands.standing.values desk)) new

  -- another one is as it was made
  still_new : (t : ℕ) (x : Thread) → (m.local t).state.bare.thread ≡ None → slice_get w.threads t ≡ Some x → IsNew x
  still_new t x q at = elim (cases_Bool (arrived t)) [
    | inl holds ↦ absurd (let a = state.threads.here t holds in let b = own t in cc)
    | inr fails ↦
        let made = (desk_in ((plain s.watched).value desk).bare).made in
        at_member IsNew x made made_new (in_of_get made t x (state.threads.waiting t fails ∙ at))
  ]

  life_is : (t : ℕ) (x : Thread) → slice_get w.threads t ≡ Some x → lives w t ≡ x.lives
  life_is t x q = ap (λ (o : Option Thread). option_map_or (λ (y : Thread). y.lives) o false) q

  need_is : (t : ℕ) (x : Thread) → slice_get w.threads t ≡ Some x → needs_slot file w t ≡ thread_needs file t (Some x)
  need_is t x q = ap (thread_needs file t) q

  -- who has ended doesn't live
  pub ended_dead : (t : ℕ) (o : Option Thread) → (m.local t).state.bare.thread ≡ o → HasEnded o → lives w t ≡ false
  ended_dead t None q h = absurd h
  ended_dead t (Some x) q h = life_is t x (here t x q) ∙ h

  -- who wants a slot needs one, if it lives
  pub wants_needs : (t : ℕ) (o : Option Thread) → (m.local t).state.bare.thread ≡ o → WantsSlot file t o → t < length w.threads →
      (lives w t ≡ true) × (needs_slot file w t ≡ true)
  wants_needs t (Some x) q h l = (life_is t x (here t x q) ∙ h.0, need_is t x (here t x q) ∙ h.1)
  wants_needs t None q h l =
      let i = there_if w.threads t l in
      let n = still_new t i.thread q i.at in (
        life_is t i.thread i.at ∙ n.1,
        need_is t i.thread i.at ∙ ap (λ (b : Bool). not b || needs (request file t i.thread)) n.0,
      )

  watcher : (t : ℕ) → IsWatcherAt limits s.history t (m.local t).state.watched
  watcher t = s.stands.standing.kept.watchers t

  -- who has no label has none in the history
  pub no_label : (t : ℕ) → (m.local t).state.watched.label ≡ None → label_now limits.epochs (moments_in round era done) t ≡ None
  no_label t q =
      let e = (watcher t).era in
      let same = labels-alike limits.epochs s.history (moments_in round era done) s.alike in
      let here : label_now limits.epochs s.history t ≡ None = elim (cases_lt (m.local t).state.watched.era (era_now limits.epochs s.history)) [
        | inl l ↦ (watcher t).no_label l
        | inr le ↦ (let is : (m.local t).state.watched.era ≡ era_now limits.epochs s.history = omega (arith, e, le) in sym ((watcher t).label is) ∙ q)
      ] in
      ap (λ (x : Labels). option_map (λ (sid : ℕ). record { sid = sid; epoch = x.epoch sid; era = x.era }) (x.slot_of t)) (sym same) ∙ here
