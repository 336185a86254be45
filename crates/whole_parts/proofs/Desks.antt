-- What the desk says of threads, output and end is what the bare machine's world has.
use Rattle.std.proofs.Common.{◌≡◌, ◌≤◌, ℕ, zero, suc, ◌+◌, Bool, false, cond, List, [], ◌∷◌, length, take, map, get_or, refl, sym, ap, subst, ◌∙◌, arith}
use Rattle.std.specs.Prelude.{count_by, slice_get}
use Rattle.std.specs.Option.{option_map_or}
use Rattle.std.proofs.lemmas.List.Sums.{length-filter, sum_by-cons}
use Rattle.run_record.specs.declared.entry.Entry.{Entry}
use Rattle.run_record.specs.declared.limits.Limits.{Limits}
use Rattle.run_laws.specs.Numbers.{up_from}
use Rattle.run_laws.specs.Faithful.{state_after}
use Rattle.run_laws.specs.Rounds.{live_in}
use Rattle.bare_machine.specs.declared.thread.Thread.{Thread}
use Rattle.bare_machine.specs.World.{World, lives}
use Rattle.bare_machine.specs.Step.{desk}
use Rattle.machine_laws.proofs.Lists.{living_is}
use Rattle.turn_orders.specs.LineUp.{plain}
use Rattle.place_turns.specs.Places.{Value, desk_in}
use Rattle.place_turns.specs.Wholes.{IsStateOf}
use Rattle.joint_turns.specs.Along.{whole_of}
use Rattle.joint_turns.specs.Joint.{bare_of}
use Rattle.watched_turns.specs.Turns.{joint_of}
use Rattle.slot_desk.specs.Desks.{ThreadContents, DeskContents, no_thread, thread_of, live_of, lives_of}
use Rattle.slot_desk.proofs.LivesLaws.{living_counted}
use Rattle.shared_table.specs.declared.object.DeskState.{DeskState}
use Rattle.shared_table.specs.declared.object.Object.{Object}
use Rattle.shared_table.specs.declared.object.Object.TheVariants.{Stripe, Desk}
use Rattle.hart_steps.specs.Desks.{desk_value}
use Rattle.table_deeds.specs.Objects.{held_in, slots_in, held_at}
use Rattle.whole_parts.specs.Dues.{HasDesk}
use Rattle.whole_parts.proofs.Standing.{bare, Stood}
use Rattle.whole_parts.proofs.Listed.{Objects}

-- ---- lists

life_at : (ts : List Thread) (t : ℕ) → option_map_or (λ (x : Thread). x.lives) (slice_get ts t) false ≡ get_or (map (λ (x : Thread). x.lives) ts) t false
life_at [] t = refl
life_at (x ∷ ts) zero = refl
life_at (x ∷ ts) (suc t) = life_at ts t

life_told : (ts : List ThreadContents) (made t : ℕ) → ((u : ℕ) → made ≤ u → (get_or ts u no_thread).lives ≡ false) →
    get_or (take made (map (λ (x : ThreadContents). x.lives) ts)) t false ≡ (get_or ts t no_thread).lives
life_told [] zero t h = refl
life_told [] (suc made) t h = refl
life_told (x ∷ ts) zero t h = sym (h t (omega arith))
life_told (x ∷ ts) (suc made) zero h = refl
life_told (x ∷ ts) (suc made) (suc t) h = life_told ts made t (λ u l. h (suc u) (omega (arith, l)))

count_lives : (ts : List Thread) → count_by (λ (x : Thread). x.lives) ts ≡ count_by (λ (b : Bool). b) (map (λ (x : Thread). x.lives) ts)
count_lives [] = refl
count_lives (x ∷ ts) =
    sum_by-cons (λ (y : Thread). cond y.lives 1 0) x ts
    ∙ (ap (λ (n : ℕ). cond {A = ℕ} x.lives 1 0 + n) (count_lives ts)
    ∙ sym (sum_by-cons (λ (b : Bool). cond b 1 0) x.lives (map (λ (y : Thread). y.lives) ts)))

-- ---- the desk of a state

module _ (file : List ℕ) (limits : Limits) where
  bare_there : (x : Object) (d : DeskState) → HasDesk x d → (held_in file limits desk x).state.bare ≡ desk_value d.machine (lives_of d.desk)
  bare_there (Desk o) d q = ap (λ (e : DeskState). desk_value e.machine (lives_of e.desk)) q
  bare_there (Stripe s) d q = absurd q

  pub slots_there : (x : Object) (d : DeskState) → HasDesk x d → slots_in limits x ≡ d.desk
  slots_there (Desk o) d q = ap (λ (e : DeskState). e.desk) q
  slots_there (Stripe s) d q = absurd q

  -- The desk says of each thread whether it lives in the world, and of how many; how many were made, what was put, and the end.
  pub record TellsOf (d : DeskState) (w : World) : Type 0 where
    pub lives_are : (t : ℕ) → lives w t ≡ (thread_of d.desk t).lives
    pub live_are : length (live_in (bare file limits) w) ≡ live_of d.desk
    pub made_are : length d.machine.made ≡ length w.threads
    pub output_is : d.machine.output ≡ w.output
    pub ended_is : d.machine.ended ≡ w.ended

  module _ (m : Objects file limits) (round era : ℕ) (done : List Entry) (s : Stood file limits (held_at file limits m) round era done) (d : DeskState)
      (at : HasDesk (m.value desk) d) where
    abbrev w : World
    w = state_after (bare file limits) done

    state : IsStateOf file limits.harts (whole_of w (joint_of (plain s.watched))) (bare_of (joint_of (plain s.watched)))
    state = s.stands.standing.watched.joint.bare

    value : ((plain s.watched).value desk).bare ≡ desk_value d.machine (lives_of d.desk)
    value = s.stands.standing.values desk ∙ bare_there (m.value desk) d at

    -- which threads live, by number
    lives_list : lives_of d.desk ≡ map (λ (x : Thread). x.lives) w.threads
    lives_list = ap (λ (v : Value). (desk_in v).lives) (sym value) ∙ state.threads.living

    unmade : (t : ℕ) → d.desk.made ≤ t → (thread_of d.desk t).lives ≡ false
    unmade = subst (λ (c : DeskContents). (t : ℕ) → c.made ≤ t → (thread_of c t).lives ≡ false) (slots_there (m.value desk) d at)
        s.stands.standing.kept.desk.desk.told.unmade

    pub tells_of : TellsOf d w
    tells_of = record {
      lives_are = λ t. life_at w.threads t ∙ (ap (λ (bs : List Bool). get_or bs t false) (sym lives_list) ∙ life_told d.desk.threads d.desk.made t unmade);
      live_are = length-filter (lives w) (up_from 0 (length w.threads))
          ∙ (living_is w.threads
          ∙ (count_lives w.threads
          ∙ (ap (count_by (λ (b : Bool). b)) (sym lives_list) ∙ sym (living_counted d.desk unmade))));
      made_are = ap (λ (v : Value). length (desk_in v).made) (sym value) ∙ state.threads.count;
      output_is = ap (λ (v : Value). (desk_in v).output) (sym value) ∙ state.output;
      ended_is = ap (λ (v : Value). (desk_in v).ended) (sym value) ∙ state.ended;
    }
