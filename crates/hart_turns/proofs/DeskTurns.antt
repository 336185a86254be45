-- An instruction that is made at the desk.
use Rattle.std.specs.Global.{Box}
use Rattle.std.proofs.Common.{◌≡◌, ℕ, Bool, Option, Some, None, List, [], map, refl, ap, ap₂, sym, subst, ◌∙◌, arith}
use Rattle.run_record.specs.declared.entry.Check.{Check}
use Rattle.run_record.specs.declared.entry.Label.{Label}
use Rattle.run_record.specs.declared.event.Event.{Event}
use Rattle.run_record.specs.declared.limits.Limits.{Limits}
use Rattle.rv_exec.specs.Registers.{Registers}
use Rattle.machine_desk.specs.declared.MachineDesk.{MachineDesk}
use Rattle.bare_machine.specs.declared.request.Request.{Request}
use Rattle.bare_machine.specs.declared.request.Request.TheVariants as kinds
use Rattle.bare_machine.specs.Asked.{asked}
use Rattle.bare_machine.specs.Requests.{object_of, request}
use Rattle.bare_machine.specs.Step.{desk}
use Rattle.place_turns.specs.Places.{IsAt}
use Rattle.place_turns.specs.Turns.{served}
use Rattle.slot_desk.specs.Desks.{DeskContents, lives_of}
use Rattle.sync_slab.specs.Objects.{SyncObjects}
use Rattle.race_core.specs.Watched.{Watched}
use Rattle.race_core.specs.declared.watcher.Candidate.{Candidate}
use Rattle.detector.specs.Stands.{awaited}
use Rattle.part_races.specs.Awaits.{AwaitsEvents, AwaitsInstruction}
use Rattle.shared_table.specs.declared.object.Object.{Object}
use Rattle.shared_table.specs.declared.object.Object.TheVariants.{Stripe, Desk}
use Rattle.shared_table.specs.declared.object.DeskState.{DeskState}
use Rattle.shared_table.specs.declared.view.Layout.{Layout}
use Rattle.shared_table.specs.Past.{IsDeskOf, HasThreads, IsSoundSlot}
use Rattle.shared_table.specs.Steps.{Mine}
use Rattle.table_deeds.specs.Objects.{held_in, last_in}
use Rattle.hart_steps.specs.declared.hart.Hart.{Hart}
use Rattle.hart_steps.specs.Asked.{Asks, UsesDesk}
use Rattle.hart_steps.specs.Harts.{turn, leaves, local_of}
use Rattle.hart_steps.specs.Desks.{desk_with, desk_value, lives_after}
use Rattle.machine_desk.specs.Desks.{is_full}
use Rattle.slot_desk.specs.Desks.{live_of}
use Rattle.placed_detector.specs.Instructions.{HearsEvents}
use Rattle.hart_turns.specs.Hearing.{at_rest}
use Rattle.hart_turns.specs.Places.{IsPlace, SameBare}
use Rattle.hart_turns.specs.Instructions.{loads_of, given_after_all, AreGivenAs, HearsAll}
use Rattle.hart_turns.specs.Serves.{ServedAtDesk}
use Rattle.hart_turns.specs.Makes.{hand_at, made_of}
use Rattle.hart_turns.specs.AtDesk.{MayUse, IsLoose, IsWhole, ServedInDesk, HeardAtDesk, MakesAtDesk}
use Rattle.hart_turns.proofs.DeskThreads.{Follows, desk_follows}

-- ---- the desk as a place

-- the desk of a table is one for the limits, and a sound one can be given back
pub whole_of : (lay : Layout) (limits : Limits) (place : Option Object) → lay.limits ≡ limits → IsSoundSlot lay 64 place → IsWhole limits place
whole_of lay limits None same s = absurd s
whole_of lay limits (Some (Stripe x)) same s = absurd (let z = s.0 in omega arith)
whole_of lay limits (Some (Desk d)) same s = (subst (λ (l : Limits). IsDeskOf l d.value.desk) same s.1, s.2)

pub sound_of : (lay : Layout) (limits : Limits) (place : Option Object) → lay.limits ≡ limits → IsWhole limits place → IsSoundSlot lay 64 place
sound_of lay limits None same w = absurd w
sound_of lay limits (Some (Stripe x)) same w = absurd w
sound_of lay limits (Some (Desk d)) same w = (refl, subst (λ (l : Limits). IsDeskOf l d.value.desk) (sym same) w.0, w.1)

pub loose_whole : (limits : Limits) (place : Option Object) → IsWhole limits place → IsLoose limits place
loose_whole limits None w = absurd w
loose_whole limits (Some (Stripe x)) w = absurd w
loose_whole limits (Some (Desk d)) w = (w.0, let a = w.1.0 in let b = w.1.1 in (omega arith, omega arith))

pub place_loose : (limits : Limits) (place : Option Object) → IsLoose limits place → IsPlace limits 64 place
place_loose limits None l = absurd l
place_loose limits (Some (Stripe x)) l = absurd l
place_loose limits (Some (Desk d)) l = (refl, l.0, l.1)

-- a loose desk that kept its part of the bare machine while events were heard is one still
pub loose_kept : (limits : Limits) (place place' : Option Object) → IsLoose limits place → SameBare place place' → IsPlace limits 64 place' → IsLoose limits place'
loose_kept limits None place' l b p = absurd l
loose_kept limits (Some (Stripe x)) place' l b p = absurd l
loose_kept limits (Some (Desk d)) None l b p = absurd b
loose_kept limits (Some (Desk d)) (Some (Stripe x)) l b p = absurd b
loose_kept limits (Some (Desk d)) (Some (Desk e)) l b p = (p.1, p.2)

-- ---- the instruction

asks_desk : (regs : Registers) (r : Request) → UsesDesk r → object_of (asked regs r) ≡ Some desk
asks_desk regs (kinds.Put word count) u = refl
asks_desk regs (kinds.Create pc argument stack) u = refl
asks_desk regs (kinds.Join of) u = refl
asks_desk regs (kinds.Stop end) u = refl
asks_desk regs _ u = absurd u

module _ (file : List ℕ) (limits : Limits) (lay : Layout) (t : ℕ) (clock : List ℕ) (base : ℕ) (r : Request) (h left : Hart) (w w' : Watched) (es : List Event)
    (before after : List Check) (waited waiting : List Candidate) (old new : Mine) (spent : Option Label) (uses : UsesDesk r) (same : lay.limits ≡ limits) where
  object_is : (found : Hart) → Asks file t found h r → object_of (request file t found.thread) ≡ Some desk
  object_is found asks = ap object_of (sym asks.value) ∙ asks_desk h.thread.regs r uses

  -- where the desk is d before it is served, then, and at last
  module _ (d d1 d2 : Box DeskState) (threads : HasThreads d.value) (may : MayUse d.value.desk t r)
      (is : ServedAtDesk limits.harts t r h left d.value d1.value es)
      (hears : HearsAll file limits desk t clock es base w w' (Some (Desk d1)) (Some (Desk d2)) before after waited waiting old new spent) where
    abbrev no_objects : SyncObjects
    no_objects = record { slots = limits.slots; objects = []; spare = 0 }

    -- which threads live after the machine's turn
    abbrev lives_left : List Bool
    lives_left = lives_after t (is_full limits.harts (live_of d.value.desk) d.value.machine.made) r (lives_of d.value.desk)

    heard : (given : Option (Option (List ℕ))) → AreGivenAs limits.slots given clock es →
        HearsEvents file desk t (loads_of hears.added) 0 es hears.added (record { watched = at_rest w; given = given; sync = no_objects; desk = d.value.desk })
        (record { watched = at_rest w'; given = given_after_all given es; sync = no_objects; desk = d2.value.desk })
    heard given g = subst (λ (x : DeskContents). HearsEvents file desk t (loads_of hears.added) 0 es hears.added
        (record { watched = at_rest w; given = given; sync = no_objects; desk = x })
        (record { watched = at_rest w'; given = given_after_all given es; sync = no_objects; desk = d2.value.desk }))
        is.desk_is (hears.heard no_objects d.value.desk given g)

    follows : (found : Hart) → Asks file t found h r → (given : Option (Option (List ℕ))) → AreGivenAs limits.slots given clock es →
        Follows d2.value.desk (desk_with d1.value.machine lives_left)
    follows found asks given g = desk_follows file desk t (loads_of hears.added) hears.added d.value.desk (desk_with d.value.machine (lives_of d.value.desk))
        (desk_with d1.value.machine lives_left) (local_of found) (local_of left) found.thread es
        (record { watched = at_rest w; given = given; sync = no_objects; desk = d.value.desk })
        (record { watched = at_rest w'; given = given_after_all given es; sync = no_objects; desk = d2.value.desk })
        refl threads.1 is.room (record { lives_are = refl; made_is = sym threads.0 }) (heard given g) limits.harts h.thread.regs r uses may
        (ap (served limits.harts t (local_of found) (desk_value d.value.machine (lives_of d.value.desk)) found.thread) asks.value ∙ is.turned file found asks)

    turned : (found : Hart) → Asks file t found h r → (given : Option (Option (List ℕ))) → AreGivenAs limits.slots given clock es →
        turn file limits.harts t found (desk_value d.value.machine (lives_of d.value.desk)) ≡ leaves left (desk_value d2.value.machine (lives_of d2.value.desk)) es
    turned found asks given g =
        is.turned file found asks
        ∙ ap₂ (λ (m : MachineDesk) (ls : List Bool). leaves left (desk_value m ls) es) (sym hears.bare.0) (sym (follows found asks given g).lives_are)

    made_here : (found : Hart) → Asks file t found h r → (given : Option (Option (List ℕ))) → AreGivenAs limits.slots given clock es →
        AwaitsInstruction file limits.harts w.era t desk (made_of es hears.added) (hand_at found w given) (hand_at left w' (given_after_all given es))
        (held_in file limits desk (Desk d)).state (held_in file limits desk (Desk d2)).state (map awaited hears.found)
    made_here found asks given g = record {
      makes = record {
        present = refl;
        at = record { thread = found.thread; arrived = refl; place = subst (IsAt desk) (sym (object_is found asks)) refl };
        stepped = turned found asks given g;
        heard = heard given g;
      };
      awaits = subst (λ (x : DeskContents). AwaitsEvents desk t es hears.added (record { watched = at_rest w; given = given; sync = no_objects; desk = x })
          (record { watched = at_rest w'; given = given_after_all given es; sync = no_objects; desk = d2.value.desk }) (map awaited hears.found))
          is.desk_is (hears.awaits no_objects d.value.desk given g);
    }

    made_whole : IsWhole limits (Some (Desk d2)) →
        MakesAtDesk file limits lay t clock base r h left w w' (Some (Desk d)) (Some (Desk d2)) es before after waited waiting old new spent
    made_whole whole = record {
      served = Some (Desk d1);
      hears = hears;
      makes = λ x y p q found asks given g.
          subst (λ (z : Object). AwaitsInstruction file limits.harts w.era t desk (made_of es hears.added) (hand_at found w given)
          (hand_at left w' (given_after_all given es)) (held_in file limits desk x).state (held_in file limits desk z).state (map awaited hears.found)) (let e : Desk d2 ≡ y = cc in e)
          (subst (λ (z : Object). AwaitsInstruction file limits.harts w.era t desk (made_of es hears.added) (hand_at found w given)
          (hand_at left w' (given_after_all given es)) (held_in file limits desk z).state (held_in file limits desk (Desk d2)).state (map awaited hears.found))
          (let e : Desk d ≡ x = cc in e) (made_here found asks given g));
      object = object_is;
      last_is = λ x y p q.
          let e : Desk d ≡ x = cc in
          let f : Desk d2 ≡ y = cc in
          ap last_in (sym f) ∙ ((hears.bare.1 ∙ is.last_is) ∙ ap last_in e);
      sound = sound_of lay limits (Some (Desk d2)) same whole;
    }

  made_from : (place served place' : Option Object) → IsWhole limits place → ServedInDesk limits.harts t r h left place served es → IsWhole limits place' →
      HearsAll file limits desk t clock es base w w' served place' before after waited waiting old new spent →
      MakesAtDesk file limits lay t clock base r h left w w' place place' es before after waited waiting old new spent
  made_from (Some (Desk d)) (Some (Desk d1)) (Some (Desk d2)) found is whole hears = made_whole d d1 d2 found.1 is.0 is.1 hears whole
  made_from (Some (Desk d)) (Some (Desk d1)) (Some (Stripe s)) found is whole hears = absurd hears.bare
  made_from (Some (Desk d)) (Some (Desk d1)) None found is whole hears = absurd hears.bare
  made_from (Some (Desk d)) (Some (Stripe s)) place' found is whole hears = absurd is
  made_from (Some (Desk d)) None place' found is whole hears = absurd is
  made_from (Some (Stripe s)) served place' found is whole hears = absurd found
  made_from None served place' found is whole hears = absurd found

  -- where nothing had to be settled then
  pub made_at_desk : (place place' settled : Option Object) → settled ≡ place' → IsWhole limits place → IsWhole limits settled →
      HeardAtDesk file limits t clock base r h left w w' place place' es before after waited waiting old new spent →
      MakesAtDesk file limits lay t clock base r h left w w' place settled es before after waited waiting old new spent
  made_at_desk place place' settled kept found whole heard = made_from place heard.served settled found heard.serves whole
      (subst (λ (o : Option Object). HearsAll file limits desk t clock es base w w' heard.served o before after waited waiting old new spent) (sym kept) heard.hears)
