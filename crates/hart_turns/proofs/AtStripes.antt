-- An instruction that is made at a stripe.
use Rattle.std.specs.Global.{Box}
use Rattle.std.proofs.Common.{◌≡◌, ◌<◌, ℕ, Bool, Option, Some, None, List, length, map, cond, refl, ap, sym, subst, ◌∙◌}
use Rattle.std.proofs.lemmas.Bool.{lt-ltb}
use Rattle.run_record.specs.declared.entry.Check.{Check}
use Rattle.run_record.specs.declared.entry.Label.{Label}
use Rattle.run_record.specs.declared.event.Event.{Event}
use Rattle.run_record.specs.declared.limits.Limits.{Limits}
use Rattle.bare_machine.specs.declared.request.Request.{Request}
use Rattle.bare_machine.specs.Requests.{object_of, request}
use Rattle.place_turns.specs.Places.{Value, IsAt, of_nobody}
use Rattle.slot_desk.specs.Steps.{new_desk}
use Rattle.sync_slab.specs.Objects.{SyncObjects}
use Rattle.race_core.specs.Watched.{Watched}
use Rattle.race_core.specs.declared.watcher.Candidate.{Candidate}
use Rattle.detector.specs.Stands.{awaited}
use Rattle.shared_table.specs.declared.object.Object.{Object}
use Rattle.shared_table.specs.declared.object.Object.TheVariants.{Stripe, Desk}
use Rattle.shared_table.specs.declared.object.Stripe.{Stripe as Stripes}
use Rattle.shared_table.specs.declared.view.Layout.{Layout}
use Rattle.shared_table.specs.Past.{IsSoundSlot}
use Rattle.shared_table.specs.Steps.{Mine}
use Rattle.table_deeds.specs.Objects.{part_in, held_in, last_in}
use Rattle.hart_steps.specs.declared.hart.Hart.{Hart}
use Rattle.hart_steps.specs.Asked.{Asks}
use Rattle.hart_steps.specs.Harts.{turn, leaves}
use Rattle.hart_steps.specs.Stripes.{stripe_value}
use Rattle.placed_detector.specs.Instructions.{HearsEvents}
use Rattle.part_races.specs.Awaits.{AwaitsEvents, AwaitsInstruction}
use Rattle.hart_turns.specs.Hearing.{at_rest}
use Rattle.hart_turns.specs.Places.{IsPlace}
use Rattle.hart_turns.specs.Instructions.{loads_of, given_after_all, AreGivenAs, HearsAll}
use Rattle.hart_turns.specs.Serves.{UsesStripe, ServedAt, ServedIn}
use Rattle.hart_turns.specs.Makes.{hand_at, made_of, MakesAtStripe}
use Rattle.hart_turns.proofs.Serving.{asks_stripe}

-- the part of the bare machine that a stripe has
part_is : (file : List ℕ) (k : ℕ) (s : Box Stripes) → k < 64 → part_in file k (Stripe s) ≡ stripe_value file k s.value.words s.value.reserved
part_is file k s below = ap (λ (b : Bool). cond b (stripe_value file k s.value.words s.value.reserved) of_nobody) (lt-ltb k 64 below)

module _ (file : List ℕ) (limits : Limits) (lay : Layout) (k t : ℕ) (clock : List ℕ) (base : ℕ) (r : Request) (h left : Hart) (w w' : Watched) (es : List Event)
    (before after : List Check) (waited waiting : List Candidate) (old new : Mine) (spent : Option Label) (uses : UsesStripe k r) (same : lay.limits ≡ limits) where
  object_is : (found : Hart) → Asks file t found h r → object_of (request file t found.thread) ≡ Some k
  object_is found asks = ap object_of (sym asks.value) ∙ asks_stripe k h.thread.regs r uses

  -- where the object is a stripe before it is served, then, and at last
  module _ (s s1 s2 : Box Stripes) (below : k < 64) (served : ServedAt file k t r h left s.value s1.value es)
      (hears : HearsAll file limits k t clock es base w w' (Some (Stripe s1)) (Some (Stripe s2)) before after waited waiting old new spent) where
    turned : (found : Hart) → Asks file t found h r → (harts : ℕ) → turn file harts t found (part_in file k (Stripe s)) ≡ leaves left (part_in file k (Stripe s2)) es
    turned found asks harts =
        ap (turn file harts t found) (part_is file k s below)
        ∙ (served.turned found asks harts
        ∙ ap (λ (v : Value). leaves left v es) (ap (λ (ws : List ℕ). stripe_value file k ws s1.value.reserved) (sym hears.bare.0)
        ∙ (ap (λ (rs : _). stripe_value file k s2.value.words rs) (sym hears.bare.1) ∙ sym (part_is file k s2 below))))

    made_here : (found : Hart) → Asks file t found h r → (harts : ℕ) (given : Option (Option (List ℕ))) → AreGivenAs limits.slots given clock es →
        AwaitsInstruction file harts w.era t k (made_of es hears.added) (hand_at found w given) (hand_at left w' (given_after_all given es))
        (held_in file limits k (Stripe s)).state (held_in file limits k (Stripe s2)).state (map awaited hears.found)
    made_here found asks harts given g = record {
      makes = record {
        present = refl;
        at = record { thread = found.thread; arrived = refl; place = subst (IsAt k) (sym (object_is found asks)) refl };
        stepped = turned found asks harts;
        heard = subst (λ (x : SyncObjects). HearsEvents file k t (loads_of hears.added) 0 es hears.added
            (record { watched = at_rest w; given = given; sync = record x { spare = 0 }; desk = new_desk limits })
            (record { watched = at_rest w'; given = given_after_all given es; sync = record s2.value.sync { spare = 0 }; desk = new_desk limits }))
            served.sync_is (hears.heard s.value.sync (new_desk limits) given g);
      };
      awaits = subst (λ (x : SyncObjects). AwaitsEvents k t es hears.added
          (record { watched = at_rest w; given = given; sync = record x { spare = 0 }; desk = new_desk limits })
          (record { watched = at_rest w'; given = given_after_all given es; sync = record s2.value.sync { spare = 0 }; desk = new_desk limits })
          (map awaited hears.found))
          served.sync_is (hears.awaits s.value.sync (new_desk limits) given g);
    }

    whole : length s.value.words ≡ Rattle.std.specs.Prelude.slice_index lay.sizes k → IsPlace limits k (Some (Stripe s2)) →
        MakesAtStripe file limits lay k t clock base r h left w w' (Some (Stripe s)) (Some (Stripe s2)) es before after waited waiting old new spent
    whole long kept = record {
      served = Some (Stripe s1);
      hears = hears;
      makes = λ x y p q found asks harts given g.
          subst (λ (z : Object). AwaitsInstruction file harts w.era t k (made_of es hears.added) (hand_at found w given) (hand_at left w' (given_after_all given es))
          (held_in file limits k x).state (held_in file limits k z).state (map awaited hears.found)) (let e : Stripe s2 ≡ y = cc in e)
          (subst (λ (z : Object). AwaitsInstruction file harts w.era t k (made_of es hears.added) (hand_at found w given) (hand_at left w' (given_after_all given es))
          (held_in file limits k z).state (held_in file limits k (Stripe s2)).state (map awaited hears.found)) (let e : Stripe s ≡ x = cc in e) (made_here found asks harts given g));
      object = object_is;
      last_is = λ x y p q.
          let e : Stripe s ≡ x = cc in
          let f : Stripe s2 ≡ y = cc in
          ap last_in (sym f) ∙ ((hears.bare.2 ∙ served.last_is) ∙ ap last_in e);
      sound = (below, ap length hears.bare.0 ∙ (served.size ∙ long), kept ∙ ap (λ (l : Limits). l.slots) (sym same));
    }

  pub made_at_stripe : (place served place' : Option Object) → IsSoundSlot lay k place → ServedIn file k t r h left place served es → IsPlace limits k place' →
      HearsAll file limits k t clock es base w w' served place' before after waited waiting old new spent →
      MakesAtStripe file limits lay k t clock base r h left w w' place place' es before after waited waiting old new spent
  made_at_stripe (Some (Stripe s)) (Some (Stripe s1)) (Some (Stripe s2)) sound is kept hears = whole s s1 s2 sound.0 is hears sound.1 kept
  made_at_stripe (Some (Stripe s)) (Some (Stripe s1)) (Some (Desk d)) sound is kept hears = absurd hears.bare
  made_at_stripe (Some (Stripe s)) (Some (Stripe s1)) None sound is kept hears = absurd hears.bare
  made_at_stripe (Some (Stripe s)) (Some (Desk d)) place' sound is kept hears = absurd is
  made_at_stripe (Some (Stripe s)) None place' sound is kept hears = absurd is
  made_at_stripe (Some (Desk d)) served place' sound is kept hears = absurd is
  made_at_stripe None served place' sound is kept hears = absurd is
