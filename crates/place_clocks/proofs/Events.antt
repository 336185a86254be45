-- Each act of a thread keeps the agreement.
use Rattle.std.proofs.Common.{◌≡◌, ◌≢◌, ◌+◌, ℕ, cond, List, [], ◌∷◌, Option, Some, None, refl, sym, ap, subst, ◌∙◌, ne_eqb, arith}
use Rattle.std.specs.Prelude.{max, fold}
use mathlib.Core.Logic.{dite}
use native.Mathlib.Decide.{ℕ_discrete}
use Rattle.run_record.specs.declared.event.Event.{Event}
use Rattle.run_record.specs.declared.event.Event.TheVariants as events
use Rattle.run_record.specs.declared.event.Part.{Part}
use Rattle.run_record.specs.declared.entry.Label.{Label}
use Rattle.run_laws.specs.Moments.{Item, Does}
use Rattle.run_laws.specs.HappensBefore.{ends_channel}
use Rattle.run_laws.specs.Labels.{attach_labels}
use Rattle.run_laws.specs.Clocks.{Of, Channel, Given, taken_from, left_at, is_place, clock_at, event_clocks, attach_clocks}
use Rattle.bare_machine.specs.Memory.{stripe}
use Rattle.bare_machine.specs.Step.{desk}
use Rattle.turn_orders.specs.Machine.{Outcome, State, but}
use Rattle.turn_orders.proofs.Functions.{but_here, but_else, but_each, but_map, but_same}
use Rattle.place_clocks.specs.Places.{Clock, Own, Stripe, Desk, Value, of_stripe, of_desk, stripe_in, desk_in, desk_of}
use Rattle.place_clocks.specs.Turns.{Act, does, attaches, begins, leaves, taken, own_after, value_after, stripe_after, joined, clock_or_none, slot_left, ended_after, attached, clock_turn}
use Rattle.place_clocks.specs.Holds.{Whole, IsSound, HasOwn, HasChannels, HasDesk, HasClocks, MayDo, MayAct, whole_next}
use Rattle.place_clocks.proofs.Choices.{if_yes}
use Rattle.place_clocks.proofs.Spots.{spot_stays, IsQuiet, SparesChannel, release_spares, destroy_spares, clear_spares}
use Rattle.place_clocks.proofs.Keeping.{KeepsGiven, own_kept, channels_kept, desk_kept, desk_quiet, given_kept, sound_kept}
use Rattle.place_clocks.proofs.Ending.{desk_ended, sound_ended}
use Rattle.place_clocks.proofs.Taking.{no_slot, next_is, own_taken, desk_taken, sound_taken}

abbrev stripes : State Own Value → ℕ → Stripe
stripes m = λ k. stripe_in (m.value k)

off_desk : (a : ℕ) → stripe a ≢ desk
off_desk a q = omega arith

-- ---- the state after a turn, by what its place is then

module _ (w : Whole) (m : State Own Value) (t : ℕ) (o : Own) where
  at_any : (k : ℕ) → HasOwn w (but m.local t o) → HasChannels w (stripes m) → HasDesk w (desk_of m) → IsSound w → HasClocks w (record { local = but m.local t o; value = but m.value k (m.value k) })
  at_any k own channels at_desk sound =
      subst (λ (v : ℕ → Value). HasClocks w (record { local = but m.local t o; value = v })) (sym (but_same m.value k)) (record { own = own; channels = channels; at_desk = at_desk; sound = sound })

  at_stripe : (a : ℕ) (s : Stripe) → HasOwn w (but m.local t o) → HasChannels w (but (stripes m) (stripe a) s) → HasDesk w (desk_of m) → IsSound w → HasClocks w (record { local = but m.local t o; value = but m.value (stripe a) (of_stripe s) })
  at_stripe a s own channels at_desk sound = record {
    own = own;
    channels = subst (HasChannels w) (sym (but_map stripe_in m.value (stripe a) (of_stripe s))) channels;
    at_desk = subst (HasDesk w) (sym (ap desk_in (but_else m.value (stripe a) desk (of_stripe s) (λ q. off_desk a (sym q))))) at_desk;
    sound = sound;
  }

  at_the_desk : (d : Desk) → HasOwn w (but m.local t o) → HasChannels w (stripes m) → HasDesk w d → IsSound w → HasClocks w (record { local = but m.local t o; value = but m.value desk (of_desk d) })
  at_the_desk d own channels at_desk sound = record {
    own = own;
    channels = λ a p s. ap (λ (v : Value). (stripe_in v).channel a p s) (but_else m.value desk (stripe a) (of_desk d) (off_desk a)) ∙ channels a p s;
    at_desk = at_desk;
    sound = sound;
  }

module _ (g slots : ℕ) (w : Whole) (m : State Own Value) (h : HasClocks w m) (t : ℕ) where
  -- the state after one event at a place
  abbrev Does_to : ℕ → Event → Type 0
  Does_to k e = HasClocks (whole_next g slots w (Does t e)) (record { local = but m.local t (own_after g e (m.local t) (m.value k)); value = but m.value k (value_after g t e (m.local t) (m.value k)) })

  abbrev Takes : ℕ → Event → Type 0
  Takes k e = (s : ℕ) → taken e (m.local t) (m.value k) s ≡ clock_at w.clocks (taken_from t e) s

  quiet_given : (e : Event) → IsQuiet t e → KeepsGiven g slots w t e m.local
  quiet_given e q u c is s = given_kept g slots w t e q.not_given u s

  -- an event that leaves its place as it is
  passes : (e : Event) (k : ℕ) → value_after g t e (m.local t) (m.value k) ≡ m.value k → IsQuiet t e → ((a : ℕ) (p : Part) → SparesChannel t e a p) → Takes k e → Does_to k e
  passes e k same q spares takes =
      subst (λ (v : Value). HasClocks (whole_next g slots w (Does t e)) (record { local = but m.local t (own_after g e (m.local t) (m.value k)); value = but m.value k v })) (sym same)
      (at_any (whole_next g slots w (Does t e)) m t (own_after g e (m.local t) (m.value k)) k (own_kept g slots w t e m.local h.own h.sound (m.value k) takes (quiet_given e q))
      (channels_kept g slots w t e (stripes m) h.channels spares) (desk_quiet g slots w t e (desk_of m) h.at_desk h.sound q) (sound_kept g slots w t e h.sound q.no_end))

  -- an event that changes the channels of an address
  channels_changed : (e : Event) (b : ℕ) → ((a : ℕ) (p : Part) → a ≢ b → SparesChannel t e a p) → HasChannels (whole_next g slots w (Does t e)) (but (stripes m) (stripe b) (stripe_after t e (m.local t).clock (stripes m (stripe b))))
  channels_changed e b spares a p s = dite (ℕ_discrete (stripe a) (stripe b))
      (λ q. ap (λ (x : Stripe). x.channel a p s) (but_here (stripes m) (stripe b) (stripe a) new q)
      ∙ (ap (λ (n : ℕ). max (cond (ends_channel a p e) 0 n) (cond (is_place (left_at t e) (Channel a p)) ((m.local t).clock s) 0)) (ap (λ (j : ℕ). (stripes m j).channel a p s) (sym q) ∙ h.channels a p s)
      ∙ ap (λ (n : ℕ). max (cond (ends_channel a p e) 0 (w.clocks.spot (Of (Channel a p)) s)) (cond (is_place (left_at t e) (Channel a p)) n 0)) (h.own.clock t s)))
      (λ ne. let spared = spares a p (λ z. ne (ap stripe z)) in
      ap (λ (x : Stripe). x.channel a p s) (but_else (stripes m) (stripe b) (stripe a) new ne) ∙ (h.channels a p s ∙ sym (spot_stays g w.labels w.clocks t e (Of (Channel a p)) s spared.kept spared.not_left)))
    where
      new : Stripe
      new = stripe_after t e (m.local t).clock (stripes m (stripe b))

  changes : (e : Event) (b : ℕ) → value_after g t e (m.local t) (m.value (stripe b)) ≡ of_stripe (stripe_after t e (m.local t).clock (stripes m (stripe b))) → IsQuiet t e → ((a : ℕ) (p : Part) → a ≢ b → SparesChannel t e a p)
      → Takes (stripe b) e → Does_to (stripe b) e
  changes e b made q spares takes =
      subst (λ (v : Value). HasClocks (whole_next g slots w (Does t e)) (record { local = but m.local t (own_after g e (m.local t) (m.value (stripe b))); value = but m.value (stripe b) v })) (sym made)
      (at_stripe (whole_next g slots w (Does t e)) m t (own_after g e (m.local t) (m.value (stripe b))) b (stripe_after t e (m.local t).clock (stripes m (stripe b)))
      (own_kept g slots w t e m.local h.own h.sound (m.value (stripe b)) takes (quiet_given e q)) (channels_changed e b spares) (desk_quiet g slots w t e (desk_of m) h.at_desk h.sound q) (sound_kept g slots w t e h.sound q.no_end))

  -- ---- creations and ends

  creates : (child : ℕ) → (m.local child).given ≡ None → Does_to desk (events.Create child)
  creates child absent =
      at_the_desk (whole_next g slots w (Does t (events.Create child))) m t (own_after g (events.Create child) (m.local t) (m.value desk)) (record (desk_of m) { given = but (desk_of m).given child (joined ((desk_of m).given child) (m.local t).clock) })
      (own_kept g slots w t (events.Create child) m.local h.own h.sound (m.value desk) (λ s. refl) stays)
      (channels_kept g slots w t (events.Create child) (stripes m) h.channels (λ a p. record { kept = refl; not_left = refl }))
      (desk_kept g slots w t (events.Create child) (desk_of m) h.at_desk h.sound refl (λ u. refl) (but (desk_of m).given child (joined ((desk_of m).given child) (m.local t).clock)) given_is)
      (sound_kept g slots w t (events.Create child) h.sound refl)
    where
      other : (u r : ℕ) → u ≢ child → (event_clocks g w.labels w.clocks t (events.Create child)).spot (Of (Given u)) r ≡ w.clocks.spot (Of (Given u)) r
      other u r ne = spot_stays g w.labels w.clocks t (events.Create child) (Of (Given u)) r refl (ne_eqb child u (λ q. ne (sym q)))

      stays : KeepsGiven g slots w t (events.Create child) m.local
      stays u c is s = other u s (λ q. let clash : Some c ≡ None = sym is ∙ (ap (λ (x : ℕ). (m.local x).given) q ∙ absent) in absurd (cc))

      given_is : (u r : ℕ) → but (desk_of m).given child (joined ((desk_of m).given child) (m.local t).clock) u r ≡ (event_clocks g w.labels w.clocks t (events.Create child)).spot (Of (Given u)) r
      given_is u r = but_each (λ v c. c r ≡ (event_clocks g w.labels w.clocks t (events.Create child)).spot (Of (Given v)) r) (desk_of m).given child (joined ((desk_of m).given child) (m.local t).clock)
          (ap (λ (n : ℕ). max n ((m.local t).clock r)) (h.at_desk.given child r)
          ∙ (ap (max (w.clocks.spot (Of (Given child)) r)) (h.own.clock t r) ∙ ap (max (w.clocks.spot (Of (Given child)) r)) (sym (if_yes child child (w.clocks.thread t r) 0 refl))))
          (λ v ne. h.at_desk.given v r ∙ sym (other v r ne)) u

  ends : Does_to desk events.End
  ends =
      at_the_desk (whole_next g slots w (Does t events.End)) m t (own_after g events.End (m.local t) (m.value desk)) (ended_after t (m.local t).clock (slot_left g (m.local t).label (m.local t).clock (desk_of m)))
      (own_kept g slots w t events.End m.local h.own h.sound (m.value desk) (λ s. refl) (λ u c is s. given_kept g slots w t events.End (λ v. refl) u s))
      (channels_kept g slots w t events.End (stripes m) h.channels (λ a p. record { kept = refl; not_left = refl }))
      (desk_ended g slots w t h.sound (desk_of m) h.at_desk (m.local t).clock (h.own.clock t) (m.local t).label (h.own.label t))
      (sound_ended g slots w t h.sound)

  -- ---- events

  does_is : (k : ℕ) (e : Event) → MayDo m t k e → Does_to k e
  does_is k events.Begin may = passes events.Begin k refl (record { no_end = refl; not_given = λ u. refl; not_ended = λ u. refl }) (λ a p. record { kept = refl; not_left = refl })
      (λ s. ap (λ (x : Option Clock). clock_or_none x s) may.is ∙ h.own.given t may.clock may.is s)
  does_is k (events.Create child) may = subst (λ (j : ℕ). Does_to j (events.Create child)) (sym may.0) (creates child may.1)
  does_is k events.End may = subst (λ (j : ℕ). Does_to j events.End) (sym may) ends
  does_is k (events.Join child) may = subst (λ (j : ℕ). Does_to j (events.Join child)) (sym may)
      (passes (events.Join child) desk refl (record { no_end = refl; not_given = λ u. refl; not_ended = λ u. refl }) (λ a p. record { kept = refl; not_left = refl }) (λ s. h.at_desk.ended child s))
  does_is k (events.Acquire addr part) may = subst (λ (j : ℕ). Does_to j (events.Acquire addr part)) (sym may)
      (passes (events.Acquire addr part) (stripe addr) refl (record { no_end = refl; not_given = λ u. refl; not_ended = λ u. refl }) (λ a p. record { kept = refl; not_left = refl }) (λ s. h.channels addr part s))
  does_is k (events.Release addr part replaces) may = subst (λ (j : ℕ). Does_to j (events.Release addr part replaces)) (sym may)
      (changes (events.Release addr part replaces) addr refl (record { no_end = refl; not_given = λ u. refl; not_ended = λ u. refl }) (λ a p ne. release_spares t addr part replaces a p ne) (λ s. refl))
  does_is k (events.Destroy addr) may = subst (λ (j : ℕ). Does_to j (events.Destroy addr)) (sym may)
      (changes (events.Destroy addr) addr refl (record { no_end = refl; not_given = λ u. refl; not_ended = λ u. refl }) (λ a p ne. destroy_spares t addr a p ne) (λ s. refl))
  does_is k (events.Clear addr) may = subst (λ (j : ℕ). Does_to j (events.Clear addr)) (sym may)
      (changes (events.Clear addr) addr refl (record { no_end = refl; not_given = λ u. refl; not_ended = λ u. refl }) (λ a p ne. clear_spares t addr a p ne) (λ s. refl))
  does_is k (events.Enter frame) may = passes (events.Enter frame) k refl (record { no_end = refl; not_given = λ u. refl; not_ended = λ u. refl }) (λ a p. record { kept = refl; not_left = refl }) (λ s. refl)
  does_is k events.Leave may = passes events.Leave k refl (record { no_end = refl; not_given = λ u. refl; not_ended = λ u. refl }) (λ a p. record { kept = refl; not_left = refl }) (λ s. refl)
  does_is k (events.Lock addr read) may = passes (events.Lock addr read) k refl (record { no_end = refl; not_given = λ u. refl; not_ended = λ u. refl }) (λ a p. record { kept = refl; not_left = refl }) (λ s. refl)
  does_is k (events.Unlock addr read) may = passes (events.Unlock addr read) k refl (record { no_end = refl; not_given = λ u. refl; not_ended = λ u. refl }) (λ a p. record { kept = refl; not_left = refl }) (λ s. refl)
  does_is k (events.Access place addr size read atomic) may = passes (events.Access place addr size read atomic) k refl (record { no_end = refl; not_given = λ u. refl; not_ended = λ u. refl }) (λ a p. record { kept = refl; not_left = refl }) (λ s. refl)
  does_is k (events.Put value count) may = passes (events.Put value count) k refl (record { no_end = refl; not_given = λ u. refl; not_ended = λ u. refl }) (λ a p. record { kept = refl; not_left = refl }) (λ s. refl)

  -- ---- acts

  -- the whole after the items that are told, and the state after the turn
  abbrev pub Goes : ℕ → Outcome Own Value (List Item) → Type 0
  Goes k r = HasClocks (fold (whole_next g slots) w r.told) (record { local = but m.local t r.local; value = but m.value k r.value })

  -- nothing changes
  stays : (k : ℕ) → HasClocks w (record { local = but m.local t (m.local t); value = but m.value k (m.value k) })
  stays k = at_any w m t (m.local t) k (subst (HasOwn w) (sym (but_same m.local t)) h.own) h.channels h.at_desk h.sound

  attach_by : (queue : List ℕ) → (desk_of m).queue ≡ queue → (m.local t).label ≡ None → Goes desk (attached t (m.local t) (desk_of m) queue (m.value desk))
  attach_by [] e none = stays desk
  attach_by (s ∷ rest) e none =
      let label : Label = record { sid = s; epoch = (desk_of m).last s + 1; era = (desk_of m).era } in
      let front : w.queue ≡ s ∷ rest = sym h.at_desk.queue ∙ e in
      let unowned = no_slot w.labels t (sym (h.own.label t) ∙ none) in
      subst (λ (x : Whole). HasClocks x (record { local = but m.local t (attached t (m.local t) (desk_of m) (s ∷ rest) (m.value desk)).local; value = but m.value desk (attached t (m.local t) (desk_of m) (s ∷ rest) (m.value desk)).value }))
      (sym (next_is g slots w t s rest h.sound unowned front label refl))
      (at_the_desk (record { labels = attach_labels w.labels t s; clocks = attach_clocks w.labels w.clocks t s; queue = rest }) m t (attached t (m.local t) (desk_of m) (s ∷ rest) (m.value desk)).local (record (desk_of m) { queue = rest })
      (own_taken g slots w t s rest h.sound unowned front m.local (desk_of m) h.own h.at_desk) h.channels (desk_taken g slots w t s rest h.sound unowned front (desk_of m) h.at_desk) (sound_taken g slots w t s rest h.sound unowned front))

  pub goes : (k : ℕ) (a : Act) → MayAct m t k a → Goes k (clock_turn g t a (m.local t) (m.value k))
  goes k (does e) may = does_is k e may
  goes k attaches may = subst (λ (j : ℕ). Goes j (clock_turn g t attaches (m.local t) (m.value j))) (sym may.0) (attach_by (desk_of m).queue refl may.1)
  goes k begins may = stays k
  goes k (leaves l) may = stays k
