-- One event of a thread, heard by its watcher and at its place: all that is kept stands after it.
use Rattle.std.proofs.Common.{◌≡◌, ◌≢◌, ℕ, ◌+◌, ◌<◌, ◌≤◌, ◌⊎◌, inl, inr, Bool, true, false, cond, Option, Some, None, List, [], ◌∷◌, ◌++◌, refl, ap, ap₂, sym, subst, ◌∙◌, arith}
use mathlib.Core.Logic.{dite}
use native.Mathlib.Decide.{ℕ_discrete}
use Rattle.run_record.specs.declared.event.Event.{Event}
use Rattle.run_record.specs.declared.event.Event.TheVariants as events
use Rattle.run_record.specs.declared.entry.Label.{Label}
use Rattle.run_record.specs.declared.limits.Limits.{Limits}
use Rattle.run_laws.specs.Moments.{Does, NewEra, Moment}
use Rattle.run_laws.specs.Clocks.{Clocks, Given, Of, next_clocks}
use Rattle.run_laws.specs.Present.{labels_now, clocks_now}
use Rattle.run_laws.proofs.PresentLaw.{clocks_now-push}
use Rattle.bare_machine.specs.Memory.{stripe}
use Rattle.bare_machine.specs.Step.{desk}
use Rattle.turn_orders.specs.Machine.{but}
use Rattle.turn_orders.proofs.Functions.{but_here, but_else}
use Rattle.slot_desk.specs.declared.answers.Created.TheVariants.{Thread, Full}
use Rattle.slot_desk.specs.Desks.{DeskContents}
use Rattle.slot_desk.specs.Steps as desks
use Rattle.slot_desk.proofs.HistoryClocks.{given_stays}
use Rattle.sync_slab.specs.Objects.{SyncObjects}
use Rattle.race_core.specs.Watched.{Watched, next_label, raised}
use Rattle.race_core.specs.History.{era_now}
use Rattle.thread_events.specs.Standing.{Kept, Stands}
use Rattle.thread_events.specs.Heard.{IsGoing, IsGiven, IfBegin, IsGranted, ObjectsAfter, watcher_after, desk_after, kept_after, leaving_after, raised_or_lost_to}
use Rattle.thread_events.proofs.Longer.{era_stays}
use Rattle.thread_events.proofs.All.{event_stands, put_stands}
use Rattle.placed_detector.specs.Standing.{AreGiven}
use Rattle.placed_detector.specs.Instructions.{Beside, IsAtDesk, HasGiven, told_in, given_after, HasLabel, HearsEvent}

-- ---- what is beside a place and what is kept

pub record Fits (k t : ℕ) (b : Beside) (x : Kept) : Type 0 where
  pub watched : x.watchers t ≡ b.watched
  pub sync : x.objects k ≡ b.sync
  pub desk_is : k ≡ desk → x.desk ≡ b.desk

-- other threads and other places keep what they had
pub record Elsewhere (k t : ℕ) (x y : Kept) : Type 0 where
  pub watchers : (u : ℕ) → u ≢ t → y.watchers u ≡ x.watchers u
  pub objects : (j : ℕ) → j ≢ k → y.objects j ≡ x.objects j
  pub desk_stays : k ≢ desk → y.desk ≡ x.desk

-- ---- what each event reads and changes

granted_at : (k t : ℕ) (d x : DeskContents) (e : Event) → IsAtDesk k e → (k ≡ desk → x ≡ d) → IsGranted d t e → IsGranted x t e
granted_at k t d x (events.Create child) at same g = subst (λ (y : DeskContents). IsGranted y t (events.Create child)) (sym (same at)) g
granted_at k t d x (events.Join of) at same g = subst (λ (y : DeskContents). IsGranted y t (events.Join of)) (sym (same at)) g
granted_at k t d x events.End at same g = subst (λ (y : DeskContents). IsGranted y t events.End) (sym (same at)) g
granted_at k t d x _ at same g = tt

watcher_at : (k : ℕ) (told : Option (List ℕ)) (set : SyncObjects) (d x : DeskContents) (e : Event) (w : Watched) → IsAtDesk k e → (k ≡ desk → x ≡ d) →
    watcher_after told set x e w ≡ watcher_after told set d e w
watcher_at k told set d x (events.Join of) w at same = ap (λ (y : DeskContents). watcher_after told set y (events.Join of) w) (same at)
watcher_at k told set d x events.Begin w at same = refl
watcher_at k told set d x (events.Acquire addr part) w at same = refl
watcher_at k told set d x (events.Release addr part replaces) w at same = refl
watcher_at k told set d x (events.Create child) w at same = refl
watcher_at k told set d x events.End w at same = refl
watcher_at k told set d x (events.Enter pc) w at same = refl
watcher_at k told set d x events.Leave w at same = refl
watcher_at k told set d x (events.Lock addr read) w at same = refl
watcher_at k told set d x (events.Unlock addr read) w at same = refl
watcher_at k told set d x (events.Destroy addr) w at same = refl
watcher_at k told set d x (events.Access place addr size read atomic) w at same = refl
watcher_at k told set d x (events.Put value count) w at same = refl
watcher_at k told set d x (events.Clear addr) w at same = refl

desk_else : (k t : ℕ) (d : DeskContents) (clock : List ℕ) (e : Event) → IsAtDesk k e → k ≢ desk → desk_after d t clock e ≡ d
desk_else k t d clock (events.Create child) at ne = absurd (ne at)
desk_else k t d clock events.End at ne = absurd (ne at)
desk_else k t d clock _ at ne = refl

era_to : (w : Watched) (o : Option Label) → (raised_or_lost_to w o).era ≡ w.era
era_to w None = refl
era_to w (Some l) = go (next_label w.greatest w.label)
  where
    go : (p : Option Label) → (Rattle.race_core.specs.Watched.raised_to w p).era ≡ w.era
    go None = refl
    go (Some q) = refl

era_kept : (told : Option (List ℕ)) (set : SyncObjects) (d : DeskContents) (e : Event) (w : Watched) → (watcher_after told set d e w).era ≡ w.era
era_kept told set d (events.Release addr part replaces) w = era_to w (next_label w.greatest w.label)
era_kept told set d (events.Create child) w = era_to w (next_label w.greatest w.label)
era_kept told set d _ w = refl

made_grows : (d : DeskContents) (t : ℕ) (clock : List ℕ) (e : Event) → d.made ≤ (desk_after d t clock e).made
made_grows d t clock (events.Create child) = go (desks.is_full d)
  where
    go : (b : Bool) → d.made ≤ (cond b d (record d {
      made = d.made + 1;
      threads = Rattle.std.specs.Prelude.slice_set d.threads d.made
          (record { lives = true; told = Some clock });
    })).made
    go true = omega arith
    go false = omega arith
made_grows d t clock events.End = go (Rattle.slot_desk.specs.Desks.held_of d t)
  where
    go : (o : Option (ℕ × ℕ)) → d.made ≤ (Rattle.std.specs.Option.option_map_or
        (λ (h : ℕ × ℕ). desks.ended d t h.0 (Rattle.std.specs.Prelude.slice_index clock h.0) clock) o d).made
    go None = omega arith
    go (Some h) = omega arith
made_grows d t clock _ = omega arith

-- a desk that creates names the next thread
created_is : (d : DeskContents) (child : ℕ) → desks.created d ≡ Thread child → child ≡ d.made
created_is d child q = go (desks.is_full d) q
  where
    go : (b : Bool) → cond b Full (Thread d.made) ≡ Thread child → child ≡ d.made
    go true z = absurd (cc)
    go false z = cc

given_before : (e : Event) (g : Option (Option (List ℕ))) (told : Option (List ℕ)) → given_after e g ≡ Some told → g ≡ Some told
given_before events.Begin g told q = absurd (cc)
given_before _ g told q = q

label_or_put : (e : Event) (o : Option Label) → HasLabel e o → ((l : Label) × (o ≡ Some l)) ⊎ ((value : ℕ) × (count : ℕ) × (e ≡ events.Put value count))
label_or_put (events.Put value count) o has = inr (value, count, refl)
label_or_put events.Begin o has = inl has
label_or_put (events.Create child) o has = inl has
label_or_put events.End o has = inl has
label_or_put (events.Join of) o has = inl has
label_or_put (events.Enter pc) o has = inl has
label_or_put events.Leave o has = inl has
label_or_put (events.Lock addr read) o has = inl has
label_or_put (events.Unlock addr read) o has = inl has
label_or_put (events.Acquire addr part) o has = inl has
label_or_put (events.Release addr part replaces) o has = inl has
label_or_put (events.Destroy addr) o has = inl has
label_or_put (events.Access place addr size read atomic) o has = inl has
label_or_put (events.Clear addr) o has = inl has

-- ---- one event

module _ (limits : Limits) (k t : ℕ) (given : ℕ → Option (Option (List ℕ))) (h : List Moment) (x : Kept) (b : Beside) where
  -- what stands while the thread makes an instruction
  pub record Stood : Type 0 where
    pub leaving : ℕ → Bool
    pub stands : Stands limits stripe leaving h x
    pub fits : Fits k t b x
    pub era : b.watched.era ≡ era_now limits.epochs h
    pub are_given : AreGiven limits h x.desk.made (but given t b.given)

pub record Heard (limits : Limits) (k t : ℕ) (given : ℕ → Option (Option (List ℕ))) (h : List Moment) (x : Kept) (b : Beside) : Type 0 where
  pub then : Kept
  pub stood : Stood limits k t given h then b
  pub elsewhere : Elsewhere k t x then

module _ (limits : Limits) (k t : ℕ) (given : ℕ → Option (Option (List ℕ))) (h : List Moment) (m : Moment) (x : Kept) (b c : Beside)
    (s : Stood limits k t given h x b) where
  abbrev later : List Moment
  later = h ++ m ∷ []

  event_here : (e : Event) → m.item ≡ Does t e → era_now limits.epochs later ≡ era_now limits.epochs h
  event_here e made = era_stays limits.epochs h m (λ q. none (sym made ∙ q))
    where
      none : Does t e ≡ NewEra → ⊥
      none q = cc

  -- what was given stays, but for a thread that begins
  module _ (e : Event) (made : m.item ≡ Does t e) (granted : IsGranted x.desk t e) where
    clocks_then : clocks_now limits.epochs later ≡ next_clocks limits.epochs (labels_now limits.epochs h) (clocks_now limits.epochs h) (Does t e)
    clocks_then = clocks_now-push limits.epochs h m ∙ ap (next_clocks limits.epochs (labels_now limits.epochs h) (clocks_now limits.epochs h)) made

    other_child : (u : ℕ) → u < x.desk.made → e ≡ events.Create u → ⊥
    other_child u below q = let z = created_is x.desk u (subst (IsGranted x.desk t) q granted) in absurd (omega arith)

    still_given : (u : ℕ) (told : Option (List ℕ)) → IsGiven limits h u told → u < x.desk.made → IsGiven limits later u told
    still_given u told is below = record {
      long = is.long;
      known = λ r l. ap (λ (y : Clocks). y.spot (Of (Given u)) r) clocks_then ∙
          (given_stays limits.epochs (labels_now limits.epochs h) (clocks_now limits.epochs h) t e u r (other_child u below) ∙ is.known r l);
    }

    given_then : (y : DeskContents) → x.desk.made ≤ y.made → c.given ≡ given_after e b.given → AreGiven limits later y.made (but given t c.given)
    given_then y grows given_is u told q =
        let before = s.are_given u told (there (dec u)) in
        (still_given u told before.0 before.1, let z = before.1 in omega arith)
      where
        dec : (u : ℕ) → (u ≡ t) ⊎ (u ≢ t)
        dec v = dite (ℕ_discrete v t) (λ p. inl p) (λ p. inr p)

        there : (u ≡ t) ⊎ (u ≢ t) → but given t b.given u ≡ Some told
        there (inl p) = but_here given t u b.given p ∙ given_before e b.given told (sym given_is ∙ (sym (but_here given t u c.given p) ∙ q))
        there (inr p) = but_else given t u b.given p ∙ (sym (but_else given t u c.given p) ∙ q)

  -- bytes that are put
  put_heard : (value count : ℕ) → m.item ≡ Does t (events.Put value count) → HearsEvent k t (events.Put value count) b c → Heard limits k t given later x c
  put_heard value count made hears = record {
    then = x;
    stood = record {
      leaving = s.leaving;
      stands = put_stands limits stripe s.leaving h m x t value count s.stands made;
      fits = record {
        watched = s.fits.watched ∙ sym hears.watched;
        sync = s.fits.sync ∙ sym hears.objects;
        desk_is = λ q. s.fits.desk_is q
            ∙ sym hears.desk_is;
      };
      era = ap (λ (w : Watched). w.era) hears.watched ∙ (s.era ∙ sym (event_here (events.Put value count) made));
      are_given = given_then (events.Put value count) made tt x.desk (omega arith) hears.given;
    };
    elsewhere = record { watchers = λ u ne. refl; objects = λ j ne. refl; desk_stays = λ ne. refl };
  }

  -- an event of a thread with a label
  module _ (e : Event) (made : m.item ≡ Does t e) (hears : HearsEvent k t e b c) (label : Label) (labelled : b.watched.label ≡ Some label) where
    abbrev told : Option (List ℕ)
    told = told_in b.given

    going : IsGoing limits h (x.watchers t)
    going = record {
      present = ap (λ (w : Watched). w.era) s.fits.watched ∙ s.era;
      label = label;
      labelled = ap (λ (w : Watched). w.label) s.fits.watched
          ∙ labelled;
    }

    if_begin : (f : Event) → HasGiven f b.given → IfBegin f (IsGiven limits h t told)
    if_begin events.Begin has =
        let is = s.are_given t has.0 (but_here given t t b.given refl ∙ has.1) in
        subst (IsGiven limits h t) (sym (ap told_in has.1)) is.0
    if_begin _ has = tt

    granted : IsGranted x.desk t e
    granted = granted_at k t b.desk x.desk e hears.at_desk s.fits.desk_is hears.granted

    changed : ObjectsAfter (x.watchers t).era (x.watchers t).clock e (x.objects k) c.sync
    changed = subst (λ (y : SyncObjects). ObjectsAfter (x.watchers t).era (x.watchers t).clock e y c.sync) (sym s.fits.sync)
        (subst (λ (w : Watched). ObjectsAfter w.era w.clock e b.sync c.sync) (sym s.fits.watched) hears.objects)

    abbrev after : Kept
    after = kept_after x k t told e c.sync

    watcher_is : watcher_after told (x.objects k) x.desk e (x.watchers t) ≡ c.watched
    watcher_is =
        ap₂ (λ (y : SyncObjects) (w : Watched). watcher_after told y x.desk e w) s.fits.sync s.fits.watched
        ∙ (watcher_at k told b.sync b.desk x.desk e b.watched hears.at_desk s.fits.desk_is ∙ sym hears.watched)

    desk_here : k ≡ desk → desk_after x.desk t (x.watchers t).clock e ≡ c.desk
    desk_here q = ap₂ (λ (d : DeskContents) (w : Watched). desk_after d t w.clock e) (s.fits.desk_is q) s.fits.watched ∙ sym hears.desk_is

    event_heard : Heard limits k t given later x c
    event_heard = record {
      then = after;
      stood = record {
        leaving = leaving_after s.leaving t e (x.watchers t);
        stands = event_stands limits stripe s.leaving h m x k t told c.sync s.stands going e made
            (if_begin e hears.has_given) hears.keeper granted changed;
        fits = record {
          watched = but_here x.watchers t t (watcher_after told (x.objects k) x.desk e (x.watchers t)) refl ∙ watcher_is;
          sync = but_here x.objects k k c.sync refl;
          desk_is = desk_here;
        };
        era = ap (λ (w : Watched). w.era) hears.watched ∙ (era_kept told b.sync b.desk e b.watched ∙ (s.era ∙ sym (event_here e made)));
        are_given = given_then e made granted after.desk (made_grows x.desk t (x.watchers t).clock e) hears.given;
      };
      elsewhere = record {
        watchers = λ u ne. but_else x.watchers t u (watcher_after told (x.objects k) x.desk e (x.watchers t)) ne;
        objects = λ j ne. but_else x.objects k j c.sync ne;
        desk_stays = λ ne. desk_else k t x.desk (x.watchers t).clock e hears.at_desk ne;
      };
    }

  pub one_heard : (e : Event) → m.item ≡ Does t e → HearsEvent k t e b c → Heard limits k t given later x c
  one_heard e made hears = elim (label_or_put e b.watched.label hears.label) [
    | inl l ↦ event_heard e made hears l.0 l.1
    | inr p ↦ put_heard p.0 p.1 (made ∙ ap (Does t) p.2) (subst (λ (f : Event). HearsEvent k t f b c) p.2 hears)
  ]
