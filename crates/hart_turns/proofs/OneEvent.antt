-- What was told of an event, as the laws of workers have it.
use Rattle.std.specs.Global.{Box}
use Rattle.std.proofs.Common.{◌≡◌, ℕ, max, Option, Some, None, List, [], ◌∷◌, length, replicate, append-nil, refl, ap, ap₂, sym, subst, ◌∙◌, arith}
use Rattle.std.specs.Prelude.{IfOk, IsSome, Result, Ok, Err, ◌++◌, map, slice_index}
use Rattle.run_record.specs.declared.no_memory.NoMemory.{NoMemory}
use Rattle.run_record.specs.declared.entry.Check.{Check}
use Rattle.run_record.specs.declared.entry.Label.{Label}
use Rattle.run_record.specs.declared.event.Event.{Event}
use Rattle.run_record.specs.declared.event.Event.TheVariants as events
use Rattle.run_record.specs.declared.limits.Limits.{Limits}
use Rattle.run_laws.specs.Accesses.{access_of}
use Rattle.slot_desk.specs.Desks.{DeskContents}
use Rattle.slot_desk.specs.Steps.{joined_told}
use Rattle.vector_clock.specs.Clocks.{joined}
use Rattle.sync_slab.specs.Objects.{SyncObjects}
use Rattle.race_core.specs.Watched.{Watched, with_clock, side_of}
use Rattle.race_core.specs.declared.watcher.Candidate.{Candidate}
use Rattle.report_laws.specs.Sound.{first_race_in}
use Rattle.detector.specs.Stands.{awaited}
use Rattle.part_races.specs.Awaits.{awaited_of, awaits_at}
use Rattle.placed_detector.specs.Instructions.{HearsEvent, told_in, given_after}
use Rattle.shared_table.specs.declared.object.Object.{Object}
use Rattle.shared_table.specs.declared.object.Object.TheVariants.{Stripe, Desk}
use Rattle.hart_events.specs.Events.{IsAlone, IsOfChannel, IsOfDesk}
use Rattle.hart_turns.specs.declared.hear.Hearing.{Hearing}
use Rattle.hart_turns.specs.declared.hear.Hearing.TheVariants.{Heard, Refused}
use Rattle.hart_turns.specs.Hearing.{IsHeard, at_rest, IsReady, IsAccess, HearsAlone, HearsBegin, HearsAccess, HearsAtStripe, HearsAtDesk}
use Rattle.run_laws.specs.Accesses.{Access}
use Rattle.slot_desk.specs.Steps.{new_desk}
use Rattle.shared_table.specs.declared.object.Stripe.{Stripe as Stripes}
use Rattle.shared_table.specs.declared.object.DeskState.{DeskState}
use Rattle.shared_table.specs.Steps.{Mine}
use Rattle.placed_detector.specs.Instructions.{ChecksAccess}
use Rattle.hart_events.specs.Events.{lost_after}
use Rattle.hart_events.specs.declared.checks.Raced.{Raced}
use Rattle.hart_events.specs.Checks.{raced_of, waits_on}
use Rattle.hart_turns.specs.Places.{sync_at, slots_at, beside_at, IsGivenAs, SameBare, HearsOne}
use Rattle.hart_turns.specs.Hearing.{IsQuiet}
use Rattle.hart_turns.proofs.Checking.{no_items}

-- ---- clocks

joined_zeros : (xs : List ℕ) → joined xs (replicate (length xs) 0) ≡ xs
joined_zeros [] = refl
joined_zeros (x ∷ xs) = ap₂ (λ (y : ℕ) (ys : List ℕ). y ∷ ys) (omega arith) (joined_zeros xs)

joined_again : (xs ys : List ℕ) → joined xs (joined (replicate (length xs) 0) ys) ≡ joined xs ys
joined_again [] ys = refl
joined_again (x ∷ xs) [] = refl
joined_again (x ∷ xs) (y ∷ ys) = ap₂ (λ (z : ℕ) (zs : List ℕ). max x z ∷ zs) (omega arith) (joined_again xs ys)

-- what was left, taken in by way of an empty clock
pub joined_given : (slots : ℕ) (clock xs : List ℕ) (told : Option (List ℕ)) → length xs ≡ slots → clock ≡ joined_told (replicate slots 0) told →
    joined xs clock ≡ joined_told xs told
joined_given slots clock xs None long is =
    ap (joined xs) (is ∙ ap (λ (n : ℕ). replicate n 0) (sym long)) ∙ joined_zeros xs
joined_given slots clock xs (Some ys) long is =
    ap (joined xs) (is ∙ ap (λ (n : ℕ). joined (replicate n 0) ys) (sym long)) ∙ joined_again xs ys

-- ---- events

-- an event that reaches nothing but its thread
pub alone_heard : (k t slots : ℕ) (e : Event) (w w' : Watched) (spent : Option Label) (sync : SyncObjects) (desk : DeskContents) (given : Option (Option (List ℕ))) →
    IsAlone e → IsReady slots w e → HearsAlone e w w' spent →
    HearsEvent k t e (record { watched = at_rest w; given = given; sync = sync; desk = desk }) (record { watched = at_rest w'; given = given_after e given; sync = sync; desk = desk })
alone_heard k t slots (events.Enter frame) w w' spent sync desk given alone r h = record {
  label = (r.label, r.labelled);
  keeper = tt;
  at_desk = tt;
  granted = tt;
  has_given = tt;
  watched = h.watcher (told_in given) sync desk;
  given = refl;
  objects = refl;
  desk_is = refl;
}
alone_heard k t slots events.Leave w w' spent sync desk given alone r h = record {
  label = (r.label, r.labelled);
  keeper = tt;
  at_desk = tt;
  granted = tt;
  has_given = tt;
  watched = h.watcher (told_in given) sync desk;
  given = refl;
  objects = refl;
  desk_is = refl;
}
alone_heard k t slots (events.Lock addr read) w w' spent sync desk given alone r h = record {
  label = (r.label, r.labelled);
  keeper = tt;
  at_desk = tt;
  granted = tt;
  has_given = tt;
  watched = h.watcher (told_in given) sync desk;
  given = refl;
  objects = refl;
  desk_is = refl;
}
alone_heard k t slots (events.Unlock addr read) w w' spent sync desk given alone r h = record {
  label = (r.label, r.labelled);
  keeper = tt;
  at_desk = tt;
  granted = tt;
  has_given = tt;
  watched = h.watcher (told_in given) sync desk;
  given = refl;
  objects = refl;
  desk_is = refl;
}
alone_heard k t slots (events.Access place addr size read atomic) w w' spent sync desk given alone r h = record {
  label = (r.label, r.labelled);
  keeper = tt;
  at_desk = tt;
  granted = tt;
  has_given = tt;
  watched = h.watcher (told_in given) sync desk;
  given = refl;
  objects = refl;
  desk_is = refl;
}
alone_heard k t slots (events.Put value count) w w' spent sync desk given alone r h = record {
  label = tt;
  keeper = tt;
  at_desk = tt;
  granted = tt;
  has_given = tt;
  watched = h.watcher (told_in given) sync desk;
  given = refl;
  objects = refl;
  desk_is = refl;
}
alone_heard k t slots events.Begin w w' spent sync desk given alone r h = absurd alone
alone_heard k t slots (events.Create child) w w' spent sync desk given alone r h = absurd alone
alone_heard k t slots events.End w w' spent sync desk given alone r h = absurd alone
alone_heard k t slots (events.Join of) w w' spent sync desk given alone r h = absurd alone
alone_heard k t slots (events.Acquire addr part) w w' spent sync desk given alone r h = absurd alone
alone_heard k t slots (events.Release addr part replaces) w w' spent sync desk given alone r h = absurd alone
alone_heard k t slots (events.Destroy addr) w w' spent sync desk given alone r h = absurd alone
alone_heard k t slots (events.Clear addr) w w' spent sync desk given alone r h = absurd alone

-- a thread begins
pub begin_heard : (k t slots : ℕ) (clock : List ℕ) (w w' : Watched) (spent : Option Label) (sync : SyncObjects) (desk : DeskContents) (given : Option (Option (List ℕ))) →
    IsReady slots w events.Begin → HearsBegin clock w w' spent → IsGivenAs slots given clock events.Begin →
    HearsEvent k t events.Begin (record { watched = at_rest w; given = given; sync = sync; desk = desk }) (record { watched = at_rest w'; given = None; sync = sync; desk = desk })
begin_heard k t slots clock w w' spent sync desk given r h g = record {
  label = (r.label, r.labelled);
  keeper = tt;
  at_desk = tt;
  granted = tt;
  has_given = (g.0, g.1);
  watched = h.watcher sync desk ∙ ap (with_clock (at_rest w)) (joined_given slots clock w.clock g.0 r.clock g.2
      ∙ ap (λ (o : Option (Option (List ℕ))). joined_told w.clock (told_in o)) (sym g.1));
  given = refl;
  objects = refl;
  desk_is = refl;
}

-- an event of a channel, at a stripe
pub stripe_heard : (k t slots : ℕ) (e : Event) (w w' : Watched) (old new : SyncObjects) (spent : Option Label) (desk : DeskContents) (given : Option (Option (List ℕ))) →
    IsOfChannel e → IsReady slots w e → HearsAtStripe k e w w' old new spent →
    HearsEvent k t e (record { watched = at_rest w; given = given; sync = record old { spare = 0 }; desk = desk })
    (record { watched = at_rest w'; given = given_after e given; sync = record new { spare = 0 }; desk = desk })
stripe_heard k t slots (events.Acquire addr part) w w' old new spent desk given channel r h = record {
  label = (r.label, r.labelled);
  keeper = h.keeper;
  at_desk = tt;
  granted = tt;
  has_given = tt;
  watched = h.watcher (told_in given) desk;
  given = refl;
  objects = h.objects;
  desk_is = refl;
}
stripe_heard k t slots (events.Release addr part replaces) w w' old new spent desk given channel r h = record {
  label = (r.label, r.labelled);
  keeper = h.keeper;
  at_desk = tt;
  granted = tt;
  has_given = tt;
  watched = h.watcher (told_in given) desk;
  given = refl;
  objects = h.objects;
  desk_is = refl;
}
stripe_heard k t slots (events.Destroy addr) w w' old new spent desk given channel r h = record {
  label = (r.label, r.labelled);
  keeper = h.keeper;
  at_desk = tt;
  granted = tt;
  has_given = tt;
  watched = h.watcher (told_in given) desk;
  given = refl;
  objects = h.objects;
  desk_is = refl;
}
stripe_heard k t slots (events.Clear addr) w w' old new spent desk given channel r h = record {
  label = (r.label, r.labelled);
  keeper = h.keeper;
  at_desk = tt;
  granted = tt;
  has_given = tt;
  watched = h.watcher (told_in given) desk;
  given = refl;
  objects = h.objects;
  desk_is = refl;
}
stripe_heard k t slots _ w w' old new spent desk given channel r h = absurd channel

-- an event at the desk
pub desk_heard : (k t slots : ℕ) (e : Event) (w w' : Watched) (sync : SyncObjects) (old new : DeskContents) (spent : Option Label) (given : Option (Option (List ℕ))) →
    IsOfDesk e → k ≡ 64 → IsReady slots w e → HearsAtDesk t e w w' old new spent →
    HearsEvent k t e (record { watched = at_rest w; given = given; sync = sync; desk = old })
    (record { watched = at_rest w'; given = given_after e given; sync = sync; desk = new })
desk_heard k t slots (events.Create child) w w' sync old new spent given desk at r h = record {
  label = (r.label, r.labelled);
  keeper = tt;
  at_desk = at;
  granted = h.granted;
  has_given = tt;
  watched = h.watcher (told_in given) sync;
  given = refl;
  objects = refl;
  desk_is = h.desk;
}
desk_heard k t slots events.End w w' sync old new spent given desk at r h = record {
  label = (r.label, r.labelled);
  keeper = tt;
  at_desk = at;
  granted = h.granted;
  has_given = tt;
  watched = h.watcher (told_in given) sync;
  given = refl;
  objects = refl;
  desk_is = h.desk;
}
desk_heard k t slots (events.Join of) w w' sync old new spent given desk at r h = record {
  label = (r.label, r.labelled);
  keeper = tt;
  at_desk = at;
  granted = h.granted;
  has_given = tt;
  watched = h.watcher (told_in given) sync;
  given = refl;
  objects = refl;
  desk_is = h.desk;
}
desk_heard k t slots _ w w' sync old new spent given desk at r h = absurd desk

-- ---- an event without checks

pub channel_unchecked : (e : Event) → IsOfChannel e → access_of e ≡ None
channel_unchecked (events.Acquire addr part) c = refl
channel_unchecked (events.Release addr part replaces) c = refl
channel_unchecked (events.Destroy addr) c = refl
channel_unchecked (events.Clear addr) c = refl
channel_unchecked _ c = absurd c

pub desk_unchecked : (e : Event) → IsOfDesk e → access_of e ≡ None
desk_unchecked (events.Create child) c = refl
desk_unchecked events.End c = refl
desk_unchecked (events.Join of) c = refl
desk_unchecked _ c = absurd c

-- without checks nothing waits
none_awaits : (w : Watched) (o : Option Access) → [] ≡ awaits_at w o []
none_awaits w None = refl
none_awaits w (Some a) = refl

pub quiet : (file : List ℕ) (limits : Limits) (k t : ℕ) (clock : List ℕ) (e : Event) (at : ℕ) (w w' : Watched) (place place' : Option Object)
    (checks : List Check) (waiting : List Candidate) (me : Mine) (spent : Option Label) → access_of e ≡ None →
    ((sync : SyncObjects) (desk : DeskContents) (given : Option (Option (List ℕ))) → IsGivenAs limits.slots given clock e →
    HearsEvent k t e (beside_at limits sync desk place w given) (beside_at limits sync desk place' w' (given_after e given))) →
    spent ≡ lost_after e w → SameBare place place' → HearsOne file limits k t clock e at w w' place place' checks checks waiting waiting me me spent
quiet file limits k t clock e at w w' place place' checks waiting me spent none heard spent_is bare = record {
  added = [];
  found = [];
  checks_are = sym (append-nil checks);
  waiting_is = sym (append-nil waiting);
  of_access = subst (λ (o : Option Access). ChecksAccess file w o []) (sym none) refl;
  stores = tt;
  of_event = tt;
  steps = sym (no_items me);
  awaits = none_awaits w (access_of e);
  heard = heard;
  spent_is = spent_is;
  bare = bare;
}

-- at a stripe
pub stripe_one : (file : List ℕ) (limits : Limits) (k t : ℕ) (clock : List ℕ) (e : Event) (at : ℕ) (w w' : Watched) (place : Option Object) (old new : Box Stripes) (checks : List Check) (waiting : List Candidate) (me : Mine) (spent : Option Label) →
    place ≡ Some (Stripe old) → IsOfChannel e → IsReady limits.slots w e → HearsAtStripe k e w w' old.value.sync new.value.sync spent →
    new.value.words ≡ old.value.words → new.value.reserved ≡ old.value.reserved → new.value.last ≡ old.value.last →
    HearsOne file limits k t clock e at w w' place (Some (Stripe new)) checks checks waiting waiting me me spent
stripe_one file limits k t clock e at w w' place old new checks waiting me spent here channel r h words reserved last =
    subst (λ (o : Option Object). HearsOne file limits k t clock e at w w' o (Some (Stripe new)) checks checks waiting waiting me me spent) (sym here) (quiet file limits k t clock e at w w' (Some (Stripe old)) (Some (Stripe new)) checks waiting me spent (channel_unchecked e channel)
    (λ sync desk given g. stripe_heard k t limits.slots e w w' old.value.sync new.value.sync spent (new_desk limits) given channel r h)
    h.spent_is (words, reserved, last))

-- at the desk
pub desk_one : (file : List ℕ) (limits : Limits) (k t : ℕ) (clock : List ℕ) (e : Event) (at : ℕ) (w w' : Watched) (place : Option Object) (old new : Box DeskState) (checks : List Check) (waiting : List Candidate) (me : Mine) (spent : Option Label) →
    place ≡ Some (Desk old) → IsOfDesk e → k ≡ 64 → IsReady limits.slots w e → HearsAtDesk t e w w' old.value.desk new.value.desk spent →
    new.value.machine ≡ old.value.machine → new.value.last ≡ old.value.last →
    HearsOne file limits k t clock e at w w' place (Some (Desk new)) checks checks waiting waiting me me spent
desk_one file limits k t clock e at w w' place old new checks waiting me spent there of_desk here r h machine last =
    subst (λ (o : Option Object). HearsOne file limits k t clock e at w w' o (Some (Desk new)) checks checks waiting waiting me me spent) (sym there) (quiet file limits k t clock e at w w' (Some (Desk old)) (Some (Desk new)) checks waiting me spent (desk_unchecked e of_desk)
    (λ sync desk given g. desk_heard k t limits.slots e w w' (record { slots = limits.slots; objects = []; spare = 0 }) old.value.desk new.value.desk spent given of_desk here r h)
    h.spent_is (machine, last))

-- ---- what a call tells, where it tells something

pub heard_map : (P Q : Option Label → Type 0) (r : Result Hearing NoMemory) → ((spent : Option Label) → P spent → Q spent) → IfOk r (IsHeard P) → IfOk r (IsHeard Q)
heard_map P Q (Ok (Heard spent)) f h = f spent h
heard_map P Q (Ok Refused) f h = tt
heard_map P Q (Err e) f h = tt

-- ---- events that leave the place as it is

pub same_bare : (place : Option Object) → SameBare place place
same_bare None = tt
same_bare (Some (Stripe s)) = (refl, refl, refl)
same_bare (Some (Desk d)) = (refl, refl)

pub put_one : (file : List ℕ) (limits : Limits) (k t : ℕ) (clock : List ℕ) (e : Event) (at : ℕ) (w : Watched) (place : Option Object) (checks : List Check) (waiting : List Candidate) (me : Mine)
    (value count : ℕ) → e ≡ events.Put value count → HearsOne file limits k t clock e at w w place place checks checks waiting waiting me me None
put_one file limits k t clock e at w place checks waiting me value count is =
    subst (λ (x : Event). HearsOne file limits k t clock x at w w place place checks checks waiting waiting me me None) (sym is)
    (quiet file limits k t clock (events.Put value count) at w w place place checks waiting me None refl
    (λ sync desk given g. record {
      label = tt;
      keeper = tt;
      at_desk = tt;
      granted = tt;
      has_given = tt;
      watched = refl;
      given = refl;
      objects = refl;
      desk_is = refl;
    })
    refl (same_bare place))

pub begin_one : (file : List ℕ) (limits : Limits) (k t : ℕ) (clock : List ℕ) (e : Event) (at : ℕ) (w w' : Watched) (place : Option Object) (checks : List Check) (waiting : List Candidate) (me : Mine)
    (spent : Option Label) → e ≡ events.Begin → IsReady limits.slots w e → HearsBegin clock w w' spent →
    HearsOne file limits k t clock e at w w' place place checks checks waiting waiting me me spent
begin_one file limits k t clock e at w w' place checks waiting me spent is r h =
    subst (λ (x : Event). IsReady limits.slots w x → HearsOne file limits k t clock x at w w' place place checks checks waiting waiting me me spent) (sym is)
    (λ ready. quiet file limits k t clock events.Begin at w w' place place checks waiting me spent refl
    (λ sync desk given g. begin_heard k t limits.slots clock w w' spent (sync_at limits sync place) (slots_at limits desk place) given ready h g)
    h.unspent (same_bare place)) r

alone_unspent : (e : Event) (w : Watched) → IsAlone e → lost_after e w ≡ None
alone_unspent (events.Enter frame) w a = refl
alone_unspent events.Leave w a = refl
alone_unspent (events.Lock addr read) w a = refl
alone_unspent (events.Unlock addr read) w a = refl
alone_unspent (events.Access place addr size read atomic) w a = refl
alone_unspent (events.Put value count) w a = refl
alone_unspent events.Begin w a = absurd a
alone_unspent (events.Create child) w a = absurd a
alone_unspent events.End w a = absurd a
alone_unspent (events.Join of) w a = absurd a
alone_unspent (events.Acquire addr part) w a = absurd a
alone_unspent (events.Release addr part replaces) w a = absurd a
alone_unspent (events.Destroy addr) w a = absurd a
alone_unspent (events.Clear addr) w a = absurd a

pub alone_one : (file : List ℕ) (limits : Limits) (k t : ℕ) (clock : List ℕ) (e : Event) (at : ℕ) (w w' : Watched) (place : Option Object) (checks : List Check) (waiting : List Candidate) (me : Mine)
    (spent : Option Label) → IsAlone e → access_of e ≡ None → ((given : Option (Option (List ℕ))) → given_after e given ≡ given) → IsReady limits.slots w e →
    HearsAlone e w w' spent → HearsOne file limits k t clock e at w w' place place checks checks waiting waiting me me spent
alone_one file limits k t clock e at w w' place checks waiting me spent alone none kept r h =
    quiet file limits k t clock e at w w' place place checks waiting me spent none
    (λ sync desk given g. alone_heard k t limits.slots e w w' spent (sync_at limits sync place) (slots_at limits desk place) given alone r h)
    (h.unspent ∙ sym (alone_unspent e w alone)) (same_bare place)

access_alone : (e : Event) → IsAccess e → IsAlone e
access_alone (events.Access place addr size read atomic) a = tt
access_alone _ a = absurd a

-- what an access adds to what waits, with the word that races
abbrev pub waits_with : Watched → Option Access → Option Raced → List Candidate
waits_with w None raced = []
waits_with w (Some a) None = []
waits_with w (Some a) (Some r) = record { mine = side_of w a; granule = r.granule; word = r.word } ∷ []

waits_more : (w : Watched) (a : Access) (raced : Option Raced) (waited : List Candidate) → waits_on w a raced waited ≡ waited ++ waits_with w (Some a) raced
waits_more w a None waited = sym (append-nil waited)
waits_more w a (Some r) waited = refl

waits_as : (w : Watched) (o : Option Access) (raced : Option Raced) (waited waiting : List Candidate) → IsSome o →
    ((a : Access) → o ≡ Some a → waiting ≡ waits_on w a raced waited) → waiting ≡ waited ++ waits_with w o raced
waits_as w None raced waited waiting some is = absurd (cc)
waits_as w (Some a) raced waited waiting some is = is a refl ∙ waits_more w a raced waited

-- it awaits as the laws of races have it
awaits_as : (w : Watched) (o : Option Access) (checks : List Check) (raced : Option Raced) → raced ≡ raced_of (first_race_in (slice_index w.clock) checks) →
    map awaited (waits_with w o raced) ≡ awaits_at w o checks
awaits_as w None checks raced is = refl
awaits_as w (Some a) checks raced is = ap (λ (r : Option Raced). map awaited (waits_with w (Some a) r)) is ∙ go (first_race_in (slice_index w.clock) checks)
  where
    go : (l : Option (Check × ℕ)) → map awaited (waits_with w (Some a) (raced_of l)) ≡ awaited_of (side_of w a) l
    go None = refl
    go (Some l) = refl

access_is : (e : Event) → IsAccess e → IsSome (access_of e)
access_is (events.Access place addr size read atomic) a = refl
access_is _ a = absurd a

pub access_one : (file : List ℕ) (limits : Limits) (k t : ℕ) (clock : List ℕ) (e : Event) (at : ℕ) (w w' : Watched) (place : Option Object)
    (before after : List Check) (waited waiting : List Candidate) (old new : Mine) (spent : Option Label) →
    IsAccess e → IsReady limits.slots w e → HearsAccess file e at w w' before after waited waiting old new spent →
    HearsOne file limits k t clock e at w w' place place before after waited waiting old new spent
access_one file limits k t clock e at w w' place before after waited waiting old new spent access r h = record {
  added = h.checks.checks.added;
  found = waits_with w (access_of e) h.checks.raced;
  checks_are = h.checks.checks.checks_are;
  waiting_is = waits_as w (access_of e) h.checks.raced waited waiting (access_is e access) h.checks.waits;
  of_access = h.checks.checks.of_access;
  stores = h.checks.checks.stores;
  of_event = h.checks.checks.of_event;
  steps = h.checks.checks.steps;
  awaits = awaits_as w (access_of e) h.checks.checks.added h.checks.raced h.checks.checks.raced_is;
  heard = λ sync desk given g. alone_heard k t limits.slots e w w' spent (sync_at limits sync place) (slots_at limits desk place) given (access_alone e access) r h.alone;
  spent_is = h.alone.unspent ∙ sym (alone_unspent e w (access_alone e access));
  bare = same_bare place;
}

-- an event of stack or locks
quiet_alone : (e : Event) → IsQuiet e → IsAlone e
quiet_alone (events.Enter frame) q = tt
quiet_alone events.Leave q = tt
quiet_alone (events.Lock addr read) q = tt
quiet_alone (events.Unlock addr read) q = tt
quiet_alone _ q = absurd q

quiet_unchecked : (e : Event) → IsQuiet e → access_of e ≡ None
quiet_unchecked (events.Enter frame) q = refl
quiet_unchecked events.Leave q = refl
quiet_unchecked (events.Lock addr read) q = refl
quiet_unchecked (events.Unlock addr read) q = refl
quiet_unchecked _ q = absurd q

quiet_given : (e : Event) → IsQuiet e → (given : Option (Option (List ℕ))) → given_after e given ≡ given
quiet_given (events.Enter frame) q given = refl
quiet_given events.Leave q given = refl
quiet_given (events.Lock addr read) q given = refl
quiet_given (events.Unlock addr read) q given = refl
quiet_given _ q given = absurd q

pub quiet_one : (file : List ℕ) (limits : Limits) (k t : ℕ) (clock : List ℕ) (e : Event) (at : ℕ) (w w' : Watched) (place : Option Object) (checks : List Check) (waiting : List Candidate) (me : Mine)
    (spent : Option Label) → IsQuiet e → IsReady limits.slots w e → HearsAlone e w w' spent →
    HearsOne file limits k t clock e at w w' place place checks checks waiting waiting me me spent
quiet_one file limits k t clock e at w w' place checks waiting me spent q r h =
    alone_one file limits k t clock e at w w' place checks waiting me spent (quiet_alone e q) (quiet_unchecked e q) (quiet_given e q) r h

pub heard_only : (P Q : Option Label → Type 0) (r : Hearing) → ((spent : Option Label) → P spent → Q spent) → IsHeard P r → IsHeard Q r
heard_only P Q (Heard spent) f h = f spent h
heard_only P Q Refused f h = tt
