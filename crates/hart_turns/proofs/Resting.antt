-- What an event makes of a watcher and of objects doesn't depend on the room that these have.
use Rattle.std.proofs.Common.{◌≡◌, ℕ, Bool, true, false, cond, Option, Some, None, List, refl, ap, subst, ◌∙◌, ◌==◌}
use Rattle.run_record.specs.declared.entry.Label.{Label}
use Rattle.run_record.specs.declared.event.Event.{Event}
use Rattle.run_record.specs.declared.event.Event.TheVariants as events
use Rattle.slot_desk.specs.Desks.{DeskContents}
use Rattle.sync_slab.specs.Objects.{SyncObjects, AreObjects}
use Rattle.race_core.specs.Watched.{Watched, next_label, raised_to, with_room}
use Rattle.thread_events.specs.Heard.{raised_or_lost, raised_or_lost_to, watcher_after, ObjectsAfter, lost_label}
use Rattle.run_laws.specs.Labels.{raises}
use Rattle.hart_events.specs.Events.{lost_after}
use Rattle.hart_turns.specs.Hearing.{at_rest, roomless}

raised_to_rest : (w : Watched) (o : Option Label) → at_rest (raised_to w o) ≡ raised_to (at_rest w) o
raised_to_rest w None = refl
raised_to_rest w (Some l) = refl

lost_rest : (w : Watched) (o : Option Label) → at_rest (raised_or_lost_to w o) ≡ raised_or_lost_to (at_rest w) o
lost_rest w None = refl
lost_rest w (Some l) = raised_to_rest w (next_label w.greatest w.label)

pub raised_rest : (w : Watched) → at_rest (raised_or_lost w) ≡ raised_or_lost (at_rest w)
raised_rest w = lost_rest w (next_label w.greatest w.label)

-- an event
pub after_rest : (given : Option (List ℕ)) (set : SyncObjects) (desk : DeskContents) (e : Event) (w : Watched) →
    at_rest (watcher_after given set desk e w) ≡ watcher_after given set desk e (at_rest w)
after_rest given set desk events.Begin w = refl
after_rest given set desk (events.Create child) w = raised_rest w
after_rest given set desk events.End w = refl
after_rest given set desk (events.Join of) w = refl
after_rest given set desk (events.Acquire addr part) w = refl
after_rest given set desk (events.Release addr part replaces) w = raised_rest w
after_rest given set desk (events.Destroy addr) w = refl
after_rest given set desk (events.Clear addr) w = refl
after_rest given set desk (events.Access place addr size read atomic) w = refl
after_rest given set desk (events.Enter frame) w = refl
after_rest given set desk events.Leave w = refl
after_rest given set desk (events.Lock addr read) w = refl
after_rest given set desk (events.Unlock addr read) w = refl
after_rest given set desk (events.Put value count) w = refl

-- the objects before it, with whatever room
pub roomless_before : (given : Option (List ℕ)) (set : SyncObjects) (spare : ℕ) (desk : DeskContents) (e : Event) (w : Watched) →
    watcher_after given (record set { spare = spare }) desk e w ≡ watcher_after given (roomless set) desk e w
roomless_before given set spare desk events.Begin w = refl
roomless_before given set spare desk (events.Create child) w = refl
roomless_before given set spare desk events.End w = refl
roomless_before given set spare desk (events.Join of) w = refl
roomless_before given set spare desk (events.Acquire addr part) w = refl
roomless_before given set spare desk (events.Release addr part replaces) w = refl
roomless_before given set spare desk (events.Destroy addr) w = refl
roomless_before given set spare desk (events.Clear addr) w = refl
roomless_before given set spare desk (events.Access place addr size read atomic) w = refl
roomless_before given set spare desk (events.Enter frame) w = refl
roomless_before given set spare desk events.Leave w = refl
roomless_before given set spare desk (events.Lock addr read) w = refl
roomless_before given set spare desk (events.Unlock addr read) w = refl
roomless_before given set spare desk (events.Put value count) w = refl

are_roomless : (set : SyncObjects) → AreObjects set → AreObjects (roomless set)
are_roomless set are = record { distinct = are.distinct; long = are.long }

-- and after it
pub roomless_after : (era : ℕ) (clock : List ℕ) (e : Event) (set : SyncObjects) (spare : ℕ) (new : SyncObjects) →
    ObjectsAfter era clock e (record set { spare = spare }) new → ObjectsAfter era clock e (roomless set) (roomless new)
roomless_after era clock (events.Release addr part replaces) set spare new o =
    (record { there = o.0.there; others = o.0.others; slots = o.0.slots }, are_roomless new o.1)
roomless_after era clock (events.Destroy addr) set spare new o =
    (record { gone = o.0.gone; others = o.0.others; slots = o.0.slots }, are_roomless new o.1)
roomless_after era clock (events.Clear addr) set spare new o =
    (record { gone = o.0.gone; others = o.0.others; slots = o.0.slots }, are_roomless new o.1)
roomless_after era clock events.Begin set spare new o = ap roomless o
roomless_after era clock (events.Create child) set spare new o = ap roomless o
roomless_after era clock events.End set spare new o = ap roomless o
roomless_after era clock (events.Join of) set spare new o = ap roomless o
roomless_after era clock (events.Acquire addr part) set spare new o = ap roomless o
roomless_after era clock (events.Access place addr size read atomic) set spare new o = ap roomless o
roomless_after era clock (events.Enter frame) set spare new o = ap roomless o
roomless_after era clock events.Leave set spare new o = ap roomless o
roomless_after era clock (events.Lock addr read) set spare new o = ap roomless o
roomless_after era clock (events.Unlock addr read) set spare new o = ap roomless o
roomless_after era clock (events.Put value count) set spare new o = ap roomless o

-- there are as many slots as before
pub slots_after : (era : ℕ) (clock : List ℕ) (e : Event) (old new : SyncObjects) → ObjectsAfter era clock e old new → new.slots ≡ old.slots
slots_after era clock (events.Release addr part replaces) old new o = o.0.slots
slots_after era clock (events.Destroy addr) old new o = o.0.slots
slots_after era clock (events.Clear addr) old new o = o.0.slots
slots_after era clock events.Begin old new o = ap (λ (s : SyncObjects). s.slots) o
slots_after era clock (events.Create child) old new o = ap (λ (s : SyncObjects). s.slots) o
slots_after era clock events.End old new o = ap (λ (s : SyncObjects). s.slots) o
slots_after era clock (events.Join of) old new o = ap (λ (s : SyncObjects). s.slots) o
slots_after era clock (events.Acquire addr part) old new o = ap (λ (s : SyncObjects). s.slots) o
slots_after era clock (events.Access place addr size read atomic) old new o = ap (λ (s : SyncObjects). s.slots) o
slots_after era clock (events.Enter frame) old new o = ap (λ (s : SyncObjects). s.slots) o
slots_after era clock events.Leave old new o = ap (λ (s : SyncObjects). s.slots) o
slots_after era clock (events.Lock addr read) old new o = ap (λ (s : SyncObjects). s.slots) o
slots_after era clock (events.Unlock addr read) old new o = ap (λ (s : SyncObjects). s.slots) o
slots_after era clock (events.Put value count) old new o = ap (λ (s : SyncObjects). s.slots) o

-- an event of a channel, for which room was made
pub heard_roomed : (given : Option (List ℕ)) (desk : DeskContents) (e : Event) (w roomed new : Watched) (set reserved : SyncObjects) →
    roomed ≡ with_room w → reserved ≡ record set { spare = reserved.spare } → new ≡ watcher_after given reserved desk e roomed →
    at_rest new ≡ watcher_after given (roomless set) desk e (at_rest w)
heard_roomed given desk e w roomed new set reserved room_is kept is =
    ap at_rest is ∙ (after_rest given reserved desk e roomed
    ∙ (ap (λ (s : SyncObjects). watcher_after given s desk e (at_rest roomed)) kept
    ∙ (roomless_before given set reserved.spare desk e (at_rest roomed)
    ∙ ap (λ (x : Watched). watcher_after given (roomless set) desk e (at_rest x)) room_is)))

pub objects_roomed : (e : Event) (w roomed : Watched) (set reserved new : SyncObjects) → roomed ≡ with_room w → reserved ≡ record set { spare = reserved.spare } →
    ObjectsAfter roomed.era roomed.clock e reserved new → ObjectsAfter w.era w.clock e (roomless set) (roomless new)
objects_roomed e w roomed set reserved new room_is kept is =
    roomless_after w.era w.clock e set reserved.spare new
    (subst (λ (s : SyncObjects). ObjectsAfter w.era w.clock e s new) kept (subst (λ (x : Watched). ObjectsAfter x.era x.clock e reserved new) room_is is))

pub lost_roomed : (e : Event) (w roomed : Watched) → roomed ≡ with_room w → lost_after e roomed ≡ lost_after e w
lost_roomed e w roomed room_is = ap (lost_after e) room_is ∙ go (raises e == 1)
  where
    go : (b : Bool) → cond b (lost_label (with_room w)) None ≡ cond b (lost_label w) None
    go true = refl
    go false = refl
