-- The deeds of a part, with one more behind them.
use Rattle.std.proofs.Common.{◌≡◌, ◌≢◌, ℕ, ◌≤◌, List, [], ◌∷◌, ◌++◌, append_assoc, append-nil, refl, ap, ap₂, sym, subst, ◌∙◌, None}
use Rattle.std.specs.List.{AllZip, flat_map}
use Rattle.run_record.specs.declared.limits.Limits.{Limits}
use Rattle.run_record.specs.declared.entry.Entry.{Entry}
use Rattle.bare_machine.specs.Step.{desk}
use Rattle.turn_orders.specs.Lists.{Each}
use Rattle.turn_orders.specs.LineUp.{Stamped, LocalsFollow, last_local}
use Rattle.shared_table.specs.Past.{Log}
use Rattle.placed_detector.specs.Standing.{Hand}
use Rattle.deed_histories.specs.Lines.{entries_of, IsHandDeed}
use Rattle.deed_histories.proofs.Made.{zip_append}
use Rattle.table_deeds.specs.Objects.{ObjectDeed, hand_deed, hand_deeds}
use Rattle.hart_parts.specs.Parts.{IsStretch, IsNeedy}
use Rattle.part_races.specs.Rounds.{Tagged, entries_tagged, TellsAwaited}
use Rattle.part_growth.specs.Growth.{Owing, nothing, Meets, Owes, ArePaid}
use Rattle.part_growth.proofs.Lists.{follow_push, last_push, each_push}

-- one more deed, where the first are paid
pub paid_push : (file : List ℕ) (limits : Limits) (owed : Owing) (ds : List ObjectDeed) (owing : Owing) (d : ObjectDeed) (next : Owing) →
    ArePaid file limits owed ds owing → Meets file limits owing d → Owes limits d next →
    (IsNeedy file limits d → d.local_found.state.watched.label ≢ None) → ArePaid file limits owed (ds ++ d ∷ []) next
paid_push file limits owed [] owing d next p m o l = (next, subst (λ (z : Owing). Meets file limits z d) (sym p) m, o, l, refl)
paid_push file limits owed (x ∷ xs) owing d next p m o l = (p.0, p.1, p.2, p.3, paid_push file limits p.0 xs owing d next p.4 m o l)

-- The deeds of thread t in that era, with their stretches: they lead from `before` to `left`, and owe that.
pub record AreDeeds (file : List ℕ) (limits : Limits) (era t : ℕ) (before : Stamped Hand) (deeds : List ObjectDeed) (stretches : List Log)
    (left : Stamped Hand) (owing : Owing) : Type 0 where
  pub mine : Each (λ (d : ObjectDeed). d.call.thread ≡ t) deeds
  pub at_objects : Each (λ (d : ObjectDeed). d.call.place ≤ desk) deeds
  pub each : Each (λ (d : ObjectDeed). IsHandDeed file limits era (hand_deed file limits d)) deeds
  pub follow : LocalsFollow before deeds
  pub left_is : last_local before deeds ≡ left
  pub along : AllZip IsStretch deeds stretches
  pub paid : ArePaid file limits nothing deeds owing

-- one more deed of the thread, which finds what they left
pub record IsNextDeed (file : List ℕ) (limits : Limits) (era t : ℕ) (left : Stamped Hand) (owing : Owing) (d : ObjectDeed) (items : Log) (next : Owing) :
    Type 0 where
  pub mine : d.call.thread ≡ t
  pub at_object : d.call.place ≤ desk
  pub is_deed : IsHandDeed file limits era (hand_deed file limits d)
  pub found : d.local_found ≡ left
  pub stretch : IsStretch d items
  pub meets : Meets file limits owing d
  pub owes : Owes limits d next
  pub labelled : IsNeedy file limits d → d.local_found.state.watched.label ≢ None

pub deeds_push : (file : List ℕ) (limits : Limits) (era t : ℕ) (before : Stamped Hand) (deeds : List ObjectDeed) (stretches : List Log) (left : Stamped Hand)
    (owing : Owing) (d : ObjectDeed) (items : Log) (next : Owing) → AreDeeds file limits era t before deeds stretches left owing →
    IsNextDeed file limits era t left owing d items next →
    AreDeeds file limits era t before (deeds ++ d ∷ []) (stretches ++ items ∷ []) d.local_left next
deeds_push file limits era t before deeds stretches left owing d items next a n = record {
  mine = each_push (λ (x : ObjectDeed). x.call.thread ≡ t) deeds d a.mine n.mine;
  at_objects = each_push (λ (x : ObjectDeed). x.call.place ≤ desk) deeds d a.at_objects n.at_object;
  each = each_push (λ (x : ObjectDeed). IsHandDeed file limits era (hand_deed file limits x)) deeds d a.each n.is_deed;
  follow = follow_push before deeds d a.follow (a.left_is ∙ sym n.found);
  left_is = last_push before deeds d;
  along = zip_append IsStretch deeds (d ∷ []) stretches (items ∷ []) a.along (n.stretch, tt);
  paid = paid_push file limits nothing deeds owing d next a.paid n.meets n.owes n.labelled;
}

-- their entries
entries_push : (file : List ℕ) (limits : Limits) (deeds : List ObjectDeed) (d : ObjectDeed) (entries : List Entry) (e : Entry) →
    entries ≡ entries_of (hand_deeds file limits deeds) → d.told.entry ≡ e → entries ++ e ∷ [] ≡ entries_of (hand_deeds file limits (deeds ++ d ∷ []))
entries_push file limits [] d entries e are is = ap₂ (λ (es : List Entry) (x : Entry). es ++ x ∷ []) are (sym is)
entries_push file limits (x ∷ xs) d entries e are is =
    ap (λ (es : List Entry). es ++ e ∷ []) are
    ∙ ap (λ (es : List Entry). x.told.entry ∷ es) (entries_push file limits xs d (entries_of (hand_deeds file limits xs)) e refl is)

-- What was told of the deeds: their entries, and of each which accesses await.
pub record AreTold (file : List ℕ) (limits : Limits) (era : ℕ) (deeds : List ObjectDeed) (told : List Tagged) : Type 0 where
  pub entries : entries_tagged told ≡ entries_of (hand_deeds file limits deeds)
  pub awaited : AllZip (TellsAwaited file limits era) (hand_deeds file limits deeds) told

pub tagged_push : (told : List Tagged) (x : Tagged) → entries_tagged (told ++ x ∷ []) ≡ entries_tagged told ++ x.entry ∷ []
tagged_push [] x = refl
tagged_push (y ∷ ys) x = ap (λ (es : List Entry). y.entry ∷ es) (tagged_push ys x)

awaited_push : (file : List ℕ) (limits : Limits) (era : ℕ) (deeds : List ObjectDeed) (d : ObjectDeed) (told : List Tagged) (x : Tagged) →
    AllZip (TellsAwaited file limits era) (hand_deeds file limits deeds) told → TellsAwaited file limits era (hand_deed file limits d) x →
    AllZip (TellsAwaited file limits era) (hand_deeds file limits (deeds ++ d ∷ [])) (told ++ x ∷ [])
awaited_push file limits era [] d [] x z tells = (tells, tt)
awaited_push file limits era [] d (y ∷ ys) x z tells = absurd z
awaited_push file limits era (c ∷ cs) d [] x z tells = absurd z
awaited_push file limits era (c ∷ cs) d (y ∷ ys) x z tells = (z.0, awaited_push file limits era cs d ys x z.1 tells)

-- and of one more
pub told_push : (file : List ℕ) (limits : Limits) (era : ℕ) (deeds : List ObjectDeed) (d : ObjectDeed) (told : List Tagged) (x : Tagged) →
    AreTold file limits era deeds told → TellsAwaited file limits era (hand_deed file limits d) x →
    AreTold file limits era (deeds ++ d ∷ []) (told ++ x ∷ [])
told_push file limits era deeds d told x a tells = record {
  entries = tagged_push told x ∙ entries_push file limits deeds d (entries_tagged told) x.entry a.entries (sym tells.entry);
  awaited = awaited_push file limits era deeds d told x a.awaited tells;
}

-- the items of their stretches
pub items_push : (stretches : List Log) (items : Log) →
    flat_map (λ (xs : Log). xs) (stretches ++ items ∷ []) ≡ flat_map (λ (xs : Log). xs) stretches ++ items
items_push [] items = append-nil items
items_push (s ∷ ss) items = ap (λ (xs : Log). s ++ xs) (items_push ss items) ∙ sym (append_assoc s (flat_map (λ (xs : Log). xs) ss) items)
