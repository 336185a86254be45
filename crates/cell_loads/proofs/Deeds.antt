-- What is so of each deed that a worker tells, as far as times ask for it.
use Rattle.std.proofs.Common.{◌≡◌, ◌≢◌, ◌<◌, ◌≤◌, ◌+◌, ℕ, List, [], ◌∷◌, inl, inr, Some, sym, subst, ◌∙◌, arith}
use Rattle.std.specs.Prelude.{flat_map}
use Rattle.run_record.specs.declared.event.Event.{Event}
use Rattle.run_record.specs.declared.event.Event.TheVariants as events
use Rattle.run_record.specs.declared.entry.Check.{Check}
use Rattle.run_record.specs.declared.entry.Entry.{Entry}
use Rattle.run_record.specs.declared.entry.Label.{Label}
use Rattle.run_record.specs.declared.entry.DeskNote.TheVariants.{Nothing, Attach}
use Rattle.run_record.specs.declared.limits.Limits.{Limits}
use Rattle.bare_machine.specs.Memory.{stripe}
use Rattle.bare_machine.specs.Step.{desk}
use Rattle.turn_orders.specs.Lists.{Each, In, InOrder}
use Rattle.turn_orders.proofs.Members.{at_member, all_members, order_append}
use Rattle.woven_turns.proofs.Weaving.{in_parts}
use Rattle.watched_turns.specs.Checking.{Loads}
use Rattle.watched_turns.specs.Turns.{Act}
use Rattle.thread_events.specs.Heard.{IsAtKeeper}
use Rattle.placed_detector.specs.Standing.{Hand, Held}
use Rattle.placed_detector.specs.Instructions.{Beside, IsAtDesk, HearsEvents}
use Rattle.deed_histories.specs.Deeds.{Made, all_events, all_checks, AreMade, AreNumbered, IsDeed, Takes, Leaves, Makes}
use Rattle.deed_histories.specs.Lines.{IsHandDeed}
use Rattle.table_deeds.specs.Objects.{ObjectDeed, hand_deed, slots_in, last_in}
use Rattle.table_deeds.proofs.Listing.{thread_of_deed}
use Rattle.cell_loads.specs.Spans.{object_at}
use Rattle.cell_loads.proofs.Born.{MakesMore, deed_more}

-- an entry as far as times ask: its checks are in the order of its events; what reaches a clock or another thread is at its place; and a
-- slot is taken at the desk, in an entry without events
pub record IsEntryAt (k : ℕ) (e : Entry) : Type 0 where
  pub events : InOrder (λ (c d : Check). c.event ≤ d.event) e.checks
  pub places : (v : Event) (j : ℕ) → In v e.events → object_at v ≡ Some j → k ≡ j
  pub noted : e.note ≢ Nothing → e.events ≡ []
  pub attached : (l : Label) → e.note ≡ Attach l → k ≡ desk

-- the deed's thread and stamp, and its entry
pub record IsToldDeed (limits : Limits) (d : ObjectDeed) : Type 0 where
  pub thread : d.told.entry.tid ≡ d.call.thread
  pub stamp : d.told.entry.stamp ≡ d.local_left.last
  pub left : last_in d.left ≡ d.local_left.last
  pub above : d.local_found.last < d.local_left.last
  pub over : last_in d.found < d.local_left.last
  pub entry : IsEntryAt d.call.place d.told.entry
  pub made : MakesMore (slots_in limits d.found) (slots_in limits d.left) d.told.entry.events

-- ---- events

at_place : (e : Event) (k j : ℕ) → IsAtKeeper stripe k e → IsAtDesk k e → object_at e ≡ Some j → k ≡ j
at_place (events.Create child) k j a b o = b ∙ (let q : desk ≡ j = cc in q)
at_place events.End k j a b o = b ∙ (let q : desk ≡ j = cc in q)
at_place (events.Join of) k j a b o = b ∙ (let q : desk ≡ j = cc in q)
at_place (events.Acquire addr p) k j a b o = a ∙ (let q : stripe addr ≡ j = cc in q)
at_place (events.Release addr p r) k j a b o = a ∙ (let q : stripe addr ≡ j = cc in q)
at_place events.Begin k j a b o = absurd (cc)
at_place (events.Enter f) k j a b o = absurd (cc)
at_place events.Leave k j a b o = absurd (cc)
at_place (events.Lock addr r) k j a b o = absurd (cc)
at_place (events.Unlock addr r) k j a b o = absurd (cc)
at_place (events.Destroy addr) k j a b o = absurd (cc)
at_place (events.Access p addr s r t) k j a b o = absurd (cc)
at_place (events.Put v c) k j a b o = absurd (cc)
at_place (events.Clear addr) k j a b o = absurd (cc)

module _ (file : List ℕ) (harts era t k : ℕ) where
  heard_at : (loads : Loads) (i : ℕ) (es : List Event) (cs : List (List Check)) (old new : Beside) → HearsEvents file k t loads i es cs old new →
      (v : Event) (j : ℕ) → In v es → object_at v ≡ Some j → k ≡ j
  heard_at loads i [] cs old new h v j m o = absurd m
  heard_at loads i (e ∷ es) [] old new h v j m o = absurd h
  heard_at loads i (e ∷ es) (c ∷ cs) old new h v j (inl q) o =
      at_place e k j h.1.keeper h.1.at_desk (subst (λ (z : Event). object_at z ≡ Some j) q o)
  heard_at loads i (e ∷ es) (c ∷ cs) old new h v j (inr m) o = heard_at loads (i + 1) es cs h.0 new h.5 v j m o

  made_at : (xs : List Made) (found left : Hand) (place_found place_left : Held) → AreMade file harts era t k xs found left place_found place_left →
      (v : Event) (j : ℕ) → In v (all_events xs) → object_at v ≡ Some j → k ≡ j
  made_at [] found left pf pl h v j m o = absurd h
  made_at (x ∷ []) found left pf pl h v j m o = elim (in_parts v x.events [] m) [
    | inl n ↦ heard_at x.loads 0 x.events x.checks _ _ h.0.heard v j n o
    | inr n ↦ absurd n
  ]
  made_at (x ∷ (y ∷ rest)) found left pf pl h v j m o = elim (in_parts v x.events (all_events (y ∷ rest)) m) [
    | inl n ↦ heard_at x.loads 0 x.events x.checks _ _ h.2.heard v j n o
    | inr n ↦ made_at (y ∷ rest) h.0 left h.1 pl h.5 v j n o
  ]

-- ---- checks

abbrev InEvents : Check → Check → Type 0
InEvents c d = c.event ≤ d.event

same_event : (n : ℕ) (cs : List Check) → Each (λ (c : Check). c.event ≡ n) cs → InOrder InEvents cs
same_event n [] h = tt
same_event n (c ∷ cs) h = (
  all_members (InEvents c) cs (λ d i. let a = h.0 in let b = at_member (λ (c : Check). c.event ≡ n) d cs h.1 i in omega arith),
  same_event n cs h.1,
)

abbrev flat : List (List Check) → List Check
flat css = flat_map (λ (cs : List Check). cs) css

from_event : (n : ℕ) (css : List (List Check)) → AreNumbered n css → (c : Check) → In c (flat css) → n ≤ c.event
from_event n [] h c i = absurd i
from_event n (cs ∷ css) h c i = elim (in_parts c cs (flat css) i) [
  | inl j ↦ let a = at_member (λ (c : Check). c.event ≡ n) c cs h.0 j in omega arith
  | inr j ↦ let a = from_event (n + 1) css h.1 c j in omega arith
]

numbered_order : (n : ℕ) (css : List (List Check)) → AreNumbered n css → InOrder InEvents (flat css)
numbered_order n [] h = tt
numbered_order n (cs ∷ css) h = order_append InEvents cs (flat css) (same_event n cs h.0) (numbered_order (n + 1) css h.1)
    (λ c d i j. let a = at_member (λ (c : Check). c.event ≡ n) c cs h.0 i in let b = from_event (n + 1) css h.1 d j in omega arith)

-- ---- deeds

module _ (file : List ℕ) (limits : Limits) (era : ℕ) where
  entry_at : (t k : ℕ) (found left : Hand) (place_found place_left : Held) (e : Entry) (acts : List Act) →
      IsDeed file limits era t k found left place_found place_left e acts → IsEntryAt k e
  entry_at t k found left pf pl e acts (Takes label at takes tells) = record {
    events = subst (InOrder InEvents) (sym tells.checks) tt;
    places = λ v j m o. absurd (subst (In v) tells.events m);
    noted = λ n. tells.events;
    attached = λ l q. at;
  }
  entry_at t k found left pf pl e acts (Leaves label at leaves same tells) = record {
    events = subst (InOrder InEvents) (sym tells.checks) tt;
    places = λ v j m o. absurd (subst (In v) tells.events m);
    noted = λ n. tells.events;
    attached = λ l q. at;
  }
  entry_at t k found left pf pl e acts (Makes xs made tells) = record {
    events = subst (InOrder InEvents) (sym tells.checks) (numbered_order 0 (all_checks xs) tells.numbered);
    places = λ v j m o. made_at file limits.harts era t k xs found left pf pl made v j (subst (In v) tells.events m) o;
    noted = λ n. absurd (n tells.note);
    attached = λ l q. absurd (let z : Nothing ≡ Attach l = sym tells.note ∙ q in cc);
  }

  pub told_deed : (d : ObjectDeed) → IsHandDeed file limits era (hand_deed file limits d) → IsToldDeed limits d
  told_deed d h = record {
    thread = thread_of_deed file limits era (hand_deed file limits d) h;
    stamp = h.entry_stamp;
    left = h.left_there;
    above = let a = h.drawn in omega arith;
    over = let a = h.drawn in omega arith;
    entry = entry_at d.call.thread d.call.place d.local_found.state d.local_left.state (hand_deed file limits d).found.state
        (hand_deed file limits d).left.state d.told.entry d.told.acts h.deed;
    made = deed_more file limits era d.call.thread d.call.place d.local_found.state d.local_left.state (hand_deed file limits d).found.state
        (hand_deed file limits d).left.state d.told.entry d.told.acts h.deed;
  }
