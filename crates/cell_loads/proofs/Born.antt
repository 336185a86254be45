-- How many threads the desk has made: no deed makes it fewer, and a thread that a deed creates gets a number that was free.
use Rattle.std.proofs.Common.{◌≡◌, ◌≤◌, ◌+◌, inl, inr, ℕ, Bool, true, false, cond, List, [], ◌∷◌, ◌++◌, Option, Some, None, refl, sym, ap, subst, arith}
use Rattle.run_record.specs.declared.event.Event.{Event}
use Rattle.run_record.specs.declared.event.Event.TheVariants as events
use Rattle.run_record.specs.declared.entry.Check.{Check}
use Rattle.run_record.specs.declared.entry.Entry.{Entry}
use Rattle.run_record.specs.declared.limits.Limits.{Limits}
use Rattle.turn_orders.specs.Lists.{In}
use Rattle.woven_turns.proofs.Weaving.{in_parts}
use Rattle.slot_desk.specs.declared.answers.Created.TheVariants.{Thread, Full}
use Rattle.slot_desk.specs.Desks.{DeskContents, held_of}
use Rattle.slot_desk.specs.Steps.{after_attach_from, after_detach, after_create, after_end, is_full, created, ended, spent_slot}
use Rattle.thread_events.specs.Heard.{IsGranted, desk_after}
use Rattle.watched_turns.specs.Checking.{Loads}
use Rattle.watched_turns.specs.Turns.{Act}
use Rattle.placed_detector.specs.Standing.{Hand, Held}
use Rattle.placed_detector.specs.Instructions.{Beside, HearsEvents}
use Rattle.deed_histories.specs.Deeds.{Made, all_events, AreMade, IsDeed, Takes, Leaves, Makes}

-- The second desk has made as many threads as the first, or more; and the events create none that the first had made.
pub record MakesMore (d e : DeskContents) (es : List Event) : Type 0 where
  pub more : d.made ≤ e.made
  pub free : (child : ℕ) → In (events.Create child) es → d.made ≤ child

attach_keeps : (d : DeskContents) (t : ℕ) (queue : List ℕ) → (after_attach_from d t queue).made ≡ d.made
attach_keeps d t [] = refl
attach_keeps d t (sid ∷ rest) = refl

detach_keeps : (d : DeskContents) (t : ℕ) → (after_detach d t).made ≡ d.made
detach_keeps d t = go (held_of d t)
  where
    go : (o : Option (ℕ × ℕ)) → (Rattle.std.specs.Option.option_map_or (λ (h : ℕ × ℕ). record d
        { slots = Rattle.std.specs.Prelude.slice_set d.slots h.0 (spent_slot (Rattle.slot_desk.specs.Desks.slot_of d h.0)) }) o d).made ≡ d.made
    go None = refl
    go (Some h) = refl

end_keeps : (d : DeskContents) (t : ℕ) (clock : List ℕ) → (after_end d t clock).made ≡ d.made
end_keeps d t clock = go (held_of d t)
  where
    go : (o : Option (ℕ × ℕ)) → (Rattle.std.specs.Option.option_map_or
        (λ (h : ℕ × ℕ). ended d t h.0 (Rattle.std.specs.Prelude.slice_index clock h.0) clock) o d).made ≡ d.made
    go None = refl
    go (Some h) = refl

create_more : (d : DeskContents) (clock : List ℕ) → d.made ≤ (after_create d clock).made
create_more d clock = go (is_full d)
  where
    go : (b : Bool) → d.made ≤ (cond b d
        (record d { made = d.made + 1; threads = Rattle.std.specs.Prelude.slice_set d.threads d.made (record { lives = true; told = Some clock }) })).made
    go true = omega arith
    go false = omega arith

created_free : (d : DeskContents) (child : ℕ) → created d ≡ Thread child → d.made ≤ child
created_free d child e = go (is_full d) e
  where
    go : (b : Bool) → cond b Full (Thread d.made) ≡ Thread child → d.made ≤ child
    go true q = absurd (cc)
    go false q = let z : d.made ≡ child = cc in omega arith

event_more : (d : DeskContents) (t : ℕ) (clock : List ℕ) (e : Event) → d.made ≤ (desk_after d t clock e).made
event_more d t clock (events.Create child) = create_more d clock
event_more d t clock events.End = let q = end_keeps d t clock in omega arith
event_more d t clock events.Begin = omega arith
event_more d t clock (events.Join of) = omega arith
event_more d t clock (events.Enter f) = omega arith
event_more d t clock events.Leave = omega arith
event_more d t clock (events.Lock a r) = omega arith
event_more d t clock (events.Unlock a r) = omega arith
event_more d t clock (events.Acquire a p) = omega arith
event_more d t clock (events.Release a p r) = omega arith
event_more d t clock (events.Destroy a) = omega arith
event_more d t clock (events.Access p a s r v) = omega arith
event_more d t clock (events.Put v c) = omega arith
event_more d t clock (events.Clear a) = omega arith

event_free : (d : DeskContents) (t child : ℕ) (e : Event) → IsGranted d t e → events.Create child ≡ e → d.made ≤ child
event_free d t child e g q = created_free d child (subst (IsGranted d t) (sym q) g)

module _ (file : List ℕ) (harts era t k : ℕ) where
  heard_more : (loads : Loads) (i : ℕ) (es : List Event) (cs : List (List Check)) (old new : Beside) → HearsEvents file k t loads i es cs old new →
      MakesMore old.desk new.desk es
  heard_more loads i [] [] old new h = record { more = (let q = ap (λ (b : Beside). b.desk.made) h in omega arith); free = λ child m. absurd m }
  heard_more loads i [] (c ∷ cs) old new h = absurd h
  heard_more loads i (e ∷ es) [] old new h = absurd h
  heard_more loads i (e ∷ es) (c ∷ cs) old new h = make (heard_more loads (i + 1) es cs h.0 new h.5)
    where
      step : old.desk.made ≤ h.0.desk.made
      step = let q = ap (λ (d : DeskContents). d.made) h.1.desk_is in let l = event_more old.desk t old.watched.clock e in omega arith

      make : MakesMore h.0.desk new.desk es → MakesMore old.desk new.desk (e ∷ es)
      make r = record { more = (let a = step in let b = r.more in omega arith); free = free }
        where
          free : (child : ℕ) → In (events.Create child) (e ∷ es) → old.desk.made ≤ child
          free child (inl q) = event_free old.desk t child e h.1.granted q
          free child (inr m) = let a = step in let b = r.free child m in omega arith

  made_more : (xs : List Made) (found left : Hand) (place_found place_left : Held) → AreMade file harts era t k xs found left place_found place_left →
      MakesMore place_found.desk place_left.desk (all_events xs)
  made_more [] found left pf pl h = absurd h
  made_more (x ∷ []) found left pf pl h = make (heard_more x.loads 0 x.events x.checks _ _ h.0.heard)
    where
      make : MakesMore pf.desk pl.desk x.events → MakesMore pf.desk pl.desk (x.events ++ [])
      make r = record { more = r.more; free = λ child m. elim (in_parts (events.Create child) x.events [] m) [ inl n ↦ r.free child n | inr n ↦ absurd n ] }
  made_more (x ∷ (y ∷ rest)) found left pf pl h = make (heard_more x.loads 0 x.events x.checks _ _ h.2.heard) (made_more (y ∷ rest) h.0 left h.1 pl h.5)
    where
      make : MakesMore pf.desk h.1.desk x.events → MakesMore h.1.desk pl.desk (all_events (y ∷ rest)) → MakesMore pf.desk pl.desk
          (x.events ++ all_events (y ∷ rest))
      make r s = record {
        more = let a = r.more in let b = s.more in omega arith;
        free = λ child m. elim (in_parts (events.Create child) x.events (all_events (y ∷ rest)) m) [
          | inl n ↦ r.free child n
          | inr n ↦ let a = r.more in let b = s.free child n in omega arith
        ];
      }

-- so it is of a deed
pub deed_more : (file : List ℕ) (limits : Limits) (era t k : ℕ) (found left : Hand) (place_found place_left : Held) (e : Entry) (acts : List Act) →
    IsDeed file limits era t k found left place_found place_left e acts → MakesMore place_found.desk place_left.desk e.events
deed_more file limits era t k found left pf pl e acts (Takes label at takes tells) = record {
  more = let q = ap (λ (h : Held). h.desk.made) takes.place in let r = attach_keeps pf.desk t pf.desk.queue in omega arith;
  free = λ child m. absurd (subst (In (events.Create child)) tells.events m);
}
deed_more file limits era t k found left pf pl e acts (Leaves label at leaves same tells) = record {
  more = let q = ap (λ (h : Held). h.desk.made) leaves.place in let r = detach_keeps pf.desk t in omega arith;
  free = λ child m. absurd (subst (In (events.Create child)) tells.events m);
}
deed_more file limits era t k found left pf pl e acts (Makes xs made tells) =
    let r = made_more file limits.harts era t k xs found left pf pl made in
    record { more = r.more; free = λ child m. r.free child (subst (In (events.Create child)) tells.events m) }
