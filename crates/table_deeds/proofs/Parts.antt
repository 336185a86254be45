-- A deed that uses no object ends its thread's part of the round.
use Rattle.std.proofs.Common.{◌≡◌, ◌<◌, ◌≤◌, ℕ, List, [], ◌∷◌, inl, inr, refl, sym, ap, subst, ◌∙◌, arith, eq-eqb}
use Rattle.std.specs.Prelude.{◌==◌, IsPermutation}
use Rattle.run_record.specs.declared.entry.Entry.{Entry}
use Rattle.run_record.specs.declared.limits.Limits.{Limits}
use Rattle.bare_machine.specs.Step.{desk}
use Rattle.turn_orders.specs.Lists.{Each, In}
use Rattle.turn_orders.specs.Machine.{State}
use Rattle.turn_orders.specs.LineUp.{Stamped, of_thread, LocalsFollow, Before, IsSorted}
use Rattle.turn_orders.proofs.Members.{at_member, all_members, filter_in, in_filter}
use Rattle.turn_orders.proofs.Permuted.{same_members}
use Rattle.woven_turns.specs.Weave.{LinesUp}
use Rattle.placed_detector.specs.Standing.{Hand, Held}
use Rattle.deed_histories.specs.Lines.{HandDeed, IsHandDeed, entries_of}
use Rattle.deed_histories.specs.Rounds.{PartsEnd, hand_stamp}
use Rattle.table_deeds.specs.Listing.{EndsAlone}
use Rattle.table_deeds.proofs.Listing.{thread_of_deed}

module _ (file : List ℕ) (limits : Limits) (era : ℕ) where
  abbrev IsMade : HandDeed → Type 0
  IsMade = IsHandDeed file limits era

  higher : (l : Stamped Hand) (d : HandDeed) → l ≡ d.local_found → IsMade d → l.last ≤ d.local_left.last
  higher l d e h =
      let same : l.last ≡ d.local_found.last = ap (λ (x : Stamped Hand). x.last) e in
      grind (arith, same, h.drawn)

  -- along a thread's deeds stamps rise
  rising : (l : Stamped Hand) (ds : List HandDeed) → LocalsFollow l ds → Each IsMade ds → Each (λ (f : HandDeed). l.last ≤ f.local_left.last) ds
  rising l [] f h = tt
  rising l (d ∷ ds) f h =
      let here = higher l d f.0 h.0 in
      let others = rising d.local_left ds f.1 h.1 in (
        here,
        all_members (λ (e : HandDeed). l.last ≤ e.local_left.last) ds
            (λ e i. let later = at_member (λ (x : HandDeed). d.local_left.last ≤ x.local_left.last) e ds others i in omega (arith, here, later)),
      )

  -- so the last one has the greatest
  greatest_last : (l : Stamped Hand) (ds : List HandDeed) → LocalsFollow l ds → Each IsMade ds → EndsAlone ds →
      (d e : HandDeed) → desk < d.call.place → In d ds → In e ds → e.local_left.last ≤ d.local_left.last
  greatest_last l [] f h a d e b i j = absurd i
  greatest_last l (x ∷ xs) f h a d e b (inl q) (inl r) = subst (λ (y : HandDeed). y.local_left.last ≤ d.local_left.last) (q ∙ sym r) (omega arith)
  greatest_last l (x ∷ xs) f h a d e b (inl q) (inr j) =
      let none : xs ≡ [] = a.0 (subst (λ (y : HandDeed). desk < y.call.place) q b) in
      absurd (subst (λ (ys : List HandDeed). In e ys) none j)
  greatest_last l (x ∷ xs) f h a d e b (inr i) (inl r) =
      subst (λ (y : HandDeed). y.local_left.last ≤ d.local_left.last) (sym r)
      (at_member (λ (y : HandDeed). x.local_left.last ≤ y.local_left.last) d xs (rising x.local_left xs f.1 h.1) i)
  greatest_last l (x ∷ xs) f h a d e b (inr i) (inr j) = greatest_last x.local_left xs f.1 h.1 a.1 d e b i j

  module _ (c : State (Stamped Hand) (Stamped Held)) (made : List HandDeed) (line : LinesUp c made) (each : Each IsMade made)
      (alone : (t : ℕ) → EndsAlone (of_thread t made)) where
    -- no deed of the thread has a greater stamp than one that uses no object
    none_later : (d e : HandDeed) → In d made → In e made → e.call.thread ≡ d.call.thread → desk < d.call.place → e.local_left.last ≤ d.local_left.last
    none_later d e i j same b =
        let t = d.call.thread in
        let is_its = λ (x : HandDeed). x.call.thread == t in
        greatest_last (c.local t) (of_thread t made) (line.locals t)
        (all_members IsMade (of_thread t made) (λ x k. at_member IsMade x made each (filter_in is_its x made k).0))
        (alone t) d e b (in_filter is_its d made i (eq-eqb d.call.thread t refl)) (in_filter is_its e made j (eq-eqb e.call.thread t same))

    nothing_follows : (d e : HandDeed) → In d made → In e made → desk < d.call.place → Before hand_stamp d e → e.told.entry.tid ≡ d.told.entry.tid → ⊥
    nothing_follows d e i j b before same =
        let thread : e.call.thread ≡ d.call.thread = sym (thread_of_deed file limits era e (at_member IsMade e made each j))
        ∙ (same ∙ thread_of_deed file limits era d (at_member IsMade d made each i)) in
        let most = none_later d e i j thread b in
        elim before [
          | inl l ↦ omega (arith, l, most)
          | inr q ↦ let less = q.1 in omega (arith, thread, less)
        ]

    ends_here : (d : HandDeed) (ds : List HandDeed) → In d made → Each (λ (e : HandDeed). In e made) ds → Each (Before hand_stamp d) ds →
        desk < d.call.place → Each (λ (f : Entry). f.tid ≡ d.told.entry.tid → f.steps ≡ 0) (entries_of ds)
    ends_here d [] i js bs b = tt
    ends_here d (e ∷ ds) i js bs b = (λ same. absurd (nothing_follows d e i js.0 b bs.0 same), ends_here d ds i js.1 bs.1 b)

    pub parts_end : (ds : List HandDeed) → Each (λ (e : HandDeed). In e made) ds → IsSorted hand_stamp ds → PartsEnd ds
    parts_end [] js o = tt
    parts_end (d ∷ ds) js o = (λ some b. ends_here d ds js.0 js.1 o.0 b, parts_end ds js.1 o.1)

    pub parts_of_listed : (listed : List HandDeed) → IsPermutation made listed → IsSorted hand_stamp listed → PartsEnd listed
    parts_of_listed listed p o = parts_end listed (all_members (λ (e : HandDeed). In e made) listed (λ e i. (same_members made listed p e).1 i)) o
