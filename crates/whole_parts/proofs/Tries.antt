-- A turn of the desk that found no free slot: the history's queue was empty, no earlier than behind the thread's last entry there.
use Rattle.std.proofs.Common.{◌≡◌, ◌<◌, ◌≤◌, ℕ, zero, suc, ◌+◌, false, List, [], ◌∷◌, ◌++◌, length, take, Some, inl, inr, refl, sym, ap, subst, ◌∙◌, arith, eq-eqb}
use Rattle.std.specs.Prelude.{◌==◌, slice_get, Ok}
use Rattle.std.proofs.lemmas.Bool.{cases_eq, cases_lt}
use Rattle.run_record.specs.declared.entry.Entry.{Entry}
use Rattle.run_record.specs.declared.limits.Limits.{Limits}
use Rattle.elf_image.specs.File.{image_of}
use Rattle.run_laws.specs.Moments.{moments_in}
use Rattle.run_laws.specs.Present.{queue_now}
use Rattle.run_laws.specs.Faithful.{AtOnce, state_after, state_before, object_of}
use Rattle.run_laws.specs.Rounds.{Progress, MayFindNone}
use Rattle.bare_machine.specs.Step.{desk}
use Rattle.turn_orders.specs.Lists.{In}
use Rattle.turn_orders.specs.Machine.{State}
use Rattle.turn_orders.specs.LineUp.{Stamped, Before, IsSorted}
use Rattle.turn_orders.proofs.Members.{at_member, each_parts}
use Rattle.turn_laws.proofs.AlikeLaw.{queue-alike}
use Rattle.joint_turns.specs.Joint.{Value}
use Rattle.watched_turns.specs.Turns.{Local}
use Rattle.watched_turns.specs.Along.{StampedDeed}
use Rattle.turn_histories.specs.Entries.{IsPlaceOf}
use Rattle.turn_histories.proofs.Made.{Facts}
use Rattle.turn_histories.proofs.Found.{ZipAt, each_fact, place_is}
use Rattle.shared_table.specs.declared.object.Object.{Object}
use Rattle.shared_table.specs.declared.view.Layout.{Layout}
use Rattle.shared_table.specs.declared.view.Item.TheVariants.{Give}
use Rattle.shared_table.specs.Layouts.{objects_of}
use Rattle.shared_table.specs.Past.{Past, log_of}
use Rattle.woven_turns.specs.Steps.{Stands}
use Rattle.woven_turns.specs.Weave.{IsTagged, weave, WasTold}
use Rattle.woven_turns.specs.Turns.{DrewStamp, PlaceInList}
use Rattle.woven_turns.specs.Following.{left_after, deed_of, deeds_of, call_of}
use Rattle.turn_orders.specs.Machine.{next}
use Rattle.woven_turns.proofs.Weaving.{in_parts, woven_told}
use Rattle.woven_turns.proofs.Items.{item_in_log}
use Rattle.woven_turns.proofs.Standing.{stands_more, lawful_at}
use Rattle.woven_turns.proofs.Placing.{place_in_list}
use Rattle.deed_histories.specs.Lines.{acts_of, entries_of, stamped_turn}
use Rattle.deed_histories.specs.Rounds.{hand_stamp}
use Rattle.table_deeds.specs.Objects.{ObjectDeed, hand_deeds, hand_deed, slots_in, last_in, held_at}
use Rattle.table_deeds.specs.Rounds.{TableRound, made_in, IsTableRound}
use Rattle.table_deeds.proofs.Left.{value_left_is}
use Rattle.table_deeds.proofs.Listing.{thread_of_deed}
use Rattle.whole_parts.proofs.Standing.{bare, Stood, turns, facts}
use Rattle.whole_parts.proofs.Listed.{Objects, Is, listed, entries_are, same, sorted, all_drew, listed_deeds, Goes, all_goes, first_goes, after_first}

-- ---- lists

pub in_of_get : {X : Type 0} (xs : List X) (j : ℕ) (x : X) → slice_get xs j ≡ Some x → In x xs
in_of_get [] j x q = absurd (cc)
in_of_get (y ∷ ys) zero x q = inl (let r : y ≡ x = cc in sym r)
in_of_get (y ∷ ys) (suc j) x q = inr (in_of_get ys j x q)

not_before : (d : ObjectDeed) → Before hand_stamp d d → ⊥
not_before d (inl l) = omega arith
not_before d (inr q) = (let l = q.1 in omega arith)

-- a deed of the front stands there only
stands_in_front : (front back : List ObjectDeed) (j : ℕ) (d : ObjectDeed) → slice_get (front ++ back) j ≡ Some d → In d front →
    IsSorted hand_stamp (front ++ back) → j < length front
stands_in_front [] back j d q i s = absurd i
stands_in_front (x ∷ front) back zero d q i s = omega arith
stands_in_front (x ∷ front) back (suc j) d q (inl e) s =
    let after = at_member (Before hand_stamp x) d (front ++ back) s.0 (in_of_get (front ++ back) j d q) in
    absurd (not_before d (subst (λ (y : ObjectDeed). Before hand_stamp y d) (sym e) after))
stands_in_front (x ∷ front) back (suc j) d q (inr i) s = (let l = stands_in_front front back j d q i s.1 in omega (arith, l))

-- a turn that left its object as it found it has no deed
no_deed : (k i : ℕ) (x : Object) (d : ObjectDeed) (ds : List ObjectDeed) → IsTagged (Give k i x x) ds → In d ds → DrewStamp hand_stamp last_in d → ⊥
no_deed k i x d [] tagged in_ drawn = in_
no_deed k i x d (e ∷ []) tagged (inr j) drawn = j
no_deed k i x d (e ∷ []) tagged (inl q) drawn =
    let found : d.found ≡ x = ap (λ (y : ObjectDeed). y.found) q ∙ tagged.1 in
    let left : d.left ≡ x = ap (λ (y : ObjectDeed). y.left) q ∙ tagged.2 in
    let a = drawn.above_value in
    let b = drawn.same in
    let f = ap last_in found in
    let l = ap last_in left in
    omega (arith, a, b, f, l)
no_deed k i x d (e ∷ (y ∷ ds)) tagged in_ drawn = tagged

module _ (file : List ℕ) (limits : Limits) where
  -- the first entries are those of the front
  front_entries : (front back : List ObjectDeed) →
      take (length front) (entries_of (hand_deeds file limits (front ++ back))) ≡ entries_of (hand_deeds file limits front)
  front_entries [] back = refl
  front_entries (x ∷ front) back = ap (λ (es : List Entry). x.told.entry ∷ es) (front_entries front back)

  front_long : (front back : List ObjectDeed) → length front ≤ length (entries_of (hand_deeds file limits (front ++ back)))
  front_long [] back = omega arith
  front_long (x ∷ front) back = (let l = front_long front back in omega (arith, l))

  -- the deed of an entry, and what is known of its turn
  record At (P : ℕ → StampedDeed → Entry → Type 0) (n : ℕ) (ds : List ObjectDeed) (j : ℕ) (e : Entry) : Type 0 where
    deed : ObjectDeed
    at : slice_get ds j ≡ Some deed
    entry : deed.told.entry ≡ e
    turn : StampedDeed
    place : turn.call.place ≡ deed.call.place
    holds : P (n + j) turn e

  zip_get : (P : ℕ → StampedDeed → Entry → Type 0) (n : ℕ) (m : State (Stamped Local) (Stamped Value)) (ds : List ObjectDeed) →
      ZipAt P n (deeds_of (stamped_turn file limits) acts_of m (hand_deeds file limits ds)) (entries_of (hand_deeds file limits ds)) →
      (j : ℕ) (e : Entry) → slice_get (entries_of (hand_deeds file limits ds)) j ≡ Some e → At P n ds j e
  zip_get P n m [] z j e q = absurd (cc)
  zip_get P n m (d ∷ ds) z zero e q =
      let same : d.told.entry ≡ e = cc in
      let first : StampedDeed = deed_of (stamped_turn file limits) m
      (call_of (stamped_turn file limits) acts_of (hand_deed file limits d)) in
      let i : n ≡ n + 0 = omega arith in
      record { deed = d; at = refl; entry = same; turn = first; place = refl; holds = subst (λ (k : ℕ). P k first e) i (subst (P n first) same z.0) }
  zip_get P n m (d ∷ ds) z (suc j) e q =
      let rest = zip_get P (suc n) (next (stamped_turn file limits) m (call_of (stamped_turn file limits) acts_of (hand_deed file limits d))) ds z.1 j e q in
      let i : suc n + j ≡ n + suc j = omega arith in
      record {
        deed = rest.deed;
        at = rest.at;
        entry = rest.entry;
        turn = rest.turn;
        place = rest.place;
        holds = subst (λ (k : ℕ). P k rest.turn e) i rest.holds;
      }

  module _ (ok : image_of file ≡ Ok file) (lay : Layout) (p : Progress) (m : Objects file limits) (r : TableRound)
      (h : IsTableRound file limits lay p.round p.era m r) (s : Stood file limits (held_at file limits m) p.round p.era p.entries) where
    abbrev list : List ObjectDeed
    list = listed file limits lay p.round p.era m r h

    abbrev es : List Entry
    es = entries_of (hand_deeds file limits list)

    abbrev PlacedAt : ℕ → StampedDeed → Entry → Type 0
    PlacedAt i d e = Facts file limits.harts (state_before (bare file limits) (p.entries ++ es) i) e e.tid d.call.place

    all : Goes file limits lay p.round p.era m r h list
    all = all_goes file limits lay p.round p.era m r h

    each : ZipAt PlacedAt (length p.entries)
        (turns file limits ok (held_at file limits m) p.round p.era p.entries s (hand_deeds file limits list) all.line all.made all.inside) es
    each = each_fact file limits.harts (state_after (bare file limits) p.entries)
        (turns file limits ok (held_at file limits m) p.round p.era p.entries s (hand_deeds file limits list) all.line all.made all.inside) p.entries es refl
        (facts file limits ok (held_at file limits m) p.round p.era p.entries s (hand_deeds file limits list) all.line all.made all.inside)

    -- an entry that used an object is of a deed at that object
    record IsOf (j : ℕ) (e : Entry) (k : ℕ) : Type 0 where
      deed : ObjectDeed
      at : slice_get list j ≡ Some deed
      thread : deed.call.thread ≡ e.tid
      place : deed.call.place ≡ k

    deed_at : (j : ℕ) (e : Entry) (k : ℕ) → slice_get r.entries j ≡ Some e →
        object_of (bare file limits) (state_before (bare file limits) (p.entries ++ r.entries) (length p.entries + j)) e ≡ Some k → IsOf j e k
    deed_at j e k q o =
        let are = entries_are file limits lay p.round p.era m r h in
        let it = zip_get PlacedAt (length p.entries) s.watched list each j e (ap (λ (xs : List Entry). slice_get xs j) are ∙ q) in
        let w = state_before (bare file limits) (p.entries ++ r.entries) (length p.entries + j) in
        let f = subst (λ (xs : List Entry). Facts file limits.harts
        (state_before (bare file limits) (p.entries ++ xs) (length p.entries + j)) e e.tid it.turn.call.place) are it.holds in
        let at_k = subst (IsPlaceOf it.turn.call.place e.tid) o (place_is file limits.harts w e it.turn.call.place f) in
        let made = at_member (Is file limits p.era) it.deed list (listed_deeds file limits lay p.round p.era m r h) (in_of_get list j it.deed it.at) in
        record {
          deed = it.deed;
          at = it.at;
          thread = sym (thread_of_deed file limits p.era (hand_deed file limits it.deed) made) ∙ ap (λ (x : Entry). x.tid) it.entry;
          place = sym it.place ∙ at_k.0;
        }

    module _ (n i t : ℕ) (found : Object) (made : Past) (st : Stands r.late made (n, Give desk i found found))
        (last : length (log_of n r.late) ≡ length (log_of n made) + 1) (seat : r.seat t ≡ n) where
      place : PlaceInList m r.tag made list desk found
      place = place_in_list r.tag lay m r.early r.late made r.seat r.alone h.lawful h.worked hand_stamp last_in list n desk i found found
          (each_parts (DrewStamp hand_stamp last_in) (weave r.tag r.late) r.alone (all_drew file limits lay p.round p.era m r h)).0
          (sorted file limits lay p.round p.era m r h) (same file limits lay p.round p.era m r h) st

      abbrev k : ℕ
      k = length place.front

      whole_entries : entries_of (hand_deeds file limits (place.front ++ place.back)) ≡ r.entries
      whole_entries = ap (λ (ds : List ObjectDeed). entries_of (hand_deeds file limits ds)) (sym place.whole) ∙ entries_are file limits lay p.round p.era m r h

      first_entries : entries_of (hand_deeds file limits place.front) ≡ take k r.entries
      first_entries = sym (front_entries place.front place.back) ∙ ap (take k) whole_entries

      stood_there : Stood file limits (held_at file limits (left_after m place.front)) p.round p.era
          (p.entries ++ entries_of (hand_deeds file limits place.front))
      stood_there = after_first file limits lay p.round p.era m r h ok p.entries s place.front
          (first_goes file limits lay p.round p.era m r h place.front place.back place.whole)

      there : (left_after m place.front).value desk ≡ found
      there = value_left_is m desk place.front ∙ place.value

      -- the history's queue after the first entries is that of the desk which the try found
      queue_is : queue_now limits.epochs limits.slots (moments_in p.round p.era (p.entries ++ take k r.entries)) ≡ (slots_in limits found).queue
      queue_is =
          ap (λ (xs : List Entry). queue_now limits.epochs limits.slots (moments_in p.round p.era (p.entries ++ xs))) (sym first_entries)
          ∙ (sym (queue-alike limits.epochs limits.slots stood_there.history
          (moments_in p.round p.era (p.entries ++ entries_of (hand_deeds file limits place.front))) stood_there.alike)
          ∙ (sym stood_there.stands.standing.kept.desk.desk.same_queue
          ∙ ap (λ (x : Object). (slots_in limits x).queue) there))

      objects : desk < objects_of lay
      objects = (lawful_at lay (r.late ++ r.early) (made ++ r.early) (n, Give desk i found found) h.lawful
          (stands_more r.late r.early made (n, Give desk i found found) st)).0.0

      -- the seat is the thread's, and the last item of its log has no deed
      its_seat : (d : ObjectDeed) (x j : ℕ) → In d (r.tag x j) → d.call.thread ≡ t → x ≡ n
      its_seat d x j told is = elim (cases_eq x n) [
        | inl e ↦ e
        | inr ne ↦ absurd (
            let other = (h.worked.seats t).others x j (λ q. ne (q ∙ seat)) in
            let no = at_member (λ (y : ObjectDeed). (y.call.thread == t) ≡ false) d (r.tag x j) other told in
            let yes = eq-eqb d.call.thread t is in
            cc)
      ]

      before_last : (d : ObjectDeed) (j : ℕ) → DrewStamp hand_stamp last_in d → In d (r.tag n j) → j < length (log_of n r.late) → j < length (log_of n made)
      before_last d j drawn told below = elim (cases_lt j (length (log_of n made))) [
        | inl l ↦ l
        | inr le ↦ absurd (
            let e : j ≡ length (log_of n made) = omega (arith, le, below, last) in
            no_deed desk i found d (r.tag n (length (log_of n made)))
            (h.worked.tagged n (length (log_of n made)) (Give desk i found found) (item_in_log r.late made n (Give desk i found found) st))
            (subst (λ (x : ℕ). In d (r.tag n x)) e told) drawn)
      ]

      told_before : (d : ObjectDeed) → In d (made_in r) → d.call.thread ≡ t → d.call.place ≡ desk → WasTold r.tag made d
      told_before d i_ is at = elim (in_parts d (weave r.tag r.late) r.alone i_) [
        | inl j ↦
            let w = woven_told r.tag d r.late j in
            let same_seat = its_seat d w.seat w.index w.told is in
            let drawn = at_member (DrewStamp hand_stamp last_in) d (made_in r) (all_drew file limits lay p.round p.era m r h) i_ in
            let told = subst (λ (x : ℕ). In d (r.tag x w.index)) same_seat w.told in
            let below = subst (λ (x : ℕ). w.index < length (log_of x r.late)) same_seat w.within in
            record { seat = n; index = w.index; within = before_last d w.index drawn told below; told = told }
        | inr j ↦ absurd (
            let far = at_member (λ (y : ObjectDeed). objects_of lay ≤ y.call.place) d r.alone h.worked.private j in
            let near = objects in omega (arith, far, near, at))
      ]

      -- The thread may find no slot: the queue was empty after the first k entries, and its own entries at the desk are among these.
      pub may_find_none : (slots_in limits found).queue ≡ [] → MayFindNone AtOnce limits (bare file limits) p r.entries t
      may_find_none none = (
        k,
        subst (λ (xs : List Entry). k ≤ length xs) whole_entries (front_long place.front place.back),
        queue_is ∙ none,
        (λ j e q is o.
            let it = deed_at j e desk q o in
            let in_made = (same file limits lay p.round p.era m r h it.deed).1 (in_of_get list j it.deed it.at) in
            let told = told_before it.deed in_made (it.thread ∙ is) it.place in
            stands_in_front place.front place.back j it.deed
            (ap (λ (ds : List ObjectDeed). slice_get ds j) (sym place.whole) ∙ it.at)
            (place.none_missing it.deed told it.place)
            (subst (IsSorted hand_stamp) place.whole (sorted file limits lay p.round p.era m r h))),
      )
