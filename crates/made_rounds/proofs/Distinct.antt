-- The entries of a round's parts have each a stamp and a thread of their own.
use Rattle.std.proofs.Common.{◌≡◌, ◌≢◌, ◌<◌, ◌≤◌, ◌+◌, ℕ, Some, None, List, [], ◌∷◌, inl, sym, ap, subst, ◌∙◌, arith}
use Rattle.std.specs.Prelude.{map, Option, All, AllPairs}
use Rattle.std.proofs.lemmas.List.Elements.{All-cons}
use Rattle.std.proofs.lemmas.List.Kept.{AllPairs-cons}
use Rattle.run_record.specs.declared.entry.Entry.{Entry}
use Rattle.run_record.specs.declared.limits.Limits.{Limits}
use Rattle.run_record.specs.Order.{Precedes, AreOrdered, AreDistinct, entries_in}
use Rattle.turn_orders.specs.Lists.{Each, InOrder}
use Rattle.turn_orders.specs.LineUp.{Stamped, LocalsFollow, last_local}
use Rattle.turn_orders.proofs.Members.{at_member, each_append, order_append}
use Rattle.shared_table.specs.declared.object.Object.{Object}
use Rattle.shared_table.specs.declared.view.Layout.{Layout}
use Rattle.shared_table.specs.Layouts.{IsFirstStripe}
use Rattle.placed_detector.specs.Standing.{Hand}
use Rattle.deed_histories.specs.Lines.{entries_of, IsHandDeed}
use Rattle.table_deeds.specs.Objects.{ObjectDeed, hand_deed, hand_deeds}
use Rattle.table_deeds.specs.Listing.{AreApart}
use Rattle.table_deeds.proofs.Listing.{thread_of_deed}
use Rattle.hart_parts.specs.Parts.{Part, Rest, at_last_object, rest_entries, part_entries, rest_deed, IsRest, IsPart}
use Rattle.hart_parts.proofs.Rounds.{rises}
use Rattle.whole_parts.proofs.Dues.{all_of_each}
use Rattle.made_rounds.specs.Known.{IsSetUp}
use Rattle.made_rounds.proofs.Step.{each_more}
use Rattle.made_rounds.proofs.First.{private_last, private_is, stripe_private, stripe_there, some_low}

abbrev Differs : Entry → Entry → Type 0
Differs d e = (d.stamp ≡ e.stamp) × (d.tid ≡ e.tid) → ⊥

abbrev IsLess : Entry → Entry → Type 0
IsLess d e = d.stamp < e.stamp

order_more : {X : Type 0} (R S : X → X → Type 0) (xs : List X) → ((x y : X) → R x y → S x y) → InOrder R xs → InOrder S xs
order_more R S [] f h = tt
order_more R S (x ∷ xs) f h = (each_more (R x) (S x) xs (f x) h.0, order_more R S xs f h.1)

pairs_of : {X : Type 0} (R : X → X → Type 0) (xs : List X) → InOrder R xs → AllPairs R xs
pairs_of R [] h = λ i j d lt within. absurd (omega (arith, within))
pairs_of R (x ∷ xs) h = AllPairs-cons R x xs (all_of_each (R x) xs h.0) (pairs_of R xs h.1)

module _ (file : List ℕ) (limits : Limits) (lay : Layout) (first : Object) (up : IsSetUp file limits lay first) (era : ℕ) where
  abbrev IsMade : ObjectDeed → Type 0
  IsMade d = IsHandDeed file limits era (hand_deed file limits d)

  abbrev entries : List ObjectDeed → List Entry
  entries ds = entries_of (hand_deeds file limits ds)

  above : (l : Stamped Hand) (ds : List ObjectDeed) → LocalsFollow l ds → Each IsMade ds → Each (λ (e : Entry). l.last < e.stamp) (entries ds)
  above l [] f h = tt
  above l (d ∷ ds) f h =
      let same : l.last ≡ d.local_found.last = ap (λ (x : Stamped Hand). x.last) f.0 in
      let drawn = h.0.drawn in
      let stamp = h.0.entry_stamp in (
        grind (arith, same, drawn, stamp),
        each_more (λ (e : Entry). d.local_left.last < e.stamp) (λ (e : Entry). l.last < e.stamp) (entries ds) (λ e q. grind (arith, same, drawn, q))
            (above d.local_left ds f.1 h.1),
      )

  rising : (l : Stamped Hand) (ds : List ObjectDeed) → LocalsFollow l ds → Each IsMade ds → InOrder IsLess (entries ds)
  rising l [] f h = tt
  rising l (d ∷ ds) f h =
      let stamp = h.0.entry_stamp in (
        each_more (λ (e : Entry). d.local_left.last < e.stamp) (IsLess d.told.entry) (entries ds) (λ e q. grind (arith, stamp, q))
            (above d.local_left ds f.1 h.1),
        rising d.local_left ds f.1 h.1,
      )

  under : (l : Stamped Hand) (ds : List ObjectDeed) → LocalsFollow l ds → Each IsMade ds → Each (λ (e : Entry). e.stamp ≤ (last_local l ds).last) (entries ds)
  under l [] f h = tt
  under l (d ∷ ds) f h =
      let stamp = h.0.entry_stamp in
      let rise = rises file limits era d.local_left ds f.1 h.1 in
      (grind (arith, stamp, rise), under d.local_left ds f.1 h.1)

  threads : (t : ℕ) (ds : List ObjectDeed) → Each (λ (d : ObjectDeed). d.call.thread ≡ t) ds → Each IsMade ds → Each (λ (e : Entry). e.tid ≡ t) (entries ds)
  threads t [] mine h = tt
  threads t (d ∷ ds) mine h = (thread_of_deed file limits era (hand_deed file limits d) h.0 ∙ mine.0, threads t ds mine.1 h.1)

  -- ---- what was made without an object

  rest_is : (t : ℕ) (found : Stamped Hand) (r : Rest) → IsRest file limits era t found (Some r) → (r.entry.stamp ≡ found.last + 1) × (r.entry.tid ≡ t)
  rest_is t found r h =
      let o = stripe_there file limits lay first up 0 (some_low file limits lay first up) in
      let p = stripe_private file limits 0 o.0
      (subst (IsFirstStripe file limits 0) o.1 (up.laid_out.stripes 0 (some_low file limits lay first up))) in
      let low = private_last limits o.0 p in
      let made = h o.0 (private_is limits o.0 p) (omega (arith, low)) in
      (made.entry_stamp, thread_of_deed file limits era (hand_deed file limits (rest_deed t found o.0 r)) made)

  rest_above : (t : ℕ) (found : Stamped Hand) (o : Option Rest) → IsRest file limits era t found o →
      Each (λ (e : Entry). (found.last < e.stamp) × (e.tid ≡ t)) (rest_entries o)
  rest_above t found None h = tt
  rest_above t found (Some r) h =
      let is = rest_is t found r h in
      let stamp = is.0 in
      ((omega (arith, stamp), is.1), tt)

  rest_order : (o : Option Rest) → InOrder IsLess (rest_entries o)
  rest_order None = tt
  rest_order (Some r) = (tt, tt)

  -- ---- a part

  part_rises : (p : Part) → IsPart file limits era p → InOrder IsLess (part_entries file limits p)
  part_rises p is =
      let l = at_last_object p in
      order_append IsLess (entries p.deeds) (rest_entries p.rest) (rising p.before p.deeds is.follow is.deeds) (rest_order p.rest)
      (λ x y i j.
      let low = at_member (λ (e : Entry). e.stamp ≤ l.last) x (entries p.deeds) (under p.before p.deeds is.follow is.deeds) i in
      let high = (at_member (λ (e : Entry). (l.last < e.stamp) × (e.tid ≡ p.thread)) y (rest_entries p.rest) (rest_above p.thread l p.rest is.rest_is) j).0 in
      omega (arith, low, high))

  part_thread : (p : Part) → IsPart file limits era p → Each (λ (e : Entry). e.tid ≡ p.thread) (part_entries file limits p)
  part_thread p is =
      each_append (λ (e : Entry). e.tid ≡ p.thread) (entries p.deeds) (rest_entries p.rest) (threads p.thread p.deeds is.mine is.deeds)
      (each_more (λ (e : Entry). ((at_last_object p).last < e.stamp) × (e.tid ≡ p.thread)) (λ (e : Entry). e.tid ≡ p.thread) (rest_entries p.rest) (λ e q. q.1)
      (rest_above p.thread (at_last_object p) p.rest is.rest_is))

  -- no entry of the other parts is of that thread
  others : (t : ℕ) (ps : List Part) → Each (IsPart file limits era) ps → Each (λ (u : ℕ). t ≢ u) (map (λ (p : Part). p.thread) ps) →
      Each (λ (e : Entry). e.tid ≡ t → ⊥) (entries_in (map (part_entries file limits) ps))
  others t [] is apart = tt
  others t (p ∷ ps) is apart =
      each_append (λ (e : Entry). e.tid ≡ t → ⊥) (part_entries file limits p) (entries_in (map (part_entries file limits) ps))
      (each_more (λ (e : Entry). e.tid ≡ p.thread) (λ (e : Entry). e.tid ≡ t → ⊥) (part_entries file limits p)
      (λ e q z. apart.0 (sym z ∙ q)) (part_thread p is.0))
      (others t ps is.1 apart.1)

  in_order : (ps : List Part) → Each (IsPart file limits era) ps → AreApart (map (λ (p : Part). p.thread) ps) →
      InOrder Differs (entries_in (map (part_entries file limits) ps))
  in_order [] is apart = tt
  in_order (p ∷ ps) is apart =
      order_append Differs (part_entries file limits p) (entries_in (map (part_entries file limits) ps))
      (order_more IsLess Differs (part_entries file limits p) (λ x y l q. let same = q.0 in absurd (omega (arith, l, same))) (part_rises p is.0))
      (in_order ps is.1 apart.1)
      (λ x y i j q.
      at_member (λ (e : Entry). e.tid ≡ p.thread → ⊥) y (entries_in (map (part_entries file limits) ps)) (others p.thread ps is.1 apart.0) j
      (sym q.1 ∙ at_member (λ (e : Entry). e.tid ≡ p.thread) x (part_entries file limits p) (part_thread p is.0) i))

  -- the entries of each part are in order
  pub all_ordered : (ps : List Part) → Each (IsPart file limits era) ps → All AreOrdered (map (part_entries file limits) ps)
  all_ordered [] is = λ k d l. absurd (omega (arith, l))
  all_ordered (p ∷ ps) is =
      let es = part_entries file limits p in
      All-cons AreOrdered es (map (part_entries file limits) ps) (pairs_of Precedes es (order_more IsLess Precedes es (λ x y l. inl l) (part_rises p is.0)))
      (all_ordered ps is.1)

  pub distinct : (ps : List Part) → Each (IsPart file limits era) ps → AreApart (map (λ (p : Part). p.thread) ps) →
      AreDistinct (entries_in (map (part_entries file limits) ps))
  distinct ps is apart = pairs_of Differs (entries_in (map (part_entries file limits) ps)) (in_order ps is apart)
