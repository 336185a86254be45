-- The merged logs of a round's workers list its deeds.
use Rattle.std.proofs.Common.{◌≡◌, ◌≢◌, ◌<◌, ℕ, suc, List, [], ◌∷◌, ◌++◌, length, inl, inr, refl, sym, ap, subst, ◌∙◌, arith, eq-eqb, ne_eqb}
use Rattle.std.specs.Prelude.{◌==◌, flat_map, IsPermutation, AllPairs, slice_index_or}
use Rattle.std.specs.List.Sorted.{apply_swaps, SwapsInRange}
use Rattle.std.proofs.lemmas.List.{map-append, length-map}
use Rattle.std.proofs.lemmas.List.Sorted.{IsPermutation-refl, IsPermutation-sym, IsPermutation-trans}
use Rattle.std.proofs.lemmas.List.Sorted.{IsPermutation-cons, IsPermutation-append_right, IsPermutation-middle}
use Rattle.run_record.specs.declared.entry.Entry.{Entry}
use Rattle.run_record.specs.declared.limits.Limits.{Limits}
use Rattle.run_record.specs.Order.{Precedes, AreOrdered, entries_in}
use Rattle.watched_turns.specs.Turns.{Act}
use Rattle.turn_orders.specs.Lists.{Each, In, InOrder}
use Rattle.turn_orders.specs.LineUp.{of_thread, Before, IsSorted}
use Rattle.turn_orders.proofs.Members.{at_member, all_members, filter_here, filter_not}
use Rattle.turn_orders.proofs.Permuted.{same_members}
use Rattle.placed_detector.specs.Standing.{Hand, Held}
use Rattle.deed_histories.specs.Deeds.{IsDeed, Takes, Leaves, Makes}
use Rattle.deed_histories.specs.Lines.{HandDeed, IsHandDeed, entries_of}
use Rattle.deed_histories.specs.Rounds.{hand_stamp}
use Rattle.deed_histories.proofs.Permuted.{map_swaps}
use Rattle.table_deeds.specs.Listing.{AreApart, logs_of, IsListed}

-- ---- the deeds, thread by thread

abbrev parts : List ℕ → List HandDeed → List HandDeed
parts ts ds = flat_map (λ (t : ℕ). of_thread t ds) ts

no_parts : (ts : List ℕ) → parts ts [] ≡ []
no_parts [] = refl
no_parts (t ∷ ts) = no_parts ts

of_other : (d : HandDeed) (ds : List HandDeed) (t : ℕ) → d.call.thread ≢ t → of_thread t (d ∷ ds) ≡ of_thread t ds
of_other d ds t ne = filter_not (λ (e : HandDeed). e.call.thread == t) d ds (ne_eqb d.call.thread t ne)

of_others : (d : HandDeed) (ds : List HandDeed) (ts : List ℕ) → Each (λ (t : ℕ). d.call.thread ≢ t) ts → parts ts (d ∷ ds) ≡ parts ts ds
of_others d ds [] h = refl
of_others d ds (t ∷ ts) h =
    ap (λ (xs : List HandDeed). xs ++ parts ts (d ∷ ds)) (of_other d ds t h.0)
    ∙ ap (λ (xs : List HandDeed). of_thread t ds ++ xs) (of_others d ds ts h.1)

in_its_part : (d : HandDeed) (ds : List HandDeed) (ts : List ℕ) → In d.call.thread ts → AreApart ts → IsPermutation (d ∷ parts ts ds) (parts ts (d ∷ ds))
in_its_part d ds [] i o = absurd i
in_its_part d ds (t ∷ ts) (inl e) o =
    let apart = subst (λ (n : ℕ). Each (λ (u : ℕ). n ≢ u) ts) (sym e) o.0 in
    let whole : parts (t ∷ ts) (d ∷ ds) ≡ d ∷ parts (t ∷ ts) ds =
    ap (λ (xs : List HandDeed). xs ++ parts ts (d ∷ ds)) (filter_here (λ (f : HandDeed). f.call.thread == t) d ds (eq-eqb d.call.thread t e))
    ∙ ap (λ (xs : List HandDeed). d ∷ (of_thread t ds ++ xs)) (of_others d ds ts apart) in
    subst (λ (xs : List HandDeed). IsPermutation (d ∷ parts (t ∷ ts) ds) xs) (sym whole) (IsPermutation-refl (d ∷ parts (t ∷ ts) ds))
in_its_part d ds (t ∷ ts) (inr i) o =
    let other : t ≢ d.call.thread = at_member (λ (u : ℕ). t ≢ u) d.call.thread ts o.0 i in
    let own = of_thread t ds in
    let front = IsPermutation-sym (own ++ (d ∷ parts ts ds)) (d ∷ (own ++ parts ts ds)) (IsPermutation-middle own d (parts ts ds)) in
    let back = IsPermutation-append_right own (d ∷ parts ts ds) (parts ts (d ∷ ds)) (in_its_part d ds ts i o.1) in
    subst (λ (xs : List HandDeed). IsPermutation (d ∷ (own ++ parts ts ds)) (xs ++ parts ts (d ∷ ds))) (sym (of_other d ds t (λ q. other (sym q))))
    (IsPermutation-trans (d ∷ (own ++ parts ts ds)) (own ++ (d ∷ parts ts ds)) (own ++ parts ts (d ∷ ds)) front back)

all_parts : (ts : List ℕ) (ds : List HandDeed) → AreApart ts → Each (λ (d : HandDeed). In d.call.thread ts) ds → IsPermutation ds (parts ts ds)
all_parts ts [] o h = subst (λ (xs : List HandDeed). IsPermutation [] xs) (sym (no_parts ts)) (IsPermutation-refl [])
all_parts ts (d ∷ ds) o h =
    IsPermutation-trans (d ∷ ds) (d ∷ parts ts ds) (parts ts (d ∷ ds)) (IsPermutation-cons d ds (parts ts ds) (all_parts ts ds o h.1))
    (in_its_part d ds ts h.0 o)

entries_in_parts : (ts : List ℕ) (ds : List HandDeed) → entries_in (logs_of ts ds) ≡ entries_of (parts ts ds)
entries_in_parts [] ds = refl
entries_in_parts (t ∷ ts) ds =
    ap (λ (es : List Entry). entries_of (of_thread t ds) ++ es) (entries_in_parts ts ds)
    ∙ sym (map-append (λ (d : HandDeed). d.told.entry) (of_thread t ds) (parts ts ds))

-- ---- in order

each_at : {X : Type 0} (P : X → Type 0) (xs : List X) (d : X) → ((j : ℕ) → j < length xs → P (slice_index_or xs j d)) → Each P xs
each_at P [] d f = tt
each_at P (x ∷ xs) d f = (f 0 (omega arith), each_at P xs d (λ j l. f (suc j) (omega arith)))

in_order : {X : Type 0} (R : X → X → Type 0) (xs : List X) → AllPairs R xs → InOrder R xs
in_order R [] a = tt
in_order R (x ∷ xs) a = (
  each_at (R x) xs x (λ j l. a 0 (suc j) x (omega arith) (omega arith)),
  in_order R xs (λ i j d lt l. a (suc i) (suc j) d (omega arith) (omega arith)),
)

module _ (file : List ℕ) (limits : Limits) (era : ℕ) where
  its_thread : (t k : ℕ) (found left : Hand) (place_found place_left : Held) (e : Entry) (acts : List Act) →
      IsDeed file limits era t k found left place_found place_left e acts → e.tid ≡ t
  its_thread t k found left place_found place_left e acts (Takes label at takes tells) = tells.thread
  its_thread t k found left place_found place_left e acts (Leaves label at leaves same tells) = tells.thread
  its_thread t k found left place_found place_left e acts (Makes xs made tells) = tells.thread

  pub thread_of_deed : (d : HandDeed) → IsHandDeed file limits era d → d.told.entry.tid ≡ d.call.thread
  thread_of_deed d h =
      its_thread d.call.thread d.call.place d.local_found.state d.local_left.state d.found.state d.left.state d.told.entry d.told.acts h.deed

  before : (d e : HandDeed) → IsHandDeed file limits era d → IsHandDeed file limits era e → Precedes d.told.entry e.told.entry → Before hand_stamp d e
  before d e hd he (inl l) = inl (grind (arith, l, hd.entry_stamp, he.entry_stamp))
  before d e hd he (inr q) = inr (
    sym hd.entry_stamp ∙ (q.0 ∙ he.entry_stamp),
    grind (arith, q.1, thread_of_deed d hd, thread_of_deed e he),
  )

  before_each : (d : HandDeed) (ds : List HandDeed) → IsHandDeed file limits era d → Each (IsHandDeed file limits era) ds →
      Each (Precedes d.told.entry) (entries_of ds) → Each (Before hand_stamp d) ds
  before_each d [] hd h p = tt
  before_each d (e ∷ ds) hd h p = (before d e hd h.0 p.0, before_each d ds hd h.1 p.1)

  sorted_deeds : (ds : List HandDeed) → Each (IsHandDeed file limits era) ds → InOrder Precedes (entries_of ds) → IsSorted hand_stamp ds
  sorted_deeds [] h o = tt
  sorted_deeds (d ∷ ds) h o = (before_each d ds h.0 h.1 o.0, sorted_deeds ds h.1 o.1)

  pub listing : (ds : List HandDeed) (threads : List ℕ) (es : List Entry) → Each (IsHandDeed file limits era) ds → AreApart threads →
      Each (λ (d : HandDeed). In d.call.thread threads) ds → IsPermutation (entries_in (logs_of threads ds)) es → AreOrdered es → IsListed ds es
  listing ds threads es h o known p ordered =
      let entry_in : HandDeed → Entry = λ d. d.told.entry in
      let all = parts threads ds in
      let list = apply_swaps all p.moves in
      let long : length (entries_in (logs_of threads ds)) ≡ length all =
      ap (λ (l : List Entry). length l) (entries_in_parts threads ds) ∙ length-map all entry_in in
      let moved : IsPermutation all list = record { moves = p.moves; below = subst (λ (n : ℕ). SwapsInRange n p.moves) long p.below; is = refl } in
      let permuted : IsPermutation ds list = IsPermutation-trans ds all list (all_parts threads ds o known) moved in
      let same : entries_of list ≡ es = map_swaps entry_in all p.moves
      ∙ (ap (λ (l : List Entry). apply_swaps l p.moves) (sym (entries_in_parts threads ds)) ∙ sym p.is) in
      let each = all_members (IsHandDeed file limits era) list (λ d i. at_member (IsHandDeed file limits era) d ds h ((same_members ds list permuted d).1 i)) in
      record {
        listed = list;
        permuted = permuted;
        entries = same;
        sorted = sorted_deeds list each (subst (InOrder Precedes) (sym same) (in_order Precedes es ordered));
      }
