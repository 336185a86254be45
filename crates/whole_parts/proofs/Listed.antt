-- A round at the table as its entries list it: what stands after all of them, and after the first ones.
use Rattle.std.proofs.Common.{◌≡◌, ℕ, ◌+◌, Bool, cond, List, [], ◌∷◌, ◌++◌, refl, sym, ap, subst, ◌∙◌, arith}
use Rattle.std.specs.Prelude.{◌==◌, IsPermutation, Ok}
use Rattle.std.specs.List.Sorted.{apply_swaps, SwapsInRange}
use Rattle.std.proofs.lemmas.List.{length-map}
use mathlib.Core.Path.{fun_ext}
use Rattle.run_record.specs.declared.entry.Entry.{Entry}
use Rattle.run_record.specs.declared.limits.Limits.{Limits}
use Rattle.elf_image.specs.File.{image_of}
use Rattle.turn_orders.specs.Lists.{Each, SameMembers}
use Rattle.turn_orders.specs.Machine.{State}
use Rattle.turn_orders.specs.LineUp.{Deed, Stamped, of_thread, of_place, LocalsFollow, ValuesFollow, last_local, last_value, Before, IsSorted}
use Rattle.turn_orders.proofs.Members.{at_member, all_members, each_append, each_parts, filter_append}
use Rattle.turn_orders.proofs.Permuted.{same_members}
use Rattle.turn_histories.specs.Rounds.{IsIn}
use Rattle.shared_table.specs.declared.object.Object.{Object}
use Rattle.shared_table.specs.declared.view.Layout.{Layout}
use Rattle.woven_turns.specs.Weave.{LinesUp, weave}
use Rattle.woven_turns.specs.Turns.{DrewStamp}
use Rattle.woven_turns.specs.Following.{left_after}
use Rattle.woven_turns.proofs.Weaving.{woven_each, round_line}
use Rattle.woven_turns.proofs.Sorting.{same_thread, same_place, sorted_line}
use Rattle.placed_detector.specs.Standing.{Hand, Held}
use Rattle.deed_histories.specs.Lines.{HandDeed, IsHandDeed, entries_of}
use Rattle.deed_histories.specs.Rounds.{hand_stamp, between}
use Rattle.deed_histories.proofs.Permuted.{map_swaps}
use Rattle.table_deeds.specs.Objects.{ObjectDeed, hand_deed, hand_deeds, last_in, held_at}
use Rattle.table_deeds.specs.Listing.{IsListed}
use Rattle.table_deeds.specs.Rounds.{TableRound, made_in, hands_in, last_stamp, IsTableRound}
use Rattle.table_deeds.proofs.Left.{local_left_is, value_left_is}
use Rattle.table_deeds.proofs.Lines.{lines_up, all_left}
use Rattle.table_deeds.proofs.Listing.{listing}
use Rattle.table_deeds.proofs.Rounds.{one_round}
use Rattle.whole_parts.proofs.Standing.{Stood, goes_on, next_stood}

-- ---- the first part of a line

module _ {L O A T : Type 0} where
  first_locals : (l : L) (xs ys : List (Deed L O A T)) → LocalsFollow l (xs ++ ys) → LocalsFollow l xs
  first_locals l [] ys f = tt
  first_locals l (x ∷ xs) ys f = (f.0, first_locals x.local_left xs ys f.1)

  first_values : (v : O) (xs ys : List (Deed L O A T)) → ValuesFollow v (xs ++ ys) → ValuesFollow v xs
  first_values v [] ys f = tt
  first_values v (x ∷ xs) ys f = (f.0, first_values x.left xs ys f.1)

  -- the first deeds of a line are a line
  pub first_part : (m : State L O) (xs ys : List (Deed L O A T)) → LinesUp m (xs ++ ys) → LinesUp m xs
  first_part m xs ys h = record {
    locals = λ t. first_locals (m.local t) (of_thread t xs) (of_thread t ys)
        (subst (LocalsFollow (m.local t)) (filter_append (λ (d : Deed L O A T). d.call.thread == t) xs ys) (h.locals t));
    values = λ k. first_values (m.value k) (of_place k xs) (of_place k ys)
        (subst (ValuesFollow (m.value k)) (filter_append (λ (d : Deed L O A T). d.call.place == k) xs ys) (h.values k));
  }

  -- the same deeds of each thread and at each place leave the same
  pub same_left : (m : State L O) (xs ys : List (Deed L O A T)) → ((t : ℕ) → of_thread t xs ≡ of_thread t ys) →
      ((k : ℕ) → of_place k xs ≡ of_place k ys) → left_after m xs ≡ left_after m ys
  same_left m xs ys threads places =
      let local : (t : ℕ) → (left_after m xs).local t ≡ (left_after m ys).local t =
      λ t. local_left_is m t xs ∙ (ap (last_local (m.local t)) (threads t) ∙ sym (local_left_is m t ys)) in
      let value : (k : ℕ) → (left_after m xs).value k ≡ (left_after m ys).value k =
      λ k. value_left_is m k xs ∙ (ap (last_value (m.value k)) (places k) ∙ sym (value_left_is m k ys)) in
      ap (λ (f : ℕ → L). record { local = f; value = (left_after m xs).value }) (fun_ext local)
      ∙ ap (λ (f : ℕ → O). record { local = (left_after m ys).local; value = f }) (fun_ext value)

module _ (file : List ℕ) (limits : Limits) where
  abbrev pub Objects : Type 0
  Objects = State (Stamped Hand) Object

  abbrev pub Is : ℕ → ObjectDeed → Type 0
  Is era d = IsHandDeed file limits era (hand_deed file limits d)

  pub each_hand : (P : HandDeed → Type 0) (ds : List ObjectDeed) → Each (λ (d : ObjectDeed). P (hand_deed file limits d)) ds →
      Each P (hand_deeds file limits ds)
  each_hand P [] h = tt
  each_hand P (d ∷ ds) h = (h.0, each_hand P ds h.1)

  pub hands_append : (xs ys : List ObjectDeed) →
      entries_of (hand_deeds file limits (xs ++ ys)) ≡ entries_of (hand_deeds file limits xs) ++ entries_of (hand_deeds file limits ys)
  hands_append [] ys = refl
  hands_append (x ∷ xs) ys = ap (λ (es : List Entry). x.told.entry ∷ es) (hands_append xs ys)

  of_hands : (P : HandDeed → Type 0) (ds : List ObjectDeed) → Each P (hand_deeds file limits ds) → Each (λ (d : ObjectDeed). P (hand_deed file limits d)) ds
  of_hands P [] h = tt
  of_hands P (d ∷ ds) h = (h.0, of_hands P ds h.1)

  before_each : (d : ObjectDeed) (ds : List ObjectDeed) → Each (Before hand_stamp (hand_deed file limits d)) (hand_deeds file limits ds) →
      Each (Before hand_stamp d) ds
  before_each d [] h = tt
  before_each d (e ∷ ds) h = (h.0, before_each d ds h.1)

  sorted_objects : (ds : List ObjectDeed) → IsSorted hand_stamp (hand_deeds file limits ds) → IsSorted hand_stamp ds
  sorted_objects [] h = tt
  sorted_objects (d ∷ ds) h = (before_each d ds h.0, sorted_objects ds h.1)

  -- a deed of a worker drew a stamp
  pub drew : (era : ℕ) (d : ObjectDeed) → Is era d → DrewStamp hand_stamp last_in d
  drew era d h = (let a = h.drawn in let b = h.left_there in record {
    same = b;
    above_local = grind (arith, a);
    above_value = grind (arith, a);
  })

  each_map : (P Q : ObjectDeed → Type 0) → ((d : ObjectDeed) → P d → Q d) → (ds : List ObjectDeed) → Each P ds → Each Q ds
  each_map P Q f [] h = tt
  each_map P Q f (d ∷ ds) h = (f d h.0, each_map P Q f ds h.1)

  module _ (lay : Layout) (round era : ℕ) (m : Objects) (r : TableRound) (h : IsTableRound file limits lay round era m r) where
    pub deeds : Each (Is era) (made_in r)
    deeds = each_append (Is era) (weave r.tag r.late) r.alone (woven_each r.tag (Is era) r.late h.deeds) h.last_deeds

    in_list : IsListed (hands_in file limits r) r.entries
    in_list = listing file limits era (hands_in file limits r) r.workers r.entries (each_hand (IsHandDeed file limits era) (made_in r) deeds)
        h.apart h.known h.merged h.ordered

    -- the round's deeds in the order of its entries
    pub listed : List ObjectDeed
    listed = apply_swaps (made_in r) in_list.permuted.moves

    hands_are : hand_deeds file limits listed ≡ in_list.listed
    unfolding listed in_list
    hands_are = map_swaps (hand_deed file limits) (made_in r) in_list.permuted.moves ∙ sym in_list.permuted.is

    pub entries_are : entries_of (hand_deeds file limits listed) ≡ r.entries
    entries_are = ap entries_of hands_are ∙ in_list.entries

    permuted : IsPermutation (made_in r) listed
    unfolding in_list listed
    permuted = record {
      moves = in_list.permuted.moves;
      below = subst (λ (n : ℕ). SwapsInRange n in_list.permuted.moves) (length-map (made_in r) (hand_deed file limits)) in_list.permuted.below;
      is = refl;
    }

    pub same : SameMembers (made_in r) listed
    same = same_members (made_in r) listed permuted

    pub sorted : IsSorted hand_stamp listed
    sorted = sorted_objects listed (subst (IsSorted hand_stamp) (sym hands_are) in_list.sorted)

    pub line : LinesUp m (made_in r)
    line = round_line r.tag lay m r.early r.late r.seat r.alone h.worked h.lawful

    pub all_drew : Each (DrewStamp hand_stamp last_in) (made_in r)
    all_drew = each_map (Is era) (DrewStamp hand_stamp last_in) (drew era) (made_in r) deeds

    pub threads_same : (t : ℕ) → of_thread t (made_in r) ≡ of_thread t listed
    threads_same = same_thread hand_stamp last_in m (made_in r) listed all_drew line sorted same

    listed_line : LinesUp m listed
    listed_line = sorted_line hand_stamp last_in m (made_in r) listed all_drew line sorted same

    pub listed_deeds : Each (Is era) listed
    listed_deeds = all_members (Is era) listed (λ d i. at_member (Is era) d (made_in r) deeds ((same d).1 i))

    inside : Each (IsIn round era) (entries_of (hand_deeds file limits listed))
    inside = subst (Each (IsIn round era)) (sym entries_are) h.inside

    -- what is asked of the first deeds of the list
    pub record Goes (ds : List ObjectDeed) : Type 0 where
      pub line : LinesUp (held_at file limits m) (hand_deeds file limits ds)
      pub made : Each (IsHandDeed file limits era) (hand_deeds file limits ds)
      pub inside : Each (IsIn round era) (entries_of (hand_deeds file limits ds))

    pub all_goes : Goes listed
    all_goes = record {
      line = lines_up file limits m listed listed_line;
      made = each_hand (IsHandDeed file limits era) listed listed_deeds;
      inside = inside;
    }

    pub first_goes : (front back : List ObjectDeed) → listed ≡ front ++ back → Goes front
    first_goes front back whole = record {
      line = lines_up file limits m front (first_part m front back (subst (LinesUp m) whole listed_line));
      made = each_hand (IsHandDeed file limits era) front (each_parts (Is era) front back (subst (Each (Is era)) whole listed_deeds)).0;
      inside = (each_parts (IsIn round era) (entries_of (hand_deeds file limits front)) (entries_of (hand_deeds file limits back))
          (subst (Each (IsIn round era)) (ap (λ (ds : List ObjectDeed). entries_of (hand_deeds file limits ds)) whole ∙ hands_append front back) inside)).0;
    }

    module _ (ok : image_of file ≡ Ok file) (done : List Entry) (s : Stood file limits (held_at file limits m) round era done) where
      -- what stands after the first deeds of the list
      pub after_first : (ds : List ObjectDeed) → Goes ds →
          Stood file limits (held_at file limits (left_after m ds)) round era (done ++ entries_of (hand_deeds file limits ds))
      after_first ds g =
          subst (λ (c : State (Stamped Hand) (Stamped Held)). Stood file limits c round era (done ++ entries_of (hand_deeds file limits ds)))
          (all_left file limits m ds)
          (goes_on file limits ok (held_at file limits m) round era done s (hand_deeds file limits ds) g.line g.made g.inside)

      -- and after all of them
      pub after_all : Stood file limits (held_at file limits (left_after m (made_in r))) round era (done ++ r.entries)
      after_all =
          let left : left_after m listed ≡ left_after m (made_in r) =
          same_left m listed (made_in r) (λ t. sym (threads_same t))
          (λ k. sym (same_place hand_stamp last_in m (made_in r) listed all_drew line sorted same k)) in
          subst (λ (x : Objects). Stood file limits (held_at file limits x) round era (done ++ r.entries)) left
          (subst (λ (es : List Entry). Stood file limits (held_at file limits (left_after m listed)) round era (done ++ es)) entries_are
          (after_first listed all_goes))

      next_held : between era (last_stamp r) r.ends (held_at file limits (left_after m (made_in r))) ≡ held_at file limits r.next
      next_held =
          let one = one_round file limits lay round era m r h in
          let c = held_at file limits m in
          sym (ap (λ (n : ℕ). between era n one.it.ends (left_after c one.it.made)) one.top_is
          ∙ (ap (λ (b : Bool). between era (last_stamp r) b (left_after c one.it.made)) one.ends_is
          ∙ (ap (λ (ds : List HandDeed). between era (last_stamp r) r.ends (left_after c ds)) one.made_is
          ∙ ap (between era (last_stamp r) r.ends) (all_left file limits m (made_in r)))))
          ∙ one.after_it

      -- and when the next round begins
      pub at_next : Stood file limits (held_at file limits r.next) (round + 1) (cond r.ends (era + 1) era) (done ++ r.entries)
      at_next =
          subst (λ (c : State (Stamped Hand) (Stamped Held)). Stood file limits c (round + 1) (cond r.ends (era + 1) era) (done ++ r.entries))
          next_held
          (next_stood file limits (held_at file limits (left_after m (made_in r))) round era (last_stamp r) (done ++ r.entries) r.ends after_all h.begun)
