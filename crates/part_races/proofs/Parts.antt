-- What the workers of a round told, sorted as the entries are, is what the deeds await as they are listed.
use Rattle.std.proofs.Common.{◌≡◌, ◌≤◌, inl, inr, ℕ, ◌+◌, Bool, cond, Option, None, Some, List, [], ◌∷◌, ◌++◌, refl, sym, ap, ap₂, subst, ◌∙◌, arith}
use Rattle.std.specs.Prelude.{◌==◌, map}
use Rattle.std.specs.List.{AllZip, flat_map}
use Rattle.std.proofs.lemmas.List.{map-append}
use Rattle.run_record.specs.declared.entry.Entry.{Entry}
use Rattle.run_record.specs.declared.limits.Limits.{Limits}
use Rattle.report_laws.specs.Awaited.{Awaited}
use Rattle.bare_machine.specs.Step.{desk}
use Rattle.turn_orders.specs.Lists.{Each, In}
use Rattle.turn_orders.specs.Machine.{State}
use Rattle.turn_orders.specs.LineUp.{Stamped, of_thread, Before, IsSorted}
use Rattle.turn_orders.proofs.Members.{at_member, all_members, filter_in}
use Rattle.turn_orders.proofs.Permuted.{same_members}
use Rattle.shared_table.specs.declared.object.Object.{Object}
use Rattle.shared_table.specs.declared.view.Layout.{Layout}
use Rattle.woven_turns.proofs.Weaving.{in_left, in_right}
use Rattle.placed_detector.specs.Standing.{Hand, Held}
use Rattle.deed_histories.specs.Lines.{HandDeed, IsHandDeed, entries_of}
use Rattle.deed_histories.specs.Rounds.{HandRound, hand_stamp, hands_after, AreHandRounds, listed_entries, top}
use Rattle.table_deeds.specs.Objects.{hand_deed, hand_deeds, last_in, held_at}
use Rattle.table_deeds.specs.Rounds.{hands_in, last_stamp}
use Rattle.table_deeds.proofs.Listing.{thread_of_deed}
use Rattle.table_deeds.proofs.Rounds as table
use Rattle.hart_parts.specs.Parts.{Part, Rest, at_last_object, rest_deeds}
use Rattle.hart_parts.specs.Rounds.{PartRound, IsPartRound, ArePartRounds, table_round}
use Rattle.hart_parts.proofs.Seats.{rest_of}
use Rattle.hart_parts.proofs.Rounds.{rises, part_is, begins, hands_of, part_of, round_is}
use Rattle.part_races.specs.Rounds.{Tagged, entries_tagged, TellsAwaited, TellsRest, TellsRaces, RoundAwaits, AllAwait}
use Rattle.part_races.proofs.Lists.{zip_in, in_either, in_one, same_place, same_first, same_rest}
use Rattle.part_races.proofs.Rounds.{ListedAwait, AllListed}

-- one of the deeds left the entry, and awaits what is told of it
record HasDeed (file : List ℕ) (limits : Limits) (era : ℕ) (ds : List HandDeed) (x : Tagged) : Type 0 where
  deed : HandDeed
  member : In deed ds
  tells : TellsAwaited file limits era deed x

module _ (file : List ℕ) (limits : Limits) (era : ℕ) where
  -- ---- which deed an entry is of

  not_before : (d e : HandDeed) → IsHandDeed file limits era d → IsHandDeed file limits era e → d.told.entry ≡ e.told.entry → Before hand_stamp d e → ⊥
  not_before d e hd he same (inl l) =
      let q = ap (λ (x : Entry). x.stamp) same in
      let a = hd.entry_stamp in
      let b = he.entry_stamp in
      omega (arith, l, q, a, b)
  not_before d e hd he same (inr p) =
      let q = ap (λ (x : Entry). x.tid) same in
      let a = thread_of_deed file limits era d hd in
      let b = thread_of_deed file limits era e he in
      let l = p.1 in
      omega (arith, l, q, a, b)

  same_deed : (all : List HandDeed) → IsSorted hand_stamp all → Each (IsHandDeed file limits era) all → (d e : HandDeed) → In d all → In e all →
      d.told.entry ≡ e.told.entry → d ≡ e
  same_deed all sorted made d e i j same =
      let hd = at_member (IsHandDeed file limits era) d all made i in
      let he = at_member (IsHandDeed file limits era) e all made j in
      same_place (Before hand_stamp) all sorted d e i j (not_before d e hd he same) (not_before e d he hd (sym same))

  -- the deeds of the list, in its order
  tagged_deeds : (all : List HandDeed) → IsSorted hand_stamp all → Each (IsHandDeed file limits era) all → (ds : List HandDeed) (xs : List Tagged) →
      ((d : HandDeed) → In d ds → In d all) → entries_of ds ≡ entries_tagged xs → ((x : Tagged) → In x xs → HasDeed file limits era all x) →
      AllZip (TellsAwaited file limits era) ds xs
  tagged_deeds all sorted made [] [] i e f = tt
  tagged_deeds all sorted made [] (x ∷ xs) i e f = absurd (cc)
  tagged_deeds all sorted made (d ∷ ds) [] i e f = absurd (cc)
  tagged_deeds all sorted made (d ∷ ds) (x ∷ xs) i e f =
      let its = f x (inl refl) in
      let first : d.told.entry ≡ x.entry = same_first d.told.entry x.entry (entries_of ds) (entries_tagged xs) e in
      let same = same_deed all sorted made d its.deed (i d (inl refl)) its.member (first ∙ its.tells.entry) in (
        subst (λ (z : HandDeed). TellsAwaited file limits era z x) (sym same) its.tells,
        tagged_deeds all sorted made ds xs (λ z j. i z (inr j)) (same_rest d.told.entry x.entry (entries_of ds) (entries_tagged xs) e) (λ z j. f z (inr j)),
      )

  -- ---- a round

  module _ (lay : Layout) (round : ℕ) (m : State (Stamped Hand) Object) (r : PartRound) (h : IsPartRound file limits lay round era m r) where
    abbrev made : List HandDeed
    made = hands_in file limits (table_round m r)

    in_made : (p : Part) → In p r.parts → (d : HandDeed) → In d (hand_deeds file limits (p.deeds ++ rest_of m p)) → In d made
    in_made p i d j =
        let same : of_thread p.thread made ≡ hand_deeds file limits (p.deeds ++ rest_of m p) =
        hands_of file limits lay round era m r h p.thread ∙ ap (hand_deeds file limits) (part_of file limits lay round era m r h p i) in
        (filter_in (λ (e : HandDeed). e.call.thread == p.thread) d made (subst (In d) (sym same) j)).0

    -- the stamp of the thread's own place is not greater than its own
    pub low : (p : Part) → In p r.parts → last_in (m.value (desk + 1 + p.thread)) ≤ (at_last_object p).last
    low p i =
        let is = part_is file limits lay round era m r h p i in
        let l : last_in (m.value (desk + 1 + p.thread)) ≤ r.base = h.stamps.places (desk + 1 + p.thread) in
        let from : p.before.last ≡ r.base = ap (λ (l : Stamped Hand). l.last) (begins file limits lay round era m r h p i) ∙ h.stamps.threads p.thread in
        let rise = rises file limits era p.before p.deeds is.follow is.deeds in
        omega (arith, l, from, rise)

    of_rest : (p : Part) → In p r.parts → (o : Option Rest) (xs : List Tagged) (x : Tagged) → TellsRest file limits era p.thread (at_last_object p) o xs →
        In x xs → HasDeed file limits era (hand_deeds file limits (rest_deeds p.thread (at_last_object p) (m.value (desk + 1 + p.thread)) o)) x
    of_rest p i None xs x t j = absurd (subst (In x) t j)
    of_rest p i (Some q) xs x t j =
        let k = desk + 1 + p.thread in
        let one = t.2 (m.value k) (h.private k (omega arith)) (low p i) in
        elim (subst (In x) t.1 j) [
          | inl e ↦ record { deed = _; member = inl refl; tells = subst (TellsAwaited file limits era _) (sym e) one }
          | inr z ↦ absurd z
        ]

    both : (p : Part) → hand_deeds file limits (p.deeds ++ rest_of m p) ≡ hand_deeds file limits p.deeds ++ hand_deeds file limits (rest_of m p)
    both p = map-append (hand_deed file limits) p.deeds (rest_of m p)

    of_part : (p : Part) → In p r.parts → (xs : List Tagged) → TellsRaces file limits era p xs → (x : Tagged) → In x xs → HasDeed file limits era made x
    of_part p i xs t x j = elim (in_either x t.at_objects t.behind (subst (In x) t.all j)) [
      | inl a ↦
          let d = zip_in (TellsAwaited file limits era) (hand_deeds file limits p.deeds) t.at_objects t.deeds x a in
          record {
            deed = d.0;
            member = in_made p i d.0 (subst (In d.0) (sym (both p)) (in_left d.0 (hand_deeds file limits p.deeds) (hand_deeds file limits (rest_of m p)) d.1));
            tells = d.2;
          }
      | inr b ↦
          let d = of_rest p i p.rest t.behind x t.rest b in
          record {
            deed = d.deed;
            member = in_made p i d.deed (subst (In d.deed) (sym (both p))
                (in_right d.deed (hand_deeds file limits p.deeds) (hand_deeds file limits (rest_of m p)) d.member));
            tells = d.tells;
          }
    ]

    found : (ws : List Awaited) (one : table.OneRound file limits lay round era m (table_round m r)) (a : RoundAwaits file limits era r ws) (x : Tagged) →
        In x a.sorted → HasDeed file limits era one.it.listed x
    found ws one a x i =
        let flat = (same_members (flat_map (λ (xs : List Tagged). xs) a.told) a.sorted a.merged x).1 i in
        let xs = in_one x a.told flat in
        let p = zip_in (TellsRaces file limits era) r.parts a.told a.of_parts xs.0 xs.1 in
        let d = of_part p.0 p.1 xs.0 p.2 x xs.2 in
        record {
          deed = d.deed;
          member = (same_members one.it.made one.it.listed one.is_round.permuted d.deed).0 (subst (In d.deed) (sym one.made_is) d.member);
          tells = d.tells;
        }

    listed_await : (ws : List Awaited) (one : table.OneRound file limits lay round era m (table_round m r)) → RoundAwaits file limits era r ws →
        ListedAwait file limits era one.it ws
    listed_await ws one a =
        let all = one.it.listed in
        let same = same_members one.it.made all one.is_round.permuted in
        let deeds = all_members (IsHandDeed file limits era) all
        (λ d i. at_member (IsHandDeed file limits era) d one.it.made one.is_round.deeds ((same d).1 i)) in
        record {
          tagged = a.sorted;
          tells = tagged_deeds all one.is_round.sorted deeds all a.sorted (λ d i. i) (one.entries ∙ sym a.entries) (found ws one a);
          is = a.awaited_are;
        }

-- ---- all rounds

-- rounds of deeds with the same entries, and what they await as they are listed
pub record HandsAwait (file : List ℕ) (limits : Limits) (round era base : ℕ) (m : State (Stamped Hand) Object) (rs : List PartRound)
    (wss : List (List Awaited)) : Type 0 where
  pub rounds : List HandRound
  pub are : AreHandRounds file limits round era base (held_at file limits m) rounds
  pub entries : listed_entries rounds ≡ map (λ (r : PartRound). r.entries) rs
  pub await : AllListed file limits era rounds wss
  pub ends : map (λ (r : HandRound). r.ends) rounds ≡ map (λ (r : PartRound). r.ends) rs

module _ (file : List ℕ) (limits : Limits) (lay : Layout) where
  pub hands_await : (rs : List PartRound) (wss : List (List Awaited)) (round era base : ℕ) (m : State (Stamped Hand) Object) →
      ArePartRounds file limits lay round era base m rs → AllAwait file limits era rs wss → HandsAwait file limits round era base m rs wss
  hands_await [] [] round era base m h a = record { rounds = []; are = tt; entries = refl; await = tt; ends = refl }
  hands_await [] (ws ∷ wss) round era base m h a = absurd a
  hands_await (r ∷ rs) [] round era base m h a = absurd a
  hands_await (r ∷ rs) (ws ∷ wss) round era base m h a =
      let one = table.one_round file limits lay round era m (table_round m r) (round_is file limits lay round era m r h.1) in
      let next_era = cond r.ends (era + 1) era in
      let others = hands_await rs wss (round + 1) next_era (last_stamp (table_round m r)) r.next h.2 a.1 in
      let rest : AreHandRounds file limits (round + 1) next_era (top one.it) (hands_after era (held_at file limits m) one.it) others.rounds =
      subst (λ (c : State (Stamped Hand) (Stamped Held)).
      AreHandRounds file limits (round + 1) next_era (top one.it) c others.rounds) (sym one.after_it)
      (subst (λ (n : ℕ). AreHandRounds file limits (round + 1) next_era n (held_at file limits r.next) others.rounds) (sym one.top_is) others.are) in
      record {
        rounds = one.it ∷ others.rounds;
        are = (
          one.base_is ∙ h.0,
          one.is_round,
          subst (λ (b : Bool). AreHandRounds file limits (round + 1) (cond b (era + 1) era) (top one.it)
              (hands_after era (held_at file limits m) one.it) others.rounds) (sym one.ends_is) rest,
        );
        entries = ap₂ (λ (es : List Entry) (ess : List (List Entry)). es ∷ ess) one.entries others.entries;
        ends = ap₂ (λ (b : Bool) (bs : List Bool). b ∷ bs) one.ends_is others.ends;
        await = (
          listed_await file limits era lay round m r h.1 ws one a.0,
          subst (λ (b : Bool). AllListed file limits (cond b (era + 1) era) others.rounds wss) (sym one.ends_is) others.await,
        );
      }
