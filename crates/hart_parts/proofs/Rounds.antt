-- A round of parts is a round at the table.
use Rattle.std.proofs.Common.{◌≡◌, ◌≢◌, ◌<◌, ◌≤◌, ◌+◌, ℕ, zero, suc, cond, List, [], ◌∷◌, ◌++◌, length, inl, inr, refl, sym, ap, ap₂, subst, ◌∙◌, arith, append-nil, eq-eqb, ne_eqb}
use Rattle.std.specs.Prelude.{◌==◌, map, IsPermutation, Option, Some, None}
use Rattle.std.proofs.lemmas.Bool.{cases_Bool}
use Rattle.std.proofs.lemmas.List.{map-append}
use mathlib.Core.Path.{fun_ext}
use mathlib.Core.Logic.{dite}
use mathlib.Core.Option.{some}
use native.Mathlib.Decide.{ℕ_discrete}
use lib.ListN.{get_elem?}
use Rattle.run_record.specs.declared.limits.Limits.{Limits}
use Rattle.run_record.specs.declared.entry.Entry.{Entry}
use Rattle.run_record.specs.Order.{entries_in}
use Rattle.bare_machine.specs.Step.{desk}
use Rattle.turn_orders.specs.Lists.{Each, In}
use Rattle.turn_orders.specs.Machine.{State}
use Rattle.turn_orders.specs.LineUp.{Stamped, of_thread, of_place, LocalsFollow, ValuesFollow, last_local}
use Rattle.turn_orders.proofs.Members.{at_member, all_members, each_append, filter_append, filter_here, filter_not}
use Rattle.shared_table.specs.declared.object.Object.{Object}
use Rattle.shared_table.specs.declared.view.Layout.{Layout}
use Rattle.shared_table.specs.declared.view.Item.{Item}
use Rattle.shared_table.specs.Layouts.{objects_of}
use Rattle.shared_table.specs.Past.{Log, log_of}
use Rattle.woven_turns.specs.Weave.{Tags, IsTagged, weave, first_deeds, Worked}
use Rattle.woven_turns.specs.Following.{left_after}
use Rattle.woven_turns.proofs.Weaving.{woven_each, thread_all}
use Rattle.placed_detector.specs.Standing.{Hand}
use Rattle.deed_histories.specs.Lines.{Tells, HandDeed, entries_of, IsHandDeed}
use Rattle.table_deeds.specs.Objects.{ObjectDeed, hand_deed, hand_deeds, last_in}
use Rattle.table_deeds.specs.Listing.{AreApart, logs_of, EndsAlone}
use Rattle.table_deeds.specs.Rounds.{made_in, hands_in, last_stamp, IsTableRound, AreTableRounds, entries_by_round}
use Rattle.table_deeds.proofs.Left.{local_left_is}
use Rattle.hart_parts.specs.Parts.{Part, Rest, at_last_object, left_with_rest, left_in, rest_entries, part_entries, rest_deed, rest_deeds, IsRest, IsPart}
use Rattle.hart_parts.specs.Rounds.{PartRound, tags_along, tag_from, seat_from, alone_of, table_round, table_rounds, IsPartRound, ArePartRounds}
use Rattle.hart_parts.proofs.Tags.{in_tags, item_told, log_told}
use Rattle.hart_parts.proofs.Seats.{threads_of, HasSeat, seat_cases, AreOwn, told_of, seat_of_thread, rest_of, HasPart, HasNoPart, part_cases}

-- ---- lists of deeds

none_told : (f : ℕ → List ObjectDeed) → ((j : ℕ) → f j ≡ []) → (k : ℕ) → first_deeds f k ≡ []
none_told f none zero = refl
none_told f none (suc k) = ap (λ (ds : List ObjectDeed). ds ++ f k) (none_told f none k) ∙ none k

follow_more : (l : Stamped Hand) (ds es : List ObjectDeed) → LocalsFollow l ds → LocalsFollow (last_local l ds) es → LocalsFollow l (ds ++ es)
follow_more l [] es f g = g
follow_more l (d ∷ ds) es f g = (f.0, follow_more d.local_left ds es f.1 g)

last_more : (l : Stamped Hand) (ds es : List ObjectDeed) → last_local l (ds ++ es) ≡ last_local (last_local l ds) es
last_more l [] es = refl
last_more l (d ∷ ds) es = last_more d.local_left ds es

none_there : (k : ℕ) (ds : List ObjectDeed) → Each (λ (d : ObjectDeed). d.call.place ≢ k) ds → of_place k ds ≡ []
none_there k [] h = refl
none_there k (d ∷ ds) h = filter_not (λ (e : ObjectDeed). e.call.place == k) d ds (ne_eqb d.call.place k h.0) ∙ none_there k ds h.1

in_threads : (p : Part) (ps : List Part) → In p ps → In p.thread (threads_of ps)
in_threads p [] i = absurd i
in_threads p (q ∷ ps) (inl e) = inl (ap (λ (x : Part). x.thread) e)
in_threads p (q ∷ ps) (inr i) = inr (in_threads p ps i)

-- two parts are not of one thread
same_part : (ps : List Part) (p q : Part) → AreApart (threads_of ps) → In p ps → In q ps → p.thread ≡ q.thread → p ≡ q
same_part [] p q apart i j e = absurd i
same_part (x ∷ ps) p q apart (inl a) (inl b) e = a ∙ sym b
same_part (x ∷ ps) p q apart (inl a) (inr j) e =
    absurd (at_member (λ (u : ℕ). x.thread ≢ u) q.thread (threads_of ps) apart.0 (in_threads q ps j) (ap (λ (y : Part). y.thread) (sym a) ∙ e))
same_part (x ∷ ps) p q apart (inr i) (inl b) e =
    absurd (at_member (λ (u : ℕ). x.thread ≢ u) p.thread (threads_of ps) apart.0 (in_threads p ps i) (ap (λ (y : Part). y.thread) (sym b) ∙ sym e))
same_part (x ∷ ps) p q apart (inr i) (inr j) e = same_part ps p q apart.1 i j e

-- ---- deeds behind the objects

module _ (m : State (Stamped Hand) Object) where
  each_rest : (P : ObjectDeed → Type 0) (ps : List Part) → ((p : Part) → In p ps → Each P (rest_of m p)) → Each P (alone_of m ps)
  each_rest P [] f = tt
  each_rest P (p ∷ ps) f = each_append P (rest_of m p) (alone_of m ps) (f p (inl refl)) (each_rest P ps (λ q i. f q (inr i)))

  -- where it holds of the deed, if there is one
  of_rest : (P : ObjectDeed → Type 0) (p : Part)
      → ((r : Rest) → p.rest ≡ Some r → P (rest_deed p.thread (at_last_object p) (m.value (desk + 1 + p.thread)) r)) → Each P (rest_of m p)
  of_rest P p f = go p.rest f
    where
      go : (o : Option Rest) → ((r : Rest) → o ≡ Some r → P (rest_deed p.thread (at_last_object p) (m.value (desk + 1 + p.thread)) r)) →
          Each P (rest_deeds p.thread (at_last_object p) (m.value (desk + 1 + p.thread)) o)
      go None g = tt
      go (Some r) g = (g r refl, tt)

  rest_values : (p : Part) → ValuesFollow (m.value (desk + 1 + p.thread)) (rest_of m p)
  rest_values p = go p.rest
    where
      go : (o : Option Rest) → ValuesFollow (m.value (desk + 1 + p.thread)) (rest_deeds p.thread (at_last_object p) (m.value (desk + 1 + p.thread)) o)
      go None = tt
      go (Some r) = (refl, tt)

  rest_locals : (p : Part) → LocalsFollow (at_last_object p) (rest_of m p)
  rest_locals p = go p.rest
    where
      go : (o : Option Rest) → LocalsFollow (at_last_object p) (rest_deeds p.thread (at_last_object p) (m.value (desk + 1 + p.thread)) o)
      go None = tt
      go (Some r) = (refl, tt)

  rest_left : (p : Part) → last_local (at_last_object p) (rest_of m p) ≡ left_in p
  rest_left p = go p.rest
    where
      go : (o : Option Rest) → last_local (at_last_object p) (rest_deeds p.thread (at_last_object p) (m.value (desk + 1 + p.thread)) o)
          ≡ left_with_rest (at_last_object p) o
      go None = refl
      go (Some r) = refl

  here_alone : (p : Part) (k : ℕ) → k ≡ desk + 1 + p.thread → of_place k (rest_of m p) ≡ rest_of m p
  here_alone p k e = go p.rest
    where
      x : Object
      x = m.value (desk + 1 + p.thread)

      go : (o : Option Rest) → of_place k (rest_deeds p.thread (at_last_object p) x o) ≡ rest_deeds p.thread (at_last_object p) x o
      go None = refl
      go (Some r) =
          filter_here (λ (d : ObjectDeed). d.call.place == k) (rest_deed p.thread (at_last_object p) x r) [] (eq-eqb (desk + 1 + p.thread) k (sym e))

  places : (P : ℕ → Type 0) (p : Part) → P (desk + 1 + p.thread) → Each (λ (d : ObjectDeed). P d.call.place) (rest_of m p)
  places P p h = of_rest (λ (d : ObjectDeed). P d.call.place) p (λ r e. h)

  -- each private place has the deed of one thread
  values_alone : (ps : List Part) (k : ℕ) → AreApart (threads_of ps) → ValuesFollow (m.value k) (of_place k (alone_of m ps))
  values_alone [] k apart = tt
  values_alone (p ∷ ps) k apart =
      let parts = filter_append (λ (d : ObjectDeed). d.call.place == k) (rest_of m p) (alone_of m ps) in
      dite (ℕ_discrete k (desk + 1 + p.thread))
      (λ e.
      let others : of_place k (alone_of m ps) ≡ [] = none_there k (alone_of m ps) (each_rest (λ (d : ObjectDeed). d.call.place ≢ k) ps
      (λ q i. places (λ (j : ℕ). j ≢ k) q (λ same. at_member (λ (u : ℕ). p.thread ≢ u) q.thread (threads_of ps) apart.0 (in_threads q ps i)
      (omega (arith, same, e))))) in
      let whole : of_place k (alone_of m (p ∷ ps)) ≡ rest_of m p =
      parts ∙ (ap (λ (ds : List ObjectDeed). ds ++ of_place k (alone_of m ps)) (here_alone p k e)
      ∙ (ap (λ (ds : List ObjectDeed). rest_of m p ++ ds) others ∙ append-nil (rest_of m p))) in
      subst (ValuesFollow (m.value k)) (sym whole) (subst (λ (j : ℕ). ValuesFollow (m.value j) (rest_of m p)) (sym e) (rest_values p)))
      (λ ne.
      let own : of_place k (rest_of m p) ≡ [] =
      none_there k (rest_of m p) (places (λ (j : ℕ). j ≢ k) p (λ same. ne (sym same))) in
      subst (ValuesFollow (m.value k)) (sym (parts ∙ ap (λ (ds : List ObjectDeed). ds ++ of_place k (alone_of m ps)) own)) (values_alone ps k apart.1))

-- ---- deeds as the laws of workers have them

module _ (file : List ℕ) (limits : Limits) where
  thread_hands : (t : ℕ) (ds : List ObjectDeed) → of_thread t (hand_deeds file limits ds) ≡ hand_deeds file limits (of_thread t ds)
  thread_hands t [] = refl
  thread_hands t (d ∷ ds) = elim (cases_Bool (d.call.thread == t)) [
    | inl its ↦
        filter_here (λ (e : HandDeed). e.call.thread == t) (hand_deed file limits d) (hand_deeds file limits ds) its
        ∙ (ap (λ (es : List HandDeed). hand_deed file limits d ∷ es) (thread_hands t ds)
        ∙ ap (hand_deeds file limits) (sym (filter_here (λ (e : ObjectDeed). e.call.thread == t) d ds its)))
    | inr other ↦
        filter_not (λ (e : HandDeed). e.call.thread == t) (hand_deed file limits d) (hand_deeds file limits ds) other
        ∙ (thread_hands t ds ∙ ap (hand_deeds file limits) (sym (filter_not (λ (e : ObjectDeed). e.call.thread == t) d ds other)))
  ]

  known_hands : (P : ℕ → Type 0) (ds : List ObjectDeed) → Each (λ (d : ObjectDeed). P d.call.thread) ds →
      Each (λ (d : HandDeed). P d.call.thread) (hand_deeds file limits ds)
  known_hands P [] h = tt
  known_hands P (d ∷ ds) h = (h.0, known_hands P ds h.1)

  entries_more : (ds es : List ObjectDeed) →
      entries_of (hand_deeds file limits (ds ++ es)) ≡ entries_of (hand_deeds file limits ds) ++ entries_of (hand_deeds file limits es)
  entries_more ds es =
      ap entries_of (map-append (hand_deed file limits) ds es)
      ∙ map-append (λ (d : HandDeed). d.told.entry) (hand_deeds file limits ds) (hand_deeds file limits es)

  -- the entries of a part's deeds
  entries_are : (m : State (Stamped Hand) Object) (p : Part) → entries_of (hand_deeds file limits (p.deeds ++ rest_of m p)) ≡ part_entries file limits p
  entries_are m p =
      entries_more p.deeds (rest_of m p) ∙ ap (λ (es : List Entry). entries_of (hand_deeds file limits p.deeds) ++ es) (go p.rest)
    where
      go : (o : Option Rest) →
          entries_of (hand_deeds file limits (rest_deeds p.thread (at_last_object p) (m.value (desk + 1 + p.thread)) o)) ≡ rest_entries o
      go None = refl
      go (Some r) = refl

  -- a part's deed without an object is its last
  ends_alone : (m : State (Stamped Hand) Object) (p : Part) (ds : List ObjectDeed) → Each (λ (d : ObjectDeed). d.call.place ≤ desk) ds →
      EndsAlone (hand_deeds file limits (ds ++ rest_of m p))
  ends_alone m p [] h = go p.rest
    where
      go : (o : Option Rest) → EndsAlone (hand_deeds file limits (rest_deeds p.thread (at_last_object p) (m.value (desk + 1 + p.thread)) o))
      go None = tt
      go (Some r) = ((λ l. refl), tt)
  ends_alone m p (d ∷ ds) h = ((λ l. let low = h.0 in absurd (omega (arith, l, low))), ends_alone m p ds h.1)

  -- along deeds stamps rise
  pub rises : (era : ℕ) (l : Stamped Hand) (ds : List ObjectDeed) → LocalsFollow l ds →
      Each (λ (d : ObjectDeed). IsHandDeed file limits era (hand_deed file limits d)) ds → l.last ≤ (last_local l ds).last
  rises era l [] f h = omega arith
  rises era l (d ∷ ds) f h =
      let same : l.last ≡ d.local_found.last = ap (λ (x : Stamped Hand). x.last) f.0 in
      let drawn = h.0.drawn in
      let later = rises era d.local_left ds f.1 h.1 in
      grind (arith, same, drawn, later)

-- ---- a round

module _ (file : List ℕ) (limits : Limits) (lay : Layout) (round era : ℕ) (m : State (Stamped Hand) Object) (r : PartRound)
    (h : IsPartRound file limits lay round era m r) where
  abbrev IsMade : ObjectDeed → Type 0
  IsMade d = IsHandDeed file limits era (hand_deed file limits d)

  abbrev tag : Tags (Stamped Hand) (Unit {0}) Tells
  tag = tag_from r.first_seat r.parts

  abbrev seat : ℕ → ℕ
  seat = seat_from r.first_seat r.parts

  abbrev alone : List ObjectDeed
  alone = alone_of m r.parts

  pub part_is : (p : Part) → In p r.parts → IsPart file limits era p
  part_is p i = at_member (IsPart file limits era) p r.parts h.parts i

  own : Each AreOwn r.parts
  own = all_members AreOwn r.parts (λ p i. (part_is p i).mine)

  pub begins : (p : Part) → In p r.parts → p.before ≡ m.local p.thread
  begins p i = at_member (λ (q : Part). q.before ≡ m.local q.thread) p r.parts h.before i

  log_is : (n : ℕ) (s : HasSeat r.first_seat r.parts n) → log_of n r.late ≡ s.part.log
  log_is n s = ap (λ (k : ℕ). log_of k r.late) s.number ∙ h.logs s.index s.part s.at

  tagged : (n j : ℕ) (x : Item) → get_elem? (log_of n r.late) j ≡ some x → IsTagged x (tag n j)
  tagged n j x e = elim (seat_cases r.first_seat r.parts n) [
    | inl s ↦
        subst (IsTagged x) (sym (s.tells j))
        (item_told s.part j x (part_is s.part s.member).log_is (ap (λ (log : Log). get_elem? log j) (sym (log_is n s)) ∙ e))
    | inr s ↦ subst (IsTagged x) (sym (s.tells j)) (h.others n j x (λ q. s.outside q.0 q.1) e)
  ]

  -- the deeds of a thread: along its seat's log, and then alone
  abbrev deeds_of : ℕ → List ObjectDeed
  deeds_of t = first_deeds (tag (seat t)) (length (log_of (seat t) r.late)) ++ of_thread t alone

  pub deeds_with : (t : ℕ) (q : HasPart m r.first_seat r.parts t) → deeds_of t ≡ q.part.deeds ++ rest_of m q.part
  deeds_with t q =
      let n = r.first_seat + q.index in
      let tags : tag n ≡ tags_along q.part.deeds q.part.log = fun_ext q.tells in
      let whole : first_deeds (tag (seat t)) (length (log_of (seat t) r.late)) ≡ q.part.deeds =
      ap (λ (k : ℕ). first_deeds (tag k) (length (log_of k r.late))) q.seat
      ∙ (ap (λ (f : ℕ → List ObjectDeed). first_deeds f (length (log_of n r.late))) tags
      ∙ (ap (λ (log : Log). first_deeds (tags_along q.part.deeds q.part.log) (length log)) (h.logs q.index q.part q.at)
      ∙ log_told q.part (part_is q.part q.member).log_is)) in
      ap₂ (λ (ds es : List ObjectDeed). ds ++ es) whole q.alone

  -- the opening seat tells nothing
  opening_tells : (j : ℕ) → tag 0 j ≡ []
  opening_tells j = elim (seat_cases r.first_seat r.parts 0) [
    | inl s ↦ let number = s.number in let some = h.opening in absurd (omega (arith, number, some))
    | inr s ↦ s.tells j
  ]

  pub deeds_without : (t : ℕ) → HasNoPart m r.first_seat r.parts t → deeds_of t ≡ []
  deeds_without t q =
      ap₂ (λ (ds es : List ObjectDeed). ds ++ es)
      (ap (λ (k : ℕ). first_deeds (tag k) (length (log_of k r.late))) q.seat ∙ none_told (tag 0) opening_tells (length (log_of 0 r.late)))
      q.alone

  locals : (t : ℕ) → LocalsFollow (m.local t) (deeds_of t)
  locals t = elim (part_cases m r.first_seat r.parts t h.apart) [
    | inl q ↦
        let p = q.part in
        let from : p.before ≡ m.local t = begins p q.member ∙ ap m.local q.mine in
        subst (LocalsFollow (m.local t)) (sym (deeds_with t q))
        (subst (λ (l : Stamped Hand). LocalsFollow l (p.deeds ++ rest_of m p)) from
        (follow_more p.before p.deeds (rest_of m p) (part_is p q.member).follow (rest_locals m p)))
    | inr q ↦ subst (LocalsFollow (m.local t)) (sym (deeds_without t q)) tt
  ]

  worked : Worked lay m r.early r.late tag seat alone
  worked = record {
    tagged = tagged;
    seats = λ t. seat_of_thread r.first_seat r.parts t h.opening own h.apart;
    locals = locals;
    values = h.values;
    private =
        let size = h.objects in
        each_rest m (λ (d : ObjectDeed). objects_of lay ≤ d.call.place) r.parts
        (λ p i. places m (λ (k : ℕ). objects_of lay ≤ k) p (omega (arith, size)));
    private_values = λ k l. values_alone m r.parts k h.apart;
  }

  each_told : (n j : ℕ) → j < length (log_of n r.late) → Each IsMade (tag n j)
  each_told n j l = elim (seat_cases r.first_seat r.parts n) [
    | inl s ↦
        subst (Each IsMade) (sym (s.tells j)) (all_members IsMade (tags_along s.part.deeds s.part.log j)
        (λ d i. at_member IsMade d s.part.deeds (part_is s.part s.member).deeds (in_tags s.part.deeds s.part.log j d i)))
    | inr s ↦ subst (Each IsMade) (sym (s.tells j)) tt
  ]

  -- a part's deed behind the objects
  rest_made : (p : Part) → In p r.parts → Each IsMade (rest_of m p)
  rest_made p i =
      let is = part_is p i in
      let k = desk + 1 + p.thread in
      let low : last_in (m.value k) ≤ r.base = h.stamps.places k in
      let from : p.before.last ≡ r.base = ap (λ (l : Stamped Hand). l.last) (begins p i) ∙ h.stamps.threads p.thread in
      let rise = rises file limits era p.before p.deeds is.follow is.deeds in
      let private = h.private k (omega arith) in
      of_rest m IsMade p (λ o e. subst (IsRest file limits era p.thread (at_last_object p)) e is.rest_is (m.value k) private (omega (arith, low, from, rise)))

  known : Each (λ (d : HandDeed). In d.call.thread (threads_of r.parts)) (hands_in file limits (table_round m r))
  known =
      let P = λ (u : ℕ). In u (threads_of r.parts) in
      let Is = λ (d : ObjectDeed). P d.call.thread in
      let each : Each P (threads_of r.parts) = all_members P (threads_of r.parts) (λ u i. i) in
      known_hands file limits P (weave tag r.late ++ alone) (each_append Is (weave tag r.late) alone
      (woven_each tag Is r.late (λ n j l. told_of P r.first_seat r.parts n j own each))
      (each_rest m Is r.parts (λ p i. of_rest m Is p (λ o e. in_threads p r.parts i))))

  -- the deeds of one thread in the round
  pub hands_of : (t : ℕ) → of_thread t (hands_in file limits (table_round m r)) ≡ hand_deeds file limits (deeds_of t)
  hands_of t =
      thread_hands file limits t (weave tag r.late ++ alone) ∙ ap (hand_deeds file limits) (thread_all tag lay m r.early r.late seat alone worked t)

  pub part_of : (p : Part) → In p r.parts → deeds_of p.thread ≡ p.deeds ++ rest_of m p
  part_of p i = elim (part_cases m r.first_seat r.parts p.thread h.apart) [
    | inl q ↦
        deeds_with p.thread q
        ∙ ap (λ (x : Part). x.deeds ++ rest_of m x) (same_part r.parts q.part p h.apart q.member i q.mine)
    | inr q ↦ absurd (at_member (λ (x : Part). x.thread ≢ p.thread) p r.parts q.nobody i refl)
  ]

  logs_are : (ps : List Part) → ((p : Part) → In p ps → In p r.parts) →
      logs_of (threads_of ps) (hands_in file limits (table_round m r)) ≡ map (part_entries file limits) ps
  logs_are [] f = refl
  logs_are (p ∷ ps) f =
      ap₂ (λ (es : List Entry) (ess : List (List Entry)). es ∷ ess)
      (ap entries_of (hands_of p.thread)
      ∙ (ap (λ (ds : List ObjectDeed). entries_of (hand_deeds file limits ds)) (part_of p (f p (inl refl))) ∙ entries_are file limits m p))
      (logs_are ps (λ q i. f q (inr i)))

  ends : (t : ℕ) → EndsAlone (of_thread t (hands_in file limits (table_round m r)))
  ends t = subst EndsAlone (sym (hands_of t)) (elim (part_cases m r.first_seat r.parts t h.apart) [
    | inl q ↦
        subst (λ (ds : List ObjectDeed). EndsAlone (hand_deeds file limits ds)) (sym (deeds_with t q))
        (ends_alone file limits m q.part q.part.deeds (part_is q.part q.member).at_objects)
    | inr q ↦ subst (λ (ds : List ObjectDeed). EndsAlone (hand_deeds file limits ds)) (sym (deeds_without t q)) tt
  ])

  -- what a thread has after the round
  left_is : (t : ℕ) → (left_after m (made_in (table_round m r))).local t ≡ last_local (m.local t) (deeds_of t)
  left_is t =
      local_left_is m t (weave tag r.late ++ alone) ∙ ap (last_local (m.local t)) (thread_all tag lay m r.early r.late seat alone worked t)

  pub part_left : (p : Part) → In p r.parts → (left_after m (made_in (table_round m r))).local p.thread ≡ left_in p
  part_left p i =
      left_is p.thread ∙ (ap (last_local (m.local p.thread)) (part_of p i)
      ∙ (ap (λ (l : Stamped Hand). last_local l (p.deeds ++ rest_of m p)) (sym (begins p i))
      ∙ (last_more p.before p.deeds (rest_of m p) ∙ rest_left m p)))

  begun : (t : ℕ) → ((left_after m (made_in (table_round m r))).local t).state.given ≡ None
  begun t = elim (part_cases m r.first_seat r.parts t h.apart) [
    | inl q ↦
        ap (λ (u : ℕ). ((left_after m (made_in (table_round m r))).local u).state.given) (sym q.mine)
        ∙ (ap (λ (l : Stamped Hand). l.state.given) (part_left q.part q.member) ∙ (part_is q.part q.member).begun)
    | inr q ↦
        ap (λ (l : Stamped Hand). l.state.given) (left_is t ∙ ap (last_local (m.local t)) (deeds_without t q)) ∙ h.begun t
  ]

  pub round_is : IsTableRound file limits lay round era m (table_round m r)
  round_is = record {
    stamps = h.stamps;
    lawful = h.lawful;
    worked = worked;
    deeds = each_told;
    last_deeds = each_rest m IsMade r.parts rest_made;
    apart = h.apart;
    known = known;
    merged = subst (λ (ess : List (List Entry)). IsPermutation (entries_in ess) r.entries) (sym (logs_are r.parts (λ p i. i))) h.merged;
    ordered = h.ordered;
    inside = h.inside;
    parts = ends;
    begun = λ e t. begun t;
    onward = h.onward;
  }

-- ---- all rounds

pub rounds_are : (file : List ℕ) (limits : Limits) (lay : Layout) (rs : List PartRound) (round era base : ℕ) (m : State (Stamped Hand) Object) →
    ArePartRounds file limits lay round era base m rs → AreTableRounds file limits lay round era base m (table_rounds m rs)
rounds_are file limits lay [] round era base m h = tt
rounds_are file limits lay (r ∷ rs) round era base m h = (
  h.0,
  round_is file limits lay round era m r h.1,
  rounds_are file limits lay rs (round + 1) (cond r.ends (era + 1) era) (last_stamp (table_round m r)) r.next h.2,
)

pub entries_same : (m : State (Stamped Hand) Object) (rs : List PartRound) → entries_by_round (table_rounds m rs) ≡ map (λ (r : PartRound). r.entries) rs
entries_same m [] = refl
entries_same m (r ∷ rs) = ap (λ (ess : List (List Entry)). r.entries ∷ ess) (entries_same r.next rs)
