-- A part among the deeds of its round: its seat, its log, its deeds, its entries, and its last turn of the desk.
use Rattle.std.proofs.Common.{◌≡◌, ◌≢◌, ℕ, ◌+◌, List, [], ◌∷◌, ◌++◌, length, Option, Some, None, inl, inr, refl, sym, ap, ◌∙◌, arith, length-append}
use Rattle.std.specs.Prelude.{◌==◌, filter}
use Rattle.std.specs.List.{flat_map}
use Rattle.std.proofs.lemmas.Bool.{cases_Bool}
use Rattle.std.proofs.lemmas.List.{append_assoc}
use mathlib.Core.Option.{some}
use lib.ListN.{get_elem?}
use Rattle.run_record.specs.declared.entry.Entry.{Entry}
use Rattle.run_record.specs.declared.limits.Limits.{Limits}
use Rattle.run_laws.specs.Rounds.{steps_by, steps_in}
use Rattle.bare_machine.specs.Step.{desk}
use Rattle.turn_orders.specs.Lists.{Each, In}
use Rattle.turn_orders.specs.LineUp.{Stamped, of_thread}
use Rattle.turn_orders.proofs.Members.{at_member, filter_here, filter_not}
use Rattle.shared_table.specs.declared.object.Object.{Object}
use Rattle.shared_table.specs.declared.view.Layout.{Layout}
use Rattle.shared_table.specs.declared.view.Item.{Item}
use Rattle.shared_table.specs.declared.view.Item.TheVariants.{Take, Give}
use Rattle.shared_table.specs.Past.{Past, Log, log_of}
use Rattle.woven_turns.specs.Steps.{Stands}
use Rattle.woven_turns.proofs.Weaving.{thread_all}
use Rattle.woven_turns.proofs.Items.{item_stands}
use Rattle.placed_detector.specs.Standing.{Hand}
use Rattle.deed_histories.specs.Lines.{entries_of}
use Rattle.table_deeds.specs.Objects.{ObjectDeed, hand_deed, hand_deeds}
use Rattle.table_deeds.specs.Listing.{AreApart}
use Rattle.table_deeds.specs.Rounds.{made_in, IsTableRound}
use Rattle.table_deeds.proofs.Listing.{thread_of_deed}
use Rattle.hart_parts.specs.Parts.{Part, Rest, Try, at_last_object, rest_deeds, deeds_in, rest_entries, part_entries, rest_touches, try_items, IsPart, steps_made}
use Rattle.hart_parts.specs.Rounds.{PartRound, table_round, IsPartRound}
use Rattle.hart_parts.proofs.Seats.{threads_of, HasPart, rest_of, part_cases}
use Rattle.hart_parts.proofs.Rounds.{part_is, deeds_with, round_is}
use Rattle.whole_parts.proofs.Listed.{Objects, Is, hands_append, listed, entries_are, threads_same, listed_deeds}

last_item : (xs : Log) (y : Item) → get_elem? (xs ++ y ∷ []) (length xs) ≡ some y
last_item [] y = refl
last_item (x ∷ xs) y = last_item xs y

-- two parts are not of one thread
in_threads : (ps : List Part) (p : Part) → In p ps → In p.thread (threads_of ps)
in_threads [] p i = absurd i
in_threads (x ∷ ps) p (inl e) = inl (ap (λ (y : Part). y.thread) e)
in_threads (x ∷ ps) p (inr i) = inr (in_threads ps p i)

same_part : (ps : List Part) (p q : Part) → AreApart (threads_of ps) → In p ps → In q ps → p.thread ≡ q.thread → p ≡ q
same_part [] p q apart i j e = absurd i
same_part (x ∷ ps) p q apart (inl a) (inl b) e = a ∙ sym b
same_part (x ∷ ps) p q apart (inl a) (inr j) e =
    absurd (at_member (λ (u : ℕ). x.thread ≢ u) q.thread (threads_of ps) apart.0 (in_threads ps q j) (ap (λ (y : Part). y.thread) (sym a) ∙ e))
same_part (x ∷ ps) p q apart (inr i) (inl b) e =
    absurd (at_member (λ (u : ℕ). x.thread ≢ u) p.thread (threads_of ps) apart.0 (in_threads ps p i) (ap (λ (y : Part). y.thread) (sym b) ∙ sym e))
same_part (x ∷ ps) p q apart (inr i) (inr j) e = same_part ps p q apart.1 i j e

rest_told : (file : List ℕ) (limits : Limits) (t : ℕ) (found : Stamped Hand) (x : Object) (o : Option Rest) →
    entries_of (hand_deeds file limits (rest_deeds t found x o)) ≡ rest_entries o
rest_told file limits t found x None = refl
rest_told file limits t found x (Some rest) = refl

module _ (file : List ℕ) (limits : Limits) where
  -- the entries of a thread are those of its deeds
  entries_of_thread : (era t : ℕ) (ds : List ObjectDeed) → Each (Is file limits era) ds →
      filter (λ (e : Entry). e.tid == t) (entries_of (hand_deeds file limits ds)) ≡ entries_of (hand_deeds file limits (of_thread t ds))
  entries_of_thread era t [] h = refl
  entries_of_thread era t (d ∷ ds) h =
      let rest = entries_of_thread era t ds h.1 in
      let same : d.told.entry.tid ≡ d.call.thread = thread_of_deed file limits era (hand_deed file limits d) h.0 in
      let more = entries_of (hand_deeds file limits ds) in
      elim (cases_Bool (d.call.thread == t)) [
        | inl its ↦
            filter_here (λ (e : Entry). e.tid == t) d.told.entry more (ap (λ (n : ℕ). n == t) same ∙ its)
            ∙ (ap (λ (es : List Entry). d.told.entry ∷ es) rest
            ∙ ap (λ (xs : List ObjectDeed). entries_of (hand_deeds file limits xs)) (sym (filter_here (λ (e : ObjectDeed). e.call.thread == t) d ds its)))
        | inr other ↦
            filter_not (λ (e : Entry). e.tid == t) d.told.entry more (ap (λ (n : ℕ). n == t) same ∙ other)
            ∙ (rest
            ∙ ap (λ (xs : List ObjectDeed). entries_of (hand_deeds file limits xs)) (sym (filter_not (λ (e : ObjectDeed). e.call.thread == t) d ds other)))
      ]

  module _ (lay : Layout) (round era : ℕ) (m : Objects file limits) (r : PartRound) (h : IsPartRound file limits lay round era m r) (q : Part)
      (i : In q r.parts) where
    table : IsTableRound file limits lay round era m (table_round m r)
    table = round_is file limits lay round era m r h

    part : IsPart file limits era q
    part = part_is file limits lay round era m r h q i

    -- the seat of its thread
    abbrev pub n : ℕ
    n = (table_round m r).seat q.thread

    -- what the thread has of the round is this part
    record Has : Type 0 where
      it : HasPart m r.first_seat r.parts q.thread
      same : it.part ≡ q

    has : Has
    has = elim (part_cases m r.first_seat r.parts q.thread h.apart) [
      | inl it ↦ record { it = it; same = same_part r.parts it.part q h.apart it.member i it.mine }
      | inr none ↦ absurd (at_member (λ (x : Part). x.thread ≢ q.thread) q r.parts none.nobody i refl)
    ]

    log : log_of n r.late ≡ q.log
    log = ap (λ (k : ℕ). log_of k r.late) has.it.seat ∙ (h.logs has.it.index has.it.part has.it.at ∙ ap (λ (x : Part). x.log) has.same)

    -- the thread's deeds of the round are those of its part
    own : of_thread q.thread (made_in (table_round m r)) ≡ deeds_in (m.value (desk + 1 + q.thread)) q
    own =
        let t = table_round m r in
        thread_all t.tag lay m t.early t.late t.seat t.alone table.worked q.thread
        ∙ (deeds_with file limits lay round era m r h q.thread has.it ∙ ap (λ (x : Part). x.deeds ++ rest_of m x) has.same)

    own_entries : filter (λ (e : Entry). e.tid == q.thread) r.entries ≡ part_entries file limits q
    own_entries =
        let list = listed file limits lay round era m (table_round m r) table in
        let x = m.value (desk + 1 + q.thread) in
        let rest = rest_deeds q.thread (at_last_object q) x q.rest in
        ap (filter (λ (e : Entry). e.tid == q.thread)) (sym (entries_are file limits lay round era m (table_round m r) table))
        ∙ (entries_of_thread era q.thread list (listed_deeds file limits lay round era m (table_round m r) table)
        ∙ (ap (λ (ds : List ObjectDeed). entries_of (hand_deeds file limits ds))
        (sym (threads_same file limits lay round era m (table_round m r) table q.thread) ∙ own)
        ∙ (hands_append file limits q.deeds rest
        ∙ ap (λ (es : List Entry). entries_of (hand_deeds file limits q.deeds) ++ es) (rest_told file limits q.thread (at_last_object q) x q.rest))))

    -- it makes as many instructions in the round as in its part
    pub steps_are : steps_by q.thread r.entries ≡ steps_made file limits q
    steps_are = ap steps_in own_entries

    -- where the turn that found no slot stands in the past
    pub record TryStands (x : Try) : Type 0 where
      pub made : Past
      pub stands : Stands r.late made (n, Give desk x.number x.found x.found)
      pub last : length (log_of n r.late) ≡ length (log_of n made) + 1

    pub try_stands : (x : Try) → q.tried ≡ Some x → TryStands x
    try_stands x tried =
        let a = flat_map (λ (items : Log). items) part.log_is.stretches in
        let b = rest_touches q.rest in
        let give = Give desk x.number x.found x.found in
        let front : Log = a ++ (b ++ Take desk x.number ∷ []) in
        let whole : q.log ≡ front ++ give ∷ [] =
        part.log_is.whole
        ∙ (ap (λ (o : Option Try). a ++ (b ++ try_items o)) tried
        ∙ (ap (λ (l : Log). a ++ l) (sym (append_assoc b (Take desk x.number ∷ []) (give ∷ [])))
        ∙ sym (append_assoc a (b ++ Take desk x.number ∷ []) (give ∷ [])))) in
        let there = item_stands r.late n (length front) give
        (ap (λ (l : Log). get_elem? l (length front)) (log ∙ whole) ∙ last_item front give) in
        let long = ap (λ (l : Log). length l) (log ∙ whole) in
        let count = length-append front (give ∷ []) in
        let is = there.2 in
        record { made = there.0; stands = there.1; last = omega (arith, long, count, is) }
