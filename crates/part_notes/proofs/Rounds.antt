-- The notes of one round stand rightly, by what its workers say of their parts.
use Rattle.std.proofs.Common.{◌≡◌, ◌≢◌, ◌<◌, ◌+◌, ◌==◌, ℕ, Bool, true, false, List, [], ◌∷◌, ◌++◌, length, length-append, append_assoc, append-nil, inl, inr, refl, sym, ap, ap₂, subst, ◌∙◌, arith, eq-eqb, eqb-true}
use Rattle.std.specs.Prelude.{Ok, Option, None, option_map}
use Rattle.std.proofs.lemmas.Bool.{eqb-false}
use Rattle.std.proofs.lemmas.List.{map-append}
use Rattle.std.proofs.lemmas.List.Sums.{fold-append}
use Rattle.std.proofs.lemmas.Slice.Zip.{AllZip-long}
use mathlib.Core.Path.{fun_ext}
use Rattle.elf_image.specs.File.{image_of}
use Rattle.run_record.specs.declared.entry.Entry.{Entry}
use Rattle.run_record.specs.declared.entry.Label.{Label}
use Rattle.run_record.specs.declared.entry.DeskNote.TheVariants.{Attach, Leave}
use Rattle.run_record.specs.declared.limits.Limits.{Limits}
use Rattle.run_laws.specs.Moments.{Item, Moment, moments_in, entry_moments}
use Rattle.run_laws.specs.Labels.{Labels, labels, queue}
use Rattle.run_laws.specs.Present.{labels_now, label_now, queue_now}
use Rattle.run_laws.specs.Faithful.{Bare, state_after, has_needy, needs_slot}
use Rattle.turn_laws.specs.Going.{AreAlike, IsAlike}
use Rattle.turn_laws.proofs.Growth.{needs_last}
use Rattle.bare_machine.specs.World.{World}
use Rattle.bare_machine.specs.Step.{desk}
use Rattle.machine_laws.specs.Machine.{bare_of}
use Rattle.turn_orders.specs.Lists.{Each, In, SameMembers}
use Rattle.turn_orders.specs.Machine.{State, after}
use Rattle.turn_orders.specs.LineUp.{Stamped, calls, of_thread, last_local, last_value}
use Rattle.turn_orders.proofs.Members.{at_member, all_members, filter_append, filter_here, filter_in, each_parts}
use Rattle.turn_orders.proofs.Permuted.{same_members}
use Rattle.turn_histories.specs.Rounds.{IsIn}
use Rattle.turn_histories.proofs.Along.{world_over}
use Rattle.turn_histories.proofs.Alike.{same_items}
use Rattle.race_core.specs.History.{era_now}
use Rattle.shared_table.specs.declared.object.Object.{Object}
use Rattle.shared_table.specs.declared.view.Layout.{Layout}
use Rattle.woven_turns.specs.Weave.{LinesUp}
use Rattle.woven_turns.specs.Turns.{DrewStamp}
use Rattle.woven_turns.specs.Following.{left_after, deeds_of}
use Rattle.woven_turns.proofs.Weaving.{in_right}
use Rattle.woven_turns.proofs.Sorting.{sorted_line, same_thread, same_place}
use Rattle.placed_detector.specs.Standing.{Hand, Held}
use Rattle.deed_histories.specs.Lines.{HandDeed, acts_of, IsHandDeed, entries_of, moments_of, StandsStamped}
use Rattle.deed_histories.specs.Rounds.{hand_stamp}
use Rattle.deed_histories.proofs.Lines.{era_entry}
use Rattle.table_deeds.specs.Objects.{ObjectDeed, hand_deed, hand_deeds, held_at}
use Rattle.table_deeds.specs.Rounds.{TableRound, hands_in}
use Rattle.table_deeds.proofs.Left.{local_left_is, value_left_is}
use Rattle.table_deeds.proofs.Listing.{thread_of_deed}
use Rattle.table_deeds.proofs.Rounds.{OneRound, one_round}
use Rattle.hart_parts.specs.Parts.{Part, deeds_in, IsNeedy, SpendsIn, IfNext, IsFollowedBy, AreNoted, BeginsUnspent, IsPrivate}
use Rattle.hart_parts.specs.Rounds.{PartRound, table_round, IsPartRound}
use Rattle.hart_parts.proofs.Seats.{part_cases}
use Rattle.hart_parts.proofs.Rounds.{round_is, part_is, hands_of, deeds_with, deeds_without}
use Rattle.part_notes.proofs.Lists.{Cut, cut_at, first_of_kept, last_of_kept}
use Rattle.part_notes.proofs.Spots.{before}
use Rattle.part_notes.proofs.Notes.{SpendsLabel, NextOf, LastOf, Takes, IsNoted}
use Rattle.part_notes.proofs.Needs.{NeedsAt}
use Rattle.part_notes.proofs.Walk.{Hands, Watched, turn, first_part, last_part, advance}
use Rattle.part_notes.proofs.Calm.{HasThreads, threads_over, entry_calm}
use Rattle.part_notes.proofs.Found.{Found, found_first, label_is, takes_now, quiet_attach, NeedsSlot, has_one, one_has}

-- ---- eras, and alike moments

-- no era begins within entries
pub era_over : (g : ℕ) (h : List Moment) (es : List Entry) → era_now g (h ++ moments_of es) ≡ era_now g h
era_over g h [] = ap (era_now g) (append-nil h)
era_over g h (e ∷ es) =
    ap (era_now g) (sym (append_assoc h (entry_moments 0 e) (moments_of es))) ∙ (era_over g (h ++ entry_moments 0 e) es ∙ era_entry g h e)

-- the same stands after alike moments
alike_labels : (g : ℕ) (h k : List Moment) → AreAlike h k → labels_now g h ≡ labels_now g k
alike_labels g h k a =
    ap₂ (λ (f : ℕ → Item) (n : ℕ). labels g f n) (fun_ext (λ i. same_items h k i a)) (sym (AllZip-long IsAlike h k a))

alike_queue : (g slots : ℕ) (h k : List Moment) → AreAlike h k → queue_now g slots h ≡ queue_now g slots k
alike_queue g slots h k a =
    ap₂ (λ (f : ℕ → Item) (n : ℕ). queue g slots f n) (fun_ext (λ i. same_items h k i a)) (sym (AllZip-long IsAlike h k a))

-- ---- what is told of the deeds of a part

module _ (file : List ℕ) (limits : Limits) where
  noted_at : (xs : List ObjectDeed) (y : ObjectDeed) (zs : List ObjectDeed) → AreNoted file limits (xs ++ y ∷ zs) → IsFollowedBy file limits y zs
  noted_at [] y zs n = n.0
  noted_at (x ∷ xs) y zs n = noted_at xs y zs n.1

-- a list is empty, or has a last element
data LastView {X : Type 0} (xs : List X) : Type 0 where
  Empty : xs ≡ [] → LastView xs
  Last : (first : List X) (x : X) → xs ≡ first ++ x ∷ [] → LastView xs

last_view : {X : Type 0} (xs : List X) → LastView xs
last_view [] = Empty refl
last_view {X} (x ∷ xs) = elim (last_view xs) [
  | Empty none ↦ Last [] x (ap (λ (l : List X). x ∷ l) none)
  | Last first y is ↦ Last (x ∷ first) y (ap (λ (l : List X). x ∷ l) is)
]

-- a kept deed is one of the thread
kept_thread : (t : ℕ) (ds : List HandDeed) (x : HandDeed) → In x (of_thread t ds) → x.call.thread ≡ t
kept_thread t ds x i = eqb-true x.call.thread t (filter_in (λ (v : HandDeed). v.call.thread == t) x ds i).1

-- ---- one round

module _ (file : List ℕ) (limits : Limits) (ok : image_of file ≡ Ok file) (lay : Layout) (round era : ℕ) (m : State (Stamped Hand) Object) (r : PartRound)
    (hr : IsPartRound file limits lay round era m r) where
  abbrev pub tr : TableRound
  tr = table_round m r

  abbrev pub c : Hands
  c = held_at file limits m

  pub one : OneRound file limits lay round era m tr
  one = one_round file limits lay round era m tr (round_is file limits lay round era m r hr)

  abbrev made : List HandDeed
  made = one.it.made

  abbrev pub listed : List HandDeed
  listed = one.it.listed

  abbrev IsMade : HandDeed → Type 0
  IsMade = IsHandDeed file limits era

  place_stamp : Stamped Held → ℕ
  place_stamp v = v.last

  drew : Each (DrewStamp hand_stamp place_stamp) made
  unfolding place_stamp
  drew = all_members (DrewStamp hand_stamp place_stamp) made (λ d i.
      let is = at_member IsMade d made one.is_round.deeds i in
      let drawn = is.drawn in
      record { same = is.left_there; above_local = grind (arith, drawn); above_value = grind (arith, drawn) })

  same : SameMembers made listed
  same = same_members made listed one.is_round.permuted

  pub listed_each : Each IsMade listed
  listed_each = all_members IsMade listed (λ d i. at_member IsMade d made one.is_round.deeds ((same d).1 i))

  pub listed_line : LinesUp c listed
  listed_line = sorted_line hand_stamp place_stamp c made listed drew one.is_round.line one.is_round.sorted same

  -- in the listed order the deeds leave what they left as they were made
  pub listed_left : left_after c listed ≡ left_after c made
  listed_left =
      let threads = same_thread hand_stamp place_stamp c made listed drew one.is_round.line one.is_round.sorted same in
      let places = same_place hand_stamp place_stamp c made listed drew one.is_round.line one.is_round.sorted same in
      λ i. record {
        local = fun_ext (λ t. local_left_is c t listed ∙ (ap (last_local (c.local t)) (sym (threads t)) ∙ sym (local_left_is c t made))) i;
        value = fun_ext (λ k. value_left_is c k listed ∙ (ap (last_value (c.value k)) (sym (places k)) ∙ sym (value_left_is c k made))) i;
      }

  of_listed : (t : ℕ) → of_thread t listed ≡ of_thread t (hands_in file limits tr)
  of_listed t =
      sym (same_thread hand_stamp place_stamp c made listed drew one.is_round.line one.is_round.sorted same t) ∙ ap (of_thread t) one.made_is

  -- ---- a deed among those of its part

  record Its (front : List HandDeed) (d : HandDeed) (back : List HandDeed) : Type 0 where
    part : Part
    member : In part r.parts
    object : Object
    private : IsPrivate limits object
    cut : Cut (hand_deed file limits) (deeds_in object part) (of_thread d.call.thread front) d (of_thread d.call.thread back)

  split_thread : (t : ℕ) (front : List HandDeed) (d : HandDeed) (back : List HandDeed) → d.call.thread ≡ t → listed ≡ front ++ d ∷ back →
      of_thread t listed ≡ of_thread t front ++ d ∷ of_thread t back
  split_thread t front d back mine whole =
      let is_its = λ (x : HandDeed). x.call.thread == t in
      ap (of_thread t) whole
      ∙ (filter_append is_its front (d ∷ back)
      ∙ ap (λ (l : List HandDeed). of_thread t front ++ l) (filter_here is_its d back (eq-eqb d.call.thread t mine)))

  its_part : (front : List HandDeed) (d : HandDeed) (back : List HandDeed) → listed ≡ front ++ d ∷ back → Its front d back
  its_part front d back whole =
      let t = d.call.thread in
      let told = sym (of_listed t ∙ hands_of file limits lay round era m r hr t) ∙ split_thread t front d back refl whole in
      elim (part_cases m r.first_seat r.parts t hr.apart) [
        | inl q ↦
            let deeds = sym (ap (hand_deeds file limits) (deeds_with file limits lay round era m r hr t q)) ∙ told in
            let x = m.value (desk + 1 + q.part.thread) in
            record {
              part = q.part;
              member = q.member;
              object = x;
              private = hr.private (desk + 1 + q.part.thread) (omega arith);
              cut = cut_at (hand_deed file limits) (deeds_in x q.part) (of_thread t front) d (of_thread t back) deeds;
            }
        | inr q ↦
            let none = sym (ap (hand_deeds file limits) (deeds_without file limits lay round era m r hr t q)) ∙ told in
            absurd (let z = ap (λ (l : List HandDeed). length l) none in omega (arith, z, length-append (of_thread t front) (d ∷ of_thread t back)))
      ]

  noted_part : (front : List HandDeed) (d : HandDeed) (back : List HandDeed) (i : Its front d back) → AreNoted file limits (deeds_in i.object i.part)
  noted_part front d back i = (part_is file limits lay round era m r hr i.part i.member).notes i.object i.private

  -- ---- the next deed of the thread, and the one before

  others_of : (t : ℕ) (ds : List HandDeed) → Each (λ (x : HandDeed). (x.call.thread == t) ≡ false) ds → Each IsMade ds →
      Each (λ (e : Entry). e.tid ≢ t) (entries_of ds)
  others_of t [] apart each = tt
  others_of t (d ∷ ds) apart each = (
    (λ q. eqb-false d.call.thread t apart.0 (sym (thread_of_deed file limits era d each.0) ∙ q)),
    others_of t ds apart.1 each.1,
  )

  inside : Each (IsIn round era) (entries_of listed)
  inside = one.is_round.inside

  in_round_of : (front : List HandDeed) (d : HandDeed) (back : List HandDeed) → listed ≡ front ++ d ∷ back → IsIn round era d.told.entry
  in_round_of front d back whole =
      let all = subst (Each (IsIn round era)) (ap entries_of whole ∙ map-append (λ (x : HandDeed). x.told.entry) front (d ∷ back)) inside in
      (each_parts (IsIn round era) (entries_of front) (entries_of (d ∷ back)) all).1.0

  made_of : (front : List HandDeed) (d : HandDeed) (back : List HandDeed) → listed ≡ front ++ d ∷ back → IsMade d × Each IsMade back
  made_of front d back whole = (each_parts IsMade front (d ∷ back) (subst (Each IsMade) whole listed_each)).1

  made_front : (front : List HandDeed) (d : HandDeed) (back : List HandDeed) → listed ≡ front ++ d ∷ back → Each IsMade front
  made_front front d back whole = (each_parts IsMade front (d ∷ back) (subst (Each IsMade) whole listed_each)).0

  -- ---- beside the history

  module _ (machine : Watched) (w : World) (h : List Moment) (done later : List Entry) (s : StandsStamped file limits c machine w h)
      (era_is : era_now limits.epochs h ≡ era) (threads : HasThreads file limits.harts w)
      (alike : (es : List Entry) → Each (IsIn round era) es → AreAlike (h ++ moments_of es) (moments_in round era (done ++ es)))
      (world : w ≡ state_after (bare_of file limits.harts) done) where
    abbrev bare : Bare World
    bare = bare_of file limits.harts

    abbrev all : List Entry
    all = done ++ (entries_of listed ++ later)

    abbrev here : List HandDeed → List Moment
    here front = h ++ moments_of (entries_of front)

    abbrev then : List HandDeed → World
    then front = world_over file limits.harts w (entries_of front)

    module _ (front : List HandDeed) (d : HandDeed) (back : List HandDeed) (whole : listed ≡ front ++ d ∷ back) where
      abbrev earlier : List Entry
      earlier = done ++ entries_of front

      abbrev e : Entry
      e = d.told.entry

      abbrev following : List Entry
      following = entries_of back ++ later

      all_is : all ≡ earlier ++ e ∷ following
      all_is =
          ap (λ (ds : List HandDeed). done ++ (entries_of ds ++ later)) whole
          ∙ (ap (λ (es : List Entry). done ++ (es ++ later)) (map-append (λ (x : HandDeed). x.told.entry) front (d ∷ back))
          ∙ (ap (λ (es : List Entry). done ++ es) (append_assoc (entries_of front) (entries_of (d ∷ back)) later)
          ∙ sym (append_assoc done (entries_of front) (e ∷ following))))

      line : LinesUp c (front ++ d ∷ back)
      line = subst (LinesUp c) whole listed_line

      first_made : Each (IsHandDeed file limits (era_now limits.epochs h)) front
      first_made = subst (λ (n : ℕ). Each (IsHandDeed file limits n) front) (sym era_is) (made_front front d back whole)

      -- what the deed finds
      pub find : Found file limits ok era d (then front) (here front)
      find =
          let a = advance file limits ok front c machine w h (first_part c front (d ∷ back) line) first_made s in
          found_first file limits ok era d back (left_after c front) (after (turn file limits ok) machine
          (calls (deeds_of (turn file limits ok) acts_of machine front))) (then front) (here front)
          (last_part c front (d ∷ back) line) (made_of front d back whole).0 (era_over limits.epochs h (entries_of front) ∙ era_is) a.stands

      threads_there : HasThreads file limits.harts (then front)
      threads_there =
          let a = advance file limits ok front c machine w h (first_part c front (d ∷ back) line) first_made s in
          threads_over file limits.harts w (deeds_of (turn file limits ok) acts_of machine front) (entries_of front) a.facts threads

      alike_here : AreAlike (here front) (before earlier e)
      alike_here =
          let i = in_round_of front d back whole in
          let all_in = subst (Each (IsIn round era)) (ap entries_of whole ∙ map-append (λ (x : HandDeed). x.told.entry) front (d ∷ back)) inside in
          subst (λ (n : ℕ). AreAlike (here front) (moments_in n e.era earlier)) (sym i.round)
          (subst (λ (n : ℕ). AreAlike (here front) (moments_in round n earlier)) (sym i.era)
          (alike (entries_of front) (each_parts (IsIn round era) (entries_of front) (entries_of (d ∷ back)) all_in).0))

      labels_here : labels_now limits.epochs (here front) ≡ labels_now limits.epochs (before earlier e)
      labels_here = alike_labels limits.epochs (here front) (before earlier e) alike_here

      label_with : Labels → Option Label
      label_with l = option_map (λ (sid : ℕ). record { sid = sid; epoch = l.epoch sid; era = l.era }) (l.slot_of e.tid)

      -- it found its thread's label
      pub label_found : d.local_found.state.watched.label ≡ label_now limits.epochs (before earlier e) e.tid
      unfolding label_with
      label_found = label_is file limits ok era d (then front) (here front) find ∙ ap label_with labels_here

      world_is : then front ≡ state_after bare earlier
      world_is =
          ap (λ (x : World). world_over file limits.harts x (entries_of front)) world
          ∙ sym (fold-append (λ (x : World) (f : Entry). Rattle.run_laws.specs.Faithful.after bare x f.tid f.steps) bare.start done (entries_of front))

      -- whether the entry needs a slot
      pub needs_here : needs_slot bare all (length earlier) ≡ has_needy bare (then front) e
      needs_here =
          ap (λ (es : List Entry). needs_slot bare es (length earlier)) all_is
          ∙ (needs_last bare earlier e following ∙ ap (λ (x : World). has_needy bare x e) (sym world_is))

      its : Its front d back
      its = its_part front d back whole

      followed : IsFollowedBy file limits its.cut.it its.cut.others
      followed = noted_at file limits its.cut.first its.cut.it its.cut.others
          (subst (AreNoted file limits) its.cut.whole (noted_part front d back its))

    -- ---- the next deed

    record NextDeed (front : List HandDeed) (d : HandDeed) (back : List HandDeed) (z : ObjectDeed) : Type 0 where
      mid : List HandDeed
      tail : List HandDeed
      whole : back ≡ mid ++ hand_deed file limits z ∷ tail
      next : NextOf d.told.entry (entries_of back ++ later)
      mid_is : next.mid ≡ entries_of mid
      entry_is : next.entry ≡ z.told.entry

    next_deed : (front : List HandDeed) (d : HandDeed) (back : List HandDeed) → listed ≡ front ++ d ∷ back → (z : ObjectDeed) (zs : List ObjectDeed) →
        hand_deeds file limits (z ∷ zs) ≡ of_thread d.call.thread back → NextDeed front d back z
    next_deed front d back whole z zs others =
        let t = d.call.thread in
        let is_its = λ (x : HandDeed). x.call.thread == t in
        let it = hand_deed file limits z in
        let q = first_of_kept is_its back it (hand_deeds file limits zs) (sym others) in
        let made = made_of front d back whole in
        let parts = each_parts IsMade q.mid (it ∷ q.tail) (subst (Each IsMade) q.whole made.1) in
        let own = thread_of_deed file limits era d made.0 in
        let its_own : it.call.thread ≡ t = kept_thread t back it (subst (λ (ds : List HandDeed). In it ds) others (inl refl)) in
        let round_d = in_round_of front d back whole in
        let again : listed ≡ (front ++ d ∷ q.mid) ++ it ∷ q.tail =
        whole ∙ (ap (λ (ds : List HandDeed). front ++ d ∷ ds) q.whole ∙ sym (append_assoc front (d ∷ q.mid) (it ∷ q.tail))) in
        let round_z = in_round_of (front ++ d ∷ q.mid) it q.tail again in
        record {
          mid = q.mid;
          tail = q.tail;
          whole = q.whole;
          next = record {
            mid = entries_of q.mid;
            entry = z.told.entry;
            tail = entries_of q.tail ++ later;
            whole =
                ap (λ (ds : List HandDeed). entries_of ds ++ later) q.whole
                ∙ (ap (λ (es : List Entry). es ++ later) (map-append (λ (x : HandDeed). x.told.entry) q.mid (it ∷ q.tail))
                ∙ append_assoc (entries_of q.mid) (entries_of (it ∷ q.tail)) later);
            others = subst (λ (u : ℕ). Each (λ (x : Entry). x.tid ≢ u) (entries_of q.mid)) (sym own) (others_of t q.mid q.none parts.0);
            thread = thread_of_deed file limits era it parts.1.0 ∙ (its_own ∙ sym own);
            round = round_z.round ∙ sym round_d.round;
          };
          mid_is = refl;
          entry_is = refl;
        }

    -- ---- the deed before

    record LastDeed (front : List HandDeed) (d : HandDeed) (z : ObjectDeed) : Type 0 where
      first : List HandDeed
      mid : List HandDeed
      whole : front ≡ first ++ hand_deed file limits z ∷ mid
      last : LastOf (done ++ entries_of front) d.told.entry
      front_is : last.front ≡ done ++ entries_of first
      entry_is : last.entry ≡ z.told.entry

    last_deed : (front : List HandDeed) (d : HandDeed) (back : List HandDeed) → listed ≡ front ++ d ∷ back → (zs : List ObjectDeed) (z : ObjectDeed) →
        hand_deeds file limits (zs ++ z ∷ []) ≡ of_thread d.call.thread front → LastDeed front d z
    last_deed front d back whole zs z before =
        let t = d.call.thread in
        let is_its = λ (x : HandDeed). x.call.thread == t in
        let it = hand_deed file limits z in
        let parted = map-append (hand_deed file limits) zs (z ∷ []) in
        let q = last_of_kept is_its front (hand_deeds file limits zs) it (sym before ∙ parted) in
        let made = made_of front d back whole in
        let parts = each_parts IsMade q.front (it ∷ q.mid) (subst (Each IsMade) q.whole (made_front front d back whole)) in
        let its_own : it.call.thread ≡ t = kept_thread t front it
        (subst (λ (ds : List HandDeed). In it ds) (sym parted ∙ before) (in_right it (hand_deeds file limits zs) (it ∷ []) (inl refl))) in
        let own = thread_of_deed file limits era it parts.1.0 in
        let round_d = in_round_of front d back whole in
        let again : listed ≡ q.front ++ it ∷ (q.mid ++ d ∷ back) =
        whole ∙ (ap (λ (ds : List HandDeed). ds ++ d ∷ back) q.whole ∙ append_assoc q.front (it ∷ q.mid) (d ∷ back)) in
        let round_z = in_round_of q.front it (q.mid ++ d ∷ back) again in
        record {
          first = q.front;
          mid = q.mid;
          whole = q.whole;
          last = record {
            front = done ++ entries_of q.front;
            entry = z.told.entry;
            mid = entries_of q.mid;
            whole =
                ap (λ (ds : List HandDeed). done ++ entries_of ds) q.whole
                ∙ (ap (λ (es : List Entry). done ++ es) (map-append (λ (x : HandDeed). x.told.entry) q.front (it ∷ q.mid))
                ∙ sym (append_assoc done (entries_of q.front) (entries_of (it ∷ q.mid))));
            others = subst (λ (u : ℕ). Each (λ (x : Entry). x.tid ≢ u) (entries_of q.mid)) (sym (own ∙ its_own)) (others_of t q.mid q.none parts.1.1);
            thread = thread_of_deed file limits era d made.0 ∙ sym (own ∙ its_own);
            round = round_d.round ∙ sym round_z.round;
          };
          front_is = refl;
          entry_is = refl;
        }

    -- ---- the notes

    module _ (front : List HandDeed) (d : HandDeed) (back : List HandDeed) (whole : listed ≡ front ++ d ∷ back) where
      abbrev before_it : List Entry
      before_it = done ++ entries_of front

      abbrev it : Entry
      it = d.told.entry

      abbrev needs : ℕ → Bool
      needs = needs_slot bare all

      abbrev own : Its front d back
      own = its front d back whole

      abbrev found : Found file limits ok era d (then front) (here front)
      found = find front d back whole

      -- the worker's deed is the listed one
      same_deed : hand_deed file limits own.cut.it ≡ d
      same_deed = own.cut.is

      needy_is : NeedsSlot file limits ok era d (then front) (here front) found → IsNeedy file limits own.cut.it
      needy_is n = record {
        step = n.step;
        within = subst (λ (x : HandDeed). n.step < x.told.entry.steps) (sym same_deed) n.within;
        needs = subst (λ (x : HandDeed).
            NeedsAt file limits.harts ok x.call.thread x.call.place x.local_found.state.bare x.found.state.bare n.step) (sym same_deed) n.needs;
      }

      labelled : needs (length before_it) ≡ true → label_now limits.epochs (before before_it it) it.tid ≢ None
      labelled q none =
          let n = needy_is (one_has file limits ok era d (then front) (here front) found (sym (needs_here front d back whole) ∙ q)) in
          (followed front d back whole).labelled n
          (ap (λ (x : HandDeed). x.local_found.state.watched.label) same_deed ∙ (label_found front d back whole ∙ none))

      note_is : own.cut.it.told.entry ≡ it
      note_is = ap (λ (x : HandDeed). x.told.entry) same_deed

      takes : (l : Label) → it.note ≡ Attach l → Takes limits before_it it l
      takes l is =
          let t = takes_now file limits ok era d (then front) (here front) found l is in
          let same = labels_here front d back whole in
          record {
            unlabelled = ap (λ (x : Labels). x.slot_of it.tid) (sym same) ∙ t.unlabelled;
            rest = t.rest;
            front = sym (alike_queue limits.epochs limits.slots (here front) (before before_it it) (alike_here front d back whole)) ∙ t.front;
            new_epoch = t.new_epoch ∙ ap (λ (x : Labels). x.epoch l.sid + 1) same;
            present_era = t.present_era ∙ ap (λ (x : Labels). x.era) same;
          }

      -- the next deed of the thread, of which that is told
      follows_with : (P : ObjectDeed → Type 0) → (zs : List ObjectDeed) → hand_deeds file limits zs ≡ of_thread d.call.thread back → IfNext zs P →
          (z : ObjectDeed) × P z × NextDeed front d back z
      follows_with P [] others n = absurd n
      follows_with P (z ∷ zs) others n = (z, n, next_deed front d back whole z zs others)

      needed : (l : Label) → it.note ≡ Attach l → (n : NextOf it (entries_of back ++ later)) × (needs (length (before_it ++ it ∷ n.mid)) ≡ true)
      needed l is =
          let x = follows_with (IsNeedy file limits) own.cut.others own.cut.rest
          ((followed front d back whole).needed l (ap (λ (e : Entry). e.note) note_is ∙ is)) in
          let z = x.0 in
          let n = x.2 in
          let next = hand_deed file limits z in
          let again : listed ≡ (front ++ d ∷ n.mid) ++ next ∷ n.tail =
          whole ∙ (ap (λ (ds : List HandDeed). front ++ d ∷ ds) n.whole ∙ sym (append_assoc front (d ∷ n.mid) (next ∷ n.tail))) in
          let there = find (front ++ d ∷ n.mid) next n.tail again in
          let needy : NeedsSlot file limits ok era next (then (front ++ d ∷ n.mid)) (here (front ++ d ∷ n.mid)) there =
          record { step = x.1.step; within = x.1.within; needs = x.1.needs } in
          let number : done ++ entries_of (front ++ d ∷ n.mid) ≡ before_it ++ it ∷ n.next.mid =
          ap (λ (es : List Entry). done ++ es) (map-append (λ (y : HandDeed). y.told.entry) front (d ∷ n.mid))
          ∙ (sym (append_assoc done (entries_of front) (it ∷ entries_of n.mid)) ∙ ap (λ (es : List Entry). before_it ++ it ∷ es) (sym n.mid_is)) in (
            n.next,
            ap (λ (es : List Entry). needs (length es)) (sym number)
                ∙ (needs_here (front ++ d ∷ n.mid) next n.tail again
                ∙ has_one file limits ok era next (then (front ++ d ∷ n.mid)) (here (front ++ d ∷ n.mid)) there needy),
          )

      left : (l : Label) → SpendsLabel limits before_it it l → (n : NextOf it (entries_of back ++ later)) × (n.entry.note ≡ Leave l)
      left l s =
          let spends : SpendsIn limits own.cut.it l = record {
            before = s.first;
            event = s.event;
            last = ap (λ (e : Entry). e.events) note_is ∙ s.events;
            raising = s.raising;
            label = ap (λ (x : HandDeed). x.local_found.state.watched.label) same_deed ∙ (label_found front d back whole ∙ s.label);
            greatest = s.greatest;
          } in
          let x = follows_with (λ (z : ObjectDeed). z.told.entry.note ≡ Leave l) own.cut.others own.cut.rest ((followed front d back whole).left l spends) in
          (x.2.next, ap (λ (e : Entry). e.note) x.2.entry_is ∙ x.1)

      left_only : (l : Label) → it.note ≡ Leave l → (n : LastOf before_it it) × SpendsLabel limits n.front n.entry l
      left_only l is = go own.cut.first (last_view own.cut.first) own.cut.whole own.cut.firsts
        where
          noted : own.cut.it.told.entry.note ≡ Leave l
          noted = ap (λ (e : Entry). e.note) note_is ∙ is

          go : (xs : List ObjectDeed) → LastView xs → deeds_in own.object own.part ≡ xs ++ own.cut.it ∷ own.cut.others →
              hand_deeds file limits xs ≡ of_thread d.call.thread front → (n : LastOf before_it it) × SpendsLabel limits n.front n.entry l
          go xs (Empty none) deeds firsts =
              let begins = (part_is file limits lay round era m r hr own.part own.member).unspent own.object in
              let first = deeds ∙ ap (λ (ys : List ObjectDeed). ys ++ own.cut.it ∷ own.cut.others) none in
              absurd (subst BeginsUnspent first begins l noted)
          go xs (Last zs z last) deeds firsts =
              let at : deeds_in own.object own.part ≡ zs ++ z ∷ (own.cut.it ∷ own.cut.others) =
              deeds ∙ (ap (λ (ys : List ObjectDeed). ys ++ own.cut.it ∷ own.cut.others) last ∙ append_assoc zs (z ∷ []) (own.cut.it ∷ own.cut.others)) in
              let f = noted_at file limits zs z (own.cut.it ∷ own.cut.others) (subst (AreNoted file limits) at (noted_part front d back own)) in
              let s = f.left_only own.cut.it own.cut.others l refl noted in
              let p = last_deed front d back whole zs z (ap (hand_deeds file limits) (sym last) ∙ firsts) in
              let it_was = hand_deed file limits z in
              let again : listed ≡ p.first ++ it_was ∷ (p.mid ++ d ∷ back) =
              whole ∙ (ap (λ (ds : List HandDeed). ds ++ d ∷ back) p.whole ∙ append_assoc p.first (it_was ∷ p.mid) (d ∷ back)) in
              let spends : SpendsLabel limits (done ++ entries_of p.first) z.told.entry l = record {
                first = s.before;
                event = s.event;
                events = s.last;
                raising = s.raising;
                label = sym (label_found p.first it_was (p.mid ++ d ∷ back) again) ∙ s.label;
                greatest = s.greatest;
              } in (
                p.last,
                subst (λ (x : Entry). SpendsLabel limits p.last.front x l) (sym p.entry_is)
                    (subst (λ (es : List Entry). SpendsLabel limits es z.told.entry l) (sym p.front_is) spends),
              )

      pub is_noted : IsNoted limits needs before_it it (entries_of back ++ later)
      is_noted = record {
        labelled = labelled;
        takes = takes;
        needed = needed;
        left = left;
        left_only = left_only;
        calm = entry_calm file limits.harts (then front) it d.call.place found.facts (threads_there front d back whole);
        quiet = quiet_attach file limits ok era d (then front) (here front) found;
      }
