-- A round whose parts are those of the live threads, each with its share, is a round of threads that run at once.
use Rattle.std.proofs.Common.{◌≡◌, ◌<◌, ◌≤◌, ℕ, zero, suc, ◌+◌, min, Bool, true, false, cond, List, [], ◌∷◌, ◌++◌, length, Option, Some, None, inl, inr, refl, sym, ap, ap₂, subst, ◌∙◌, arith, eq-eqb}
use Rattle.std.specs.Prelude.{◌/◌, ◌==◌, ◌&&◌, ◌||◌, nat_lt, map, find, is_some, is_none, All, Ok}
use Rattle.std.specs.List.{list_any}
use Rattle.std.specs.Option.{option_or}
use Rattle.std.proofs.lemmas.Bool.{cases_Bool, cases_eq, lt-ltb, ltb-true}
use Rattle.std.proofs.lemmas.List.Elements.{All-nil, All-cons}
use Rattle.run_record.specs.declared.entry.Entry.{Entry}
use Rattle.run_record.specs.declared.limits.Limits.{Limits}
use Rattle.run_record.specs.declared.finished.GuestEnd.{GuestEnd}
use Rattle.run_record.specs.declared.finished.GuestEnd.TheVariants.{AllEnded}
use Rattle.elf_image.specs.File.{image_of}
use Rattle.run_laws.specs.Numbers.{up_from}
use Rattle.run_laws.specs.Present.{label_now}
use Rattle.run_laws.specs.Faithful.{AtOnce, state_after}
use Rattle.run_laws.specs.Rounds.{Progress, Due, dues, live_in, steps_by, moments_with, is_starved, MayFindNone, MakesDue, IsInRound, IsRound, end_in}
use Rattle.bare_machine.specs.World.{World, lives}
use Rattle.bare_machine.specs.Preview.{needs_slot}
use Rattle.bare_machine.specs.Step.{desk}
use Rattle.turn_orders.specs.Lists.{Each, In}
use Rattle.turn_orders.specs.Machine.{State}
use Rattle.turn_orders.specs.LineUp.{Stamped}
use Rattle.placed_detector.specs.Standing.{Hand, Held}
use Rattle.run_record.specs.declared.entry.Label.{Label}
use Rattle.turn_orders.proofs.Members.{at_member, all_members, filter_in, in_filter}
use Rattle.turn_histories.specs.Rounds.{IsIn}
use Rattle.shared_table.specs.declared.object.DeskState.{DeskState}
use Rattle.shared_table.specs.declared.view.Layout.{Layout}
use Rattle.woven_turns.specs.Following.{left_after}
use Rattle.deed_histories.specs.Lines.{HandDeed, IsHandDeed, entries_of}
use Rattle.table_deeds.specs.Objects.{ObjectDeed, hand_deed, hand_deeds, part_in, held_at}
use Rattle.table_deeds.specs.Rounds.{made_in, IsTableRound}
use Rattle.table_deeds.proofs.Listing.{thread_of_deed}
use Rattle.table_deeds.proofs.Lines.{lines_up, all_left}
use Rattle.hart_parts.specs.Parts.{Part, Try, HasEnded, IsStarved, left_in, steps_made, IsPart}
use Rattle.hart_parts.specs.Rounds.{PartRound, table_round, IsPartRound}
use Rattle.whole_parts.specs.Dues.{share, threads_of, IsDueRound}
use Rattle.whole_parts.proofs.Standing.{bare, Stood}
use Rattle.whole_parts.proofs.Listed.{Objects, Is, each_hand, deeds, line, listed, entries_are, same, listed_deeds, after_all}
use Rattle.whole_parts.proofs.Tries.{may_find_none}
use Rattle.whole_parts.proofs.Desks.{TellsOf, tells_of}
use Rattle.whole_parts.proofs.New.{AreNew, line_new, threads_grow}
use Rattle.whole_parts.proofs.Threads.{lives_inside, ended_dead, wants_needs, no_label}
use Rattle.hart_parts.proofs.Rounds.{part_is, part_left, round_is}
use Rattle.whole_parts.proofs.Seats.{n, steps_are, try_stands}

-- ---- lists and tests

module _ {X : Type 0} (p : X → Bool) where
  -- one that passes
  record Passing (xs : List X) : Type 0 where
    it : X
    in_list : In it xs
    passes : p it ≡ true

  any_in : (xs : List X) → list_any p xs ≡ true → Passing xs
  any_in [] q = absurd (cc)
  any_in (x ∷ xs) q = elim (cases_Bool (p x)) [
    | inl holds ↦ record { it = x; in_list = inl refl; passes = holds }
    | inr fails ↦
        let rest = any_in xs (sym (ap (λ (b : Bool). b || list_any p xs) fails) ∙ q) in
        record { it = rest.it; in_list = inr rest.in_list; passes = rest.passes }
  ]

  pub in_any : (xs : List X) (x : X) → In x xs → p x ≡ true → list_any p xs ≡ true
  in_any [] x i q = absurd i
  in_any (y ∷ ys) x (inl e) q = ap (λ (b : Bool). b || list_any p ys) (ap p (sym e) ∙ q)
  in_any (y ∷ ys) x (inr i) q = elim (cases_Bool (p y)) [
    | inl holds ↦ ap (λ (b : Bool). b || list_any p ys) holds
    | inr fails ↦ ap (λ (b : Bool). b || list_any p ys) fails ∙ in_any ys x i q
  ]

both_ways : (a b : Bool) → (a ≡ true → b ≡ true) → (b ≡ true → a ≡ true) → a ≡ b
both_ways true b f g = sym (f refl)
both_ways false true f g = g refl
both_ways false false f g = refl

all_four : (a b c d : Bool) → a ≡ true → b ≡ true → c ≡ true → d ≡ true → (a && b && c && d) ≡ true
all_four true true true true p q r s = refl
all_four false b c d p q r s = absurd (cc)
all_four true false c d p q r s = absurd (cc)
all_four true true false d p q r s = absurd (cc)
all_four true true true false p q r s = absurd (cc)

first_two : (a b c d : Bool) → (a && b && c && d) ≡ true → (a ≡ true) × (b ≡ true)
first_two true true c d q = (refl, refl)
first_two true false c d q = absurd (cc)
first_two false true c d q = absurd (cc)
first_two false false c d q = absurd (cc)

pub all_of_each : {X : Type 0} (P : X → Type 0) (xs : List X) → Each P xs → All P xs
all_of_each P [] h = All-nil P
all_of_each P (x ∷ xs) h = All-cons P x xs h.0 (all_of_each P xs h.1)

in_map : {X Y : Type 0} (f : X → Y) (xs : List X) (x : X) → In x xs → In (f x) (map f xs)
in_map f [] x i = absurd i
in_map f (y ∷ ys) x (inl e) = inl (ap f e)
in_map f (y ∷ ys) x (inr i) = inr (in_map f ys x i)

record From {X Y : Type 0} (f : X → Y) (xs : List X) (y : Y) : Type 0 where
  it : X
  in_list : In it xs
  is : y ≡ f it

from_map : {X Y : Type 0} (f : X → Y) (xs : List X) (y : Y) → In y (map f xs) → From f xs y
from_map f [] y i = absurd i
from_map f (x ∷ xs) y (inl e) = record { it = x; in_list = inl refl; is = e }
from_map f (x ∷ xs) y (inr i) = (let r = from_map f xs y i in record { it = r.it; in_list = inr r.in_list; is = r.is })

in_numbers : (k n t : ℕ) → k ≤ t → t < k + n → In t (up_from k n)
in_numbers k zero t a b = absurd (omega (arith, a, b))
in_numbers k (suc n) t a b = elim (cases_eq t k) [
  | inl e ↦ inl e
  | inr ne ↦ inr (in_numbers (suc k) n t (omega (arith, a, ne)) (omega (arith, b)))
]

module _ (file : List ℕ) (limits : Limits) where
  -- the live threads are those that live
  pub live_lives : (w : World) (t : ℕ) → In t (live_in (bare file limits) w) → lives w t ≡ true
  live_lives w t i = (filter_in (lives w) t (up_from 0 (length w.threads)) i).1

  pub lives_live : (w : World) (t : ℕ) → lives w t ≡ true → In t (live_in (bare file limits) w)
  lives_live w t l = in_filter (lives w) t (up_from 0 (length w.threads))
      (in_numbers 0 (length w.threads) t (omega arith) (let a = lives_inside w.threads t l in omega (arith, a))) l

  -- ---- how a run goes on

  some_found : (xs : List ℕ) → 0 < length xs → is_some (find (λ (t : ℕ). true) xs) ≡ true
  some_found [] l = absurd (omega (arith, l))
  some_found (x ∷ xs) l = refl

  none_found : (xs : List ℕ) → length xs ≡ 0 → is_some (find (λ (t : ℕ). true) xs) ≡ false
  none_found [] l = refl
  none_found (x ∷ xs) l = absurd (omega (arith, l))

  -- it hasn't ended while no exit or fault was and some thread lives
  pub end_none : (w : World) → w.ended ≡ None → 0 < length (live_in (bare file limits) w) → end_in (bare file limits) w ≡ None
  end_none w q l = ap₂ (λ (o : Option GuestEnd) (b : Bool). option_or o (cond b None (Some AllEnded))) q (some_found (live_in (bare file limits) w) l)

  pub end_all : (w : World) → w.ended ≡ None → length (live_in (bare file limits) w) ≡ 0 → end_in (bare file limits) w ≡ Some AllEnded
  end_all w q l = ap₂ (λ (o : Option GuestEnd) (b : Bool). option_or o (cond b None (Some AllEnded))) q (none_found (live_in (bare file limits) w) l)

  pub end_first : (w : World) (end : GuestEnd) → w.ended ≡ Some end → end_in (bare file limits) w ≡ Some end
  end_first w end q = ap (λ (o : Option GuestEnd). option_or o (cond (is_some (find (λ (t : ℕ). true) (live_in (bare file limits) w))) None (Some AllEnded))) q

  abbrev pub due : ℕ → ℕ → Due
  due given t = record { tid = t; given = given }

  -- each due gives the same
  pub gives_some : (given : ℕ) (ts : List ℕ) → 0 < given → 0 < length ts → list_any (λ (d : Due). nat_lt 0 d.given) (map (due given) ts) ≡ true
  gives_some given [] l s = absurd (omega (arith, s))
  gives_some given (t ∷ ts) l s = ap (λ (b : Bool). b || list_any (λ (d : Due). nat_lt 0 d.given) (map (due given) ts)) (lt-ltb 0 given l)

  pub gives_none : (given : ℕ) (ts : List ℕ) → given ≡ 0 → list_any (λ (d : Due). nat_lt 0 d.given) (map (due given) ts) ≡ false
  gives_none given [] z = refl
  gives_none given (t ∷ ts) z =
      ap (λ (b : Bool). b || list_any (λ (d : Due). nat_lt 0 d.given) (map (due given) ts)) (ap (nat_lt 0) z) ∙ gives_none given ts z

  module _ (ok : image_of file ≡ Ok file) (lay : Layout) (p : Progress) (m : Objects file limits) (r : PartRound)
      (h : IsPartRound file limits lay p.round p.era m r)
      (s : Stood file limits (held_at file limits m) p.round p.era p.entries) (new : AreNew (part_in file desk (m.value desk)))
      (is_due : IsDueRound limits p.remaining m r) where
    table : IsTableRound file limits lay p.round p.era m (table_round m r)
    table = round_is file limits lay p.round p.era m r h

    abbrev opened : DeskState
    opened = is_due.opened

    abbrev w : World
    w = state_after (bare file limits) p.entries

    -- the world at the round's end
    abbrev later : World
    later = state_after (bare file limits) (p.entries ++ r.entries)

    abbrev left_there : Objects file limits
    left_there = left_after m (made_in (table_round m r))

    pub tells : TellsOf file limits opened w
    tells = tells_of file limits m p.round p.era p.entries s opened is_due.at_desk

    pub ended : Stood file limits (held_at file limits left_there) p.round p.era (p.entries ++ r.entries)
    ended = after_all file limits lay p.round p.era m (table_round m r) table ok p.entries s

    pub new_then : AreNew (part_in file desk (left_there.value desk))
    new_then =
        let ds = made_in (table_round m r) in
        subst (λ (c : State (Stamped Hand)
        (Stamped Held)). AreNew (c.value desk).state.bare) (all_left file limits m ds)
        (line_new file limits p.era (hand_deeds file limits ds) (held_at file limits m)
        (lines_up file limits m ds (line file limits lay p.round p.era m (table_round m r) table))
        (each_hand file limits (IsHandDeed file limits p.era) ds (deeds file limits lay p.round p.era m (table_round m r) table)) new)

    abbrev live : List ℕ
    live = live_in (bare file limits) w

    abbrev given : ℕ
    given = min limits.quantum (p.remaining / length live)

    given_is : given ≡ share limits p.remaining opened
    given_is = ap (λ (n : ℕ). min limits.quantum (p.remaining / n)) tells.live_are

    -- the live threads are those of the parts
    live_part : (t : ℕ) → In t live → In t (threads_of r)
    live_part t i = (is_due.threads t).1 (sym (tells.lives_are t) ∙ live_lives w t i)

    part_live : (t : ℕ) → In t (threads_of r) → In t live
    part_live t i = lives_live w t (tells.lives_are t ∙ (is_due.threads t).0 i)

    -- ---- one part

    module _ (q : Part) (i : In q r.parts) where
      abbrev t : ℕ
      t = q.thread

      abbrev it : Due
      it = due q.given t

      its : IsPart file limits p.era q
      its = part_is file limits lay p.round p.era m r h q i

      its_steps : steps_by t r.entries ≡ steps_made file limits q
      its_steps = steps_are file limits lay p.round p.era m r h q i

      its_left : left_there.local t ≡ left_in q
      its_left = part_left file limits lay p.round p.era m r h q i

      in_round : In t (threads_of r)
      in_round = in_map (λ (x : Part). x.thread) r.parts q i

      still_made : t < length later.threads
      still_made =
          let a = lives_inside w.threads t (live_lives w t (part_live t in_round)) in
          let b = threads_grow file limits.harts p.entries r.entries in
          omega (arith, a, b)

      its_thread : (left_there.local t).state.bare.thread ≡ (left_in q).state.bare.thread
      its_thread = ap (λ (l : Stamped Hand). l.state.bare.thread) its_left

      -- a part that was starved is that of a thread which the history has as starved
      starved : steps_made file limits q < q.given → IsStarved file limits q → is_starved limits (bare file limits) p r.entries it ≡ true
      starved few st =
          let wants = wants_needs file limits left_there p.round p.era (p.entries ++ r.entries) ended new_then t
          (left_in q).state.bare.thread its_thread st.wants still_made in
          let unlabelled : (left_there.local t).state.watched.label ≡ None =
          ap (λ (l : Stamped Hand). l.state.watched.label) its_left ∙ st.unlabelled in
          let none = no_label file limits left_there p.round p.era (p.entries ++ r.entries) ended new_then t unlabelled in
          all_four (nat_lt (steps_by t r.entries) q.given) (lives later t) (needs_slot file later t)
          (is_none (label_now limits.epochs (moments_with p r.entries) t))
          (ap (λ (n : ℕ). nat_lt n q.given) its_steps ∙ lt-ltb (steps_made file limits q) q.given few) wants.0 wants.1
          (ap (λ (o : Option Label). is_none o) none)

      found_none : IsStarved file limits q → MayFindNone AtOnce limits (bare file limits) p r.entries t
      found_none st =
          let stands = try_stands file limits lay p.round p.era m r h q i st.try_ st.tried in
          may_find_none file limits ok lay p m (table_round m r) table s (n file limits lay p.round p.era m r h q i) st.try_.number t st.try_.found
          stands.made stands.stands stands.last refl st.none_free

      dead : HasEnded (left_in q).state.bare.thread → lives later t ≡ false
      dead gone = ended_dead file limits left_there p.round p.era (p.entries ++ r.entries) ended new_then t (left_in q).state.bare.thread its_thread gone

      pub makes_due : MakesDue AtOnce limits (bare file limits) p r.entries it
      makes_due = record {
        no_more = subst (λ (n : ℕ). n ≤ q.given) (sym its_steps) its.given.no_more;
        fewer = λ l alive.
            let few = subst (λ (n : ℕ). n < q.given) its_steps l in
            elim (its.given.fewer few) [
              | inl gone ↦ absurd (let fails = dead gone in cc)
              | inr st ↦ (starved few st, found_none st)
            ];
      }

      -- it tried in vain where the thread is starved, and only there
      pub starved_tried : is_starved limits (bare file limits) p r.entries it ≡ true → is_some q.tried ≡ true
      starved_tried holds =
          let parts = first_two (nat_lt (steps_by t r.entries) q.given) (lives later t) (needs_slot file later t)
          (is_none (label_now limits.epochs (moments_with p r.entries) t)) holds in
          let few : steps_made file limits q < q.given = subst (λ (n : ℕ). n < q.given) its_steps (ltb-true (steps_by t r.entries) q.given parts.0) in
          elim (its.given.fewer few) [
            | inl gone ↦ absurd (let fails = dead gone in let alive = parts.1 in cc)
            | inr st ↦ ap (λ (o : Option Try). is_some o) st.tried
          ]

      tried_then : (o : Option Try) → q.tried ≡ o → is_some o ≡ true → is_starved limits (bare file limits) p r.entries it ≡ true
      tried_then None is holds = absurd (cc)
      tried_then (Some x) is holds = (let only = its.given.tried_only x is in starved only.0 only.1)

      pub tried_starved : is_some q.tried ≡ true → is_starved limits (bare file limits) p r.entries it ≡ true
      tried_starved holds = tried_then q.tried refl holds

      -- what it is given is what is due
      pub given_due : it ≡ due given t
      given_due =
          let is_share = at_member (λ (x : Part). x.given ≡ share limits p.remaining opened) q r.parts is_due.shares i in
          ap (λ (n : ℕ). due n t) (is_share ∙ sym given_is)

    -- ---- all of the round

    -- the part of a due
    record PartOf (d : Due) : Type 0 where
      its_part : Part
      in_list : In its_part r.parts
      is : due its_part.given its_part.thread ≡ d

    part_of : (d : Due) → In d (dues AtOnce limits (bare file limits) p) → PartOf d
    part_of d i =
        let a = from_map (due given) live d i in
        let b = from_map (λ (x : Part). x.thread) r.parts a.it (live_part a.it a.in_list) in
        record {
          its_part = b.it;
          in_list = b.in_list;
          is = given_due b.it b.in_list ∙ (ap (due given) (sym b.is) ∙ sym a.is);
        }

    due_of : (t : ℕ) → In t (threads_of r) → In (due given t) (dues AtOnce limits (bare file limits) p)
    due_of t i = in_map (due given) live t (part_live t i)

    -- an era begins after it where a thread was starved
    pub ends_same : list_any (is_starved limits (bare file limits) p r.entries) (dues AtOnce limits (bare file limits) p) ≡ r.ends
    ends_same = both_ways (list_any (is_starved limits (bare file limits) p r.entries) (dues AtOnce limits (bare file limits) p)) r.ends
        (λ holds.
        let a = any_in (is_starved limits (bare file limits) p r.entries) (dues AtOnce limits (bare file limits) p) holds in
        let b = part_of a.it a.in_list in
        let one = starved_tried b.its_part b.in_list (subst (λ (d : Due). is_starved limits (bare file limits) p r.entries d ≡ true) (sym b.is) a.passes) in
        is_due.ends_is ∙ in_any (λ (x : Part). is_some x.tried) r.parts b.its_part b.in_list one)
        (λ holds.
        let a = any_in (λ (x : Part). is_some x.tried) r.parts (sym is_due.ends_is ∙ holds) in
        let one = tried_starved a.it a.in_list a.passes in
        in_any (is_starved limits (bare file limits) p r.entries) (dues AtOnce limits (bare file limits) p) (due given a.it.thread)
        (due_of a.it.thread (in_map (λ (x : Part). x.thread) r.parts a.it a.in_list))
        (subst (λ (d : Due). is_starved limits (bare file limits) p r.entries d ≡ true) (given_due a.it a.in_list) one))

    abbrev list : List ObjectDeed
    list = listed file limits lay p.round p.era m (table_round m r) table

    -- the entries are of threads that are due
    of_due : (ds : List ObjectDeed) → Each (Is file limits p.era) ds → Each (λ (d : ObjectDeed). In d.call.thread (threads_of r)) ds →
        Each (λ (e : Entry). In e.tid (threads_of r)) (entries_of (hand_deeds file limits ds))
    of_due [] a b = tt
    of_due (d ∷ ds) a b = (
      subst (λ (n : ℕ). In n (threads_of r)) (sym (thread_of_deed file limits p.era (hand_deed file limits d) a.0)) b.0,
      of_due ds a.1 b.1,
    )

    known : (ds : List ObjectDeed) → Each (λ (d : HandDeed). In d.call.thread (threads_of r)) (hand_deeds file limits ds) →
        Each (λ (d : ObjectDeed). In d.call.thread (threads_of r)) ds
    known [] a = tt
    known (d ∷ ds) a = (a.0, known ds a.1)

    their_threads : Each (λ (e : Entry). In e.tid (threads_of r)) r.entries
    their_threads =
        let made = known (made_in (table_round m r)) table.known in
        let all = all_members (λ (d : ObjectDeed). In d.call.thread (threads_of r)) list
        (λ d i. at_member (λ (x : ObjectDeed). In x.call.thread (threads_of r)) d (made_in (table_round m r)) made
        ((same file limits lay p.round p.era m (table_round m r) table d).1 i)) in
        subst (Each (λ (e : Entry). In e.tid (threads_of r))) (entries_are file limits lay p.round p.era m (table_round m r) table)
        (of_due list (listed_deeds file limits lay p.round p.era m (table_round m r) table) all)

    inside : (es : List Entry) → Each (IsIn p.round p.era) es → Each (λ (e : Entry). In e.tid (threads_of r)) es →
        Each (IsInRound p (dues AtOnce limits (bare file limits) p)) es
    inside [] a b = tt
    inside (e ∷ es) a b = (
      record {
        round = a.0.round;
        era = a.0.era;
        due = in_any (λ (d : Due). d.tid == e.tid) (dues AtOnce limits (bare file limits) p) (due given e.tid) (due_of e.tid b.0) (eq-eqb e.tid e.tid refl);
      },
      inside es a.1 b.1,
    )

    pub is_round : IsRound AtOnce limits (bare file limits) p r.entries
    is_round = record {
      entries = all_of_each (IsInRound p (dues AtOnce limits (bare file limits) p)) r.entries (inside r.entries table.inside their_threads);
      made = all_of_each (MakesDue AtOnce limits (bare file limits) p r.entries) (dues AtOnce limits (bare file limits) p)
          (all_members (MakesDue AtOnce limits (bare file limits) p r.entries) (dues AtOnce limits (bare file limits) p)
          (λ d i. let b = part_of d i in subst (MakesDue AtOnce limits (bare file limits) p r.entries) b.is (makes_due b.its_part b.in_list)));
    }

    -- as it begins the run goes on, and it gives some instructions
    pub goes_on : end_in (bare file limits) w ≡ None
    goes_on = end_none w (sym tells.ended_is ∙ is_due.goes_on) (let a = is_due.some_live in let b = tells.live_are in omega (arith, a, b))

    pub gives : list_any (λ (d : Due). nat_lt 0 d.given) (dues AtOnce limits (bare file limits) p) ≡ true
    gives = gives_some given live (let a = is_due.some_given in let b = given_is in omega (arith, a, b))
        (let a = is_due.some_live in let b = tells.live_are in omega (arith, a, b))
