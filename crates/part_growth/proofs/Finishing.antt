-- A part ends: what was gathered last gets an entry of its own, and all is a part as it should be.
use Rattle.std.proofs.Common.{◌≡◌, ◌≢◌, inl, inr, max, ℕ, suc, ◌+◌, ◌<◌, ◌≤◌, true, Option, Some, None, List, [], ◌∷◌, ◌++◌, length, append_assoc, append-nil, refl, ap, sym, subst, ◌∙◌, arith}
use Rattle.std.specs.Prelude.{map, sum_by, is_some}
use Rattle.std.specs.List.{flat_map}
use Rattle.std.proofs.lemmas.List.Sums.{sum_by_push}
use Rattle.run_record.specs.declared.limits.Limits.{Limits}
use Rattle.run_record.specs.declared.event.Event.{Event}
use Rattle.run_record.specs.declared.entry.Check.{Check}
use Rattle.run_record.specs.declared.entry.Entry.{Entry}
use Rattle.bare_machine.specs.Step.{desk}
use Rattle.bare_machine.specs.Preview.{thread_needs}
use Rattle.turn_orders.specs.Lists.{Each}
use Rattle.turn_orders.proofs.Members.{each_append, each_parts}
use Rattle.turn_orders.specs.LineUp.{Stamped, with_stamp}
use Rattle.place_turns.specs.Places.{Local}
use Rattle.machine_laws.specs.Events.{is_local}
use Rattle.watched_turns.specs.Turns.{steps, begins}
use Rattle.turn_histories.specs.Entries.{IsPlaceOf}
use Rattle.shared_table.specs.declared.object.Object.{Object}
use Rattle.shared_table.specs.declared.object.Object.TheVariants.{Stripe, Desk}
use Rattle.shared_table.specs.Past.{Log}
use Rattle.placed_detector.specs.Standing.{Hand, Held}
use Rattle.placed_detector.specs.Instructions.{MakesInstruction}
use Rattle.deed_histories.specs.Deeds.{Made, all_checks, AreMade, TellsMade, Makes}
use Rattle.table_deeds.specs.Objects.{ObjectDeed, held_in, last_in}
use Rattle.hart_parts.specs.Parts.{Rest, Try, Part, at_last_object, left_in, rest_entries, part_entries, IsPrivate, restamped, rest_deed, rest_deeds, deeds_in, IsRest}
use Rattle.hart_parts.specs.Parts.{all_touches, IsStretch, rest_touches, try_items, IsLogOf, after_steps, IsNeedy, SpendsIn, AreNoted, BeginsUnspent, steps_made}
use Rattle.hart_parts.specs.Parts.{HasEnded, IsStarved, MakesGiven, IsPart}
use Rattle.part_races.specs.Rounds.{Tagged, entries_tagged, TellsRest, TellsRaces}
use Rattle.part_races.specs.Telling.{TellsPart}
use Rattle.part_growth.specs.Growth.{Gathered, AreLocal, Owing, nothing, needy, leave_of, Meets, Owes, ArePaid, NeedsWithin, IsOwedWith}
use Rattle.part_growth.specs.Growth.{IsEntryOf, SoFar, made_so_far, Starves, Stops, IsLastOf, with_last, stamp_with}
use Rattle.part_growth.proofs.Gathering.{none_raised}
use Rattle.part_growth.proofs.Awaiting.{alone}
use Rattle.part_growth.proofs.Deeds.{paid_push, tagged_push}
use Rattle.part_growth.proofs.Needs.{none_within, alike}
use Rattle.part_growth.proofs.Growing.{gathered_local}
use Rattle.part_growth.proofs.Notes.{IsPlain, plain_made, all_plain, noted, unspent_first}

-- instructions without an object are those of one entry at a place of their thread
made_alone : (file : List ℕ) (limits : Limits) (era t : ℕ) (x : Made) (xs : List Made) (found left : Hand) (held : Held) →
    AreLocal file limits.harts era t (x ∷ xs) found left → AreMade file limits.harts era t (desk + 1 + t) (x ∷ xs) found left held held
made_alone file limits era t x [] found left held a = (
  subst (λ (h : Hand). MakesInstruction file limits.harts era t (desk + 1 + t) x.loads x.events x.checks found h held held) a.2
      (a.1.instruction (desk + 1 + t) held),
  a.1.alive,
  subst (λ (o : Option ℕ). IsPlaceOf (desk + 1 + t) t o) (sym a.1.without_object) refl,
)
made_alone file limits era t x (y ∷ ys) found left held a =
    (a.0, held, a.1.instruction (desk + 1 + t) held, a.1.alive, a.1.without_object, made_alone file limits era t y ys a.0 left held a.2)

-- the same object with another stamp keeps the same of its place
restamped_keeps : (file : List ℕ) (limits : Limits) (k : ℕ) (x : Object) (n : ℕ) → IsPrivate limits x →
    (held_in file limits k x).state ≡ (held_in file limits k (restamped x n)).state
restamped_keeps file limits k (Stripe s) n p = refl
restamped_keeps file limits k (Desk d) n p = absurd p

restamped_last : (limits : Limits) (x : Object) (n : ℕ) → IsPrivate limits x → last_in (restamped x n) ≡ n
restamped_last limits (Stripe s) n p = refl
restamped_last limits (Desk d) n p = absurd p

module _ (file : List ℕ) (limits : Limits) (era t : ℕ) (before : Stamped Hand) (log : Log) (told : List Tagged) (found now : Hand) (last : ℕ) (g : Gathered)
    (s : SoFar file limits era t before log told found now last g nothing) where
  abbrev made : List Made
  made = s.gathered.made

  -- what was gathered last
  abbrev rest_of : Option Entry → Option Rest
  rest_of None = None
  rest_of (Some e) = Some (record { left = now; entry = e; acts = begins ∷ map (λ (x : Made). steps x.loads) made })

  -- ---- where nothing was

  module _ (none : g.steps ≡ 0) where
    none_made : made ≡ []
    none_made = go made s.gathered.steps
      where
        go : (xs : List Made) → g.steps ≡ length xs → xs ≡ []
        go [] q = refl
        go (x ∷ xs) q = let r : g.steps ≡ suc (length xs) = q in absurd (omega (arith, none, r))

    same_now : found ≡ now
    same_now = subst (λ (xs : List Made). AreLocal file limits.harts era t xs found now) none_made s.gathered.local

    no_checks : g.checks ≡ []
    no_checks = s.gathered.checks ∙ ap (λ (xs : List Made). flat_map (λ (cs : List Check). cs) (all_checks xs)) none_made

    nothing_owed : (owing : Owing) → IsOwedWith file limits.harts t found g owing nothing → owing ≡ nothing
    nothing_owed nothing w = refl
    nothing_owed needy (inl q) = absurd (let r : nothing ≡ needy = q in cc)
    nothing_owed needy (inr q) = absurd (none_within file limits.harts t found g none q.1)
    nothing_owed (leave_of l) w = absurd (let r : nothing ≡ leave_of l = w.0 in cc)

  -- ---- where something was

  module _ (e : Entry) (some : g.steps ≢ 0) (is : IsEntryOf t g (last + 1) e) where
    abbrev rest : Rest
    rest = record { left = now; entry = e; acts = begins ∷ map (λ (x : Made). steps x.loads) made }

    abbrev last_deed : Object → ObjectDeed
    last_deed x = rest_deed t (with_stamp found last) x rest

    tells : TellsMade t made e
    tells = record {
      thread = is.thread;
      steps = is.steps ∙ s.gathered.steps;
      note = is.note;
      events = is.events ∙ s.gathered.events;
      checks = is.checks ∙ s.gathered.checks;
      numbered = s.gathered.numbered;
    }

    are_made : (xs : List Made) (held : Held) → g.steps ≡ length xs → AreLocal file limits.harts era t xs found now →
        AreMade file limits.harts era t (desk + 1 + t) xs found now held held
    are_made [] held q a = absurd (some q)
    are_made (x ∷ xs) held q a = made_alone file limits era t x xs found now held a

    rest_is : IsRest file limits era t (with_stamp found last) (Some rest)
    rest_is x private early = record {
      deed = Makes made (subst (λ (h : Held). AreMade file limits.harts era t (desk + 1 + t) made found now (held_in file limits (desk + 1 + t) x).state h)
          (restamped_keeps file limits (desk + 1 + t) x (last + 1) private)
          (are_made made (held_in file limits (desk + 1 + t) x).state s.gathered.steps s.gathered.local)) tells;
      drawn = let q : last_in x ≤ last = early in let r : last + 1 ≡ max last (last_in x) + 1 = omega (arith, q) in r;
      left_there = restamped_last limits x (last + 1) private;
      entry_stamp = is.stamp_is;
    }

    -- what is told of it: the gathered instructions' accesses await
    abbrev rest_tagged : Tagged
    rest_tagged = record { entry = e; awaited = g.awaits }

    rest_told : TellsRest file limits era t (with_stamp found last) (Some rest) (rest_tagged ∷ [])
    rest_told = (
      rest_tagged,
      refl,
      λ x private early. record {
        entry = refl;
        awaits = alone file limits era t (desk + 1 + t) e (held_in file limits (desk + 1 + t) x).state
            (held_in file limits (desk + 1 + t) (restamped x (last + 1))).state made found now g.awaits s.gathered.awaits
            (restamped_keeps file limits (desk + 1 + t) x (last + 1) private) tells;
      },
    )

    rest_events : Each (λ (f : Event). is_local f ≡ true) e.events
    rest_events = subst (λ (es : List Event). Each (λ (f : Event). is_local f ≡ true) es) (sym is.events)
        (gathered_local file limits era t before found now g s.gathered)

    -- its instructions need what the gathered ones do
    needs_within : (x : Object) → IsNeedy file limits (last_deed x) → NeedsWithin file limits.harts t found g
    needs_within x n = record {
      step = n.step;
      within = let p = is.steps in let q = n.within in omega (arith, p, q);
      needs = λ v. subst (λ (l : Local). thread_needs file t l.thread ≡ true)
          (alike file limits era t found now g s.gathered (held_in file limits (desk + 1 + t) x).state.bare v n.step
          (let p = is.steps in let q = n.within in omega (arith, p, q))) n.needs;
    }

    rest_meets : (x : Object) (owing : Owing) → IsOwedWith file limits.harts t found g owing nothing → Meets file limits owing (last_deed x)
    rest_meets x nothing w = λ l q. absurd (let r = is.note in cc)
    rest_meets x needy (inl q) = absurd (let r : nothing ≡ needy = q in cc)
    rest_meets x needy (inr q) = record {
      step = q.1.step;
      within = let p = is.steps in let r = q.1.within in omega (arith, p, r);
      needs = q.1.needs (held_in file limits (desk + 1 + t) x).state.bare;
    }
    rest_meets x (leave_of l) w = absurd (let r : nothing ≡ leave_of l = w.0 in cc)

    -- none of its events raises an epoch
    rest_owes : (x : Object) → Owes limits (last_deed x) nothing
    rest_owes x = (
      λ l q. absurd (let r = is.note in cc),
      λ l z. none_raised z.event (each_parts (λ (f : Event). is_local f ≡ true) z.before (z.event ∷ [])
          (subst (λ (es : List Event). Each (λ (f : Event). is_local f ≡ true) es) z.last rest_events)).1.0 z.raising,
    )

    rest_paid : (x : Object) → ArePaid file limits nothing (s.deeds ++ last_deed x ∷ []) nothing
    rest_paid x = paid_push file limits nothing s.deeds s.owing (last_deed x) nothing s.paid (rest_meets x s.owing s.owed_with) (rest_owes x)
        (λ n. s.labelled (needs_within x n))

  -- ---- both

  module _ (given : ℕ) (new : Log) (tried : Option Try) (log_is : new ≡ log ++ try_items tried) (begun : now.given ≡ None)
      (stops : Stops file limits t given (made_so_far told g) now tried) where
    abbrev part : Option Entry → Part
    part o = record { thread = t; given = given; before = before; deeds = s.deeds; rest = rest_of o; tried = tried; log = new }

    left_is : (o : Option Entry) → IsLastOf t g last o → left_in (part o) ≡ with_stamp now (stamp_with last o)
    left_is None none = s.found_is ∙ ap (λ (h : Hand). with_stamp h last) (same_now none)
    left_is (Some e) is = ap (λ (n : ℕ). with_stamp now (n + 1)) (ap (λ (h : Stamped Hand). h.last) s.found_is)

    -- the entries, and what is told of them
    entries_there : (o : Option Entry) → part_entries file limits (part o) ≡ entries_tagged told ++ rest_entries (rest_of o)
    entries_there o = ap (λ (es : List Entry). es ++ rest_entries (rest_of o)) (sym s.entries_are)

    entries_are : (o : Option Entry) → part_entries file limits (part o) ≡ entries_tagged (with_last told g.awaits o)
    entries_are None = entries_there None ∙ append-nil (entries_tagged told)
    entries_are (Some e) = entries_there (Some e) ∙ sym (tagged_push told (record { entry = e; awaited = g.awaits }))

    abbrev behind : Option Entry → List Tagged
    behind None = []
    behind (Some e) = record { entry = e; awaited = g.awaits } ∷ []

    all_told : (o : Option Entry) → with_last told g.awaits o ≡ told ++ behind o
    all_told None = sym (append-nil told)
    all_told (Some e) = refl

    tells_rest : (o : Option Entry) → IsLastOf t g last o → TellsRest file limits era t (at_last_object (part o)) (rest_of o) (behind o)
    tells_rest None none = refl
    tells_rest (Some e) is = subst (λ (h : Stamped Hand). TellsRest file limits era t h (rest_of (Some e)) (behind (Some e))) (sym s.found_is)
        (rest_told e is.0 is.1)

    tells_races : (o : Option Entry) → IsLastOf t g last o → TellsRaces file limits era (part o) (with_last told g.awaits o)
    tells_races o is = record { at_objects = told; behind = behind o; all = all_told o; deeds = s.awaited; rest = tells_rest o is }

    steps_are : (o : Option Entry) → IsLastOf t g last o → steps_made file limits (part o) ≡ made_so_far told g
    steps_are None none =
        let es = entries_tagged told in
        ap (λ (es : List Entry). sum_by (λ (e : Entry). e.steps) es) (entries_there None ∙ append-nil es)
        ∙ (let r : sum_by (λ (e : Entry). e.steps) es ≡ sum_by (λ (e : Entry). e.steps) es + g.steps = omega (arith, none) in r)
    steps_are (Some e) is =
        let es = entries_tagged told in
        ap (λ (es : List Entry). sum_by (λ (e : Entry). e.steps) es) (entries_there (Some e))
        ∙ (sum_by_push (λ (f : Entry). f.steps) es e ∙ ap (λ (n : ℕ). sum_by (λ (f : Entry). f.steps) es + n) is.1.steps)

    is_rest : (o : Option Entry) → IsLastOf t g last o → IsRest file limits era t (at_last_object (part o)) (rest_of o)
    is_rest None none = tt
    is_rest (Some e) is = subst (λ (h : Stamped Hand). IsRest file limits era t h (rest_of (Some e))) (sym s.found_is) (rest_is e is.0 is.1)

    -- the log
    whole : (o : Option Entry) → IsLastOf t g last o →
        new ≡ flat_map (λ (items : Log). items) s.stretches ++ (rest_touches (rest_of o) ++ try_items tried)
    whole o is =
        let items = flat_map (λ (xs : Log). xs) s.stretches in
        log_is ∙ (ap (λ (l : Log). l ++ try_items tried) s.log_is
        ∙ (append_assoc items (all_touches g.checks) (try_items tried) ∙ ap (λ (l : Log). items ++ (l ++ try_items tried)) (touches o is)))
      where
        touches : (p : Option Entry) → IsLastOf t g last p → all_touches g.checks ≡ rest_touches (rest_of p)
        touches None none = ap all_touches (no_checks none)
        touches (Some e) l = ap all_touches (sym l.1.checks)

    local_rest : (o : Option Entry) → IsLastOf t g last o → (r : Rest) → rest_of o ≡ Some r → Each (λ (f : Event). is_local f ≡ true) r.entry.events
    local_rest None none r q = absurd (let z : None ≡ Some r = q in cc)
    local_rest (Some e) is r q = subst (λ (x : Rest). Each (λ (f : Event). is_local f ≡ true) x.entry.events) (same_rest _ r q) (rest_events e is.0 is.1)
      where
        same_rest : (a b : Rest) → Some a ≡ Some b → a ≡ b
        same_rest a b z = cc

    is_log : (o : Option Entry) → IsLastOf t g last o → IsLogOf (part o)
    is_log o is = record { stretches = s.stretches; each = s.along; whole = whole o is; rest_local = local_rest o is }

    -- the notes
    paid_all : (o : Option Entry) → IsLastOf t g last o → (x : Object) → ArePaid file limits nothing (deeds_in x (part o)) nothing
    paid_all None none x = subst (λ (ds : List ObjectDeed). ArePaid file limits nothing ds nothing) (sym (append-nil s.deeds))
        (subst (ArePaid file limits nothing s.deeds) (nothing_owed none s.owing s.owed_with) s.paid)
    paid_all (Some e) is x = subst (λ (h : Stamped Hand). ArePaid file limits nothing (s.deeds ++ rest_deeds t h x (rest_of (Some e))) nothing)
        (sym s.found_is) (rest_paid e is.0 is.1 x)

    plain_all : (o : Option Entry) → IsLastOf t g last o → (x : Object) → Each (λ (d : ObjectDeed). IsPlain d.told.entry) (deeds_in x (part o))
    plain_all o is x = each_append (λ (d : ObjectDeed). IsPlain d.told.entry) s.deeds (rest_deeds t (at_last_object (part o)) x (rest_of o))
        (all_plain file limits era s.deeds s.each) (plain_rest o is (at_last_object (part o)))
      where
        plain_rest : (p : Option Entry) → IsLastOf t g last p → (h : Stamped Hand) →
            Each (λ (d : ObjectDeed). IsPlain d.told.entry) (rest_deeds t h x (rest_of p))
        plain_rest None l h = tt
        plain_rest (Some e) l h = (plain_made e l.1.note, tt)

    -- how many instructions
    starved : (p : Part) → p.thread ≡ t → p.tried ≡ tried → (left_in p).state ≡ now → Starves file limits t now tried → IsStarved file limits p
    starved p thread tries left z = record {
      unlabelled = ap (λ (h : Hand). h.watched.label) left ∙ z.unlabelled;
      wants = subst (λ (n : ℕ). Rattle.hart_parts.specs.Parts.WantsSlot file n (left_in p).state.bare.thread) (sym thread)
          (subst (λ (h : Hand). Rattle.hart_parts.specs.Parts.WantsSlot file t h.bare.thread) (sym left) z.wants);
      try_ = z.try_;
      tried = tries ∙ z.tried_is;
      none_free = z.none_free;
    }

    made_given : (o : Option Entry) → IsLastOf t g last o → MakesGiven file limits (part o)
    made_given o is = record {
      no_more = subst (λ (n : ℕ). n ≤ given) (sym (steps_are o is)) stops.no_more;
      fewer = λ l. elim (stops.fewer (subst (λ (n : ℕ). n < given) (steps_are o is) l)) [
        | inl ended ↦ inl (subst (λ (h : Hand). HasEnded h.bare.thread) (sym left) ended)
        | inr z ↦ inr (starved (part o) refl refl left z)
      ];
      tried_only = λ x q.
          let r = stops.tried_only x q in
          (subst (λ (n : ℕ). n < given) (sym (steps_are o is)) r.0, starved (part o) refl refl left r.1);
    }
      where
        left : (left_in (part o)).state ≡ now
        left = ap (λ (h : Stamped Hand). h.state) (left_is o is)

    is_part : (o : Option Entry) → IsLastOf t g last o → IsPart file limits era (part o)
    is_part o is = record {
      mine = s.mine;
      at_objects = s.at_objects;
      deeds = s.each;
      follow = s.follow;
      rest_is = is_rest o is;
      log_is = is_log o is;
      unspent = λ x. unspent_first file limits (deeds_in x (part o)) nothing (paid_all o is x);
      notes = λ x private. noted file limits nothing (deeds_in x (part o)) (plain_all o is x) (paid_all o is x);
      given = made_given o is;
      begun = ap (λ (h : Stamped Hand). h.state.given) (left_is o is) ∙ begun;
    }

    pub finished : (o : Option Entry) → IsLastOf t g last o →
        TellsPart file limits era t given before new (with_last told g.awaits o) (is_some tried) (with_stamp now (stamp_with last o))
    finished o is = record {
      part = part o;
      is_part = is_part o is;
      thread = refl;
      before_is = refl;
      given_is = refl;
      log_is = refl;
      left_is = left_is o is;
      entries_are = entries_are o;
      tried_is = refl;
      races = tells_races o is;
    }

-- A part ends, where nothing is owed any more: with an entry of what was gathered last, if it is anything, and with the turn of the desk that
-- found no slot, if it made one.
pub finish : (file : List ℕ) (limits : Limits) (era t : ℕ) (before : Stamped Hand) (log new : Log) (told : List Tagged) (found now : Hand) (last : ℕ)
    (g : Gathered) (given : ℕ) (tried : Option Try) (o : Option Entry) → SoFar file limits era t before log told found now last g nothing →
    IsLastOf t g last o → new ≡ log ++ try_items tried → now.given ≡ None → Stops file limits t given (made_so_far told g) now tried →
    TellsPart file limits era t given before new (with_last told g.awaits o) (is_some tried) (with_stamp now (stamp_with last o))
finish file limits era t before log new told found now last g given tried o s is log_is begun stops =
    finished file limits era t before log told found now last g s given new tried log_is begun stops o is
