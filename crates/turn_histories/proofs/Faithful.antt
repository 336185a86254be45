-- The entries of all rounds are a faithful history.
use Rattle.std.proofs.Common.{◌≡◌, ◌≢◌, ◌<◌, ◌≤◌, ◌⊎◌, inl, inr, ℕ, zero, suc, ◌+◌, ◌-◌, max, cond, List, [], ◌∷◌, ◌++◌, length, Option, Some, None, refl, sym, ap, ap₂, subst, ◌∙◌, arith, length-append}
use Rattle.std.specs.Prelude.{slice_get, slice_index_or, All, AllPairs, map, Ok}
use Rattle.std.specs.List.{AllZip}
use Rattle.std.proofs.lemmas.List.{append_assoc, append-nil}
use Rattle.std.proofs.lemmas.List.Elements.{All-nil, All-cons}
use Rattle.std.proofs.lemmas.List.Kept.{AllPairs-cons}
use Rattle.elf_image.specs.File.{image_of}
use Rattle.run_record.specs.declared.entry.Entry.{Entry}
use Rattle.run_laws.specs.Moments.{Moment}
use Rattle.run_laws.specs.Faithful.{Bare, state_before, object_of, Precedes, AtOnce, IsStamped, IsMade, EndsItsPart, IsOneTurn, IsFaithful}
use Rattle.bare_machine.specs.World.{World, start}
use Rattle.bare_machine.specs.Step.{desk}
use Rattle.machine_laws.specs.Machine.{bare_of}
use Rattle.turn_orders.specs.Lists.{Each, InOrder, In, SameMembers}
use Rattle.turn_orders.specs.Machine.{State, many}
use Rattle.turn_orders.specs.LineUp.{Before, IsSorted, Stamped, stamped, plain, greatest}
use Rattle.turn_orders.specs.Rounds.{AreRounds, AreStamped, top, made_end}
use Rattle.turn_orders.proofs.Members.{each_append, all_members, at_member}
use Rattle.turn_orders.proofs.Plain.{stamped_draws}
use Rattle.turn_orders.proofs.Rounds.{are_stamped, all_sorted}
use Rattle.joint_turns.specs.Joint.{Value}
use Rattle.watched_turns.specs.Turns.{Local, watched_turn}
use Rattle.watched_turns.specs.Along.{StampedDeed}
use Rattle.watched_turns.specs.Rounds.{WatchedRound, between}
use Rattle.watched_turns.proofs.Run.{first_watched}
use Rattle.turn_histories.specs.Entries.{IsPlaceOf, IsEntryOf}
use Rattle.turn_histories.specs.Rounds.{IsIn, PartsEnd, AreRoundsOf, all_entries, first_stamped}
use Rattle.turn_histories.proofs.Made.{Facts}
use Rattle.turn_histories.proofs.Rounds.{own, its, all_listed, zip_append, rounds_moments, rounds_stand, rounds_facts}
use Rattle.turn_histories.proofs.Found.{EachAt, ZipAt, at_number, each_fact, place_is}
use Rattle.turn_histories.proofs.Stamps.{Placed, each_at_append, zip_at_parts, zip_at_append, greatest_append, part_stamped}

each_map : {X : Type 0} (P Q : X → Type 0) → ((x : X) → P x → Q x) → (xs : List X) → Each P xs → Each Q xs
each_map P Q h [] q = tt
each_map P Q h (x ∷ xs) q = (h x q.0, each_map P Q h xs q.1)

zip_map : (P Q : ℕ → StampedDeed → Entry → Type 0) → ((i : ℕ) (d : StampedDeed) (e : Entry) → P i d e → Q i d e) → (n : ℕ) (ds : List StampedDeed) (es : List Entry) → ZipAt P n ds es → ZipAt Q n ds es
zip_map P Q h n [] es a = tt
zip_map P Q h n (d ∷ ds) [] a = tt
zip_map P Q h n (d ∷ ds) (e ∷ es) a = (h n d e a.0, zip_map P Q h (suc n) ds es a.1)

-- what holds of an entry and its turn, without the turn
forget : (R : StampedDeed → Entry → Type 0) (P Q : ℕ → StampedDeed → Entry → Type 0) (n : ℕ) (ds : List StampedDeed) (es : List Entry) → AllZip R ds es → ZipAt P n ds es → ZipAt Q n ds es → EachAt (λ (i : ℕ) (e : Entry). (d : StampedDeed) × P i d e × Q i d e) n es
forget R P Q n [] [] z a b = tt
forget R P Q n [] (e ∷ es) z a b = absurd z
forget R P Q n (d ∷ ds) [] z a b = tt
forget R P Q n (d ∷ ds) (e ∷ es) z a b = ((d, a.0, b.0), forget R P Q (suc n) ds es z.1 a.1 b.1)

-- what holds of each entry after one holds at each later number
later_get : (P : Entry → Type 0) (pre : List Entry) (e : Entry) (post : List Entry) → Each P post → (j : ℕ) (f : Entry) → length pre < j → slice_get (pre ++ e ∷ post) j ≡ Some f → P f
later_get P [] e post each zero f l q = absurd (omega arith)
later_get P [] e post each (suc j) f l q = get post each j q
  where
    get : (xs : List Entry) → Each P xs → (j : ℕ) → slice_get xs j ≡ Some f → P f
    get [] a j q = absurd (cc)
    get (x ∷ xs) a zero q = (let r : x ≡ f = cc in subst P r a.0)
    get (x ∷ xs) a (suc j) q = get xs a.1 j q
later_get P (x ∷ pre) e post each zero f l q = absurd (omega arith)
later_get P (x ∷ pre) e post each (suc j) f l q = later_get P pre e post each j f (omega arith) q

module _ (file : List ℕ) (harts g slots : ℕ) (ok : image_of file ≡ Ok file) where
  abbrev bare : Bare World
  bare = bare_of file harts

  abbrev Listed : List WatchedRound → List StampedDeed
  Listed rs = all_listed file harts g slots ok [] rs

  abbrev last_of : Stamped Local → ℕ
  last_of l = l.last

  abbrev value_last : Stamped Value → ℕ
  value_last x = x.last

  all_zip : (round era : ℕ) (rs : List WatchedRound) (ess : List (List Entry)) → AreRoundsOf file harts g round era rs ess → AllZip (IsEntryOf file harts g) (Listed rs) (all_entries ess)
  all_zip round era [] [] of = tt
  all_zip round era [] (es ∷ ess) of = absurd of
  all_zip round era (r ∷ rs) [] of = absurd of
  all_zip round era (r ∷ rs) (es ∷ ess) of = zip_append (IsEntryOf file harts g) r.listed es (Listed rs) (all_entries ess) of.0.entries (all_zip (round + 1) (cond r.ends (era + 1) era) rs ess of.1)

  -- ---- stamps

  rounds_stamped : (all done : List Entry) (befores : List StampedDeed) (base round era : ℕ) (m : State (Stamped Local) (Stamped Value)) (rs : List WatchedRound) (ess : List (List Entry)) → all ≡ done ++ all_entries ess → base ≡ greatest last_of befores
      → AllZip (IsEntryOf file harts g) befores done → Each (λ (f : Entry). f.round < round) done → AreRounds (stamped (many (watched_turn file harts g))) (between slots) last_of value_last base m rs → AreRoundsOf file harts g round era rs ess
      → AreStamped (stamped (many (watched_turn file harts g))) (between slots) last_of value_last base rs → ZipAt (Placed file harts g all) (length done) (Listed rs) (all_entries ess)
      → EachAt (IsStamped AtOnce bare all) (length done) (all_entries ess)
  rounds_stamped all done befores base round era m [] [] whole base_is zd rd rounds of stamps placed = tt
  rounds_stamped all done befores base round era m [] (es ∷ ess) whole base_is zd rd rounds of stamps placed = absurd of
  rounds_stamped all done befores base round era m (r ∷ rs) [] whole base_is zd rd rounds of stamps placed = absurd of
  rounds_stamped all done befores base round era m (r ∷ rs) (es ∷ ess) whole base_is zd rd (same, made, later) of stamps placed =
      let turn = stamped (many (watched_turn file harts g)) in
      let rest = all_entries ess in
      let in_round = each_map (IsIn round era) (λ (f : Entry). f.round ≡ round) (λ f i. i.round) es of.0.inside in
      let parts = zip_at_parts (IsEntryOf file harts g) (Placed file harts g all) (length done) r.listed es (Listed rs) rest of.0.entries placed in
      let nil : done ++ [] ≡ done = append-nil done in
      let here = part_stamped file harts g all done [] es rest befores [] r.listed r.listed base round
      (whole ∙ ap (λ (x : List Entry). x ++ (es ++ rest)) (sym nil)) base_is refl zd rd tt tt tt of.0.entries in_round
      (subst (λ (x : List Entry). ZipAt (Placed file harts g all) (length x) r.listed es) (sym nil) parts.0) stamps.0 in
      let high : top turn (between slots) last_of value_last r ≡ greatest last_of (befores ++ r.listed) = omega (arith, same, base_is, greatest_append befores r.listed) in
      let long : length (done ++ es) ≡ length done + length es = length-append done es in
      let lower : (f : Entry) → f.round < round → f.round < round + 1 = λ f l. omega (arith, l) in
      let equal : (f : Entry) → f.round ≡ round → f.round < round + 1 = λ f l. omega (arith, l) in
      each_at_append (IsStamped AtOnce bare all) (length done) es rest (subst (λ (x : List Entry). EachAt (IsStamped AtOnce bare all) (length x) es) nil here)
      (subst (λ (i : ℕ). EachAt (IsStamped AtOnce bare all) i rest) long
      (rounds_stamped all (done ++ es) (befores ++ r.listed) (top turn (between slots) last_of value_last r) (round + 1) (cond r.ends (era + 1) era) (made_end turn (between slots) last_of value_last m r) rs ess
      (whole ∙ sym (append_assoc done es rest)) high (zip_append (IsEntryOf file harts g) befores done r.listed es zd of.0.entries)
      (each_append (λ (f : Entry). f.round < round + 1) done es (each_map (λ (f : Entry). f.round < round) (λ (f : Entry). f.round < round + 1) lower done rd) (each_map (λ (f : Entry). f.round ≡ round) (λ (f : Entry). f.round < round + 1) equal es in_round))
      later of.1 stamps.1 (subst (λ (i : ℕ). ZipAt (Placed file harts g all) i (Listed rs) rest) (sym long) parts.1)))

  -- ---- the ends of parts

  abbrev Ends : List Entry → ℕ → StampedDeed → Entry → Type 0
  Ends all i d e = 0 < e.steps → desk < d.call.place → EndsItsPart all i e

  rounds_rise : (round era : ℕ) (rs : List WatchedRound) (ess : List (List Entry)) → AreRoundsOf file harts g round era rs ess → Each (λ (f : Entry). round ≤ f.round) (all_entries ess)
  rounds_rise round era [] [] of = tt
  rounds_rise round era [] (es ∷ ess) of = absurd of
  rounds_rise round era (r ∷ rs) [] of = absurd of
  rounds_rise round era (r ∷ rs) (es ∷ ess) of =
      let equal : (f : Entry) → IsIn round era f → round ≤ f.round = λ f i. (let q = i.round in omega (arith, q)) in
      let higher : (f : Entry) → round + 1 ≤ f.round → round ≤ f.round = λ f l. omega (arith, l) in
      each_append (λ (f : Entry). round ≤ f.round) es (all_entries ess) (each_map (IsIn round era) (λ (f : Entry). round ≤ f.round) equal es of.0.inside)
      (each_map (λ (f : Entry). round + 1 ≤ f.round) (λ (f : Entry). round ≤ f.round) higher (all_entries ess) (rounds_rise (round + 1) (cond r.ends (era + 1) era) rs ess of.1))

  part_ends : (all pre : List Entry) (ds : List StampedDeed) (es rest : List Entry) (n era : ℕ) → all ≡ pre ++ (es ++ rest) → PartsEnd ds es → Each (IsIn n era) es → Each (λ (f : Entry). n + 1 ≤ f.round) rest → ZipAt (Ends all) (length pre) ds es
  part_ends all pre [] es rest n era whole parts inside higher = tt
  part_ends all pre (d ∷ ds) [] rest n era whole parts inside higher = tt
  part_ends all pre (d ∷ ds) (e ∷ es) rest n era whole parts inside higher =
      let count : length (pre ++ e ∷ []) ≡ suc (length pre) = omega (arith, length-append pre (e ∷ [])) in
      let absent : (f : Entry) → n + 1 ≤ f.round → f.tid ≡ e.tid → f.round ≡ e.round → f.steps ≡ 0 = λ f l t r. (let q = inside.0.round in absurd (omega (arith, l, r, q))) in
      let idle : (f : Entry) → (f.tid ≡ e.tid → f.steps ≡ 0) → f.tid ≡ e.tid → f.round ≡ e.round → f.steps ≡ 0 = λ f h t r. h t in (
        (λ some private i f l q t r.
            later_get (λ (f : Entry). f.tid ≡ e.tid → f.round ≡ e.round → f.steps ≡ 0) pre e (es ++ rest)
            (each_append (λ (f : Entry). f.tid ≡ e.tid → f.round ≡ e.round → f.steps ≡ 0) es rest
            (each_map (λ (f : Entry). f.tid ≡ e.tid → f.steps ≡ 0) (λ (f : Entry). f.tid ≡ e.tid → f.round ≡ e.round → f.steps ≡ 0) idle es (parts.0 some private))
            (each_map (λ (f : Entry). n + 1 ≤ f.round) (λ (f : Entry). f.tid ≡ e.tid → f.round ≡ e.round → f.steps ≡ 0) absent rest higher))
            i f l (ap (λ (x : List Entry). slice_get x i) (sym whole) ∙ q) t r),
        subst (λ (i : ℕ). ZipAt (Ends all) i ds es) count
            (part_ends all (pre ++ e ∷ []) ds es rest n era (whole ∙ sym (append_assoc pre (e ∷ []) (es ++ rest))) parts.1 inside.1 higher),
      )

  rounds_end : (all done : List Entry) (round era : ℕ) (rs : List WatchedRound) (ess : List (List Entry)) → all ≡ done ++ all_entries ess → AreRoundsOf file harts g round era rs ess → ZipAt (Ends all) (length done) (Listed rs) (all_entries ess)
  rounds_end all done round era [] [] whole of = tt
  rounds_end all done round era [] (es ∷ ess) whole of = absurd of
  rounds_end all done round era (r ∷ rs) [] whole of = absurd of
  rounds_end all done round era (r ∷ rs) (es ∷ ess) whole of =
      let long : length (done ++ es) ≡ length done + length es = length-append done es in
      zip_at_append (IsEntryOf file harts g) (Ends all) (length done) r.listed es (Listed rs) (all_entries ess) of.0.entries
      (part_ends all done r.listed es (all_entries ess) round era whole of.0.parts of.0.inside (rounds_rise (round + 1) (cond r.ends (era + 1) era) rs ess of.1))
      (subst (λ (i : ℕ). ZipAt (Ends all) i (Listed rs) (all_entries ess)) long (rounds_end all (done ++ es) (round + 1) (cond r.ends (era + 1) era) rs ess (whole ∙ sym (append_assoc done es (all_entries ess))) of.1))

  -- ---- their order

  precedes_each : (d : StampedDeed) (e : Entry) (ds : List StampedDeed) (es : List Entry) → IsEntryOf file harts g d e → AllZip (IsEntryOf file harts g) ds es → Each (Before last_of d) ds → All (Precedes e) es
  precedes_each d e [] [] of z b = All-nil (Precedes e)
  precedes_each d e [] (f ∷ es) of z b = absurd z
  precedes_each d e (x ∷ ds) [] of z b = absurd z
  precedes_each d e (x ∷ ds) (f ∷ es) of z b = All-cons (Precedes e) f es (by b.0) (precedes_each d e ds es of z.1 b.1)
    where
      by : Before last_of d x → Precedes e f
      by (inl l) = inl (let p = of.stamp in let q = z.0.stamp in omega (arith, l, p, q))
      by (inr l) = inr (sym of.stamp ∙ (l.0 ∙ z.0.stamp), (let p = of.thread in let q = z.0.thread in let r = l.1 in omega (arith, p, q, r)))

  ordered : (ds : List StampedDeed) (es : List Entry) → AllZip (IsEntryOf file harts g) ds es → IsSorted last_of ds → AllPairs Precedes es
  ordered [] [] z s = λ i j d l m. absurd (omega arith)
  ordered [] (e ∷ es) z s = absurd z
  ordered (d ∷ ds) [] z s = absurd z
  ordered (d ∷ ds) (e ∷ es) z s = AllPairs-cons Precedes e es (precedes_each d e ds es z.0 z.1 s.0) (ordered ds es z.1 s.1)

  -- ---- all of it

  module _ (rs : List WatchedRound) (ess : List (List Entry)) (rounds : AreRounds (stamped (many (watched_turn file harts g))) (between slots) last_of value_last 0 (first_stamped file slots) rs) (of : AreRoundsOf file harts g 0 0 rs ess) where
    abbrev all : List Entry
    all = all_entries ess

    abbrev h : List Moment
    h = rounds_moments rs ess

    facts : ZipAt (λ (i : ℕ) (d : StampedDeed) (e : Entry). Facts file harts (state_before bare all i) e e.tid d.call.place) 0 (Listed rs) all
    facts = each_fact file harts (start file harts) (Listed rs) [] all refl
        (rounds_facts file harts g slots ok h (start file harts) 0 0 0 0 (first_stamped file slots) rs ess (first_watched file harts g slots h) rounds of (rounds_stand file harts g [] 0 0 rs ess of))

    zip : AllZip (IsEntryOf file harts g) (Listed rs) all
    zip = all_zip 0 0 rs ess of

    found : EachAt (λ (i : ℕ) (e : Entry). (d : StampedDeed) × Facts file harts (state_before bare all i) e e.tid d.call.place × Ends all i d e) 0 all
    found = forget (IsEntryOf file harts g) (λ (i : ℕ) (d : StampedDeed) (e : Entry). Facts file harts (state_before bare all i) e e.tid d.call.place) (Ends all) 0 (Listed rs) all zip facts (rounds_end all [] 0 0 rs ess refl of)

    at : (i : ℕ) (e : Entry) → slice_get all i ≡ Some e → (d : StampedDeed) × Facts file harts (state_before bare all i) e e.tid d.call.place × Ends all i d e
    at i e q = (let z : 0 + i ≡ i = omega arith in subst (λ (j : ℕ). (d : StampedDeed) × Facts file harts (state_before bare all j) e e.tid d.call.place × Ends all j d e) z
        (at_number (λ (i : ℕ) (e : Entry). (d : StampedDeed) × Facts file harts (state_before bare all i) e e.tid d.call.place × Ends all i d e) 0 all found i e q))

    uses_or_ends : (i : ℕ) (e : Entry) (k : ℕ) (o : Option ℕ) → IsPlaceOf k e.tid o → (desk < k → EndsItsPart all i e) → (o ≢ None) ⊎ EndsItsPart all i e
    uses_or_ends i e k None p ends = inr (ends (omega (arith, p)))
    uses_or_ends i e k (Some object) p ends = inl (λ q. let r : Some object ≡ None = q in absurd (cc))

    placed : ZipAt (Placed file harts g all) 0 (Listed rs) all
    placed = zip_map (λ (i : ℕ) (d : StampedDeed) (e : Entry). Facts file harts (state_before bare all i) e e.tid d.call.place) (Placed file harts g all) (λ i d e f. place_is file harts (state_before bare all i) e d.call.place f) 0 (Listed rs) all facts

    stamps : EachAt (IsStamped AtOnce bare all) 0 all
    stamps = rounds_stamped all [] [] 0 0 0 (first_stamped file slots) rs ess refl refl tt tt rounds of
        (are_stamped (stamped (many (watched_turn file harts g))) (between slots) last_of value_last (stamped_draws (many (watched_turn file harts g))) 0 (first_stamped file slots) rs rounds) placed

    pub faithful : IsFaithful AtOnce bare all
    faithful = record {
      ordered = ordered (Listed rs) all zip (all_sorted (stamped (many (watched_turn file harts g))) (between slots) last_of value_last (stamped_draws (many (watched_turn file harts g))) 0 (first_stamped file slots) rs rounds).0;
      made = λ i e q. (let x = at i e q in record { alive = x.1.alive; events_are = x.1.events_are });
      turns = λ i e q. (let x = at i e q in record {
        apart = x.1.apart;
        last = λ l. uses_or_ends i e x.0.call.place (object_of bare (state_before bare all i) e) (place_is file harts (state_before bare all i) e x.0.call.place x.1) (x.2 l);
        noted = x.1.noted;
        unnoted = x.1.unnoted;
      });
      stamped = λ i e q. (let z : 0 + i ≡ i = omega arith in subst (λ (j : ℕ). IsStamped AtOnce bare all j e) z (at_number (IsStamped AtOnce bare all) 0 all stamps i e q));
    }
